use Rattle.std.proofs.Common.{length, map, take, ◌≡◌}
use Rattle.bk_sym.specs.Image.{image_square}
use Rattle.bk_found.proofs.turning.turned_squares.Given as goal

abbrev pub invariant-squares : goal.invariant-squares
invariant-squares l = record {
  read : l.squares.items ≡ map (image_square l.which l.width l.height) (take l.q-index l.q-items);
  many : length l.squares.items ≡ l.q-index;
}
