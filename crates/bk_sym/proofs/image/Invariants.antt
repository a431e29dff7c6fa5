use Rattle.std.proofs.Common.{map, take, ◌≡◌}
use Rattle.bk_sym.specs.Image.{image_square}
use Rattle.bk_sym.proofs.image.Given as goal

abbrev pub invariant-loop-q : goal.invariant-loop-q
invariant-loop-q l = l.squares.items ≡ map (image_square l.which l.width l.height) (take l.q-index l.q-items)
