use Rattle.std.proofs.Common.{◌+◌, ◌<◌, ◌≡◌}
use Rattle.bk_tiling.specs.Tiling.{Rectangle, square_of}
use Rattle.bk_simple.proofs.Seams.{IsRunTo}
use Rattle.bk_simple.specs.Simple.{IsPart, top_left}
use Rattle.bk_simple.proofs.has_none_past.Given as goal

abbrev pub invariant-loop-last : goal.invariant-loop-last
invariant-loop-last l = record {
  run : IsRunTo l.tiling.squares l.i (record { x = 0; y = 0; s = 0 }) l.last l.end;
  past : (r : Rectangle) → IsPart l.tiling r → top_left l.tiling r ≡ l.i → (square_of l.tiling l.i).s < r.width → l.end < r.x + r.width;
}
