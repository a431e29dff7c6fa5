-- In a tiling a rectangle determines the selection that tiles it.
use Rattle.std.specs.Prelude.{Bool, filter, get_or, length, true, ℕ, ◌+◌, ◌<◌, ◌≡◌}
use Rattle.std.proofs.Common.{arith}
use Rattle.std.proofs.lemmas.Bool.{and_from, le-leb, lt-ltb, true_from_ne_false}
use Rattle.std.proofs.lemmas.List.Elements.{All-from_recursion}
use Rattle.bk_laws.proofs.Counts.{count_by-filter_lt}
use Rattle.bk_tiling.specs.Tiling.{IsTiling, IsWithin, Rectangle, Tiles, Tiling, covers, whole}
use Rattle.bk_tiling.specs.declared.Square.{Square}

-- a square covers the cell at its top left corner
covers_corner : (q : Square) → 0 < q.s → covers q.x q.y q ≡ true
covers_corner q some = and_from _ _ (and_from _ _ (le-leb q.x q.x (omega arith)) (lt-ltb q.x (q.x + q.s) (omega arith)))
    (and_from _ _ (le-leb q.y q.y (omega arith)) (lt-ltb q.y (q.y + q.s) (omega arith)))

-- a square of the tiling within a rectangle is among those that tile the rectangle
pub picked_within : (t : Tiling) (r : Rectangle) (pick : Square → Bool) → IsTiling t → Tiles r (filter pick t.squares)
    → (k : ℕ) (d : Square) → k < length t.squares → IsWithin r (get_or t.squares k d) → pick (get_or t.squares k d) ≡ true
picked_within t r pick tiling tiled k d few inside =
    let q : Square = get_or t.squares k d in
    let some : 0 < q.s = All-from_recursion (λ q. 0 < q.s) t.squares tiling.tiles.sides k d few in
    let at : IsWithin (whole t) q = All-from_recursion (IsWithin (whole t)) t.squares tiling.tiles.within k d few in
    true_from_ne_false _ (λ out.
    let fewer = count_by-filter_lt pick (covers q.x q.y) t.squares k d few out (covers_corner q some) in
    let one = tiled.once q.x q.y inside.left (omega (arith, inside.right, some)) inside.top (omega (arith, inside.bottom, some)) in
    let all = tiling.tiles.once q.x q.y at.left (omega (arith, at.right, some)) at.top (omega (arith, at.bottom, some)) in
    omega (arith, fewer, one, all))
