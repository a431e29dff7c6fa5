-- What a kept tiling's squares and their places fit into: numbers of 64 bits.
use Rattle.std.specs.Prelude.{length, ◌+◌, ◌<◌, ◌≡◌, ℕ}
use Rattle.std.specs.List.{All}
use Rattle.std.proofs.Common.{arith, Fits, w64, ◌*◌}
use Rattle.bk_tiling.specs.KeptTiling.{IsKept}
use Rattle.bk_tiling.specs.Sharing.{EdgesFit}
use Rattle.bk_tiling.specs.Tiling.{Tiling}
use Rattle.bk_tiling.specs.declared.Square.{Square}
use Rattle.bk_simple.proofs.UncutParts.{square_at_a_place_has_a_side, within_at}

-- the edges of the squares of a kept tiling fit
pub edges_of_kept_fit : (t : Tiling) → IsKept t → All EdgesFit t.squares
edges_of_kept_fit t kept k d few =
    let w = within_at t kept.tiling k d few in
    (square_at_a_place_has_a_side t kept.tiling k d few, omega (arith, w.right, kept.width_fits), omega (arith, w.bottom, kept.height_fits))

-- the place in memory of a square of a kept tiling fits
pub place_in_memory_fits : (t : Tiling) → IsKept t → (k : ℕ) → k < length t.squares → Fits w64 (k * 24)
place_in_memory_fits t kept k few = omega (arith, few, kept.few)

-- the place after that of a square of a kept tiling fits
pub next_place_fits : (t : Tiling) → IsKept t → (k : ℕ) → k < length t.squares → Fits w64 (k + 1)
next_place_fits t kept k few = omega (arith, few, kept.few)

-- the end of a square that begins at a column fits
pub end_from_column_fits : (q : Square) (end : ℕ) → q.x ≡ end → EdgesFit q → Fits w64 (end + q.s)
end_from_column_fits q end begins fits = omega (arith, begins, fits.1)
