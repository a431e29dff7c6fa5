-- A square in a corner that is longer than the first one shows that a tiling isn't canonical.
use Rattle.std.proofs.Common.{List, arith, inl, inr, length, slice_index_or, ℕ, ◌+◌, ◌<◌, ◌≡◌, ◌≤◌, ◌⊎◌}
use Rattle.bk_tiling.specs.Tiling.{IsOneOf, IsTiling, Tiling}
use Rattle.bk_tiling.specs.declared.Square.{Square}
use Rattle.bk_sym.specs.Canonical.{IsCanonical}
use Rattle.bk_sym.specs.declared.Turn.TheVariants.{FlipX, FlipY, Half, Same}
use Rattle.bk_catalogue.proofs.Members.CornerLaws.{corners_are_no_longer}
use Rattle.bk_catalogue.specs.CanonicalCorners.{IsTopLeft}

-- a square in a corner of a canonical tiling is no longer than the one in the top left corner
pub in_corner : (t : Tiling) (q r : Square) → IsTiling t → IsCanonical t → IsTopLeft t q → IsOneOf r t.squares → (r.x ≡ 0)
    ⊎ (r.x + r.s ≡ t.width) → (r.y ≡ 0) ⊎ (r.y + r.s ≡ t.height) → r.s ≤ q.s
in_corner t q r tiling canonical first is (inl x) (inl y) =
    corners_are_no_longer t Same q r tiling canonical first canonical.lying (record { is = is; x = x; y = y })
in_corner t q r tiling canonical first is (inr x) (inl y) =
    corners_are_no_longer t FlipX q r tiling canonical first canonical.lying (record { is = is; x = omega (arith, x); y = y })
in_corner t q r tiling canonical first is (inl x) (inr y) =
    corners_are_no_longer t FlipY q r tiling canonical first canonical.lying (record { is = is; x = x; y = omega (arith, y) })
in_corner t q r tiling canonical first is (inr x) (inr y) =
    corners_are_no_longer t Half q r tiling canonical first canonical.lying (record { is = is; x = omega (arith, x); y = omega (arith, y) })

-- the square of this number is longer than the first one, and stands in a corner
pub record IsLongerInCorner (squares : List Square) (width height k : ℕ) (c d : Square) : Type 0 where
  pub within : k < length squares
  pub longer : (slice_index_or squares 0 c).s < (slice_index_or squares k d).s
  pub left_or_right : ((slice_index_or squares k d).x ≡ 0) ⊎ ((slice_index_or squares k d).x + (slice_index_or squares k d).s ≡ width)
  pub top_or_bottom : ((slice_index_or squares k d).y ≡ 0) ⊎ ((slice_index_or squares k d).y + (slice_index_or squares k d).s ≡ height)
