-- What a quick test of a tiling's squares shows: a longer square in a corner.
use Rattle.std.proofs.Common.{List, [], ap, arith, inl, length, refl, slice_index_or, subst, sym, ℕ, ◌≡◌, ◌∷◌}
use Rattle.bk_tiling.proofs.Members.{one_at}
use Rattle.bk_tiling.proofs.NextCorner.{IsNoLater, next_corner}
use Rattle.bk_tiling.proofs.TilingLaws.{side_of, wide_enough, within_of}
use Rattle.bk_tiling.specs.Tiling.{IsOneOf, IsTiling, Tiling}
use Rattle.bk_tiling.specs.declared.Square.{Square}
use Rattle.bk_sym.specs.Canonical.{IsCanonical}
use Rattle.bk_catalogue.proofs.Members.CornerTest.{IsLongerInCorner, in_corner}
use Rattle.bk_catalogue.specs.CanonicalCorners.{IsTopLeft}

-- what is read past the end of a list of squares
abbrev pub nowhere : Square
nowhere = record { x = 0; y = 0; s = 0 }

-- the first square of a tiling stands in the top left corner
comes_first : (t : Tiling) (squares : List Square) → IsTiling t → t.squares ≡ squares → IsTopLeft t (slice_index_or squares 0 nowhere)
comes_first t [] tiling e = absurd (omega (arith, (tiling.tiles).some, ap length e))
comes_first t (q ∷ squares) tiling e = record { is = one; x = omega (arith, first.column level); y = level }
  where
    one : IsOneOf q t.squares
    one = subst (IsOneOf q) (sym e) (inl refl)

    first : IsNoLater q 0 0
    first = next_corner t [] q squares tiling e 0 0 (wide_enough t tiling)
        (omega (arith, side_of t tiling q one, (within_of t tiling q one).bottom)) (λ r h f. h)

    level : q.y ≡ 0
    level = omega (arith, first.level)

-- a square in a corner that is longer than the first one
pub not_greatest : (t : Tiling) (squares : List Square) (width height k : ℕ) → IsTiling t → squares ≡ t.squares → width ≡ t.width → height ≡ t.height
    → IsLongerInCorner squares width height k nowhere nowhere → IsCanonical t → ⊥
not_greatest t squares width height k tiling same w h longer canonical =
    omega (
      arith,
      l.longer,
      in_corner t (slice_index_or t.squares 0 nowhere) (slice_index_or t.squares k nowhere) tiling canonical (comes_first t t.squares tiling refl)
          (one_at t.squares k nowhere l.within) l.left_or_right l.top_or_bottom,
    )
  where
    l : IsLongerInCorner t.squares t.width t.height k nowhere nowhere
    l = subst (λ (n : ℕ). IsLongerInCorner t.squares t.width n k nowhere nowhere) h
        (subst (λ (n : ℕ). IsLongerInCorner t.squares n height k nowhere nowhere) w
        (subst (λ (qs : List Square). IsLongerInCorner qs width height k nowhere nowhere) same longer))
