-- The first part of a tiling is one, and so is its least repeated side.
use Rattle.std.proofs.Common.{arith, get_or, inl, inr, subst, sym, ◌<◌, ◌≡◌, ◌≤◌, ◌⊎◌}
use Rattle.bk_tiling.specs.declared.Square.{Square}
use Rattle.bk_simple.proofs.PartCorners.{between-one}
use Rattle.bk_simple.proofs.Parts.{between_corners}
use Rattle.bk_simple.specs.CornerSquares.{IsBetween}
use Rattle.bk_simple.specs.FirstLaws.{AFirstPartIsOne, ALeastRepeatedSideIsOne}
use Rattle.bk_simple.specs.Simple.{bottom_right, top_left}

-- a tiling has at most one first part
pub a_first_part_is_one : AFirstPartIsOne
a_first_part_is_one t r s tiling first other = same (first.first s other.part) (other.first r first.part)
  where
    d : Square
    d = record { x = 0; y = 0; s = 0 }

    one : top_left t r ≡ top_left t s → bottom_right t r ≡ bottom_right t s → r ≡ s
    one a b = between-one (get_or t.squares (top_left t r) d) (get_or t.squares (bottom_right t r) d) r s (between_corners t r tiling first.part d)
        (subst (λ k. IsBetween (get_or t.squares k d) (get_or t.squares (bottom_right t r) d) s) (sym a)
        (subst (λ k. IsBetween (get_or t.squares (top_left t s) d) (get_or t.squares k d) s) (sym b) (between_corners t s tiling other.part d)))

    same : (top_left t r < top_left t s) ⊎ ((top_left t r ≡ top_left t s) × (bottom_right t r ≤ bottom_right t s))
        → (top_left t s < top_left t r) ⊎ ((top_left t s ≡ top_left t r) × (bottom_right t s ≤ bottom_right t r)) → r ≡ s
    same (inl a) (inl b) = absurd (omega arith)
    same (inl a) (inr b) = absurd (omega (arith, b.0))
    same (inr a) (inl b) = absurd (omega (arith, a.0))
    same (inr a) (inr b) = one a.0 (omega (arith, a.1, b.1))

-- a tiling has at most one least repeated side
pub a_least_repeated_side_is_one : ALeastRepeatedSideIsOne
a_least_repeated_side_is_one t a b first other = omega (arith, first.1 b other.0, other.1 a first.0)
