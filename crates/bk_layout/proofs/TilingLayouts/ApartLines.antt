-- Along a node of a tiling the columns of its squares ascend, so no line stands there twice.
use Rattle.bk_laws.proofs.Outcomes.{some-unique}
use Rattle.std.proofs.Common.{Some, ap, arith, inl, inr, length, slice_get, subst, true, ℕ, ◌+◌, ◌-◌, ◌<◌, ◌≡◌, ◌≤◌, ◌⊎◌}
use Rattle.std.proofs.lemmas.Bool.{cases_order}
use Rattle.bk_tiling.proofs.TilingLaws.{side_of, within_of}
use Rattle.bk_tiling.specs.Tiling.{IsOneOf, IsTiling, Tiling, square_of}
use Rattle.bk_tiling.specs.declared.Square.{Square}
use Rattle.bk_layout.proofs.Lists.AscendingPlaces.{in_order, stands_in}
use Rattle.bk_layout.proofs.TilingLayouts.LineNumbers.{number_column}
use Rattle.bk_layout.proofs.TilingLayouts.NodeColumns.{one_ended}
use Rattle.bk_layout.proofs.TilingLayouts.TilingSquares.{ended, ended_from, ended_node, ended_one, in_square, key}
use Rattle.bk_layout.specs.TilingLayout.{layout_of}
use Rattle.bk_layout.specs.SharedNodes.{AreLinesApart, LinesOfATilingAreApart}

module _ (t : Tiling) (tiling : IsTiling t) where
  module _ (v a p : ℕ) (e : slice_get ((layout_of t).ending v) a ≡ Some p) where
    known : (p < length t.squares) × (ended t tiling v p ≡ true)
    known = stands_in (key t tiling) (ended t tiling v) (length t.squares) (ended_one t tiling v) a p e

    is_in : IsOneOf (square_of t p) t.squares
    is_in = in_square t tiling p known.0

    low : (square_of t p).y ≤ t.height
    low = let b = (within_of t tiling (square_of t p) is_in).bottom in omega arith

    some : 0 < (square_of t p).s
    some = side_of t tiling (square_of t p) is_in

  -- squares further right are further right by their whole width
  ascend : (v a b p q : ℕ) → slice_get ((layout_of t).ending v) a ≡ Some p → slice_get ((layout_of t).ending v) b ≡ Some q → a < b
      → (square_of t p).x < (square_of t q).x
  ascend v a b p q e f h = in_order (key t tiling) (ended t tiling v) (length t.squares) (ended_one t tiling v) a b p q e f h

  right_ascends : (v a b p q : ℕ) → slice_get ((layout_of t).ending v) a ≡ Some p → slice_get ((layout_of t).ending v) b ≡ Some q → a < b
      → (square_of t p).x + (square_of t p).s ≡ (square_of t q).x + (square_of t q).s → ⊥
  right_ascends v a b p q e f h same = omega (arith, ascend v a b p q e f h, ap (λ (z : Square). z.x) one)
    where
      one : square_of t p ≡ square_of t q
      one = one_ended t tiling v (ended_node t tiling v p (known v a p e).0 (known v a p e).1) ((square_of t p).x + (square_of t p).s - 1)
          (square_of t p) (square_of t q) (is_in v a p e) (is_in v b q f)
          (ended_from t tiling v p (known v a p e).1) (ended_from t tiling v q (known v b q f).1)
          (omega (arith, some v a p e)) (omega (arith, some v a p e)) (omega (arith, same, some v b q f)) (omega (arith, same, some v b q f))

  apart : AreLinesApart (layout_of t)
  apart = record { lefts = lefts; rights = rights; order = order }
    where
      lefts : (v a b p q : ℕ) → slice_get ((layout_of t).ending v) a ≡ Some p → slice_get ((layout_of t).ending v) b ≡ Some q
          → (layout_of t).left p ≡ (layout_of t).left q → a ≡ b
      lefts v a b p q e f same = cases (cases_order a b)
        where
          column : (square_of t p).x ≡ (square_of t q).x
          column = number_column t (square_of t p).x (square_of t p).y (square_of t q).x (square_of t q).y (low v a p e) (low v b q f) same

          cases : (a ≡ b) ⊎ (a < b) ⊎ (b < a) → a ≡ b
          cases (inl h) = h
          cases (inr (inl h)) = absurd (omega (arith, column, ascend v a b p q e f h))
          cases (inr (inr h)) = absurd (omega (arith, column, ascend v b a q p f e h))

      rights : (v a b p q : ℕ) → slice_get ((layout_of t).ending v) a ≡ Some p → slice_get ((layout_of t).ending v) b ≡ Some q
          → (layout_of t).right p ≡ (layout_of t).right q → a ≡ b
      rights v a b p q e f same = cases (cases_order a b)
        where
          column : (square_of t p).x + (square_of t p).s ≡ (square_of t q).x + (square_of t q).s
          column = number_column t ((square_of t p).x + (square_of t p).s) (square_of t p).y ((square_of t q).x + (square_of t q).s)
              (square_of t q).y (low v a p e) (low v b q f) same

          cases : (a ≡ b) ⊎ (a < b) ⊎ (b < a) → a ≡ b
          cases (inl h) = h
          cases (inr (inl h)) = absurd (right_ascends v a b p q e f h column)
          cases (inr (inr h)) = absurd (right_ascends v b a q p f e h (omega (arith, column)))

      order : (v a b p q : ℕ) → slice_get ((layout_of t).ending v) a ≡ Some p → slice_get ((layout_of t).ending v) b ≡ Some q → a ≤ b
          → (layout_of t).left p ≡ (layout_of t).right q → ⊥
      order v a b p q e f h same = cases (cases_order a b)
        where
          column : (square_of t p).x ≡ (square_of t q).x + (square_of t q).s
          column = number_column t (square_of t p).x (square_of t p).y ((square_of t q).x + (square_of t q).s) (square_of t q).y
              (low v a p e) (low v b q f) same

          cases : (a ≡ b) ⊎ (a < b) ⊎ (b < a) → ⊥
          cases (inl k) = omega (arith, column, some v b q f, ap (λ (z : ℕ). (square_of t z).x) (got_one k))
            where
              got_one : a ≡ b → p ≡ q
              got_one k = some-unique _ p q (subst (λ (c : ℕ). slice_get ((layout_of t).ending v) c ≡ Some p) k e) f
          cases (inr (inl k)) = omega (arith, column, some v b q f, ascend v a b p q e f k)
          cases (inr (inr k)) = omega (arith, h, k)

-- the law: columns ascend along a node, so no line stands twice there
pub lines_of_a_tiling_are_apart : LinesOfATilingAreApart
lines_of_a_tiling_are_apart t tiling = apart t tiling
