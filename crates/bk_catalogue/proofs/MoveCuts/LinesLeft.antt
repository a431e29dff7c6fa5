-- A line that is left at the end of a word cuts the tiling from the top to the bottom.
use Rattle.std.specs.List.{AllByRecursion, AllZip, list_any}
use Rattle.std.proofs.Common.{Bool, List, [], arith, false, inl, inr, refl}
use Rattle.std.proofs.Common.{subst, true, ℕ, ◌||◌, ◌+◌, ◌<◌, ◌∷◌, ◌≡◌, ◌≤◌, ◌⊎◌}
use Rattle.bk_tiling.proofs.Cells.{in_all}
use Rattle.bk_tiling.proofs.TilingLaws.{side_of, within_of}
use Rattle.bk_tiling.specs.declared.Segment.{Segment}
use Rattle.bk_tiling.specs.Tiling.{IsOneOf, IsTiling, Tiling}
use Rattle.bk_tiling.specs.declared.Square.{Square}
use Rattle.bk_word.specs.Outline.{Outline}
use Rattle.bk_lay.proofs.LaidRuns.{one_of}
use Rattle.bk_lay.proofs.ValleySegment.{all_squares_laid_at_full_depth}
use Rattle.bk_lay.specs.Depiction.{IsNumbered, IsSegment, Span}
use Rattle.bk_catalogue.specs.VerticalCut.{on_line}
use Rattle.bk_catalogue.proofs.MoveCuts.ClearSegments.{Each, IsClear}
use Rattle.bk_catalogue.proofs.MoveCuts.ClearLines.{ClearAtEnd}

-- a line from the top to the bottom across which no square lies
pub record LineLeft (t : Tiling) : Type 0 where
  pub column : ℕ
  pub right : 0 < column
  pub left : column < t.width
  pub clear : (r : Square) → IsOneOf r t.squares → (r.x + r.s ≤ column) ⊎ (column ≤ r.x)

module _ (t : Tiling) (o : Outline) (lines : List Bool) (tiling : IsTiling t) (end : ClearAtEnd t o lines) where
  square_left : (n : ℕ) (s : Square) → IsNumbered end.laid n s → on_line lines n ≡ true → IsClear end.laid lines n → LineLeft t
  square_left n s number on clear = record {
    column = s.x;
    right = at.0;
    left = let w = (within_of t tiling s inside).right in omega (arith, side_of t tiling s inside);
    clear = λ r h. at.1 r (all_squares_laid_at_full_depth t tiling end.laid (end.along).fills end.full r h);
  }
    where
      at : (0 < s.x) × ((r : Square) → IsOneOf r end.laid → (r.x + r.s ≤ s.x) ⊎ (s.x ≤ r.x))
      at = clear on s number

      inside : IsOneOf s t.squares
      inside = in_all (λ z. IsOneOf z t.squares) end.laid ((end.along).fills).squares s (one_of end.laid number.0 s number.2)

  span_left : (level x : ℕ) (numbers : List ℕ) (e : ℕ) → Span end.laid level x numbers e → AllByRecursion (IsClear end.laid lines) numbers
      → list_any (on_line lines) numbers ≡ true → LineLeft t
  span_left level x [] e s each on = absurd (cc)
  span_left level x (n ∷ numbers) e s each on = cases (on_line lines n) refl on (span_left level (x + (s.0).s) numbers e s.4 each.1)
    where
      cases : (b : Bool) → on_line lines n ≡ b → (b || list_any (on_line lines) numbers) ≡ true
          → (list_any (on_line lines) numbers ≡ true → LineLeft t) → LineLeft t
      cases true f g rest = square_left n s.0 s.1 f each.0
      cases false f g rest = rest g

  segment_left : (u : Segment) (numbers : List ℕ) → IsSegment end.laid u numbers → AllByRecursion (IsClear end.laid lines) numbers
      → list_any (on_line lines) numbers ≡ true → LineLeft t
  segment_left u numbers (inl s) each on = span_left u.level u.x numbers (u.x + u.width) s each on
  segment_left u numbers (inr h) each on = absurd (not_none numbers h.1 on)
    where
      not_none : (numbers : List ℕ) → numbers ≡ [] → list_any (on_line lines) numbers ≡ true → ⊥
      not_none [] e f = cc
      not_none (n ∷ numbers) e f = cc

  -- a line that is left at the end is one
  pub line_left : (segment : List ℕ) → o.segments ≡ segment ∷ [] → list_any (on_line lines) segment ≡ true → LineLeft t
  line_left segment one on = from ((end.along).depicts).runs (subst (AllZip (IsSegment end.laid) ((end.along).depicts).runs) one ((end.along).depicts).segments)
    where
      each : AllByRecursion (IsClear end.laid lines) segment
      each = (subst (Each (IsClear end.laid lines)) one end.clear).0

      from : (runs : List Segment) → AllZip (IsSegment end.laid) runs (segment ∷ []) → LineLeft t
      from [] z = absurd z
      from (u ∷ runs) z = segment_left u segment z.0 each on
