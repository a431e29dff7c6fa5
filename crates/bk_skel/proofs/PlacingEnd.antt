-- The tiling of all laid squares as the code keeps it.
use Rattle.std.specs.List.{AllByRecursion, AllZip, concat}
use Rattle.std.proofs.Common.{List, [], ap, arith, inl, inr, length, slice_index_or, subst, sym, ℕ, ◌*◌, ◌++◌, ◌+◌, ◌<◌, ◌^◌, ◌∙◌, ◌∷◌, ◌≡◌, ◌≤◌, ◌⊎◌}
use Rattle.std.proofs.lemmas.Bool.{cases_lt}
use Rattle.std.proofs.lemmas.List.Elements.{All-from_recursion}
use Rattle.bk_tiling.proofs.Cells.{depth_comes_from}
use Rattle.bk_tiling.proofs.OneRefusal.{tiles_apart}
use Rattle.bk_tiling.proofs.OrderLaws.{in_code_order-all, in_code_order-length}
use Rattle.bk_tiling.specs.CodeOrder.{in_code_order}
use Rattle.bk_tiling.specs.Column.{AreRuns, depth}
use Rattle.bk_tiling.specs.KeptTiling.{IsKept, IsSide}
use Rattle.bk_tiling.specs.Refusal.{HaveSides, ShareNoCell}
use Rattle.bk_tiling.specs.declared.Segment.{Segment}
use Rattle.bk_tiling.specs.declared.Square.{Square}
use Rattle.bk_word.specs.Outline.{Outline, start}
use Rattle.bk_lay.specs.Depiction.{IsSegment, Span}
use Rattle.bk_word_net.proofs.TilingWords.TilingOfMoves.{is_tiling, tiles}
use Rattle.bk_word_net.proofs.Outlines.NumberedSquares.{numbered_bottom, segment_span}
use Rattle.bk_skel.specs.PartlyLaid.{IsClosed}
use Rattle.bk_word_net.specs.LaidOutline.{IsNumber, bottom_at}

module _ (width : ℕ) (laid : List Square) (numbers : List ℕ) (o : Outline) (c : IsClosed width laid numbers o) where
  -- each laid square has a side
  pub sides : HaveSides laid
  sides = All-from_recursion (λ q. IsSide q.s) laid c.sides

  -- no two laid squares share a cell
  pub apart : ShareNoCell laid
  apart = tiles_apart width (depth laid 0) laid (tiles width (c.partly).some laid o (c.partly).shows c.one c.some)

  low : depth laid 0 ≤ 999_999_999_999_999 * length laid
  low = cases (cases_lt (999_999_999_999_999 * length laid) (depth laid 0))
    where
      cases : (999_999_999_999_999 * length laid < depth laid 0) ⊎ (depth laid 0 ≤ 999_999_999_999_999 * length laid)
          → depth laid 0 ≤ 999_999_999_999_999 * length laid
      cases (inr h) = h
      cases (inl h) = let q = depth_comes_from laid 0 (999_999_999_999_999 * length laid) h in absurd (omega (arith, (c.partly).low q.0 q.1, q.3))

  -- the laid squares, in code order, make a tiling that may be kept
  pub kept : IsKept (record { width = width; height = depth laid 0; squares = in_code_order laid })
  kept = record {
    tiling = is_tiling width (c.partly).some laid o (c.partly).shows c.one c.some;
    few = omega (arith, in_code_order-length laid, c.few);
    sides = in_code_order-all (λ q. IsSide q.s) laid c.sides;
    width_fits = omega (arith, (c.partly).narrow);
    height_fits = omega (arith, low, c.few);
  }

  deep : (x : ℕ) → x < width → 0 < depth laid x
  deep = cases ((c.partly).shows).begun
    where
      cases : ((laid ≡ []) × (o ≡ start)) ⊎ ((x : ℕ) → x < width → 0 < depth laid x) → (x : ℕ) → x < width → 0 < depth laid x
      cases (inl none) x h = absurd (omega (arith, c.some, ap length none.0))
      cases (inr d) x h = d x h

  -- the first of the open squares reaches down to the height
  pub first_open : (0 < length numbers) × (bottom_at laid (slice_index_or numbers 0 0) ≡ depth laid 0)
  first_open = subst (λ (ns : List ℕ). (0 < length ns) × (bottom_at laid (slice_index_or ns 0 0) ≡ depth laid 0))
      (sym (c.partly).numbers_are) (from ((c.partly).shows).runs o.segments ((c.partly).shows).cut ((c.partly).shows).segments)
    where
      from : (runs : List Segment) (lists : List (List ℕ)) → AreRuns width laid 0 runs → AllZip (IsSegment laid) runs lists
          → (0 < length (concat lists)) × (bottom_at laid (slice_index_or (concat lists) 0 0) ≡ depth laid 0)
      from [] lists cut z = absurd (omega (arith, cut, (c.partly).some))
      from (r ∷ runs) [] cut z = absurd z
      from (r ∷ runs) (u ∷ lists) cut z = first u (segment_span width laid deep r u cut.1 z.0)
        where
          some : 0 < r.width
          some = (cut.1).some

          level : depth laid 0 ≡ r.level
          level = (cut.1).level 0 (omega (arith, cut.0)) (omega (arith, cut.0, some))

          first : (u : List ℕ) → Span laid r.level r.x u (r.x + r.width) → (0 < length (u ++ concat lists))
              × (bottom_at laid (slice_index_or (u ++ concat lists) 0 0) ≡ depth laid 0)
          first [] span = absurd (omega (arith, some, span))
          first (n ∷ u) span = (omega arith, numbered_bottom laid n span.0 span.1 ∙ span.3 ∙ sym level)

  -- the bottom of the first open square is below 2^63
  pub bottom_fits : bottom_at laid (slice_index_or numbers 0 0) < 2 ^ 63
  bottom_fits = let f = first_open in omega (arith, f.1, low, c.few)

  -- the first open square's number is that of a laid square
  pub first_known : IsNumber laid (slice_index_or numbers 0 0)
  first_known = from numbers first_open.0 (c.partly).known
    where
      from : (ns : List ℕ) → 0 < length ns → AllByRecursion (IsNumber laid) ns → IsNumber laid (slice_index_or ns 0 0)
      from [] h a = absurd (omega arith)
      from (n ∷ ns) h a = a.0

  -- a height and squares as the code has them make a tiling that may be kept
  pub kept_as : (height : ℕ) (squares : List Square) → height ≡ depth laid 0 → squares ≡ in_code_order laid
      → IsKept (record { width = width; height = height; squares = squares })
  kept_as height squares e f = subst (λ (h : ℕ). IsKept (record { width = width; height = h; squares = squares })) (sym e)
      (subst (λ (qs : List Square). IsKept (record { width = width; height = depth laid 0; squares = qs })) (sym f) kept)

  -- a height that is the first open square's bottom is the depth of the laid squares
  pub height_as : (seen : List Square) (height : ℕ) → seen ≡ laid → height ≡ bottom_at seen (slice_index_or numbers 0 0) → height ≡ depth laid 0
  height_as seen height e f = f ∙ ap (λ (l : List Square). bottom_at l (slice_index_or numbers 0 0)) e ∙ first_open.1

  -- the first open square's number is known and its bottom is below 2^63, of equal laid squares too
  pub known_as : (seen : List Square) → seen ≡ laid → IsNumber seen (slice_index_or numbers 0 0) × (bottom_at seen (slice_index_or numbers 0 0) < 2 ^ 63)
  known_as seen e = subst (λ (l : List Square). IsNumber l (slice_index_or numbers 0 0)
      × (bottom_at l (slice_index_or numbers 0 0) < 2 ^ 63)) (sym e) (first_known, bottom_fits)
