-- The leftmost valley of what is laid is the segment that the play of the word closes next; and all squares of a
-- tiling are laid where all columns are full.
use Rattle.std.specs.List.{AllByRecursion, AllZip}
use Rattle.std.proofs.Common.{List, [], ap, arith, length, slice_index_or, subst, sym, true, ℕ, ◌<◌, ◌∙◌, ◌≡◌}
use Rattle.bk_laws.proofs.ZippedLists.{zip_at}
use Rattle.bk_tiling.proofs.Cells.{counted_one, covers_from, in_all, no_two}
use Rattle.bk_tiling.proofs.TilingLaws.{cell_once, side_of, wide_enough, within_of}
use Rattle.bk_tiling.specs.Column.{depth}
use Rattle.bk_tiling.specs.declared.Segment.{Segment}
use Rattle.bk_tiling.specs.Tiling.{IsOneOf, IsTiling, Tiling, covers}
use Rattle.bk_tiling.specs.declared.Square.{Square}
use Rattle.bk_word.specs.Outline.{Outline, valley_of, valley_place}
use Rattle.bk_word.specs.Play.{parts}
use Rattle.bk_word.specs.declared.Sign.{Sign}
use Rattle.bk_lay.proofs.Joining.{levels}
use Rattle.bk_lay.proofs.Places.{Stands, placed, stands}
use Rattle.bk_lay.specs.Depiction.{Depicts, FillsFromTop, IsSegment}
use Rattle.bk_lay.specs.TilingWord.{IsLeftmostValley, signs_between}

-- the leftmost valley of what is laid stands among the runs of the outline that depicts it
pub valley_stands : (t : Tiling) (laid : List Square) (nodes : List Segment) (o : Outline) (v : Segment) → IsTiling t
    → (d : Depicts t laid nodes o) → IsLeftmostValley t.width laid v → Stands t.width laid d.runs v
valley_stands t laid nodes o v tiling d found = stands t.width laid d.runs v (placed t.width laid d.runs (wide_enough t tiling) d.cut parted) found
  where
    parted : AllByRecursion (λ sign. parts sign ≡ true) (signs_between (levels d.runs))
    parted = subst (λ (signs : List Sign). AllByRecursion (λ sign. parts sign ≡ true) signs) d.signs d.parted

-- the leftmost valley of what is laid is shown by the valley of the outline that depicts it
pub valley_segment : (t : Tiling) (laid : List Square) (nodes : List Segment) (o : Outline) (v : Segment) → IsTiling t → Depicts t laid nodes o
    → IsLeftmostValley t.width laid v → IsSegment laid v (valley_of o)
valley_segment t laid nodes o v tiling d found = subst (λ (n : ℕ). IsSegment laid v (slice_index_or o.segments n [])) (sym number)
    (zip_at (IsSegment laid) s.before v s.after o.segments [] (subst (λ (runs : List Segment). AllZip (IsSegment laid) runs o.segments) s.is d.segments))
  where
    s : Stands t.width laid d.runs v
    s = valley_stands t laid nodes o v tiling d found

    number : valley_place o.signs ≡ length s.before
    number = ap valley_place d.signs ∙ s.number

module _ (t : Tiling) (tiling : IsTiling t) where
  -- where all columns are as deep as the tiling is high, each square is laid
  pub all_squares_laid_at_full_depth : (laid : List Square) → FillsFromTop t laid → ((c : ℕ) → c < t.width → depth laid c ≡ t.height) → (q : Square)
      → IsOneOf q t.squares
      → IsOneOf q laid
  all_squares_laid_at_full_depth laid fills full q h = subst (λ (p : Square). IsOneOf p laid) (sym same) there.1
    where
      wide : q.x < t.width
      wide = let a = (within_of t tiling q h).right in omega (arith, side_of t tiling q h)

      low : q.y < t.height
      low = let b = (within_of t tiling q h).bottom in omega (arith, side_of t tiling q h)

      there : (p : Square) × IsOneOf p laid × (covers q.x q.y p ≡ true)
      there = counted_one (covers q.x q.y) laid (omega (arith, fills.filled q.x q.y wide (omega (arith, low, full q.x wide))))

      same : q ≡ there.0
      same = no_two (covers q.x q.y) t.squares (omega (arith, cell_once t tiling q.x q.y wide low)) q there.0
          h (covers_from q.x q.y q (omega arith) (omega (arith, side_of t tiling q h)) (omega arith) (omega (arith, side_of t tiling q h)))
          (in_all (λ p. IsOneOf p t.squares) laid fills.squares there.0 there.1) there.2
