-- One step of the placing under the names that the code has for its parts.
use Rattle.std.specs.List.{AllByRecursion}
use Rattle.std.proofs.Common.{List, Some, [], ap, arith, drop, length, refl, slice_get, subst, sum, sym, take, ℕ, ◌++◌, ◌+◌, ◌-◌, ◌<◌, ◌∙◌, ◌∷◌, ◌≡◌, ◌≤◌}
use Rattle.std.proofs.lemmas.List.{length-take-le}
use Rattle.bk_laws.proofs.ListPlaces.{get_some}
use Rattle.bk_tiling.specs.CodeOrder.{in_code_order}
use Rattle.bk_tiling.specs.Column.{depth}
use Rattle.bk_tiling.specs.KeptTiling.{IsSide}
use Rattle.bk_tiling.specs.SquareGroups.{laid_group}
use Rattle.bk_tiling.specs.Tiling.{Tiling}
use Rattle.bk_tiling.specs.declared.Segment.{Segment}
use Rattle.bk_tiling.specs.declared.Square.{Square}
use Rattle.bk_word.specs.Outline.{Outline, start, valley_of}
use Rattle.bk_word.specs.Play.{IsComplete, IsLegal, after_moves, numbers_from, outline_of}
use Rattle.bk_word.specs.Word.{Move, Word, order_of}
use Rattle.bk_word.specs.declared.Sign.{Sign}
use Rattle.bk_skel.proofs.PlacingLoop.{IsPlacedTo, first_width, placed_start}
use Rattle.bk_skel.proofs.PlacingMore.{can_lay, new_fits, placed_more, placed_none}
use Rattle.bk_skel.proofs.PlacedWhole.{placed_closed, placed_end}
use Rattle.bk_word_net.specs.LaidTiling.{IsLaidWith}
use Rattle.bk_skel.specs.PartlyLaid.{CanLay, IsClosed}
use Rattle.bk_word_net.specs.LaidOutline.{FillsValley, front_of}
use Rattle.bk_play.specs.MoveRecords.{SaysWhere}
use Rattle.bk_play.specs.declared.records.MoveRecord.{MoveRecord}

module _ (w : Word) (legal : IsLegal w) (given : List ℕ) (all_sides : AllByRecursion IsSide given) (few : length given ≤ 200)
    (i : ℕ) (below : i < length w)
    (laid : List Square) (numbers : List ℕ) (s : IsPlacedTo w given i laid numbers) (noted : MoveRecord) (says : SaysWhere w i noted) where
  abbrev m : Move
  m = (get_some w i below).0

  at : slice_get w i ≡ Some (get_some w i below).0
  at = (get_some w i below).1

  -- the sides of the move are there
  pub sides_there : length laid + noted.count ≤ length given
  sides_there = omega (arith, new_fits given all_sides few w legal i laid numbers s (get_some w i below).0 at, says.count (get_some w i below).0 at)

  module _ (width from many first closed : ℕ) (signs : List Sign) (new : List ℕ) (width_is : width ≡ first_width w given)
      (from_is : from ≡ length laid) (many_is : many ≡ noted.count) (first_is : first ≡ noted.first)
      (closed_is : closed ≡ noted.closed) (signs_are : (n : Move) → slice_get w i ≡ Some n → signs ≡ n.signs)
      (new_is : new ≡ take (from + many - from) (drop from given)) where
    taken : new ≡ take (get_some w i below).0.count (drop (length laid) given)
    taken = new_is ∙ (λ j. take (count j) (drop (from_is j) given))
      where
        count : from + many - from ≡ (get_some w i below).0.count
        count = omega (arith, many_is, says.count (get_some w i below).0 at)

    place : first ≡ length (front_of (after_moves start (take i w)))
    place = first_is ∙ says.first

    end : first + closed ≡ length (front_of (after_moves start (take i w))) + length (valley_of (after_moves start (take i w)))
    end = omega (arith, place, closed_is, says.closed)

    own_signs : (get_some w i below).0.signs ≡ signs
    own_signs = sym (signs_are (get_some w i below).0 at)

    -- the move can be laid
    pub step_can : (o : Outline) × CanLay (record { width = width; laid = laid; numbers = numbers })
        (record { first = first; end = first + closed; signs = signs; sides = new }) o
    step_can = (
      after_moves start (take i w),
      subst (λ (p : (ℕ × List Sign) × List ℕ). CanLay (record { width = p.0.0; laid = laid; numbers = numbers })
          (record { first = first; end = first + closed; signs = p.0.1; sides = p.1 }) (after_moves start (take i w)))
          (λ j. ((sym width_is j, own_signs j), sym taken j))
          (can_lay given all_sides few w legal i laid numbers s (get_some w i below).0 at first (first + closed) place end),
    )

    fills_as : (v : Segment) → FillsValley width laid (record { count = length new; signs = signs }) new v
        → FillsValley (first_width w given) laid (record {
          count = length (take (get_some w i below).0.count (drop (length laid) given));
          signs =
              (get_some w i below).0.signs;
        }) (take (get_some w i below).0.count (drop (length laid) given)) v
    fills_as v t = subst (λ (n : ℕ). FillsValley n laid
        (record { count = length (take (get_some w i below).0.count (drop (length laid) given)); signs = (get_some w i below).0.signs })
        (take (get_some w i below).0.count (drop (length laid) given)) v) width_is
        (subst (λ (gs : List Sign). FillsValley width laid
        (record { count = length (take (get_some w i below).0.count (drop (length laid) given)); signs = gs })
        (take (get_some w i below).0.count (drop (length laid) given)) v) (sym own_signs)
        (subst (λ (ns : List ℕ). FillsValley width laid (record { count = length ns; signs = signs }) ns v) taken t))

    fills_back : (v : Segment) → FillsValley (first_width w given) laid
        (record { count = length (take (get_some w i below).0.count (drop (length laid) given)); signs = (get_some w i below).0.signs })
        (take (get_some w i below).0.count (drop (length laid) given)) v
        → FillsValley width laid (record { count = length new; signs = signs }) new v
    fills_back v t = subst (λ (ns : List ℕ). FillsValley width laid (record { count = length ns; signs = signs }) ns v) (sym taken)
        (subst (λ (gs : List Sign). FillsValley width laid
        (record { count = length (take (get_some w i below).0.count (drop (length laid) given)); signs = gs })
        (take (get_some w i below).0.count (drop (length laid) given)) v) own_signs
        (subst (λ (n : ℕ). FillsValley n laid (record {
          count = length (take (get_some w i below).0.count (drop (length laid) given));
          signs =
              (get_some w i below).0.signs;
        }) (take (get_some w i below).0.count (drop (length laid) given)) v) (sym width_is) t))

    -- where the squares of the next move fill no valley, no tiling has the word with these sides
    pub step_none : ((v : Segment) → FillsValley width laid (record { count = length new; signs = signs }) new v → ⊥) → (t : Tiling) → IsLaidWith w given t → ⊥
    step_none never = placed_none given all_sides few w legal i laid numbers s (get_some w i below).0 at first (first + closed) place end
        (λ v t. never v (fills_back v t))

    -- with the squares of the next move laid, the placing has come one move further
    pub step_more : (next : List Square) (next_numbers : List ℕ) → (v : Segment)
        × (FillsValley width laid (record { count = length new; signs = signs }) new v × (next ≡ laid ++ laid_group v.x v.level new))
        → next_numbers ≡ (take first numbers ++ numbers_from (length laid + 1) (length new)) ++ drop (first + closed) numbers
        → IsPlacedTo w given (i + 1) next next_numbers
    step_more next next_numbers (v, (t, e)) f =
        subst (λ (l : List Square). IsPlacedTo w given (i + 1) l next_numbers) (sym (e ∙ ap (λ (ns : List ℕ). laid ++ laid_group v.x v.level ns) taken))
        (subst (IsPlacedTo w given (i + 1) (laid ++ laid_group v.x v.level (take (get_some w i below).0.count (drop (length laid) given))))
        (sym (f ∙ ap (λ (ns : List ℕ). (take first numbers ++ numbers_from (length laid + 1) (length ns)) ++ drop (first + closed) numbers) taken))
        (placed_more given all_sides few w legal i laid numbers s (get_some w i below).0 at first (first + closed) place end v (fills_as v t)))

-- a complete word has a first move, and there are as many sides as it hangs
pub first_is_there : (w : Word) (complete : IsComplete w) (given : List ℕ) → AllByRecursion IsSide given → length given ≤ 200
    → length given ≡ order_of w → (noted : MoveRecord) → SaysWhere w 0 noted → (from : ℕ) → from ≡ noted.count → from ≡ length (take from given)
first_is_there w complete given all_sides few count noted says from e =
    sym (length-take-le from given (omega (
      arith,
      e,
      sides_there w complete.legal given all_sides few 0 complete.some [] [] (placed_start given all_sides few w complete count) noted says,
    )))

-- the sum of the first move's sides is the width
pub width_as : (w : Word) (given : List ℕ) (noted : MoveRecord) (from sum_is : ℕ) → 0 < length w → SaysWhere w 0 noted → from ≡ noted.count
    → sum_is ≡ sum (take from given) → sum_is ≡ first_width w given
width_as [] given noted from sum_is h says e f = absurd (omega arith)
width_as (m ∷ w) given noted from sum_is h says e f = f ∙ ap (λ (k : ℕ). sum (take k given)) (e ∙ says.count m refl)

-- before the first move nothing is laid
pub start_as : (w : Word) (given : List ℕ) (laid : List Square) (numbers : List ℕ) → laid ≡ [] → numbers ≡ [] → IsPlacedTo w given 0 [] []
    → IsPlacedTo w given 0 laid numbers
start_as w given laid numbers e f s = subst (λ (l : List Square). IsPlacedTo w given 0 l numbers) (sym e) (subst (IsPlacedTo w given 0 []) (sym f) s)

module _ (w : Word) (complete : IsComplete w) (given : List ℕ) (all_sides : AllByRecursion IsSide given) (few : length given ≤ 200)
    (count : length given ≡ order_of w) (i : ℕ) (done : length w ≤ i)
    (laid : List Square) (numbers seen : List ℕ) (s : IsPlacedTo w given i laid numbers) (width : ℕ)
    (width_is : width ≡ first_width w given) (seen_is : seen ≡ numbers) where
  -- past the last move all squares are laid on one segment
  pub end_can : (o : Outline) × IsClosed width laid seen o
  end_can = (
    outline_of w,
    subst (λ (n : ℕ). IsClosed n laid seen (outline_of w)) (sym width_is)
        (subst (λ (ns : List ℕ). IsClosed (first_width w given) laid ns (outline_of w)) (sym seen_is)
        (placed_closed given all_sides few w complete count i done laid numbers s)),
  )

  -- past the last move the laid squares are a tiling that has the word with these sides
  pub end_is : (t : Tiling) → t ≡ record { width = width; height = depth laid 0; squares = in_code_order laid } → IsLaidWith w given t
  end_is t e = subst (IsLaidWith w given) (sym
      (e ∙ ap (λ (n : ℕ). record { width = n; height = depth laid 0; squares = in_code_order laid }) width_is))
      (placed_end given all_sides few w complete count i done laid numbers s)
