-- What a next move's first signs ask for: where it is more than is left, no word goes on by such a move.
use Rattle.std.proofs.Common.{Bool, List, Some, [], ap, append-nil, arith, cond}
use Rattle.std.proofs.Common.{drop, false, inl, inr, length, map, max, refl, slice_get}
use Rattle.std.proofs.Common.{slice_index_or, subst, suc, sym, true, zero, ℕ, ◌++◌, ◌+◌, ◌-◌, ◌<◌, ◌∙◌, ◌∷◌, ◌≡◌, ◌≤◌, ◌⊎◌}
use Rattle.std.proofs.lemmas.Bool.{eqb-true}
use Rattle.std.proofs.lemmas.List.{drop_all, length-append}
use Rattle.bk_laws.proofs.ListPlaces.{get_back}
use Rattle.bk_word.specs.Outline.{IsLegalMove, Outline, has_left_wall, has_right_wall, open_side, start, valley_place}
use Rattle.bk_word.specs.Play.{IsLegal, outline_of}
use Rattle.bk_word.specs.Word.{Move, Word, order_of}
use Rattle.bk_word.specs.declared.Sign.{Sign}
use Rattle.bk_word.specs.declared.Sign.TheVariants.{Above, Even}
use Rattle.bk_word.proofs.PlayLaws.{legal_rest, side_has_one_sign_at_most}
use Rattle.bk_word.proofs.StoredBytes.{order_append, order_more}
use Rattle.bk_layout.proofs.NormalCuts.NextMove.{most_moves_hold_then}
use Rattle.bk_layout.proofs.NormalCuts.StrongWords.{strong_bound_is_normal_barren, strong_weight_is_normal_barren}
use Rattle.bk_catalogue.specs.VerticalCut.{edges_on_lines}
use Rattle.bk_layout.specs.NormalCuts.{IsNormalBarren, touched_or_wide}
use Rattle.bk_layout.specs.WordNumbers.{first_count}
use Rattle.bk_layout.specs.StrongBound.{strong_bound_of, weight_of}
use Rattle.bk_free_search.proofs.Asks.BehindSigns.{asked_with_all, asked_with_some, behind_marks_long}
use Rattle.bk_free_search.proofs.NextWords.Cutting.{by_legal}
use Rattle.bk_free_search.proofs.Asks.EvenSigns.{apart_from_own}
use Rattle.bk_free_search.proofs.Asks.PassesOn.{ArePartsButLast}
use Rattle.bk_free_search.proofs.Asks.SharedAround.{marks_behind_shared}
use Rattle.bk_free_search.specs.Apart.{AreAsks, behind_marks, behind_signs, behind_sizes, joined_marks, wide_first}
use Rattle.bk_free_search.specs.AskedSigns.{AreBehind, BarsSigns, IsAsked, IsMoveBegun, IsOver, asks_then}
use Rattle.bk_free_search.specs.Strong.{seen_passed}
use Rattle.bk_free_search.specs.declared.asking.Asked.{Asked}
use Rattle.bk_free_search.specs.declared.asking.Beside.{Beside}
use Rattle.bk_free_search.specs.declared.behind.Asks.{Asks}
use Rattle.bk_free_search.specs.declared.behind.Behind.{Behind}
use Rattle.bk_free_search.specs.declared.state.Begun.{Begun}
use Rattle.bk_free_search.specs.declared.state.Search.{Search}
use Rattle.bk_free_search.specs.declared.strong.Passed.{Passed}

-- ---- where squares are left

-- a move after which more moves are asked for than are left, or more squares
strong_is_barred : {s : Search} {b : Begun} {around : Beside} (other : Move) (most more : ℕ) → IsMoveBegun s b around → other.count ≡ b.m.count
    → IsLegal (s.board ++ other ∷ []) → most ≤ strong_bound_of (s.board ++ other ∷ []) → more ≤ weight_of (s.board ++ other ∷ [])
    → (around.ahead.moves < most) ⊎ (b.next.left < most + more) → IsNormalBarren s.order (s.board ++ other ∷ [])
strong_is_barred {s = s} {b = b} {around = around} other most more begun count legal bound weight over = cases over
  where
    few : order_of (s.board ++ other ∷ []) + b.next.left ≡ s.order
    few = omega (arith, begun.next_is.left_is, begun.fits, count, order_append s.board (other ∷ []), order_more other [])

    some : 0 < b.next.left
    some = omega (arith, begun.fits, begun.next_is.left_is)

    cases : (around.ahead.moves < most) ⊎ (b.next.left < most + more) → IsNormalBarren s.order (s.board ++ other ∷ [])
    cases (inl h) = strong_bound_is_normal_barren s.order begun.around_is.moves_are.most (s.board ++ other ∷ []) begun.least
        (most_moves_hold_then s.order begun.around_is.moves_are.most s.board other legal begun.around_is.moves_are.most_is)
        (omega (arith, length-append s.board (other ∷ []))) (omega (arith, few, some))
        (omega (arith, h, bound, begun.around_is.moves_are.left_is, length-append s.board (other ∷ [])))
    cases (inr h) = strong_weight_is_normal_barren s.order (s.board ++ other ∷ []) begun.least (omega (arith, length-append s.board (other ∷ [])))
        (omega (arith, few, some)) (omega (arith, h, bound, weight, few))

-- signs that are not even between a move's own squares, but for the last one
got : (xs : List Sign) (k : ℕ) → slice_index_or xs k Above ≡ Even → slice_get xs k ≡ Some Even
got [] k e = absurd (cc)
got (x ∷ xs) zero e = ap (λ s. Some s) e
got (x ∷ xs) (suc k) e = got xs k e

parted : (front : Word) (other : Move) (signs : List Sign) (s : Sign) (more : List Sign) → IsLegalMove (outline_of front) other
    → other.signs ≡ signs ++ s ∷ more
    → open_side (has_left_wall (outline_of front)) ≤ length signs
    → ((i : ℕ) → open_side (has_left_wall (outline_of front)) ≤ i → i < open_side (has_left_wall (outline_of front)) + (other.count - 1)
    → slice_get other.signs i ≡ Some Even → ⊥) → ArePartsButLast (s ∷ more)
parted front other signs s more legal are some none i low even = none (length signs + i)
    (omega (arith, some))
    (omega (
      arith,
      low,
      legal.signs,
      legal.some,
      side_has_one_sign_at_most (has_right_wall (outline_of front)),
      ap (λ (l : List Sign). length l) are,
      length-append signs (s ∷ more),
    ))
    (got other.signs (length signs + i) (ap (λ (l : List Sign). slice_index_or l (length signs + i) Above) are
    ∙ get_back signs (s ∷ more) i (length signs + i) Above refl ∙ even))

-- what is asked for where the move has all its signs
then_told : (front : Word) (other : Move) (asked : Asked) (b : Behind) → IsLegal (front ++ other ∷ []) → IsAsked front other.signs asked → AreBehind front b
    → (low : Bool) → asked.passed.low ≡ low
    → (max (asked.passed.most + (asks_then b low).add) (asked.passed.aboves + (asks_then b low).most) ≤ strong_bound_of (front ++ other ∷ []))
    × (asked.passed.more + (asks_then b low).more ≤ weight_of (front ++ other ∷ []))
then_told front other asked b legal asked_is behind false is =
    asked_with_all front other legal (seen_passed asked.passed) false (behind_marks front) b.above
    (asked_is.counted other [] legal (sym (append-nil other.signs))) is (behind_marks_long front other legal)
    (marks_behind_shared front other legal) behind.above
then_told front other asked b legal asked_is behind true is =
    asked_with_all front other legal (seen_passed asked.passed) true (behind_marks front) b.under
    (asked_is.counted other [] legal (sym (append-nil other.signs))) is (behind_marks_long front other legal)
    (marks_behind_shared front other legal) behind.under

-- at the right wall nothing is asked for behind the sign even, so that what is too much with it is too much with any
none_at_wall : (o : Outline) (marks : List Bool) (asks : Asks) → has_right_wall o ≡ true → marks ≡ false ∷ []
    → AreAsks false (behind_signs o) (behind_sizes o) marks asks → (asks.add ≡ 0) × (asks.most ≡ 0) × (asks.more ≡ 0)
none_at_wall o marks asks wall none told = at (behind_signs o) (behind_sizes o) marks no_signs
    (ap (λ (b : Bool). cond b (1 ∷ []) (map (λ (s : List ℕ). length s) (drop (valley_place o.signs + 1) o.segments))) wall) none told
  where
    place : valley_place o.signs ≡ length o.signs
    place = eqb-true (valley_place o.signs) (length o.signs) wall

    no_signs : behind_signs o ≡ []
    no_signs = drop_all (valley_place o.signs + 1) o.signs (omega (arith, place))

    at : (signs : List Sign) (sizes : List ℕ) (marks : List Bool) → signs ≡ [] → sizes ≡ 1 ∷ [] → marks ≡ false ∷ []
        → AreAsks false signs sizes marks asks → (asks.add ≡ 0) × (asks.most ≡ 0) × (asks.more ≡ 0)
    at signs sizes marks e f g told = at_wall (subst (λ (l : List Sign). AreAsks false l (1 ∷ []) (false ∷ []) asks) e
        (subst (λ (l : List ℕ). AreAsks false signs l (false ∷ []) asks) f
        (subst (λ (l : List Bool). AreAsks false signs sizes l asks) g told)))
      where
        at_wall : AreAsks false [] (1 ∷ []) (false ∷ []) asks → (asks.add ≡ 0) × (asks.most ≡ 0) × (asks.more ≡ 0)
        at_wall told = (omega (arith, told.add_is), omega (arith, told.most_is), omega (arith, told.more_is))

over_at_wall : (front : Word) (b : Behind) (passed : Passed) (asks : Asks) (moves left : ℕ) → has_right_wall (outline_of front) ≡ true → AreBehind front b
    → IsOver passed b.even moves left → IsOver passed asks moves left
over_at_wall front b passed asks moves left wall behind over = cases
    (none_at_wall (outline_of front) (joined_marks front) b.even wall
    (ap (λ (w : Bool). cond w (false ∷ []) (wide_first (first_count front) (drop (valley_place (outline_of front).signs + 1) (outline_of front).segments)
    (touched_or_wide (first_count front) (edges_on_lines front) (drop (valley_place (outline_of front).signs + 1) (outline_of front).segments)))) wall)
    behind.even) over
  where
    cases : (b.even.add ≡ 0) × (b.even.most ≡ 0) × (b.even.more ≡ 0) → IsOver passed b.even moves left → IsOver passed asks moves left
    cases (add, most, more) (inl h) = inl (omega (arith, add, most, h))
    cases (add, most, more) (inr h) = inr (omega (arith, add, most, more, h))

-- a sum is more where its parts, one by one, are
weighed : (passed : Passed) (asks : Asks) (moves left : ℕ) → IsOver passed asks moves left
    → (moves < max (passed.most + asks.add) (passed.aboves + asks.most))
    ⊎ (left < max (passed.most + asks.add) (passed.aboves + asks.most) + (passed.more + asks.more))
weighed passed asks moves left (inl h) = inl h
weighed passed asks moves left (inr h) = inr (omega (arith, h))

-- a side without a sign is a wall
walled : (b : Bool) → open_side b ≡ 0 → b ≡ true
walled true e = refl
walled false e = absurd (omega (arith, e))

module _ {s : Search} {b : Begun} {around : Beside} (begun : IsMoveBegun s b around) (signs : List Sign) (asked : Asked)
    (asked_is : IsAsked s.board signs asked) where
  -- with all the signs of a move, which goes on by no other
  whole_is_barren : (other : Move) → other.count ≡ b.m.count → other.signs ≡ signs → IsLegal (s.board ++ other ∷ [])
      → IsOver asked.passed (asks_then around.behind asked.passed.low) around.ahead.moves b.next.left → IsNormalBarren s.order (s.board ++ other ∷ [])
  whole_is_barren other count are legal over =
      let both = then_told s.board other asked around.behind legal (subst (λ (l : List Sign). IsAsked s.board l asked) (sym are) asked_is)
      begun.around_is.behind_is asked.passed.low refl in
      strong_is_barred other
      (max (asked.passed.most + (asks_then around.behind asked.passed.low).add) (asked.passed.aboves + (asks_then around.behind asked.passed.low).most))
      (asked.passed.more + (asks_then around.behind asked.passed.low).more) begun count legal both.0 both.1
      (weighed asked.passed (asks_then around.behind asked.passed.low) around.ahead.moves b.next.left over)

  -- where all signs are there
  pub whole_is_barred : length signs ≡ b.next.wanted → IsOver asked.passed (asks_then around.behind asked.passed.low) around.ahead.moves b.next.left
      → BarsSigns s.order s.board b.m.count signs
  whole_is_barred at over = record { barren = λ other more count are. by_legal s.order (s.board ++ other ∷ []) (λ legal. whole other more count are legal) }
    where
      whole : (other : Move) (more : List Sign) → other.count ≡ b.m.count → other.signs ≡ signs ++ more → IsLegal (s.board ++ other ∷ [])
          → IsNormalBarren s.order (s.board ++ other ∷ [])
      whole other [] count are legal = whole_is_barren other count (are ∙ append-nil signs) legal over
      whole other (sign ∷ more) count are legal = absurd (omega (
        arith,
        (legal_rest start s.board (other ∷ []) legal).0.signs,
        count,
        begun.next_is.wanted_is,
        at,
        ap (λ (l : List Sign). length l) are,
        length-append signs (sign ∷ more),
      ))

  -- if others may follow the signs so far, too much asked for bars them
  pub begun_is_barred : open_side (has_left_wall (outline_of s.board)) ≤ length signs → length signs ≤ b.next.own
      → IsOver asked.passed around.behind.even around.ahead.moves b.next.left → BarsSigns s.order s.board b.m.count signs
  begun_is_barred from own over = record {
    barren = λ other more count are. apart_from_own s.order s.board other (λ move none.
        by_legal s.order (s.board ++ other ∷ []) (λ legal. goes_on other more count are move none legal));
  }
    where
      goes_on : (other : Move) (more : List Sign) → other.count ≡ b.m.count → other.signs ≡ signs ++ more → IsLegalMove (outline_of s.board) other
          → ((i : ℕ) → open_side (has_left_wall (outline_of s.board)) ≤ i → i < open_side (has_left_wall (outline_of s.board)) + (other.count - 1)
          → slice_get other.signs i ≡ Some Even → ⊥) → IsLegal (s.board ++ other ∷ []) → IsNormalBarren s.order (s.board ++ other ∷ [])
      goes_on other [] count are move none legal = whole_is_barren other count (are ∙ append-nil signs) legal
          (over_at_wall s.board around.behind asked.passed (asks_then around.behind asked.passed.low) around.ahead.moves b.next.left
          (walled (has_right_wall (outline_of s.board)) (omega (
            arith,
            own,
            move.signs,
            move.some,
            count,
            begun.next_is.own_is,
            ap (λ (l : List Sign). length l) (are ∙ append-nil signs),
          ))) begun.around_is.behind_is over)
      goes_on other (sign ∷ more) count are move none legal =
          let both = asked_with_some s.board other legal (seen_passed asked.passed) signs sign more around.behind.even are (asked_is.counted other
          (sign ∷ more) legal are)
          (parted s.board other signs sign more move are from none) begun.around_is.behind_is.even in
          strong_is_barred other (max (asked.passed.most + around.behind.even.add) (asked.passed.aboves + around.behind.even.most))
          (asked.passed.more + around.behind.even.more) begun count legal both.0 both.1
          (weighed asked.passed around.behind.even around.ahead.moves b.next.left over)
