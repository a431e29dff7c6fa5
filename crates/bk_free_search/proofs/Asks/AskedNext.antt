-- What is asked for with one sign more.
use Rattle.std.proofs.Common.{Bool, List, [], ap, append_assoc, arith, cond, false, inl, inr, length, min, nat_eq, refl, slice_index_or, subst}
use Rattle.std.proofs.Common.{sym, true, ℕ, ◌++◌, ◌+◌, ◌-◌, ◌∙◌, ◌∷◌, ◌≡◌, ◌≤◌, ◌⊎◌}
use Rattle.std.proofs.lemmas.Bool.{eqb-false, eqb-true}
use Rattle.std.proofs.lemmas.List.{get_or-map, length-append}
use Rattle.bk_laws.proofs.ListPlaces.{get_back}
use Rattle.bk_word.specs.Outline.{has_left_wall, open_side, sizes_of, valley_of, valley_place}
use Rattle.bk_word.specs.Play.{IsLegal, outline_of}
use Rattle.bk_word.specs.Signs.{is_even, is_under}
use Rattle.bk_word.specs.Word.{Move, Word}
use Rattle.bk_word.specs.declared.Sign.{Sign}
use Rattle.bk_word.specs.declared.Sign.TheVariants.{Above, Even, Under}
use Rattle.bk_word.proofs.PlayLists.{place_within}
use Rattle.bk_catalogue.specs.VerticalCut.{begins_on_line, edges_on_lines}
use Rattle.bk_layout.specs.StrongPass.{Passed as SeenPassed, pass}
use Rattle.bk_layout.specs.WordNumbers.{first_count}
use Rattle.bk_free_search.proofs.Asks.AskedBefore.{marked_own, past_left, past_own}
use Rattle.bk_free_search.proofs.Asks.CountedSigns.{shape}
use Rattle.bk_free_search.proofs.Asks.EvenSigns.{evens_more}
use Rattle.bk_free_search.proofs.Asks.SharedAround.{mark_before_valley, mark_of_left}
use Rattle.bk_free_search.specs.Apart.{IsCountedTo, marks_apart, marks_of_word}
use Rattle.bk_free_search.specs.AskedSigns.{AreFewAsks, IsAsked}
use Rattle.bk_free_search.specs.Strong.{IsFewPassed, seen_passed, with_mark}
use Rattle.bk_free_search.specs.declared.asking.Asked.{Asked}
use Rattle.bk_free_search.specs.declared.counts.TheConstants.{FEW}
use Rattle.bk_free_search.specs.declared.behind.Asks.{Asks}
use Rattle.bk_free_search.specs.declared.strong.Passed.{Passed}

-- behind the sign at a left neighbour, or at the left wall
pub inside : (front : Word) (signs : List Sign) → open_side (has_left_wall (outline_of front)) ≤ length signs
    → min (valley_place (outline_of front).signs) 1 ≤ length signs
inside front signs from = omega (arith, from, few (valley_place (outline_of front).signs) (has_left_wall (outline_of front)) refl)
  where
    few : (p : ℕ) (b : Bool) → nat_eq p 0 ≡ b → min p 1 ≤ open_side b
    few p true e = omega (arith, eqb-true p 0 e)
    few p false e = omega arith

-- the sign behind which a pass stands
low_by : (p : SeenPassed) (sign : Sign) (size : ℕ) (mark : Bool) → (pass p sign size mark).low ≡ is_under sign
low_by p Above size mark = refl
low_by p Even size mark = refl
low_by p Under size mark = refl

few_at : (passed : Passed) (k n : ℕ) → k ≡ n → IsFewPassed passed k → IsFewPassed passed n
few_at passed k n e few = record { most = omega (arith, e, few.most); aboves = omega (arith, e, few.aboves); more = omega (arith, e, few.more) }

-- numbers that are small after a pass over some segments are small after one over more
pub few_up : (passed : Passed) (k n : ℕ) → k ≤ n → IsFewPassed passed k → IsFewPassed passed n
few_up passed k n h few = record { most = omega (arith, h, few.most); aboves = omega (arith, h, few.aboves); more = omega (arith, h, few.more) }

-- behind an own square
pub asked_own : (front : Word) (signs : List Sign) (sign : Sign) (asked : Asked) (passed : Passed) (one : ℕ)
    → min (valley_place (outline_of front).signs) 1 ≤ length signs
    → IsAsked front signs asked → seen_passed passed ≡ pass (seen_passed asked.passed) sign 1 false
    → ((k : ℕ) → IsFewPassed asked.passed k → IsFewPassed passed (k + 1)) → one ≡ cond (is_even sign) 1 0
    → IsAsked front (signs ++ sign ∷ []) (record { passed = passed; evens = asked.evens + one })
asked_own front signs sign asked passed one inside is past few even = record {
  counted = λ m more legal are. subst (IsCountedTo front m (valley_place (outline_of front).signs - 1 + length (signs ++ sign ∷ []))) (sym past)
      (past_own front m legal signs sign more (seen_passed asked.passed) are inside
      (is.counted m (sign ∷ more) legal (are ∙ append_assoc signs (sign ∷ []) more)));
  low_is = λ some. ap (λ (p : SeenPassed). p.low) past ∙ low_by (seen_passed asked.passed) sign 1 false
      ∙ sym (ap is_under (get_back signs (sign ∷ []) 0 (length (signs ++ sign ∷ []) - 1) Above (omega (arith, length-append signs (sign ∷ [])))));
  evens_are = evens_more signs sign asked.evens one is.evens_are even;
  few = few_at passed (FEW + length signs + 1) (FEW + length (signs ++ sign ∷ [])) (omega (arith, length-append signs (sign ∷ []))) (few
      (FEW + length signs) is.few);
}

-- numbers that segments behind the valley ask for, small at a count, are small above it
pub few_behind : (asks : Asks) (k n : ℕ) → k ≤ n → AreFewAsks asks k → AreFewAsks asks n
few_behind asks k n h few = record { add = omega (arith, h, few.add); most = omega (arith, h, few.most); more = omega (arith, h, few.more) }

-- what is counted before the valley is asked for before the first sign
pub asked_none : (front : Word) (passed : Passed) (place : ℕ) → place ≡ valley_place (outline_of front).signs - 1 → place ≤ 40
    → ((m : Move) → IsLegal (front ++ m ∷ []) → IsCountedTo front m place (seen_passed passed)) → IsFewPassed passed place
    → IsAsked front [] (record { passed = passed; evens = 0 })
asked_none front passed place at small counted few = record {
  counted = λ m more legal are. subst (λ (k : ℕ). IsCountedTo front m k (seen_passed passed)) next (counted m legal);
  low_is = λ some. absurd (omega (arith, some));
  evens_are = refl;
  few = record { most = omega (arith, few.most, small); aboves = omega (arith, few.aboves, small); more = omega (arith, few.more, small) };
}
  where
    next : place ≡ valley_place (outline_of front).signs - 1 + 0
    next = omega (arith, at)

module _ (front : Word) (place : ℕ) (at : place + 1 ≡ valley_place (outline_of front).signs) (p passed : Passed) (few : IsFewPassed p FEW)
    (counted : (m : Move) → IsLegal (front ++ m ∷ []) → IsCountedTo front m place (seen_passed p)) (small : (k : ℕ) → IsFewPassed p k
    → IsFewPassed passed (k + 1)) where
  few_left : IsFewPassed passed (FEW + 1)
  few_left = small FEW few

  before : valley_place (outline_of front).signs - 1 ≡ place
  before = omega (arith, at)

  -- with the sign even at a left neighbour
  pub asked_even : (mark : Bool) → seen_passed passed ≡ pass (seen_passed p) Even 1 mark
      → (mark ≡ true → (slice_index_or (marks_of_word front) place false ≡ true)
      ⊎ (first_count front ≤ slice_index_or (sizes_of (outline_of front)) place 0 + 1)) → IsAsked front (Even ∷ []) (record { passed = passed; evens = 1 })
  asked_even mark past wide = record {
    counted = λ m more legal are. subst (IsCountedTo front m (valley_place (outline_of front).signs - 1 + length (Even ∷ []))) (sym past)
        (past_left front m legal place (seen_passed p) Even more mark at are (λ e. absurd (cc)) (counted m legal) (λ e. share m more legal are (wide e)));
    low_is = λ some. ap (λ (q : SeenPassed). q.low) past;
    evens_are = refl;
    few = few_left;
  }
    where
      share : (m : Move) (more : List Sign) → IsLegal (front ++ m ∷ []) → m.signs ≡ Even ∷ more
          → (slice_index_or (marks_of_word front) place false ≡ true) ⊎ (first_count front ≤ slice_index_or (sizes_of (outline_of front)) place 0 + 1)
          → slice_index_or (marks_apart front m) (valley_place (outline_of front).signs - 1) false ≡ true
      share m more legal are (inl e) = mark_before_valley front m legal (valley_place (outline_of front).signs - 1) (omega (arith, at))
          (ap (λ j. slice_index_or (marks_of_word front) j false) before ∙ e)
      share m more legal are (inr h) = mark_of_left front m legal (omega (arith, at)) (ap (λ (l : List Sign). slice_index_or l 0 Above) are)
          (omega (
            arith,
            h,
            ap (λ j. length (slice_index_or (outline_of front).segments j [])) before,
            get_or-map length (outline_of front).segments place [] 0 (omega (arith, at, place_within (outline_of front).signs, (shape front m legal).many)),
          ))

  -- with the sign under at a left neighbour, a pass is counted to that neighbour
  under_counted : (mark : Bool) → seen_passed passed ≡ pass (seen_passed p) Under 1 mark → (mark ≡ true
      → slice_index_or (marks_of_word front) place false ≡ true)
      → (m : Move) (more : List Sign) → IsLegal (front ++ m ∷ []) → m.signs ≡ Under ∷ more
      → IsCountedTo front m (valley_place (outline_of front).signs - 1 + length (Under ∷ [])) (seen_passed passed)
  under_counted mark past marked m more legal are =
      subst (IsCountedTo front m (valley_place (outline_of front).signs - 1 + length (Under ∷ []))) (sym past)
      (past_left front m legal place (seen_passed p) Under more mark at are (λ e. absurd (cc)) (counted m legal)
      (λ e. mark_before_valley front m legal (valley_place (outline_of front).signs - 1) (omega (arith, at))
      (ap (λ j. slice_index_or (marks_of_word front) j false) before ∙ marked e)))

  -- with the sign under first, a pass over the left neighbour gives what is asked for, with no even sign
  pub asked_under : (mark : Bool) → seen_passed passed ≡ pass (seen_passed p) Under 1 mark → (mark ≡ true
      → slice_index_or (marks_of_word front) place false ≡ true)
      → IsAsked front (Under ∷ []) (record { passed = passed; evens = 0 })
  asked_under mark past marked = record {
    counted = under_counted mark past marked;
    low_is = λ some. ap (λ (q : SeenPassed). q.low) past;
    evens_are = refl;
    few = few_left;
  }

  -- where a line from the top stands there
  pub asked_on_line : (mark : Bool) (then : Passed) → seen_passed passed ≡ pass (seen_passed p) Under 1 mark
      → (mark ≡ true → slice_index_or (marks_of_word front) place false ≡ true) → seen_passed then ≡ with_mark (seen_passed passed)
      → ((k : ℕ) → IsFewPassed passed k → IsFewPassed then k) → begins_on_line (edges_on_lines front) (valley_of (outline_of front)) ≡ true
      → IsAsked front (Under ∷ []) (record { passed = then; evens = 0 })
  asked_on_line mark then past marked more_is few_then line = record {
    counted = λ m more legal are. subst (IsCountedTo front m (valley_place (outline_of front).signs - 1 + length (Under ∷ []))) (sym more_is)
        (marked_own front m legal (seen_passed passed) (omega (arith, at)) line (under_counted mark past marked m more legal are));
    low_is = λ some. ap (λ (q : SeenPassed). q.low) more_is ∙ ap (λ (q : SeenPassed). q.low) past;
    evens_are = refl;
    few = few_then (FEW + 1) few_left;
  }

-- a valley without a wall at its left isn't the first segment
pub left_apart : (front : Word) → has_left_wall (outline_of front) ≡ false → valley_place (outline_of front).signs ≡ 0 → ⊥
left_apart front e z = eqb-false (valley_place (outline_of front).signs) 0 e z
