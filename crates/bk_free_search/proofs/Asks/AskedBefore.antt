-- What the segments before the valley ask for, with a next move's signs one by one: a pass over them goes on to no more than the strong bound.
use Rattle.std.proofs.Common.{Bool, List, [], ap, append_assoc, arith, false, length, min, refl, slice_index_or, subst, suc, true, zero, ℕ}
use Rattle.std.proofs.Common.{◌++◌, ◌+◌, ◌-◌, ◌<◌, ◌∙◌, ◌∷◌, ◌≡◌, ◌≤◌}
use Rattle.std.proofs.lemmas.List.{length-append}
use Rattle.bk_laws.proofs.ListPlaces.{get_back}
use Rattle.bk_word.specs.Outline.{valley_of, valley_place}
use Rattle.bk_word.specs.Play.{IsLegal, outline_of, signs_apart}
use Rattle.bk_word.specs.Word.{Move, Word}
use Rattle.bk_word.specs.declared.Sign.{Sign}
use Rattle.bk_word.specs.declared.Sign.TheVariants.{Above, Even, Under}
use Rattle.bk_catalogue.specs.VerticalCut.{begins_on_line, edges_on_lines}
use Rattle.bk_layout.specs.StrongPass.{Passed, pass}
use Rattle.bk_free_search.proofs.Asks.CountedSigns.{counted_mark, counted_more, legal_move, move_long, sign_at, sign_before, signs_long, size_at}
use Rattle.bk_free_search.specs.Strong.{with_mark}
use Rattle.bk_free_search.proofs.Asks.SharedAround.{mark_before_valley, mark_of_first}
use Rattle.bk_free_search.specs.Apart.{IsCountedTo, marks_apart, marks_of_word, sizes_apart}

-- but where the sign behind it is above, it is all one how many squares a segment has
any_size : (p : Passed) (sign : Sign) (size : ℕ) (mark : Bool) → (sign ≡ Above → ⊥) → pass p sign size mark ≡ pass p sign 1 mark
any_size p Above size mark not = absurd (not refl)
any_size p Even size mark not = refl
any_size p Under size mark not = refl

-- no sign before the valley is above
none_above : (signs : List Sign) (i : ℕ) → i < valley_place signs → slice_index_or signs i Above ≡ Above → ⊥
none_above [] i h e = absurd (omega (arith, h))
none_above (Above ∷ signs) i h e = absurd (omega (arith, h))
none_above (Even ∷ signs) zero h e = absurd (cc)
none_above (Even ∷ signs) (suc i) h e = none_above signs i (omega (arith, h)) e
none_above (Under ∷ signs) zero h e = absurd (cc)
none_above (Under ∷ signs) (suc i) h e = none_above signs i (omega (arith, h)) e

module _ (front : Word) (m : Move) (legal : IsLegal (front ++ m ∷ [])) where
  -- a segment before the left neighbour
  pub past_before : (i : ℕ) (p : Passed) (mark : Bool) → i + 1 < valley_place (outline_of front).signs → IsCountedTo front m i p
      → (mark ≡ true → slice_index_or (marks_of_word front) i false ≡ true)
      → IsCountedTo front m (i + 1) (pass p (slice_index_or (outline_of front).signs i Above) 1 mark)
  past_before i p mark low h k = subst (IsCountedTo front m (i + 1))
      (any_size p (slice_index_or (outline_of front).signs i Above) (slice_index_or (sizes_apart front m) i 0) mark
      (none_above (outline_of front).signs i (omega (arith, low))))
      (counted_more front m legal i p (slice_index_or (outline_of front).signs i Above) (slice_index_or (sizes_apart front m) i 0) mark
      (omega (arith, low, signs_long front m legal)) h (sign_before front m legal i low) refl
      (λ e. mark_before_valley front m legal i (omega (arith, low)) (k e)))

  -- the left neighbour, with the move's first sign
  pub past_left : (i : ℕ) (p : Passed) (sign : Sign) (more : List Sign) (mark : Bool) → i + 1 ≡ valley_place (outline_of front).signs → m.signs ≡ sign ∷ more
      → (sign ≡ Above → ⊥) → IsCountedTo front m i p
      → (mark ≡ true → slice_index_or (marks_apart front m) (valley_place (outline_of front).signs - 1) false ≡ true)
      → IsCountedTo front m (valley_place (outline_of front).signs - 1 + length (sign ∷ [])) (pass p sign 1 mark)
  past_left i p sign more mark at are not h k = subst (λ (j : ℕ). IsCountedTo front m j (pass p sign 1 mark)) next
      (subst (IsCountedTo front m (i + 1)) (any_size p sign (slice_index_or (sizes_apart front m) i 0) mark not)
      (counted_more front m legal i p sign (slice_index_or (sizes_apart front m) i 0) mark
      (omega (arith, at, signs_long front m legal, ap (λ (l : List Sign). length l) are)) h
      (ap (λ j. slice_index_or (signs_apart (outline_of front) m) j Above) here
      ∙ sign_at front m legal 0 (omega (arith, ap (λ (l : List Sign). length l) are)) ∙ ap (λ (l : List Sign). slice_index_or l 0 Above) are) refl
      (λ e. ap (λ j. slice_index_or (marks_apart front m) j false) before ∙ k e)))
    where
      next : i + 1 ≡ valley_place (outline_of front).signs - 1 + length (sign ∷ [])
      next = omega (arith, at)

      here : i ≡ valley_place (outline_of front).signs - 1 + 0
      here = omega (arith, at)

      before : i ≡ valley_place (outline_of front).signs - 1
      before = omega (arith, at)

  -- an own square
  pub past_own : (signs : List Sign) (sign : Sign) (more : List Sign) (p : Passed) → m.signs ≡ (signs ++ sign ∷ []) ++ more
      → min (valley_place (outline_of front).signs) 1 ≤ length signs
      → IsCountedTo front m (valley_place (outline_of front).signs - 1 + length signs) p
      → IsCountedTo front m (valley_place (outline_of front).signs - 1 + length (signs ++ sign ∷ [])) (pass p sign 1 false)
  past_own signs sign more p are some h = subst (λ (j : ℕ). IsCountedTo front m j (pass p sign 1 false)) next
      (counted_more front m legal (valley_place (outline_of front).signs - 1 + length signs) p sign 1 false
      (omega (arith, long, signs_long front m legal)) h
      (sign_at front m legal (length signs) (omega (arith, long))
      ∙ ap (λ (l : List Sign). slice_index_or l (length signs) Above) (are ∙ append_assoc signs (sign ∷ []) more)
      ∙ get_back signs (sign ∷ more) 0 (length signs) Above (omega arith))
      (ap (λ j. slice_index_or (sizes_apart front m) j 0) here
      ∙ size_at front m legal (valley_place (outline_of front).signs - 1 + length signs - valley_place (outline_of front).signs)
      (omega (arith, long, some, move_long front m legal, (legal_move front m legal).some))) (λ e. absurd (cc)))
    where
      long : length m.signs ≡ length signs + 1 + length more
      long = omega (arith, ap (λ (l : List Sign). length l) are, length-append (signs ++ sign ∷ []) more, length-append signs (sign ∷ []))

      next : valley_place (outline_of front).signs - 1 + length signs + 1 ≡ valley_place (outline_of front).signs - 1 + length (signs ++ sign ∷ [])
      next = omega (arith, length-append signs (sign ∷ []))

      here : valley_place (outline_of front).signs - 1 + length signs
          ≡ valley_place (outline_of front).signs + (valley_place (outline_of front).signs - 1 + length signs - valley_place (outline_of front).signs)
      here = omega (arith, some)

  -- the first own square may be marked
  pub marked_own : (p : Passed) → 0 < valley_place (outline_of front).signs → begins_on_line (edges_on_lines front) (valley_of (outline_of front)) ≡ true
      → IsCountedTo front m (valley_place (outline_of front).signs - 1 + 1) p
      → IsCountedTo front m (valley_place (outline_of front).signs - 1 + 1) (with_mark p)
  marked_own p h line counted = counted_mark front m legal (valley_place (outline_of front).signs - 1 + 1) p
      (omega (arith, h, signs_long front m legal, move_long front m legal, (legal_move front m legal).some)) counted
      (ap (λ j. slice_index_or (marks_apart front m) j false) at ∙ mark_of_first front m legal line)
    where
      at : valley_place (outline_of front).signs - 1 + 1 ≡ valley_place (outline_of front).signs
      at = omega (arith, h)
