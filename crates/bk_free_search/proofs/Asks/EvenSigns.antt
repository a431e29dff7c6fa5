-- How many signs of a next move are even: none between its own squares, so no more than it has neighbours.
use Rattle.std.proofs.Common.{List, Some, [], ap, append-nil, arith, cond, count_by, inl, inr, length, refl, slice_get, suc, sym}
use Rattle.std.proofs.Common.{zero, ℕ, ◌++◌, ◌+◌, ◌-◌, ◌<◌, ◌∙◌, ◌∷◌}
use Rattle.std.proofs.Common.{◌≡◌, ◌≤◌, ◌⊎◌}
use Rattle.std.proofs.lemmas.Bool.{cases_lt}
use Rattle.std.proofs.lemmas.List.{append_assoc, length-append}
use Rattle.std.proofs.lemmas.List.Sums.{sum_by-append}
use Rattle.bk_word.specs.Outline.{IsLegalMove, has_left_wall, has_right_wall, open_side, start}
use Rattle.bk_word.specs.Play.{outline_of}
use Rattle.bk_word.specs.Signs.{is_even}
use Rattle.bk_word.specs.Word.{Move, Word, order_of}
use Rattle.bk_word.specs.declared.Sign.{Sign}
use Rattle.bk_word.specs.declared.Sign.TheVariants.{Above, Even, Under}
use Rattle.bk_word.proofs.PlayLaws.{legal_rest, side_has_one_sign_at_most}
use Rattle.bk_layout.proofs.FreeCuts.CutsOfTilings.{even_squares_are_free_barren}
use Rattle.bk_layout.proofs.FreeCuts.SquaresLeft.{evens-cons, evens_most}
use Rattle.bk_layout.specs.NormalCuts.{IsNormalBarren}
use Rattle.bk_free_search.proofs.NextWords.Cutting.{by_legal, contained, cut, normal}
use Rattle.bk_free_search.specs.AskedSigns.{AreEvensNeeded}

-- the even signs of two lists put together are as many as those of one and of the other
pub evens_append : (xs ys : List Sign) → count_by is_even (xs ++ ys) ≡ count_by is_even xs + count_by is_even ys
evens_append xs ys = sum_by-append (λ x. cond (is_even x) 1 0) xs ys

-- what stands behind some signs
behind_get : (xs ys : List Sign) (i : ℕ) → slice_get (xs ++ ys) (length xs + i) ≡ slice_get ys i
behind_get [] ys i = let e : 0 + i ≡ i = omega arith in ap (slice_get ys) e
behind_get (x ∷ xs) ys i = let e : suc (length xs) + i ≡ suc (length xs + i) = omega arith in
    ap (slice_get (x ∷ (xs ++ ys))) e ∙ behind_get xs ys i

-- one more sign, which is even only where no more than so many stand there
with_one : (s : Sign) (signs : List Sign) (b : ℕ) → count_by is_even signs ≤ b → (0 + b < length (s ∷ signs) → Some s ≡ Some Even → ⊥)
    → count_by is_even (s ∷ signs) ≤ b
with_one s signs b rest not = cases (cases_lt (length signs) b)
  where
    none : (t : Sign) → (Some t ≡ Some Even → ⊥) → count_by is_even (t ∷ signs) ≡ count_by is_even signs
    none Above apart = omega (arith, evens-cons Above signs)
    none Even apart = absurd (apart refl)
    none Under apart = omega (arith, evens-cons Under signs)

    cases : (length signs < b) ⊎ (b ≤ length signs) → count_by is_even (s ∷ signs) ≤ b
    cases (inl h) = omega (arith, h, evens_most (s ∷ signs))
    cases (inr h) = omega (arith, rest, none s (not (omega (arith, h))))

-- at most so many signs are even where all but the last so many aren't
evens_last : (signs : List Sign) (b : ℕ) → ((i : ℕ) → i + b < length signs → slice_get signs i ≡ Some Even → ⊥) → count_by is_even signs ≤ b
evens_last [] b not = omega arith
evens_last (s ∷ signs) b not = with_one s signs b (evens_last signs b (λ i low e. not (suc i) (omega (arith, low)) e)) (not 0)

-- where of the signs only the first a, no more than one, and the last b may be even, at most a + b are
pub evens_ends : (signs : List Sign) (a b : ℕ) → a ≤ 1 → ((i : ℕ) → a ≤ i → i + b < length signs → slice_get signs i ≡ Some Even → ⊥)
    → count_by is_even signs ≤ a + b
evens_ends signs zero b few not = omega (arith, evens_last signs b (λ i. not i (omega arith)))
evens_ends [] (suc a) b few not = omega arith
evens_ends (s ∷ signs) (suc a) b few not = omega (
  arith,
  evens_last signs b (λ i low e. not (suc i) (omega (arith, few)) (omega (arith, low)) e),
  one s,
)
  where
    one : (t : Sign) → count_by is_even (t ∷ signs) ≤ 1 + count_by is_even signs
    one Above = omega (arith, evens-cons Above signs)
    one Even = omega (arith, evens-cons Even signs)
    one Under = omega (arith, evens-cons Under signs)

module _ (n : ℕ) (front : Word) (m : Move) where
  -- which no word goes on by
  own_even_is_barred : (i : ℕ) → open_side (has_left_wall (outline_of front)) ≤ i → i < open_side (has_left_wall (outline_of front)) + (m.count - 1)
      → slice_get m.signs i ≡ Some Even → IsNormalBarren n (front ++ m ∷ [])
  own_even_is_barred i from to even = normal n (front ++ m ∷ []) (cut n (front ++ m ∷ []) (even_squares_are_free_barren n front m
      (contained (open_side (has_left_wall (outline_of front))) (m.count - 1) i m.signs Even from to even)))

  -- a move is barren if it is where none of the signs between its own squares is even
  pub apart_from_own : (IsLegalMove (outline_of front) m
      → ((i : ℕ) → open_side (has_left_wall (outline_of front)) ≤ i → i < open_side (has_left_wall (outline_of front)) + (m.count - 1)
      → slice_get m.signs i ≡ Some Even → ⊥) → IsNormalBarren n (front ++ m ∷ [])) → IsNormalBarren n (front ++ m ∷ [])
  apart_from_own barren = by_legal n (front ++ m ∷ []) (λ legal l w rest sound is_normal word keeps is.
      barren (legal_rest start front (m ∷ []) legal).0
      (λ i from to even. own_even_is_barred i from to even l w rest sound is_normal word keeps is) l w rest sound is_normal word keeps is)

-- no next move has as many even signs as are needed where they are more than its neighbours
pub next_lacks_evens : (n : ℕ) (front : Word) (evens : ℕ) → AreEvensNeeded n front evens
    → open_side (has_left_wall (outline_of front)) + open_side (has_right_wall (outline_of front)) < evens → (m : Move) → IsNormalBarren n (front ++ m ∷ [])
next_lacks_evens n front evens needed over m = apart_from_own n front m (λ legal not. needed m (omega (
  arith,
  over,
  evens_ends m.signs (open_side (has_left_wall (outline_of front))) (open_side (has_right_wall (outline_of front)))
      (side_has_one_sign_at_most (has_left_wall (outline_of front))) (λ i from to even. not i from (omega (arith, to, legal.signs, legal.some)) even),
)))

-- no next move has as many even signs as are needed where its first signs have fewer, by more than may still come
pub signs_lack_evens : (n : ℕ) (front : Word) (signs : List Sign) (other : Move) (more : List Sign) (evens still : ℕ) → AreEvensNeeded n front evens
    → 0 < length signs → other.signs ≡ signs ++ more → count_by is_even signs + still < evens
    → (length signs + 1 < other.count + open_side (has_left_wall (outline_of front)) + open_side (has_right_wall (outline_of front))
    → open_side (has_right_wall (outline_of front)) ≤ still)
    → IsNormalBarren n (front ++ other ∷ [])
signs_lack_evens n front signs other more evens still needed some are over may = apart_from_own n front other (λ legal not. needed other (omega (
  arith,
  over,
  ap (count_by is_even) are,
  evens_append signs more,
  rest legal not more are,
)))
  where
    rest : IsLegalMove (outline_of front) other
        → ((i : ℕ) → open_side (has_left_wall (outline_of front)) ≤ i → i < open_side (has_left_wall (outline_of front)) + (other.count - 1)
        → slice_get other.signs i ≡ Some Even → ⊥) → (more : List Sign) → other.signs ≡ signs ++ more → count_by is_even more ≤ still
    rest legal not [] e = omega arith
    rest legal not (s ∷ more) e = omega (
      arith,
      may (omega (arith, legal.signs, ap length e, length-append signs (s ∷ more))),
      evens_last (s ∷ more) (open_side (has_right_wall (outline_of front))) (λ i low even. not (length signs + i)
          (omega (arith, some, side_has_one_sign_at_most (has_left_wall (outline_of front))))
          (omega (arith, low, legal.signs, legal.some, ap length e, length-append signs (s ∷ more)))
          (ap (λ l. slice_get l (length signs + i)) e ∙ behind_get signs (s ∷ more) i ∙ even)),
    )

-- with one sign more
pub evens_more : (signs : List Sign) (s : Sign) (before one : ℕ) → before ≡ count_by is_even signs → one ≡ cond (is_even s) 1 0
    → before + one ≡ count_by is_even (signs ++ s ∷ [])
evens_more signs s before one b o = omega (arith, b, o, evens_append signs (s ∷ []), evens-cons s [])

-- a board from which no word goes on by any move
pub none_goes_on : (n : ℕ) (front : Word) → order_of front < n → ((m : Move) → IsNormalBarren n (front ++ m ∷ [])) → IsNormalBarren n front
none_goes_on n front few none l w rest sound is_normal word keeps is = at rest is
  where
    at : (rest : Word) → w ≡ front ++ rest → ⊥
    at [] e = omega (arith, few, sound.squares, word.order, ap order_of (e ∙ append-nil front))
    at (m ∷ more) e = none m l w more sound is_normal word keeps (e ∙ sym (append_assoc front (m ∷ []) more))
