-- Each square of a layout is one of its word.
use Rattle.std.proofs.Common.{Some, ap, arith, inl, inr, length, map, slice_get, suc, sym, zero, ℕ, ◌<◌, ◌∙◌, ◌∷◌, ◌≡◌, ◌≤◌, ◌⊎◌}
use Rattle.std.proofs.lemmas.List.{length-map}
use Rattle.std.proofs.lemmas.Bool.{cases_eq}
use Rattle.std.proofs.lemmas.Option.{same_Some, slice_get_within}
use Rattle.bk_laws.proofs.Occurrences.{slice_get-of_times_positive, times, times-le_one_of_unique_place}
use Rattle.bk_laws.proofs.ListPlaces.{get_map}
use Rattle.bk_laws.proofs.NumberOrder.{zero_or_positive}
use Rattle.bk_laws.proofs.TestsAsNumbers.{cond_count-nat_eq_other, cond_count-nat_eq_same}
use Rattle.bk_word.proofs.PlayLists.{numbers-length}
use Rattle.bk_word.specs.Play.{numbers_from, outline_of}
use Rattle.bk_word.specs.Word.{Word}
use Rattle.bk_layout.proofs.Lists.Counting.{at_most}
use Rattle.bk_layout.specs.Layout.{Fits, Layout}
use Rattle.bk_layout.specs.LayoutLaws.{IsWordOfLayout}
use Rattle.bk_layout.proofs.NormalCuts.MarkedSquares.{numbers_at}
use Rattle.bk_layout.proofs.FreeCuts.SharedLines.{hung_w, square_apart, square_low}

module _ (l : Layout) (fits : Fits l) (w : Word) (word : IsWordOfLayout l w) where
  -- ---- each square of the layout is one of the word

  at_place : (k : ℕ) → k < length (outline_of w).hung → slice_get (map word.square (numbers_from 0 (length (outline_of w).hung))) k ≡ Some (word.square k)
  at_place k h = get_map word.square (numbers_from 0 (length (outline_of w).hung)) k k (numbers_at 0 (length (outline_of w).hung) k h
      ∙ ap (λ (x : ℕ). Some x) (omega arith))

  long : length (map word.square (numbers_from 0 (length (outline_of w).hung))) ≡ length (outline_of w).hung
  long = length-map (numbers_from 0 (length (outline_of w).hung)) word.square ∙ numbers-length 0 (length (outline_of w).hung)

  low_place : (k q : ℕ) → slice_get (map word.square (numbers_from 0 (length (outline_of w).hung))) k ≡ Some q
      → (k < length (outline_of w).hung) × (word.square k ≡ q)
  low_place k q e = (below, same_Some (word.square k) q (sym (at_place k below) ∙ e))
    where
      below : k < length (outline_of w).hung
      below = omega (arith, slice_get_within (map word.square (numbers_from 0 (length (outline_of w).hung))) k q e, long)

  few : (q : ℕ) → times q (map word.square (numbers_from 0 (length (outline_of w).hung))) ≤ 1
  few q = times-le_one_of_unique_place (map word.square (numbers_from 0 (length (outline_of w).hung))) q
      (λ j k e f. square_apart l fits w word j k (low_place j q e).0 (low_place k q f).0 ((low_place j q e).1 ∙ sym (low_place k q f).1))

  -- each square of the layout has a number in the word
  pub numbered_square : (q : ℕ) → q < l.squares → (k : ℕ) × (k < length (outline_of w).hung) × (word.square k ≡ q)
  numbered_square q h = cases (zero_or_positive (times q (map word.square (numbers_from 0 (length (outline_of w).hung)))))
    where
      none : times q (map word.square (numbers_from 0 (length (outline_of w).hung))) ≡ 0 → ⊥
      none e = omega (arith, long, hung_w l fits w word, at_most l.squares (q ∷ map word.square (numbers_from 0 (length (outline_of w).hung))) low once)
        where
          low : (x : ℕ) → 0 < times x (q ∷ map word.square (numbers_from 0 (length (outline_of w).hung))) → x < l.squares
          low x k = by_place (slice_get-of_times_positive (q ∷ map word.square (numbers_from 0 (length (outline_of w).hung))) x k)
            where
              by_place : (j : ℕ) × (slice_get (q ∷ map word.square (numbers_from 0 (length (outline_of w).hung))) j ≡ Some x) → x < l.squares
              by_place (zero, g) = omega (arith, h, same_Some q x g)
              by_place (suc j, g) = omega (arith, square_low l fits w word j (low_place j x g).0, (low_place j x g).1)

          once : (x : ℕ) → x < l.squares → times x (q ∷ map word.square (numbers_from 0 (length (outline_of w).hung))) ≤ 1
          once x k = same (cases_eq x q)
            where
              same : (x ≡ q) ⊎ (x ≡ q → ⊥) → times x (q ∷ map word.square (numbers_from 0 (length (outline_of w).hung))) ≤ 1
              same (inl g) =
                  omega (arith, cond_count-nat_eq_same x q g, ap (λ (y : ℕ). times y (map word.square (numbers_from 0 (length (outline_of w).hung)))) g, e)
              same (inr g) = omega (arith, cond_count-nat_eq_other x q g, few x)

      cases : (times q (map word.square (numbers_from 0 (length (outline_of w).hung))) ≡ 0)
          ⊎ (0 < times q (map word.square (numbers_from 0 (length (outline_of w).hung)))) → (k : ℕ) × (k < length (outline_of w).hung) × (word.square k ≡ q)
      cases (inl e) = absurd (none e)
      cases (inr k) = let g = slice_get-of_times_positive (map word.square (numbers_from 0 (length (outline_of w).hung))) q k in
          (g.0, (low_place g.0 q g.1).0, (low_place g.0 q g.1).1)
