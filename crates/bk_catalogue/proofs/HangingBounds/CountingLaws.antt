-- What a pass over the signs between open segments has counted up to a place.
use Rattle.std.proofs.Common.{Bool, List, ap, arith, drop, false, length, nat_eq, slice_index_or, true, ℕ, ◌&&◌, ◌+◌, ◌<◌, ◌∙◌, ◌∷◌, ◌≡◌, ◌≤◌}
use Rattle.std.proofs.lemmas.List.{drop_all, drop_more}
use Rattle.bk_laws.proofs.TestsAsNumbers.{cond_count-le_one}
use Rattle.bk_word.specs.declared.Sign.{Sign}
use Rattle.bk_word.specs.declared.Sign.TheVariants.{Above, Even, Under}
use Rattle.bk_catalogue.specs.SingleValleys.{single_valley, single_valleys, single_valleys_from}

here : (signs : List Sign) (i : ℕ) (g : Sign) → i < length signs → slice_index_or signs i Above ≡ g → drop i signs ≡ g ∷ drop (i + 1) signs
here signs i g h e = drop_more signs i Above h ∙ ap (λ (s : Sign). s ∷ drop (i + 1) signs) e

-- ---- valleys of one square

-- what is found up to a place, and what is still to be found behind it, are all
pub record IsFound (signs : List Sign) (sizes : List ℕ) (i found : ℕ) (low : Bool) : Type 0 where
  pub split : single_valleys signs sizes ≡ found + single_valleys_from low (drop i signs) (drop i sizes)
  pub few : found ≤ i

-- at the first segment nothing is counted
pub found_start : (signs : List Sign) (sizes : List ℕ) → IsFound signs sizes 0 0 true
found_start signs sizes = record { split = omega arith; few = omega arith }

at_place : (low : Bool) (signs : List Sign) (sizes : List ℕ) (i : ℕ) (g : Sign) → i < length signs → length sizes ≡ length signs + 1
    → slice_index_or signs i Above ≡ g
    → single_valleys_from low (drop i signs) (drop i sizes) ≡ single_valleys_from low (g ∷ drop (i + 1) signs) (slice_index_or sizes i 0 ∷ drop (i + 1) sizes)
at_place low signs sizes i g h k e = λ j. single_valleys_from low (here signs i g h e j) (drop_more sizes i 0 (omega (arith, h, k)) j)

-- a segment counts for at most one
pub single_few : (low : Bool) (size : ℕ) → single_valley low size ≤ 1
single_few low size = cond_count-le_one (low && nat_eq size 1)

module _ (signs : List Sign) (sizes : List ℕ) (i found : ℕ) (low : Bool) (n : ℕ) (next : Bool) (h : i < length signs)
    (long : length sizes ≡ length signs + 1) where
  -- one segment further, where it counts for so many
  found_next : (g : Sign) (more : ℕ) → slice_index_or signs i Above ≡ g
      → single_valleys_from low (g ∷ drop (i + 1) signs) (slice_index_or sizes i 0 ∷ drop (i + 1) sizes)
      ≡ more + single_valleys_from next (drop (i + 1) signs) (drop (i + 1) sizes)
      → n ≡ found + more → more ≤ 1 → IsFound signs sizes i found low → IsFound signs sizes (i + 1) n next
  found_next g more e counts f one c =
      record { split = omega (arith, c.split, f, at_place low signs sizes i g h long e, counts); few = omega (arith, c.few, f, one) }

  -- what is counted behind the next sign
  abbrev behind : Bool → ℕ
  behind b = single_valleys_from b (drop (i + 1) signs) (drop (i + 1) sizes)

  -- a valley before a sign above is counted where it has one square
  pub found_above : slice_index_or signs i Above ≡ Above → n ≡ found + single_valley low (slice_index_or sizes i 0) → next ≡ false
      → IsFound signs sizes i found low → IsFound signs sizes (i + 1) n next
  found_above e f g = found_next Above (single_valley low (slice_index_or sizes i 0)) e (omega (arith, ap behind g)) f
      (single_few low (slice_index_or sizes i 0))

  -- a sign even leaves what is found as it is
  pub found_even : slice_index_or signs i Above ≡ Even → n ≡ found → next ≡ false → IsFound signs sizes i found low → IsFound signs sizes (i + 1) n next
  found_even e f g = found_next Even 0 e (omega (arith, ap behind g)) (omega (arith, f)) (omega arith)

  -- a sign under leaves what is found as it is
  pub found_under : slice_index_or signs i Above ≡ Under → n ≡ found → next ≡ true → IsFound signs sizes i found low → IsFound signs sizes (i + 1) n next
  found_under e f g = found_next Under 0 e (omega (arith, ap behind g)) (omega (arith, f)) (omega arith)

-- with the last segment all valleys of one square are counted
pub found_end : (signs : List Sign) (sizes : List ℕ) (i found : ℕ) (low : Bool) → i ≡ length signs → length sizes ≡ length signs + 1
    → IsFound signs sizes i found low
    → found + single_valley low (slice_index_or sizes (length signs) 0) ≡ single_valleys signs sizes
found_end signs sizes i found low e long c = omega (arith, c.split, same, place)
  where
    same : single_valleys_from low (drop i signs) (drop i sizes) ≡ single_valley low (slice_index_or sizes i 0)
    same = λ j. single_valleys_from low (drop_all i signs (omega (arith, e)) j)
        ((drop_more sizes i 0 (omega (arith, e, long))
        ∙ ap (λ (ss : List ℕ). slice_index_or sizes i 0 ∷ ss) (drop_all (i + 1) sizes (omega (arith, e, long)))) j)

    place : single_valley low (slice_index_or sizes i 0) ≡ single_valley low (slice_index_or sizes (length signs) 0)
    place = λ j. single_valley low (slice_index_or sizes (e j) 0)
