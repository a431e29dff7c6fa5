-- What the segments behind the valley ask for, by the flat lists that a skeleton keeps.
use Rattle.std.proofs.Common.{Bool, List, [], ap, arith, cond, drop, false, length, map, nat_eq, nat_le, refl, slice_index_or, subst, suc, sym, true}
use Rattle.std.proofs.Common.{zero, ℕ, ◌||◌, ◌+◌, ◌<◌}
use Rattle.std.proofs.Common.{◌∙◌, ◌∷◌, ◌≡◌, ◌≤◌, ◌⊎◌, inl, inr}
use Rattle.std.proofs.lemmas.Bool.{eq-eqb, le-leb, or_left, or_right}
use Rattle.std.proofs.lemmas.List.{drop_all, drop_more, length-map}
use Rattle.std.proofs.lemmas.Bool.Decides.{nat_tests}
use Rattle.bk_laws.proofs.ListParts.{drop-cons_one_more}
use Rattle.bk_laws.proofs.ListsOfLists.{drop-map_length}
use Rattle.bk_word.specs.Outline.{has_right_wall, sizes_of, valley_place}
use Rattle.bk_word.specs.Play.{IsLegal, outline_of}
use Rattle.bk_word.specs.Word.{Word}
use Rattle.bk_word.specs.declared.Sign.{Sign}
use Rattle.bk_word.specs.declared.Sign.TheVariants.{Above}
use Rattle.bk_catalogue.proofs.HangingBounds.BoundsOfWords.{shape_of_word, sizes_long}
use Rattle.bk_catalogue.specs.VerticalCut.{edges_on_lines}
use Rattle.bk_layout.proofs.NormalCuts.WideSegments.{wide_long}
use Rattle.bk_layout.specs.NormalCuts.{touched_or_wide}
use Rattle.bk_layout.specs.WordNumbers.{first_count}
use Rattle.bk_free_search.specs.Apart.{AreAskedBehind, AreAsks, behind_marks, behind_signs, behind_sizes, joined_marks, marks_of_word, wide_first}
use Rattle.bk_free_search.specs.declared.behind.Asks.{Asks}

module _ (low : Bool) (signs : List Sign) (sizes : List ℕ) (marks : List Bool) (long : length sizes ≡ length signs + 1) (many : length marks ≡ length sizes)
    (asks : Asks) where
  -- what the last segment asks for, read at its place, is asked for by the lists from there on
  pub last_asks : AreAsks low [] (slice_index_or sizes (length signs) 0 ∷ []) (slice_index_or marks (length signs) false ∷ []) asks
      → AreAsks low (drop (length signs) signs) (drop (length signs) sizes) (drop (length signs) marks) asks
  last_asks a = subst (λ (l : List Sign). AreAsks low l (drop (length signs) sizes) (drop (length signs) marks) asks)
      (sym (drop_all (length signs) signs (omega arith)))
      (subst (λ (l : List ℕ). AreAsks low [] l (drop (length signs) marks) asks) (sym (drop_more sizes (length signs) 0 (omega (arith, long))
      ∙ ap (λ l. slice_index_or sizes (length signs) 0 ∷ l) (drop_all (length signs + 1) sizes (omega (arith, long)))))
      (subst (λ (l : List Bool). AreAsks low [] (slice_index_or sizes (length signs) 0 ∷ []) l asks)
      (sym (drop_more marks (length signs) false (omega (arith, long, many))
      ∙ ap (λ l. slice_index_or marks (length signs) false ∷ l) (drop_all (length signs + 1) marks (omega (arith, long, many))))) a))

  -- what is asked for by a segment read at a place and those behind it is asked for by the lists from there on
  pub next_asks : (i : ℕ) → i < length signs
      → AreAsks low (slice_index_or signs i Above ∷ drop (i + 1) signs) (slice_index_or sizes i 0 ∷ drop (i + 1) sizes)
      (slice_index_or marks i false ∷ drop (i + 1) marks) asks
      → AreAsks low (drop i signs) (drop i sizes) (drop i marks) asks
  next_asks i h a = subst (λ (l : List Sign). AreAsks low l (drop i sizes) (drop i marks) asks) (sym (drop_more signs i Above h))
      (subst (λ (l : List ℕ). AreAsks low (slice_index_or signs i Above ∷ drop (i + 1) signs) l (drop i marks) asks)
      (sym (drop_more sizes i 0 (omega (arith, h, long))))
      (subst (λ (l : List Bool). AreAsks low (slice_index_or signs i Above ∷ drop (i + 1) signs) (slice_index_or sizes i 0 ∷ drop
      (i + 1) sizes) l asks)
      (sym (drop_more marks i false (omega (arith, h, long, many)))) a))

-- ---- behind the valley of a word

asks_same : (low : Bool) (signs signs' : List Sign) (sizes sizes' : List ℕ) (marks marks' : List Bool) (asks : Asks) → signs ≡ signs' → sizes ≡ sizes'
    → marks ≡ marks' → AreAsks low signs sizes marks asks → AreAsks low signs' sizes' marks' asks
asks_same low signs signs' sizes sizes' marks marks' asks e f g a = subst (λ (l : List Sign). AreAsks low l sizes' marks' asks) e
    (subst (λ (l : List ℕ). AreAsks low signs l marks' asks) f (subst (λ (l : List Bool). AreAsks low signs sizes l asks) g a))

-- at the right wall, what one square alone asks for is asked for behind the valley
pub asks_at_wall : (low : Bool) (w : Word) (asks : Asks) → valley_place (outline_of w).signs ≡ length (outline_of w).signs
    → AreAsks low [] (1 ∷ []) (false ∷ []) asks
    → AreAskedBehind low (behind_marks w) w asks × AreAskedBehind low (joined_marks w) w asks
asks_at_wall low w asks at a = (
  asks_same low [] (behind_signs (outline_of w)) (1 ∷ []) (behind_sizes (outline_of w)) (false ∷ []) (behind_marks w) asks
      (sym (drop_all (valley_place (outline_of w).signs + 1) (outline_of w).signs (omega (arith, at))))
      (sym (ap (λ (b : Bool). cond b (1 ∷ []) (map (λ (s : List ℕ). length s) (drop (valley_place (outline_of w).signs + 1) (outline_of w).segments))) wall))
      (sym (ap (λ (b : Bool). cond b (false ∷ []) (touched_or_wide (first_count w) (edges_on_lines w)
      (drop (valley_place (outline_of w).signs + 1) (outline_of w).segments))) wall)) a,
  asks_same low [] (behind_signs (outline_of w)) (1 ∷ []) (behind_sizes (outline_of w)) (false ∷ []) (joined_marks w) asks
      (sym (drop_all (valley_place (outline_of w).signs + 1) (outline_of w).signs (omega (arith, at))))
      (sym (ap (λ (b : Bool). cond b (1 ∷ []) (map (λ (s : List ℕ). length s) (drop (valley_place (outline_of w).signs + 1) (outline_of w).segments))) wall))
      (sym (ap (λ (b : Bool). cond b (false ∷ []) (wide_first (first_count w) (drop (valley_place (outline_of w).signs + 1) (outline_of w).segments)
      (touched_or_wide (first_count w) (edges_on_lines w) (drop (valley_place (outline_of w).signs + 1) (outline_of w).segments)))) wall)) a,
)
  where
    wall : has_right_wall (outline_of w) ≡ true
    wall = eq-eqb (valley_place (outline_of w).signs) (length (outline_of w).signs) at

drop_marks : (top : ℕ) (lines : List Bool) (n : ℕ) (xs : List (List ℕ)) → drop n (touched_or_wide top lines xs) ≡ touched_or_wide top lines (drop n xs)
drop_marks top lines zero xs = refl
drop_marks top lines (suc n) [] = refl
drop_marks top lines (suc n) (x ∷ xs) = drop_marks top lines n xs

joined_by : (top : ℕ) (lines : List Bool) (n : ℕ) (xs : List (List ℕ)) → n < length xs
    → wide_first top (drop n xs) (touched_or_wide top lines (drop n xs))
    ≡ (slice_index_or (touched_or_wide top lines xs) n false || nat_le top (slice_index_or (map (λ (s : List ℕ). length s) xs) n 0 + 1))
    ∷ drop (n + 1) (touched_or_wide top lines xs)
joined_by top lines zero [] h = absurd (omega arith)
joined_by top lines zero (x ∷ xs) h = refl
joined_by top lines (suc n) [] h = absurd (omega arith)
joined_by top lines (suc n) (x ∷ xs) h = joined_by top lines n xs (omega (arith, h))
    ∙ ap (λ l. (slice_index_or (touched_or_wide top lines xs) n false || nat_le top (slice_index_or (map (λ (s : List ℕ). length s) xs) n 0 + 1)) ∷ l)
    (sym (drop-cons_one_more (slice_index_or (touched_or_wide top lines (x ∷ xs)) 0 false) (touched_or_wide top lines xs) n))

module _ (low : Bool) (w : Word) (asks : Asks) (within : valley_place (outline_of w).signs < length (outline_of w).signs) (legal : IsLegal w) where
  apart : has_right_wall (outline_of w) ≡ false
  apart = other (valley_place (outline_of w).signs) (length (outline_of w).signs) within
    where
      other : (p n : ℕ) → p < n → nat_eq p n ≡ false
      other p n h = grind (arith, nat_tests)

  sizes_there : slice_index_or (sizes_of (outline_of w)) (valley_place (outline_of w).signs + 1) 0
      ∷ drop (valley_place (outline_of w).signs + 1 + 1) (sizes_of (outline_of w)) ≡ behind_sizes (outline_of w)
  sizes_there = sym (drop_more (sizes_of (outline_of w)) (valley_place (outline_of w).signs + 1) 0 (omega (arith, within, sizes_long w legal)))
      ∙ drop-map_length (valley_place (outline_of w).signs + 1) (outline_of w).segments
      ∙ sym (ap (λ (b : Bool). cond b (1 ∷ []) (map (λ (s : List ℕ). length s) (drop (valley_place (outline_of w).signs + 1) (outline_of w).segments))) apart)

  -- what the lists of a skeleton ask for behind the valley, with their own marks, is asked for there
  pub asks_apart : AreAsks low (drop (valley_place (outline_of w).signs + 1) (outline_of w).signs)
      (slice_index_or (sizes_of (outline_of w)) (valley_place (outline_of w).signs + 1) 0
      ∷ drop (valley_place (outline_of w).signs + 1 + 1) (sizes_of (outline_of w)))
      (slice_index_or (marks_of_word w) (valley_place (outline_of w).signs + 1) false ∷ drop (valley_place (outline_of w).signs + 1 + 1) (marks_of_word w))
      asks → AreAskedBehind low (behind_marks w) w asks
  asks_apart a = asks_same low (behind_signs (outline_of w)) (behind_signs (outline_of w)) (slice_index_or (sizes_of (outline_of w))
      (valley_place (outline_of w).signs + 1) 0 ∷ drop (valley_place (outline_of w).signs + 1 + 1) (sizes_of (outline_of w))) (behind_sizes (outline_of w))
      (slice_index_or (marks_of_word w) (valley_place (outline_of w).signs + 1) false ∷ drop (valley_place (outline_of w).signs + 1 + 1) (marks_of_word w))
      (behind_marks w) asks refl sizes_there
      (sym (drop_more (marks_of_word w) (valley_place (outline_of w).signs + 1) false
      (omega (arith, within, wide_long (first_count w) (edges_on_lines w) (outline_of w).segments, (shape_of_word w legal).many)))
      ∙ drop_marks (first_count w) (edges_on_lines w) (valley_place (outline_of w).signs + 1) (outline_of w).segments
      ∙ sym (ap (λ (b : Bool). cond b (false ∷ []) (touched_or_wide (first_count w) (edges_on_lines w)
      (drop (valley_place (outline_of w).signs + 1) (outline_of w).segments))) apart)) a

  -- with a square more in the segment behind the valley, what the lists ask for there is asked for behind it
  pub asks_joined : AreAsks low (drop (valley_place (outline_of w).signs + 1) (outline_of w).signs)
      (slice_index_or (sizes_of (outline_of w)) (valley_place (outline_of w).signs + 1) 0
      ∷ drop (valley_place (outline_of w).signs + 1 + 1) (sizes_of (outline_of w)))
      ((slice_index_or (marks_of_word w) (valley_place (outline_of w).signs + 1) false
      || nat_le (first_count w) (slice_index_or (sizes_of (outline_of w)) (valley_place (outline_of w).signs + 1) 0 + 1))
      ∷ drop (valley_place (outline_of w).signs + 1 + 1) (marks_of_word w))
      asks → AreAskedBehind low (joined_marks w) w asks
  asks_joined a = asks_same low (behind_signs (outline_of w)) (behind_signs (outline_of w)) (slice_index_or (sizes_of (outline_of w))
      (valley_place (outline_of w).signs + 1) 0 ∷ drop (valley_place (outline_of w).signs + 1 + 1) (sizes_of (outline_of w))) (behind_sizes (outline_of w))
      ((slice_index_or (marks_of_word w) (valley_place (outline_of w).signs + 1) false
      || nat_le (first_count w) (slice_index_or (sizes_of (outline_of w)) (valley_place (outline_of w).signs + 1) 0 + 1))
      ∷ drop (valley_place (outline_of w).signs + 1 + 1) (marks_of_word w))
      (joined_marks w) asks refl sizes_there
      (sym (joined_by (first_count w) (edges_on_lines w) (valley_place (outline_of w).signs + 1) (outline_of w).segments
      (omega (arith, within, (shape_of_word w legal).many)))
      ∙ sym (ap (λ (b : Bool). cond b (false ∷ []) (wide_first (first_count w) (drop (valley_place (outline_of w).signs + 1) (outline_of w).segments)
      (touched_or_wide (first_count w) (edges_on_lines w) (drop (valley_place (outline_of w).signs + 1) (outline_of w).segments)))) apart)) a

-- whether the segment at a place is marked
abbrev pub own_mark : Word → ℕ → Bool
own_mark w place = slice_index_or (marks_of_word w) place false

-- whether it is with a square more
abbrev pub wider_mark : Word → ℕ → Bool
wider_mark w place = slice_index_or (marks_of_word w) place false || nat_le (first_count w) (slice_index_or (sizes_of (outline_of w)) place 0 + 1)

module _ (low : Bool) (w : Word) (signs : List Sign) (sizes : List ℕ) (place : ℕ) (asks : Asks) (es : signs ≡ (outline_of w).signs)
    (ez : sizes ≡ sizes_of (outline_of w)) (ep : place ≡ valley_place (outline_of w).signs) (legal : IsLegal w) where
  -- the lists by which it is said what is asked for from a mark of the segment behind the valley on
  abbrev asks_there : List Sign → List ℕ → Bool → List Bool → Type 0
  asks_there behind more mark marks = AreAsks low behind (slice_index_or sizes (place + 1) 0 ∷ more) (mark ∷ marks) asks

  abbrev asks_of_word : Bool → Type 0
  asks_of_word mark = AreAsks low (drop (valley_place (outline_of w).signs + 1) (outline_of w).signs)
      (slice_index_or (sizes_of (outline_of w)) (valley_place (outline_of w).signs + 1) 0
      ∷ drop (valley_place (outline_of w).signs + 1 + 1) (sizes_of (outline_of w)))
      (mark ∷ drop (valley_place (outline_of w).signs + 1 + 1) (marks_of_word w)) asks

  told : (mark : ℕ → Bool) (behind : List Sign) (more : List ℕ) (marks : List Bool) → behind ≡ drop (place + 1) signs → more ≡ drop (place + 1 + 1) sizes
      → marks ≡ drop (place + 1 + 1) (marks_of_word w) → asks_there behind more (mark (place + 1)) marks
      → asks_of_word (mark (valley_place (outline_of w).signs + 1))
  told mark behind more marks eb em en a = asks_same low behind (drop (valley_place (outline_of w).signs + 1) (outline_of w).signs)
      (slice_index_or sizes (place + 1) 0 ∷ more) (slice_index_or (sizes_of (outline_of w)) (valley_place (outline_of w).signs + 1) 0
      ∷ drop (valley_place (outline_of w).signs + 1 + 1) (sizes_of (outline_of w))) (mark (place + 1) ∷ marks)
      (mark (valley_place (outline_of w).signs + 1) ∷ drop (valley_place (outline_of w).signs + 1 + 1) (marks_of_word w)) asks
      (eb ∙ (λ i. drop (ep i + 1) (es i)))
      (ap (λ l. slice_index_or sizes (place + 1) 0 ∷ l) em ∙ (λ i. slice_index_or (ez i) (ep i + 1) 0 ∷ drop (ep i + 1 + 1) (ez i)))
      (ap (λ l. mark (place + 1) ∷ l) en ∙ (λ i. mark (ep i + 1) ∷ drop (ep i + 1 + 1) (marks_of_word w))) a

  -- what the one segment behind the valley asks for by the lists, with a mark of its own, the word does with that mark
  pub told_last : place + 1 ≡ length signs → (mark : ℕ → Bool) → asks_there [] [] (mark (place + 1)) []
      → asks_of_word (mark (valley_place (outline_of w).signs + 1))
  told_last h mark = told mark [] [] [] (sym (drop_all (place + 1) signs (omega arith)))
      (sym (drop_all (place + 1 + 1) sizes (omega (arith, h, ap length es, ap length ez, sizes_long w legal))))
      (sym (drop_all (place + 1 + 1) (marks_of_word w) (omega (
        arith,
        h,
        ap length es,
        wide_long (first_count w) (edges_on_lines w) (outline_of w).segments,
        (shape_of_word w legal).many,
      ))))

  -- what the segments behind the valley ask for by the lists, where more than one stands there, with marks of their own, the word does with those marks
  pub told_more : place + 1 < length signs → (mark : ℕ → Bool)
      → asks_there (slice_index_or signs (place + 1) Above ∷ drop (place + 1 + 1) signs) (drop (place + 1 + 1) sizes) (mark (place + 1))
      (drop (place + 1 + 1) (marks_of_word w)) → asks_of_word (mark (valley_place (outline_of w).signs + 1))
  told_more h mark = told mark (slice_index_or signs (place + 1) Above ∷ drop (place + 1 + 1) signs) (drop (place + 1 + 1) sizes)
      (drop (place + 1 + 1) (marks_of_word w)) (sym (drop_more signs (place + 1) Above h)) refl refl

-- a segment that is marked, or has as many squares as the top with one more, is marked with a square more
pub wide_mark : (w : Word) (place : ℕ)
    → (slice_index_or (marks_of_word w) place false ≡ true) ⊎ (first_count w ≤ slice_index_or (sizes_of (outline_of w)) place 0 + 1)
    → (slice_index_or (marks_of_word w) place false || nat_le (first_count w) (slice_index_or (sizes_of (outline_of w)) place 0 + 1)) ≡ true
wide_mark w place (inl e) = or_left (slice_index_or (marks_of_word w) place false) (nat_le (first_count w) (slice_index_or (sizes_of
    (outline_of w)) place 0 + 1)) e
wide_mark w place (inr h) = or_right (slice_index_or (marks_of_word w) place false) (nat_le (first_count w) (slice_index_or (sizes_of
    (outline_of w)) place 0 + 1))
    (le-leb (first_count w) (slice_index_or (sizes_of (outline_of w)) place 0 + 1) h)

-- a word's open segments have as many marks as sizes
pub marks_many : (w : Word) (sizes : List ℕ) → sizes ≡ sizes_of (outline_of w) → length (marks_of_word w) ≡ length sizes
marks_many w sizes e = omega (
  arith,
  ap (λ (l : List ℕ). length l) e,
  wide_long (first_count w) (edges_on_lines w) (outline_of w).segments,
  length-map (outline_of w).segments (λ (s : List ℕ). length s),
)
