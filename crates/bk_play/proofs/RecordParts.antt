-- The record of a move by the parts of the outline that is cut at its leftmost valley.
use Rattle.std.specs.List.{concat}
use Rattle.std.proofs.Common.{List, [], ap, arith, cond, inl, inr, length, map, min, nat_eq, refl, slice_index, slice_range, sum, sym, take}
use Rattle.std.proofs.Common.{ℕ, ◌++◌, ◌+◌, ◌-◌, ◌<◌, ◌∙◌, ◌∷◌, ◌≡◌, ◌≤◌}
use Rattle.std.proofs.lemmas.Bool.Decides.{nat_tests}
use Rattle.std.proofs.lemmas.List.{append-nil, append_assoc, length-append, take_at}
use Rattle.std.proofs.lemmas.List.Folds.{concat-append}
use Rattle.bk_laws.proofs.ListItems.{slice_index-map_length_middle}
use Rattle.bk_laws.proofs.ListsOfLists.{take-map_length}
use Rattle.bk_laws.proofs.Sums.{sum-map_length}
use Rattle.bk_word.specs.Outline.{Outline, sizes_of, valley_place}
use Rattle.bk_word.specs.Word.{Move}
use Rattle.bk_word.specs.declared.Sign.{Sign}
use Rattle.bk_word.specs.declared.Sign.TheVariants.{Above, Under}
use Rattle.bk_word_net.proofs.Outlines.OutlineParts.{left_one, many_signs, none_after, none_before, right_one}
use Rattle.bk_word_net.proofs.Outlines.Shape.{AllFilled, Filled, Shaped}
use Rattle.bk_word_net.proofs.Outlines.ValleyCut.{AtValley, Beside}
use Rattle.bk_play.specs.Skeleton.{first_touched, open_sides_of_record, signs_before, sizes_before, record_of}

-- a segment beside a valley, or none: how many there are, by how many squares they have
pub one_beside : (l : List (List ℕ)) → length l ≤ 1 → AllFilled l → min (length (concat l)) 1 ≡ length l
one_beside [] one filled = omega arith
one_beside (s ∷ []) one filled = omega (arith, length-append s [], filled.0)
one_beside (s ∷ t ∷ l) one filled = absurd (omega arith)

-- the sizes of the valley and the segments beside it, of which one without squares is none
pub three_sizes : (left right : List (List ℕ)) (n : ℕ) → length left ≤ 1 → length right ≤ 1 → AllFilled left → AllFilled right
    → slice_range (length (concat left) ∷ n ∷ length (concat right) ∷ []) (1 - min (length (concat left)) 1)
    (2 + min (length (concat right)) 1) ≡ map length left ++ (n ∷ map length right)
three_sizes left right n one other filled full =
    (λ i. slice_range (length (concat left) ∷ n ∷ length (concat right) ∷ []) (1 - one_beside left one filled i)
    (2 + one_beside right other full i)) ∙ cases left right one other
  where
    alone : (s : List ℕ) → length (s ++ []) ≡ length s
    alone s = ap length (append-nil s)

    cases : (left right : List (List ℕ)) → length left ≤ 1 → length right ≤ 1
        → slice_range (length (concat left) ∷ n ∷ length (concat right) ∷ []) (1 - length left) (2 + length right) ≡ map length left ++ (n ∷ map length right)
    cases [] [] one other = refl
    cases [] (r ∷ []) one other = λ i. n ∷ alone r i ∷ []
    cases [] (r ∷ u ∷ right) one other = absurd (omega arith)
    cases (l ∷ []) [] one other = λ i. alone l i ∷ n ∷ []
    cases (l ∷ []) (r ∷ []) one other = λ i. alone l i ∷ n ∷ alone r i ∷ []
    cases (l ∷ []) (r ∷ u ∷ right) one other = absurd (omega arith)
    cases (l ∷ u ∷ left) right one other = absurd (omega arith)

-- beside a valley stands the sign under at its left and above at its right, where no wall is
pub two_signs : (left right : List (List ℕ)) (left_signs right_signs : List Sign) → Beside Under left left_signs
    → Beside Above right right_signs → AllFilled left → AllFilled right
    → slice_range (Under ∷ Above ∷ []) (1 - min (length (concat left)) 1) (1 + min (length (concat right)) 1) ≡ left_signs ++ right_signs
two_signs left right left_signs right_signs a b filled full =
    (λ i. slice_range (Under ∷ Above ∷ []) (1 - one_beside left (many a) filled i) (1 + one_beside right (many b) full i)) ∙ cases a b
  where
    many : {sign : Sign} {l : List (List ℕ)} {signs : List Sign} → Beside sign l signs → length l ≤ 1
    many (inl (e, f)) = omega (arith, ap length e)
    many (inr (s, e, f)) = omega (arith, ap length e)

    cases : Beside Under left left_signs → Beside Above right right_signs
        → slice_range (Under ∷ Above ∷ []) (1 - length left) (1 + length right) ≡ left_signs ++ right_signs
    cases (inl (e, f)) (inl (g, h)) = (λ i. slice_range (Under ∷ Above ∷ []) (1 - length (e i)) (1 + length (g i))) ∙ (λ i. sym f i ++ sym h i)
    cases (inl (e, f)) (inr (r, g, h)) = (λ i. slice_range (Under ∷ Above ∷ []) (1 - length (e i)) (1 + length (g i))) ∙ (λ i. sym f i ++ sym h i)
    cases (inr (l, e, f)) (inl (g, h)) = (λ i. slice_range (Under ∷ Above ∷ []) (1 - length (e i)) (1 + length (g i))) ∙ (λ i. sym f i ++ sym h i)
    cases (inr (l, e, f)) (inr (r, g, h)) = (λ i. slice_range (Under ∷ Above ∷ []) (1 - length (e i)) (1 + length (g i))) ∙ (λ i. sym f i ++ sym h i)

module _ (o : Outline) (shaped : Shaped o) (m : Move) (from : ℕ) (v : AtValley o) (f : Filled o v) where
  fronts : o.segments ≡ (v.before ++ v.left) ++ (v.valley ∷ (v.right ++ v.after))
  fronts = v.segments ∙ sym (append_assoc v.before v.left (v.valley ∷ (v.right ++ v.after)))

  place_long : length (v.before ++ v.left) ≡ valley_place o.signs
  place_long = length-append v.before v.left ∙ sym v.place

  -- a move's record says how many open squares stand before the valley
  pub record_says_squares_before_the_valley : (record_of (sizes_of o) o.signs m from).first ≡ length (concat v.before) + length (concat v.left)
  record_says_squares_before_the_valley = ap sum (take-map_length (valley_place o.signs) o.segments)
      ∙ sum-map_length (take (valley_place o.signs) o.segments)
      ∙ ap (λ (l : List (List ℕ)). length (concat l))
      (ap (take (valley_place o.signs)) fronts ∙ take_at (v.before ++ v.left) (v.valley ∷ (v.right ++ v.after)) (valley_place o.signs) place_long)
      ∙ ap length (concat-append v.before v.left) ∙ length-append (concat v.before) (concat v.left)

  -- a move's record says how many squares the valley has
  pub closed_is : (record_of (sizes_of o) o.signs m from).closed ≡ length v.valley
  closed_is = ap (λ (l : List (List ℕ)). slice_index (map length l) (valley_place o.signs)) fronts
      ∙ slice_index-map_length_middle (v.before ++ v.left) v.valley (v.right ++ v.after) (valley_place o.signs) place_long

  -- a move's record says how many squares the segment at the valley's left has
  pub record_says_squares_at_the_left : (record_of (sizes_of o) o.signs m from).left ≡ length (concat v.left)
  record_says_squares_at_the_left = cases v.left_beside
    where
      wall : (p x : ℕ) → p ≡ 0 → ◌≡◌ {A = ℕ} (cond (nat_eq p 0) 0 x) 0
      wall p x e = grind (arith, nat_tests)

      none : (p x : ℕ) → 0 < p → ◌≡◌ {A = ℕ} (cond (nat_eq p 0) 0 x) x
      none p x e = grind (arith, nat_tests)

      cases : Beside Under v.left v.left_signs → ◌≡◌ {A = ℕ}
          (cond (nat_eq (valley_place o.signs) 0) 0 (slice_index (map length o.segments) (valley_place o.signs - 1))) (length (concat v.left))
      cases (inl (e, g)) = wall (valley_place o.signs) (slice_index (map length o.segments) (valley_place o.signs - 1))
          (omega (arith, v.place, ap length e, none_before o v (ap length e))) ∙ sym (ap (λ (l : List (List ℕ)). length (concat l)) e)
      cases (inr (s, e, g)) = none (valley_place o.signs) (slice_index (map length o.segments) (valley_place o.signs - 1)) (omega (arith, v.place, ap length e))
          ∙ ap (λ (l : List (List ℕ)). slice_index (map length l) (valley_place o.signs - 1))
          (v.segments ∙ (λ i. v.before ++ (e i ++ (v.valley ∷ (v.right ++ v.after)))))
          ∙ slice_index-map_length_middle v.before s (v.valley ∷ (v.right ++ v.after)) (valley_place o.signs - 1) (omega (arith, v.place, ap length e))
          ∙ sym (ap length (append-nil s)) ∙ sym (ap (λ (l : List (List ℕ)). length (concat l)) e)

  -- a move's record says how many squares the segment at the valley's right has
  pub record_says_squares_at_the_right : (record_of (sizes_of o) o.signs m from).right ≡ length (concat v.right)
  record_says_squares_at_the_right = cases v.right_beside
    where
      wall : (p n x : ℕ) → p ≡ n → ◌≡◌ {A = ℕ} (cond (nat_eq p n) 0 x) 0
      wall p n x e = grind (arith, nat_tests)

      none : (p n x : ℕ) → p < n → ◌≡◌ {A = ℕ} (cond (nat_eq p n) 0 x) x
      none p n x e = grind (arith, nat_tests)

      behind : o.segments ≡ ((v.before ++ v.left) ++ (v.valley ∷ [])) ++ (v.right ++ v.after)
      behind = fronts ∙ sym (append_assoc (v.before ++ v.left) (v.valley ∷ []) (v.right ++ v.after))

      cases : Beside Above v.right v.right_signs
          → ◌≡◌ {A = ℕ} (cond (nat_eq (valley_place o.signs) (length o.signs)) 0
          (slice_index (map length o.segments) (valley_place o.signs + 1))) (length (concat v.right))
      cases (inl (e, g)) = wall (valley_place o.signs) (length o.signs) (slice_index (map length o.segments) (valley_place o.signs + 1))
          (omega (arith, v.place, many_signs o v, ap length e, none_after o v (ap length e))) ∙ sym (ap (λ (l : List (List ℕ)). length (concat l)) e)
      cases (inr (s, e, g)) = none (valley_place o.signs) (length o.signs) (slice_index (map length o.segments) (valley_place o.signs + 1))
          (omega (arith, v.place, many_signs o v, ap length e))
          ∙ ap (λ (l : List (List ℕ)). slice_index (map length l) (valley_place o.signs + 1))
          (behind ∙ (λ i. ((v.before ++ v.left) ++ (v.valley ∷ [])) ++ (e i ++ v.after)))
          ∙ slice_index-map_length_middle ((v.before ++ v.left) ++ (v.valley ∷ [])) s v.after (valley_place o.signs + 1)
          (omega (arith, length-append (v.before ++ v.left) (v.valley ∷ []), place_long))
          ∙ sym (ap length (append-nil s)) ∙ sym (ap (λ (l : List (List ℕ)). length (concat l)) e)

  -- one if the valley has a segment at its left, none if it has none
  pub left_min : min (record_of (sizes_of o) o.signs m from).left 1 ≡ length v.left
  left_min = ap (λ n. min n 1) record_says_squares_at_the_left ∙ one_beside v.left (left_one o v).1 f.left

  -- one if the valley has a segment at its right, none if it has none
  pub right_min : min (record_of (sizes_of o) o.signs m from).right 1 ≡ length v.right
  right_min = ap (λ n. min n 1) record_says_squares_at_the_right ∙ one_beside v.right (right_one o v).1 f.right

  -- the first segment that a move touches is behind those that lie before the valley's left
  pub start_is : first_touched (record_of (sizes_of o) o.signs m from) ≡ length v.before
  start_is = omega (arith, v.place, left_min)

  -- the valley has as many open sides as segments beside it
  pub sides_are : open_sides_of_record (record_of (sizes_of o) o.signs m from) ≡ length v.left + length v.right
  sides_are = omega (arith, left_min, right_min)

  -- the sizes before a move are those of the left segment, the valley and the right one
  pub sizes_before_are : sizes_before (record_of (sizes_of o) o.signs m from) ≡ map length v.left ++ (length v.valley ∷ map length v.right)
  sizes_before_are = (λ i. slice_range (record_says_squares_at_the_left i ∷ closed_is i ∷ record_says_squares_at_the_right i ∷ [])
      (1 - min (record_says_squares_at_the_left i) 1) (2 + min (record_says_squares_at_the_right i) 1))
      ∙ three_sizes v.left v.right (length v.valley) (left_one o v).1 (right_one o v).1 f.left f.right

  -- the signs before a move are those at the left and at the right of the valley
  pub signs_before_are : signs_before (record_of (sizes_of o) o.signs m from) ≡ v.left_signs ++ v.right_signs
  signs_before_are = (λ i. slice_range (Under ∷ Above ∷ []) (1 - min (record_says_squares_at_the_left i) 1) (1 + min (record_says_squares_at_the_right i) 1))
      ∙ two_signs v.left v.right v.left_signs v.right_signs v.left_beside v.right_beside f.left f.right
