-- The parts of an outline that is cut at its leftmost valley: how many segments and signs there are, and how they are taken.
use Rattle.std.proofs.Common.{List, [], ap, arith, drop, false, filter, inl, inr, length, nat_eq, refl, slice_index_or, suc, sym, take, zero, ℕ, ◌++◌}
use Rattle.std.proofs.Common.{◌+◌, ◌-◌, ◌<◌, ◌∙◌, ◌∷◌, ◌≡◌, ◌≤◌, ◌⊎◌}
use Rattle.std.proofs.lemmas.Bool.Decides.{nat_tests}
use Rattle.std.proofs.lemmas.List.{append_assoc, drop_at, length-append, take_at}
use Rattle.std.proofs.lemmas.Bool.{both_ways}
use Rattle.bk_word.specs.Outline.{Outline, has_left_wall, has_right_wall, open_side, valley_of, valley_place}
use Rattle.bk_word.specs.Play.{before_first_list, joined, parts}
use Rattle.bk_word.specs.declared.Sign.{Sign}
use Rattle.bk_word.specs.declared.Sign.TheVariants.{Above, Even, Under}
use Rattle.bk_word_net.proofs.Outlines.ValleyCut.{AllPart, AtValley, Beside}

-- what stands before, where no sign is even, stays as it is
pub joined_behind : (front : List (List ℕ)) (front_signs : List Sign) (signs : List Sign) (back : List (List ℕ))
    → length front ≡ length front_signs → AllPart front_signs → joined (front_signs ++ signs) (front ++ back) ≡ front ++ joined signs back
joined_behind [] [] signs back many part = refl
joined_behind [] (g ∷ front_signs) signs back many part = absurd (omega arith)
joined_behind (s ∷ front) [] signs back many part = absurd (omega arith)
joined_behind (s ∷ front) (Above ∷ front_signs) signs back many part =
    ap (λ (l : List (List ℕ)). s ∷ l) (joined_behind front front_signs signs back (omega arith) part.1)
joined_behind (s ∷ front) (Even ∷ front_signs) signs back many part = absurd (both_ways false refl part.0)
joined_behind (s ∷ front) (Under ∷ front_signs) signs back many part =
    ap (λ (l : List (List ℕ)). s ∷ l) (joined_behind front front_signs signs back (omega arith) part.1)

-- so does what stands behind
joined_alone : (signs : List Sign) (segments : List (List ℕ)) → length segments ≡ length signs → AllPart signs → (s : List ℕ)
    → joined signs (s ∷ segments) ≡ s ∷ segments
joined_alone [] [] many part s = refl
joined_alone [] (t ∷ segments) many part s = absurd (omega arith)
joined_alone (g ∷ signs) [] many part s = absurd (omega arith)
joined_alone (Above ∷ signs) (t ∷ segments) many part s = ap (λ (l : List (List ℕ)). s ∷ l) (joined_alone signs segments (omega arith) part.1 t)
joined_alone (Even ∷ signs) (t ∷ segments) many part s = absurd (both_ways false refl part.0)
joined_alone (Under ∷ signs) (t ∷ segments) many part s = ap (λ (l : List (List ℕ)). s ∷ l) (joined_alone signs segments (omega arith) part.1 t)

before_front : (s : List ℕ) (front back : List (List ℕ)) → 0 < length front → before_first_list s (front ++ back) ≡ before_first_list s front ++ back
before_front s [] back some = absurd (omega arith)
before_front s (t ∷ front) back some = refl

-- joining leaves at least one segment
joined_some : (signs : List Sign) (s : List ℕ) (segments : List (List ℕ)) → 0 < length (joined signs (s ∷ segments))
joined_some [] s segments = omega arith
joined_some (Above ∷ signs) s segments = omega arith
joined_some (Under ∷ signs) s segments = omega arith
joined_some (Even ∷ signs) s segments = some (joined signs segments)
  where
    some : (l : List (List ℕ)) → 0 < length (before_first_list s l)
    some [] = omega arith
    some (t ∷ l) = omega arith

-- segments behind which no sign is even are joined apart from what follows
pub joined_before : (signs back_signs : List Sign) (segments back : List (List ℕ)) → length segments ≡ length signs + 1
    → length back ≡ length back_signs → AllPart back_signs → joined (signs ++ back_signs) (segments ++ back) ≡ joined signs segments ++ back
joined_before signs back_signs [] back many backs part = absurd (omega arith)
joined_before [] back_signs (s ∷ []) back many backs part = joined_alone back_signs back backs part s
joined_before [] back_signs (s ∷ t ∷ segments) back many backs part = absurd (omega arith)
joined_before (g ∷ signs) back_signs (s ∷ []) back many backs part = absurd (omega arith)
joined_before (Above ∷ signs) back_signs (s ∷ t ∷ segments) back many backs part =
    ap (λ (l : List (List ℕ)). s ∷ l) (joined_before signs back_signs (t ∷ segments) back (omega arith) backs part)
joined_before (Under ∷ signs) back_signs (s ∷ t ∷ segments) back many backs part =
    ap (λ (l : List (List ℕ)). s ∷ l) (joined_before signs back_signs (t ∷ segments) back (omega arith) backs part)
joined_before (Even ∷ signs) back_signs (s ∷ t ∷ segments) back many backs part =
    ap (before_first_list s) (joined_before signs back_signs (t ∷ segments) back (omega arith) backs part)
    ∙ before_front s (joined signs (t ∷ segments)) back (joined_some signs t segments)

-- signs that all part stay
pub filter_part : (signs : List Sign) → AllPart signs → filter parts signs ≡ signs
filter_part [] part = refl
filter_part (Above ∷ signs) part = ap (λ (l : List Sign). Above ∷ l) (filter_part signs part.1)
filter_part (Even ∷ signs) part = absurd (both_ways false refl part.0)
filter_part (Under ∷ signs) part = ap (λ (l : List Sign). Under ∷ l) (filter_part signs part.1)

-- how many segments and signs stand at one side of a valley: none, or one of each
pub beside_many : (sign : Sign) (segments : List (List ℕ)) (signs : List Sign) → Beside sign segments signs
    → (length segments ≡ length signs) × (length segments ≤ 1)
beside_many sign segments signs (inl (e, f)) = (ap length e ∙ sym (ap length f), omega (arith, ap length e))
beside_many sign segments signs (inr (s, e, f)) = (ap length e ∙ sym (ap length f), omega (arith, ap length e))

module _ (o : Outline) (v : AtValley o) where
  -- at most one segment stands just at the left of the valley, with one sign
  pub left_one : (length v.left ≡ length v.left_signs) × (length v.left ≤ 1)
  left_one = beside_many Under v.left v.left_signs v.left_beside

  -- at most one segment stands just at the right of the valley, with one sign
  pub right_one : (length v.right ≡ length v.right_signs) × (length v.right ≤ 1)
  right_one = beside_many Above v.right v.right_signs v.right_beside

  none : (l : List (List ℕ)) → length l ≡ 0 → l ≡ []
  none [] e = refl
  none (s ∷ l) e = absurd (omega arith)

  -- where none is just at the left, none is further there
  pub none_before : length v.left ≡ 0 → length v.before ≡ 0
  none_before e = ap length (v.no_before (none v.left e))

  -- where no segment is just at the right of the valley, none is further there
  pub none_after : length v.right ≡ 0 → length v.after ≡ 0
  none_after e = ap length (v.no_after (none v.right e))

  -- the segments, counted by parts
  pub many_segments : length o.segments ≡ length v.before + (length v.left + (1 + (length v.right + length v.after)))
  many_segments = ap length v.segments ∙ omega (
    arith,
    length-append v.before (v.left ++ (v.valley ∷ (v.right ++ v.after))),
    length-append v.left (v.valley ∷ (v.right ++ v.after)),
    length-append v.right v.after,
  )

  -- the signs, counted by parts
  pub many_signs : length o.signs ≡ length v.before + (length v.left + (length v.right + length v.after))
  many_signs = ap length v.signs ∙ omega (
    arith,
    length-append v.before_signs (v.left_signs ++ (v.right_signs ++ v.after_signs)),
    length-append v.left_signs (v.right_signs ++ v.after_signs),
    length-append v.right_signs v.after_signs,
    left_one.0,
    right_one.0,
    v.before_many,
    v.after_many,
  )

  -- the valley is open at a side exactly where a segment stands there
  pub left_open : open_side (has_left_wall o) ≡ length v.left
  left_open = test (valley_place o.signs) (length v.left) (omega (arith, v.place)) left_one.1 (λ e. omega (arith, none_before e, v.place, e))
    where
      test : (p l : ℕ) → l ≤ p → l ≤ 1 → (l ≡ 0 → p ≡ 0) → open_side (nat_eq p 0) ≡ l
      test p zero a b f = let e : p ≡ 0 = f refl in ap (λ (n : ℕ). open_side (nat_eq n 0)) e
      test zero (suc l) a b f = absurd (omega arith)
      test (suc p) (suc l) a b f = one p l b
        where
          one : (p l : ℕ) → suc l ≤ 1 → open_side (nat_eq (suc p) 0) ≡ suc l
          one p l h = grind (arith, nat_tests)

  -- the right side is open where a segment stands there
  pub right_open : open_side (has_right_wall o) ≡ length v.right
  right_open = test (valley_place o.signs) (length o.signs) (length v.right) (omega (arith, many_signs, v.place)) right_one.1
      (λ e. omega (arith, none_after e, many_signs, v.place, e))
    where
      test : (p n r : ℕ) → p + r ≤ n → r ≤ 1 → (r ≡ 0 → n ≡ p) → open_side (nat_eq p n) ≡ r
      test p n zero a b f = let e : n ≡ p = f refl in same p n e
        where
          same : (p n : ℕ) → n ≡ p → open_side (nat_eq p n) ≡ 0
          same p n e = grind (arith, nat_tests)
      test p n (suc r) a b f = other p n r a b
        where
          other : (p n r : ℕ) → p + suc r ≤ n → suc r ≤ 1 → open_side (nat_eq p n) ≡ suc r
          other p n r a b = grind (arith, nat_tests)

  -- the segments before the valley, those behind it, and the valley, by the parts
  pub take_fronts : take (valley_place o.signs) o.segments ≡ v.before ++ v.left
  take_fronts = ap (take (valley_place o.signs)) (v.segments ∙ sym (append_assoc v.before v.left (v.valley ∷ (v.right ++ v.after))))
      ∙ take_at (v.before ++ v.left) (v.valley ∷ (v.right ++ v.after)) (valley_place o.signs) (length-append v.before v.left ∙ sym v.place)

  -- the segments behind the valley, by the parts
  pub drop_backs : drop (valley_place o.signs + 1) o.segments ≡ v.right ++ v.after
  drop_backs = ap (drop (valley_place o.signs + 1)) (v.segments ∙ regroup)
      ∙ drop_at ((v.before ++ v.left) ++ (v.valley ∷ [])) (v.right ++ v.after) (valley_place o.signs + 1) long
    where
      regroup : v.before ++ (v.left ++ (v.valley ∷ (v.right ++ v.after))) ≡ ((v.before ++ v.left) ++ (v.valley ∷ [])) ++ (v.right ++ v.after)
      regroup = sym (append_assoc v.before v.left (v.valley ∷ (v.right ++ v.after)))
          ∙ sym (append_assoc (v.before ++ v.left) (v.valley ∷ []) (v.right ++ v.after))

      long : length ((v.before ++ v.left) ++ (v.valley ∷ [])) ≡ valley_place o.signs + 1
      long = omega (arith, length-append (v.before ++ v.left) (v.valley ∷ []), length-append v.before v.left, v.place)

  index_at : (front : List (List ℕ)) (s : List ℕ) (back : List (List ℕ)) (n : ℕ) → length front ≡ n → slice_index_or (front ++ s ∷ back) n [] ≡ s
  index_at [] s back zero e = refl
  index_at [] s back (suc n) e = absurd (omega arith)
  index_at (t ∷ front) s back zero e = absurd (omega arith)
  index_at (t ∷ front) s back (suc n) e = index_at front s back n (omega arith)

  -- the valley
  pub valley_is : valley_of o ≡ v.valley
  valley_is = ap (λ (l : List (List ℕ)). slice_index_or l (valley_place o.signs) [])
      (v.segments ∙ sym (append_assoc v.before v.left (v.valley ∷ (v.right ++ v.after))))
      ∙ index_at (v.before ++ v.left) v.valley (v.right ++ v.after) (valley_place o.signs) (length-append v.before v.left ∙ sym v.place)

  -- the signs that a move keeps before it
  pub take_signs : take (valley_place o.signs - 1) o.signs ≡ v.before_signs
  take_signs = ap (take (valley_place o.signs - 1)) v.signs
      ∙ take_at v.before_signs (v.left_signs ++ (v.right_signs ++ v.after_signs)) (valley_place o.signs - 1) (cases (two (length v.left) left_one.1))
    where
      two : (l : ℕ) → l ≤ 1 → (l ≡ 0) ⊎ (l ≡ 1)
      two l h = grind arith

      cases : (length v.left ≡ 0) ⊎ (length v.left ≡ 1) → length v.before_signs ≡ valley_place o.signs - 1
      cases (inl e) = omega (arith, v.before_many, v.place, e, none_before e)
      cases (inr e) = omega (arith, v.before_many, v.place, e)

  -- the signs that a move keeps behind it
  pub drop_signs : drop (valley_place o.signs + 1) o.signs ≡ v.after_signs
  drop_signs = cases v.right_beside
    where
      front : length (v.before_signs ++ v.left_signs) ≡ valley_place o.signs
      front = omega (arith, length-append v.before_signs v.left_signs, v.before_many, left_one.0, v.place)

      whole : o.signs ≡ (v.before_signs ++ v.left_signs) ++ (v.right_signs ++ v.after_signs)
      whole = v.signs ∙ sym (append_assoc v.before_signs v.left_signs (v.right_signs ++ v.after_signs))

      no_signs : (l : List Sign) → length l ≡ 0 → l ≡ []
      no_signs [] e = refl
      no_signs (g ∷ l) e = absurd (omega arith)

      cases : Beside Above v.right v.right_signs → drop (valley_place o.signs + 1) o.signs ≡ v.after_signs
      cases (inl (e, f)) = beyond (valley_place o.signs + 1) o.signs
          (omega (arith, many_signs, v.place, ap length e, none_after (ap length e)))
          ∙ sym (no_signs v.after_signs (omega (arith, v.after_many, none_after (ap length e))))
        where
          beyond : (n : ℕ) (l : List Sign) → length l ≤ n → drop n l ≡ []
          beyond zero [] h = refl
          beyond zero (g ∷ l) h = absurd (omega arith)
          beyond (suc n) [] h = refl
          beyond (suc n) (g ∷ l) h = beyond n l (omega arith)
      cases (inr (s, e, f)) = ap (drop (valley_place o.signs + 1))
          (whole ∙ sym (append_assoc (v.before_signs ++ v.left_signs) v.right_signs v.after_signs))
          ∙ drop_at ((v.before_signs ++ v.left_signs) ++ v.right_signs) v.after_signs (valley_place o.signs + 1)
          (omega (arith, length-append (v.before_signs ++ v.left_signs) v.right_signs, front, ap length f))
