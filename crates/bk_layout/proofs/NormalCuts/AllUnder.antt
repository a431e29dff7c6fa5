-- Where all signs are under, and at most as many moves are left as segments, a move hangs one square, even with the segment at its left.
use Rattle.std.specs.List.{AllByRecursion}
use Rattle.std.proofs.Common.{Bool, List, Some, [], ap, arith, cond, false, filter, inl, inr, length, nat_eq, refl, slice_get, subst, suc, sym, true}
use Rattle.std.proofs.Common.{ℕ, ◌++◌, ◌+◌, ◌<◌, ◌∙◌, ◌∷◌, ◌≡◌, ◌≤◌}
use Rattle.std.proofs.lemmas.Bool.Decides.{nat_tests}
use Rattle.std.proofs.lemmas.List.{append-nil}
use Rattle.bk_word.specs.Outline.{IsLegalMove, Outline, has_left_wall, has_right_wall, open_side, valley_place}
use Rattle.bk_word.specs.Play.{after_move, after_moves, new_squares, parts, segments_apart, signs_apart}
use Rattle.bk_word.specs.Word.{Move, Word, order_of}
use Rattle.bk_word.specs.declared.Sign.{Sign}
use Rattle.bk_word.specs.declared.Sign.TheVariants.{Above, Even, Under}
use Rattle.bk_word.proofs.PlayLists.{numbers-length}
use Rattle.bk_word.proofs.StoredBytes.{order_more}
use Rattle.bk_word_net.proofs.Outlines.MovedParts.{apart_segments, apart_signs, signs_after}
use Rattle.bk_word_net.proofs.Outlines.OutlineParts.{left_open, many_segments, right_open}
use Rattle.bk_word_net.proofs.Outlines.Shape.{Shaped, shaped_move, valley_in}
use Rattle.bk_word_net.proofs.Outlines.ValleyCut.{AtValley, Beside}
use Rattle.bk_catalogue.proofs.HangingBounds.ClosingLaws.{unders-cons}
use Rattle.bk_layout.proofs.Lists.Pieces.{empty-of_length_zero}
use Rattle.bk_layout.proofs.FreeCuts.SquaresLeft.{wall_or_side}
use Rattle.bk_layout.specs.WordNumbers.{right_moves_from}
use Rattle.bk_layout.proofs.NormalCuts.StrongMoves.{all_under, singles, weight_wall}
use Rattle.bk_layout.proofs.NormalCuts.StrongParts.{seen, strong, strong_joined}
use Rattle.bk_layout.proofs.NormalCuts.StrongWords.{AreByRules, none_of, rules_then, strong_moves}

-- all signs are under
abbrev pub AllUnder : List Sign → Type 0
AllUnder signs = AllByRecursion (λ s. s ≡ Under) signs

-- then the valley is the last segment
under_place : (signs : List Sign) → AllUnder signs → valley_place signs ≡ length signs
under_place [] all = refl
under_place (Above ∷ signs) all = absurd (differ all.0)
  where
    differ : Above ≡ Under → ⊥
    differ d = cc
under_place (Even ∷ signs) all = ap suc (under_place signs all.1)
under_place (Under ∷ signs) all = ap suc (under_place signs all.1)

-- the bound without marks
abbrev bound : List Sign → List (List ℕ) → ℕ
bound signs segments = strong none_of (λ s t e. e) (λ s t e. e) true signs segments

-- it is at least what is seen
seen_less : (signs : List Sign) (s : List ℕ) (segments : List (List ℕ)) → seen true signs (s ∷ segments) ≤ bound signs (s ∷ segments)
seen_less [] s segments = omega arith
seen_less (Above ∷ signs) s segments = omega (arith, unders-cons Above signs)
seen_less (Even ∷ signs) s segments = omega (arith, unders-cons Even signs)
seen_less (Under ∷ signs) s segments = omega (arith, unders-cons Under signs)

-- over segments with the sign under behind each
seen_front : (xs ys : List Sign) (ss ts : List (List ℕ)) → length ss ≡ length xs → AllUnder xs → seen true (xs ++ ys) (ss ++ ts) ≡ length xs + seen true ys ts
seen_front [] ys [] ts e all = omega arith
seen_front [] ys (s ∷ ss) ts e all = absurd (omega arith)
seen_front (x ∷ xs) ys [] ts e all = absurd (omega arith)
seen_front (Above ∷ xs) ys (s ∷ ss) ts e all = absurd (differ all.0)
  where
    differ : Above ≡ Under → ⊥
    differ d = cc
seen_front (Even ∷ xs) ys (s ∷ ss) ts e all = absurd (differ all.0)
  where
    differ : Even ≡ Under → ⊥
    differ d = cc
seen_front (Under ∷ xs) ys (s ∷ ss) ts e all = omega (arith, seen_front xs ys ss ts (omega arith) all.1, unders-cons Under (xs ++ ys))

bound_front : (xs ys : List Sign) (ss : List (List ℕ)) (t : List ℕ) (ts : List (List ℕ)) → length ss ≡ length xs → AllUnder xs
    → length xs + seen true ys (t ∷ ts) ≤ bound (xs ++ ys) (ss ++ t ∷ ts)
bound_front xs ys [] t ts e all = omega (arith, seen_front xs ys [] (t ∷ ts) e all, seen_less (xs ++ ys) t ts)
bound_front xs ys (s ∷ ss) t ts e all = omega (arith, seen_front xs ys (s ∷ ss) (t ∷ ts) e all, seen_less (xs ++ ys) s (ss ++ t ∷ ts))

-- a move of one square that ends even with the segment at its left
pub record IsOneEven (m : Move) : Type 0 where
  pub count : m.count ≡ 1
  pub signs : m.signs ≡ Even ∷ []

module _ (o : Outline) (m : Move) (rest : Word) (r : AreByRules o (m ∷ rest)) (shaped : Shaped o) (under : AllUnder o.signs)
    (few : bound (after_move o m).signs (after_move o m).segments < length o.segments) where
  abbrev v : AtValley o
  v = valley_in o shaped

  legal : IsLegalMove o m
  legal = (r.legal).0

  many : length (new_squares o m) ≡ m.count
  many = numbers-length (length o.hung + 1) m.count

  right_wall : open_side (has_right_wall o) ≡ 0
  right_wall = wall (valley_place o.signs) (length o.signs) (under_place o.signs under)
    where
      wall : (a b : ℕ) → a ≡ b → open_side (nat_eq a b) ≡ 0
      wall a b e = grind (arith, nat_tests)

  -- a move of one square that ends even with the segment at its left is one at the right wall
  pub at_right : ◌≡◌ {A = ℕ} (cond (has_right_wall o) 1 0) 1
  at_right = omega (arith, right_wall, wall_or_side (has_right_wall o))

  right_none : v.right ≡ []
  right_none = empty-of_length_zero v.right (omega (arith, right_open o v, right_wall))

  after_none : v.after ≡ []
  after_none = v.no_after right_none

  after_signs_none : v.after_signs ≡ []
  after_signs_none = empty-of_length_zero v.after_signs (omega (arith, v.after_many, ap length after_none))

  -- all signs before the valley are under
  pub before_under : AllUnder v.before_signs
  before_under = all_under v.before_signs (v.left_signs ++ (v.right_signs ++ v.after_signs)) v.before_part
      (omega (arith, v.before_many, v.place, ap valley_place v.signs))

  signs_are : signs_apart o m ≡ v.before_signs ++ m.signs
  signs_are = apart_signs o v m legal ∙ (λ i. v.before_signs ++ (m.signs ++ after_signs_none i)) ∙ ap (λ (xs : List Sign). v.before_signs ++ xs)
      (append-nil m.signs)

  segments_are : segments_apart o m ≡ v.before ++ (v.left ++ singles (new_squares o m))
  segments_are = apart_segments o v m legal ∙ (λ i. v.before ++ ((v.left ++ (singles (new_squares o m) ++ right_none i)) ++ after_none i))
      ∙ ap (λ (xs : List (List ℕ)). v.before ++ xs) (append-nil (v.left ++ (singles (new_squares o m) ++ []))
      ∙ ap (λ (xs : List (List ℕ)). v.left ++ xs) (append-nil (singles (new_squares o m))))

  -- the bound of the parts after the move
  low : bound (v.before_signs ++ m.signs) (v.before ++ (v.left ++ singles (new_squares o m))) < length o.segments
  low = omega (
    arith,
    few,
    strong_joined none_of (λ s t e. e) (λ s t e. e) true (signs_apart o m) (segments_apart o m),
    same,
  )
    where
      same : bound (signs_apart o m) (segments_apart o m) ≡ bound (v.before_signs ++ m.signs) (v.before ++ (v.left ++ singles (new_squares o m)))
      same = λ i. bound (signs_are i) (segments_are i)

  signs_many : length m.signs + 1 ≡ length (new_squares o m) + length v.left
  signs_many = omega (arith, legal.signs, many, left_open o v, right_wall)

  segments_many : length o.segments ≡ length v.before + (length v.left + 1)
  segments_many = omega (arith, many_segments o v, ap length right_none, ap length after_none)

  -- the signs behind the left one aren't even
  own : (a j : ℕ) → length v.left ≡ a → suc j < length (new_squares o m) → slice_get m.signs (a + j) ≡ Some Even → ⊥
  own a j e h f = ((r.twins).0) j (omega (arith, h, many)) (ap (slice_get m.signs) place ∙ f)
    where
      place : open_side (has_left_wall o) + j ≡ a + j
      place = omega (arith, left_open o v, e)

  no_wall : length v.left ≡ 1 → has_left_wall o ≡ false
  no_wall e = at (has_left_wall o) (left_open o v ∙ e)
    where
      at : (b : Bool) → open_side b ≡ 1 → b ≡ false
      at true h = absurd (omega (arith, h))
      at false h = refl

  -- beside a segment at its left
  beside : (t : List ℕ) → v.left ≡ t ∷ [] → (ms : List Sign) → m.signs ≡ ms → (numbers : List ℕ) → new_squares o m ≡ numbers → IsOneEven m
  beside t e ms f [] g = absurd (omega (arith, ap length g, many, legal.some))
  beside t e [] f (x ∷ numbers) g = absurd (omega (arith, signs_many, ap length f, ap length g, ap length e))
  beside t e (Above ∷ ms) f (x ∷ numbers) g = absurd ((r.free).0 (no_wall (ap length e)) (ap (λ (xs : List Sign). slice_get xs 0) f))
  beside t e (Even ∷ []) f (x ∷ numbers) g = record { count = omega (arith, many, signs_many, ap length f, ap length e); signs = f }
  beside t e (Under ∷ ms) f (x ∷ numbers) g = absurd (omega (
    arith,
    low_here,
    bound_front v.before_signs (Under ∷ ms) v.before t (singles (x ∷ numbers)) v.before_many before_under,
    unders-cons Under ms,
    weight_wall none_of (λ s u h. h) (λ s u h. h) x ms numbers (omega (arith, signs_many, ap length f, ap length g, ap length e))
        (λ j h k. own 1 j (ap length e) (omega (arith, h, ap length g)) (ap (slice_get m.signs) (place j)
        ∙ ap (λ (xs : List Sign). slice_get xs (suc j)) f ∙ k)),
    v.before_many,
    segments_many,
    ap length e,
  ))
    where
      place : (j : ℕ) → 1 + j ≡ suc j
      place j = omega arith

      low_here : bound (v.before_signs ++ Under ∷ ms) (v.before ++ t ∷ singles (x ∷ numbers)) < length o.segments
      low_here = subst (λ (k : ℕ). k < length o.segments) (λ i. bound (v.before_signs ++ f i) (v.before ++ (e i ++ singles (g i)))) low
  beside t e (Even ∷ q ∷ ms) f (x ∷ []) g = absurd (omega (arith, signs_many, ap length f, ap length g, ap length e))
  beside t e (Even ∷ Above ∷ ms) f (x ∷ y ∷ numbers) g = absurd ((r.keeps).0 (omega (arith, many, ap length g)) (ap (λ (xs : List Sign). slice_get xs 0) f)
      (ap (λ (xs : List Sign). slice_get xs 1) f))
  beside t e (Even ∷ Even ∷ ms) f (x ∷ y ∷ numbers) g = absurd (own 1 0 (ap length e) (omega (arith, ap length g))
      (ap (slice_get m.signs) (omega arith) ∙ ap (λ (xs : List Sign). slice_get xs 1) f))
  beside t e (Even ∷ Under ∷ ms) f (x ∷ y ∷ numbers) g = absurd (omega (
    arith,
    low_here,
    bound_front v.before_signs (Even ∷ Under ∷ ms) v.before t (singles (x ∷ y ∷ numbers)) v.before_many before_under,
    unders-cons Even (Under ∷ ms),
    unders-cons Under ms,
    weight_wall none_of (λ s u h. h) (λ s u h. h) y ms numbers (omega (arith, signs_many, ap length f, ap length g, ap length e))
        (λ j h k. own 1 (suc j) (ap length e) (omega (arith, h, ap length g))
        (ap (slice_get m.signs) (place j) ∙ ap (λ (xs : List Sign). slice_get xs (suc (suc j))) f ∙ k)),
    v.before_many,
    segments_many,
    ap length e,
  ))
    where
      place : (j : ℕ) → 1 + suc j ≡ suc (suc j)
      place j = omega arith

      low_here : bound (v.before_signs ++ Even ∷ Under ∷ ms) (v.before ++ t ∷ singles (x ∷ y ∷ numbers)) < length o.segments
      low_here = subst (λ (k : ℕ). k < length o.segments) (λ i. bound (v.before_signs ++ f i) (v.before ++ (e i ++ singles (g i)))) low

  -- from wall to wall
  alone : v.left ≡ [] → (numbers : List ℕ) → new_squares o m ≡ numbers → IsOneEven m
  alone e [] g = absurd (omega (arith, ap length g, many, legal.some))
  alone e (x ∷ numbers) g = absurd (omega (
    arith,
    low_here,
    seen_less m.signs (x ∷ []) (singles numbers),
    weight_wall none_of (λ s u h. h) (λ s u h. h) x m.signs numbers (omega (arith, signs_many, ap length g, ap length e))
        (λ j h k. own 0 j (ap length e) (omega (arith, h, ap length g)) (ap (slice_get m.signs) (omega arith) ∙ k)),
    segments_many,
    ap length e,
    ap length (v.no_before e),
  ))
    where
      before_none : v.before_signs ≡ []
      before_none = empty-of_length_zero v.before_signs (omega (arith, v.before_many, ap length (v.no_before e)))

      low_here : bound m.signs (singles (x ∷ numbers)) < length o.segments
      low_here = subst (λ (k : ℕ). k < length o.segments) (λ i. bound (before_none i ++ m.signs) (v.no_before e i ++ (e i ++ singles (g i)))) low

  -- the move hangs one square, even with the segment at its left
  pub one_even : IsOneEven m
  one_even = cases v.left_beside
    where
      cases : Beside Under v.left v.left_signs → IsOneEven m
      cases (inl (e, f)) = alone e (new_squares o m) refl
      cases (inr (t, e, f)) = beside t e m.signs refl (new_squares o m) refl

  -- after the move all signs are under again
  pub under_then : AllUnder (after_move o m).signs
  under_then = subst AllUnder (sym (signs_after o v m legal ∙ (λ i. v.before_signs ++ (filter parts (one_even.signs i) ++ after_signs_none i))
      ∙ append-nil v.before_signs)) before_under

  -- with one segment less
  pub one_less : length (after_move o m).signs + 1 ≡ length o.signs
  one_less = omega (
    arith,
    ap length (signs_after o v m legal ∙ (λ i. v.before_signs ++ (filter parts (one_even.signs i) ++ after_signs_none i)) ∙ append-nil v.before_signs),
    v.before_many,
    segments_many,
    shaped.many,
    signs_many,
    ap length one_even.signs,
    one_even.count,
    many,
  )

-- as many squares and moves are left as signs, and all stand at the right wall
pub record AreOnes (o : Outline) (rest : Word) : Type 0 where
  pub squares : order_of rest ≡ length o.signs
  pub moves : length rest ≡ length o.signs
  pub right : right_moves_from o rest ≡ length o.signs

-- where no more moves are left than segments, and nothing of the bound at the end
pub ones_left : (o : Outline) (rest : Word) → AreByRules o rest → Shaped o → AllUnder o.signs → length rest ≤ length o.segments
    → length (after_moves o rest).segments ≡ 1
    → bound (after_moves o rest).signs (after_moves o rest).segments ≡ 0 → AreOnes o rest
ones_left o [] r shaped under few one end = record {
  squares = omega (arith, one, shaped.many);
  moves = omega (arith, one, shaped.many);
  right = omega (arith, one, shaped.many);
}
ones_left o (m ∷ rest) r shaped under few one end =
    let s : Shaped (after_move o m) = shaped_move o m (r.legal).0 shaped in
    let below : bound (after_move o m).signs (after_move o m).segments < length o.segments = omega (
      arith,
      strong_moves none_of (λ t u e. e) (λ t u e. e) (after_move o m) rest (rules_then o m rest r) s,
      end,
      few,
    ) in
    let less : length (after_move o m).signs + 1 ≡ length o.signs = one_less o m rest r shaped under below in
    let later = ones_left (after_move o m) rest (rules_then o m rest r) s (under_then o m rest r shaped under below)
    (omega (arith, few, less, shaped.many, s.many)) one end in
    record {
      squares = omega (arith, later.squares, less, order_more m rest, (one_even o m rest r shaped under below).count);
      moves = omega (arith, later.moves, less);
      right = omega (arith, later.right, less, at_right o m rest r shaped under below);
    }
