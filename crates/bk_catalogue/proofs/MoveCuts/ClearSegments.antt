-- Lines that are clear: no laid square lies across them. Squares that are laid under a valley leave clear what stands beside it.
use Rattle.std.specs.List.{AllByRecursion, AllZip}
use Rattle.std.proofs.Common.{Bool, List, Some, [], ap, arith, drop, false, inl, inr, length, map, refl, slice_get}
use Rattle.std.proofs.Common.{slice_index_or, subst, suc, sym, take, true, zero, ℕ, ◌++◌, ◌+◌, ◌-◌, ◌<◌, ◌∙◌, ◌∷◌, ◌≡◌, ◌≤◌, ◌⊎◌}
use Rattle.std.proofs.lemmas.Option.{same_Some, slice_get_within}
use Rattle.bk_laws.proofs.ListPlaces.{get_append, get_front}
use Rattle.bk_laws.proofs.AllOfLists.{all_append}
use Rattle.bk_laws.proofs.NumberOrder.{suc-injective_of_same}
use Rattle.bk_tiling.proofs.Cells.{from_append}
use Rattle.bk_tiling.proofs.Rows.{Chain, chain_within}
use Rattle.bk_tiling.specs.Column.{AreRuns}
use Rattle.bk_tiling.specs.declared.Segment.{Segment}
use Rattle.bk_tiling.specs.Tiling.{IsOneOf}
use Rattle.bk_tiling.specs.declared.Square.{Square}
use Rattle.bk_word.specs.Play.{before_first_list, joined, numbers_from}
use Rattle.bk_word.specs.declared.Sign.{Sign}
use Rattle.bk_word.specs.declared.Sign.TheVariants.{Above, Even, Under}
use Rattle.bk_lay.proofs.LaidRuns.{one_of}
use Rattle.bk_lay.specs.Depiction.{IsNumbered, IsSegment, Span}
use Rattle.bk_catalogue.specs.VerticalCut.{on_line}

-- the fact holds of each number in the lists
abbrev pub Each : (ℕ → Type 0) → List (List ℕ) → Type 0
Each P segments = AllByRecursion (AllByRecursion P) segments

-- what holds of the numbers of all segments holds of segments put side by side
pub each_append : (P : ℕ → Type 0) (xs ys : List (List ℕ)) → Each P xs → Each P ys → Each P (xs ++ ys)
each_append P [] ys a b = b
each_append P (x ∷ xs) ys a b = (a.0, each_append P xs ys a.1 b)

-- what holds of the numbers of all segments holds of joined segments
pub each_joined : (P : ℕ → Type 0) (signs : List Sign) (segments : List (List ℕ)) → Each P segments → Each P (joined signs segments)
each_joined P [] [] a = tt
each_joined P (Above ∷ signs) [] a = tt
each_joined P (Even ∷ signs) [] a = tt
each_joined P (Under ∷ signs) [] a = tt
each_joined P [] (s ∷ segments) a = a
each_joined P (Above ∷ signs) (s ∷ segments) a = (a.0, each_joined P signs segments a.1)
each_joined P (Under ∷ signs) (s ∷ segments) a = (a.0, each_joined P signs segments a.1)
each_joined P (Even ∷ signs) (s ∷ segments) a = before (joined signs segments) (each_joined P signs segments a.1)
  where
    before : (rest : List (List ℕ)) → Each P rest → Each P (before_first_list s rest)
    before [] b = (a.0, tt)
    before (t ∷ rest) b = (all_append P s t a.0 b.0, b.1)

-- what holds of the numbers of all segments holds of those of each
pub each_at : (P : ℕ → Type 0) (segments : List (List ℕ)) (k : ℕ) → Each P segments → AllByRecursion P (slice_index_or segments k [])
each_at P [] k a = tt
each_at P (s ∷ segments) zero a = a.0
each_at P (s ∷ segments) (suc k) a = each_at P segments k a.1

-- what holds of each new number holds of the new squares, each a segment
pub each_number : (P : ℕ → Type 0) (n k : ℕ) → ((i : ℕ) → i < k → P (n + i)) → Each P (map (λ q. q ∷ []) (numbers_from n k))
each_number P n zero each = tt
each_number P n (suc k) each = (
  (subst P (first n) (each 0 (omega arith)), tt),
  each_number P (n + 1) k (λ i h. subst P (next n i) (each (suc i) (omega arith))),
)
  where
    first : (n : ℕ) → n + 0 ≡ n
    first n = omega arith

    next : (n i : ℕ) → n + suc i ≡ n + 1 + i
    next n i = omega arith

-- no laid square lies across the column of that square's left edge, which is not the left wall, where a line is said
-- to stand there
abbrev pub IsClear : List Square → List Bool → ℕ → Type 0
IsClear laid lines q = on_line lines q ≡ true → (s : Square) → IsNumbered laid q s → (0 < s.x)
    × ((r : Square) → IsOneOf r laid → (r.x + r.s ≤ s.x) ⊎ (s.x ≤ r.x))

-- ---- squares side by side

-- of squares side by side each two lie apart
pub chain_apart : (squares : List Square) (x end : ℕ) → Chain x squares end → (r s : Square) → IsOneOf r squares → IsOneOf s squares
    → (r.x + r.s ≤ s.x) ⊎ (s.x ≤ r.x)
chain_apart [] x end c r s a b = absurd a
chain_apart (q ∷ squares) x end c r s (inl e) (inl f) = inr (omega (arith, ap (λ (z : Square). z.x) e, ap (λ (z : Square). z.x) f))
chain_apart (q ∷ squares) x end c r s (inl e) (inr b) =
    inl (omega (arith, c.0, ap (λ (z : Square). z.x + z.s) e, (chain_within squares (x + q.s) end c.1 s b).0))
chain_apart (q ∷ squares) x end c r s (inr a) (inl f) = inr (omega (arith, c.0, ap (λ (z : Square). z.x) f, (chain_within squares (x + q.s) end c.1 r a).0))
chain_apart (q ∷ squares) x end c r s (inr a) (inr b) = chain_apart squares (x + q.s) end c.1 r s a b

-- the first of them begins where they begin
pub chain_first : (squares : List Square) (x end : ℕ) → Chain x squares end → (s : Square) → slice_get squares 0 ≡ Some s → s.x ≡ x
chain_first [] x end c s e = absurd (cc)
chain_first (q ∷ squares) x end c s e = ap (λ (z : Square). z.x) (inside e) ∙ c.0
  where
    inside : Some q ≡ Some s → s ≡ q
    inside f = cc

-- each later one begins further to the right
pub chain_later : (squares : List Square) (x end : ℕ) → ((q : Square) → IsOneOf q squares → 0 < q.s) → Chain x squares end
    → (i : ℕ) (s : Square) → slice_get squares (suc i) ≡ Some s → 0 < s.x
chain_later [] x end side c i s e = absurd (cc)
chain_later (q ∷ squares) x end side c i s e = omega (arith, side q (inl refl), (chain_within squares (x + q.s) end c.1 s (one_of squares i s e)).0)

-- ---- squares that keep their numbers

-- the square of a number is one
one_number : (laid : List Square) (n : ℕ) (s r : Square) → IsNumbered laid n s → IsNumbered laid n r → s ≡ r
one_number laid n s r a b = same_Some s r (sym a.2 ∙ (λ i. slice_get laid (suc-injective_of_same a.0 b.0 n a.1 b.1 i)) ∙ b.2)

number_more : (laid new : List Square) (n : ℕ) (s : Square) → IsNumbered laid n s → IsNumbered (laid ++ new) n s
number_more laid new n s a = (a.0, a.1, get_append laid new a.0 s a.2)

span_order : (laid : List Square) (level x : ℕ) (numbers : List ℕ) (end : ℕ) → Span laid level x numbers end → x ≤ end
span_order laid level x [] end s = omega (arith, s)
span_order laid level x (n ∷ numbers) end s = omega (arith, span_order laid level (x + (s.0).s) numbers end s.4)

-- ---- a move keeps the lines clear

module _ (laid new : List Square) (lines added : List Bool) (v : Segment) (long : length lines ≡ length laid)
    (within : (r : Square) → IsOneOf r new → (v.x ≤ r.x) × (r.x + r.s ≤ v.x + v.width)) where
  -- a square beside the valley
  keep_one : (n : ℕ) (s : Square) → IsNumbered laid n s → (s.x ≤ v.x) ⊎ (v.x + v.width ≤ s.x) → IsClear laid lines n → IsClear (laid ++ new) (lines ++ added) n
  keep_one n s number beside clear on r is = subst (λ (z : Square). (0 < z.x) × ((q : Square) → IsOneOf q (laid ++ new) → (q.x + q.s ≤ z.x) ⊎ (z.x ≤ q.x)))
      (one_number (laid ++ new) n s r (number_more laid new n s number) is) (old.0, λ q h. cases q (from_append laid new q h) beside)
    where
      before : on_line lines n ≡ true
      before = sym (get_front lines added (n - 1) false (omega (arith, long, number.1, slice_get_within laid number.0 s number.2))) ∙ on

      old : (0 < s.x) × ((q : Square) → IsOneOf q laid → (q.x + q.s ≤ s.x) ⊎ (s.x ≤ q.x))
      old = clear before s number

      cases : (q : Square) → IsOneOf q laid ⊎ IsOneOf q new → (s.x ≤ v.x) ⊎ (v.x + v.width ≤ s.x) → (q.x + q.s ≤ s.x) ⊎ (s.x ≤ q.x)
      cases q (inl h) b = old.1 q h
      cases q (inr h) (inl b) = inr (omega (arith, (within q h).0, b))
      cases q (inr h) (inr b) = inl (omega (arith, (within q h).1, b))

  keep_span : (level x : ℕ) (numbers : List ℕ) (end : ℕ) → (end ≤ v.x) ⊎ (v.x + v.width ≤ x) → Span laid level x numbers end
      → AllByRecursion (IsClear laid lines) numbers → AllByRecursion (IsClear (laid ++ new) (lines ++ added)) numbers
  keep_span level x [] end beside s a = tt
  keep_span level x (n ∷ numbers) end beside s a = (keep_one n s.0 s.1 (at beside) a.0, keep_span level (x + (s.0).s) numbers end (rest beside) s.4 a.1)
    where
      order : x + (s.0).s ≤ end
      order = span_order laid level (x + (s.0).s) numbers end s.4

      at : (end ≤ v.x) ⊎ (v.x + v.width ≤ x) → ((s.0).x ≤ v.x) ⊎ (v.x + v.width ≤ (s.0).x)
      at (inl h) = inl (omega (arith, order, s.2))
      at (inr h) = inr (omega (arith, s.2))

      rest : (end ≤ v.x) ⊎ (v.x + v.width ≤ x) → (end ≤ v.x) ⊎ (v.x + v.width ≤ x + (s.0).s)
      rest (inl h) = inl h
      rest (inr h) = inr (omega arith)

  keep_segment : (u : Segment) (numbers : List ℕ) → (u.x + u.width ≤ v.x) ⊎ (v.x + v.width ≤ u.x) → IsSegment laid u numbers
      → AllByRecursion (IsClear laid lines) numbers → AllByRecursion (IsClear (laid ++ new) (lines ++ added)) numbers
  keep_segment u numbers beside (inl s) a = keep_span u.level u.x numbers (u.x + u.width) beside s a
  keep_segment u numbers beside (inr h) a = subst (AllByRecursion (IsClear (laid ++ new) (lines ++ added))) (sym h.1) tt

  keep_behind : (width x : ℕ) (runs : List Segment) (segments : List (List ℕ)) → v.x + v.width ≤ x → AreRuns width laid x runs
      → AllZip (IsSegment laid) runs segments → Each (IsClear laid lines) segments → Each (IsClear (laid ++ new) (lines ++ added)) segments
  keep_behind width x [] [] h cut zip a = tt
  keep_behind width x [] (s ∷ segments) h cut zip a = absurd zip
  keep_behind width x (u ∷ runs) [] h cut zip a = absurd zip
  keep_behind width x (u ∷ runs) (s ∷ segments) h cut zip a =
      (keep_segment u s (inr (omega (arith, h, cut.0))) zip.0 a.0, keep_behind width (x + u.width) runs segments (omega arith) cut.2 zip.1 a.1)

  runs_order : (width x : ℕ) (before after : List Segment) → AreRuns width laid x (before ++ v ∷ after) → x ≤ v.x
  runs_order width x [] after cut = omega (arith, cut.0)
  runs_order width x (u ∷ before) after cut = omega (arith, runs_order width (x + u.width) before after cut.2)

  -- segments before and behind a valley stay clear when squares are laid under it
  pub keep_others : (width x : ℕ) (before after : List Segment) (segments : List (List ℕ)) → AreRuns width laid x (before ++ v ∷ after)
      → AllZip (IsSegment laid) (before ++ v ∷ after) segments → Each (IsClear laid lines) segments
      → Each (IsClear (laid ++ new) (lines ++ added)) (take (length before) segments)
      × Each (IsClear (laid ++ new) (lines ++ added)) (drop (suc (length before)) segments)
  keep_others width x [] after [] cut zip a = absurd zip
  keep_others width x [] after (s ∷ segments) cut zip a =
      (tt, nothing segments (keep_behind width (x + v.width) after segments (omega (arith, cut.0)) cut.2 zip.1 a.1))
    where
      nothing : (segments : List (List ℕ)) → Each (IsClear (laid ++ new) (lines ++ added)) segments
          → Each (IsClear (laid ++ new) (lines ++ added)) (drop 0 segments)
      nothing [] b = b
      nothing (s ∷ segments) b = b
  keep_others width x (u ∷ before) after [] cut zip a = absurd zip
  keep_others width x (u ∷ before) after (s ∷ segments) cut zip a = onto (keep_others width (x + u.width) before after segments cut.2 zip.1 a.1)
    where
      onto : Each (IsClear (laid ++ new) (lines ++ added)) (take (length before) segments)
          × Each (IsClear (laid ++ new) (lines ++ added)) (drop (suc (length before)) segments)
          → (AllByRecursion (IsClear (laid ++ new) (lines ++ added)) s
          × Each (IsClear (laid ++ new) (lines ++ added)) (take (length before) segments))
          × Each (IsClear (laid ++ new) (lines ++ added)) (drop (suc (length before)) segments)
      onto b = ((keep_segment u s (inl (omega (arith, cut.0, runs_order width (x + u.width) before after cut.2))) zip.0 a.0, b.0), b.1)
