-- The strong bound and the weight along a word of a normal layout, and the cuts by them.
use Rattle.std.specs.List.{AllByRecursion, list_any}
use Rattle.std.proofs.Common.{Bool, List, Some, [], ap, arith, cond, false, length, map, max, nat_eq, refl, slice_get, slice_index_or, subst, suc, sym}
use Rattle.std.proofs.Common.{true, zero, ℕ, ◌||◌, ◌++◌, ◌+◌, ◌<◌, ◌∙◌, ◌∷◌, ◌≡◌, ◌≤◌}
use Rattle.std.proofs.lemmas.Bool.{or_left, or_right}
use Rattle.std.proofs.lemmas.Bool.Decides.{nat_tests}
use Rattle.std.proofs.lemmas.List.{length-append, length-map}
use Rattle.std.proofs.lemmas.List.Folds.{list_any-append}
use Rattle.bk_laws.proofs.AllOfLists.{all_right, list_any-slice_get}
use Rattle.bk_word.specs.Outline.{Outline, start}
use Rattle.bk_word.specs.Play.{AreLegalFrom, after_move, after_moves, outline_of}
use Rattle.bk_word.specs.Word.{Move, Word, order_of}
use Rattle.bk_word.specs.declared.Sign.{Sign}
use Rattle.bk_word.specs.declared.Sign.TheVariants.{Above, Even, Under}
use Rattle.bk_word.proofs.StoredBytes.{order_more}
use Rattle.bk_word_net.proofs.Outlines.Shape.{Shaped, shaped_move}
use Rattle.bk_layout.specs.FreeWord.{AreFreeFrom, HangNoTwinsFrom}
use Rattle.bk_layout.specs.Layout.{Layout}
use Rattle.bk_layout.specs.LayoutLaws.{IsWordOfLayout}
use Rattle.bk_catalogue.specs.SingleValleys.{single_valley}
use Rattle.bk_catalogue.specs.VerticalCut.{edges_on_lines}
use Rattle.bk_catalogue.specs.WordBounds.{HangNoPairsFrom}
use Rattle.bk_layout.specs.FreeCuts.{IsSound}
use Rattle.bk_layout.specs.RuleR.{BeginsNoEvenAbove}
use Rattle.bk_layout.proofs.NormalCuts.ClosedSegments.{closed_square}
use Rattle.bk_layout.proofs.NormalCuts.MovesLeft.{at_end, legal, shaped}
use Rattle.bk_layout.proofs.NormalCuts.FewMoves.{few_moves}
use Rattle.bk_layout.proofs.NormalCuts.PassCounts.{fewer_marks_ask_less}
use Rattle.bk_word.specs.Signs.{is_under}
use Rattle.bk_layout.proofs.NormalCuts.StrongMoves.{strong_after, weight_after}
use Rattle.bk_layout.proofs.NormalCuts.StrongParts.{behind_first, rise, strong, weight}
use Rattle.bk_layout.proofs.NormalCuts.WideSegments.{last_two, no_sign, orders, pairs_from, wide_long}
use Rattle.bk_layout.specs.NormalCuts.{touched_or_wide}
use Rattle.bk_layout.specs.WordNumbers.{first_count}
use Rattle.bk_layout.specs.NormalLayout.{IsNormalLayout}
use Rattle.bk_layout.specs.StrongBound.{StrongBoundIsNormalBarren, StrongWeightIsNormalBarren, strong_bound_of, strong_from, weight_of}
use Rattle.bk_layout.proofs.FreeCuts.CutsOfLayouts.{free_then, twins_then}

-- ---- along moves

-- moves by all rules: legal, free, without twins and pairs, by rule R
pub record AreByRules (o : Outline) (rest : Word) : Type 0 where
  pub legal : AreLegalFrom o rest
  pub free : AreFreeFrom o rest
  pub twins : HangNoTwinsFrom o rest
  pub pairs : HangNoPairsFrom o rest
  pub keeps : AllByRecursion BeginsNoEvenAbove rest

-- moves by all rules are by all rules after their first one
pub rules_then : (o : Outline) (m : Move) (rest : Word) → AreByRules o (m ∷ rest) → AreByRules (after_move o m) rest
rules_then o m rest r = record { legal = (r.legal).1; free = (r.free).1; twins = (r.twins).1; pairs = (r.pairs).1; keeps = (r.keeps).1 }

module _ (P : List ℕ → Bool) (gl : (s t : List ℕ) → P t ≡ true → P (s ++ t) ≡ true) (gr : (s t : List ℕ) → P s ≡ true → P (s ++ t) ≡ true) where
  -- each move lowers the bound by at most 1
  pub strong_moves : (o : Outline) (rest : Word) → AreByRules o rest → Shaped o
      → strong P gl gr true o.signs o.segments ≤ length rest + strong P gl gr true (after_moves o rest).signs (after_moves o rest).segments
  strong_moves o [] r shaped = omega arith
  strong_moves o (m ∷ rest) r shaped = omega (
    arith,
    strong_after P gl gr o m (r.legal).0 shaped (r.free).0 (r.twins).0 (r.pairs).0 (r.keeps).0,
    strong_moves (after_move o m) rest (rules_then o m rest r) (shaped_move o m (r.legal).0 shaped),
  )

  -- each move lowers the weight by at most one less than the squares that it hangs
  weight_moves : (o : Outline) (rest : Word) → AreByRules o rest → Shaped o
      → length rest + weight true o.signs o.segments ≤ order_of rest + weight true (after_moves o rest).signs (after_moves o rest).segments
  weight_moves o [] r shaped = omega arith
  weight_moves o (m ∷ rest) r shaped = omega (
    arith,
    weight_after P gl gr o m (r.legal).0 shaped (r.free).0 (r.twins).0 (r.pairs).0 (r.keeps).0,
    weight_moves (after_move o m) rest (rules_then o m rest r) (shaped_move o m (r.legal).0 shaped),
    order_more m rest,
  )

  no_single : (size : ℕ) → 2 ≤ size → single_valley true size ≡ 0
  no_single size h = grind (arith, nat_tests)

  -- at the end nothing is left of both
  end_none : (signs : List Sign) (segments : List (List ℕ)) → signs ≡ [] → length segments ≡ 1 → 2 ≤ length (slice_index_or segments 0 [])
      → P (slice_index_or segments 0 []) ≡ false → (strong P gl gr true signs segments ≡ 0) × (weight true signs segments ≡ 0)
  end_none signs [] none one two e = absurd (omega (arith, one))
  end_none signs (s ∷ t ∷ segments) none one two e = absurd (omega (arith, one))
  end_none signs (s ∷ []) none one two e = (
    (λ i. strong P gl gr true (none i) (s ∷ [])) ∙ omega (arith, no_single (length s) two, ap (λ (b : Bool). cond {A = ℕ} b 1 0) e),
    (λ i. weight true (none i) (s ∷ [])) ∙ omega (arith, no_single (length s) two),
  )

-- ---- marks

-- no segment has a mark
abbrev pub none_of : List ℕ → Bool
none_of s = false

-- whether a segment has the square of this number
abbrev pub has : ℕ → List ℕ → Bool
has z s = list_any (nat_eq z) s

has_right : (z : ℕ) (s t : List ℕ) → has z t ≡ true → has z (s ++ t) ≡ true
has_right z s t e = list_any-append (nat_eq z) s t ∙ or_right (has z s) (has z t) e

has_left : (z : ℕ) (s t : List ℕ) → has z s ≡ true → has z (s ++ t) ≡ true
has_left z s t e = list_any-append (nat_eq z) s t ∙ or_left (has z s) (has z t) e

has_at : (z : ℕ) (s : List ℕ) (k : ℕ) → slice_get s k ≡ Some z → has z s ≡ true
has_at z s k e = list_any-slice_get (nat_eq z) s k z e (itself z)
  where
    itself : (z : ℕ) → nat_eq z z ≡ true
    itself z = grind (arith, nat_tests)

has_not : (z : ℕ) (s : List ℕ) → ((j : ℕ) → slice_get s j ≡ Some z → ⊥) → has z s ≡ false
has_not z [] none = refl
has_not z (x ∷ s) none = both (nat_eq z x) (has z s) (differ (λ e. none 0 (ap (λ (y : ℕ). Some y) e))) (has_not z s (λ j e. none (suc j) e))
  where
    both : (a b : Bool) → a ≡ false → b ≡ false → (a || b) ≡ false
    both a b e f = λ i. e i || f i

    differ : (x ≡ z → ⊥) → nat_eq z x ≡ false
    differ f = grind (arith, nat_tests)

-- a bound with marks is one with the mark of one square, or with none
abbrev OneMarked : ℕ → ℕ → Bool → List Sign → List (List ℕ) → List Bool → Type 0
OneMarked n c low signs segments marks = (i : ℕ) (s : List ℕ) → slice_get segments i ≡ Some s → slice_index_or marks i false ≡ true
    → (z : ℕ) × (has z s ≡ true) × (strong_from low signs (map length segments) (map (has z) segments) + c ≤ n)

-- the bound is that with other marks behind the first segment, or that of what stands behind it
bound_with : (low : Bool) (x : Sign) (signs : List Sign) (size : ℕ) (sizes : List ℕ) (b : Bool) (marks others : List Bool)
    → strong_from low (x ∷ signs) (size ∷ sizes) (b ∷ marks)
    ≤ max (strong_from low (x ∷ signs) (size ∷ sizes) (b ∷ others)) (rise x + strong_from (is_under x) signs sizes marks)
bound_with low Above signs size sizes b marks others = omega arith
bound_with low Even signs size sizes b marks others = omega arith
bound_with low Under signs size sizes b marks others = omega arith

-- with the first of the marks alone it is one with the mark of one square, or with none
first_marked : (n c : ℕ) (low : Bool) (signs : List Sign) (s : List ℕ) (segments : List (List ℕ)) (b : Bool) (marks : List Bool)
    → strong_from low signs (map length (s ∷ segments)) (map none_of (s ∷ segments)) + c ≤ n → OneMarked n c low signs (s ∷ segments) (b ∷ marks)
    → strong_from low signs (map length (s ∷ segments)) (b ∷ map none_of segments) + c ≤ n
first_marked n c low signs s segments false marks none each = none
first_marked n c low signs s segments true marks none each = let r = each 0 s refl refl in
    omega (
      arith,
      r.2,
      fewer_marks_ask_less low signs (map length (s ∷ segments)) (true ∷ map none_of segments) (map (has r.0) (s ∷ segments))
          (ap suc (length-map segments none_of ∙ sym (length-map segments (has r.0)))) (fewer r.0 r.1),
    )
  where
    no_mark : {A : Type 0} (segments : List (List ℕ)) (i : ℕ) → slice_index_or (map none_of segments) i false ≡ true → A
    no_mark [] i e = absurd (cc)
    no_mark (t ∷ segments) zero e = absurd (cc)
    no_mark (t ∷ segments) (suc i) e = no_mark segments i e

    fewer : (z : ℕ) → has z s ≡ true → (i : ℕ) → slice_index_or (true ∷ map none_of segments) i false ≡ true
        → slice_index_or (map (has z) (s ∷ segments)) i false ≡ true
    fewer z e zero f = e
    fewer z e (suc i) f = no_mark segments i f

one_marked : (n c : ℕ) (low : Bool) (signs : List Sign) (segments : List (List ℕ)) (marks : List Bool) → length marks ≡ length segments
    → strong_from low signs (map length segments) (map none_of segments) + c ≤ n → OneMarked n c low signs segments marks
    → strong_from low signs (map length segments) marks + c ≤ n
one_marked n c low signs [] marks long none each = none
one_marked n c low signs (s ∷ segments) [] long none each = absurd (omega arith)
one_marked n c low [] (s ∷ segments) (b ∷ marks) long none each = first_marked n c low [] s segments b marks none each
one_marked n c low (x ∷ signs) (s ∷ segments) (b ∷ marks) long none each = omega (
  arith,
  first_marked n c low (x ∷ signs) s segments b marks none each,
  bound_with low x signs (length s) (map length segments) b marks (map none_of segments),
  one_marked n (rise x + c) (is_under x) signs segments marks (omega arith)
      (omega (arith, none, (behind_first low x signs (length s) (map length segments) false (map none_of segments)).1))
      (λ i t e f. let r = each (suc i) t e f in
      (r.0, r.1, omega (arith, r.2, (behind_first low x signs (length s) (map length segments) (has r.0 s) (map (has r.0) segments)).1))),
)

-- ---- a word of a normal layout

module _ (n : ℕ) (l : Layout) (w : Word) (sound : IsSound n l) (normal : IsNormalLayout l) (word : IsWordOfLayout l w) (many : 3 ≤ n)
    (keeps : AllByRecursion BeginsNoEvenAbove w) (front rest : Word) (is : w ≡ front ++ rest) where
  -- the rest of a word of a sound and normal layout is by all rules
  pub rules : AreByRules (outline_of front) rest
  rules = record {
    legal = legal n l w sound word front rest is;
    free = free_then start front rest (subst (AreFreeFrom start) is word.free);
    twins = twins_then start front rest (subst (HangNoTwinsFrom start) is (word.no_twins sound.simple.twins));
    pairs = pairs_from n l w sound normal word many front rest is;
    keeps = all_right BeginsNoEvenAbove front rest (subst (λ (v : Word). AllByRecursion BeginsNoEvenAbove v) is keeps);
  }

  shaped_front : Shaped (outline_of front)
  shaped_front = shaped n l w sound word front rest is

  -- at the end nothing is left
  pub ends : (P : List ℕ → Bool) (gl : (s t : List ℕ) → P t ≡ true → P (s ++ t) ≡ true) (gr : (s t : List ℕ) → P s ≡ true → P (s ++ t) ≡ true)
      → P (slice_index_or (outline_of w).segments 0 []) ≡ false
      → (strong P gl gr true (after_moves (outline_of front) rest).signs (after_moves (outline_of front) rest).segments ≡ 0)
      × (weight true (after_moves (outline_of front) rest).signs (after_moves (outline_of front) rest).segments ≡ 0)
  ends P gl gr e = subst (λ (o : Outline). (strong P gl gr true o.signs o.segments ≡ 0) × (weight true o.signs o.segments ≡ 0))
      (at_end n l w sound word front rest is)
      (end_none P gl gr (outline_of w).signs (outline_of w).segments (no_sign n l w sound normal word many) (word.complete).one
      (last_two n l w sound normal word many) e)

  -- the bound without marks
  none_left : strong_from true (outline_of front).signs (map length (outline_of front).segments) (map none_of (outline_of front).segments) ≤ length rest
  none_left = omega (
    arith,
    strong_moves none_of (λ s t e. e) (λ s t e. e) (outline_of front) rest rules shaped_front,
    (ends none_of (λ s t e. e) (λ s t e. e) refl).0,
  )

  -- that with the mark of a square that isn't in the last segment
  one_left : (z : ℕ) → ((j : ℕ) → slice_get (slice_index_or (outline_of w).segments 0 []) j ≡ Some z → ⊥)
      → strong_from true (outline_of front).signs (map length (outline_of front).segments) (map (has z) (outline_of front).segments) ≤ length rest
  one_left z gone = omega (
    arith,
    strong_moves (has z) (has_right z) (has_left z) (outline_of front) rest rules shaped_front,
    (ends (has z) (has_right z) (has_left z) (has_not z (slice_index_or (outline_of w).segments 0 []) gone)).0,
  )

  -- the squares that are left are at least the moves, with the weight
  pub weight_left : length rest + weight_of front ≤ order_of rest
  weight_left = omega (
    arith,
    weight_moves none_of (λ s t e. e) (λ s t e. e) (outline_of front) rest rules shaped_front,
    (ends none_of (λ s t e. e) (λ s t e. e) refl).1,
  )

  -- the moves that are left are at least the strong bound of the outline
  pub strong_left : 0 < length front → order_of front < n → strong_bound_of front ≤ length rest
  strong_left some few = omega (
    arith,
    one_marked (length rest) 0 true (outline_of front).signs (outline_of front).segments
        (touched_or_wide (first_count front) (edges_on_lines front) (outline_of front).segments)
        (wide_long (first_count front) (edges_on_lines front) (outline_of front).segments) (omega (arith, none_left))
        (λ i s e f. let r = closed_square n l w sound normal word many front rest is some few i s e f in
        (r.0, has_at r.0 s r.1 r.2, omega (arith, one_left r.0 r.3))),
  )

-- the laws
pub strong_bound_is_normal_barren : StrongBoundIsNormalBarren
strong_bound_is_normal_barren n most front many few some left over l w rest sound normal word keeps is = omega (
  arith,
  over,
  few_moves n l w sound normal word front rest is most few,
  ap length is,
  length-append front rest,
  strong_left n l w sound normal word many keeps front rest is some left,
)

-- moves after which fewer squares are left than the strong bound and the weight are normal barren
pub strong_weight_is_normal_barren : StrongWeightIsNormalBarren
strong_weight_is_normal_barren n front many some left over l w rest sound normal word keeps is = omega (
  arith,
  over,
  orders n l w sound normal word many front rest is some left,
  strong_left n l w sound normal word many keeps front rest is some left,
  weight_left n l w sound normal word many keeps front rest is,
)
