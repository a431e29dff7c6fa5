-- Layouts whose functions are lists, with an entry for each square or node; tests find that such a layout fits.
use Rattle.std.specs.List.{list_all}
use Rattle.std.proofs.Common.{Bool, List, Some, [], ap, arith, cond, false, length, nat_eq, nat_lt, not, refl, slice_get, slice_index_or, subst, suc, sym}
use Rattle.std.proofs.Common.{true, zero, ℕ, ◌&&◌, ◌<◌, ◌||◌, ◌∙◌, ◌∷◌, ◌≡◌, ◌≤◌}
use Rattle.std.proofs.Common.{inl, inr, ◌⊎◌}
use Rattle.std.proofs.lemmas.Bool.{and_parts, cases_lt, eq-eqb, eqb-true, ltb-true}
use Rattle.std.proofs.lemmas.Option.{same_Some}
use Rattle.bk_laws.proofs.Occurrences.{slice_get-of_times_positive, times}
use Rattle.bk_laws.proofs.Tests.{after_of, all_below, each_below}
use Rattle.bk_laws.proofs.TestsAsNumbers.{cond_count-nat_eq_other}
use Rattle.bk_laws.proofs.Truth.{or-elim, or-right_of_false}
use Rattle.bk_layout.proofs.Lists.NodeLists.{Sorted, lists_of_sorted}
use Rattle.bk_layout.specs.Layout.{AreLines, AreLists, AreNeighbours, AreNodes, DoLinesGoOn, Fits, IsFirst, IsLast, Layout}

-- the lists of a layout: of the first six each has an entry for a square, of the others but the flags one for a node
pub record Table : Type 0 where
  pub above : List ℕ
  pub below : List ℕ
  pub left : List ℕ
  pub right : List ℕ
  pub goes_left : List Bool
  pub goes_right : List Bool
  pub hanging : List (List ℕ)
  pub ending : List (List ℕ)

-- the layout of these lists
abbrev pub layout_by : Table → Layout
layout_by t = record {
  squares = length t.above;
  bottom = length t.hanging;
  above = λ q. slice_index_or t.above q 0;
  below = λ q. slice_index_or t.below q 0;
  left = λ q. slice_index_or t.left q 0;
  right = λ q. slice_index_or t.right q 0;
  hanging = λ v. slice_index_or t.hanging v [];
  ending = λ v. slice_index_or t.ending v [];
  goes_left = λ q. slice_index_or t.goes_left q false;
  goes_right = λ q. slice_index_or t.goes_right q false;
}

-- ---- what stands first, last and side by side in a list

-- the last of a list, alone
abbrev last_of : List ℕ → List ℕ
last_of [] = []
last_of (x ∷ []) = x ∷ []
last_of (x ∷ y ∷ xs) = last_of (y ∷ xs)

-- whether the number stands first
abbrev is_first : List ℕ → ℕ → Bool
is_first [] q = false
is_first (x ∷ xs) q = nat_eq x q

-- whether the numbers stand side by side
abbrev are_neighbours : List ℕ → ℕ → ℕ → Bool
are_neighbours [] q r = false
are_neighbours (x ∷ []) q r = false
are_neighbours (x ∷ y ∷ xs) q r = (nat_eq x q && nat_eq y r) || are_neighbours (y ∷ xs) q r

-- whether the first of both lists pass a test, if both have one
abbrev firsts : (ℕ → ℕ → Bool) → List ℕ → List ℕ → Bool
firsts p [] ys = true
firsts p (x ∷ xs) [] = true
firsts p (x ∷ xs) (y ∷ ys) = p x y

-- whether all neighbours do
abbrev neighbours : (ℕ → ℕ → Bool) → List ℕ → Bool
neighbours p [] = true
neighbours p (x ∷ []) = true
neighbours p (x ∷ y ∷ xs) = p x y && neighbours p (y ∷ xs)

first_to : (xs : List ℕ) (q : ℕ) → is_first xs q ≡ true → IsFirst xs q
first_to [] q e = absurd (cc)
first_to (x ∷ xs) q e = ap (λ (y : ℕ). Some y) (eqb-true x q e)

last_to : (xs : List ℕ) (q : ℕ) → IsFirst (last_of xs) q → IsLast xs q
last_to [] q e = absurd (cc)
last_to (x ∷ []) q e = (0, refl, e)
last_to (x ∷ y ∷ xs) q e = let k = last_to (y ∷ xs) q e in (suc k.0, ap suc k.1, k.2)

last_from : (xs : List ℕ) (q : ℕ) → IsLast xs q → IsFirst (last_of xs) q
last_from [] q (k, n, e) = absurd (cc)
last_from (x ∷ []) q (zero, n, e) = e
last_from (x ∷ []) q (suc k, n, e) = absurd (omega (arith, n))
last_from (x ∷ y ∷ xs) q (zero, n, e) = absurd (omega (arith, n))
last_from (x ∷ y ∷ xs) q (suc k, n, e) = last_from (y ∷ xs) q (k, omega (arith, n), e)

neighbours_to : (xs : List ℕ) (q r : ℕ) → are_neighbours xs q r ≡ true → AreNeighbours xs q r
neighbours_to [] q r e = absurd (cc)
neighbours_to (x ∷ []) q r e = absurd (cc)
neighbours_to (x ∷ y ∷ xs) q r e = cases e (neighbours_to (y ∷ xs) q r)
  where
    cases : (nat_eq x q && nat_eq y r) || are_neighbours (y ∷ xs) q r ≡ true → (are_neighbours (y ∷ xs) q r ≡ true → AreNeighbours (y ∷ xs) q r)
        → AreNeighbours (x ∷ y ∷ xs) q r
    cases f rest = or-elim (nat_eq x q && nat_eq y r) (are_neighbours (y ∷ xs) q r) (λ g. let h = and_parts (nat_eq x q) (nat_eq y r) g in
        (0, ap (λ (z : ℕ). Some z) (eqb-true x q h.0), ap (λ (z : ℕ). Some z) (eqb-true y r h.1)))
        (λ g. let k = rest g in (suc k.0, k.1, k.2)) f

firsts_at : (p : ℕ → ℕ → Bool) (xs ys : List ℕ) (q r : ℕ) → firsts p xs ys ≡ true → IsFirst xs q → IsFirst ys r → p q r ≡ true
firsts_at p [] ys q r e f g = absurd (cc)
firsts_at p (x ∷ xs) [] q r e f g = absurd (cc)
firsts_at p (x ∷ xs) (y ∷ ys) q r e f g = sym (λ i. p (same_Some x q f i) (same_Some y r g i)) ∙ e

neighbours_at : (p : ℕ → ℕ → Bool) (xs : List ℕ) (k q r : ℕ) → neighbours p xs ≡ true → slice_get xs k ≡ Some q → slice_get xs (suc k) ≡ Some r → p q r ≡ true
neighbours_at p [] k q r e f g = absurd (cc)
neighbours_at p (x ∷ []) k q r e f g = absurd (cc)
neighbours_at p (x ∷ y ∷ xs) zero q r e f g =
    sym (λ i. p (same_Some x q f i) (same_Some y r g i)) ∙ (and_parts (p x y) (neighbours p (y ∷ xs)) e).0
neighbours_at p (x ∷ y ∷ xs) (suc k) q r e f g = neighbours_at p (y ∷ xs) k q r (and_parts (p x y) (neighbours p (y ∷ xs)) e).1 f g

-- ---- lists

-- whether the number is counted once in the list of its value below a bound, and in no other
abbrev is_counted : (bound : ℕ) → (ℕ → ℕ) → (ℕ → List ℕ) → ℕ → Bool
is_counted bound a h x = all_below (λ w. nat_eq (times x (h w)) (cond (nat_eq (a x) w) 1 0)) bound

-- whether each of n numbers is, and no other number stands in one of the lists
abbrev are_sorted : (n bound : ℕ) → (ℕ → ℕ) → (ℕ → List ℕ) → Bool
are_sorted n bound a h = all_below (λ x. nat_lt (a x) bound && is_counted bound a h x) n && all_below (λ w. list_all (λ x. nat_lt x n) (h w)) bound

three : (a b c : Bool) → a && (b && c) ≡ true → (a ≡ true) × (b ≡ true) × (c ≡ true)
three a b c e = let p = and_parts a (b && c) e in let q = and_parts b c p.1 in (p.0, q.0, q.1)

all_low : (n : ℕ) (xs : List ℕ) (x : ℕ) → list_all (λ y. nat_lt y n) xs ≡ true → 0 < times x xs → x < n
all_low n xs x e some = let k = slice_get-of_times_positive xs x some in at xs k.0 e k.1
  where
    at : (xs : List ℕ) (k : ℕ) → list_all (λ y. nat_lt y n) xs ≡ true → slice_get xs k ≡ Some x → x < n
    at [] k e f = absurd (cc)
    at (y ∷ xs) zero e f = subst (λ (z : ℕ). z < n) (same_Some y x f) (ltb-true y n (and_parts (nat_lt y n) (list_all (λ y. nat_lt y n) xs) e).0)
    at (y ∷ xs) (suc k) e f = at xs k (and_parts (nat_lt y n) (list_all (λ y. nat_lt y n) xs) e).1 f

sorted_by_test : (n bound : ℕ) (a : ℕ → ℕ) (h : ℕ → List ℕ) → ((w : ℕ) → bound ≤ w → h w ≡ []) → are_sorted n bound a h ≡ true → Sorted n a h
sorted_by_test n bound a h past e =
    record { counted = λ x w low. counted x w low (cases_lt w bound); low = λ x w some. below x w some (cases_lt w bound) }
  where
    parts : (all_below (λ x. nat_lt (a x) bound && is_counted bound a h x) n ≡ true) × (all_below (λ w. list_all (λ x. nat_lt x n) (h w)) bound ≡ true)
    parts = and_parts (all_below (λ x. nat_lt (a x) bound && is_counted bound a h x) n) (all_below (λ w. list_all (λ x. nat_lt x n) (h w)) bound) e

    at : (x : ℕ) → x < n → (nat_lt (a x) bound ≡ true) × (is_counted bound a h x ≡ true)
    at x low = and_parts (nat_lt (a x) bound) (is_counted bound a h x)
        (each_below (λ x. nat_lt (a x) bound && is_counted bound a h x) n parts.0 x low)

    counted : (x w : ℕ) → x < n → (w < bound) ⊎ (bound ≤ w) → times x (h w) ≡ cond {A = ℕ} (nat_eq (a x) w) 1 0
    counted x w low (inl m) = eqb-true (times x (h w)) (cond {A = ℕ} (nat_eq (a x) w) 1 0)
        (each_below (λ w. nat_eq (times x (h w)) (cond (nat_eq (a x) w) 1 0)) bound (at x low).1 w m)
    counted x w low (inr m) = ap (times x) (past w m)
        ∙ sym (cond_count-nat_eq_other (a x) w (λ f. omega (arith, f, m, ltb-true (a x) bound (at x low).0)))

    below : (x w : ℕ) → 0 < times x (h w) → (w < bound) ⊎ (bound ≤ w) → x < n
    below x w some (inl m) = all_low n (h w) x (each_below (λ w. list_all (λ x. nat_lt x n) (h w)) bound parts.1 w m) some
    below x w some (inr m) = absurd (omega (arith, some, ap (times x) (past w m)))

past_end : (lists : List (List ℕ)) (v : ℕ) → length lists ≤ v → slice_index_or lists v [] ≡ []
past_end [] v h = refl
past_end (s ∷ lists) zero h = absurd (omega (arith, h))
past_end (s ∷ lists) (suc v) h = past_end lists v (omega (arith, h))

module _ (t : Table) where
  abbrev l : Layout
  l = layout_by t

  -- ---- the tests

  -- by the numbers of the nodes each square goes down
  abbrev is_square : ℕ → Bool
  is_square q = nat_lt (l.above q) l.bottom && (nat_lt (l.above q) (l.below q) && nat_lt (l.below q) (suc l.bottom))

  -- from each node but the bottom some square hangs, and on the next one some square ends
  abbrev is_node : ℕ → Bool
  is_node v = nat_lt 0 (length (l.hanging v)) && nat_lt 0 (length (l.ending (suc v)))

  -- the lines beside what hangs from a node and what ends on it
  abbrev has_lines : ℕ → Bool
  has_lines v = neighbours (λ q r. nat_eq (l.right q) (l.left r)) (l.hanging v)
      && (firsts (λ q p. nat_eq (l.left p) (l.left q)) (l.ending v) (l.hanging v)
      && firsts (λ q p. nat_eq (l.right p) (l.right q)) (last_of (l.ending v)) (last_of (l.hanging v)))

  -- where the lines of a square go on
  abbrev at_left : ℕ → Bool
  at_left q = not (l.goes_left q) || (is_first (l.ending (l.below q)) q && nat_lt (l.below q) l.bottom)

  abbrev at_right : ℕ → Bool
  at_right q = not (l.goes_right q) || (is_first (last_of (l.ending (l.below q))) q && nat_lt (l.below q) l.bottom)

  -- where they are walls
  abbrev at_left_wall : ℕ → Bool
  at_left_wall q = not (nat_eq (l.left q) 0) || is_first (l.ending (l.below q)) q

  abbrev at_right_wall : ℕ → Bool
  at_right_wall q = not (nat_eq (l.right q) 1) || is_first (last_of (l.ending (l.below q))) q

  -- where a line ends between two squares
  abbrev do_meet : ℕ → ℕ → Bool
  do_meet q r = not (nat_eq (l.right q) (l.left r)) || (l.goes_right q || (l.goes_left r || are_neighbours (l.ending (l.below q)) q r))

  abbrev goes_on : ℕ → Bool
  goes_on q = at_left q && (at_right q && (at_left_wall q && (at_right_wall q && all_below (do_meet q) l.squares)))

  abbrev are_lists : Bool
  are_lists = are_sorted l.squares (suc l.bottom) l.above l.hanging
      && (are_sorted l.squares (suc l.bottom) l.below l.ending && nat_lt (length t.ending) (suc (suc l.bottom)))

  -- the top reaches from wall to wall
  abbrev is_top : Bool
  is_top = firsts (λ q p. nat_eq (l.left q) 0) (l.hanging 0) (l.hanging 0)
      && firsts (λ q p. nat_eq (l.right q) 1) (last_of (l.hanging 0)) (last_of (l.hanging 0))

  -- whether the layout fits
  abbrev pub is_fit : Bool
  is_fit = (nat_lt 0 l.bottom && (are_lists && is_top))
      && (all_below is_square l.squares && (all_below (λ v. is_node v && has_lines v) l.bottom && all_below goes_on l.squares))

  -- ---- what they say

  lists_pass : are_lists ≡ true → AreLists l
  lists_pass e = lists_of_sorted l
      (sorted_by_test l.squares (suc l.bottom) l.above l.hanging (λ v h. past_end t.hanging v (omega (arith, h))) parts.0)
      (sorted_by_test l.squares (suc l.bottom) l.below l.ending
      (λ v h. past_end t.ending v (omega (arith, h, ltb-true (length t.ending) (suc (suc l.bottom)) parts.2))) parts.1)
    where
      parts : (are_sorted l.squares (suc l.bottom) l.above l.hanging ≡ true) × (are_sorted l.squares (suc l.bottom) l.below l.ending ≡ true)
          × (nat_lt (length t.ending) (suc (suc l.bottom)) ≡ true)
      parts = three (are_sorted l.squares (suc l.bottom) l.above l.hanging) (are_sorted l.squares (suc l.bottom) l.below l.ending)
          (nat_lt (length t.ending) (suc (suc l.bottom))) e

  nodes_pass : ((q : ℕ) → q < l.squares → is_square q ≡ true) → ((v : ℕ) → v < l.bottom → is_node v ≡ true) → AreNodes l
  nodes_pass squares nodes = record {
    hangs_above = λ q low. ltb-true (l.above q) l.bottom (square q low).0;
    ends_below = λ q low. (omega (arith, down q low), omega (arith, ltb-true (l.below q) (suc l.bottom) (square q low).2));
    hanging_some = λ v low. ltb-true 0 (length (l.hanging v)) (node v low).0;
    ending_some = ending_some;
    rank = λ v. v;
    rises = down;
  }
    where
      square : (q : ℕ) → q < l.squares
          → (nat_lt (l.above q) l.bottom ≡ true) × (nat_lt (l.above q) (l.below q) ≡ true) × (nat_lt (l.below q) (suc l.bottom) ≡ true)
      square q low = three (nat_lt (l.above q) l.bottom) (nat_lt (l.above q) (l.below q)) (nat_lt (l.below q) (suc l.bottom)) (squares q low)

      node : (v : ℕ) → v < l.bottom → (nat_lt 0 (length (l.hanging v)) ≡ true) × (nat_lt 0 (length (l.ending (suc v))) ≡ true)
      node v low = and_parts (nat_lt 0 (length (l.hanging v))) (nat_lt 0 (length (l.ending (suc v)))) (nodes v low)

      down : (q : ℕ) → q < l.squares → l.above q < l.below q
      down q low = ltb-true (l.above q) (l.below q) (square q low).1

      ending_some : (v : ℕ) → 0 < v → v ≤ l.bottom → 0 < length (l.ending v)
      ending_some zero some low = absurd (omega (arith, some))
      ending_some (suc v) some low = ltb-true 0 (length (l.ending (suc v))) (node v (omega (arith, low))).1

  lines_pass : AreLists l → AreNodes l → is_top ≡ true → ((v : ℕ) → v < l.bottom → has_lines v ≡ true) → AreLines l
  lines_pass lists nodes top lines = record {
    between = λ v q r next. eqb-true (l.right q) (l.left r) (neighbours_at (λ q r. nat_eq (l.right q) (l.left r)) (l.hanging v) next.0 q r
        (node v next.0 q next.1).0 next.1 next.2);
    same_left = λ v q p f g. eqb-true (l.left p) (l.left q) (firsts_at (λ q p. nat_eq (l.left p) (l.left q)) (l.ending v) (l.hanging v) q p
        (node v 0 p g).1 f g);
    same_right = λ v q p f g. eqb-true (l.right p) (l.right q) (firsts_at (λ q p. nat_eq (l.right p) (l.right q)) (last_of (l.ending v))
        (last_of (l.hanging v)) q p (node v g.0 p g.2).2 (last_from (l.ending v) q f) (last_from (l.hanging v) p g));
    top_left = λ p f. eqb-true (l.left p) 0 (firsts_at (λ q p. nat_eq (l.left q) 0) (l.hanging 0) (l.hanging 0) p p ends.0 f f);
    top_right = λ p f. eqb-true (l.right p) 1 (firsts_at (λ q p. nat_eq (l.right q) 1) (last_of (l.hanging 0)) (last_of (l.hanging 0)) p p ends.1
        (last_from (l.hanging 0) p f) (last_from (l.hanging 0) p f));
  }
    where
      ends : (firsts (λ q p. nat_eq (l.left q) 0) (l.hanging 0) (l.hanging 0) ≡ true)
          × (firsts (λ q p. nat_eq (l.right q) 1) (last_of (l.hanging 0)) (last_of (l.hanging 0)) ≡ true)
      ends = and_parts (firsts (λ q p. nat_eq (l.left q) 0) (l.hanging 0) (l.hanging 0))
          (firsts (λ q p. nat_eq (l.right q) 1) (last_of (l.hanging 0)) (last_of (l.hanging 0))) top

      node : (v k q : ℕ) → slice_get (l.hanging v) k ≡ Some q → (neighbours (λ q r. nat_eq (l.right q) (l.left r)) (l.hanging v) ≡ true)
          × (firsts (λ q p. nat_eq (l.left p) (l.left q)) (l.ending v) (l.hanging v) ≡ true)
          × (firsts (λ q p. nat_eq (l.right p) (l.right q)) (last_of (l.ending v)) (last_of (l.hanging v)) ≡ true)
      node v k q f = three (neighbours (λ q r. nat_eq (l.right q) (l.left r)) (l.hanging v))
          (firsts (λ q p. nat_eq (l.left p) (l.left q)) (l.ending v) (l.hanging v))
          (firsts (λ q p. nat_eq (l.right p) (l.right q)) (last_of (l.ending v)) (last_of (l.hanging v)))
          (lines v (let is = lists.hanging_is v k q f in omega (arith, is.1, nodes.hangs_above q is.0)))

  go_on_pass : ((q : ℕ) → q < l.squares → goes_on q ≡ true) → DoLinesGoOn l
  go_on_pass squares = record {
    on_left = λ q low f. let k = and_parts (is_first (l.ending (l.below q)) q) (nat_lt (l.below q) l.bottom)
        (after_of (l.goes_left q) (is_first (l.ending (l.below q)) q && nat_lt (l.below q) l.bottom) (square q low).0 f) in
        (first_to (l.ending (l.below q)) q k.0, ltb-true (l.below q) l.bottom k.1);
    on_right = λ q low f. let k = and_parts (is_first (last_of (l.ending (l.below q))) q) (nat_lt (l.below q) l.bottom)
        (after_of (l.goes_right q) (is_first (last_of (l.ending (l.below q))) q && nat_lt (l.below q) l.bottom) (square q low).1 f) in
        (last_to (l.ending (l.below q)) q (first_to (last_of (l.ending (l.below q))) q k.0), ltb-true (l.below q) l.bottom k.1);
    at_left_wall = λ q low f. first_to (l.ending (l.below q)) q (after_of (nat_eq (l.left q) 0) (is_first (l.ending (l.below q)) q) (rest q low).0
        (ap (λ (n : ℕ). nat_eq n 0) f));
    at_right_wall = λ q low f. last_to (l.ending (l.below q)) q (first_to (last_of (l.ending (l.below q))) q
        (after_of (nat_eq (l.right q) 1) (is_first (last_of (l.ending (l.below q))) q) (rest q low).1 (ap (λ (n : ℕ). nat_eq n 1) f)));
    meet = λ q r low_q low_r line f g. neighbours_to (l.ending (l.below q)) q r
        (or-right_of_false (l.goes_left r) (are_neighbours (l.ending (l.below q)) q r) g
        (or-right_of_false (l.goes_right q) (l.goes_left r || are_neighbours (l.ending (l.below q)) q r) f
        (after_of (nat_eq (l.right q) (l.left r)) (l.goes_right q || (l.goes_left r || are_neighbours (l.ending (l.below q)) q r))
        (each_below (do_meet q) l.squares (rest q low_q).2 r low_r) (eq-eqb (l.right q) (l.left r) line))));
  }
    where
      square : (q : ℕ) → q < l.squares
          → (at_left q ≡ true) × (at_right q ≡ true) × (at_left_wall q && (at_right_wall q && all_below (do_meet q) l.squares) ≡ true)
      square q low = three (at_left q) (at_right q) (at_left_wall q && (at_right_wall q && all_below (do_meet q) l.squares)) (squares q low)

      rest : (q : ℕ) → q < l.squares → (at_left_wall q ≡ true) × (at_right_wall q ≡ true) × (all_below (do_meet q) l.squares ≡ true)
      rest q low = three (at_left_wall q) (at_right_wall q) (all_below (do_meet q) l.squares) (square q low).2

  -- a layout that passes fits
  pub fits_by_test : is_fit ≡ true → Fits l
  fits_by_test e = from (and_parts (nat_lt 0 l.bottom && (are_lists && is_top))
      (all_below is_square l.squares && (all_below (λ v. is_node v && has_lines v) l.bottom && all_below goes_on l.squares)) e)
    where
      from : (nat_lt 0 l.bottom && (are_lists && is_top) ≡ true) × (all_below is_square l.squares
          && (all_below (λ v. is_node v && has_lines v) l.bottom && all_below goes_on l.squares) ≡ true) → Fits l
      from (f, g) = on (three (nat_lt 0 l.bottom) are_lists is_top f)
          (three (all_below is_square l.squares) (all_below (λ v. is_node v && has_lines v) l.bottom) (all_below goes_on l.squares) g)
        where
          on : (nat_lt 0 l.bottom ≡ true) × (are_lists ≡ true) × (is_top ≡ true) → (all_below is_square l.squares ≡ true)
              × (all_below (λ v. is_node v && has_lines v) l.bottom ≡ true) × (all_below goes_on l.squares ≡ true) → Fits l
          on (a, b, c) (d, h, k) = record {
            some = ltb-true 0 l.bottom a;
            lists = lists_pass b;
            nodes = nodes;
            lines = lines_pass (lists_pass b) nodes c (λ v low. (node v low).1);
            go_on = go_on_pass (each_below goes_on l.squares k);
          }
            where
              node : (v : ℕ) → v < l.bottom → (is_node v ≡ true) × (has_lines v ≡ true)
              node v low = and_parts (is_node v) (has_lines v) (each_below (λ v. is_node v && has_lines v) l.bottom h v low)

              nodes : AreNodes l
              nodes = nodes_pass (each_below is_square l.squares d) (λ v low. (node v low).0)
