-- In the play of any word, legal or not, each square that was hung stands in just one of the closed and open
-- segments, and once.
use Rattle.std.specs.List.{list_any}
use Rattle.std.proofs.Common.{Bool, List, [], ap, arith, cond, drop, false, inl, inr, length, map, nat_eq, not, refl, replicate, slice_index_or}
use Rattle.std.proofs.Common.{subst, suc, sym, take, true, zero, ℕ, ◌++◌, ◌+◌, ◌<◌, ◌∙◌, ◌∷◌, ◌≡◌, ◌≤◌, ◌⊎◌}
use Rattle.std.proofs.lemmas.Bool.{cases_eq}
use Rattle.std.proofs.lemmas.Bool.Decides.{nat_tests}
use Rattle.std.proofs.lemmas.List.{length-append, length-replicate}
use Rattle.bk_laws.proofs.Occurrences.{times, times-append, times-list_any_cases, times_at, times_in, times_in-append, times_in-cut_at, times_in-singletons}
use Rattle.bk_laws.proofs.Tests.{no_successor_counts_for_zero, successors_count_alike, zero_counts_for_no_successor}
use Rattle.bk_word.specs.Outline.{Outline, start, valley_of, valley_place}
use Rattle.bk_word.specs.Play.{after_move, after_moves, before_first_list, joined, new_squares, numbers_from, segments_apart, signs_apart}
use Rattle.bk_word.specs.Word.{Move, Word}
use Rattle.bk_word.specs.declared.Sign.{Sign}
use Rattle.bk_word.specs.declared.Sign.TheVariants.{Above, Even, Under}
use Rattle.bk_word_net.specs.WordNet.{end_of}

times_in-before : (m : ℕ) (numbers : List ℕ) (lists : List (List ℕ)) → times_in m (before_first_list numbers lists) ≡ times m numbers + times_in m lists
times_in-before m numbers [] = refl
times_in-before m numbers (next ∷ lists) = omega (arith, times-append m numbers next)

-- joining keeps how often a number stands in the segments
pub times_in-joined : (m : ℕ) (signs : List Sign) (lists : List (List ℕ)) → times_in m (joined signs lists) ≡ times_in m lists
times_in-joined m signs [] = refl
times_in-joined m [] (numbers ∷ lists) = refl
times_in-joined m (Even ∷ signs) (numbers ∷ lists) = omega (arith, times_in-before m numbers (joined signs lists), times_in-joined m signs lists)
times_in-joined m (Above ∷ signs) (numbers ∷ lists) = omega (arith, times_in-joined m signs lists)
times_in-joined m (Under ∷ signs) (numbers ∷ lists) = omega (arith, times_in-joined m signs lists)

numbers-append : (n j k : ℕ) → numbers_from n (j + k) ≡ numbers_from n j ++ numbers_from (n + j) k
numbers-append n zero k = (λ i. numbers_from n (a i)) ∙ (λ i. numbers_from (b i) k)
  where
    a : 0 + k ≡ k
    a = omega arith

    b : n ≡ n + 0
    b = omega arith
numbers-append n (suc j) k = (λ i. numbers_from n (a i)) ∙ (λ i. n ∷ numbers-append (n + 1) j k i) ∙ (λ i. n ∷ (numbers_from (n + 1) j ++ numbers_from (b i) k))
  where
    a : suc j + k ≡ suc (j + k)
    a = omega arith

    b : n + 1 + j ≡ n + suc j
    b = omega arith

-- each number hung stands in the lists once, and no other number does
abbrev pub Numbered : Outline → Type 0
Numbered o = (m : ℕ) → times_in m (o.closed ++ o.segments) ≡ times m (numbers_from 1 (length o.hung))

-- at the start no square is numbered
pub numbered_start : Numbered start
numbered_start m = refl

-- a move numbers its squares on
pub numbered_move : (o : Outline) (n : Move) → Numbered o → Numbered (after_move o n)
numbered_move o n before m = omega (
  arith,
  before m,
  times_in-append m o.closed o.segments,
  times_in-append m (o.closed ++ valley_of o ∷ []) (joined (signs_apart o n) (segments_apart o n)),
  times_in-append m o.closed (valley_of o ∷ []),
  times_in-joined m (signs_apart o n) (segments_apart o n),
  times_in-append m (take (valley_place o.signs) o.segments ++ map (λ q. q ∷ []) (new_squares o n)) (drop (valley_place o.signs + 1) o.segments),
  times_in-append m (take (valley_place o.signs) o.segments) (map (λ q. q ∷ []) (new_squares o n)),
  times_in-singletons m (new_squares o n),
  times_in-cut_at m (valley_place o.signs) o.segments,
  next,
  longer,
)
  where
    same : valley_place o.signs + 1 ≡ suc (valley_place o.signs)
    same = omega arith

    next : times_in m (drop (valley_place o.signs + 1) o.segments) ≡ times_in m (drop (suc (valley_place o.signs)) o.segments)
    next = λ i. times_in m (drop (same i) o.segments)

    long : length (o.hung ++ replicate n.count (length o.closed)) ≡ length o.hung + n.count
    long = omega (arith, length-append o.hung (replicate n.count (length o.closed)), length-replicate n.count (length o.closed))

    one : 1 + length o.hung ≡ length o.hung + 1
    one = omega arith

    longer : times m (numbers_from 1 (length (o.hung ++ replicate n.count (length o.closed))))
        ≡ times m (numbers_from 1 (length o.hung)) + times m (numbers_from (length o.hung + 1) n.count)
    longer = (λ i. times m (numbers_from 1 (long i))) ∙ ap (times m) (numbers-append 1 (length o.hung) n.count)
        ∙ times-append m (numbers_from 1 (length o.hung)) (numbers_from (1 + length o.hung) n.count)
        ∙ (λ i. times m (numbers_from 1 (length o.hung)) + times m (numbers_from (one i) n.count))

-- moves number the squares on
pub numbered_moves : (o : Outline) (w : Word) → Numbered o → Numbered (after_moves o w)
numbered_moves o [] before = before
numbered_moves o (m ∷ w) before = numbered_moves (after_move o m) w (numbered_move o m before)

times_none : (m n k : ℕ) → m < n → times m (numbers_from n k) ≡ 0
times_none m n zero h = refl
times_none m n (suc k) h = omega (arith, differ, times_none m (n + 1) k (omega arith))
  where
    differ : ◌≡◌ {A = ℕ} (cond (nat_eq m n) 1 0) 0
    differ = grind (arith, nat_tests)

-- each of the numbers from one on stands among them once
pub times_one : (m n k : ℕ) → n ≤ m → m < n + k → times m (numbers_from n k) ≡ 1
times_one m n zero h l = absurd (omega arith)
times_one m n (suc k) h l = cases (two m n h) (times_one m (n + 1) k)
  where
    two : (m n : ℕ) → n ≤ m → (m ≡ n) ⊎ (n + 1 ≤ m)
    two m n h = grind arith

    one : m ≡ n → ◌≡◌ {A = ℕ} (cond (nat_eq m n) 1 0) 1
    one e = grind (arith, nat_tests)

    none : n + 1 ≤ m → ◌≡◌ {A = ℕ} (cond (nat_eq m n) 1 0) 0
    none e = grind (arith, nat_tests)

    cases : (m ≡ n) ⊎ (n + 1 ≤ m) → (n + 1 ≤ m → m < n + 1 + k → times m (numbers_from (n + 1) k) ≡ 1)
        → cond (nat_eq m n) 1 0 + times m (numbers_from (n + 1) k) ≡ 1
    cases (inl e) rest = omega (arith, one e, times_none m (n + 1) k (omega arith))
    cases (inr e) rest = omega (arith, none e, rest e (omega arith))

-- what stands among the numbers from one on is in their range
pub times_some : (m n k : ℕ) → 0 < times m (numbers_from n k) → (n ≤ m) × (m < n + k)
times_some m n zero h = absurd (omega arith)
times_some m n (suc k) h = cases (cases_eq m n) (times_some m (n + 1) k)
  where
    none : (m ≡ n → ⊥) → ◌≡◌ {A = ℕ} (cond (nat_eq m n) 1 0) 0
    none e = grind (arith, nat_tests)

    cases : (m ≡ n) ⊎ (m ≡ n → ⊥) → (0 < times m (numbers_from (n + 1) k) → (n + 1 ≤ m) × (m < n + 1 + k)) → (n ≤ m) × (m < n + suc k)
    cases (inl e) rest = (omega arith, omega arith)
    cases (inr e) rest = let r = rest (omega (arith, none e)) in (omega (arith, r.0), omega (arith, r.1))

-- a number that stands in the lists once stands in the list at that place, and in no other
pub record HasPlace (m : ℕ) (lists : List (List ℕ)) (place : ℕ) : Type 0 where
  pub below : place < length lists
  pub here : 0 < times m (slice_index_or lists place [])
  pub counts : (v : ℕ) → times m (slice_index_or lists v []) ≡ cond (nat_eq place v) 1 0

-- a number that stands once in some lists has its list
pub has_place : (m : ℕ) (lists : List (List ℕ)) → times_in m lists ≡ 1 → HasPlace m lists (end_of lists m)
has_place m [] e = absurd (omega arith)
has_place m (numbers ∷ lists) e = cases (times-list_any_cases m numbers) (has_place m lists)
  where
    place_of : (b : Bool) → list_any (nat_eq m) numbers ≡ b → cond (not b) (1 + end_of lists m) 0 ≡ end_of (numbers ∷ lists) m
    place_of b same = ap (λ c. cond (not c) (1 + end_of lists m) 0) (sym same)

    here : ◌≡◌ {A = ℕ} (cond (nat_eq 0 0) 1 0) 1
    here = refl

    at : (a v : ℕ) → slice_index_or (numbers ∷ lists) (1 + a) [] ≡ slice_index_or lists a []
    at a v = λ i. slice_index_or (numbers ∷ lists) (step i) []
      where
        step : 1 + a ≡ suc a
        step = omega arith

    cases : ((list_any (nat_eq m) numbers ≡ true) × (0 < times m numbers)) ⊎ ((list_any (nat_eq m) numbers ≡ false) × (times m numbers ≡ 0))
        → (times_in m lists ≡ 1 → HasPlace m lists (end_of lists m)) → HasPlace m (numbers ∷ lists) (end_of (numbers ∷ lists) m)
    cases (inl h) rest = subst (HasPlace m (numbers ∷ lists)) (place_of true h.0) (record { below = omega arith; here = h.1; counts = counts })
      where
        counts : (v : ℕ) → times m (slice_index_or (numbers ∷ lists) v []) ≡ cond (nat_eq 0 v) 1 0
        counts zero = omega (arith, h.1)
        counts (suc v) = omega (arith, h.1, times_at m v lists, zero_counts_for_no_successor v)
    cases (inr h) rest = subst (HasPlace m (numbers ∷ lists)) (place_of false h.0)
        (record {
          below = omega (arith, r.below);
          here =
              subst (λ (numbers : List ℕ). 0 < times m numbers) (sym (at (end_of lists m) 0)) r.here;
          counts = counts;
        })
      where
        r : HasPlace m lists (end_of lists m)
        r = rest (omega (arith, h.1))

        counts : (v : ℕ) → times m (slice_index_or (numbers ∷ lists) v []) ≡ cond (nat_eq (1 + end_of lists m) v) 1 0
        counts zero = omega (arith, h.1, no_successor_counts_for_zero (end_of lists m))
        counts (suc v) = omega (arith, r.counts v, successors_count_alike (end_of lists m) v)

-- in a play each number hung has its place
pub place_of_number : (o : Outline) → Numbered o → (m : ℕ) → 1 ≤ m → m ≤ length o.hung → HasPlace m (o.closed ++ o.segments) (end_of (o.closed ++ o.segments) m)
place_of_number o numbered m a b = has_place m (o.closed ++ o.segments) (numbered m ∙ times_one m 1 (length o.hung) a (omega arith))
