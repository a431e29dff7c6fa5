-- Where things stand in lists: squares in lists without repeats, wires, and numbers that a map takes one to one.
use Rattle.std.specs.List.{position_or_len}
use Rattle.std.proofs.Common.{Bool, List, Option, Some, [], ap, arith, cond, false, inl, inr, length, map, nat_eq, not, refl, slice_get}
use Rattle.std.proofs.Common.{slice_index_or, subst, suc, sym, true, zero, ℕ, ◌+◌, ◌<◌, ◌∙◌, ◌∷◌, ◌≡◌, ◌≤◌, ◌⊎◌}
use Rattle.std.proofs.lemmas.Bool.{both_ways, cases_lt}
use Rattle.std.proofs.lemmas.List.{length-map}
use Rattle.bk_laws.proofs.Occurrences.{times}
use Rattle.bk_laws.proofs.ListPlaces.{get_after, get_append, get_either, get_map}
use Rattle.bk_laws.proofs.TestsAsNumbers.{nat_eq-same_or_no_count}
use Rattle.bk_tiling.specs.Tiling.{IsOneOf}
use Rattle.bk_tiling.specs.declared.Square.{Square}
use Rattle.bk_tiling.proofs.Groups.{row_of}
use Rattle.bk_net.proofs.NodeBelow.{has_node_below}
use Rattle.bk_net.proofs.SmithLists.{group_wires}
use Rattle.bk_lay.proofs.LaidRuns.{one_of}
use Rattle.bk_lay.proofs.WordPlay.{NoneTwice, fewer}
use Rattle.bk_lay.specs.Depiction.{IsNumbered, Span}
use Rattle.bk_word_net.proofs.WordFlows.Wires.{wires_by}

-- ---- numbers counted as squares, to compare how many there are

abbrev sq : ℕ → Square
sq n = record { x = n; y = 0; s = 0 }

abbrev upto : (ℕ → ℕ) → ℕ → List Square
upto f zero = []
upto f (suc n) = sq (f n) ∷ upto f n

length_upto : (f : ℕ → ℕ) (n : ℕ) → length (upto f n) ≡ n
length_upto f zero = refl
length_upto f (suc n) = ap suc (length_upto f n)

in_upto : (f : ℕ → ℕ) (n : ℕ) (q : Square) → IsOneOf q (upto f n) → (k : ℕ) × (k < n) × (q ≡ sq (f k))
in_upto f zero q h = absurd h
in_upto f (suc n) q (inl e) = (n, omega arith, e)
in_upto f (suc n) q (inr h) = let r = in_upto f n q h in (r.0, omega (arith, r.1), r.2)

to_upto : (f : ℕ → ℕ) (n k : ℕ) → k < n → IsOneOf (sq (f k)) (upto f n)
to_upto f zero k h = absurd (omega arith)
to_upto f (suc n) k h = cases (cases_lt k n) (to_upto f n k)
  where
    cases : (k < n) ⊎ (n ≤ k) → (k < n → IsOneOf (sq (f k)) (upto f n)) → IsOneOf (sq (f k)) (sq (f n) ∷ upto f n)
    cases (inl l) rest = inr (rest l)
    cases (inr l) rest = let same : k ≡ n = omega arith in inl (ap (λ (j : ℕ). sq (f j)) same)

once_upto : (f : ℕ → ℕ) (n : ℕ) → ((j k : ℕ) → j < n → k < n → f j ≡ f k → j ≡ k) → NoneTwice (upto f n)
once_upto f zero apart = tt
once_upto f (suc n) apart = ((λ h. twice (in_upto f n (sq (f n)) h)), once_upto f n (λ j k a b e. apart j k (omega arith) (omega arith) e))
  where
    twice : (k : ℕ) × (k < n) × (sq (f n) ≡ sq (f k)) → ⊥
    twice (k, h, e) = omega (arith, h, apart n k (omega arith) (omega arith) (ap (λ (s : Square). s.x) e))

-- numbers that go one to one into others are no more
pub not_more : (f g : ℕ → ℕ) (n m : ℕ) → ((j k : ℕ) → j < n → k < n → f j ≡ f k → j ≡ k) → ((j : ℕ) → j < n → (k : ℕ) × (k < m) × (f j ≡ g k)) → n ≤ m
not_more f g n m apart found = omega (
  arith,
  length_upto f n,
  length_upto g m,
  fewer (upto f n) (upto g m) (once_upto f n apart) (λ q h. to q (in_upto f n q h)),
)
  where
    to : (q : Square) → (k : ℕ) × (k < n) × (q ≡ sq (f k)) → IsOneOf q (upto g m)
    to q (k, h, e) = let r = found k h in subst (λ (s : Square). IsOneOf s (upto g m)) (sym (e ∙ ap sq r.2)) (to_upto g m r.0 r.1)

-- ---- places in lists

-- the one square that passes a test, at its place
pub pos_found : (f : Square → Bool) (squares : List Square) (q : Square) → IsOneOf q squares → f q ≡ true
    → ((r : Square) → IsOneOf r squares → f r ≡ true → r ≡ q) → slice_get squares (position_or_len f squares) ≡ Some q
pos_found f [] q h e only = absurd h
pos_found f (r ∷ squares) q h e only = cases (f r) refl h (pos_found f squares q)
  where
    step : (n : ℕ) → slice_get (r ∷ squares) (1 + n) ≡ slice_get squares n
    step n = ap (slice_get (r ∷ squares)) (same n)
      where
        same : (n : ℕ) → 1 + n ≡ suc n
        same n = omega arith

    at : (b : Bool) → f r ≡ b → slice_get (r ∷ squares) (cond (not (f r)) (1 + position_or_len f squares) 0)
        ≡ slice_get (r ∷ squares) (cond (not b) (1 + position_or_len f squares) 0)
    at b g = ap (λ (c : Bool). slice_get (r ∷ squares) (cond (not c) (1 + position_or_len f squares) 0)) g

    cases : (b : Bool) → f r ≡ b → (q ≡ r) ⊎ IsOneOf q squares
        → (IsOneOf q squares → f q ≡ true → ((r : Square) → IsOneOf r squares → f r ≡ true → r ≡ q)
        → slice_get squares (position_or_len f squares) ≡ Some q) → slice_get (r ∷ squares) (position_or_len f (r ∷ squares)) ≡ Some q
    cases true g k rest = at true g ∙ ap (λ (s : Square). Some s) (only r (inl refl) g)
    cases false g (inl same) rest = absurd (both_ways (f r) g (ap f (sym same) ∙ e))
    cases false g (inr k) rest = at false g ∙ step (position_or_len f squares) ∙ rest k e (λ s m. only s (inr m))

-- a square of a list has a place
pub index_of : (squares : List Square) (q : Square) → IsOneOf q squares → (k : ℕ) × (slice_get squares k ≡ Some q)
index_of [] q h = absurd h
index_of (r ∷ squares) q (inl e) = (0, ap (λ (s : Square). Some s) (sym e))
index_of (r ∷ squares) q (inr h) = let k = index_of squares q h in (suc k.0, k.1)

-- a square of a list without repeats has just one place
pub one_index : (squares : List Square) → NoneTwice squares → (j k : ℕ) (q : Square) → slice_get squares j ≡ Some q → slice_get squares k ≡ Some q → j ≡ k
one_index [] n j k q e f = absurd (cc)
one_index (r ∷ squares) n zero zero q e f = refl
one_index (r ∷ squares) n zero (suc k) q e f = absurd (n.0 (subst (λ (s : Square). IsOneOf s squares) same (one_of squares k q f)))
  where
    same : q ≡ r
    same = cc
one_index (r ∷ squares) n (suc j) zero q e f = absurd (n.0 (subst (λ (s : Square). IsOneOf s squares) same (one_of squares j q e)))
  where
    same : q ≡ r
    same = cc
one_index (r ∷ squares) n (suc j) (suc k) q e f = ap suc (one_index squares n.1 j k q e f)

-- a wire of a word's net, by its place
pub wires_got : (f : ℕ → ℕ) (b : ℕ) (hung : List ℕ) (k : ℕ) → k < length hung → slice_get (wires_by f b hung) k ≡ Some (slice_index_or hung k 0, f (b + k))
wires_got f b [] k h = absurd (omega arith)
wires_got f b (v ∷ hung) zero h = λ i. Some (v, f (same i))
  where
    same : b ≡ b + 0
    same = omega arith
wires_got f b (v ∷ hung) (suc k) h = wires_got f (b + 1) hung k (omega arith) ∙ (λ i. Some (slice_index_or hung k 0, f (same i)))
  where
    same : b + 1 + k ≡ b + suc k
    same = omega arith

-- the wire of the square at a place of the rows of groups
pub record WireAt (below : Square → ℕ) (n : ℕ) (groups : List (List Square)) (j : ℕ) (q : Square) : Type 0 where
  pub place : ℕ
  pub group : List Square
  pub is : slice_get groups place ≡ Some group
  pub inside : IsOneOf q group
  pub wire : slice_get (group_wires below n groups) j ≡ Some (n + place, below q)

-- each such square has one
pub wire_at : (below : Square → ℕ) (n : ℕ) (groups : List (List Square)) (j : ℕ) (q : Square) → slice_get (row_of groups) j ≡ Some q → WireAt below n groups j q
wire_at below n [] j q e = absurd (cc)
wire_at below n (g ∷ groups) j q e = cases (get_either g (row_of groups) j q e) (wire_at below (n + 1) groups)
  where
    zeroth : n ≡ n + 0
    zeroth = omega arith

    cases : (slice_get g j ≡ Some q) ⊎ ((i : ℕ) × (j ≡ length g + i) × (slice_get (row_of groups) i ≡ Some q))
        → ((j : ℕ) (q : Square) → slice_get (row_of groups) j ≡ Some q → WireAt below (n + 1) groups j q) → WireAt below n (g ∷ groups) j q
    cases (inl f) rest = record {
      place = 0;
      group = g;
      is = refl;
      inside = one_of g j q f;
      wire =
          get_append (map (λ q. (n, below q)) g) (group_wires below (n + 1) groups) j (n, below q) (get_map (λ q. (n, below q)) g j q f)
          ∙ (λ i. Some (zeroth i, below q));
    }
    cases (inr (i, h, f)) rest = let r = rest i q f in
        record {
          place = suc r.place;
          group = r.group;
          is = r.is;
          inside = r.inside;
          wire =
              get_after (map (λ q. (n, below q)) g) (group_wires below (n + 1) groups) i j
              (h ∙ ap (λ (k : ℕ). k + i) (sym (length-map g (λ q. (n, below q))))) ∙ r.wire ∙ later r.place;
        }
      where
        later : (p : ℕ) → ◌≡◌ {A = Option (ℕ × ℕ)} (Some (n + 1 + p, below q)) (Some (n + suc p, below q))
        later p = λ k. Some (same k, below q)
          where
            same : n + 1 + p ≡ n + suc p
            same = omega arith

-- a number that stands in a span is that of a square within it
pub span_within : (laid : List Square) (level x : ℕ) (numbers : List ℕ) (end m : ℕ) → Span laid level x numbers end → 0 < times m numbers
    → (q : Square) × IsNumbered laid m q × (q.y + q.s ≡ level) × (x ≤ q.x) × (q.x + q.s ≤ end)
span_within laid level x [] end m span h = absurd (omega arith)
span_within laid level x (n ∷ numbers) end m (q, at, has_node_below, bottom, rest) h =
    cases (nat_eq-same_or_no_count m n) (span_within laid level (x + q.s) numbers end m rest)
  where
    order : (numbers : List ℕ) (x : ℕ) → Span laid level x numbers end → x ≤ end
    order [] x s = omega (arith, s)
    order (k ∷ numbers) x s = omega (arith, order numbers (x + (s.0).s) s.4)

    cases : (n ≡ m) ⊎ ◌≡◌ {A = ℕ} (cond (nat_eq m n) 1 0) 0
        → (0 < times m numbers → (r : Square) × IsNumbered laid m r × (r.y + r.s ≡ level) × (x + q.s ≤ r.x) × (r.x + r.s ≤ end))
        → (q : Square) × IsNumbered laid m q × (q.y + q.s ≡ level) × (x ≤ q.x) × (q.x + q.s ≤ end)
    cases (inl e) more =
        (q, subst (λ (k : ℕ). IsNumbered laid k q) e at, bottom, omega (arith, has_node_below), omega (arith, has_node_below, order numbers (x + q.s) rest))
    cases (inr e) more = let r = more (omega (arith, e)) in (r.0, r.1, r.2, omega (arith, r.3), r.4)
