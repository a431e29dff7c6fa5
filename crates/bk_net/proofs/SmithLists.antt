-- Lists of groups and their wires: what flows out and in, as sums; the group in which a test passes; and columns counted
-- two ways.
use Rattle.std.specs.List.{AllByRecursion, enumerate_from, flat_map, list_any, position_or_len}
use Rattle.std.specs.Prelude.{pos, ℤ, ◌+ℤ◌, ◌-ℤ◌}
use Rattle.std.proofs.Common.{Bool, Contains, List, Some, [], ap, arith, cond, count_by, false, inl, inr, length, map, nat_eq, not, refl, slice_get}
use Rattle.std.proofs.Common.{slice_index_or, subst, suc, sym, true, zero, ℕ, ◌++◌, ◌+◌, ◌<◌, ◌||◌, ◌∙◌, ◌∷◌, ◌≡◌, ◌≤◌, ◌⊎◌}
use Rattle.std.proofs.lemmas.Bool.Decides.{nat_tests}
use Rattle.std.proofs.lemmas.Int.{ints}
use Rattle.std.proofs.lemmas.List.Elements.{Contains-append_left, Contains-append_right}
use Rattle.std.proofs.lemmas.List.Sums.{sum_by-append}
use Rattle.std.proofs.lemmas.List.{length-map, map-append}
use Rattle.bk_laws.proofs.Totals.{total}
use Rattle.bk_laws.proofs.AllOfLists.{all_append}
use Rattle.bk_laws.proofs.Magnitudes.{signed_terms-none, signed_terms-wire_at_source}
use Rattle.bk_laws.proofs.Tests.{no_successor_counts_for_zero, successors_count_alike, zero_counts_for_no_successor}
use Rattle.bk_tiling.proofs.Cells.{count-cons}
use Rattle.bk_tiling.proofs.Rows.{laid_sides}
use Rattle.bk_tiling.specs.Tiling.{IsOneOf}
use Rattle.bk_tiling.specs.declared.Square.{Square}
use Rattle.bk_tiling.proofs.Groups.{row_of}
use Rattle.bk_net.specs.Flow.{outflow}

-- the wires of groups, from node n on, where each square ends at the node that below gives
abbrev pub group_wires : (Square → ℕ) → ℕ → List (List Square) → List (ℕ × ℕ)
group_wires below n groups = flat_map (λ p. map (λ q. (p.0, below q)) p.1) (enumerate_from n groups)

-- the sides of all squares that end at node v, by the node that below gives
abbrev pub in_total : (Square → ℕ) → ℕ → List Square → ℕ
in_total below v [] = 0
in_total below v (q ∷ squares) = cond (nat_eq (below q) v) q.s 0 + in_total below v squares

-- the sides of all squares of the groups with the number v, where the first group has the number n
abbrev pub out_total : ℕ → ℕ → List (List Square) → ℕ
out_total n v [] = 0
out_total n v (g ∷ groups) = cond (nat_eq n v) (total (laid_sides g)) 0 + out_total (n + 1) v groups

outflow-append : (ws vs : List (ℕ × ℕ)) (cs ds : List ℤ) (v : ℕ) → length ws ≡ length cs → outflow (ws ++ vs) (cs ++ ds) v ≡ outflow ws cs v +ℤ outflow vs ds v
outflow-append [] vs [] ds v e = omega (arith, ints)
outflow-append [] vs (c ∷ cs) ds v e = absurd (omega arith)
outflow-append (w ∷ ws) vs [] ds v e = absurd (omega arith)
outflow-append (w ∷ ws) vs (c ∷ cs) ds v e = omega (arith, ints, outflow-append ws vs cs ds v (omega arith))

group_outflow : (below : Square → ℕ) (n v : ℕ) (g : List Square) → outflow (map (λ q. (n, below q)) g) (map (λ q. pos q.s) g) v
    ≡ pos (cond (nat_eq n v) (total (laid_sides g)) 0) -ℤ pos (in_total below v g)
group_outflow below n v [] = signed_terms-none (nat_eq n v)
group_outflow below n v (q ∷ g) =
    signed_terms-wire_at_source (nat_eq n v) (nat_eq (below q) v) q.s (total (laid_sides g)) (in_total below v g)
    (outflow (map (λ q. (n, below q)) g) (map (λ q. pos q.s) g) v) (group_outflow below n v g)

in_total-append : (below : Square → ℕ) (v : ℕ) (front back : List Square) → in_total below v (front ++ back) ≡ in_total below v front + in_total below v back
in_total-append below v [] back = omega arith
in_total-append below v (q ∷ front) back = omega (arith, in_total-append below v front back)

-- what flows out of a node, where the sides are the currents, is what hangs from it less what ends at it
pub all_outflow : (below : Square → ℕ) (n v : ℕ) (groups : List (List Square))
    → outflow (group_wires below n groups) (map (λ q. pos q.s) (row_of groups)) v
    ≡ pos (out_total n v groups) -ℤ pos (in_total below v (row_of groups))
all_outflow below n v [] = omega (arith, ints)
all_outflow below n v (g ∷ groups) =
    ap (λ (cs : List ℤ). outflow (map (λ q. (n, below q)) g ++ group_wires below (n + 1) groups) cs v) (map-append (λ q. pos q.s) g (row_of groups))
    ∙ outflow-append (map (λ q. (n, below q)) g) (group_wires below (n + 1) groups) (map (λ q. pos q.s) g) (map (λ q. pos q.s) (row_of groups)) v
    (length-map g (λ q. (n, below q)) ∙ sym (length-map g (λ q. pos q.s)))
    ∙ omega (arith, ints, group_outflow below n v g, all_outflow below (n + 1) v groups, in_total-append below v g (row_of groups))

out_none : (n v : ℕ) (groups : List (List Square)) → v < n → out_total n v groups ≡ 0
out_none n v [] h = refl
out_none n v (g ∷ groups) h = omega (arith, differ, out_none (n + 1) v groups (omega arith))
  where
    differ : cond (nat_eq n v) (total (laid_sides g)) 0 ≡ 0
    differ = grind (arith, nat_tests)

-- from the group at a place hang its own squares
pub out_at : (n v k : ℕ) (groups : List (List Square)) (g : List Square) → slice_get groups k ≡ Some g → v ≡ n + k → out_total n v groups ≡ total (laid_sides g)
out_at n v k [] g e f = absurd (cc)
out_at n v zero (h ∷ groups) g e f = omega (arith, here, out_none (n + 1) v groups (omega arith), ap (λ (x : List Square). total (laid_sides x)) same)
  where
    same : h ≡ g
    same = cc

    here : cond (nat_eq n v) (total (laid_sides h)) 0 ≡ total (laid_sides h)
    here = grind (arith, nat_tests)
out_at n v (suc k) (h ∷ groups) g e f = omega (arith, differ, out_at (n + 1) v k groups g e (omega arith))
  where
    differ : cond (nat_eq n v) (total (laid_sides h)) 0 ≡ 0
    differ = grind (arith, nat_tests)

-- each current is what f gives for its wire
pub group_currents : (below : Square → ℕ) (f : ℕ × ℕ → ℤ) (n : ℕ) (groups : List (List Square))
    → ((k : ℕ) (g : List Square) → slice_get groups k ≡ Some g → (q : Square) → IsOneOf q g → pos q.s ≡ f (n + k, below q))
    → map (λ q. pos q.s) (row_of groups) ≡ map f (group_wires below n groups)
group_currents below f n [] each = refl
group_currents below f n (g ∷ groups) each = map-append (λ q. pos q.s) g (row_of groups)
    ∙ (λ i. own g (λ q h. each 0 g refl q h ∙ ap (λ (v : ℕ). f (v, below q)) (omega arith)) i ++ group_currents below f (n + 1) groups
    (λ k h e q m. each (suc k) h e q m ∙ ap (λ (v : ℕ). f (v, below q)) (omega arith)) i)
    ∙ sym (map-append f (map (λ q. (n, below q)) g) (group_wires below (n + 1) groups))
  where
    own : (g : List Square) → ((q : Square) → IsOneOf q g → pos q.s ≡ f (n, below q)) → map (λ q. pos q.s) g ≡ map f (map (λ q. (n, below q)) g)
    own [] each = refl
    own (q ∷ g) each = λ i. each q (inl refl) i ∷ own g (λ r h. each r (inr h)) i

-- each wire, and all of them
pub wire_in : (below : Square → ℕ) (n : ℕ) (groups : List (List Square)) (k : ℕ) (g : List Square) (q : Square) → slice_get groups k ≡ Some g
    → IsOneOf q g → Contains (group_wires below n groups) (n + k, below q)
wire_in below n [] k g q e h = absurd (cc)
wire_in below n (x ∷ groups) zero g q e h = Contains-append_left (map (λ q. (n, below q)) x) (group_wires below (n + 1) groups) (
  n + 0,
  below q,
) (own x (subst (IsOneOf q) (sym same) h))
  where
    same : x ≡ g
    same = cc

    at : n ≡ n + 0
    at = omega arith

    own : (g : List Square) → IsOneOf q g → Contains {X = ℕ × ℕ} (map (λ q. (n, below q)) g) (n + 0, below q)
    own [] h = absurd h
    own (r ∷ g) (inl e) = (0, omega arith, λ i. (at i, below (sym e i)))
    own (r ∷ g) (inr h) = let c = own g h in (suc c.0, omega (arith, c.1), c.2)
wire_in below n (x ∷ groups) (suc k) g q e h = Contains-append_right (map (λ q. (n, below q)) x) (group_wires below (n + 1) groups) (
  n + suc k,
  below q,
) (subst (λ (v : ℕ). Contains {X = ℕ × ℕ} (group_wires below (n + 1) groups) (v, below q)) (omega arith)
    (wire_in below (n + 1) groups k g q e h))

-- what holds of the wire of each square of each group holds of all wires
pub wires_each : (P : ℕ × ℕ → Type 0) (below : Square → ℕ) (n : ℕ) (groups : List (List Square))
    → ((k : ℕ) (g : List Square) → slice_get groups k ≡ Some g → (q : Square) → IsOneOf q g → P (n + k, below q))
    → AllByRecursion P (group_wires below n groups)
wires_each P below n [] each = tt
wires_each P below n (g ∷ groups) each = all_append P (map (λ q. (n, below q)) g) (group_wires below (n + 1) groups)
    (own g (λ q h. subst (λ (v : ℕ). P (v, below q)) (omega arith) (each 0 g refl q h)))
    (wires_each P below (n + 1) groups (λ k h e q m. subst (λ (v : ℕ). P (v, below q)) (omega arith) (each (suc k) h e q m)))
  where
    own : (g : List Square) → ((q : Square) → IsOneOf q g → P (n, below q)) → AllByRecursion P (map (λ q. (n, below q)) g)
    own [] each = tt
    own (q ∷ g) each = (each q (inl refl), own g (λ r h. each r (inr h)))

-- ---- the group in which a test passes

-- as many squares pass a test in a first group and in the others as in all together
pub count_row : (f : Square → Bool) (g : List Square) (groups : List (List Square))
    → count_by f (row_of (g ∷ groups)) ≡ count_by f g + count_by f (row_of groups)
count_row f g groups = sum_by-append (λ q. cond (f q) 1 0) g (row_of groups)

-- in one group no more pass than in all
pub count_at : (f : Square → Bool) (groups : List (List Square)) (v : ℕ) → count_by f (slice_index_or groups v []) ≤ count_by f (row_of groups)
count_at f [] v = omega arith
count_at f (g ∷ groups) zero = omega (arith, count_row f g groups)
count_at f (g ∷ groups) (suc v) = omega (arith, count_row f g groups, count_at f groups v)

any_count : (f : Square → Bool) (g : List Square) → ((list_any f g ≡ true) × (0 < count_by f g)) ⊎ ((list_any f g ≡ false) × (count_by f g ≡ 0))
any_count f [] = inr (refl, refl)
any_count f (q ∷ g) = cases (f q) refl (any_count f g)
  where
    cases : (b : Bool) → f q ≡ b → ((list_any f g ≡ true) × (0 < count_by f g)) ⊎ ((list_any f g ≡ false) × (count_by f g ≡ 0))
        → ((f q || list_any f g ≡ true) × (0 < count_by f (q ∷ g))) ⊎ ((f q || list_any f g ≡ false) × (count_by f (q ∷ g) ≡ 0))
    cases true e rest = inl (ap (λ (c : Bool). c || list_any f g) e, omega (arith, count-cons f q g, ap (λ (c : Bool). cond {A = ℕ} c 1 0) e))
    cases false e (inl h) = inl (ap (λ (c : Bool). c || list_any f g) e ∙ h.0, omega (arith, count-cons f q g, h.1))
    cases false e (inr h) = inr (ap (λ (c : Bool). c || list_any f g) e ∙ h.0, omega (arith, count-cons f q g, h.1, ap (λ (c : Bool). cond {A = ℕ} c 1 0) e))

-- the one group in which a test passes of a square, or none: how often it passes in each
pub record HasGroup (f : Square → Bool) (groups : List (List Square)) (place : ℕ) : Type 0 where
  pub most : place ≤ length groups
  pub found : ((place < length groups) × (0 < count_by f (slice_index_or groups place []))) ⊎ ((place ≡ length groups) × (count_by f (row_of groups) ≡ 0))
  pub counts : (v : ℕ) → v < length groups → count_by f (slice_index_or groups v []) ≡ cond (nat_eq place v) 1 0

-- where a test passes at most once, one group has that square, and it is the first in which the test passes, or none has
pub has_group : (f : Square → Bool) (groups : List (List Square)) → count_by f (row_of groups) ≤ 1 → HasGroup f groups (position_or_len (list_any f) groups)
has_group f [] once = record { most = omega arith; found = inr (refl, refl); counts = λ v h. absurd (omega arith) }
has_group f (g ∷ groups) once = cases (any_count f g) (has_group f groups)
  where
    place_of : (b : Bool) → list_any f g ≡ b → cond (not b) (1 + position_or_len (list_any f) groups) 0 ≡ position_or_len (list_any f) (g ∷ groups)
    place_of b same = ap (λ (c : Bool). cond (not c) (1 + position_or_len (list_any f) groups) 0) (sym same)

    at : (a : ℕ) → slice_index_or (g ∷ groups) (1 + a) [] ≡ slice_index_or groups a []
    at a = λ i. slice_index_or (g ∷ groups) (step i) []
      where
        step : 1 + a ≡ suc a
        step = omega arith

    cases : ((list_any f g ≡ true) × (0 < count_by f g)) ⊎ ((list_any f g ≡ false) × (count_by f g ≡ 0))
        → (count_by f (row_of groups) ≤ 1 → HasGroup f groups (position_or_len (list_any f) groups))
        → HasGroup f (g ∷ groups) (position_or_len (list_any f) (g ∷ groups))
    cases (inl h) rest = subst (HasGroup f (g ∷ groups)) (place_of true h.0) (record { most = omega arith; found = inl (omega arith, h.1); counts = counts })
      where
        counts : (v : ℕ) → v < length (g ∷ groups) → count_by f (slice_index_or (g ∷ groups) v []) ≡ cond (nat_eq 0 v) 1 0
        counts zero l = omega (arith, h.1, count_row f g groups)
        counts (suc v) l = omega (arith, h.1, count_row f g groups, count_at f groups v, zero_counts_for_no_successor v)
    cases (inr h) rest = subst (HasGroup f (g ∷ groups)) (place_of false h.0) (record { most = omega (arith, r.most); found = found r.found; counts = counts })
      where
        r : HasGroup f groups (position_or_len (list_any f) groups)
        r = rest (omega (arith, count_row f g groups))

        found : ((position_or_len (list_any f) groups < length groups)
            × (0 < count_by f (slice_index_or groups (position_or_len (list_any f) groups) [])))
            ⊎ ((position_or_len (list_any f) groups ≡ length groups) × (count_by f (row_of groups) ≡ 0))
            → ((1 + position_or_len (list_any f) groups < length (g ∷ groups))
            × (0 < count_by f (slice_index_or (g ∷ groups) (1 + position_or_len (list_any f) groups) [])))
            ⊎ ((1 + position_or_len (list_any f) groups ≡ length (g ∷ groups)) × (count_by f (row_of (g ∷ groups)) ≡ 0))
        found (inl k) = inl (omega (arith, k.0), subst (λ (l : List Square). 0 < count_by f l) (sym (at (position_or_len (list_any f) groups))) k.1)
        found (inr k) = inr (omega (arith, k.0), omega (arith, count_row f g groups, h.1, k.1))

        counts : (v : ℕ) → v < length (g ∷ groups)
            → count_by f (slice_index_or (g ∷ groups) v []) ≡ cond (nat_eq (1 + position_or_len (list_any f) groups) v) 1 0
        counts zero l = omega (arith, h.1, no_successor_counts_for_zero (position_or_len (list_any f) groups))
        counts (suc v) l = omega (arith, r.counts v (omega arith), successors_count_alike (position_or_len (list_any f) groups) v)
