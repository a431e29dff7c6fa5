-- Levels found wire by wire, and edges found square by square; all of them small.
use Rattle.std.specs.Int.{w64}
use Rattle.std.specs.Prelude.{FitsSigned, nat_abs, negsuc, pos, ℤ, ◌+ℤ◌}
use Rattle.std.proofs.Common.{List, [], ap, arith, drop, inl, inr, length, length-set, of_z, refl, set, slice_index_or, subst, suc, sym, to_z}
use Rattle.std.proofs.Common.{zero, ℕ, ◌*◌, ◌++◌, ◌+◌, ◌<◌, ◌^◌, ◌∙◌, ◌∷◌, ◌≡◌, ◌≤◌, ◌⊎◌}
use Rattle.std.proofs.Math.Seq.{drop-cons}
use Rattle.std.proofs.lemmas.Bool.{cases_eq, cases_lt}
use Rattle.std.proofs.lemmas.Int.{ints, to_z-of_z}
use Rattle.std.proofs.lemmas.List.{get_or-map, get_or-set_other, get_or-set_same, length-append, length-map}
use Rattle.bk_laws.proofs.ListPlaces.{get_back, get_front}
use Rattle.bk_tiling.specs.declared.Square.{Square}
use Rattle.bk_found.specs.Candidate.{line_place, right_edges_from}
use Rattle.bk_found.specs.ToldCorners.{Lines}
use Rattle.bk_found.specs.Placing.{AreKnownLines, AreLevels, AreSmallNumbers, EndWithin, HasLevels, IsPlacedAt, IsSmallNumber, by_lefts, edges_by_lefts}

-- a sum of two small numbers is as small as both bounds together
pub small_sum : (a b : ℕ) (x y z : ℤ) → IsSmallNumber a x → IsSmallNumber b y → z ≡ x +ℤ y → IsSmallNumber (a + b) z
small_sum a b x y z s t e = (omega (arith, ints, s.0, t.0, e), omega (arith, ints, s.1, t.1, e))

-- a small number is small by a greater bound
pub small_number_by_a_greater_bound : (a b : ℕ) (x : ℤ) → IsSmallNumber a x → a ≤ b → IsSmallNumber b x
small_number_by_a_greater_bound a b x s h = (omega (arith, ints, s.0, h), omega (arith, ints, s.1, h))

-- 0 is small
pub zero_is_a_small_number : (a : ℕ) → IsSmallNumber a (pos 0)
zero_is_a_small_number a = (omega (arith, ints), omega (arith, ints))

-- a number of small magnitude is small
pub small_from : (most : ℕ) (z : ℤ) → nat_abs z ≤ most → IsSmallNumber most z
small_from most (pos n) h = (omega (arith, ints, h), omega (arith, ints, h))
small_from most (negsuc n) h = (omega (arith, ints, h), omega (arith, ints, h))

-- what is small fits 64 bits
pub fits_small : (most : ℕ) (z : ℤ) → IsSmallNumber most z → most ≤ 2 ^ 40 → FitsSigned w64 z
fits_small most (pos n) s h = record { sfits = omega (arith, ints, s.1, h) }
fits_small most (negsuc n) s h = record { sfits = omega (arith, ints, s.0, h) }

-- a small number is held in 64 bits as it is
pub held_as_is : (most : ℕ) (z : ℤ) → IsSmallNumber most z → most ≤ 2 ^ 40 → to_z w64 (of_z w64 z) ≡ z
held_as_is most z small few = to_z-of_z w64 z (fits_small most z small few)

-- a small number that is held in 64 bits stays small
pub held_still : (most : ℕ) (z : ℤ) → IsSmallNumber most z → most ≤ 2 ^ 40 → IsSmallNumber most (to_z w64 (of_z w64 z))
held_still most z small few = subst (λ (x : ℤ). IsSmallNumber most x) (sym (held_as_is most z small few)) small

-- a small number that is held in 64 bits is within what 40 bits hold
pub held_within : (most : ℕ) (z : ℤ) → IsSmallNumber most z → most ≤ 2 ^ 40 → IsSmallNumber (2 ^ 40) (to_z w64 (of_z w64 z))
held_within most z small few = small_number_by_a_greater_bound most (2 ^ 40) (to_z w64 (of_z w64 z)) (held_still most z small few) few

-- ---- levels

-- the wires so far have given their ends a level, all small, and the right ones where the wires have levels
pub record AreLevelled (wires : List (ℕ × ℕ)) (currents levels : List ℤ) (i : ℕ) : Type 0 where
  pub room : length levels ≡ 17
  pub small : (v : ℕ) → v < 17 → IsSmallNumber (i * 2 ^ 34) (slice_index_or levels v (pos 0))
  pub right : (at : ℕ → ℤ) → AreLevels wires currents at
      → (slice_index_or levels 0 (pos 0) ≡ at 0)
      × ((j : ℕ) → j < i → slice_index_or levels (slice_index_or wires j (0, 0)).1 (pos 0) ≡ at (slice_index_or wires j (0, 0)).1)

-- the level at which a wire begins is right
starts_right : (wires : List (ℕ × ℕ)) (currents levels : List ℤ) (i : ℕ) → AreLevelled wires currents levels i → i < length wires
    → (at : ℕ → ℤ) → AreLevels wires currents at
    → (k : ℕ) → k ≤ i → k < length wires → slice_index_or levels (slice_index_or wires k (0, 0)).0 (pos 0) ≡ at (slice_index_or wires k (0, 0)).0
starts_right wires currents levels i levelled within at are k h low = from (are.begun k low)
  where
    from : ((slice_index_or wires k (0, 0)).0 ≡ 0) ⊎ ((j : ℕ) × (j < k) × ((slice_index_or wires j (0, 0)).1 ≡ (slice_index_or wires k (0, 0)).0))
        → slice_index_or levels (slice_index_or wires k (0, 0)).0 (pos 0) ≡ at (slice_index_or wires k (0, 0)).0
    from (inl e) = subst (λ (v : ℕ). slice_index_or levels v (pos 0) ≡ at v) (sym e) (levelled.right at are).0
    from (inr (j, less, e)) = subst (λ (v : ℕ). slice_index_or levels v (pos 0) ≡ at v) e ((levelled.right at are).1 j (omega (arith, less, h)))

-- one wire more: its end lies its current below its beginning
pub levelled_more : (wires : List (ℕ × ℕ)) (currents levels : List ℤ) (i from to : ℕ) (level : ℤ) → AreLevelled wires currents levels i
    → i < length wires → length currents ≡ length wires → EndWithin 17 wires → AreSmallNumbers (2 ^ 34) currents
    → from ≡ (slice_index_or wires i (0, 0)).0 → to ≡ (slice_index_or wires i (0, 0)).1
    → level ≡ slice_index_or levels from (pos 0) +ℤ slice_index_or currents i (pos 0)
    → AreLevelled wires currents (set levels to level) (i + 1)
levelled_more wires currents levels i from to level levelled within many ends small f t e = record {
  room = length-set levels to level ∙ levelled.room;
  small = λ v h. small_at v h (cases_eq v to);
  right = λ at are. (
    right_at at are 0 (inl refl) (cases_eq 0 to),
    λ j h. right_at at are (slice_index_or wires j (0, 0)).1 (inr (j, h, refl)) (cases_eq (slice_index_or wires j (0, 0)).1 to),
  );
}
  where
    room : to < length levels
    room = omega (arith, levelled.room, t, (ends i within).1)

    start : from < 17
    start = omega (arith, f, (ends i within).0)

    new : (v : ℕ) → v ≡ to → slice_index_or (set levels to level) v (pos 0) ≡ level
    new v s = ap (λ (n : ℕ). slice_index_or (set levels to level) n (pos 0)) s ∙ get_or-set_same levels to level (pos 0) room

    level_small : IsSmallNumber ((i + 1) * 2 ^ 34) level
    level_small = small_number_by_a_greater_bound (i * 2 ^ 34 + 2 ^ 34) ((i + 1) * 2 ^ 34) level
        (small_sum (i * 2 ^ 34) (2 ^ 34) (slice_index_or levels from (pos 0)) (slice_index_or currents i (pos 0)) level
        (levelled.small from start) (small i (omega (arith, within, many))) e) (omega arith)

    small_at : (v : ℕ) → v < 17 → (v ≡ to) ⊎ (v ≡ to → ⊥) → IsSmallNumber ((i + 1) * 2 ^ 34) (slice_index_or (set levels to level) v (pos 0))
    small_at v h (inl s) = subst (λ (z : ℤ). IsSmallNumber ((i + 1) * 2 ^ 34) z) (sym (new v s)) level_small
    small_at v h (inr n) = subst (λ (z : ℤ). IsSmallNumber ((i + 1) * 2 ^ 34) z) (sym (get_or-set_other levels to v level (pos 0) n))
        (small_number_by_a_greater_bound (i * 2 ^ 34) ((i + 1) * 2 ^ 34) (slice_index_or levels v (pos 0)) (levelled.small v h) (omega arith))

    level_right : (at : ℕ → ℤ) → AreLevels wires currents at → level ≡ at to
    level_right at are = e ∙ (λ j. (ap (λ (v : ℕ). slice_index_or levels v (pos 0)) f
        ∙ starts_right wires currents levels i levelled within at are i (omega arith) within) j +ℤ slice_index_or currents i (pos 0))
        ∙ sym (are.drops i within) ∙ ap at (sym t)

    right_at : (at : ℕ → ℤ) → AreLevels wires currents at → (v : ℕ) → (v ≡ 0)
        ⊎ ((j : ℕ) × (j < i + 1) × (v ≡ (slice_index_or wires j (0, 0)).1)) → (v ≡ to) ⊎ (v ≡ to → ⊥)
        → slice_index_or (set levels to level) v (pos 0) ≡ at v
    right_at at are v known (inl s) = new v s ∙ level_right at are ∙ ap at (sym s)
    right_at at are v (inl z) (inr n) = get_or-set_other levels to v level (pos 0) n
        ∙ subst (λ (u : ℕ). slice_index_or levels u (pos 0) ≡ at u) (sym z) (levelled.right at are).0
    right_at at are v (inr (j, h, z)) (inr n) = get_or-set_other levels to v level (pos 0) n
        ∙ subst (λ (u : ℕ). slice_index_or levels u (pos 0) ≡ at u) (sym z) ((levelled.right at are).1 j (earlier (cases_lt j i)))
      where
        earlier : (j < i) ⊎ (i ≤ j) → j < i
        earlier (inl l) = l
        earlier (inr l) = let same : j ≡ i = omega (arith, h) in absurd (n (z ∙ ap (λ (k : ℕ). (slice_index_or wires k (0, 0)).1) same ∙ sym t))

-- once all wires are passed, the levels are those of the wires, where these have any
pub levelled_all : (wires : List (ℕ × ℕ)) (currents levels : List ℤ) (i : ℕ) → AreLevelled wires currents levels i → length wires ≤ i
    → (at : ℕ → ℤ) → AreLevels wires currents at → HasLevels wires at levels
levelled_all wires currents levels i levelled all at are k h = (from (are.begun k h), (levelled.right at are).1 k (omega (arith, h, all)))
  where
    from : ((slice_index_or wires k (0, 0)).0 ≡ 0) ⊎ ((j : ℕ) × (j < k) × ((slice_index_or wires j (0, 0)).1 ≡ (slice_index_or wires k (0, 0)).0))
        → slice_index_or levels (slice_index_or wires k (0, 0)).0 (pos 0) ≡ at (slice_index_or wires k (0, 0)).0
    from (inl e) = subst (λ (v : ℕ). slice_index_or levels v (pos 0) ≡ at v) (sym e) (levelled.right at are).0
    from (inr (j, less, e)) = subst (λ (v : ℕ). slice_index_or levels v (pos 0) ≡ at v) e ((levelled.right at are).1 j (omega (arith, less, h, all)))

-- ---- edges

-- the right edges of the squares so far, all small, go on to those of all squares
pub record AreEdges (lefts : List ℕ) (currents rights : List ℤ) (total : ℤ) (i : ℕ) : Type 0 where
  pub many : length rights ≡ i
  pub small : (k : ℕ) → k < i → IsSmallNumber ((i + 1) * 2 ^ 34) (slice_index_or rights k (pos 0))
  pub rest : right_edges_from total rights (drop i (by_lefts lefts)) (drop i currents) ≡ edges_by_lefts total lefts currents

-- a line lies at a small place
pub place_small : (rights : List ℤ) (total : ℤ) (i line : ℕ) → IsSmallNumber (2 ^ 34) total → length rights ≡ i
    → ((k : ℕ) → k < i → IsSmallNumber ((i + 1) * 2 ^ 34) (slice_index_or rights k (pos 0))) → line < i + 2
    → IsSmallNumber ((i + 1) * 2 ^ 34) (line_place total rights line)
place_small rights total i zero small many each h = zero_is_a_small_number ((i + 1) * 2 ^ 34)
place_small rights total i (suc zero) small many each h = small_number_by_a_greater_bound (2 ^ 34) ((i + 1) * 2 ^ 34) total small (omega arith)
place_small rights total i (suc (suc k)) small many each h = each k (omega (arith, h))

-- each line lies at a small place where all right edges are small
pub line_within : (rights : List ℤ) (total : ℤ) (line : ℕ) → IsSmallNumber (2 ^ 34) total → AreSmallNumbers (17 * 2 ^ 34) rights → line < length rights + 2
    → IsSmallNumber (17 * 2 ^ 34) (line_place total rights line)
line_within rights total zero small each h = zero_is_a_small_number (17 * 2 ^ 34)
line_within rights total (suc zero) small each h = small_number_by_a_greater_bound (2 ^ 34) (17 * 2 ^ 34) total small (omega arith)
line_within rights total (suc (suc k)) small each h = each k (omega arith)

-- where a line of the next square lies, as the code finds it
pub line_is_found_where_it_lies : (lefts : List ℕ) (currents rights read : List ℤ) (total place : ℤ) (i : ℕ) → AreEdges lefts currents rights total i
    → i < length lefts
    → length lefts ≤ 16 → AreKnownLines lefts → IsSmallNumber (2 ^ 34) total → read ≡ rights
    → place ≡ line_place total read (slice_index_or lefts i 0)
    → (place ≡ line_place total rights (slice_index_or lefts i 0)) × IsSmallNumber (2 ^ 39) place
line_is_found_where_it_lies lefts currents rights read total place i edges low few known small same is =
    let here = is ∙ ap (λ (rs : List ℤ). line_place total rs (slice_index_or lefts i 0)) same in (
      here,
      subst (λ (z : ℤ). IsSmallNumber (2 ^ 39) z) (sym here) (small_number_by_a_greater_bound ((i + 1) * 2 ^ 34) (2 ^ 39)
          (line_place total rights (slice_index_or lefts i 0))
          (place_small rights total i (slice_index_or lefts i 0) small edges.many edges.small (known i low)) (omega (arith, low, few))),
    )

-- one square more: its right edge lies its current right of its left line
pub edges_more : (lefts : List ℕ) (currents rights : List ℤ) (total : ℤ) (i : ℕ) (right : ℤ) → AreEdges lefts currents rights total i
    → i < length lefts → length currents ≡ length lefts
    → AreKnownLines lefts → AreSmallNumbers (2 ^ 34) currents → IsSmallNumber (2 ^ 34) total
    → right ≡ line_place total rights (slice_index_or lefts i 0) +ℤ slice_index_or currents i (pos 0)
    → AreEdges lefts currents (rights ++ right ∷ []) total (i + 1)
edges_more lefts currents rights total i right edges within long known small total_small e = record {
  many = omega (arith, edges.many, length-append rights (right ∷ []));
  small = λ k h. small_at k h (cases_lt k i);
  rest = (λ j. right_edges_from total (rights ++ e j ∷ []) (drop (up j) (by_lefts lefts)) (drop (up j) currents))
      ∙ (λ j. right_edges_from total (rights ++ (line_place total rights (sym line j) +ℤ slice_index_or currents i (pos 0)) ∷ [])
      (drop (suc i) (by_lefts lefts)) (drop (suc i) currents))
      ∙ (λ j. right_edges_from total rights (sym (drop-cons (by_lefts lefts) i (0, 0) told) j)
      (sym (drop-cons currents i (pos 0) (omega (arith, within, long))) j)) ∙ edges.rest;
}
  where
    up : i + 1 ≡ suc i
    up = omega arith

    told : i < length (by_lefts lefts)
    told = omega (arith, within, length-map {A = ℕ} {B = ℕ × ℕ} lefts (λ line. (line, 0)))

    line : (slice_index_or (by_lefts lefts) i (0, 0)).0 ≡ slice_index_or lefts i 0
    line = ap (λ (s : ℕ × ℕ). s.0) (get_or-map {X = ℕ} {Y = ℕ × ℕ} (λ f. (f, 0)) lefts i 0 (0, 0) within)

    right_small : IsSmallNumber ((i + 1 + 1) * 2 ^ 34) right
    right_small = small_number_by_a_greater_bound ((i + 1) * 2 ^ 34 + 2 ^ 34) ((i + 1 + 1) * 2 ^ 34) right
        (small_sum ((i + 1) * 2 ^ 34) (2 ^ 34) (line_place total rights (slice_index_or lefts i 0)) (slice_index_or currents i (pos 0)) right
        (place_small rights total i (slice_index_or lefts i 0) total_small edges.many edges.small (known i within))
        (small i (omega (arith, within, long))) e) (omega arith)

    small_at : (k : ℕ) → k < i + 1 → (k < i) ⊎ (i ≤ k) → IsSmallNumber ((i + 1 + 1) * 2 ^ 34) (slice_index_or (rights ++ right ∷ []) k (pos 0))
    small_at k h (inl l) =
        subst (λ (z : ℤ). IsSmallNumber ((i + 1 + 1) * 2 ^ 34) z) (sym (get_front rights (right ∷ []) k (pos 0) (omega (arith, l, edges.many))))
        (small_number_by_a_greater_bound ((i + 1) * 2 ^ 34) ((i + 1 + 1) * 2 ^ 34) (slice_index_or rights k (pos 0)) (edges.small k l) (omega arith))
    small_at k h (inr l) = subst (λ (z : ℤ). IsSmallNumber ((i + 1 + 1) * 2 ^ 34) z)
        (sym (get_back rights (right ∷ []) 0 k (pos 0) (omega (arith, l, h, edges.many)))) right_small

-- ---- squares

-- lines of which the last node isn't told
abbrev pub told_lines : List ℕ → List (ℕ × ℕ) → List ℤ → List ℤ → ℤ → Lines
told_lines lefts wires currents rights total =
    record { wires = wires; currents = currents; lefts = lefts; rights = rights; total = total; last = 0 }

-- so many squares stand as they should
pub record ArePlaced (lefts : List ℕ) (wires : List (ℕ × ℕ)) (currents levels rights : List ℤ) (total : ℤ) (squares : List Square) (n : ℕ) : Type 0 where
  pub many : length squares ≡ n
  pub each : (k : ℕ) → k < n → IsPlacedAt (told_lines lefts wires currents rights total) levels k (slice_index_or squares k (record { x = 0; y = 0; s = 0 }))

-- one square more, at its level and its line
pub placed_more : (lefts : List ℕ) (wires : List (ℕ × ℕ)) (currents levels rights : List ℤ) (total : ℤ) (squares : List Square) (n : ℕ) (q : Square)
    → ArePlaced lefts wires currents levels rights total squares n
    → IsPlacedAt (told_lines lefts wires currents rights total) levels n q → ArePlaced lefts wires currents levels rights total (squares ++ q ∷ []) (n + 1)
placed_more lefts wires currents levels rights total squares n q placed new =
    record { many = omega (arith, placed.many, length-append squares (q ∷ [])); each = λ k h. each k h (cases_lt k n) }
  where
    each : (k : ℕ) → k < n + 1 → (k < n) ⊎ (n ≤ k)
        → IsPlacedAt (told_lines lefts wires currents rights total) levels k (slice_index_or (squares ++ q ∷ []) k (record { x = 0; y = 0; s = 0 }))
    each k h (inl l) = get_front squares (q ∷ []) k (record { x = 0; y = 0; s = 0 }) (omega (arith, l, placed.many)) ∙ placed.each k l
    each k h (inr l) = get_back squares (q ∷ []) 0 k (record { x = 0; y = 0; s = 0 }) (omega (arith, l, h, placed.many))
        ∙ subst (λ (i : ℕ). IsPlacedAt (told_lines lefts wires currents rights total) levels i q) same new
      where
        same : n ≡ k
        same = omega (arith, l, h)
