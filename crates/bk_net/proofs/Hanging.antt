-- The groups of squares, square by square, with their levels and their numbers.
use Rattle.std.specs.List.{AllByRecursion, enumerate_from, flat_map, onto_first}
use Rattle.std.specs.Prelude.{not}
use Rattle.std.proofs.Common.{Bool, List, [], ap, arith, cond, drop, false, get_or, length, map, refl, suc, sym, take, true, zero, ℕ, ◌++◌, ◌+◌, ◌-◌}
use Rattle.std.proofs.Common.{◌<◌, ◌∙◌, ◌∷◌, ◌≡◌, ◌≤◌}
use mathlib.Core.Bool.{true≢false}
use Rattle.std.proofs.lemmas.List.{append-nil, append_assoc, drop_more, length-append, length-take-le, map-append, take-append-drop, take_more}
use Rattle.bk_tiling.proofs.GroupCount.{square_groups-some}
use Rattle.bk_tiling.specs.CodeOrder.{begins_group, stands_beside}
use Rattle.bk_tiling.specs.SquareGroups.{square_groups}
use Rattle.bk_tiling.specs.declared.Square.{Square}
use Rattle.bk_net.specs.Diagram.{group_level}
use Rattle.bk_net.specs.GroupNumbers.{group_numbers, numbered}

-- the last group with a further square
abbrev pub onto_last : Square → List (List Square) → List (List Square)
onto_last q [] = []
onto_last q (g ∷ []) = (g ++ q ∷ []) ∷ []
onto_last q (g ∷ h ∷ groups) = g ∷ onto_last q (h ∷ groups)

-- a square that begins a group, or goes on in the last one
abbrev pub square_groups_with_a_next_square : Bool → List (List Square) → Square → List (List Square)
square_groups_with_a_next_square true groups q = groups ++ (q ∷ []) ∷ []
square_groups_with_a_next_square false groups q = onto_last q groups

-- a square put before groups: into the first, or as a group
abbrev before : Bool → Square → List (List Square) → List (List Square)
before b p groups = cond b (onto_first p groups) ((p ∷ []) ∷ groups)

before_next : (b c : Bool) (p q : Square) (groups : List (List Square)) → 0 < length groups
    → square_groups_with_a_next_square c (before b p groups) q ≡ before b p (square_groups_with_a_next_square c groups q)
before_next b c p q [] some = absurd (omega arith)
before_next true true p q (g ∷ groups) some = refl
before_next false true p q (g ∷ groups) some = refl
before_next true false p q (g ∷ []) some = refl
before_next false false p q (g ∷ []) some = refl
before_next true false p q (g ∷ h ∷ groups) some = refl
before_next false false p q (g ∷ h ∷ groups) some = refl

-- the square after some others
groups_next : (squares : List Square) (q : Square) (rest : List Square)
    → square_groups (squares ++ q ∷ []) ≡ square_groups_with_a_next_square (begins_group (squares ++ q ∷ rest) (length squares)) (square_groups squares) q
groups_next [] q rest = refl
groups_next (p ∷ []) q rest = cases (stands_beside p q)
  where
    cases : (b : Bool) → before b p ((q ∷ []) ∷ []) ≡ square_groups_with_a_next_square (not b) ((p ∷ []) ∷ []) q
    cases true = refl
    cases false = refl
groups_next (p ∷ r ∷ squares) q rest =
    ap (before (stands_beside p r) p) (groups_next (r ∷ squares) q rest)
    ∙ sym (before_next (stands_beside p r) (begins_group (r ∷ squares ++ q ∷ rest) (length (r ∷ squares))) p q (square_groups (r ∷ squares))
    (square_groups-some r squares))

-- the square at a place, after those before it
pub square_groups_with_one_square_more : (squares : List Square) (i : ℕ) (d : Square) → i < length squares
    → square_groups (take (i + 1) squares) ≡ square_groups_with_a_next_square (begins_group squares i) (square_groups (take i squares)) (get_or squares i d)
square_groups_with_one_square_more squares i d within =
    ap square_groups (take_more squares i d within)
    ∙ groups_next (take i squares) (get_or squares i d) (drop (i + 1) squares)
    ∙ (λ k. square_groups_with_a_next_square (begins_group (whole k) (count k)) (square_groups (take i squares)) (get_or squares i d))
  where
    whole : take i squares ++ get_or squares i d ∷ drop (i + 1) squares ≡ squares
    whole = ap (λ (l : List Square). take i squares ++ l) (sym (drop_more squares i d within)) ∙ take-append-drop i squares

    count : length (take i squares) ≡ i
    count = omega (arith, length-take-le i squares (omega arith))

-- no group is empty
abbrev pub NoneEmpty : List (List Square) → Type 0
NoneEmpty groups = AllByRecursion (λ g. 0 < length g) groups

-- each group of squares has a square
pub none_empty : (squares : List Square) → NoneEmpty (square_groups squares)
none_empty [] = tt
none_empty (q ∷ []) = (omega arith, tt)
none_empty (q ∷ r ∷ squares) = put (stands_beside q r) (square_groups (r ∷ squares)) (none_empty (r ∷ squares))
  where
    put : (b : Bool) (groups : List (List Square)) → NoneEmpty groups → NoneEmpty (before b q groups)
    put true [] all = (omega arith, tt)
    put true (g ∷ groups) all = (omega arith, all.1)
    put false groups all = (omega arith, all)

length_onto : (q : Square) (groups : List (List Square)) → length (onto_last q groups) ≡ length groups
length_onto q [] = refl
length_onto q (g ∷ []) = refl
length_onto q (g ∷ h ∷ groups) = ap suc (length_onto q (h ∷ groups))

-- a further square adds a group where it begins one
pub length_next : (b : Bool) (groups : List (List Square)) (q : Square)
    → length (square_groups_with_a_next_square b groups q) ≡ cond {A = ℕ} b (length groups + 1) (length groups)
length_next true groups q = omega (arith, length-append groups ((q ∷ []) ∷ []))
length_next false groups q = length_onto q groups

-- the levels of the groups with those of a further one, where a square begins it
abbrev pub more_levels : Bool → List ℕ → ℕ → List ℕ
more_levels b levels y = cond b (levels ++ y ∷ []) levels

level_onto : (q : Square) (g : List Square) → 0 < length g → group_level (g ++ q ∷ []) ≡ group_level g
level_onto q [] some = absurd (omega arith)
level_onto q (p ∷ g) some = refl

levels_onto : (q : Square) (groups : List (List Square)) → NoneEmpty groups → map group_level (onto_last q groups) ≡ map group_level groups
levels_onto q [] all = refl
levels_onto q (g ∷ []) all = ap (λ (l : ℕ). l ∷ []) (level_onto q g all.0)
levels_onto q (g ∷ h ∷ groups) all = ap (λ (l : List ℕ). group_level g ∷ l) (levels_onto q (h ∷ groups) all.1)

-- a further square adds the level of its top where it begins a group
pub levels_next : (b : Bool) (groups : List (List Square)) (q : Square) → NoneEmpty groups
    → map group_level (square_groups_with_a_next_square b groups q) ≡ more_levels b (map group_level groups) q.y
levels_next true groups q all = map-append group_level groups ((q ∷ []) ∷ [])
levels_next false groups q all = levels_onto q groups all

-- the numbers from n on
abbrev pub numbers_from : ℕ → List (List Square) → List ℕ
numbers_from n groups = flat_map numbered (enumerate_from n groups)

numbers_new : (n : ℕ) (groups : List (List Square)) (q : Square) → numbers_from n (groups ++ (q ∷ []) ∷ []) ≡ numbers_from n groups ++ (n + length groups) ∷ []
numbers_new n [] q = ap (λ (k : ℕ). k ∷ []) (omega arith)
numbers_new n (g ∷ groups) q =
    ap (λ (l : List ℕ). map (λ p. n) g ++ l) (numbers_new (n + 1) groups q ∙ ap (λ (k : ℕ). numbers_from (n + 1) groups ++ k ∷ []) (omega arith))
    ∙ sym (append_assoc (map (λ p. n) g) (numbers_from (n + 1) groups) ((n + length (g ∷ groups)) ∷ []))

numbers_onto : (n : ℕ) (groups : List (List Square)) (q : Square) → 0 < length groups
    → numbers_from n (onto_last q groups) ≡ numbers_from n groups ++ (n + length groups - 1) ∷ []
numbers_onto n [] q some = absurd (omega arith)
numbers_onto n (g ∷ []) q some =
    append-nil (map (λ p. n) (g ++ q ∷ []))
    ∙ map-append (λ p. n) g (q ∷ [])
    ∙ (λ i. sym (append-nil (map (λ p. n) g)) i ++ at i ∷ [])
  where
    at : n ≡ n + 1 - 1
    at = omega arith
numbers_onto n (g ∷ h ∷ groups) q some =
    ap (λ (l : List ℕ). map (λ p. n) g ++ l) (numbers_onto (n + 1) (h ∷ groups) q (omega arith)
    ∙ ap (λ (k : ℕ). numbers_from (n + 1) (h ∷ groups) ++ k ∷ []) (omega arith))
    ∙ sym (append_assoc (map (λ p. n) g) (numbers_from (n + 1) (h ∷ groups)) ((n + length (g ∷ h ∷ groups) - 1) ∷ []))

-- the numbers of groups with one square more are those before, and that of the last group
pub numbers_next : (b : Bool) (groups : List (List Square)) (q : Square) → (b ≡ false → 0 < length groups)
    → numbers_from 0 (square_groups_with_a_next_square b groups q) ≡ numbers_from 0 groups ++ (length (square_groups_with_a_next_square b groups q) - 1) ∷ []
numbers_next true groups q some = numbers_new 0 groups q ∙ ap (λ (k : ℕ). numbers_from 0 groups ++ k ∷ []) (omega (arith, length_next true groups q))
numbers_next false groups q some = numbers_onto 0 groups q (some refl)
    ∙ ap (λ (k : ℕ). numbers_from 0 groups ++ k ∷ []) (omega (arith, length_next false groups q))

-- what is known after the squares before a place
pub record AreGroups (squares : List Square) (levels nodes : List ℕ) (groups : ℕ) : Type 0 where
  pub levels_are : levels ≡ map group_level (square_groups squares)
  pub nodes_are : nodes ≡ group_numbers squares
  pub groups_are : groups ≡ length (square_groups squares)

-- a square that begins no group has one before it
pub groups_before : (squares : List Square) (i : ℕ) → i < length squares → begins_group squares i ≡ false → 0 < length (square_groups (take i squares))
groups_before squares zero within e = absurd (true≢false e)
groups_before [] (suc i) within e = absurd (omega arith)
groups_before (q ∷ squares) (suc i) within e = square_groups-some q (take i squares)

-- from the groups of some squares to those of one square more
pub more_squares : (squares : List Square) (i : ℕ) (d : Square) (levels nodes : List ℕ) (groups : ℕ) (b : Bool) → i < length squares
    → b ≡ begins_group squares i → AreGroups (take i squares) levels nodes groups
    → AreGroups (take (i + 1) squares) (more_levels b levels (get_or squares i d).y) (nodes ++ (cond b (groups + 1) groups - 1) ∷ [])
    (cond b (groups + 1) groups)
more_squares squares i d levels nodes groups b within begins are = record {
  levels_are =
      (λ k. more_levels b (are.levels_are k) (get_or squares i d).y)
      ∙ sym (levels_next b (square_groups (take i squares)) (get_or squares i d) (none_empty (take i squares)))
      ∙ ap (map group_level) next;
  nodes_are =
      (λ k. are.nodes_are k ++ (count k - 1) ∷ [])
      ∙ sym (numbers_next b (square_groups (take i squares)) (get_or squares i d) (λ e. groups_before squares i within (sym begins ∙ e)))
      ∙ ap (numbers_from 0) next;
  groups_are = count ∙ ap length next;
}
  where
    next : square_groups_with_a_next_square b (square_groups (take i squares)) (get_or squares i d) ≡ square_groups (take (i + 1) squares)
    next = ap (λ (c : Bool). square_groups_with_a_next_square c (square_groups (take i squares)) (get_or squares i d)) begins
        ∙ sym (square_groups_with_one_square_more squares i d within)

    count : cond {A = ℕ} b (groups + 1) groups ≡ length (square_groups_with_a_next_square b (square_groups (take i squares)) (get_or squares i d))
    count = ap (λ (n : ℕ). cond b (n + 1) n) are.groups_are ∙ sym (length_next b (square_groups (take i squares)) (get_or squares i d))

-- there are no more groups than squares
pub groups_few : (squares : List Square) → length (square_groups squares) ≤ length squares
groups_few [] = omega arith
groups_few (q ∷ []) = omega arith
groups_few (q ∷ r ∷ squares) = put (stands_beside q r) (square_groups (r ∷ squares)) (groups_few (r ∷ squares)) (square_groups-some r squares)
  where
    put : (b : Bool) (groups : List (List Square)) → length groups ≤ length (r ∷ squares) → 0 < length groups
        → length (before b q groups) ≤ length (q ∷ r ∷ squares)
    put true [] few some = omega arith
    put true (g ∷ groups) few some = omega arith
    put false groups few some = omega arith

-- the levels and the nodes of the first squares are those of their groups, and it is known how many there are of each
pub record AreKnown (squares : List Square) (i : ℕ) (levels nodes : List ℕ) (groups : ℕ) : Type 0 where
  pub are : AreGroups (take i squares) levels nodes groups
  pub few : groups ≤ i
  pub levels_many : length levels ≡ groups
  pub nodes_many : length nodes ≡ i

-- what is known of the groups of the first squares, with one square more
pub known_more : (squares : List Square) (i : ℕ) (d : Square) (levels nodes : List ℕ) (groups : ℕ) (b : Bool) → i < length squares
    → b ≡ begins_group squares i → AreKnown squares i levels nodes groups
    → AreKnown squares (i + 1) (more_levels b levels (get_or squares i d).y) (nodes ++ (cond b (groups + 1) groups - 1) ∷ []) (cond b (groups + 1) groups)
known_more squares i d levels nodes groups b within begins k = record {
  are = more_squares squares i d levels nodes groups b within begins k.are;
  few = few b;
  levels_many = many b;
  nodes_many = omega (arith, length-append nodes ((cond b (groups + 1) groups - 1) ∷ []), k.nodes_many);
}
  where
    few : (b : Bool) → cond {A = ℕ} b (groups + 1) groups ≤ i + 1
    few true = omega (arith, k.few)
    few false = omega (arith, k.few)

    many : (b : Bool) → length (more_levels b levels (get_or squares i d).y) ≡ cond {A = ℕ} b (groups + 1) groups
    many true = omega (arith, length-append levels ((get_or squares i d).y ∷ []), k.levels_many)
    many false = k.levels_many
