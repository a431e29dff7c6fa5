-- The groups of a list of squares, square by square: each begins a group or goes on in the last one.
use Rattle.std.specs.List.{onto_first}
use Rattle.std.proofs.Common.{Bool, List, [], ap, arith, cond, drop, false, get_or, length, map, refl, subst, sym, take, true, ℕ, ◌++◌, ◌+◌, ◌<◌, ◌∙◌, ◌∷◌, ◌≡◌}
use Rattle.std.specs.Prelude.{not}
use Rattle.std.proofs.lemmas.List.{drop_more, length-map, length-take-le, take-append-drop, take_more}
use Rattle.bk_tiling.specs.CodeOrder.{begins_group, stands_beside}
use Rattle.bk_tiling.specs.KeptTiling.{IsKept}
use Rattle.bk_tiling.specs.SquareGroups.{square_groups}
use Rattle.bk_tiling.specs.Tiling.{Tiling}
use Rattle.bk_tiling.specs.declared.Square.{Square}
use Rattle.bk_code.specs.Code.{Code, flat, with_side}
use Rattle.bk_code.proofs.FlatList.{flat_groups}

-- the sides of squares, in groups
abbrev pub side_groups : List Square → Code
side_groups squares = map (map (λ q. q.s)) (square_groups squares)

-- a side that begins a group, or goes on in the last one
abbrev pub side_groups_with_a_next_side : Bool → Code → ℕ → Code
side_groups_with_a_next_side true code s = code ++ (s ∷ []) ∷ []
side_groups_with_a_next_side false code s = with_side code s

-- a side put before a code: into its first group, or as a group
abbrev pub with_side_before : Bool → ℕ → Code → Code
with_side_before b s code = cond b (onto_first s code) ((s ∷ []) ∷ code)

onto_sides : (q : Square) (groups : List (List Square)) → map (map (λ q. q.s)) (onto_first q groups) ≡ onto_first q.s (map (map (λ q. q.s)) groups)
onto_sides q [] = refl
onto_sides q (group ∷ groups) = refl

-- a square before others joins the first of their groups where the next square stands beside it, else it is a group of its own
pub groups_cons : (q r : Square) (squares : List Square) → side_groups (q ∷ r ∷ squares) ≡ with_side_before (stands_beside q r) q.s (side_groups (r ∷ squares))
groups_cons q r squares = cases (stands_beside q r)
  where
    cases : (b : Bool) → map (map (λ q. q.s)) (cond b (onto_first q (square_groups (r ∷ squares))) ((q ∷ []) ∷ square_groups (r ∷ squares)))
        ≡ with_side_before b q.s (side_groups (r ∷ squares))
    cases true = onto_sides q (square_groups (r ∷ squares))
    cases false = refl

before_next : (b c : Bool) (s t : ℕ) (code : Code) → 0 < length code
    → side_groups_with_a_next_side c (with_side_before b s code) t ≡ with_side_before b s (side_groups_with_a_next_side c code t)
before_next b c s t [] some = absurd (omega arith)
before_next true true s t (group ∷ code) some = refl
before_next false true s t (group ∷ code) some = refl
before_next true false s t (group ∷ []) some = refl
before_next false false s t (group ∷ []) some = refl
before_next true false s t (group ∷ next ∷ code) some = refl
before_next false false s t (group ∷ next ∷ code) some = refl

before_some : (b : Bool) (s : ℕ) (code : Code) → 0 < length (with_side_before b s code)
before_some true s [] = omega arith
before_some true s (group ∷ code) = omega arith
before_some false s code = omega arith

-- squares have a group
pub side_groups-some : (q : Square) (squares : List Square) → 0 < length (side_groups (q ∷ squares))
side_groups-some q [] = omega arith
side_groups-some q (r ∷ squares) =
    subst (λ (code : Code). 0 < length code) (sym (groups_cons q r squares)) (before_some (stands_beside q r) q.s (side_groups (r ∷ squares)))

-- the square after some others
pub groups_next : (squares : List Square) (q : Square) (rest : List Square)
    → side_groups (squares ++ q ∷ []) ≡ side_groups_with_a_next_side (begins_group (squares ++ q ∷ rest) (length squares)) (side_groups squares) q.s
groups_next [] q rest = refl
groups_next (p ∷ []) q rest = cases (stands_beside p q) ∙ ap (λ (b : Bool). side_groups_with_a_next_side b (side_groups (p ∷ [])) q.s) refl
  where
    cases : (b : Bool) → map (map (λ q. q.s)) (cond b (onto_first p ((q ∷ []) ∷ [])) ((p ∷ []) ∷ (q ∷ []) ∷ [])) ≡ side_groups_with_a_next_side (not b)
        ((p.s ∷ []) ∷ []) q.s
    cases true = refl
    cases false = refl
groups_next (p ∷ r ∷ squares) q rest =
    let more : side_groups (r ∷ squares ++ q ∷ [])
    ≡ side_groups_with_a_next_side (begins_group (r ∷ squares ++ q ∷ rest) (length (r ∷ squares))) (side_groups (r ∷ squares)) q.s = groups_next
    (r ∷ squares) q rest in
    groups_cons p r (squares ++ q ∷ [])
    ∙ ap (with_side_before (stands_beside p r) p.s) more
    ∙ sym (before_next (stands_beside p r) (begins_group (r ∷ squares ++ q ∷ rest) (length (r ∷ squares))) p.s q.s (side_groups (r ∷ squares))
    (side_groups-some r squares))
    ∙ ap (λ (code : Code). side_groups_with_a_next_side (begins_group (r ∷ squares ++ q ∷ rest) (length (r ∷ squares))) code q.s)
    (sym (groups_cons p r squares))

-- the square at a place, after those before it
pub side_groups_with_one_square_more : (squares : List Square) (i : ℕ) (d : Square) → i < length squares
    → side_groups (take (i + 1) squares) ≡ side_groups_with_a_next_side (begins_group squares i) (side_groups (take i squares)) (get_or squares i d).s
side_groups_with_one_square_more squares i d within =
    ap side_groups (take_more squares i d within)
    ∙ groups_next (take i squares) (get_or squares i d) (drop (i + 1) squares)
    ∙ (λ k. side_groups_with_a_next_side (begins_group (whole k) (count k)) (side_groups (take i squares)) (get_or squares i d).s)
  where
    whole : take i squares ++ get_or squares i d ∷ drop (i + 1) squares ≡ squares
    whole = ap (λ (l : List Square). take i squares ++ l) (sym (drop_more squares i d within)) ∙ take-append-drop i squares

    count : length (take i squares) ≡ i
    count = omega (arith, length-take-le i squares (omega arith))

-- there is room for the side of a further square, which is one that a square may have
pub step_room : (t : Tiling) (squares : List Square) (i : ℕ) (code : Code) → IsKept t → squares ≡ t.squares → i < length squares
    → code ≡ side_groups (take i squares) → length (flat code) < 200
step_room t squares i code kept same within is =
    omega (
      arith,
      ap (λ (c : Code). length (flat c)) is,
      ap length (flat_groups (take i squares)),
      length-map (take i squares) (λ (q : Square). q.s),
      length-take-le i squares (omega arith),
      ap length same,
      kept.few,
    )

-- a side that is added as the square at its place begins a group or not
pub step_is : (t : Tiling) (squares : List Square) (i : ℕ) (code next : Code) (b : Bool) (d : Square) → squares ≡ t.squares → i < length squares
    → code ≡ side_groups (take i squares)
    → b ≡ begins_group t.squares i → next ≡ side_groups_with_a_next_side b code (get_or squares i d).s → next ≡ side_groups (take (i + 1) squares)
step_is t squares i code next b d same within is begins e =
    e
    ∙ (λ k. side_groups_with_a_next_side ((begins ∙ ap (λ (l : List Square). begins_group l i) (sym same)) k) (is k) (get_or squares i d).s)
    ∙ sym (side_groups_with_one_square_more squares i d within)
