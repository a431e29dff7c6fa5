-- The flat list of a code is the list of the sides; with the width it fixes the tiling.
use Rattle.std.specs.List.{onto_first}
use Rattle.std.proofs.Common.{Bool, List, [], ap, cond, false, map, refl, sym, true, ℕ, ◌∙◌, ◌∷◌, ◌≡◌}
use Rattle.bk_tiling.specs.CodeOrder.{stands_beside}
use Rattle.bk_tiling.specs.Tiling.{Tiling}
use Rattle.bk_tiling.specs.declared.Square.{Square}
use Rattle.bk_tiling.specs.SquareGroups.{square_groups}
use Rattle.bk_code.specs.Code.{code_of, flat}
use Rattle.bk_code.specs.CodeLaws.{AFlatListFixesATiling}
use Rattle.bk_tiling.proofs.NextCorner.{same_rest, same_tiling}

flat_onto_first : (q : Square) (groups : List (List Square)) → flat (map (map (λ q. q.s)) (onto_first q groups)) ≡ q.s ∷ flat (map (map (λ q. q.s)) groups)
flat_onto_first q [] = refl
flat_onto_first q (group ∷ groups) = refl

-- the sides of squares in groups, laid end to end, are the sides of the squares
pub flat_groups : (squares : List Square) → flat (map (map (λ q. q.s)) (square_groups squares)) ≡ map (λ q. q.s) squares
flat_groups [] = refl
flat_groups (q ∷ []) = refl
flat_groups (q ∷ r ∷ squares) = cases (stands_beside q r) (flat_groups (r ∷ squares))
  where
    cases : (b : Bool) → flat (map (map (λ q. q.s)) (square_groups (r ∷ squares))) ≡ r.s ∷ map (λ q. q.s) squares
        → flat (map (map (λ q. q.s)) (cond b (onto_first q (square_groups (r ∷ squares))) ((q ∷ []) ∷ square_groups (r ∷ squares)))) ≡ q.s ∷ r.s
        ∷ map (λ q. q.s) squares
    cases true e = flat_onto_first q (square_groups (r ∷ squares)) ∙ ap (λ (sides : List ℕ). q.s ∷ sides) e
    cases false e = ap (λ (sides : List ℕ). q.s ∷ sides) e

-- the flat list of a tiling's code is the list of its sides
pub flat_is_sides : (t : Tiling) → flat (code_of t) ≡ map (λ q. q.s) t.squares
flat_is_sides t = flat_groups t.squares

-- two tilings of one width with one flat list are the same
pub a_flat_list_fixes_a_tiling : AFlatListFixesATiling
a_flat_list_fixes_a_tiling t u tiling other widths e = same_tiling t u tiling other widths
    (same_rest t u tiling other widths [] t.squares u.squares refl refl (sym (flat_is_sides t) ∙ e ∙ flat_is_sides u))
