-- The code of a tiling has a group, and is one that a `Code` can be.
use Rattle.std.proofs.Common.{Bool, List, [], ap, arith, cond, false, length, map, true, ◌<◌, ◌∷◌}
use Rattle.std.proofs.lemmas.List.{length-map}
use Rattle.std.specs.List.{AllByRecursion, onto_first}
use Rattle.bk_tiling.proofs.GroupCount.{some_group}
use Rattle.bk_tiling.specs.CodeOrder.{stands_beside}
use Rattle.bk_tiling.specs.KeptTiling.{IsKept, IsSide}
use Rattle.bk_tiling.specs.SquareGroups.{square_groups}
use Rattle.bk_tiling.specs.Tiling.{IsTiling, Tiling}
use Rattle.bk_tiling.specs.declared.Square.{Square}
use Rattle.bk_code.proofs.FlatList.{flat_is_sides}
use Rattle.bk_code.specs.Code.{Code, code_of}
use Rattle.bk_code.specs.KeptCode.{IsKeptCode, IsSideGroup}

-- a tiling's code has a group
pub code_some : (t : Tiling) → IsTiling t → 0 < length (code_of t)
code_some t tiling = omega (arith, length-map (square_groups t.squares) (map (λ (q : Square). q.s)), some_group t.squares tiling.tiles.some)

abbrev groups_of : List (List Square) → Code
groups_of groups = map (map (λ q. q.s)) groups

onto_kept : (q : Square) (groups : List (List Square)) → IsSide q.s → AllByRecursion IsSideGroup (groups_of groups)
    → AllByRecursion IsSideGroup (groups_of (onto_first q groups))
onto_kept q [] side all = ((omega arith, (side, tt)), tt)
onto_kept q (group ∷ groups) side all = ((omega arith, (side, all.0.1)), all.1)

groups_kept : (squares : List Square) → AllByRecursion (λ q. IsSide q.s) squares → AllByRecursion IsSideGroup (groups_of (square_groups squares))
groups_kept [] sides = tt
groups_kept (q ∷ []) sides = ((omega arith, (sides.0, tt)), tt)
groups_kept (q ∷ r ∷ squares) sides = cases (stands_beside q r) (groups_kept (r ∷ squares) sides.1)
  where
    cases : (b : Bool) → AllByRecursion IsSideGroup (groups_of (square_groups (r ∷ squares)))
        → AllByRecursion IsSideGroup (groups_of (cond b (onto_first q (square_groups (r ∷ squares))) ((q ∷ []) ∷ square_groups (r ∷ squares))))
    cases true rest = onto_kept q (square_groups (r ∷ squares)) sides.0 rest
    cases false rest = ((omega arith, (sides.0, tt)), rest)

-- the code of a tiling that a `Tiling` can be is one that a `Code` can be
pub code_kept : (t : Tiling) → IsKept t → IsKeptCode (code_of t)
code_kept t kept = record {
  groups = groups_kept t.squares kept.sides;
  few = omega (arith, ap length (flat_is_sides t), length-map t.squares (λ (q : Square). q.s), kept.few);
}
