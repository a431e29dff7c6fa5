-- The pairs of items that are laid together to a square.
-- Example (GroupExamples): of the rectangles 3x2, 2x2 and 3x2 on the lines 1, 2 and 4 the first and the last are laid
-- to a square of side 5, which is a pair of the kind any; none is of the kind perfect.
use Rattle.std.specs.List.{flat_map}
use Rattle.std.specs.Prelude.{Bool, List, [], cond, ℕ, ◌++◌, ◌∷◌}
use Rattle.bk_tiling.specs.Tiling.{Tiling}
use Rattle.bk_pair.specs.declared.Kind.{Kind}
use Rattle.bk_pair.specs.declared.Kind.TheVariants as kinds
use Rattle.bk_pair.specs.Pair.{joined_square}
use Rattle.bk_pair.specs.PairTest.{are_pair, can_be_laid}
use Rattle.bk_report.specs.ListLines.{pair_line}
use Rattle.bk_alike.specs.declared.item.KeptItem.{KeptItem}

-- two tilings are a pair of this kind: they join to a perfect square, or are laid together to any
abbrev pub is_pair : Kind → Tiling → Tiling → Bool
is_pair kinds.Perfect a b = are_pair a b
is_pair kinds.Any a b = can_be_laid a b

-- the line of two items that are a pair, and of others none
abbrev pub pair_lines : Kind → KeptItem → KeptItem → List (List ℕ)
pair_lines kind a b = cond (is_pair kind a.tiling b.tiling)
    (pair_line a.line b.line (joined_square a.tiling b.tiling) ∷ []) []

-- the lines of each two items: those of an item with each later one, and then those of the later ones
abbrev pub all_pairs : Kind → List KeptItem → List (List ℕ)
all_pairs kind [] = []
all_pairs kind (a ∷ later) = flat_map (pair_lines kind a) later ++ all_pairs kind later
