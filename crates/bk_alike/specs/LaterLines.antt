-- The pairs of an item among the places of others.
use Rattle.std.specs.Option.{option_map_or}
use Rattle.std.specs.Prelude.{List, [], cond, nat_lt, slice_get, ℕ}
use Rattle.bk_pair.specs.declared.Kind.{Kind}
use Rattle.bk_alike.specs.declared.item.KeptItem.{KeptItem}
use Rattle.bk_alike.specs.Pairs.{pair_lines}

-- the line of the item `a`, which stands at `i`, with the one at a place, where that is behind it and the two are a
-- pair
abbrev pub later_lines : Kind → List KeptItem → ℕ → KeptItem → ℕ → List (List ℕ)
later_lines kind items i a place = cond (nat_lt i place)
    (option_map_or (pair_lines kind a) (slice_get items place) []) []
