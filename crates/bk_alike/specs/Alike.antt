-- Canonical tilings of one size, put together.
-- Example (AlikeExamples): of three items of the sizes 3x2, 2x2 and 3x2 the first and the last are one group, and the
-- second another.
use Rattle.std.specs.List.{enumerate_from, list_any}
use Rattle.std.specs.Prelude.{Bool, List, [], cond, filter, fold, map, ℕ, ◌&&◌, ◌++◌, ◌==◌, ◌∷◌}
use Rattle.bk_alike.specs.declared.item.KeptItem.{KeptItem}

-- the size of an item
abbrev pub item_size : KeptItem → ℕ × ℕ
item_size item = (item.tiling.width, item.tiling.height)

-- whether two sizes are one
abbrev pub size_eq : ℕ × ℕ → ℕ × ℕ → Bool
size_eq a b = (a.0 == b.0) && (a.1 == b.1)

-- sizes, and one more at their end, unless it is among them
abbrev pub with_size : List (ℕ × ℕ) → ℕ × ℕ → List (ℕ × ℕ)
with_size sizes a = cond (list_any (size_eq a) sizes) sizes (sizes ++ a ∷ [])

-- the sizes of the items, each once, in the order of their first items
abbrev pub sizes : List KeptItem → List (ℕ × ℕ)
sizes items = fold with_size [] (map item_size items)

-- the group of a size: the places, from 0, of the items of that size, in the order of the lines
abbrev pub group_of : List KeptItem → ℕ × ℕ → List ℕ
group_of items a =
    map (λ (i, item). i) (filter (λ (i, item). size_eq a (item_size item)) (enumerate_from 0 items))

-- the groups, in the order of their first items
abbrev pub alike_groups : List KeptItem → List (List ℕ)
alike_groups items = map (group_of items) (sizes items)
