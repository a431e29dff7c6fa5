-- What holds of the sizes and the groups that are stored beside the items.
use Rattle.std.specs.List.{AllByRecursion, list_any}
use Rattle.std.specs.Prelude.{List, [], false, length, suc, zero, ℕ, ⊤, ◌++◌, ◌∷◌, ◌≡◌, ◌≤◌}
use Rattle.bk_alike.specs.Alike.{alike_groups, group_of, size_eq, sizes}
use Rattle.bk_alike.specs.declared.TheConstants.{MOST_ITEMS}
use Rattle.bk_alike.specs.declared.item.KeptItem.{KeptItem}

-- no size stands twice
abbrev pub AreSizesApart : List (ℕ × ℕ) → Type 0
AreSizesApart [] = ⊤
AreSizesApart (a ∷ sizes) = AllByRecursion (λ b. size_eq a b ≡ false) sizes × AreSizesApart sizes

-- a place put into a group, or into a new one at the end
abbrev pub with_place : List (List ℕ) → ℕ → ℕ → List (List ℕ)
with_place [] g place = (place ∷ []) ∷ []
with_place (group ∷ groups) zero place = (group ++ place ∷ []) ∷ groups
with_place (group ∷ groups) (suc g) place = group ∷ with_place groups g place

-- the stored sizes and groups are those of the items
pub record IsGrouped (items : List KeptItem) (stored : List (ℕ × ℕ)) (groups : List (List ℕ)) : Type 0 where
  pub few : length items ≤ MOST_ITEMS
  pub sizes_are : stored ≡ sizes items
  pub groups_are : groups ≡ alike_groups items
  pub apart : AreSizesApart (sizes items)
  pub no_others : (a : ℕ × ℕ) → list_any (size_eq a) (sizes items) ≡ false → group_of items a ≡ []
