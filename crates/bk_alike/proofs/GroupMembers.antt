-- The groups of kept items: their members are places of items, and their lines.
use Rattle.std.specs.List.{AllByRecursion, enumerate_from, flat_map}
use Rattle.std.specs.Prelude.{Bool, Some, cond, false, filter, map, slice_get, true}
use Rattle.std.specs.Option.{option_map}
use Rattle.std.proofs.Common.{List, [], Option, ap, arith, get_or, length, refl, subst, sym, ℕ, ◌+◌, ◌<◌, ◌∙◌, ◌∷◌, ◌≡◌, ◌≤◌}
use Rattle.std.proofs.lemmas.List.Elements.{All-from_recursion}
use Rattle.std.proofs.lemmas.Option.{same_Some, slice_get-map}
use Rattle.bk_laws.proofs.Outcomes.{some-unique}
use Rattle.bk_alike.specs.Alike.{alike_groups, group_of, item_size, size_eq, sizes}
use Rattle.bk_alike.specs.declared.item.KeptItem.{KeptItem}
use Rattle.bk_report.specs.ListLines.{group_line}
use Rattle.bk_alike.specs.GroupsEnd.{group_lines, member_at}

-- there are as many groups as sizes
pub length-groups : (items : List KeptItem) (S : List (ℕ × ℕ)) → length (map (group_of items) S) ≡ length S
length-groups items [] = refl
length-groups items (a ∷ S) = omega (arith, length-groups items S)

-- a group has a size
pub size_within : (items : List KeptItem) (g : ℕ) → g < length (alike_groups items) → g < length (sizes items)
size_within items g below = omega (arith, length-groups items (sizes items))

-- the members are those of the group
pub members_are : (items : List KeptItem) (g : ℕ) (a : ℕ × ℕ) (members : List ℕ) → slice_get (sizes items) g ≡ Some a
    → slice_get (alike_groups items) g ≡ Some members → members ≡ group_of items a
members_are items g a members e f =
    same_Some members (group_of items a) (sym f ∙ slice_get-map (group_of items) (sizes items) g ∙ ap (λ (o : Option (ℕ × ℕ)). option_map (group_of items) o) e)

-- the members of a group are places of items
below_all : (test : ℕ × KeptItem → Bool) (n m : ℕ) (items : List KeptItem) → n + length items ≤ m
    → AllByRecursion (λ place. place < m) (map (λ (i, item). i) (filter test (enumerate_from n items)))
below_all test n m [] fits = tt
below_all test n m (x ∷ items) fits = by (test (n, x)) (below_all test (n + 1) m items (omega arith))
  where
    by : (v : Bool) → AllByRecursion (λ place. place < m) (map (λ (i, item). i) (filter test (enumerate_from (n + 1) items)))
        → AllByRecursion (λ place. place < m) (map (λ (i, item). i) (cond {A = List (ℕ × KeptItem)} v
        ((n, x) ∷ filter test (enumerate_from (n + 1) items)) (filter test (enumerate_from (n + 1) items))))
    by true rest = (omega arith, rest)
    by false rest = rest

group_below : (items : List KeptItem) (a : ℕ × ℕ) → AllByRecursion (λ place. place < length items) (group_of items a)
group_below items a = below_all (λ (i, item). size_eq a (item_size item)) 0 (length items) items (omega arith)

-- the places of the items of one size are places of items
pub places_of_size : (items : List KeptItem) (a : ℕ × ℕ) (places : List ℕ) → places ≡ group_of items a → AllByRecursion (λ place. place < length items) places
places_of_size items a places are = subst (λ (l : List ℕ). AllByRecursion (λ place. place < length items) l) (sym are) (group_below items a)

-- each place of a group is that of an item
pub place_below : (items : List KeptItem) (a : ℕ × ℕ) (places : List ℕ) (k : ℕ) → places ≡ group_of items a → k < length places
    → get_or places k 0 < length items
place_below items a places k are below =
    All-from_recursion (λ place. place < length items) places (places_of_size items a places are) k 0 below

-- the members of a group of items are places of items
pub places_below : (items : List KeptItem) (g : ℕ) (a : ℕ × ℕ) (members : List ℕ) → slice_get (sizes items) g ≡ Some a
    → slice_get (alike_groups items) g ≡ Some members
    → AllByRecursion (λ place. place < length items) members
places_below items g a members e f =
    places_of_size items a members (members_are items g a members e f)

-- the lines of the group
pub lines_of_group : (items : List KeptItem) (g : ℕ) (a b : ℕ × ℕ) (members : List ℕ) → slice_get (sizes items) g ≡ Some b
    → slice_get (alike_groups items) g ≡ Some members → slice_get (sizes items) g ≡ Some a
    → group_lines items a ≡ group_line b.0 b.1 (length members) ∷ flat_map (member_at items) members
lines_of_group items g a b members e f h =
    let same : a ≡ b = some-unique (slice_get (sizes items) g) a b h e in
    let are = members_are items g b members e f in
    ap (group_lines items) same ∙ ap (λ (l : List ℕ). group_line b.0 b.1 (length l) ∷ flat_map (member_at items) l) (sym are)
