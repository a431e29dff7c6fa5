-- The lines of two items, by whether they are a pair; how many pairs there are.
use Rattle.std.specs.Prelude.{Bool, Some, cond, false, flat_map, slice_get, true}
use Rattle.std.proofs.Common.{List, [], ap, arith, length, ℕ, ◌∙◌, ◌∷◌, ◌≡◌, ◌≤◌}
use Rattle.std.proofs.lemmas.List.{length-append}
use Rattle.bk_laws.proofs.Outcomes.{some-unique}
use Rattle.bk_tiling.specs.Tiling.{Tiling}
use Rattle.bk_pair.specs.declared.Kind.{Kind}
use Rattle.bk_pair.specs.Pair.{joined_square}
use Rattle.bk_report.specs.ListLines.{pair_line}
use Rattle.bk_alike.specs.declared.item.KeptItem.{KeptItem}
use Rattle.bk_alike.specs.Pairs.{is_pair, pair_lines}

-- ---- how many pairs there are

one_at_most : (kind : Kind) (a b : KeptItem) → length (pair_lines kind a b) ≤ 1
one_at_most kind a b = by (is_pair kind a.tiling b.tiling)
  where
    by : (v : Bool) → length (cond {A = List (List ℕ)} v (pair_line a.line b.line (joined_square a.tiling b.tiling) ∷ []) []) ≤ 1
    by true = omega arith
    by false = omega arith

-- an item has at most as many lines with later ones as there are later ones
pub few_with : (kind : Kind) (a : KeptItem) (later : List KeptItem) → length (flat_map (pair_lines kind a) later) ≤ length later
few_with kind a [] = omega arith
few_with kind a (b ∷ later) =
    omega (arith, one_at_most kind a b, few_with kind a later, length-append (pair_lines kind a b) (flat_map (pair_lines kind a) later))

-- the line's number and the tiling are those of the item at a place
abbrev pub IsItemAt : List KeptItem → ℕ → ℕ → Tiling → Type 0
IsItemAt items k line t = (item : KeptItem) × (slice_get items k ≡ Some item) × (line ≡ item.line) × (t ≡ item.tiling)

-- the number that an item at a place has is the line of the item there
pub number_of_an_item_is_its_line : (items : List KeptItem) (k line : ℕ) (t : Tiling) (a : KeptItem) → IsItemAt items k line t → slice_get items k ≡ Some a
    → line ≡ a.line
number_of_an_item_is_its_line items k line t a is e = is.2 ∙ ap (λ (item : KeptItem). item.line) (some-unique (slice_get items k) is.0 a is.1 e)

-- the tiling that an item at a place has is that of the item there
pub tiling_at : (items : List KeptItem) (k line : ℕ) (t : Tiling) (a : KeptItem) → IsItemAt items k line t → slice_get items k ≡ Some a → t ≡ a.tiling
tiling_at items k line t a is e = is.3 ∙ ap (λ (item : KeptItem). item.tiling) (some-unique (slice_get items k) is.0 a is.1 e)
