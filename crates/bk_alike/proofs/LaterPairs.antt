-- The lines of an item with each later one are its lines with the items of its own size that stand behind it.
use Rattle.std.specs.List.{enumerate_from, flat_map}
use Rattle.std.specs.Option.{option_map_or}
use Rattle.std.specs.Prelude.{Bool, Some, cond, drop, false, filter, map, nat_eq, nat_le, nat_lt, not, slice_get, true, zero}
use Rattle.std.proofs.Common.{List, [], Option, ap, arith, inl, inr, refl, suc, sym, ℕ, ◌&&◌, ◌++◌, ◌+◌, ◌<◌, ◌∙◌, ◌∷◌, ◌≡◌, ◌≤◌}
use Rattle.std.proofs.lemmas.Bool.{cases_Bool}
use Rattle.std.proofs.lemmas.Bool.Decides.{nat_tests}
use Rattle.bk_laws.proofs.ListParts.{drop-none}
use Rattle.bk_tiling.specs.Tiling.{Tiling, order}
use Rattle.bk_pair.specs.declared.Kind.{Kind}
use Rattle.bk_pair.specs.declared.Kind.TheVariants as kinds
use Rattle.bk_pair.specs.Pair.{joined_square, pair_sides}
use Rattle.bk_pair.specs.PairTest.{can_be_laid, no_twice}
use Rattle.bk_report.specs.ListLines.{pair_line}
use Rattle.bk_alike.specs.Alike.{group_of, item_size, size_eq}
use Rattle.bk_alike.specs.declared.item.KeptItem.{KeptItem}
use Rattle.bk_alike.specs.LaterLines.{later_lines}
use Rattle.bk_alike.specs.Pairs.{is_pair, pair_lines}
use Rattle.bk_alike.proofs.PairLines.{IsItemAt, tiling_at}

-- items of two sizes are no pair
not_laid : (a b : Tiling) → size_eq (a.width, a.height) (b.width, b.height) ≡ false → can_be_laid a b ≡ false
not_laid a b other = ap (λ (v : Bool). v && (not (nat_eq a.width a.height)
    && (nat_le (order a + order b + 2) 200
    && (nat_le a.width 999999999999999 && nat_le a.height 999999999999999)))) other

no_pair : (kind : Kind) (a b : Tiling) → size_eq (a.width, a.height) (b.width, b.height) ≡ false → is_pair kind a b ≡ false
no_pair kinds.Perfect a b other = ap (λ (v : Bool). v && no_twice (pair_sides a b)) (not_laid a b other)
no_pair kinds.Any a b other = not_laid a b other

other_size : (kind : Kind) (a b : KeptItem) → size_eq (item_size a) (item_size b) ≡ false → pair_lines kind a b ≡ []
other_size kind a b other =
    ap (λ (v : Bool). cond v (pair_line a.line b.line (joined_square a.tiling b.tiling) ∷ []) []) (no_pair kind a.tiling b.tiling other)

-- the line with the item at a place, behind or not
pub line_behind : (kind : Kind) (items : List KeptItem) (i n : ℕ) (a x : KeptItem) → i < n → slice_get items n ≡ Some x
    → later_lines kind items i a n ≡ pair_lines kind a x
line_behind kind items i n a x behind e =
    let test : nat_lt i n ≡ true = grind (arith, nat_tests) in
    ap (λ (v : Bool). cond v (option_map_or (pair_lines kind a) (slice_get items n) []) []) test
    ∙ ap (λ (o : Option KeptItem). option_map_or (pair_lines kind a) o []) e

-- the lines of an item with those that stand no later than its place are none
pub no_line_before : (kind : Kind) (items : List KeptItem) (i n : ℕ) (a : KeptItem) → n ≤ i → later_lines kind items i a n ≡ []
no_line_before kind items i n a before =
    let test : nat_lt i n ≡ false = grind (arith, nat_tests) in
    ap (λ (v : Bool). cond v (option_map_or (pair_lines kind a) (slice_get items n) []) []) test

-- these are the items from a place on
abbrev AreFrom : List KeptItem → ℕ → List KeptItem → Type 0
AreFrom items n rest = (k : ℕ) → slice_get items (n + k) ≡ slice_get rest k

next_from : (items : List KeptItem) (n : ℕ) (x : KeptItem) (rest : List KeptItem) → AreFrom items n (x ∷ rest) → AreFrom items (n + 1) rest
next_from items n x rest at k = let e : (n + 1) + k ≡ n + suc k = omega arith in ap (λ (m : ℕ). slice_get items m) e ∙ at (suc k)

first_from : (items : List KeptItem) (n : ℕ) (x : KeptItem) (rest : List KeptItem) → AreFrom items n (x ∷ rest) → slice_get items n ≡ Some x
first_from items n x rest at = let e : n ≡ n + 0 = omega arith in ap (λ (m : ℕ). slice_get items m) e ∙ at 0

-- the items of a size, among numbered items
abbrev numbered : KeptItem → ℕ → List KeptItem → List (ℕ × KeptItem)
numbered a n rest = filter (λ (k, item). size_eq (item_size a) (item_size item)) (enumerate_from n rest)

abbrev places_from : KeptItem → ℕ → List KeptItem → List ℕ
places_from a n rest = map (λ (k, item). k) (numbered a n rest)

places_next : (a : KeptItem) (n : ℕ) (x : KeptItem) (rest : List KeptItem) → size_eq (item_size a) (item_size x) ≡ true
    → places_from a n (x ∷ rest) ≡ n ∷ places_from a (n + 1) rest
places_next a n x rest same =
    ap (λ (v : Bool). map (λ (k, item). k) (cond {A = List (ℕ × KeptItem)} v ((n, x) ∷ numbered a (n + 1) rest) (numbered a (n + 1) rest))) same

places_over : (a : KeptItem) (n : ℕ) (x : KeptItem) (rest : List KeptItem) → size_eq (item_size a) (item_size x) ≡ false
    → places_from a n (x ∷ rest) ≡ places_from a (n + 1) rest
places_over a n x rest other =
    ap (λ (v : Bool). map (λ (k, item). k) (cond {A = List (ℕ × KeptItem)} v ((n, x) ∷ numbered a (n + 1) rest) (numbered a (n + 1) rest))) other

-- behind the item, and from the start
behind_item : (kind : Kind) (items : List KeptItem) (i : ℕ) (a : KeptItem) (n : ℕ) (rest : List KeptItem) → i < n → AreFrom items n rest
    → flat_map (later_lines kind items i a) (places_from a n rest) ≡ flat_map (pair_lines kind a) rest
behind_item kind items i a n [] behind at = refl
behind_item kind items i a n (x ∷ rest) behind at =
    let more : flat_map (later_lines kind items i a) (places_from a (n + 1) rest) ≡ flat_map (pair_lines kind a) rest
    = behind_item kind items i a (n + 1) rest (omega arith) (next_from items n x rest at) in
    elim (cases_Bool (size_eq (item_size a) (item_size x))) [
      | inl t ↦
          let here = line_behind kind items i n a x behind (first_from items n x rest at) in
          ap (flat_map (later_lines kind items i a)) (places_next a n x rest t) ∙ (λ j. here j ++ more j)
      | inr f ↦
          ap (flat_map (later_lines kind items i a)) (places_over a n x rest f) ∙ more
          ∙ ap (λ (l : List (List ℕ)). l ++ flat_map (pair_lines kind a) rest) (sym (other_size kind a x f))
    ]

from_start : (kind : Kind) (items : List KeptItem) (i : ℕ) (a : KeptItem) (m n : ℕ) (rest : List KeptItem) → n + m ≡ i + 1 → AreFrom items n rest
    → flat_map (later_lines kind items i a) (places_from a n rest) ≡ flat_map (pair_lines kind a) (drop m rest)
from_start kind items i a zero n rest e at =
    behind_item kind items i a n rest (omega (arith, e)) at ∙ ap (λ (l : List KeptItem). flat_map (pair_lines kind a) l) (sym (drop-none rest))
from_start kind items i a (suc m) n [] e at = refl
from_start kind items i a (suc m) n (x ∷ rest) e at =
    let more : flat_map (later_lines kind items i a) (places_from a (n + 1) rest) ≡ flat_map (pair_lines kind a) (drop m rest)
    = from_start kind items i a m (n + 1) rest (omega (arith, e)) (next_from items n x rest at) in
    elim (cases_Bool (size_eq (item_size a) (item_size x))) [
      | inl t ↦
          ap (flat_map (later_lines kind items i a)) (places_next a n x rest t)
          ∙ ap (λ (l : List (List ℕ)). l ++ flat_map (later_lines kind items i a) (places_from a (n + 1) rest))
          (no_line_before kind items i n a (omega (arith, e)))
          ∙ more
      | inr f ↦ ap (flat_map (later_lines kind items i a)) (places_over a n x rest f) ∙ more
    ]

-- the lines of an item with later ones of its size are its lines with all later ones
pub pairs_of_size : (kind : Kind) (items : List KeptItem) (i : ℕ) (a : KeptItem)
    → flat_map (later_lines kind items i a) (group_of items (item_size a)) ≡ flat_map (pair_lines kind a) (drop (i + 1) items)
pairs_of_size kind items i a =
    from_start kind items i a (i + 1) 0 items (omega arith) (λ k. let e : 0 + k ≡ k = omega arith in ap (λ (m : ℕ). slice_get items m) e)

-- the lines of an item with places that were looked up by the size of its tiling are its lines with all later ones
pub pairs_looked_up : (kind : Kind) (items : List KeptItem) (i line width height : ℕ) (t : Tiling) (places : List ℕ) → IsItemAt items i line t
    → width ≡ t.width → height ≡ t.height → places ≡ group_of items (width, height) → (a : KeptItem) → slice_get items i ≡ Some a
    → flat_map (later_lines kind items i a) places ≡ flat_map (pair_lines kind a) (drop (i + 1) items)
pairs_looked_up kind items i line width height t places at wide high looked a e =
    let tiling : t ≡ a.tiling = tiling_at items i line t a at e in
    let size : ◌≡◌ {A = ℕ × ℕ} (width, height) (item_size a) = (λ j. (wide j, high j)) ∙ ap (λ (u : Tiling). (u.width, u.height)) tiling in
    ap (flat_map (later_lines kind items i a)) (looked ∙ ap (group_of items) size) ∙ pairs_of_size kind items i a
