-- Loops that write the lines of the pairs of each item, and how many pairs there are.
use Rattle.std.specs.List.{concat}
use Rattle.std.specs.Prelude.{Some, drop, slice_get}
use Rattle.std.specs.Io.KnownBytes.{Appends}
use Rattle.std.proofs.Common.{List, [], Option, ap, arith, length, ℕ, ◌*◌, ◌++◌, ◌+◌, ◌<◌, ◌∙◌, ◌∷◌, ◌≡◌, ◌≤◌, flat_map}
use Rattle.std.proofs.lemmas.List.{length-append}
use Rattle.bk_laws.proofs.Outcomes.{some-unique}
use Rattle.bk_ports.specs.Causes.{AppendsPrefix}
use Rattle.bk_pair.specs.declared.Kind.{Kind}
use Rattle.bk_alike.specs.declared.item.KeptItem.{KeptItem}
use Rattle.bk_alike.specs.Pairs.{all_pairs, pair_lines}
use Rattle.bk_alike.proofs.PairLines.{few_with}
use Rattle.bk_alike.proofs.WrittenLines.{IsWrittenTo, item_at, lines_written_with_the_next_ones, written_broken}

next_pairs : (kind : Kind) (items : List KeptItem) (k : ℕ) (x : KeptItem) → k < length items → slice_get items k ≡ Some x
    → all_pairs kind (drop k items) ≡ flat_map (pair_lines kind x) (drop (k + 1) items) ++ all_pairs kind (drop (k + 1) items)
next_pairs kind items k x below e =
    let at = item_at items k below in
    ap (λ (l : List KeptItem). all_pairs kind l) at.left
    ∙ ap (λ (y : KeptItem). flat_map (pair_lines kind y) (drop (k + 1) items) ++ all_pairs kind (drop (k + 1) items))
    (some-unique (slice_get items k) at.item x at.here e)

-- the pairs of the item at a place are written, and those of the later items are left
pub pairs_more : (kind : Kind) (items : List KeptItem) (k : ℕ) (a b c : Option (List ℕ)) → k < length items
    → IsWrittenTo (all_pairs kind items) (all_pairs kind (drop k items)) a b
    → ((x : KeptItem) → slice_get items k ≡ Some x → Appends b c (concat (flat_map (pair_lines kind x) (drop (k + 1) items))))
    → IsWrittenTo (all_pairs kind items) (all_pairs kind (drop (k + 1) items)) a c
pairs_more kind items k a b c below state here =
    let at = item_at items k below in
    lines_written_with_the_next_ones (all_pairs kind items) (all_pairs kind (drop k items)) (flat_map (pair_lines kind at.item) (drop (k + 1) items))
    (all_pairs kind (drop (k + 1) items)) a b c state
    (next_pairs kind items k at.item below at.here) (here at.item at.here)

-- where a write of them fails, a beginning of the lines of all pairs stands written
pub pairs_broken : (kind : Kind) (items : List KeptItem) (k : ℕ) (a b c : Option (List ℕ)) → k < length items
    → IsWrittenTo (all_pairs kind items) (all_pairs kind (drop k items)) a b
    → ((x : KeptItem) → slice_get items k ≡ Some x → AppendsPrefix b c (concat (flat_map (pair_lines kind x) (drop (k + 1) items))))
    → AppendsPrefix a c (concat (all_pairs kind items))
pairs_broken kind items k a b c below state here =
    let at = item_at items k below in
    written_broken (all_pairs kind items) (all_pairs kind (drop k items)) (flat_map (pair_lines kind at.item) (drop (k + 1) items))
    (all_pairs kind (drop (k + 1) items)) a b c state
    (next_pairs kind items k at.item below at.here) (here at.item at.here)

-- how many there are with one more item
pub pairs_counted_with_one_item_more : (kind : Kind) (items : List KeptItem) (k n m : ℕ) → k < length items
    → n + length (all_pairs kind (drop k items)) ≡ length (all_pairs kind items)
    → ((x : KeptItem) → slice_get items k ≡ Some x → m ≡ length (flat_map (pair_lines kind x) (drop (k + 1) items)))
    → (n + m) + length (all_pairs kind (drop (k + 1) items)) ≡ length (all_pairs kind items)
pairs_counted_with_one_item_more kind items k n m below e is =
    let at = item_at items k below in
    let next = ap (λ (l : List (List ℕ)). length l) (next_pairs kind items k at.item below at.here) in
    omega (arith, next, is at.item at.here, length-append (flat_map (pair_lines kind at.item) (drop (k + 1) items)) (all_pairs kind (drop (k + 1) items)))

-- at most 16,384 items have at most 16,384 pairs for each item
few_by : (kind : Kind) (items : List KeptItem) → length items ≤ 16384 → length (all_pairs kind items) ≤ 16384 * length items
few_by kind [] few = omega arith
few_by kind (a ∷ later) few = omega (
  arith,
  few_with kind a later,
  few_by kind later (omega arith),
  length-append (flat_map (pair_lines kind a) later) (all_pairs kind later),
)

-- items of at most 16,384 have at most 2^28 pairs
pub few_all : (kind : Kind) (items : List KeptItem) → length items ≤ 16384 → length (all_pairs kind items) ≤ 268435456
few_all kind items few = omega (arith, few_by kind items few)

-- the pairs of at most 16,384 items up to any place are at most 2^28
pub few_so_far : (kind : Kind) (items : List KeptItem) (k n m : ℕ) → k < length items → length items ≤ 16384
    → n + length (all_pairs kind (drop k items)) ≡ length (all_pairs kind items)
    → ((x : KeptItem) → slice_get items k ≡ Some x → m ≡ length (flat_map (pair_lines kind x) (drop (k + 1) items))) → n + m ≤ 268435456
few_so_far kind items k n m below few e is = omega (arith, few_all kind items few, pairs_counted_with_one_item_more kind items k n m below e is)
