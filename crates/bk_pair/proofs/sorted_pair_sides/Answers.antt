-- The sides that are pushed one tiling after the other, with the width and the height, and their order.
use Rattle.std.specs.List.Sorted.{IsPermutation}
use Rattle.std.proofs.Common.{List, [], ap, append_assoc, arith, length, subst, ℕ, ◌++◌, ◌+◌, ◌∙◌, ◌∷◌, ◌≡◌}
use Rattle.std.proofs.lemmas.List.{length-append, length-map}
use Rattle.arrayvec.proofs.ArrayVecLemmas.{items-with_items}
use Rattle.std.proofs.lemmas.List.Sorted.{IsNonDecreasingBy-from_sort}
use Rattle.bk_tiling.specs.Tiling.{Tiling, order, sides_of}
use Rattle.bk_tiling.specs.declared.Square.{Square}
use Rattle.bk_pair.specs.Pair.{pair_sides}
use Rattle.bk_pair.proofs.sorted_pair_sides.Goals as goal

-- how many sides there are behind those of a tiling
long : (t : Tiling) (first all : List ℕ) → all ≡ first ++ sides_of t → length all ≡ length first + order t
long t first all is = ap length is ∙ omega (arith, length-append first (sides_of t), length-map t.squares (λ (q : Square). q.s))

-- what is pushed are the sides of what the two make
pushed : (a b : Tiling) (none one two three all : List ℕ) (width height : ℕ) → none ≡ [] → one ≡ none ++ sides_of a → two ≡ one ++ sides_of b
    → three ≡ two ++ width ∷ [] → all ≡ three ++ height ∷ [] → width ≡ a.width → height ≡ a.height → all ≡ pair_sides a b
pushed a b none one two three all width height n x y z all_is w h =
    let both : two ≡ sides_of a ++ sides_of b = y ∙ ap (λ (l : List ℕ). l ++ sides_of b) (x ∙ ap (λ (l : List ℕ). l ++ sides_of a) n) in
    let wide : three ≡ (sides_of a ++ sides_of b) ++ a.width ∷ [] = z ∙ (λ k. both k ++ w k ∷ []) in
    all_is
    ∙ (λ k. wide k ++ h k ∷ [])
    ∙ append_assoc (sides_of a ++ sides_of b) (a.width ∷ []) (a.height ∷ [])
    ∙ append_assoc (sides_of a) (sides_of b) (a.width ∷ a.height ∷ [])

pub new-sides-requires : goal.new-sides-requires
new-sides-requires c = omega arith

pub push_sides-requires : goal.push_sides-requires
push_sides-requires c = omega (arith, ap length c.new-sides.ensures, c.requires)

pub push_sides-requires-2 : goal.push_sides-requires-2
push_sides-requires-2 c = omega (
  arith,
  ap length c.new-sides.ensures,
  long c.args.a.now c.new-sides.result.items c.push_sides.new.sides.items c.push_sides.ensures,
  c.requires,
)

pub push-requires : goal.push-requires
push-requires c = (
  omega arith,
  omega (
    arith,
    ap length c.new-sides.ensures,
    long c.args.a.now c.new-sides.result.items c.push_sides.new.sides.items c.push_sides.ensures,
    long c.args.b.now c.push_sides.new.sides.items c.push_sides-2.new.sides.items c.push_sides-2.ensures,
    c.requires,
  ),
)

pub push-requires-2 : goal.push-requires-2
push-requires-2 c = (
  omega arith,
  omega (
    arith,
    ap length c.new-sides.ensures,
    long c.args.a.now c.new-sides.result.items c.push_sides.new.sides.items c.push_sides.ensures,
    long c.args.b.now c.push_sides.new.sides.items c.push_sides-2.new.sides.items c.push_sides-2.ensures,
    c.push.ensures.len,
    c.requires,
  ),
)

pub deref_mut-requires : goal.deref_mut-requires
deref_mut-requires c = omega arith

pub returns-clause-same : goal.returns-clause-same
returns-clause-same c =
    rw (items-with_items c.push-2.new.self c.sort_unstable.new.self (c.sort_unstable.ensures.len ∙ ap length c.deref_mut.ensures.value))
    (subst (λ (l : List ℕ). IsPermutation l c.sort_unstable.new.self) (c.deref_mut.ensures.value
    ∙ pushed c.args.a.now c.args.b.now c.new-sides.result.items c.push_sides.new.sides.items c.push_sides-2.new.sides.items c.push.new.self.items
    c.push-2.new.self.items c.width.result c.height.result c.new-sides.ensures c.push_sides.ensures c.push_sides-2.ensures c.push.ensures.items
    c.push-2.ensures.items c.width.ensures.value c.height.ensures.value) c.sort_unstable.ensures.permutation)

pub returns-clause-sorted : goal.returns-clause-sorted
returns-clause-sorted c =
    rw (items-with_items c.push-2.new.self c.sort_unstable.new.self (c.sort_unstable.ensures.len ∙ ap length c.deref_mut.ensures.value))
    (IsNonDecreasingBy-from_sort (λ x. x) c.sort_unstable.new.self c.sort_unstable.ensures.sorted)
