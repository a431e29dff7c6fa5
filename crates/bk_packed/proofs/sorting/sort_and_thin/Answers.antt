use Rattle.std.proofs.Common.{Contains, List, ap, length, rules, subst, sym, ℕ, ◌∙◌, ◌↔◌}
use Rattle.std.specs.List.Sorted.{IsNonDecreasing}
use Rattle.std.proofs.lemmas.List.Sorted.{Contains-permutation, IsNonDecreasingBy-from_sort, IsPermutation-sym}
use Rattle.bk_laws.proofs.ListPlaces.{refill-whole}
use Rattle.bk_packed.proofs.sorting.sort_and_thin.Goals as goal

pub drop_equals-requires : goal.drop_equals-requires
drop_equals-requires g c = (
  search rules,
  subst (λ (l : List ℕ). IsNonDecreasing l)
      (sym (refill-whole c.args.numbers.now.items c.sort_unstable.new.self
      (c.sort_unstable.ensures.len ∙ ap (λ (l : List ℕ). length l) c.deref_mut.ensures.value)))
      (IsNonDecreasingBy-from_sort (λ x. x) c.sort_unstable.new.self c.sort_unstable.ensures.sorted),
)

pub returns-clause-same : goal.returns-clause-same
returns-clause-same g c x =
    let sorted = refill-whole c.args.numbers.now.items c.sort_unstable.new.self (c.sort_unstable.ensures.len
    ∙ ap (λ (l : List ℕ). length l) c.deref_mut.ensures.value) in
    let there : Contains c.args.numbers.now.items x ↔ Contains c.sort_unstable.new.self x = subst (λ l. Contains l x ↔ Contains c.sort_unstable.new.self x)
    c.deref_mut.ensures.value (
      Contains-permutation c.deref_mut.result.now c.sort_unstable.new.self x c.sort_unstable.ensures.permutation,
      Contains-permutation c.sort_unstable.new.self c.deref_mut.result.now x (IsPermutation-sym c.deref_mut.result.now c.sort_unstable.new.self
          c.sort_unstable.ensures.permutation),
    ) in
    let same = subst (λ l. Contains c.drop_equals.new.numbers.items x ↔ Contains l x) sorted (c.drop_equals.ensures.same x) in
    (λ h. there.1 (same.0 h), λ h. same.1 (there.0 h))
