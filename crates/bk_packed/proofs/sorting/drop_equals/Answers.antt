-- What is kept are the numbers that were brought forward.
use Rattle.std.proofs.Common.{Contains, List, ap, arith, length, subst, sym, take, ℕ, ◌∙◌, ◌↔◌}
use Rattle.std.specs.List.Sorted.{IsNonDecreasing}
use Rattle.bk_laws.proofs.ListPlaces.{refill-whole}
use Rattle.bk_packed.specs.KeptNumbers.{AreAscendingNumbers}
use Rattle.bk_packed.proofs.sorting.drop_equals.Goals as goal

pub returns-clause-same : goal.returns-clause-same
returns-clause-same g c x =
    let kept = c.truncate.ensures.items ∙ ap (take c.bring_forward-count.result) (refill-whole c.args.numbers.now.items c.bring_forward-count.new.numbers
    (omega (arith, c.bring_forward-count.auto.numbers, ap (λ (l : List ℕ). length l) c.deref_mut.ensures.value))) in
    subst (λ l. Contains l x ↔ Contains c.args.numbers.now.items x) (sym kept) (subst (λ l. Contains
    (take c.bring_forward-count.result c.bring_forward-count.new.numbers) x ↔ Contains l x)
    c.deref_mut.ensures.value (c.bring_forward-count.ensures.same x))

pub bring_forward-count-requires : goal.bring_forward-count-requires
bring_forward-count-requires g c = subst IsNonDecreasing (sym c.deref_mut.ensures.value) c.requires

pub returns-clause-ascending : goal.returns-clause-ascending
returns-clause-ascending g c =
    let kept = c.truncate.ensures.items ∙ ap (take c.bring_forward-count.result) (refill-whole c.args.numbers.now.items c.bring_forward-count.new.numbers
    (omega (arith, c.bring_forward-count.auto.numbers, ap (λ (l : List ℕ). length l) c.deref_mut.ensures.value))) in
    subst AreAscendingNumbers (sym kept) c.bring_forward-count.ensures.ascending
