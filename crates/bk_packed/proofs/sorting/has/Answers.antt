use Rattle.std.proofs.Common.{subst, sym}
use Rattle.std.proofs.lemmas.List.Sorted.{searched}
use Rattle.std.proofs.Common.{Contains, IsTrue, ◌↔◌}
use Rattle.bk_laws.proofs.Membership.{contains-of_search}
use Rattle.bk_packed.proofs.BroughtForward.{ascending_up}
use Rattle.bk_packed.proofs.sorting.has.Goals as goal

pub returns : goal.returns
returns c = subst (λ b. IsTrue b ↔ Contains c.args.numbers.now c.args.number) (sym c.is_ok.ensures.value)
    (contains-of_search c.args.numbers.now c.args.number c.binary_search.result
    (searched c.args.numbers.now c.args.number c.binary_search.result c.binary_search.ensures.position (ascending_up c.args.numbers.now c.requires)))
