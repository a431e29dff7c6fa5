use Rattle.std.proofs.Common.{MatchResult, subst}
use Rattle.bk_packed.specs.KeptNumbers.{IsPlaceOf}
use Rattle.bk_packed.proofs.BroughtForward.{place_searched}
use Rattle.bk_packed.proofs.sorting.place_of.Goals as goal

pub returns-in-Ok : goal.returns-in-Ok
returns-in-Ok c = subst (λ r. MatchResult r (IsPlaceOf c.args.numbers.now c.args.number) (IsPlaceOf c.args.numbers.now c.args.number)) c.in-Ok.is
    (place_searched c.args.numbers.now c.args.number c.binary_search.result c.requires c.binary_search.ensures.position)

pub returns-in-Err : goal.returns-in-Err
returns-in-Err c = subst (λ r. MatchResult r (IsPlaceOf c.args.numbers.now c.args.number) (IsPlaceOf c.args.numbers.now c.args.number)) c.in-Err.is
    (place_searched c.args.numbers.now c.args.number c.binary_search.result c.requires c.binary_search.ensures.position)
