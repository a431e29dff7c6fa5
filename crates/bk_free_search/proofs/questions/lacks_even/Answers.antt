use Rattle.std.proofs.lemmas.Bool.{ltb-true}
use Rattle.bk_free_search.proofs.NextWords.SignPhases.{right_lacks_even}
use Rattle.bk_free_search.proofs.questions.lacks_even.Goals as goal

pub returns : goal.returns
returns c told s b begun asked last sign not = right_lacks_even c.args.asked.now begun asked
    (ltb-true c.args.asked.now.evens c.args.around.now.ahead.evens told) last sign not
