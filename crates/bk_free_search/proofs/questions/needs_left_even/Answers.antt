use Rattle.std.proofs.Common.{arith}
use Rattle.std.proofs.lemmas.Bool.{ltb-true}
use Rattle.bk_free_search.proofs.NextWords.SignPhases.{left_lacks_even}
use Rattle.bk_free_search.proofs.questions.needs_left_even.Goals as goal

pub returns : goal.returns
returns c told n front beside count sign not = left_lacks_even n front c.args.around.now beside
    (omega (arith, ltb-true c.open_side.result c.args.around.now.ahead.evens told, c.open_side.ensures)) count sign not
