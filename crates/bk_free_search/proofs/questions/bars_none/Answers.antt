use Rattle.std.proofs.lemmas.Bool.{ltb-true}
use Rattle.bk_free_search.proofs.NextWords.SignPhases.{none_is_barred}
use Rattle.bk_free_search.proofs.questions.bars_none.Goals as goal

pub returns : goal.returns
returns c told s begun none wall = none_is_barred begun none wall
    (ltb-true c.args.begun.now.next.left c.args.around.now.needs.none told)
