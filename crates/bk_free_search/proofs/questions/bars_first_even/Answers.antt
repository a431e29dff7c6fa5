use Rattle.std.proofs.lemmas.Bool.{ltb-true}
use Rattle.bk_word.specs.declared.Sign.TheVariants.{Even}
use Rattle.bk_free_search.proofs.NextWords.SignPhases.{first_is_barred}
use Rattle.bk_free_search.proofs.questions.bars_first_even.Goals as goal

pub returns : goal.returns
returns c told s begun none apart = first_is_barred Even c.args.around.now.before.even c.args.around.now.needs.even begun none apart
    (begun.around_is.before_is.even apart) begun.around_is.needs_are.even
    (ltb-true c.args.begun.now.next.left c.args.around.now.needs.even told)
