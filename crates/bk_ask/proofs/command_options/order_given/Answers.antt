use Rattle.bk_ask.proofs.command_options.order_given.Goals as goal

pub returns-clause-some : goal.returns-clause-some
returns-clause-some c = c.in_ok-number_given.ensures.some
