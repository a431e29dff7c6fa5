use Rattle.bk_ports.specs.Answered.{answers_of, of_fronts}
use Rattle.bk_ports.proofs.CallOrder.{each_line_answered}
use Rattle.bk_ports.proofs.laws.each_line_is_answered_before_the_next_read.Goals as goal

pub returns : goal.returns
returns g c =
    each_line_answered
    (answers_of (of_fronts (record { answers = g.A.Answerer.answers c.args._answerer.now; may_want = g.A.Answerer.may_want c.args._answerer.now })))
