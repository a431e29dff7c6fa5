use Rattle.bk_ports.specs.Answered.{answers_of, of_fronts}
use Rattle.bk_ports.proofs.CallOrder.{other_stream_left}
use Rattle.bk_ports.proofs.laws.after_a_failed_call_the_other_stream_is_left.Goals as goal

pub returns : goal.returns
returns g c =
    other_stream_left
    (answers_of (of_fronts (record { answers = g.A.Answerer.answers c.args._answerer.now; may_want = g.A.Answerer.may_want c.args._answerer.now })))
