use Rattle.std.proofs.Common.{refl, ◌≡◌}
use Rattle.bk_ports.proofs.Stateless.{begun_in_state}
use Rattle.bk_ports.proofs.steady.SteadyRegister.enter.Goals as goal

pub returns-clause-failed : goal.returns-clause-failed
returns-clause-failed g c =
    begun_in_state c.answer.result (g.A.Answerer.answers c.args.self.now.answerer.now c.args.line.now) (λ x. x.answerer.now ≡ c.args.self.now.answerer.now)
    c.args.self.now
    (g.O.Sink.written c.args.out.now) (g.O.Sink.written c.answer.new.out) refl c.answer.ensures.failed
