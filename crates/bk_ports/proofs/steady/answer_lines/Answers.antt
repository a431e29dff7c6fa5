use Rattle.std.proofs.Common.{refl, subst, ◌∙◌, ◌≡◌}
use Rattle.bk_ports.proofs.Stateless.{ends_alike}
use Rattle.bk_ports.specs.Answered.{of_fronts}
use Rattle.bk_ports.specs.Ending.{streams_between}
use Rattle.bk_ports.specs.Lines.{kept_front}
use Rattle.bk_ports.proofs.steady.answer_lines.Goals as goal

pub returns-clause-ending : goal.returns-clause-ending
returns-clause-ending g c =
    ends_alike
    (record {
      enters = λ s n line pieces refused l. (g.A.Answerer.answers s.answerer.now line pieces refused × (l.answerer.now ≡ s.answerer.now));
      may_want = λ s n line. g.A.Answerer.may_want s.answerer.now line;
    })
    (λ s. s.answerer.now ≡ c.args.answerer.now)
    (of_fronts (record { answers = g.A.Answerer.answers c.args.answerer.now; may_want = g.A.Answerer.may_want c.args.answerer.now }))
    (record {
      reply = λ s l n line pieces refused served h. subst (λ a. g.A.Answerer.answers a (kept_front line) pieces refused) served h.0;
      goes_on = λ s l n line pieces refused served h. h.1 ∙ served;
      wants = λ s n line served h. subst (λ a. g.A.Answerer.may_want a (kept_front line)) served h;
    })
    (record { answerer = c.args.answerer; desk = c.desk.result }) c.enter_lines-ended.new.register
    (streams_between g.S.Source.left g.O.Sink.written (c.args.source.now, c.args.out.now) (c.enter_lines-ended.new.source, c.enter_lines-ended.new.out))
    c.enter_lines-ended.result refl c.enter_lines-ended.ensures.ending

pub returns-clause-complete : goal.returns-clause-complete
returns-clause-complete g c = c.enter_lines-ended.ensures.complete

pub returns-clause-faults : goal.returns-clause-faults
returns-clause-faults g c = c.enter_lines-ended.ensures.faults
