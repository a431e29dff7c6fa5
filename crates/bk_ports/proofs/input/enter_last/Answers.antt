use Rattle.std.proofs.Common.{lit<, refl, sym, ◌∙◌}
use Rattle.bk_laws.proofs.ListParts.{length-positive_of_test}
use Rattle.bk_ports.proofs.Fronts.{front-whole}
use Rattle.bk_ports.proofs.OneLine.{last_entered, last_stopped}
use Rattle.bk_ports.proofs.input.enter_last.Goals as goal

pub returns-clause-entered : goal.returns-clause-entered
returns-clause-entered g c =
    let some = length-positive_of_test c.args.kept.now.front.items (sym c.is_empty.ensures ∙ c.if-is_empty.false) in
    last_entered (record { enters = g.R.Register.enters; may_want = g.R.Register.may_want }) c.args.register.now c.args.kept.now.number
    c.args.kept.now.front.items c.deref.result.now _ _ some
    (front-whole c.args.kept.now.front.items c.deref.result.now c.deref.ensures.0 c.deref.ensures.1) c.enter_line.new.register c.enter_line.result
    c.enter_line.ensures.entered

pub returns-clause-stopped : goal.returns-clause-stopped
returns-clause-stopped g c =
    let some = length-positive_of_test c.args.kept.now.front.items (sym c.is_empty.ensures ∙ c.if-is_empty.false) in
    last_stopped (record { enters = g.R.Register.enters; may_want = g.R.Register.may_want }) c.args.register.now c.args.kept.now.number
    c.args.kept.now.front.items c.deref.result.now _ _ some
    (front-whole c.args.kept.now.front.items c.deref.result.now c.deref.ensures.0 c.deref.ensures.1) c.enter_line.result c.enter_line.ensures.stopped

pub is_empty-requires : goal.is_empty-requires
is_empty-requires g c = lit< tt

pub returns-then-is_empty-clause-count : goal.returns-then-is_empty-clause-count
returns-then-is_empty-clause-count g c = refl

pub deref-requires : goal.deref-requires
deref-requires g c = lit< tt

pub enter_line-requires-clause-short : goal.enter_line-requires-clause-short
enter_line-requires-clause-short g c = c.deref.ensures.1

pub enter_line-requires-clause-early : goal.enter_line-requires-clause-early
enter_line-requires-clause-early g c = c.requires.early

pub enter_line-requires-clause-ready : goal.enter_line-requires-clause-ready
enter_line-requires-clause-ready g c = c.requires.ready

pub returns-clause-count : goal.returns-clause-count
returns-clause-count g c = c.enter_line.ensures.count
