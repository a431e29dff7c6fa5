use Rattle.std.proofs.Common.{List, ap, arith, length, subst, sym, take, ◌-◌, ◌≤◌}
use Rattle.bk_forms.specs.Form.{Form as SeenForm}
use Rattle.bk_walk_cuts.proofs.Traces.{trace_less}
use Rattle.bk_walk_cuts.proofs.TraceBack.{trace_back}
use Rattle.bk_walk_cuts.specs.Trace.{IsTraceOf, Trace}
use Rattle.bk_walk_cuts.proofs.tracing.Tracing.pop.Goals as goal

pub returns-then-len-moves-clause-trace : goal.returns-then-len-moves-clause-trace
returns-then-len-moves-clause-trace c = trace_less c.args.skel.now c.args.self.now c.requires.trace
    (omega (arith, c.if-len-moves.true, c.len.ensures.value, c.moves.ensures.value, ap (λ (t : Trace). length t.marks) c.self.view_is))

pub returns-in-Some-clause-trace : goal.returns-in-Some-clause-trace
returns-in-Some-clause-trace c =
    let all : length c.args.skel.now ≤ length c.self.inside.marks.items = omega (arith, c.if-len-moves.false, c.len.ensures.value, c.moves.ensures.value) in
    let w = take (length c.args.skel.now - 1) c.args.skel.now in
    subst (λ (ks : List SeenForm). IsTraceOf (take (length c.args.skel.now - 1) c.args.skel.now)
    (record { kept = ks; bottoms = c.truncate.new.self.items; marks = c.pop.new.self.items })) (sym c.cut.ensures)
    (subst (λ (bs : List SeenForm). IsTraceOf (take (length c.args.skel.now - 1) c.args.skel.now)
    (record { kept = take c.in-Some.mark.equations c.self.inside.ledger; bottoms = bs; marks = c.pop.new.self.items })) (sym c.truncate.ensures.items)
    (trace_back c.args.skel.now c.self.inside.ledger c.self.inside.bottoms.items c.self.inside.marks.items c.pop.new.self.items c.in-Some.mark
    (subst (IsTraceOf c.args.skel.now) (sym c.self.view_is) c.requires.trace) all c.in-Some.ensures.items))
