use Rattle.std.proofs.Common.{List, [], arith, eqb-true, length, lit<, refl, sym, ℕ, ◌++◌, ◌∙◌, ◌∷◌, ◌≡◌}
use Rattle.std.proofs.lemmas.List.{length-take-le}
use Rattle.bk_ports.proofs.Fronts.{front-alone}
use Rattle.bk_ports.proofs.OneLine.{line_entered, line_stopped}
use Rattle.bk_ports.proofs.line.close_line.Goals as goal

-- nothing is kept
none_kept : (front : List ℕ) → length front ≡ 0 → front ≡ []
none_kept [] none = refl
none_kept (b ∷ front) none = absurd (omega (arith, none))

pub returns-then-is_empty-clause-entered : goal.returns-then-is_empty-clause-entered
returns-then-is_empty-clause-entered g c =
    let none : length c.args.kept.now.front.items ≡ 0 = eqb-true _ _ (sym c.is_empty.ensures ∙ c.if-is_empty.true) in
    line_entered (record { enters = g.R.Register.enters; may_want = g.R.Register.may_want }) c.args.register.now c.args.kept.now.number
    (c.args.kept.now.front.items ++ c.args.end.now) _ _ _
    (front-alone c.args.kept.now.front.items c.args.end.now c.min.result none c.min.ensures) c.enter_line.new.register c.enter_line.result
    c.enter_line.ensures.entered

pub returns-then-is_empty-clause-stopped : goal.returns-then-is_empty-clause-stopped
returns-then-is_empty-clause-stopped g c =
    let none : length c.args.kept.now.front.items ≡ 0 = eqb-true _ _ (sym c.is_empty.ensures ∙ c.if-is_empty.true) in
    line_stopped (record { enters = g.R.Register.enters; may_want = g.R.Register.may_want }) c.args.register.now c.args.kept.now.number
    (c.args.kept.now.front.items ++ c.args.end.now) _ _ _
    (front-alone c.args.kept.now.front.items c.args.end.now c.min.result none c.min.ensures) c.enter_line.result c.enter_line.ensures.stopped

pub returns-clause-entered : goal.returns-clause-entered
returns-clause-entered g c =
    line_entered (record { enters = g.R.Register.enters; may_want = g.R.Register.may_want }) c.args.register.now c.args.kept.now.number
    (c.args.kept.now.front.items ++ c.args.end.now) _ _ _
    (c.deref.ensures.0 ∙ c.keep.ensures) c.enter_line-entered.new.register c.enter_line-entered.result c.enter_line-entered.ensures.entered

pub returns-clause-stopped : goal.returns-clause-stopped
returns-clause-stopped g c =
    line_stopped (record { enters = g.R.Register.enters; may_want = g.R.Register.may_want }) c.args.register.now c.args.kept.now.number
    (c.args.kept.now.front.items ++ c.args.end.now) _ _ _
    (c.deref.ensures.0 ∙ c.keep.ensures) c.enter_line-entered.result c.enter_line-entered.ensures.stopped

pub enter_line-requires-clause-early : goal.enter_line-requires-clause-early
enter_line-requires-clause-early g c = c.requires.early

pub enter_line-requires-clause-ready : goal.enter_line-requires-clause-ready
enter_line-requires-clause-ready g c = c.requires.ready

pub enter_line-entered-requires-clause-early : goal.enter_line-entered-requires-clause-early
enter_line-entered-requires-clause-early g c = c.requires.early

pub enter_line-entered-requires-clause-ready : goal.enter_line-entered-requires-clause-ready
enter_line-entered-requires-clause-ready g c = c.requires.ready

pub returns-then-is_empty-clause-count : goal.returns-then-is_empty-clause-count
returns-then-is_empty-clause-count g c = c.enter_line.ensures.count

pub returns-then-is_empty-clause-ready : goal.returns-then-is_empty-clause-ready
returns-then-is_empty-clause-ready g c = c.enter_line.ensures.ready

pub returns-then-is_empty-clause-next : goal.returns-then-is_empty-clause-next
returns-then-is_empty-clause-next g c = refl

pub returns-clause-count : goal.returns-clause-count
returns-clause-count g c = c.enter_line-entered.ensures.count

pub returns-clause-ready : goal.returns-clause-ready
returns-clause-ready g c = c.enter_line-entered.ensures.ready

pub returns-clause-next : goal.returns-clause-next
returns-clause-next g c = refl

pub returns-clause-emptied : goal.returns-clause-emptied
returns-clause-emptied g c = c.clear.ensures

pub overflow_add-kept : goal.overflow_add-kept
overflow_add-kept g c = omega (arith, c.requires.early)

pub is_empty-requires : goal.is_empty-requires
is_empty-requires g c = lit< tt

pub slice_bounds-front-end : goal.slice_bounds-front-end
slice_bounds-front-end g c = sym (length-take-le c.min.result c.args.end.now (omega (arith, c.min.ensures)))

pub enter_line-requires-clause-short : goal.enter_line-requires-clause-short
enter_line-requires-clause-short g c =
    omega (arith, c.min.ensures, length-take-le c.min.result c.args.end.now (omega (arith, c.min.ensures)))

pub returns-then-is_empty-clause-emptied : goal.returns-then-is_empty-clause-emptied
returns-then-is_empty-clause-emptied g c = none_kept c.args.kept.now.front.items (eqb-true _ _ (sym c.is_empty.ensures ∙ c.if-is_empty.true))

pub deref-requires : goal.deref-requires
deref-requires g c = lit< tt

pub enter_line-entered-requires-clause-short : goal.enter_line-entered-requires-clause-short
enter_line-entered-requires-clause-short g c = c.deref.ensures.1

pub clear-requires : goal.clear-requires
clear-requires g c = lit< tt
