use Rattle.std.proofs.Common.{subst, sym, true≢false, ◌∙◌}
use Rattle.bk_tree_walk.proofs.UnfitFlows.{none_unfit}
use Rattle.bk_tree_walk.specs.WholeWords.{IsUnfit}
use Rattle.bk_tree_walk.proofs.judging.fit_flow.Goals as goal

pub returns-then-is_unfit-clause-none : goal.returns-then-is_unfit-clause-none
returns-then-is_unfit-clause-none c = none_unfit c.args.skel.now c.args.class c.flow_of-flow.result.total c.flow_of-flow.result.currents
    c.requires.whole c.flow_of-flow.ensures (subst (IsUnfit c.args.class) c.currents.ensures.value (c.is_unfit.ensures.0 c.if-is_unfit.true))

pub flow_of-flow-requires-clause-closed : goal.flow_of-flow-requires-clause-closed
flow_of-flow-requires-clause-closed c = c.requires.whole

pub flow_of-flow-requires-clause-few : goal.flow_of-flow-requires-clause-few
flow_of-flow-requires-clause-few c = c.requires.few

pub returns-else-is_unfit-clause-flow : goal.returns-else-is_unfit-clause-flow
returns-else-is_unfit-clause-flow c = c.flow_of-flow.ensures

pub returns-else-is_unfit-clause-fit : goal.returns-else-is_unfit-clause-fit
returns-else-is_unfit-clause-fit c = λ unfit.
    true≢false (sym (c.is_unfit.ensures.1 (subst (IsUnfit c.args.class) (sym c.currents.ensures.value) unfit)) ∙ c.if-is_unfit.false)
