use Rattle.std.proofs.Common.{List, ap, subst, sym, ◌∙◌, ◌≡◌}
use Rattle.bk_word.specs.Play.{outline_of}
use Rattle.bk_forms.specs.Form.{Form as SeenForm}
use Rattle.bk_walk_cuts.specs.FormCuts.{IsCutByLevels}
use Rattle.bk_walk_cuts.specs.SideForms.{levels_along}
use Rattle.bk_walk_cuts.specs.SidesOfTilings.{MeetsMove}
use Rattle.bk_walk_cuts.specs.Trace.{Trace}
use Rattle.bk_walk_cuts.proofs.RuledOut.{ruled_out}
use Rattle.bk_walk_cuts.proofs.SmallForms.{few_small}
use Rattle.bk_walk_cuts.proofs.Traces.{hold_all}
use Rattle.bk_walk_cuts.proofs.tracing.Tracing.would_rule_out.Goals as goal

levels_are : (c : goal.After-is_refused) → c.as_slice-2.result.now ≡ levels_along (outline_of c.args.skel.now) c.args.m.now c.args.self.now.bottoms
levels_are c = c.as_slice-2.ensures.value ∙ c.levels_along-levels.ensures
    ∙ ap (levels_along (outline_of c.args.skel.now) c.args.m.now) (c.as_slice.ensures.value ∙ ap (λ (t : Trace). t.bottoms) c.self.view_is)

kept_is : (c : goal.After-is_refused) → c.copy-ledger.result ≡ c.args.self.now.kept
kept_is c = c.copy-ledger.ensures ∙ ap (λ (t : Trace). t.kept) c.self.view_is

pub returns : goal.returns
returns c = record {
  sound = λ yes. ruled_out c.args.skel.now c.args.m.now c.args.class c.args.self.now.kept c.args.self.now.bottoms
      (hold_all c.args.skel.now c.args.self.now c.requires.trace (c.follows.ensures.all c.if-not-follows.false))
      (c.follows.ensures.few c.if-not-follows.false)
      (λ sides asked. c.is_refused.ensures.sound yes sides
      (subst (λ (ks : List SeenForm). MeetsMove c.args.skel.now c.args.m.now ks c.as_slice-2.result.now sides) (sym (kept_is c))
      (subst (λ (ls : List SeenForm). MeetsMove c.args.skel.now c.args.m.now c.args.self.now.kept ls sides) (sym (levels_are c)) asked)));
  few = λ _. c.follows.ensures.few c.if-not-follows.false;
  all = λ _ _ cut. c.is_refused.ensures.all
      (subst (λ (ks : List SeenForm). IsCutByLevels c.args.class c.args.skel.now c.args.m.now ks c.as_slice-2.result.now) (sym (kept_is c))
      (subst (IsCutByLevels c.args.class c.args.skel.now c.args.m.now c.args.self.now.kept) (sym (levels_are c)) cut));
}

pub levels_along-levels-requires-clause-few : goal.levels_along-levels-requires-clause-few
levels_along-levels-requires-clause-few c = c.follows.ensures.few c.if-not-follows.false

pub levels_along-levels-requires-clause-bottoms : goal.levels_along-levels-requires-clause-bottoms
levels_along-levels-requires-clause-bottoms c =
    few_small c.requires.trace (c.as_slice.ensures.value ∙ ap (λ (t : Trace). t.bottoms) c.self.view_is)
