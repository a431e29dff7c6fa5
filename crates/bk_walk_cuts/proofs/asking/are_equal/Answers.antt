use Rattle.std.proofs.Common.{ap, sym, ◌∙◌}
use Rattle.bk_word.specs.declared.Sign.TheVariants.{Even}
use Rattle.bk_forms.specs.LedgerAnswer.{compared_as}
use Rattle.bk_forms.specs.Form.{Form as SeenForm, form_value, with_column}
use Rattle.bk_forms.specs.Reduction.{comparison}
use Rattle.bk_walk_cuts.proofs.Asked.{equal_sides}
use Rattle.bk_walk_cuts.proofs.asking.are_equal.Goals as goal

pub returns : goal.returns
returns c =
    let side = c.plus_side-side.ensures ∙ ap (λ (f : SeenForm). with_column f c.args.i) c.zero.ensures in
    let other = c.plus_side-other.ensures ∙ ap (λ (f : SeenForm). with_column f c.args.j) c.zero-2.ensures in
    record {
      sound = λ yes sides meets. equal_sides sides c.args.i c.args.j meets.long c.requires.first c.requires.second
          (sym (ap (λ (f : SeenForm). form_value f sides) side) ∙ c.compare.ensures.known Even (c.is_even.ensures.0 yes) sides meets
          ∙ ap (λ (f : SeenForm). form_value f sides) other);
      all = λ known. c.is_even.ensures.1 (c.compare.ensures.answer
          ∙ ap compared_as ((λ k. comparison c.args.ledger.now (side k) (other k)) ∙ known));
    }
