use Rattle.std.proofs.Common.{Bool, List, ap, length, refl, subst, sym, true≢false, ◌∙◌}
use Rattle.bk_laws.proofs.Truth.{absurd-of_true_and_false}
use Rattle.bk_forms.specs.Form.{Form as SeenForm}
use Rattle.bk_walk_cuts.proofs.Asked.{keeps_trans}
use Rattle.bk_walk_cuts.specs.KnownSides.{Answers}
use Rattle.bk_walk_cuts.specs.FormCuts.{LevelsContradict, kept_by_signs}
use Rattle.bk_walk_cuts.proofs.asking.contradicts.Goals as goal

pub returns-then-contradicts_widths : goal.returns-then-contradicts_widths
returns-then-contradicts_widths c = record {
  meets = λ sides meets widths agree. subst (λ (b : Bool). Answers c.contradicts_widths.new.ledger sides b) c.if-contradicts_widths.true
      (c.contradicts_widths.ensures.meets sides meets widths);
  first = c.contradicts_widths.ensures.first;
  kept = λ no. absurd (true≢false no);
  widths = λ told. refl;
  levels = λ told. refl;
}

pub returns : goal.returns
returns c = record {
  meets = λ sides meets widths agree. c.contradicts_signs.ensures.meets sides (c.contradicts_widths.ensures.meets sides meets widths).meets agree;
  first = keeps_trans c.args.ledger.now c.contradicts_widths.new.ledger c.contradicts_signs.new.ledger c.contradicts_widths.ensures.first
      c.contradicts_signs.ensures.first;
  kept = λ no. c.contradicts_signs.ensures.kept no
      ∙ ap (λ (k : List SeenForm). kept_by_signs k c.args.levels.now c.args.signs.now (length c.args.signs.now)) c.contradicts_widths.ensures.kept;
  widths = λ told. absurd (absurd-of_true_and_false c.contradicts_widths.result (c.contradicts_widths.ensures.all told) c.if-contradicts_widths.false);
  levels = λ told. c.contradicts_signs.ensures.all
      (subst (λ (k : List SeenForm). LevelsContradict k c.args.levels.now c.args.signs.now) (sym c.contradicts_widths.ensures.kept) told);
}
