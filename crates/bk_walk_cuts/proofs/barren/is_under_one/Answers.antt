-- No member's word goes on by a move of one square under just one.
use Rattle.std.proofs.Common.{ap, arith, sym, ◌∙◌}
use Rattle.std.proofs.lemmas.Bool.{eqb-true}
use Rattle.bk_word.specs.Word.{Move}
use Rattle.bk_walk_cuts.proofs.CutLaws.{single_cut}
use Rattle.bk_walk_cuts.proofs.barren.is_under_one.Goals as goal

pub returns-then-m-eq1 : goal.returns-then-m-eq1
returns-then-m-eq1 c one n class = single_cut n class c.args.skel.now c.args.m.now
    (sym (ap (λ (m : Move). m.count) c.m.view_is) ∙ omega (arith, c.if-m-eq1.true)) (sym c.valley_len.ensures ∙ eqb-true _ _ one)
