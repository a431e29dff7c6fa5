-- What signs rule out, or else the sides of the first squares, no member's word goes on by.
use Rattle.std.proofs.Common.{IfSome, ap, arith, length, lit<, subst, sym}
use Rattle.bk_word.specs.Outline.{IsLegalMove}
use Rattle.bk_word.specs.Play.{outline_of}
use Rattle.bk_word.specs.Word.{Move, Word, order_of}
use Rattle.bk_walk_cuts.proofs.CutLaws.{one_cut}
use Rattle.bk_walk_cuts.specs.MoveCuts.{IsCut, passed}
use Rattle.bk_walk_cuts.proofs.barren.cut_front.Goals as goal

pub cut_by_signs-by_signs-requires-clause-legal : goal.cut_by_signs-by_signs-requires-clause-legal
cut_by_signs-by_signs-requires-clause-legal c = subst (λ (w : Word). IsLegalMove (outline_of w) c.args.m.now) (sym c.skel.ensures.value) c.requires.legal

pub cut_by_signs-by_signs-requires-clause-small : goal.cut_by_signs-by_signs-requires-clause-small
cut_by_signs-by_signs-requires-clause-small c = omega (arith, c.requires.small, ap order_of c.skel.ensures.value)

pub rules_out-requires : goal.rules_out-requires
rules_out-requires c = c.requires.legal

pub len-requires : goal.len-requires
len-requires c = lit< tt

pub returns-then-rules_out : goal.returns-then-rules_out
returns-then-rules_out c =
    subst (λ kept. IsCut c.args.order c.args.class c.args.lined.now c.args.m.now (passed kept c.args.m.now))
    (omega (arith, c.len.ensures.value, ap (λ (m : Move). length m.signs) c.m.view_is))
    (one_cut c.args.order c.args.class c.args.lined.now c.args.m.now c.requires.legal (c.rules_out.ensures c.if-rules_out.true c.args.order))

pub returns : goal.returns
returns c = subst (λ (w : Word). IfSome c.cut_by_signs-by_signs.result
    (λ kept. IsCut c.args.order c.args.class w c.args.m.now (passed kept c.args.m.now))) c.skel.ensures.value c.cut_by_signs-by_signs.ensures
