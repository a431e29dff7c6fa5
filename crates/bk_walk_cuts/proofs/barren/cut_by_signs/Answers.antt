-- Each cut by counts and signs is one.
use Rattle.std.proofs.Common.{ap, arith, length, lit<, subst}
use Rattle.std.proofs.lemmas.Option.{IfSome_then}
use Rattle.bk_word.specs.Word.{Move}
use Rattle.bk_walk_cuts.specs.MoveCuts.{IsCut, passed}
use Rattle.bk_walk_cuts.proofs.barren.cut_by_signs.Goals as goal

pub returns-then-is_some : goal.returns-then-is_some
returns-then-is_some c = c.cut_even-even.ensures

pub returns-then-is_under_one : goal.returns-then-is_under_one
returns-then-is_under_one c = c.is_under_one.ensures c.if-is_under_one.true c.args.order c.args.class

pub returns-then-is_shorter_first : goal.returns-then-is_shorter_first
returns-then-is_shorter_first c =
    subst (λ kept. IsCut c.args.order c.args.class c.args.skel.now c.args.m.now (passed kept c.args.m.now))
    (omega (arith, c.len.ensures.value, ap (λ (m : Move). length m.signs) c.m.view_is))
    (c.is_shorter_first.ensures c.if-is_shorter_first.true c.args.order c.args.class)

pub returns : goal.returns
returns c = IfSome_then c.cut_owing.result c.cut_owing.ensures (λ kept cut. cut c.args.class)

pub is_shorter_first-requires : goal.is_shorter_first-requires
is_shorter_first-requires c = c.requires.legal

pub len-requires : goal.len-requires
len-requires c = lit< tt

pub cut_owing-requires : goal.cut_owing-requires
cut_owing-requires c = c.requires.small
