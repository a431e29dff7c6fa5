-- A move is passed over with those that begin with as many of its signs as are found.
use Rattle.std.proofs.Common.{arith, refl, subst, sym, true≢false}
use Rattle.bk_word.specs.Word.{Move}
use Rattle.bk_walk_cuts.proofs.CutLaws.{after_near, near_itself}
use Rattle.bk_walk_cuts.specs.MoveCuts.{GrowsByAtMostOne, IsCut}
use Rattle.bk_walk_cuts.proofs.barren.skip.Goals as goal

pub cut_front-requires-clause-legal : goal.cut_front-requires-clause-legal
cut_front-requires-clause-legal c = c.requires.legal

pub cut_front-requires-clause-small : goal.cut_front-requires-clause-small
cut_front-requires-clause-small c = c.requires.small

pub pass-requires-clause-count : goal.pass-requires-clause-count
pass-requires-clause-count c = omega (arith, c.requires.count)

pub pass-requires-clause-signs : goal.pass-requires-clause-signs
pass-requires-clause-signs c = c.requires.signs

pub returns-in-Some-clause-cut : goal.returns-in-Some-clause-cut
returns-in-Some-clause-cut c _ =
    subst (λ (next : Move). IsCut c.args.order c.args.class c.args.lined.now c.args.m.now next) (sym c.pass.ensures) c.in-Some.ensures

pub returns-in-Some-clause-near : goal.returns-in-Some-clause-near
returns-in-Some-clause-near c = subst (GrowsByAtMostOne c.args.m.now) (sym c.pass.ensures) (after_near c.in-Some.kept c.args.m.now)

pub returns-in-Some-clause-kept : goal.returns-in-Some-clause-kept
returns-in-Some-clause-kept c e = absurd (true≢false e)

pub returns-in-None-clause-cut : goal.returns-in-None-clause-cut
returns-in-None-clause-cut c e = absurd (true≢false (sym e))

pub returns-in-None-clause-near : goal.returns-in-None-clause-near
returns-in-None-clause-near c = near_itself c.args.m.now

pub returns-in-None-clause-kept : goal.returns-in-None-clause-kept
returns-in-None-clause-kept c _ = refl
