use Rattle.std.proofs.Common.{arith, refl, subst}
use Rattle.bk_word.specs.declared.Class.{Class}
use Rattle.bk_walk.proofs.FoundMembers.{FindsAll, met_nothing, met_placed, still_met}
use Rattle.bk_walk.proofs.finding.SeekerLeaves.meet.Goals as goal

pub class-requires : goal.class-requires
class-requires g c = omega (arith, g.N.fits)

pub placed_at-requires-clause-complete : goal.placed_at-requires-clause-complete
placed_at-requires-clause-complete g c = c.requires.complete

pub placed_at-requires-clause-few : goal.placed_at-requires-clause-few
placed_at-requires-clause-few g c = c.requires.few

pub meet_placed-requires : goal.meet_placed-requires
meet_placed-requires g c = omega (arith, g.N.fits)

pub returns-in-Some-clause-fixed : goal.returns-in-Some-clause-fixed
returns-in-Some-clause-fixed g c = c.meet_placed.ensures.fixed

pub returns-in_default-clause-kept : goal.returns-in_default-clause-kept
returns-in_default-clause-kept g c w met = met

pub returns-in_default-clause-fixed : goal.returns-in_default-clause-fixed
returns-in_default-clause-fixed g c = refl

pub returns-in-Some-clause-met : goal.returns-in-Some-clause-met
returns-in-Some-clause-met g c = met_placed c.args.board.now c.placed_at.result c.in-Some.placed c.args.self.now.finder c.meet_placed.new.self
    (subst (λ (k : Class). FindsAll c.args.board.now k c.placed_at.result) c.class.ensures c.placed_at.ensures) c.in-Some.is
    c.meet_placed.ensures.fixed c.meet_placed.ensures.put

pub returns-in-Some-clause-kept : goal.returns-in-Some-clause-kept
returns-in-Some-clause-kept g c = still_met c.args.self.now.finder c.meet_placed.new.self c.meet_placed.ensures.fixed c.meet_placed.ensures.kept

pub returns-in_default-clause-met : goal.returns-in_default-clause-met
returns-in_default-clause-met g c = met_nothing c.args.board.now c.placed_at.result c.args.self.now.finder
    (subst (λ (k : Class). FindsAll c.args.board.now k c.placed_at.result) c.class.ensures c.placed_at.ensures) c.in_default.is
