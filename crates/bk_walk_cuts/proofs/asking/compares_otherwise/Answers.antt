use Rattle.bk_laws.proofs.Truth.{absurd-of_true_and_false}
use Rattle.bk_word.specs.declared.Sign.TheVariants.{Above}
use Rattle.bk_walk_cuts.proofs.Asked.{agreed}
use Rattle.bk_walk_cuts.proofs.MoveAnswers.{other_left, other_more}
use Rattle.bk_walk_cuts.proofs.asking.compares_otherwise.Goals as goal

pub returns-then-is_known_otherwise-clause-sound : goal.returns-then-is_known_otherwise-clause-sound
returns-then-is_known_otherwise-clause-sound c = λ sides meets agree.
    absurd (absurd-of_true_and_false c.is_known_otherwise.result c.if-is_known_otherwise.true (c.is_known_otherwise.ensures.sound sides meets
    (agreed c.args.signs.now c.args.levels.now sides c.loop-i.i Above c.level_at.result c.level_at-in-loop-i.result agree c.loop-i-test.true
    c.level_at.ensures c.level_at-in-loop-i.ensures)))

pub loop-i-preserved : goal.loop-i-preserved
loop-i-preserved c = other_more c.args.levels.now c.args.signs.now c.loop-i.i Above c.level_at.result c.level_at-in-loop-i.result c.loop-i-test.true
    c.level_at.ensures c.level_at-in-loop-i.ensures c.args.ledger.now c.is_known_otherwise.result c.loop-i.invariant c.is_known_otherwise.ensures.all
    c.if-is_known_otherwise.false

pub returns-clause-all : goal.returns-clause-all
returns-clause-all c other = absurd (other_left c.args.ledger.now c.args.levels.now c.args.signs.now c.loop-i.i c.loop-i.invariant c.loop-i-test.false other)
