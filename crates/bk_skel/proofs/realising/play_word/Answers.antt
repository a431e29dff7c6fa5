use Rattle.std.proofs.Common.{arith}
use Rattle.std.proofs.lemmas.Bool.{both_ways}
use Rattle.bk_skel.proofs.PlayedWord.{first_illegal, played_few, played_first, played_last, played_more}
use Rattle.bk_skel.proofs.realising.play_word.Goals as goal

pub loop-i-init : goal.loop-i-init
loop-i-init c = played_first c.args.word.now c.clear.new.self c.clear.ensures

pub play-requires-clause-legal : goal.play-requires-clause-legal
play-requires-clause-legal c = c.legal.ensures.0 c.if-not-legal.false

pub play-requires-clause-few : goal.play-requires-clause-few
play-requires-clause-few c = let kept = c.moves-i-end.ensures.kept in omega
    (arith, played_few c.args.word.now c.loop-i.i c.loop-i.skel c.loop-i.invariant c.get-m.result c.get-m.ensures.value, kept.few)

pub loop-i-preserved : goal.loop-i-preserved
loop-i-preserved c = played_more c.args.word.now c.loop-i.i c.loop-i.skel c.loop-i.invariant c.get-m.result c.get-m.ensures.value
    (c.legal.ensures.0 c.if-not-legal.false) c.play.new.self c.play.ensures

pub returns-then-not-legal-clause-illegal : goal.returns-then-not-legal-clause-illegal
returns-then-not-legal-clause-illegal c = first_illegal c.args.word.now c.loop-i.i c.loop-i.skel c.loop-i.invariant c.get-m.result
    c.get-m.ensures.value (omega (arith, c.loop-i-test.true, c.moves-i-end.ensures.value))
    (λ l. both_ways c.legal.result c.if-not-legal.true (c.legal.ensures.1 l))

pub returns-clause-skeleton : goal.returns-clause-skeleton
returns-clause-skeleton c = (played_last c.args.word.now c.loop-i.i c.loop-i.skel c.loop-i.invariant
    (omega (arith, c.loop-i-test.false, c.moves-i-end.ensures.value))).0

pub returns-clause-legal : goal.returns-clause-legal
returns-clause-legal c = (played_last c.args.word.now c.loop-i.i c.loop-i.skel c.loop-i.invariant
    (omega (arith, c.loop-i-test.false, c.moves-i-end.ensures.value))).1
