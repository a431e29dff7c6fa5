use Rattle.std.proofs.Common.{arith, false, refl, subst, sym, true}
use Rattle.std.proofs.lemmas.Bool.{false≢true}
use Rattle.bk_word.specs.Word.{Word}
use Rattle.bk_lay.proofs.LaidMoveLaws.{move_comes_nearer}
use Rattle.bk_lay.specs.LaidMoves.{IsLaidTo}
use Rattle.bk_lay.proofs.laying.word_of.Goals as goal

pub next_in-requires : goal.next_in-requires
next_in-requires c = (c.moves.word, c.moves.invariant)

pub push-requires-clause-stands : goal.push-requires-clause-stands
push-requires-clause-stands c = (c.next_in.ensures.next c.moves-test.true c.moves.word c.moves.invariant).stands

pub push-requires-clause-few : goal.push-requires-clause-few
push-requires-clause-few c = omega (arith, c.begin.ensures.kept.few, (c.next_in.ensures.next c.moves-test.true c.moves.word c.moves.invariant).fits)

pub returns-in_err-push-clause-inline : goal.returns-in_err-push-clause-inline
returns-in_err-push-clause-inline c h =
    absurd (false≢true (c.in_err-push.ensures.inline (omega (arith, h, (c.next_in.ensures.next c.moves-test.true c.moves.word c.moves.invariant).fits))))

pub moves-smaller : goal.moves-smaller
moves-smaller c = move_comes_nearer c.args.tiling.now c.moves.word c.push.new.self c.next_in.new.self c.next_in.new.m
    (c.next_in.ensures.next c.moves-test.true c.moves.word c.moves.invariant) c.in_ok-push.ensures.ok

pub moves-preserved : goal.moves-preserved
moves-preserved c = subst (λ (w : Word). IsLaidTo c.args.tiling.now w c.next_in.new.self) (sym c.in_ok-push.ensures.ok)
    (c.next_in.ensures.next c.moves-test.true c.moves.word c.moves.invariant).to

pub returns-clause-word : goal.returns-clause-word
returns-clause-word c = c.next_in.ensures.last c.moves-test.false c.moves.word c.moves.invariant

pub moves-init : goal.moves-init
moves-init c = subst (λ (w : Word). IsLaidTo c.args.tiling.now w c.begin.new.self) (sym c.new-word.ensures) c.begin.ensures.laid

pub returns-clause-inline : goal.returns-clause-inline
returns-clause-inline c few = refl
