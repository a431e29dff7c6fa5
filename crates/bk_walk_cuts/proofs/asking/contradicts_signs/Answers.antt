use Rattle.std.proofs.Common.{Bool, ap, arith, length, subst, ◌∙◌, ◌≡◌}
use Rattle.bk_word.specs.declared.Sign.TheVariants.{Above}
use Rattle.bk_walk_cuts.proofs.Asked.{agreed, keeps_trans}
use Rattle.bk_walk_cuts.proofs.MoveAnswers.{kept_equations_with_one_sign_more, no_contradiction_where_none_of_all, none_contradicts_with_one_sign_more}
use Rattle.bk_walk_cuts.specs.KnownSides.{Answers}
use Rattle.bk_walk_cuts.specs.FormCuts.{kept_by_signs}
use Rattle.bk_walk_cuts.proofs.asking.contradicts_signs.Goals as goal

pub returns-then-contradicts_sign-clause-meets : goal.returns-then-contradicts_sign-clause-meets
returns-then-contradicts_sign-clause-meets c = λ sides meets agree. subst (λ (b : Bool). Answers c.contradicts_sign.new.ledger sides b)
    c.if-contradicts_sign.true
    (c.contradicts_sign.ensures.meets sides (c.loop-i.invariant.meets sides meets agree)
    (agreed c.args.signs.now c.args.levels.now sides c.loop-i.i Above c.level_at.result c.level_at-in-loop-i.result agree c.loop-i-test.true
    c.level_at.ensures c.level_at-in-loop-i.ensures))

pub returns-then-contradicts_sign-clause-first : goal.returns-then-contradicts_sign-clause-first
returns-then-contradicts_sign-clause-first c = keeps_trans c.args.ledger.now c.loop-i.ledger c.contradicts_sign.new.ledger c.loop-i.invariant.first
    c.contradicts_sign.ensures.first

pub loop-i-preserved : goal.loop-i-preserved
loop-i-preserved c = record {
  meets = λ sides meets agree. (c.contradicts_sign.ensures.meets sides (c.loop-i.invariant.meets sides meets agree)
      (agreed c.args.signs.now c.args.levels.now sides c.loop-i.i Above c.level_at.result c.level_at-in-loop-i.result agree c.loop-i-test.true
      c.level_at.ensures c.level_at-in-loop-i.ensures)).meets;
  first = keeps_trans c.args.ledger.now c.loop-i.ledger c.contradicts_sign.new.ledger c.loop-i.invariant.first c.contradicts_sign.ensures.first;
  kept = kept_equations_with_one_sign_more c.args.levels.now c.args.signs.now c.loop-i.i Above c.level_at.result c.level_at-in-loop-i.result c.loop-i-test.true
      c.level_at.ensures c.level_at-in-loop-i.ensures c.args.ledger.now c.loop-i.ledger c.contradicts_sign.new.ledger c.loop-i.invariant.kept
      c.contradicts_sign.ensures.kept;
  none = none_contradicts_with_one_sign_more c.args.levels.now c.args.signs.now c.loop-i.i Above c.level_at.result c.level_at-in-loop-i.result
      c.loop-i-test.true
      c.level_at.ensures c.level_at-in-loop-i.ensures c.args.ledger.now c.loop-i.ledger c.contradicts_sign.result c.loop-i.invariant.kept
      c.loop-i.invariant.none c.contradicts_sign.ensures.all c.if-contradicts_sign.false;
}

pub returns-clause-kept : goal.returns-clause-kept
returns-clause-kept c = λ _.
    let last : c.loop-i.i ≡ length c.args.signs.now = omega (arith, c.loop-i-test.false, c.loop-i.auto.i-end) in
    c.loop-i.invariant.kept ∙ ap (kept_by_signs c.args.ledger.now c.args.levels.now c.args.signs.now) last

pub returns-clause-all : goal.returns-clause-all
returns-clause-all c told =
    absurd (no_contradiction_where_none_of_all c.args.ledger.now c.args.levels.now c.args.signs.now c.loop-i.i c.loop-i.invariant.none c.loop-i-test.false told)
