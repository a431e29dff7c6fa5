use Rattle.std.proofs.Common.{ap, arith, refl, subst, sym}
use Rattle.std.proofs.lemmas.Bool.{true≢false}
use Rattle.bk_lay.proofs.LaidMoveLaws.{laid_at_end}
use Rattle.bk_lay.specs.LaidMoves.{IsLaidTo}
use Rattle.bk_lay.specs.declared.outline.Outline.{Outline}
use Rattle.bk_lay.proofs.laying.Laying.next_in.Goals as goal

pub returns-then-self-height-clause-last : goal.returns-then-self-height-clause-last
returns-then-self-height-clause-last c _ w to = laid_at_end c.args.tiling.now c.height.ensures.kept w c.args.self.now to
    (omega (arith, c.height.ensures.value, c.if-self-height.true, ap (λ (o : Outline). o.valley.level) c.self.view_is))

pub returns-then-self-height-clause-next : goal.returns-then-self-height-clause-next
returns-then-self-height-clause-next c = λ e _ _. absurd (true≢false (sym e))

pub returns-then-self-height-clause-same : goal.returns-then-self-height-clause-same
returns-then-self-height-clause-same c = λ _. refl

pub lay_next-requires-clause-going : goal.lay_next-requires-clause-going
lay_next-requires-clause-going c = (
  c.requires.0,
  subst (λ (o : Outline). IsLaidTo c.args.tiling.now c.requires.0 o) (sym c.self.view_is) c.requires.1,
)

pub lay_next-requires-clause-low : goal.lay_next-requires-clause-low
lay_next-requires-clause-low c = omega (arith, c.if-self-height.false, c.height.ensures.value)

pub returns-clause-next : goal.returns-clause-next
returns-clause-next c _ w to = c.lay_next.ensures w (subst (λ (o : Outline). IsLaidTo c.args.tiling.now w o) (sym c.self.view_is) to)

pub returns-clause-last : goal.returns-clause-last
returns-clause-last c = λ e _ _. absurd (true≢false e)

pub returns-clause-same : goal.returns-clause-same
returns-clause-same c = λ e. absurd (true≢false e)
