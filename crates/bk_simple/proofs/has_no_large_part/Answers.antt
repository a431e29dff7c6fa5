use Rattle.std.specs.Prelude.{refl, ◌≡◌, ◌⊎◌}
use Rattle.std.proofs.Common.{arith, inl, inr, subst, sym}
use Rattle.std.proofs.lemmas.Bool.{cases_eq}
use Rattle.bk_simple.specs.LargeParts.{HasNoneWider}
use Rattle.bk_simple.specs.Simple.{top_left}
use Rattle.bk_simple.proofs.Parts.{top_left_below}
use Rattle.bk_simple.proofs.has_no_large_part.Goals as goal

pub loop-i-preserved : goal.loop-i-preserved
loop-i-preserved c k low = cases (cases_eq k c.loop-i.i)
  where
    cases : (k ≡ c.loop-i.i) ⊎ (k ≡ c.loop-i.i → ⊥) → HasNoneWider c.args.tiling.now k
    cases (inl e) = subst (HasNoneWider c.args.tiling.now) (sym e) (c.has_none_past.ensures c.if-not-has_none_past.false)
    cases (inr e) = c.loop-i.invariant k (omega (arith, low, e))

pub returns-clause-none : goal.returns-clause-none
returns-clause-none c is r part wide high =
    let low = top_left_below c.args.tiling.now r c.order-i-end.ensures.kept.tiling part in
    c.loop-i.invariant (top_left c.args.tiling.now r) (omega (arith, low, c.loop-i-test.false, c.order-i-end.ensures.value)) r part refl wide
