use Rattle.std.proofs.Common.{Some, [], ap, arith, sym, ◌++◌, ◌∙◌, ◌∷◌, lit<, refl, true≢false}
use Rattle.bk_catalogue.proofs.TreeOfWords.LastSigns.{after_above, after_even, after_under}
use Rattle.bk_catalogue.specs.NextMove.{signs_after}
use Rattle.bk_walk_cuts.proofs.moves.raise.Goals as goal

pub returns-in-Above-clause-raised : goal.returns-in-Above-clause-raised
returns-in-Above-clause-raised c _ =
    c.signs.invariant.same ∙ ap signs_after (c.in-Some.ensures.items ∙ ap (λ s. c.pop.new.self.items ++ s ∷ []) c.in-Above.is)
    ∙ after_above c.pop.new.self.items ∙ ap (λ l. Some l) (sym c.push.ensures.items)

pub returns-in-Even-clause-raised : goal.returns-in-Even-clause-raised
returns-in-Even-clause-raised c _ =
    c.signs.invariant.same ∙ ap signs_after (c.in-Some.ensures.items ∙ ap (λ s. c.pop.new.self.items ++ s ∷ []) c.in-Even.is)
    ∙ after_even c.pop.new.self.items ∙ ap (λ l. Some l) (sym c.push-in-Even.ensures.items)

pub signs-preserved : goal.signs-preserved
signs-preserved c = record {
  same = c.signs.invariant.same ∙ ap signs_after (c.in-Some.ensures.items ∙ ap (λ s. c.pop.new.self.items ++ s ∷ []) c.in-Under.is)
      ∙ after_under c.pop.new.self.items;
  few = let l = c.in-Some.ensures.len in omega arith;
}

pub signs-init : goal.signs-init
signs-init c = record { same = refl; few = c.requires }

pub pop-requires : goal.pop-requires
pop-requires c = lit< tt

pub returns-in-Above-clause-none : goal.returns-in-Above-clause-none
returns-in-Above-clause-none c e = absurd (true≢false e)

pub returns-in-Above-clause-empty : goal.returns-in-Above-clause-empty
returns-in-Above-clause-empty c e = absurd (true≢false e)

pub returns-in-Even-clause-none : goal.returns-in-Even-clause-none
returns-in-Even-clause-none c e = absurd (true≢false e)

pub returns-in-Even-clause-empty : goal.returns-in-Even-clause-empty
returns-in-Even-clause-empty c e = absurd (true≢false e)

pub returns-clause-raised : goal.returns-clause-raised
returns-clause-raised c e = absurd (true≢false (sym e))

pub push-requires : goal.push-requires
push-requires c = (lit< tt, omega (arith, c.signs.invariant.few, c.in-Some.ensures.len))

pub push-requires-in-Even : goal.push-requires-in-Even
push-requires-in-Even c = (lit< tt, omega (arith, c.signs.invariant.few, c.in-Some.ensures.len))

pub signs-smaller : goal.signs-smaller
signs-smaller c = omega (arith, c.in-Some.ensures.len)
