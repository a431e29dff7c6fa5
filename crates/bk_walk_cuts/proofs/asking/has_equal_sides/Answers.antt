use Rattle.std.proofs.Common.{arith, inl, inr, subst, ℕ, ◌≡◌}
use Rattle.std.proofs.lemmas.Bool.{cases_lt}
use Rattle.bk_laws.proofs.Truth.{absurd-of_true_and_false}
use Rattle.bk_walk_cuts.specs.KnownSides.{AreKnownEqual}
use Rattle.bk_walk_cuts.proofs.asking.has_equal_sides.Goals as goal

pub loop-i-preserved : goal.loop-i-preserved
loop-i-preserved c = λ k j low high known. elim (cases_lt k c.loop-i.i) [
  | inl h ↦ c.loop-i.invariant k j low h known
  | inr h ↦
      let same : k ≡ c.loop-i.i = omega (arith, high, h) in
      absurd-of_true_and_false c.equals_one_before.result
      (c.equals_one_before.ensures.all j (omega (arith, low, same)) (subst (λ (n : ℕ). AreKnownEqual c.args.ledger.now n j) same known))
      c.if-equals_one_before.false
]

pub returns-clause-all : goal.returns-clause-all
returns-clause-all c equal =
    let within = equal.within in
    absurd (c.loop-i.invariant equal.second equal.first equal.order (omega (arith, within, c.loop-i-test.false)) equal.equal)
