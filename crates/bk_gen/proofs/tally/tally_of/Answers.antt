use Rattle.std.proofs.Common.{None, Some, arith, rules, subst, sym, ◌+◌, ◌≡◌}
use Rattle.bk_tiling.specs.Tiling.{Tiling}
use Rattle.bk_gen.specs.TrialLine.{IsTrialTally, tiling_at}
use Rattle.bk_gen.proofs.Tallies.{tally_few, tally_more}
use Rattle.bk_gen.proofs.tally.tally_of.Goals as goal
use Rattle.bk_gen.proofs.tally.tally_of.Goals.{in-Some, in_default}

pub count_tiling-requires-clause-perfect : goal.count_tiling-requires-clause-perfect
count_tiling-requires-clause-perfect c = omega (arith, (tally_few c.args.seed c.loop-k.k c.loop-k.counts c.loop-k.invariant).perfect)

pub count_tiling-requires-clause-simple : goal.count_tiling-requires-clause-simple
count_tiling-requires-clause-simple c = omega (arith, (tally_few c.args.seed c.loop-k.k c.loop-k.counts c.loop-k.invariant).simple)

pub count_tiling-requires-clause-squares : goal.count_tiling-requires-clause-squares
count_tiling-requires-clause-squares c = omega (arith, (tally_few c.args.seed c.loop-k.k c.loop-k.counts c.loop-k.invariant).squares)

same_tiling : (t u : Tiling) → Some t ≡ Some u → t ≡ u
same_tiling t u e = cc

never : (t : Tiling) → None ≡ Some t → ⊥
never t e = cc

pub loop-k-preserved : goal.loop-k-preserved
loop-k-preserved c = elim c.match-laid_again.branch [
  | in-Some w ↦ subst (IsTrialTally c.args.seed (c.loop-k.k + 1)) (sym w.counts-is)
      (tally_more c.args.seed c.loop-k.k c.loop-k.counts w.count_tiling.new.counts w.in-Some.tiling
      (same_tiling w.in-Some.tiling (tiling_at c.args.seed c.loop-k.k) w.in-Some.ensures.laid) c.loop-k.invariant
      (record {
        accepted = w.count_tiling.ensures.accepted;
        perfect = w.count_tiling.ensures.perfect;
        simple = w.count_tiling.ensures.simple;
        squares = w.count_tiling.ensures.squares;
      }))
  | in_default w ↦ absurd (never (tiling_at c.args.seed c.loop-k.k) w.in_default.ensures.laid)
]

pub loop-k-init : goal.loop-k-init
loop-k-init c = search rules

pub returns : goal.returns
returns c = search rules
