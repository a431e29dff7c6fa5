-- Tallies go on place by place, and a seed and a count have one line.
use Rattle.std.specs.Prelude.{List}
use Rattle.std.proofs.Common.{ap, arith, subst, suc, sym, zero, ℕ, ◌*◌, ◌+◌, ◌∙◌, ◌≡◌, ◌≤◌}
use Rattle.bk_tiling.specs.Tiling.{Tiling, order}
use Rattle.bk_simple.specs.Simple.{IsPerfect, IsSimple}
use Rattle.bk_gen.proofs.SampleLaws.{sample_kept}
use Rattle.bk_report.specs.Trial.{trial_line}
use Rattle.bk_report.specs.declared.trial.TrialCounts.{TrialCounts}
use Rattle.bk_gen.specs.Counting.{CountsOn}
use Rattle.bk_gen.specs.TrialLine.{IsTrialTally, IsTrialLine, squares_below, tiling_at}
use Rattle.bk_gen.proofs.Counted.{no_more_than, property_holds_at_one_number_of_places}

squares_few : (seed n : ℕ) → squares_below seed n ≤ n * 200
squares_few seed zero = omega arith
squares_few seed (suc n) = omega (arith, squares_few seed n, (sample_kept seed n).few)

-- no count passes 200 for each place
pub record AreFew (n : ℕ) (counts : TrialCounts) : Type 0 where
  pub accepted : counts.accepted ≤ n
  pub perfect : counts.perfect ≤ n
  pub simple : counts.simple ≤ n
  pub squares : counts.squares ≤ n * 200

-- the counts of a tally are at most what so many trial codes can have
pub tally_few : (seed n : ℕ) (counts : TrialCounts) → IsTrialTally seed n counts → AreFew n counts
tally_few seed n counts tally = record {
  accepted = omega (arith, tally.all_accepted);
  perfect = no_more_than (λ k. IsPerfect (tiling_at seed k)) n counts.perfect tally.perfects;
  simple = no_more_than (λ k. IsSimple (tiling_at seed k)) n counts.simple tally.simples;
  squares = omega (arith, tally.together, squares_few seed n);
}

-- a further tiling is counted
pub record IsCounted (t : Tiling) (before after : TrialCounts) : Type 0 where
  pub accepted : after.accepted ≡ before.accepted + 1
  pub perfect : CountsOn (IsPerfect t) before.perfect after.perfect
  pub simple : CountsOn (IsSimple t) before.simple after.simple
  pub squares : after.squares ≡ before.squares + order t

-- a tally with the next trial code counted is a tally of one place more
pub tally_more : (seed n : ℕ) (before after : TrialCounts) (t : Tiling) → t ≡ tiling_at seed n → IsTrialTally seed n before → IsCounted t before after
    → IsTrialTally seed (n + 1) after
tally_more seed n before after t same tally counted = subst (λ (m : ℕ). IsTrialTally seed m after) (omega arith) more
  where
    is : IsCounted (tiling_at seed n) before after
    is = subst (λ (u : Tiling). IsCounted u before after) same counted

    more : IsTrialTally seed (suc n) after
    more = record {
      all_accepted = omega (arith, tally.all_accepted, is.accepted);
      perfects = (before.perfect, tally.perfects, is.perfect);
      simples = (before.simple, tally.simples, is.simple);
      together = omega (arith, is.squares, tally.together);
    }

-- a seed and a count have one tally
one_tally : (seed n : ℕ) (c d : TrialCounts) → IsTrialTally seed n c → IsTrialTally seed n d → c ≡ d
one_tally seed n c d a b =
    let accepted : c.accepted ≡ d.accepted = a.all_accepted ∙ sym b.all_accepted in
    let perfects : c.perfect ≡ d.perfect = property_holds_at_one_number_of_places
    (λ k. IsPerfect (tiling_at seed k)) n c.perfect d.perfect a.perfects b.perfects in
    let simples : c.simple ≡ d.simple = property_holds_at_one_number_of_places (λ k. IsSimple (tiling_at seed k)) n c.simple d.simple a.simples b.simples in
    let squares : c.squares ≡ d.squares = a.together ∙ sym b.together in
    λ z. record { accepted = accepted z; perfect = perfects z; simple = simples z; squares = squares z }

-- a seed and a count have one trial line
pub one_line : (seed n : ℕ) (line other : List ℕ) → IsTrialLine seed n line → IsTrialLine seed n other → line ≡ other
one_line seed n line other a b = a.text ∙ ap (trial_line seed n) (one_tally seed n a.counts b.counts a.tally b.tally) ∙ sym b.text
