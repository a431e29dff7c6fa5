-- The line of no trial codes, and a count.
use Rattle.std.specs.Fmt.{digits}
use Rattle.std.specs.Prelude.{codes}
use Rattle.std.proofs.Common.{[], arith, inl, inr, refl, ◌++◌, ◌≤◌, ◌∷◌}
use Rattle.bk_gen.specs.Counting.{HoldsAtSoMany}
use Rattle.bk_gen.specs.TrialLine.{IsTrialLine}

pub no_codes : IsTrialLine 0 0 (codes "trial seed 0 count 0 ok 0 perfect 0 simple 0 squares 0" ++ 10 ∷ [])
unfolding digits
no_codes = record {
  counts = record { accepted = 0; perfect = 0; simple = 0; squares = 0 };
  tally = record { all_accepted = refl; perfects = refl; simples = refl; together = refl };
  text = refl;
}

-- 0 is not 1 or more, and 1 is
pub one_of_two : HoldsAtSoMany (λ k. 1 ≤ k) 2 1
one_of_two = (0, (0, refl, inr ((λ h. omega (arith, h)), refl)), inl (omega arith, refl))
