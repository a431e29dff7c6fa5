-- Codes and flat lists that no tiling has, with the reason.
use Rattle.std.proofs.Common.{[], arith, nat_le, refl, ◌∷◌, ◌≡◌}
use Rattle.std.proofs.lemmas.Bool.{leb-true}
use Rattle.bk_laws.proofs.Tests.{each_below}
use Rattle.bk_tiling.specs.Column.{depth}
use Rattle.bk_profile.proofs.GapExamples.{first_gap, four_groups, fourth_does_not_fit, fourth_gap, lays_four, lays_three, one_group}
use Rattle.bk_profile.proofs.GapExamples.{second_gap, segment, ten_is_not_eleven, three_groups}
use Rattle.bk_profile.specs.Gap.{FitsGap}
use Rattle.bk_profile.specs.OutlineRuns.{run_start, runs_under_group}
use Rattle.bk_profile.specs.Refused.{EndsOpen, IsFlatRefused, Misfits, first_sum}
use Rattle.bk_profile.specs.declared.laying.Refusal.TheVariants.{Gap}

width-33x32 : first_sum ((18 ∷ 15 ∷ []) ∷ (7 ∷ 9 ∷ []) ∷ []) ≡ 33
width-33x32 = refl

not_sixteen : FitsGap (segment 18 15 15) (7 ∷ 9 ∷ []) → ⊥
not_sixteen h = omega arith

-- the second group, of sum 16, doesn't fit into its gap of 15 columns
pub second_does_not_fit : Misfits 33 ((18 ∷ 15 ∷ []) ∷ (7 ∷ 9 ∷ []) ∷ []) 2 15 16
second_does_not_fit = record {
  before = (18 ∷ 15 ∷ []) ∷ [];
  group = 7 ∷ 9 ∷ [];
  after = [];
  split = refl;
  place = refl;
  laid = one_group;
  lays = (segment 0 33 0, first_gap, refl, refl);
  gap = segment 18 15 15;
  is_gap = second_gap;
  gap_is = refl;
  total_is = refl;
  misfit = not_sixteen;
}

-- a flat list whose fourth group, all that is left, doesn't fit into its gap of 11 columns
pub seven_are_refused : IsFlatRefused 33 (18 ∷ 15 ∷ 7 ∷ 8 ∷ 14 ∷ 4 ∷ 10 ∷ []) (Gap 4 11 10)
seven_are_refused = record {
  code = (18 ∷ 15 ∷ []) ∷ (7 ∷ 8 ∷ []) ∷ (14 ∷ 4 ∷ []) ∷ (10 ∷ []) ∷ [];
  divided = fourth_does_not_fit;
  refused = record {
    before = (18 ∷ 15 ∷ []) ∷ (7 ∷ 8 ∷ []) ∷ (14 ∷ 4 ∷ []) ∷ [];
    group = 10 ∷ [];
    after = [];
    split = refl;
    place = refl;
    laid = three_groups;
    lays = lays_three;
    gap = segment 14 11 22;
    is_gap = fourth_gap;
    gap_is = refl;
    total_is = refl;
    misfit = ten_is_not_eleven;
  };
}

-- four groups of the 33x32 rectangle end between the depths 23 and 32
pub four_end_open : EndsOpen 33 ((18 ∷ 15 ∷ []) ∷ (7 ∷ 8 ∷ []) ∷ (14 ∷ 4 ∷ []) ∷ (10 ∷ 1 ∷ []) ∷ []) 23 32
four_end_open = record {
  laid = four_groups;
  lays = lays_four;
  uneven = record {
    least_is = record {
      column = 24;
      within = omega arith;
      there = refl;
      below =
          λ c h. leb-true 23 (depth four_groups c) (each_below (λ c. nat_le 23 (depth four_groups c)) 33 refl c h);
    };
    greatest_is = record {
      column = 0;
      within = omega arith;
      there = refl;
      above =
          λ c h. leb-true (depth four_groups c) 32 (each_below (λ c. nat_le (depth four_groups c) 32) 33 refl c h);
    };
    uneven = omega arith;
  };
}

-- the runs under the first group, and the column at which the second of them begins
pub runs_under_first : run_start (runs_under_group 0 (18 ∷ 15 ∷ [])) 1 ≡ 18
runs_under_first = refl
