-- What is laid in a width of 33: the groups of the rectangle 33x32, one that does not fit, and squares that leave a hole.
use Rattle.std.proofs.Common.{[], arith, count_by, lit<, lit≤, nat_eq, refl, ℕ, ◌<◌, ◌∷◌, ◌≡◌}
use Rattle.std.proofs.lemmas.Bool.{eqb-true}
use Rattle.bk_laws.proofs.Tests.{all_below, each_below}
use Rattle.bk_tiling.proofs.ExampleTilings.{rectangle_33x32, square_at}
use Rattle.bk_tiling.proofs.TilingTest.{tiling_from_test}
use Rattle.bk_tiling.specs.Column.{depth}
use Rattle.bk_tiling.specs.Tiling.{covers}
use Rattle.bk_code.specs.Code.{code_of}
use Rattle.bk_profile.proofs.GapExamples.{all_laid, one_group, segment, two_groups}
use Rattle.bk_profile.proofs.GapTest.{by_tests}
use Rattle.bk_profile.specs.Laid.{IsLaidOut, IsLaidTiling, IsProfile, Laid, LaysGroup, MisfitsGap}

-- the width with the group 18, 15 laid in it
abbrev after_first : Laid
after_first = record { width = 33; squares = one_group }

-- it can be a `Profile`: each cell above the depths lies in one of the two squares
profile_first : IsProfile after_first
profile_first = record { some = lit< tt; narrow = lit≤ tt; few = lit≤ tt; filled = filled }
  where
    filled : (c j : ℕ) → c < 33 → j < depth one_group c → count_by (covers c j) one_group ≡ 1
    filled c j within high = eqb-true (count_by (covers c j) one_group) 1
        (each_below (λ j. nat_eq (count_by (covers c j) one_group) 1) (depth one_group c)
        (each_below (λ c. all_below (λ j. nat_eq (count_by (covers c j) one_group) 1) (depth one_group c)) 33 refl c within) j high)

-- squares with a free cell over them cannot
no_profile_over_hole : IsProfile (record { width = 1; squares = square_at 0 1 1 ∷ [] }) → ⊥
no_profile_over_hole p = let one : 0 ≡ 1 = p.filled 0 0 (lit< tt) (lit< tt) in omega (arith, one)

-- the group 7, 8 is laid into the gap of 15 columns
seven_eight_laid : LaysGroup after_first (7 ∷ 8 ∷ []) (record { width = 33; squares = two_groups })
seven_eight_laid = record { gap = segment 18 15 15; is_gap = by_tests _ _ _ refl refl refl refl refl refl; fits = refl; laid = refl }

-- and 7, 9, of sum 16, is not
seven_nine_misfit : MisfitsGap after_first (7 ∷ 9 ∷ []) 15 16
seven_nine_misfit = record {
  gap = segment 18 15 15;
  is_gap = by_tests _ _ _ refl refl refl refl refl refl;
  width = refl;
  total_is = refl;
  misfit = λ fits. omega (arith, fits);
}

-- the five groups of the rectangle, laid one after another
abbrev after_last : Laid
after_last = record { width = 33; squares = rectangle_33x32.squares }

all_laid_out : IsLaidOut after_last
all_laid_out = record {
  code = code_of rectangle_33x32;
  kept = record {
    groups = (
      (lit< tt, ((lit< tt, lit≤ tt), ((lit< tt, lit≤ tt), tt))),
      (
        (lit< tt, ((lit< tt, lit≤ tt), ((lit< tt, lit≤ tt), tt))),
        (
          (lit< tt, ((lit< tt, lit≤ tt), ((lit< tt, lit≤ tt), tt))),
          ((lit< tt, ((lit< tt, lit≤ tt), ((lit< tt, lit≤ tt), tt))), ((lit< tt, ((lit< tt, lit≤ tt), tt)), tt)),
        ),
      ),
    );
    few = lit≤ tt;
  };
  some = lit< tt;
  lays = all_laid;
}

-- the tiling is what is laid then
tiling_laid : IsLaidTiling after_last rectangle_33x32
tiling_laid = record { tiling = tiling_from_test rectangle_33x32 refl; width_is = refl; squares_are = refl }
