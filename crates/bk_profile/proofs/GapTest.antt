-- A test of a gap, by which the gap of an example is shown by computation.
use Rattle.std.proofs.Common.{List, arith, nat_eq, nat_le, nat_lt, not, true, ℕ, ◌+◌, ◌<◌, ◌||◌, ◌≡◌}
use Rattle.std.proofs.lemmas.Bool.Decides.{nat_tests}
use Rattle.std.proofs.lemmas.Bool.{leb-true, ltb-true}
use Rattle.bk_laws.proofs.Tests.{after_of, all_below, each_below}
use Rattle.bk_tiling.proofs.LevelTest.{level_from_tests}
use Rattle.bk_tiling.specs.Column.{IsLevel, depth}
use Rattle.bk_tiling.specs.declared.Segment.{Segment}
use Rattle.bk_tiling.specs.declared.Square.{Square}
use Rattle.bk_profile.specs.Gap.{IsGap}

-- the segment is the gap
pub record PassesAsGap (width : ℕ) (laid : List Square) (v : Segment) : Type 0 where
  pub some : nat_lt 0 v.width ≡ true
  pub within : nat_le (v.x + v.width) width ≡ true
  pub level : all_below (λ k. nat_eq (depth laid (v.x + k)) v.level) v.width ≡ true
  pub least : all_below (λ c. nat_le v.level (depth laid c)) width ≡ true
  pub before : all_below (λ c. nat_lt v.level (depth laid c)) v.x ≡ true
  pub after : not (nat_lt (v.x + v.width) width) || nat_lt v.level (depth laid (v.x + v.width)) ≡ true

-- what passes the test is the gap
pub passes_as_gap : (width : ℕ) (laid : List Square) (v : Segment) → PassesAsGap width laid v → IsGap width laid v
passes_as_gap width laid v p = record {
  flat = flat;
  least = λ c h. leb-true v.level (depth laid c) (each_below (λ c. nat_le v.level (depth laid c)) width p.least c h);
  leftmost = λ c h. ltb-true v.level (depth laid c) (each_below (λ c. nat_lt v.level (depth laid c)) v.x p.before c h);
  ends = λ h. ltb-true v.level (depth laid (v.x + v.width))
      (after_of (nat_lt (v.x + v.width) width) (nat_lt v.level (depth laid (v.x + v.width))) p.after (end h));
}
  where
    end : v.x + v.width < width → nat_lt (v.x + v.width) width ≡ true
    end h = grind (arith, nat_tests)

    flat : IsLevel width laid v
    flat = level_from_tests width laid v p.some p.within p.level

-- the test by its six parts, each computed
abbrev pub by_tests : (width : ℕ) (laid : List Square) (v : Segment) → nat_lt 0 v.width ≡ true → nat_le (v.x + v.width) width ≡ true
    → all_below (λ k. nat_eq (depth laid (v.x + k)) v.level) v.width ≡ true
    → all_below (λ c. nat_le v.level (depth laid c)) width ≡ true → all_below (λ c. nat_lt v.level (depth laid c)) v.x ≡ true
    → not (nat_lt (v.x + v.width) width) || nat_lt v.level (depth laid (v.x + v.width)) ≡ true → IsGap width laid v
by_tests width laid v a b c d e f = passes_as_gap width laid v (record { some = a; within = b; level = c; least = d; before = e; after = f })
