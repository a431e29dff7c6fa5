-- A test of level columns, by which a segment of an example is shown to be level by computation.
use Rattle.std.proofs.Common.{List, ap, arith, nat_eq, nat_le, nat_lt, sym, true, ℕ, ◌+◌, ◌-◌, ◌∙◌, ◌≡◌}
use Rattle.std.proofs.lemmas.Bool.{eqb-true, leb-true, ltb-true}
use Rattle.bk_laws.proofs.Tests.{all_below, each_below}
use Rattle.bk_tiling.specs.Column.{IsLevel, depth}
use Rattle.bk_tiling.specs.declared.Segment.{Segment}
use Rattle.bk_tiling.specs.declared.Square.{Square}

-- a segment whose columns pass the tests is level
pub level_from_tests : (width : ℕ) (laid : List Square) (v : Segment) → nat_lt 0 v.width ≡ true → nat_le (v.x + v.width) width ≡ true
    → all_below (λ k. nat_eq (depth laid (v.x + k)) v.level) v.width ≡ true → IsLevel width laid v
level_from_tests width laid v some within level = record {
  some = ltb-true 0 v.width some;
  within = leb-true (v.x + v.width) width within;
  level = λ c low high. let e : v.x + (c - v.x) ≡ c = omega arith in
      sym (ap (depth laid) e)
      ∙ eqb-true (depth laid (v.x + (c - v.x))) v.level (each_below (λ k. nat_eq (depth laid (v.x + k)) v.level) v.width level (c - v.x)
      (omega arith));
}
