use Rattle.std.proofs.Common.{List, None, Option, Some, ap, arith, length, refl, ℕ, ◌++◌, ◌∙◌}
use Rattle.std.specs.Prelude.{IfSome, IsNone, MatchOption, option_map, ◌↔◌}
use Rattle.bk_tiling.specs.Tiling.{Tiling}
use Rattle.bk_simple.specs.Border.{rectangle_of}
use Rattle.bk_simple.specs.Simple.{IsFirstPart, IsLeastRepeated, IsPerfect, IsSimple}
use Rattle.bk_simple.specs.declared.SubRect.{SubRect}
use Rattle.bk_report.specs.Answers.{verdict_line}
use Rattle.bk_report.proofs.answer.write_check.Goals as goal

side_verdict : (t : Tiling) (side : Option ℕ) → (IsNone side ↔ IsPerfect t) → IfSome side (IsLeastRepeated t)
    → MatchOption side (IsPerfect t) (IsLeastRepeated t)
side_verdict t None none some = none.0 refl
side_verdict t (Some side) none some = some

part_verdict : (t : Tiling) (part : Option SubRect) → (IsNone part ↔ IsSimple t) → IfSome part (λ r. IsFirstPart t (rectangle_of r))
    → MatchOption (option_map rectangle_of part) (IsSimple t) (IsFirstPart t)
part_verdict t None none some = none.0 refl
part_verdict t (Some r) none some = some

pub clear-requires : goal.clear-requires
clear-requires c = omega arith

pub push_verdicts-requires : goal.push_verdicts-requires
push_verdicts-requires c = omega (arith, ap length c.clear.ensures)

pub returns : goal.returns
returns c =
    let part = option_map rectangle_of c.part.result in
    record {
      repeated = c.repeated.result;
      part = part;
      perfect = side_verdict c.args.tiling.now c.repeated.result c.repeated.ensures.perfect c.repeated.ensures.least;
      simple = part_verdict c.args.tiling.now c.part.result c.part.ensures.simple c.part.ensures.first;
      text = c.push_verdicts.ensures ∙ ap (λ (l : List ℕ). l ++ verdict_line c.args.tiling.now c.repeated.result part) c.clear.ensures;
    }
