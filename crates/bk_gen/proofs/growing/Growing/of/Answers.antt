-- The squares that were given fit, and the rectangle has them.
use Rattle.std.proofs.Common.{List, ap, arith, lit<, subst, sym}
use Rattle.bk_tiling.specs.Tiling.{Tiling}
use Rattle.bk_tiling.specs.declared.Square.{Square}
use Rattle.bk_gen.specs.Growing.{IsGrowing}
use Rattle.bk_gen.proofs.growing.Growing.of.Goals as goal

pub try_from-requires : goal.try_from-requires
try_from-requires c = lit< tt

pub unreachable-requires : goal.unreachable-requires
unreachable-requires c = omega (arith, c.in_default.ensures, c.requires.accepted.few)

pub invariant_of-result : goal.invariant_of-result
invariant_of-result c = subst (λ (l : List Square). IsGrowing (record { width = c.args.width; height = c.args.height; squares = l }))
    (sym (c.in-Ok.ensures).0) c.requires

pub returns : goal.returns
returns c = ap {B = Tiling} (λ (l : List Square). record { width = c.args.width; height = c.args.height; squares = l }) (c.in-Ok.ensures).0
