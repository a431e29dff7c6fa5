use Rattle.std.proofs.Common.{arith, drop, refl, rules, subst, ◌≡◌}
use Rattle.bk_tiling.specs.Tiling.{Tiling}
use Rattle.bk_sym.proofs.Greatest.{NoneGreater, at_most-refl, greatest_of_others}
use Rattle.bk_sym.specs.Turns.{turns}
use Rattle.bk_sym.proofs.is_greatest.Goals as goal

pub returns : goal.returns
returns c =
    let t : Tiling = c.args.tiling.now in
    let e : c.loop-turn.turn-index ≡ 7 = omega arith in (
      (λ _. greatest_of_others t t c.requires.tiling (at_most-refl t) (subst (λ k. NoneGreater t (drop 1 turns) k t) e c.loop-turn.invariant)),
      (λ _. refl),
    )

pub returns-then-not-is_image_at_most : goal.returns-then-not-is_image_at_most
returns-then-not-is_image_at_most c = search rules
