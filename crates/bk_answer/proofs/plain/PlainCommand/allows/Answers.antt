-- Only a drawing has limits, and both sides are held against them.
use Rattle.std.proofs.Common.{IsTrue, arith, leb, refl, subst, sym, true, ◌≡◌, ◌↔◌}
use Rattle.std.proofs.lemmas.Bool.{le-leb, leb-true}
use Rattle.bk_tiling.specs.Tiling.{Tiling}
use Rattle.bk_answer.specs.declared.command.Command.TheVariants.{Plain}
use Rattle.bk_answer.specs.Telling.{Allows}
use Rattle.bk_answer.specs.declared.plain.PlainCommand.{PlainCommand}
use Rattle.bk_answer.specs.declared.plain.PlainCommand.TheVariants.{Draw}
use Rattle.bk_answer.proofs.plain.PlainCommand.allows.Goals as goal

-- every command but `draw` allows all
all_allowed : (p : PlainCommand) (t : Tiling) → (p ≡ Draw → ⊥) → IsTrue true ↔ Allows (Plain p) t
all_allowed Draw t not = absurd (not refl)
all_allowed _ t not = (λ _. tt, λ _. refl)

pub returns-then-width-le-LARGEST_DRAWN : goal.returns-then-width-le-LARGEST_DRAWN
returns-then-width-le-LARGEST_DRAWN c =
    subst (λ (p : PlainCommand). IsTrue (leb c.height.result 400) ↔ Allows (Plain p) c.args.tiling.now) (sym c.in-Draw.is) (
      λ low. (
        omega (arith, c.if-width-le-LARGEST_DRAWN.true, c.width.ensures.value),
        omega (arith, leb-true c.height.result 400 low, c.height.ensures.value),
      ),
      λ allowed. le-leb c.height.result 400 (omega (arith, allowed.1, c.height.ensures.value)),
    )

pub returns-else-width-le-LARGEST_DRAWN : goal.returns-else-width-le-LARGEST_DRAWN
returns-else-width-le-LARGEST_DRAWN c =
    subst (λ (p : PlainCommand). IsTrue (leb c.width.result 400) ↔ Allows (Plain p) c.args.tiling.now) (sym c.in-Draw.is) (
      λ low. absurd (omega (arith, leb-true c.width.result 400 low, c.if-width-le-LARGEST_DRAWN.false)),
      λ allowed. le-leb c.width.result 400 (omega (arith, allowed.0, c.width.ensures.value)),
    )

pub returns-in_default : goal.returns-in_default
returns-in_default c = all_allowed c.args.self c.args.tiling.now c.in_default.not-Draw
