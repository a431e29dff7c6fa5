use Rattle.std.proofs.Common.{ap, sym, ◌∙◌}
use Rattle.std.proofs.lemmas.Bool.{eqb-true}
use Rattle.bk_tiling.specs.declared.Square.{Square}
use Rattle.bk_sym.proofs.comes_first.Goals as goal

pub returns-then-turned-eq0 : goal.returns-then-turned-eq0
returns-then-turned-eq0 c = λ e. (
  ap (λ (q : Square). q.x) (sym c.image_square-turned.ensures) ∙ c.if-turned-eq0.true,
  ap (λ (q : Square). q.y) (sym c.image_square-turned.ensures) ∙ eqb-true _ _ e,
)

pub returns-else-turned-eq0 : goal.returns-else-turned-eq0
returns-else-turned-eq0 c = λ e. absurd (c.if-turned-eq0.false (eqb-true _ _ e))
