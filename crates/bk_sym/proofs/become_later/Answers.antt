use Rattle.std.proofs.Common.{false, subst, true, ◌≡◌}
use Rattle.bk_tiling.specs.Tiling.{Tiling}
use Rattle.bk_sym.proofs.Greatest.{at_most-refl, at_most-total}
use Rattle.bk_sym.specs.Canonical.{IsAtMost}
use Rattle.bk_sym.proofs.become_later.Goals as goal

pub returns-then-not-is_at_most-clause-first : goal.returns-then-not-is_at_most-clause-first
returns-then-not-is_at_most-clause-first c =
    at_most-total c.image-other.result c.args.greatest.now (λ h. let e : false ≡ true = c.if-not-is_at_most.ensures.1 h in cc)

pub returns-then-not-is_at_most-clause-second : goal.returns-then-not-is_at_most-clause-second
returns-then-not-is_at_most-clause-second c =
    subst (λ (u : Tiling). IsAtMost u c.image-other.result) c.image-other.ensures.value (at_most-refl c.image-other.result)

pub returns-else-not-is_at_most-clause-first : goal.returns-else-not-is_at_most-clause-first
returns-else-not-is_at_most-clause-first c = at_most-refl c.args.greatest.now
