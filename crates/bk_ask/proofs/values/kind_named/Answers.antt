use Rattle.bk_pair.specs.declared.Kind.TheVariants.{Any, Perfect}
use Rattle.bk_pair.specs.declared.Kind.{Kind}
use Rattle.bk_ask.specs.OptionValues.{kind_name}
use Rattle.std.proofs.Common.{List, codes, ℕ, ◌≡◌}
use Rattle.bk_ask.proofs.values.kind_named.Goals as goal

no_kind : (name : List ℕ) → (name ≡ codes "perfect" → ⊥) → (name ≡ codes "any" → ⊥) → (kind : Kind) → name ≡ kind_name kind → ⊥
no_kind name perfect any Perfect is = perfect is
no_kind name perfect any Any is = any is

pub returns-in-perfect-clause-some : goal.returns-in-perfect-clause-some
returns-in-perfect-clause-some c = c.in-perfect.is

pub returns-in-any-clause-some : goal.returns-in-any-clause-some
returns-in-any-clause-some c = c.in-any.is

pub returns-in_default-clause-none : goal.returns-in_default-clause-none
returns-in_default-clause-none c = no_kind c.args.name.now c.in_default.not-perfect c.in_default.not-any
