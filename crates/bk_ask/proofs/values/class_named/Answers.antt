use Rattle.bk_word.specs.declared.Class.TheVariants.{Imperfect, Perfect, Simple}
use Rattle.bk_word.specs.declared.Class.{Class}
use Rattle.bk_ask.specs.OptionValues.{class_name}
use Rattle.std.proofs.Common.{List, codes, ℕ, ◌≡◌}
use Rattle.bk_ask.proofs.values.class_named.Goals as goal

no_class : (name : List ℕ) → (name ≡ codes "perfect" → ⊥) → (name ≡ codes "imperfect" → ⊥) → (name ≡ codes "simple" → ⊥)
    → (class : Class) → name ≡ class_name class → ⊥
no_class name perfect imperfect simple Perfect is = perfect is
no_class name perfect imperfect simple Imperfect is = imperfect is
no_class name perfect imperfect simple Simple is = simple is

pub returns-in-perfect-clause-some : goal.returns-in-perfect-clause-some
returns-in-perfect-clause-some c = c.in-perfect.is

pub returns-in-imperfect-clause-some : goal.returns-in-imperfect-clause-some
returns-in-imperfect-clause-some c = c.in-imperfect.is

pub returns-in-simple-clause-some : goal.returns-in-simple-clause-some
returns-in-simple-clause-some c = c.in-simple.is

pub returns-in_default-clause-none : goal.returns-in_default-clause-none
returns-in_default-clause-none c = no_class c.args.name.now c.in_default.not-perfect c.in_default.not-imperfect c.in_default.not-simple
