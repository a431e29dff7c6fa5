use Rattle.std.specs.Prelude.{List, length, refl, take, ℕ, ◌∷◌, []}
use Rattle.std.proofs.Common.{arith, get_or, le_antisymm, le_of_lt, le_refl, subst, sym, zero-le}
use Rattle.std.proofs.lemmas.List.{take_more}
use Rattle.bk_text.specs.Onward.{SpellOn}
use Rattle.bk_text.proofs.Strides.{spelled_further}
use Rattle.bk_text.proofs.sides.number_in_front.Goals as goal

pub loop-i-preserved : goal.loop-i-preserved
loop-i-preserved c =
    subst (λ (z : List ℕ). SpellOn c.args.greatest z 0 c.in-Some.next) (sym (take_more c.args.bytes.now c.loop-i.i 0 (omega arith)))
    (spelled_further c.args.greatest (take c.loop-i.i c.args.bytes.now) (get_or c.args.bytes.now c.loop-i.i 0 ∷ []) 0 c.loop-i.number c.in-Some.next
    c.loop-i.invariant c.in-Some.ensures)

pub loop-i-init : goal.loop-i-init
loop-i-init c = record { small = zero-le; leads = λ _ _ _ _ _. refl }

pub bounds-bytes-i : goal.bounds-bytes-i
bounds-bytes-i c = c.loop-i-test.true

pub with_digit-requires-clause-large : goal.with_digit-requires-clause-large
with_digit-requires-clause-large c = c.requires

pub with_digit-requires-clause-number : goal.with_digit-requires-clause-number
with_digit-requires-clause-number c = c.loop-i.invariant.small

pub returns-in-None-clause-within : goal.returns-in-None-clause-within
returns-in-None-clause-within c = le_of_lt c.loop-i-test.true

pub returns-in-None-clause-spelled : goal.returns-in-None-clause-spelled
returns-in-None-clause-spelled c = c.loop-i.invariant

pub returns-clause-within : goal.returns-clause-within
returns-clause-within c = le_refl (length c.args.bytes.now)

pub returns-clause-spelled : goal.returns-clause-spelled
returns-clause-spelled c =
    subst (λ (k : ℕ). SpellOn c.args.greatest (take k c.args.bytes.now) 0 c.loop-i.number) (le_antisymm c.loop-i.auto.i-end c.loop-i-test.false)
    c.loop-i.invariant
