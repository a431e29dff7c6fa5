use Rattle.std.proofs.Common.{Bool, Contains, IsSomeAnd, IsTrue, List, Option, Some, ap, arith, false, refl, subst, sym, ℕ, [], ◌++◌, ◌∷◌, ◌∙◌}
use Rattle.std.proofs.Common.{◌≡◌, ◌≤◌}
use Rattle.bk_packed.specs.KeptNumbers.{AreAscendingNumbers, Numbers}
use Rattle.bk_packed.proofs.AscendingNumbers.{same_itself}
use Rattle.bk_packed.proofs.Keeping.{IsPut, put_again, put_behind, put_beyond, put_high, put_low}
use Rattle.bk_packed.proofs.number_table.NumberTable.put.Given as given
use Rattle.bk_packed.proofs.number_table.NumberTable.put.Goals as goal

-- what is seen of the numbers and the limit
abbrev seen : List ℕ → Option ℕ → Numbers
seen kept limit = record { kept = kept; limit = limit }

-- what a test didn't find is not so
not_so : (result : Bool) (P : Type 0) → (P → IsTrue result) → result ≡ false → P → ⊥
not_so result P found none p = let e = found p in cc

-- so the number isn't among those that were searched
absent : {read numbers : List ℕ} {x : ℕ} (result : Bool) → read ≡ numbers → (Contains read x → IsTrue result) → result ≡ false → Contains numbers x → ⊥
absent {read = read} {x = x} result same found none has =
    not_so result (Contains read x) found none (subst (λ l. Contains l x) (sym same) has)

-- a number from the limit on
dropped : (g : given.Over) (c : goal.Then-is_dropped g) → IsPut g.row.N c.args.self.now c.args.self.now c.args.number
dropped g c = subst (λ (t : Numbers). IsPut g.row.N t t c.args.number) c.self.view_is
    (put_beyond g.row.N (seen c.self.inside.numbers.items c.self.inside.limit) c.args.number c.self.invariant
    (c.is_dropped.ensures.0 c.if-is_dropped.true))

-- one that is put behind those that are there
first : (g : given.Over) (c : goal.After-push g) → IsPut g.row.N c.args.self.now (seen c.push.new.self.items c.self.inside.limit) c.args.number
first g c = subst (λ (t : Numbers). IsPut g.row.N t (seen c.push.new.self.items c.self.inside.limit) c.args.number) c.self.view_is
    (put_behind g.row.N (seen c.self.inside.numbers.items c.self.inside.limit) (seen c.push.new.self.items c.self.inside.limit)
    c.args.number c.self.inside.numbers.items c.self.invariant (same_itself c.self.inside.numbers.items)
    (not_so c.is_dropped.result (IsSomeAnd c.self.inside.limit (λ least. least ≤ c.args.number)) c.is_dropped.ensures.1 c.if-is_dropped.false)
    c.push.ensures.items refl)

-- one that is put behind those that are there, each once
behind : (g : given.Over) (c : goal.After-push-then-len-2 g) → IsPut g.row.N c.args.self.now
    (seen c.push-then-len-2.new.self.items c.self.inside.limit) c.args.number
behind g c = subst (λ (t : Numbers). IsPut g.row.N t (seen c.push-then-len-2.new.self.items c.self.inside.limit) c.args.number) c.self.view_is
    (put_behind g.row.N (seen c.self.inside.numbers.items c.self.inside.limit) (seen c.push-then-len-2.new.self.items c.self.inside.limit)
    c.args.number c.sort_and_thin.new.numbers.items c.self.invariant c.sort_and_thin.ensures.same
    (not_so c.is_dropped.result (IsSomeAnd c.self.inside.limit (λ least. least ≤ c.args.number)) c.is_dropped.ensures.1 c.if-is_dropped.false)
    c.push-then-len-2.ensures.items refl)

-- one that is there
again : (g : given.Over) (c : goal.Then-has g) → IsPut g.row.N c.args.self.now
    (seen c.sort_and_thin.new.numbers.items c.self.inside.limit) c.args.number
again g c = subst (λ (t : Numbers). IsPut g.row.N t (seen c.sort_and_thin.new.numbers.items c.self.inside.limit) c.args.number) c.self.view_is
    (put_again g.row.N (seen c.self.inside.numbers.items c.self.inside.limit) (seen c.sort_and_thin.new.numbers.items c.self.inside.limit)
    c.args.number c.self.invariant c.sort_and_thin.ensures.same
    (subst (λ l. Contains l c.args.number) c.as_slice.ensures.value (c.has.ensures.0 c.if-has.true)) refl)

-- one below the limit that is set
low : (g : given.Over) (c : goal.After-push-then-number-limit g) → IsPut g.row.N c.args.self.now
    (seen c.push-then-number-limit.new.self.items (Some c.cut_off-limit.result)) c.args.number
low g c = subst (λ (t : Numbers). IsPut g.row.N t (seen c.push-then-number-limit.new.self.items (Some c.cut_off-limit.result)) c.args.number)
    c.self.view_is (put_low g.row.N (seen c.self.inside.numbers.items c.self.inside.limit) c.args.number c.sort_and_thin.new.numbers.items c.self.invariant
    c.sort_and_thin.ensures.ascending c.sort_and_thin.ensures.same (omega (arith, c.if-len-2.false, c.len-2.ensures.value))
    (absent c.has.result c.as_slice.ensures.value c.has.ensures.1 c.if-has.false)
    (seen c.push-then-number-limit.new.self.items (Some c.cut_off-limit.result)) (omega (arith, c.if-number-limit.true, c.cut_off-limit.ensures.least))
    (c.push-then-number-limit.ensures.items ∙ ap (λ l. l ++ c.args.number ∷ []) c.cut_off-limit.ensures.kept) (ap (λ n. Some n) c.cut_off-limit.ensures.least))

-- one from there on
high : (g : given.Over) (c : goal.Else-number-limit g) → IsPut g.row.N c.args.self.now
    (seen c.cut_off-limit.new.numbers.items (Some c.cut_off-limit.result)) c.args.number
high g c = subst (λ (t : Numbers). IsPut g.row.N t (seen c.cut_off-limit.new.numbers.items (Some c.cut_off-limit.result)) c.args.number) c.self.view_is
    (put_high g.row.N (seen c.self.inside.numbers.items c.self.inside.limit) c.args.number c.sort_and_thin.new.numbers.items c.self.invariant
    c.sort_and_thin.ensures.ascending c.sort_and_thin.ensures.same (omega (arith, c.if-len-2.false, c.len-2.ensures.value))
    (absent c.has.result c.as_slice.ensures.value c.has.ensures.1 c.if-has.false)
    (seen c.cut_off-limit.new.numbers.items (Some c.cut_off-limit.result)) (omega (arith, c.if-number-limit.false, c.cut_off-limit.ensures.least))
    c.cut_off-limit.ensures.kept (ap (λ n. Some n) c.cut_off-limit.ensures.least))

pub returns-then-is_dropped : goal.returns-then-is_dropped
returns-then-is_dropped g c = (dropped g c).holds

pub invariant_of-self : goal.invariant_of-self
invariant_of-self g c = (first g c).kept_table

pub returns-then-len : goal.returns-then-len
returns-then-len g c = (first g c).holds

pub invariant_of-self-then-len-2 : goal.invariant_of-self-then-len-2
invariant_of-self-then-len-2 g c = (behind g c).kept_table

pub returns-then-len-2 : goal.returns-then-len-2
returns-then-len-2 g c = (behind g c).holds

pub invariant_of-self-then-has : goal.invariant_of-self-then-has
invariant_of-self-then-has g c = (again g c).kept_table

pub returns-then-has : goal.returns-then-has
returns-then-has g c = (again g c).holds

pub invariant_of-self-then-number-limit : goal.invariant_of-self-then-number-limit
invariant_of-self-then-number-limit g c = (low g c).kept_table

pub returns-then-number-limit : goal.returns-then-number-limit
returns-then-number-limit g c = (low g c).holds

pub invariant_of-self-else-number-limit : goal.invariant_of-self-else-number-limit
invariant_of-self-else-number-limit g c = (high g c).kept_table

pub returns-else-number-limit : goal.returns-else-number-limit
returns-else-number-limit g c = (high g c).holds

pub has-requires : goal.has-requires
has-requires g c = subst AreAscendingNumbers (sym c.as_slice.ensures.value) c.sort_and_thin.ensures.ascending

pub is_dropped-requires : goal.is_dropped-requires
is_dropped-requires g c = tt

pub len-requires : goal.len-requires
len-requires g c = omega arith

pub push-requires : goal.push-requires
push-requires g c = (omega arith, omega (arith, c.len.ensures.value, c.if-len.true))

pub sort_and_thin-requires : goal.sort_and_thin-requires
sort_and_thin-requires g c = omega arith

pub len-requires-2 : goal.len-requires-2
len-requires-2 g c = omega arith

pub push-requires-then-len-2 : goal.push-requires-then-len-2
push-requires-then-len-2 g c = (omega arith, omega (arith, c.len-2.ensures.value, c.if-len-2.true))

pub as_slice-requires : goal.as_slice-requires
as_slice-requires g c = omega arith

pub cut_off-limit-requires : goal.cut_off-limit-requires
cut_off-limit-requires g c = omega arith
