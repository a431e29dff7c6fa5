use Rattle.std.specs.List.{AllByRecursion}
use Rattle.std.specs.Prelude.{IfNone, IfSome, None, Option, Some}
use Rattle.std.proofs.Common.{arith, subst, sym, ℕ, ◌<◌, ◌≡◌}
use Rattle.bk_packed.specs.KeptNumbers.{AreAscendingNumbers, IsFirstFrom, Numbers}
use Rattle.bk_walk.specs.Finding.{Finding, HasOnlyMembers}
use Rattle.bk_walk.specs.MemberTables.{HasNoneFrom, IsNextNumber, IsWhole}
use Rattle.bk_walk.proofs.WholeTables.{first_kept_is_the_next_number, no_number_from_a_bound_above_all_kept}
use Rattle.bk_walk.proofs.member_table.MemberTable.next_from.Goals as goal

pub table-requires : goal.table-requires
table-requires g c = (omega (arith, g.N.fits), omega (arith, g.N.fits))

pub first_from-requires : goal.first_from-requires
first_from-requires g c = (
  omega (arith, g.N.fits),
  subst (λ (n : Numbers). AreAscendingNumbers n.kept) (sym c.table.ensures.value) c.self.invariant.ascending,
)

-- what is found in the numbers of a whole table
if_next : (t : Finding) (numbers : Numbers) (bound : ℕ) (found : Option ℕ) → numbers ≡ t.numbers → IsWhole t → HasOnlyMembers t
    → IfSome found (IsFirstFrom numbers.kept bound) → IfSome found (IsNextNumber t bound)
if_next t numbers bound None same whole only first = tt
if_next t numbers bound (Some x) same whole only first =
    first_kept_is_the_next_number t bound x whole only (subst (λ (n : Numbers). IsFirstFrom n.kept bound x) same first)

if_none : (t : Finding) (numbers : Numbers) (bound : ℕ) (found : Option ℕ) → numbers ≡ t.numbers → IsWhole t
    → IfNone found (AllByRecursion (λ y. y < bound) numbers.kept) → IfNone found (HasNoneFrom t bound)
if_none t numbers bound None same whole below = no_number_from_a_bound_above_all_kept t bound whole
    (subst (λ (n : Numbers). AllByRecursion (λ y. y < bound) n.kept) same below)
if_none t numbers bound (Some x) same whole below = tt

pub returns-clause-next : goal.returns-clause-next
returns-clause-next g c = subst (λ (t : Finding). IfSome c.first_from.result (IsNextNumber t c.args.number)) c.self.view_is
    (if_next c.self.inside.seeker.finder c.table.result.now c.args.number c.first_from.result c.table.ensures.value c.self.invariant.whole c.table.ensures.only
    c.first_from.ensures.first)

pub returns-clause-none : goal.returns-clause-none
returns-clause-none g c = subst (λ (t : Finding). IfNone c.first_from.result (HasNoneFrom t c.args.number)) c.self.view_is
    (if_none c.self.inside.seeker.finder c.table.result.now c.args.number c.first_from.result c.table.ensures.value c.self.invariant.whole
    c.first_from.ensures.none)
