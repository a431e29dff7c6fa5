-- The test is that of the limit, where there is one.
use Rattle.std.proofs.Common.{IsSomeAnd, IsTrue, Option, false, leb, subst, sym, ℕ, ◌≤◌, ◌↔◌}
use Rattle.std.proofs.lemmas.Bool.{le-leb, leb-true}
use Rattle.bk_packed.proofs.number_table.is_dropped.Goals as goal

pub returns-in-Some : goal.returns-in-Some
returns-in-Some c =
    subst (λ (l : Option ℕ). IsTrue (leb c.in-Some.least c.args.number) ↔ IsSomeAnd l (λ least. least ≤ c.args.number)) (sym c.in-Some.is)
    (leb-true c.in-Some.least c.args.number, le-leb c.in-Some.least c.args.number)

pub returns-in-None : goal.returns-in-None
returns-in-None c =
    subst (λ (l : Option ℕ). IsTrue false ↔ IsSomeAnd l (λ least. least ≤ c.args.number)) (sym c.in-None.is) (λ e. cc, λ h. absurd h)
