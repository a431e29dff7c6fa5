-- What a table of members tells of those from a number on.
use Rattle.std.proofs.Common.{None, subst, sym, ℕ, ◌≡◌, ◌≤◌}
use Rattle.bk_word.specs.declared.Class.{Class}
use Rattle.bk_catalogue.specs.Catalogue.{Entry, IsEntry}
use Rattle.bk_packed.specs.Packed.{packed}
use Rattle.bk_walk.specs.Finding.{Finding}
use Rattle.bk_walk.specs.MemberTables.{HasNoneFrom, IsNextNumber}
use Rattle.bk_walk.specs.Leaping.{IsLeastNumber}

-- the least number that the table of an order and a class has
pub tells_next : (t : Finding) (n : ℕ) (class : Class) (bound number : ℕ) → t.order ≡ n → t.class ≡ class → t.from ≤ bound → IsNextNumber t bound number
    → IsLeastNumber n class bound number
tells_next t n class bound number order of_class from next = record {
  entry = next.member.0;
  is = here next.member.0 next.member.1;
  number_is = next.member.2;
  from = next.first.from;
  least = λ e is above. next.least from e (there e is) above;
}
  where
    here : (e : Entry) → IsEntry t.order t.class e → IsEntry n class e
    here e is = subst (λ (k : Class). IsEntry n k e) of_class (subst (λ (k : ℕ). IsEntry k t.class e) order is)

    there : (e : Entry) → IsEntry n class e → IsEntry t.order t.class e
    there e is = subst (λ (k : Class). IsEntry t.order k e) (sym of_class) (subst (λ (k : ℕ). IsEntry k class e) (sym order) is)

-- if the table of an order and a class has no number from a bound on and dropped none, no entry has one
pub tells_none : (t : Finding) (n : ℕ) (class : Class) (bound : ℕ) → t.order ≡ n → t.class ≡ class → t.from ≤ bound → t.numbers.limit ≡ None
    → HasNoneFrom t bound → (e : Entry) → IsEntry n class e → bound ≤ packed e.word → ⊥
tells_none t n class bound order of_class from whole none e is above =
    none.none from whole e (subst (λ (k : Class). IsEntry t.order k e) (sym of_class) (subst (λ (k : ℕ). IsEntry k class e) (sym order) is))
    above
