use Rattle.std.proofs.Common.{IsTrue, ap, arith, length, nat_eq, ℕ, ◌≡◌}
use Rattle.std.proofs.lemmas.Bool.Decides.{nat_tests}
use Rattle.bk_free_search.proofs.NextWords.SignPhases.{one_even, own_even_then_above_is_barred}
use Rattle.bk_free_search.specs.declared.state.Begun.{Begun}
use Rattle.bk_free_search.proofs.questions.bars_own_above.Goals as goal

one_told : (a : ℕ) → IsTrue (nat_eq a 1) → a ≡ 1
one_told a e = grind (arith, nat_tests)

pub returns-then-len-eq1 : goal.returns-then-len-eq1
returns-then-len-eq1 c told s around with_own low = own_even_then_above_is_barred with_own.begun low (one_even c.args.begun.now.m.signs
    (omega (arith, c.if-len-eq1.true, c.len.ensures.value, ap (λ (b : Begun). length b.m.signs) c.begun.view_is))
    (omega (arith, with_own.asked_is.evens_are, one_told c.args.asked.now.evens told)))
