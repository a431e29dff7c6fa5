-- What is stated of a code is held against its sides and its tiling.
use Rattle.std.proofs.Common.{List, ap, length, subst, ℕ, ◌≡◌}
use Rattle.std.specs.Prelude.{IfSome}
use Rattle.std.proofs.lemmas.Bool.{both_ways}
use Rattle.bk_text.specs.CodeLine.{Item}
use Rattle.bk_answer.proofs.ItemSteps.{failed_laying, laid_of_size, refused_of_size, wrong_order}
use Rattle.bk_answer.proofs.items.lay_groups.Goals as goal

pub returns-then-not-allows_order-clause-refused : goal.returns-then-not-allows_order-clause-refused
returns-then-not-allows_order-clause-refused c =
    wrong_order (Item c.args.order c.args.size c.args.code.now) (length c.flat-sides.result.now) (ap length c.flat-sides.ensures.value)
    (λ h. both_ways c.allows_order.result c.if-not-allows_order.true (c.allows_order.ensures.1 h))

pub returns-in-Ok-clause-laid : goal.returns-in-Ok-clause-laid
returns-in-Ok-clause-laid c =
    laid_of_size (Item c.args.order c.args.size c.args.code.now) c.args.size c.lay_code_in.new.tiling c.in-Ok.ensures.ok
    (subst (λ (l : List ℕ). IfSome c.args.order (λ stated. stated ≡ length l)) c.flat-sides.ensures.value
    (c.allows_order.ensures.0 c.if-not-allows_order.false)) (λ s. s) (λ s. s)
    c.of_size.result c.of_size.ensures.sized

pub returns-in-Ok-clause-refused : goal.returns-in-Ok-clause-refused
returns-in-Ok-clause-refused c =
    refused_of_size (Item c.args.order c.args.size c.args.code.now) c.args.size c.lay_code_in.new.tiling c.in-Ok.ensures.ok
    (subst (λ (l : List ℕ). IfSome c.args.order (λ stated. stated ≡ length l)) c.flat-sides.ensures.value
    (c.allows_order.ensures.0 c.if-not-allows_order.false)) (λ s. s) (λ s. s)
    c.of_size.result c.of_size.ensures.refused

pub returns-in-Err-clause-refused : goal.returns-in-Err-clause-refused
returns-in-Err-clause-refused c =
    failed_laying (Item c.args.order c.args.size c.args.code.now) c.in-Err.refusal c.refused_for.result
    (subst (λ (l : List ℕ). IfSome c.args.order (λ stated. stated ≡ length l)) c.flat-sides.ensures.value
    (c.allows_order.ensures.0 c.if-not-allows_order.false))
    c.in-Err.ensures.refused c.refused_for.ensures

pub returns-then-not-allows_order-clause-few : goal.returns-then-not-allows_order-clause-few
returns-then-not-allows_order-clause-few c = c.flat-sides.ensures.kept.few

pub returns-in-Ok-clause-few : goal.returns-in-Ok-clause-few
returns-in-Ok-clause-few c = c.flat-sides.ensures.kept.few

pub returns-in-Err-clause-few : goal.returns-in-Err-clause-few
returns-in-Err-clause-few c = c.flat-sides.ensures.kept.few

pub lay_code_in-requires : goal.lay_code_in-requires
lay_code_in-requires c = c.requires
