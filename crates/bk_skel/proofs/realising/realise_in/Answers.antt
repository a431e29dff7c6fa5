use Rattle.std.specs.Prelude.{Err, IfErr, IfOk, Ok, OnOk, Result}
use Rattle.std.proofs.Common.{arith, subst, sym, ◌≤◌}
use Rattle.std.proofs.lemmas.Bool.{both_ways}
use Rattle.bk_word.specs.Word.{Word, order_of}
use Rattle.bk_skel.proofs.NarrowWords.{no_small_word_is_wide}
use Rattle.bk_skel.specs.WideWord.{IsWideWord}
use Rattle.bk_skel.proofs.RealisedWord.{open_end}
use Rattle.bk_skel.specs.SolveRefusal.{IsSolveFault}
use Rattle.bk_word.specs.Play.{IsComplete}
use Rattle.bk_word_net.specs.Realised.{IsRealised}
use Rattle.bk_skel.specs.RealisedIn.{tiling_found}
use Rattle.bk_skel.proofs.realising.realise_in.Goals as goal

-- what holds without an answer holds with one
on_ok : {A E : Type 0} {P : Type 0} (r : Result A E) → P → OnOk r P
on_ok (Ok _) p = p
on_ok (Err _) p = tt

pub returns-then-not-is_closed-clause-refused : goal.returns-then-not-is_closed-clause-refused
returns-then-not-is_closed-clause-refused c = open_end c.play_word.new.skel c.args.word.now c.in_default.ensures.skeleton c.requires
    c.in_default.ensures.legal (λ complete. both_ways c.is_closed.result c.if-not-is_closed.true (c.is_closed.ensures.1 complete))

pub returns-then-order-gt-MOST_SMALL_WIRES-clause-narrow : goal.returns-then-order-gt-MOST_SMALL_WIRES-clause-narrow
returns-then-order-gt-MOST_SMALL_WIRES-clause-narrow c =
    subst (λ (w : Word). OnOk c.realise_in_memory.result (IsWideWord w → ⊥)) c.in_default.ensures.skeleton c.realise_in_memory.ensures.narrow

pub returns-then-order-gt-MOST_SMALL_WIRES-clause-refused : goal.returns-then-order-gt-MOST_SMALL_WIRES-clause-refused
returns-then-order-gt-MOST_SMALL_WIRES-clause-refused c =
    subst (λ (w : Word). IfErr c.realise_in_memory.result (IsSolveFault w)) c.in_default.ensures.skeleton c.realise_in_memory.ensures.refused

pub returns-clause-narrow : goal.returns-clause-narrow
returns-clause-narrow c wide =
    let few : order_of c.play_word.new.skel ≤ 16 = omega (arith, c.order.ensures.value, c.if-order-gt-MOST_SMALL_WIRES.false) in
    no_small_word_is_wide c.play_word.new.skel (c.is_closed.ensures.0 c.if-not-is_closed.false) few
    (subst IsWideWord (sym c.in_default.ensures.skeleton) wide)

pub returns-in-Err-clause-refused : goal.returns-in-Err-clause-refused
returns-in-Err-clause-refused c = c.in-Err.ensures.illegal

pub realise_in_memory-requires : goal.realise_in_memory-requires
realise_in_memory-requires c = record { closed = c.is_closed.ensures.0 c.if-not-is_closed.false }

pub returns-then-order-gt-MOST_SMALL_WIRES-clause-complete : goal.returns-then-order-gt-MOST_SMALL_WIRES-clause-complete
returns-then-order-gt-MOST_SMALL_WIRES-clause-complete c =
    on_ok c.realise_in_memory.result (subst IsComplete c.in_default.ensures.skeleton (c.is_closed.ensures.0 c.if-not-is_closed.false))

pub returns-then-order-gt-MOST_SMALL_WIRES-clause-realised : goal.returns-then-order-gt-MOST_SMALL_WIRES-clause-realised
returns-then-order-gt-MOST_SMALL_WIRES-clause-realised c =
    subst (λ (w : Word). IfOk c.realise_in_memory.result (λ found. IsRealised w (tiling_found found c.realise_in_memory.new.tiling)))
    c.in_default.ensures.skeleton c.realise_in_memory.ensures.realised

pub realise_few-requires-clause-closed : goal.realise_few-requires-clause-closed
realise_few-requires-clause-closed c = c.is_closed.ensures.0 c.if-not-is_closed.false

pub realise_few-requires-clause-few : goal.realise_few-requires-clause-few
realise_few-requires-clause-few c = omega (arith, c.order.ensures.value, c.if-order-gt-MOST_SMALL_WIRES.false)

pub returns-clause-complete : goal.returns-clause-complete
returns-clause-complete c = subst IsComplete c.in_default.ensures.skeleton (c.is_closed.ensures.0 c.if-not-is_closed.false)

pub returns-clause-realised : goal.returns-clause-realised
returns-clause-realised c =
    subst (λ (w : Word). IsRealised w (tiling_found c.realise_few.result c.realise_few.new.tiling)) c.in_default.ensures.skeleton c.realise_few.ensures
