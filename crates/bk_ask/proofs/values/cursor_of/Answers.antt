use Rattle.std.proofs.Common.{IfErr, IfOk, List, arith, subst, sym, ℕ}
use Rattle.bk_word.specs.ReadWord.{IsWordFaultOf}
use Rattle.bk_word.specs.WordText.{IsTextOf}
use Rattle.bk_ask.proofs.CursorTexts.{HasOrder, IsRead, cursor_read, no_cursor_of_more_than_sixteen_squares}
use Rattle.bk_ask.proofs.values.cursor_of.Goals as goal
use Rattle.bk_ask.proofs.values.cursor_of.Goals.{in_default-via-in-Some+else-from-le-LARGEST_LISTED_ORDER, in_default-via-in_default}

is_read : (c : goal.After-ok) → IsRead c.args.text.now c.ok.result
is_read c =
    let text = c.args.text.now in
    let has : HasOrder text c.in-Some.order = subst (λ (t : List ℕ). HasOrder t c.in-Some.order) c.as_bytes.ensures.value c.in-Some.ensures.some in
    let read : IfOk c.read_word.result (IsTextOf text) = subst (λ (t : List ℕ). IfOk c.read_word.result (IsTextOf t)) c.as_bytes-in-Some.ensures.value
    c.read_word.ensures.read in
    let fault : IfErr c.read_word.result (λ fault. IsWordFaultOf fault text) = subst
    (λ (t : List ℕ). IfErr c.read_word.result (λ fault. IsWordFaultOf fault t)) c.as_bytes-in-Some.ensures.value c.read_word.ensures.fault in
    subst (IsRead text) (sym c.ok.ensures.value) (cursor_read text c.in-Some.order c.read_word.result has (omega arith) read fault)

pub returns-in-Some-clause-some : goal.returns-in-Some-clause-some
returns-in-Some-clause-some c = (is_read c).some

pub returns-in-Some-clause-none : goal.returns-in-Some-clause-none
returns-in-Some-clause-none c = (is_read c).none

pub returns-in_default-clause-none : goal.returns-in_default-clause-none
returns-in_default-clause-none c w is = elim c.in_default.branch [
  | in_default-via-in-Some+else-from-le-LARGEST_LISTED_ORDER b ↦ no_cursor_of_more_than_sixteen_squares c.args.text.now b.in-Some.order
      (subst (λ (text : List ℕ). HasOrder text b.in-Some.order) c.as_bytes.ensures.value b.in-Some.ensures.some) (omega arith) w is
  | in_default-via-in_default b ↦ b.in_default.ensures.none w (subst (λ (t : List ℕ). IsTextOf t w) (sym c.as_bytes.ensures.value) is.text)
]
