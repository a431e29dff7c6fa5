use Rattle.std.proofs.Common.{arith, rules, subst, sym}
use Rattle.std.proofs.lemmas.Bool.{false≢true}
use Rattle.bk_word.specs.StoredWord.{word_in}
use Rattle.bk_word.specs.Taken.{KeepsTextOf}
use Rattle.bk_word.specs.WordText.{IsTextOf}
use Rattle.bk_word.proofs.KeptTexts.{bytes_kept, many_bytes, more_than_sixteen_where_not_few}
use Rattle.bk_word.proofs.reading.read_word.Goals as goal

pub from_bytes-requires : goal.from_bytes-requires
from_bytes-requires c =
    let keeps : KeepsTextOf c.args.text.now c.in_ok-taken.taken = search rules in
    (bytes_kept c.args.text.now c.as_slice.result.now c.in_ok-taken.taken keeps (omega arith) c.as_slice.ensures.value).are_stored

pub returns-in-Ok-clause-read : goal.returns-in-Ok-clause-read
returns-in-Ok-clause-read c =
    let keeps : KeepsTextOf c.args.text.now c.in_ok-taken.taken = search rules in
    subst (IsTextOf c.args.text.now) (sym c.in-Ok.ensures.ok)
    (bytes_kept c.args.text.now c.as_slice.result.now c.in_ok-taken.taken keeps (omega arith) c.as_slice.ensures.value).is

pub returns-in-Err-clause-fault : goal.returns-in-Err-clause-fault
returns-in-Err-clause-fault c =
    let keeps : KeepsTextOf c.args.text.now c.in_ok-taken.taken = search rules in
    let h = bytes_kept c.args.text.now c.as_slice.result.now c.in_ok-taken.taken keeps (omega arith) c.as_slice.ensures.value in (
      word_in c.as_slice.result.now,
      h.is,
      more_than_sixteen_where_not_few (word_in c.as_slice.result.now) (λ few. false≢true (c.in-Err.ensures.inline few)),
      h.few,
      many_bytes c.as_slice.result.now h.are_stored (λ few. false≢true (c.in-Err.ensures.bytes few)),
    )
