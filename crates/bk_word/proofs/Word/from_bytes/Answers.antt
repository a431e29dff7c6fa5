use Rattle.std.proofs.Common.{arith, rules}
use Rattle.bk_word.proofs.StoredBytes.{kept_short}
use Rattle.bk_word.proofs.Word.from_bytes.Goals as goal

pub returns-in_err-bytes-clause-inline : goal.returns-in_err-bytes-clause-inline
returns-in_err-bytes-clause-inline c = λ few.
    let ok = c.from_slice.ensures.succeeds (omega (arith, few, kept_short c.args.bytes.now c.requires)) in search rules
