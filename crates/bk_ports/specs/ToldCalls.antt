-- What a source or a sink tells of a call of its reader or writer, and how it counts.
-- Example (StoreExamples): an error is told as `Failed`, and a count of 4 is 5 then; the number 7 is told as it is.
use Rattle.std.specs.Prelude.{ℕ, Result, Ok, Err}
use Rattle.bk_ports.specs.Causes.{counted}
use Rattle.bk_ports.specs.declared.Failed.{Failed}

-- what the call gave, or that it failed
abbrev pub told_of : {T E : Type 0} → Result T E → Result T Failed
told_of (Ok given) = Ok given
told_of (Err error) = Err (record {})

-- how many calls have failed after this one: one more if it failed
abbrev pub count_after : {T E : Type 0} → Result T E → ℕ → ℕ
count_after (Ok given) count = count
count_after (Err error) count = counted count
