-- How the process ends: by the status of the run that its arguments ask, or because there are none.
-- Example (EndedExamples): where the arguments aren't text, the status is 8.
use Rattle.std.specs.Prelude.{Err, Ok, Result, String, Vec, ℕ, ◌≡◌}
use Rattle.std.specs.declared.alloc.Global.{Global}
use Rattle.bk_top.specs.Outside.{Outside}
use Rattle.bk_top.specs.Running.{IsWholeRun}
use Rattle.bk_top.specs.declared.exit.NoArguments.{NoArguments}
use Rattle.bk_top.specs.declared.exit.NoArguments.TheVariants.{NoMemory, NotText}

-- the words of a run are the arguments, each of them and in their order, and its status is that of the process; where
-- there are no arguments, all stays as it is, and the status is 6 or 8
abbrev pub ProcessEndsBy : Result (Vec (String Global) Global) NoArguments → Outside → Outside → ℕ → Type 0
ProcessEndsBy (Ok words) before after status = IsWholeRun words.items before after status
ProcessEndsBy (Err NoMemory) before after status = (after ≡ before) × (status ≡ 6)
ProcessEndsBy (Err NotText) before after status = (after ≡ before) × (status ≡ 8)
