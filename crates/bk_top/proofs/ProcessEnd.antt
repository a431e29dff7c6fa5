-- How the process ends where it has arguments: as their run does.
use Rattle.std.proofs.Common.{subst, sym}
use Rattle.std.specs.Prelude.{IfOk, List, Ok, Result, String, Vec, ℕ, ◌≡◌}
use Rattle.std.specs.declared.alloc.Global.{Global}
use Rattle.bk_top.specs.Ended.{ProcessEndsBy}
use Rattle.bk_top.specs.Outside.{Outside}
use Rattle.bk_top.specs.Running.{IsWholeRun}
use Rattle.bk_top.specs.declared.exit.NoArguments.{NoArguments}

-- where a run has read these arguments, the process ends as the run does
pub ended_as_run : (arguments : Result (Vec (String Global) Global) NoArguments) (words : Vec (String Global) Global) (read : List (String Global))
    (before after : Outside) (status ended : ℕ) → arguments ≡ Ok words → read ≡ words.items → IsWholeRun read before after status
    → ended ≡ status → ProcessEndsBy arguments before after ended
ended_as_run arguments words read before after status ended is same ran ends =
    subst (λ a. ProcessEndsBy a before after ended) (sym is)
    (subst (IsWholeRun words.items before after) (sym ends) (subst (λ ws. IsWholeRun ws before after status) same ran))

-- what is known of the arguments is known of the words that the run reads
pub asked_by : (P : List (String Global) → Type 0) (arguments : Result (Vec (String Global) Global) NoArguments) (words : Vec (String Global) Global)
    (read : List (String Global)) → arguments ≡ Ok words → read ≡ words.items → IfOk arguments (λ ws. P ws.items) → P read
asked_by P arguments words read is same known =
    subst P (sym same) (subst (λ a. IfOk a (λ ws. P ws.items)) is known)
