-- A run at which no call fails has read its input to the end, or memory was wanting, where the source tells at most 2^30 bytes.
use Rattle.std.proofs.Common.{List, None, Option, Some, ap, arith, false, inl, inr, length, refl, true, ℕ, ◌^◌, ◌≤◌}
use Rattle.std.specs.Prelude.{IsSomeAnd}
use Rattle.std.proofs.lemmas.List.{length-append}
use Rattle.bk_ports.specs.Deciding.{TookTooMany}
use Rattle.bk_ports.specs.Ending.{EndsWith, Output, Streams}
use Rattle.bk_ports.specs.Faults.{CountsTell, Faults, IsCalm, IsDoneOrWanting}
use Rattle.bk_ports.specs.declared.Ended.{Ended}
use Rattle.bk_ports.specs.declared.Ended.TheVariants.{NoMemory, NoneRefused, ReadFailed, SomeRefused, TooMany, WriteFailed}
use Rattle.bk_ports.proofs.TakenBytes.{ends_took, taken_front}

-- a source that tells at most 2^30 bytes gave no more
few_taken : (left left_after : Option (List ℕ)) → IsSomeAnd left (λ input. length input ≤ 2 ^ 30) → (many : TookTooMany left left_after) → ⊥
few_taken None left_after few many = absurd few
few_taken (Some input) left_after few many =
    let front = taken_front input (Some input) left_after refl many.0 many.1 in
    omega (arith, few, many.2, ap (λ (l : List ℕ). length l) front.2, length-append many.0 front.0)

-- a run at which no call fails
pub calm_is_done : (output : Output) (streams : Streams) (faults : Faults) (ended : Ended) → EndsWith output streams ended → CountsTell ended faults
    → IsCalm streams.left faults → IsDoneOrWanting ended
calm_is_done output streams faults NoneRefused ends tell calm = inl (false, refl)
calm_is_done output streams faults SomeRefused ends tell calm = inl (true, refl)
calm_is_done output streams faults ReadFailed ends tell calm = absurd (calm.no_fault.reads tell.0)
calm_is_done output streams faults WriteFailed ends tell calm = absurd (calm.no_fault.writes tell.1)
calm_is_done output streams faults NoMemory ends tell calm = inr refl
calm_is_done output streams faults TooMany ends tell calm =
    absurd (few_taken streams.left streams.left_after calm.within (ends_took output streams TooMany ends))
