-- What the ending of a run says of faults: of calls of its source and its sink that failed.
-- Example (EndingExamples): a run that ends since a write failed has raised the count of the sink by 1, say, and not
-- that of the source.
use Rattle.std.specs.Prelude.{◌≡◌, ℕ, ◌≤◌, ◌⊎◌, List, length, Option, IsSomeAnd}
use Rattle.bk_ports.specs.Causes.{Rose}
use Rattle.bk_ports.specs.Ending.{HasVerdict}
use Rattle.bk_ports.specs.declared.Ended.{Ended}
use Rattle.bk_ports.specs.declared.Ended.TheVariants.{ReadFailed, WriteFailed, NoMemory}
use Rattle.bk_ports.specs.declared.input.TheConstants.{MOST_BYTES}

-- how many reads of a source and writes to a sink have failed, before and after a run
pub record Faults : Type 0 where
  pub read : ℕ
  pub read_after : ℕ
  pub write : ℕ
  pub write_after : ℕ

-- the counts, by how many reads of a source had failed, before and after, and how many writes to a sink
abbrev pub faults_told : ℕ → ℕ → ℕ → ℕ → Faults
faults_told read read_after write write_after =
    record { read = read; read_after = read_after; write = write; write_after = write_after }

-- the counts of a run: those of its source and its sink before, and of both after, where `reads` and `writes` count for
-- each
abbrev pub faults_between : {S O : Type 0} → (S → ℕ) → (O → ℕ) → S × O → S × O → Faults
faults_between reads writes before after =
    faults_told (reads before.0) (reads after.0) (writes before.1) (writes after.1)

-- a count rose exactly where the run ends for it, whatever is told of the bytes
abbrev pub CountsTell : Ended → Faults → Type 0
CountsTell ReadFailed faults = Rose faults.read faults.read_after × (faults.write_after ≡ faults.write)
CountsTell WriteFailed faults = (faults.read_after ≡ faults.read) × Rose faults.write faults.write_after
CountsTell _ faults = (faults.read_after ≡ faults.read) × (faults.write_after ≡ faults.write)

-- no read and no write failed
pub record HasNoFault (faults : Faults) : Type 0 where
  pub reads : ¬ Rose faults.read faults.read_after
  pub writes : ¬ Rose faults.write faults.write_after

-- no read and no write failed, and the source told at most 2^30 bytes
pub record IsCalm (left : Option (List ℕ)) (faults : Faults) : Type 0 where
  pub no_fault : HasNoFault faults
  pub within : IsSomeAnd left (λ input. length input ≤ MOST_BYTES)

-- the input was read to its end, or memory was wanting
abbrev pub IsDoneOrWanting : Ended → Type 0
IsDoneOrWanting ended = HasVerdict ended ⊎ (ended ≡ NoMemory)
