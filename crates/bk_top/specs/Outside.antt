-- What stands outside a run: the source that it reads, `out` and `err`. And the status for each ending of a run over
-- lines.
-- Example (RunExamples): a run that took more than 2^30 bytes has status 7.
use Rattle.std.specs.Prelude.{List, Option, ℕ}
use Rattle.bk_ports.specs.Ending.{Streams, streams_told}
use Rattle.bk_ports.specs.Faults.{Faults, faults_told}
use Rattle.bk_ports.specs.declared.Ended.{Ended}
use Rattle.bk_ports.specs.declared.Ended.TheVariants.{NoMemory, NoneRefused, ReadFailed, SomeRefused, TooMany}
use Rattle.bk_ports.specs.declared.Ended.TheVariants.{WriteFailed}

-- what is seen of a source or a sink: the bytes that it has left or has taken, where it tells them, and how many of its
-- calls have failed
pub record Port : Type 0 where
  pub bytes : Option (List ℕ)
  pub faults : ℕ

-- what is seen of a source or a sink, by what tells its bytes and what counts its faults
abbrev pub port : {A : Type 0} → (A → Option (List ℕ)) → (A → ℕ) → A → Port
port tells counts a = record { bytes = tells a; faults = counts a }

-- what is seen of the source, of `out` and of `err`
pub record Outside : Type 0 where
  pub source : Port
  pub out : Port
  pub err : Port

-- the source, `out` and `err`, by what is seen of each
abbrev pub outside : Port → Port → Port → Outside
outside source out err = record { source = source; out = out; err = err }

-- what source and `out` tell of their bytes, before and after a run
abbrev pub streams_of : Outside → Outside → Streams
streams_of before after = streams_told before.source.bytes after.source.bytes before.out.bytes after.out.bytes

-- how many calls of source and `out` have failed, before and after a run
abbrev pub faults_of : Outside → Outside → Faults
faults_of before after = faults_told before.source.faults after.source.faults before.out.faults after.out.faults

-- the status for each ending of a run over lines
abbrev pub status_of : Ended → ℕ
status_of NoneRefused = 0
status_of SomeRefused = 1
status_of ReadFailed = 3
status_of WriteFailed = 4
status_of NoMemory = 6
status_of TooMany = 7
