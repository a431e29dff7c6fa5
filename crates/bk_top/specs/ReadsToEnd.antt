-- Runs that read lines to the end of their input: those of the commands that answer lines, and of `verify`, `alike` and
-- `pair`.
-- Example (RunExamples): of `check` and an input without bytes the status is 0, and nothing is written.
use Rattle.std.specs.Prelude.{List, Some, length, ℕ, ◌<◌, ◌≡◌, ◌≢◌, ◌≤◌, ◌⊎◌, ◌↔◌}
use Rattle.bk_ports.specs.Answered.{answers_of}
use Rattle.bk_ports.specs.Deciding.{TookTooMany}
use Rattle.bk_ports.specs.Ending.{EndsWith, Output, Streams}
use Rattle.bk_ports.specs.Faults.{CountsTell, Faults, HasNoFault, IsCalm}
use Rattle.bk_ports.specs.Lines.{lines_of}
use Rattle.bk_ports.specs.declared.Ended.{Ended}
use Rattle.bk_ports.specs.declared.input.TheConstants.{MOST_BYTES}
use Rattle.bk_answer.specs.declared.command.Command.{Command}
use Rattle.bk_alike.specs.GroupsEnd.{list_output}
use Rattle.bk_alike.specs.Listed.{HasRefusedLine}
use Rattle.bk_alike.specs.declared.Wanted.{Wanted}
use Rattle.bk_verify_report.specs.Report.{HasFault}
use Rattle.bk_verify_report.specs.VerifyRun.{report_of}
use Rattle.bk_top.specs.DecidedStatus.{IsDecided, replies_of}
use Rattle.bk_top.specs.Outside.{Outside, faults_of, status_of, streams_of}

-- a run that reads lines to their end and writes this output
pub record ReadsToEnd (output : Output) (streams : Streams) (faults : Faults) (status : ℕ) : Type 0 where
  -- the status is that of an ending, by which was read and stands written what it says
  pub ended : Ended
  pub status_is : status ≡ status_of ended
  pub ending : EndsWith output streams ended
  -- a count of faults rose exactly where the run ended for it, whatever is told of the bytes
  pub counts : CountsTell ended faults
  -- where no call fails and at most 2^30 bytes come, all is written, or memory is wanting
  pub complete : IsCalm streams.left faults → (status ≡ 0) ⊎ ((status ≡ 1) ⊎ (status ≡ 6))
  -- where no call fails and more bytes come, the status is 7, or memory is wanting before
  pub more : (input : List ℕ) → streams.left ≡ Some input → MOST_BYTES < length input → HasNoFault faults
      → (status ≡ 7) ⊎ (status ≡ 6)
  -- whatever fails, the status is 7 exactly where more than 2^30 bytes were taken
  pub exactly_7 : (input : List ℕ) → streams.left ≡ Some input → status ≡ 7
      ↔ TookTooMany streams.left streams.left_after

-- the run of a command that answers lines: for each line its answer, of which `check` begins one with `ok` exactly
-- where some tiling has what the line states
pub record AnswersLines (command : Command) (before after : Outside) (status : ℕ) : Type 0 where
  pub reads : ReadsToEnd (answers_of (replies_of command)) (streams_of before after) (faults_of before after) status
  -- where no call fails and at most 2^30 bytes come, the lines decide
  pub decided : (input : List ℕ) → before.source.bytes ≡ Some input → length input ≤ MOST_BYTES
      → HasNoFault (faults_of before after)
      → IsDecided command (lines_of input) status

-- the runs of `alike` and of `pair`
pub record ListsLines (wanted : Wanted) (before after : Outside) (status : ℕ) : Type 0 where
  pub reads : ReadsToEnd (list_output wanted) (streams_of before after) (faults_of before after) status
  -- where no call fails, at most 2^30 bytes come and memory is there, the status is 1 exactly where some line is
  -- refused
  pub exactly_1 : (input : List ℕ) → before.source.bytes ≡ Some input → length input ≤ MOST_BYTES
      → HasNoFault (faults_of before after)
      → status ≢ 6 → status ≡ 1 ↔ HasRefusedLine (lines_of input)

-- the run of `verify`
pub record Verifies (n : ℕ) (before after : Outside) (status : ℕ) : Type 0 where
  pub reads : ReadsToEnd (report_of n) (streams_of before after) (faults_of before after) status
  -- where no call fails, at most 2^30 bytes come and memory is there, the status is 1 exactly where the list and the
  -- catalogue differ
  pub exactly_1 : (input : List ℕ) → before.source.bytes ≡ Some input → length input ≤ MOST_BYTES
      → HasNoFault (faults_of before after)
      → status ≢ 6 → status ≡ 1 ↔ HasFault n (lines_of input)
