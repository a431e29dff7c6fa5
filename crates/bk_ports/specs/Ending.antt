-- How a run over lines ends, what was taken then and what stands written. What a run writes is a parameter.
-- Example (EndingExamples): of `a`, a line feed, `!` and a failed read the first line is answered; at the end of the
-- input both are.
use Rattle.std.specs.Prelude.{◌≡◌, ℕ, ◌≤◌, ◌⊎◌, Bool, true, false, List, [], ◌++◌, length, Option}
use Rattle.std.specs.Io.KnownBytes.{Consumes, IsAtEnd}
use Rattle.bk_ports.specs.Lines.{closed_lines, lines_of}
use Rattle.bk_ports.specs.declared.Ended.{Ended}
use Rattle.bk_ports.specs.declared.line.Stop.{Stop}
use Rattle.bk_ports.specs.declared.line.Stop.TheVariants as stops
use Rattle.bk_ports.specs.declared.Ended.TheVariants.{NoneRefused, SomeRefused, ReadFailed, WriteFailed, NoMemory}
use Rattle.bk_ports.specs.declared.Ended.TheVariants.{TooMany}
use Rattle.bk_ports.specs.declared.input.TheConstants.{MOST_BYTES}

-- the bytes that a source has left and that a sink has taken, before and after a run, where they tell them
pub record Streams : Type 0 where
  pub left : Option (List ℕ)
  pub left_after : Option (List ℕ)
  pub written : Option (List ℕ)
  pub written_after : Option (List ℕ)

-- the streams, by what a source tells that it has left, before and after, and a sink that it has taken
abbrev pub streams_told : Option (List ℕ) → Option (List ℕ) → Option (List ℕ) → Option (List ℕ) → Streams
streams_told left left_after written written_after =
    record { left = left; left_after = left_after; written = written; written_after = written_after }

-- the streams of a run: its source and its sink before, and both after, where `left` and `written` say what each tells
-- of its bytes
abbrev pub streams_between : {S O : Type 0} → (S → Option (List ℕ)) → (O → Option (List ℕ)) → S × O → S × O → Streams
streams_between left written before after =
    streams_told (left before.0) (left after.0) (written before.1) (written after.1)

-- what is said of the bytes that a sink has taken, before and after
abbrev pub OfWritten : Type 1
OfWritten = Option (List ℕ) → Option (List ℕ) → Type 0

-- what a run writes
pub record Output : Type 1 where
  -- for all these lines, which it read, and of which some are refused or none
  pub lines : List (List ℕ) → Bool → OfWritten
  -- for these and behind them, where they are all lines of its input
  pub whole : List (List ℕ) → Bool → OfWritten
  -- where a write failed at one of these lines
  pub begun : List (List ℕ) → OfWritten
  -- where a write failed behind them, and they are all lines of its input
  pub begun_behind : List (List ℕ) → OfWritten
  -- where memory was wanting at one of these lines
  pub short : List (List ℕ) → OfWritten

-- the lines that were read where these bytes were taken: those that a line feed ends, and at the end of the input the
-- line that it ends, too
abbrev pub AreRead : Option (List ℕ) → List ℕ → List (List ℕ) → Type 0
AreRead left input lines = (lines ≡ closed_lines [] input) ⊎ (IsAtEnd left × (lines ≡ lines_of input))

-- the whole input was read, and so stands written what is said of all its lines
pub record IsReadWhole (Stands : List (List ℕ) → OfWritten) (streams : Streams) : Type 0 where
  pub input : List ℕ
  pub taken : Consumes streams.left streams.left_after input
  pub at_end : IsAtEnd streams.left_after
  pub within : length input ≤ MOST_BYTES
  pub written : Stands (lines_of input) streams.written streams.written_after

-- a read failed: what is written for the lines whose line feed was taken stands there, and nothing else
pub record IsCutOff (output : Output) (streams : Streams) : Type 0 where
  pub input : List ℕ
  pub taken : Consumes streams.left streams.left_after input
  pub within : length input ≤ MOST_BYTES
  pub refused : Bool
  pub written : output.lines (closed_lines [] input) refused streams.written streams.written_after

-- 2^30 bytes were taken and the next read gave one more: what is written for the lines whose line feed is among the
-- first 2^30 bytes stands there, and nothing else
pub record IsTooMany (output : Output) (streams : Streams) : Type 0 where
  pub first : List ℕ
  pub more : List ℕ
  pub taken : Consumes streams.left streams.left_after (first ++ more)
  pub full : length first ≡ MOST_BYTES
  pub one : length more ≡ 1
  pub refused : Bool
  pub written : output.lines (closed_lines [] first) refused streams.written streams.written_after

-- the run stopped at a line that was read, and so stands written what is said of the lines that were read
pub record IsStoppedAt (Stands : List (List ℕ) → OfWritten) (streams : Streams) : Type 0 where
  pub input : List ℕ
  pub taken : Consumes streams.left streams.left_after input
  pub within : length input ≤ MOST_BYTES
  pub lines : List (List ℕ)
  pub read : AreRead streams.left_after input lines
  pub written : Stands lines streams.written streams.written_after

-- what each ending says
abbrev pub EndsWith : Output → Streams → Ended → Type 0
EndsWith output streams NoneRefused = IsReadWhole (λ lines. output.whole lines false) streams
EndsWith output streams SomeRefused = IsReadWhole (λ lines. output.whole lines true) streams
EndsWith output streams ReadFailed = IsCutOff output streams
EndsWith output streams WriteFailed = IsStoppedAt output.begun streams ⊎ IsReadWhole output.begun_behind streams
EndsWith output streams NoMemory = IsStoppedAt output.short streams
EndsWith output streams TooMany = IsTooMany output streams

-- how a run ends that read its input to the end, where some of it is refused or none
abbrev pub verdict_of : Bool → Ended
verdict_of true = SomeRefused
verdict_of false = NoneRefused

-- how a run ends whose lines could not all be answered
abbrev pub ended_of : Stop → Ended
ended_of stops.WriteFailed = WriteFailed
ended_of stops.NoMemory = NoMemory

-- the input was read to its end
abbrev pub HasVerdict : Ended → Type 0
HasVerdict ended = (refused : Bool) × (ended ≡ verdict_of refused)
