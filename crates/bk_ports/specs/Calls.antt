-- A program that uses a source and a sink, seen from outside by the calls that it makes one after another, whatever
-- each of them gives.
-- Example (CallExamples): a program that reads twice before it answers the first line isn't one whose runs end as said.
use Rattle.std.specs.Prelude.{◌≡◌, ℕ, ◌+◌, ◌≤◌, List, [], ◌∷◌, ◌++◌, Some, flat_map, length, take, ⊤}
use Rattle.bk_ports.specs.Ending.{EndsWith, Output, Streams, streams_told}
use Rattle.bk_ports.specs.Faults.{CountsTell, Faults, faults_told}
use Rattle.bk_ports.specs.declared.Ended.{Ended}

-- a program: what it does next, and how it goes on
pub data Program : Type 0 where
  -- it ends
  ends : Ended → Program
  -- it reads with room for so many bytes, and goes on by the bytes that come, or otherwise if the read fails
  reads : ℕ → (List ℕ → Program) → Program → Program
  -- it writes a piece, and goes on, or otherwise if the write fails
  writes : List ℕ → Program → Program → Program

-- a call as it went
pub data Call : Type 0 where
  -- a read gave these bytes
  gave : List ℕ → Call
  -- a read failed, and nothing was taken
  gave_nothing : Call
  -- a write took its whole piece
  took : List ℕ → Call
  -- a write failed, and kept these bytes of its piece
  kept : List ℕ → Call

-- the program may make these calls, which go so, and then goes on as another
abbrev pub MakesCalls : Program → List Call → Program → Type 0
MakesCalls program [] next = next ≡ program
MakesCalls (reads room on otherwise) (gave bytes ∷ calls) next = (length bytes ≤ room) × MakesCalls (on bytes) calls next
MakesCalls (reads room on otherwise) (gave_nothing ∷ calls) next = MakesCalls otherwise calls next
MakesCalls (writes piece on otherwise) (took bytes ∷ calls) next = (bytes ≡ piece) × MakesCalls on calls next
MakesCalls (writes piece on otherwise) (kept bytes ∷ calls) next = ((n : ℕ) × (bytes ≡ take n piece))
    × MakesCalls otherwise calls next
MakesCalls _ (call ∷ calls) next = ⊥

-- the bytes that a call took from the source
abbrev pub given_by : Call → List ℕ
given_by (gave bytes) = bytes
given_by _ = []

-- the bytes that a call left with the sink
abbrev pub written_by : Call → List ℕ
written_by (took bytes) = bytes
written_by (kept bytes) = bytes
written_by _ = []

-- all bytes that calls took from the source
abbrev pub bytes_given : List Call → List ℕ
bytes_given calls = flat_map given_by calls

-- all bytes that calls left with the sink
abbrev pub bytes_written : List Call → List ℕ
bytes_written calls = flat_map written_by calls

-- how many reads among these calls failed
abbrev pub failed_reads : List Call → ℕ
failed_reads [] = 0
failed_reads (gave_nothing ∷ calls) = failed_reads calls + 1
failed_reads (gave bytes ∷ calls) = failed_reads calls
failed_reads (took bytes ∷ calls) = failed_reads calls
failed_reads (kept bytes ∷ calls) = failed_reads calls

-- how many writes among these calls failed
abbrev pub failed_writes : List Call → ℕ
failed_writes [] = 0
failed_writes (kept bytes ∷ calls) = failed_writes calls + 1
failed_writes (gave bytes ∷ calls) = failed_writes calls
failed_writes (gave_nothing ∷ calls) = failed_writes calls
failed_writes (took bytes ∷ calls) = failed_writes calls

-- a read gives no byte only at the end of the input, where `rest` is what the source has left behind these calls
abbrev pub GiveAllBytes : List Call → List ℕ → Type 0
GiveAllBytes [] rest = ⊤
GiveAllBytes (gave [] ∷ calls) rest = (bytes_given calls ++ rest ≡ []) × GiveAllBytes calls rest
GiveAllBytes (gave (b ∷ bs) ∷ calls) rest = GiveAllBytes calls rest
GiveAllBytes (gave_nothing ∷ calls) rest = GiveAllBytes calls rest
GiveAllBytes (took bytes ∷ calls) rest = GiveAllBytes calls rest
GiveAllBytes (kept bytes ∷ calls) rest = GiveAllBytes calls rest

-- the streams of a run with these calls, whose sink had no bytes before
abbrev pub streams_by : List Call → List ℕ → Streams
streams_by calls rest =
    streams_told (Some (bytes_given calls ++ rest)) (Some rest) (Some []) (Some (bytes_written calls))

-- the counts of a run with these calls, where each that fails counts one
abbrev pub faults_by : List Call → Faults
faults_by calls = faults_told 0 (failed_reads calls) 0 (failed_writes calls)

-- each run of the program ends as `enter_lines` and `answer_lines` do, whatever its calls give, and whichever of them
-- fail
abbrev pub EndsAsSaid : Output → Program → Type 0
EndsAsSaid output program = (calls : List Call) (rest : List ℕ) (ended : Ended) → MakesCalls program calls (ends ended)
    → GiveAllBytes calls rest → EndsWith output (streams_by calls rest) ended × CountsTell ended (faults_by calls)
