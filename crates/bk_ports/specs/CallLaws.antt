-- What follows for the order of reads and writes from how runs end. Statements alone; each is proved apart.
use Rattle.std.specs.Prelude.{◌≡◌, ℕ, Bool, List, [], Some}
use Rattle.bk_ports.specs.Calls.{Call, EndsAsSaid, GiveAllBytes, MakesCalls, Program, bytes_given, bytes_written}
use Rattle.bk_ports.specs.Calls.{failed_reads, failed_writes, reads, writes}
use Rattle.bk_ports.specs.Ending.{Output}
use Rattle.bk_ports.specs.Lines.{closed_lines}

-- before each read, what stands written is what is written for the lines whose line feed was taken: each of them is
-- answered, and nothing else is written
abbrev pub EachLineIsAnsweredBeforeTheNextRead : Output → Type 0
EachLineIsAnsweredBeforeTheNextRead output = (program : Program) → EndsAsSaid output program
    → (calls : List Call) (rest : List ℕ) (room : ℕ) (on : List ℕ → Program) (otherwise : Program)
    → MakesCalls program calls (reads room on otherwise) → GiveAllBytes calls rest
    → (refused : Bool) × output.lines (closed_lines [] (bytes_given calls)) refused (Some [])
    (Some (bytes_written calls))

-- once a read failed nothing is written, and once a write failed nothing is read
abbrev pub AfterAFailedCallTheOtherStreamIsLeft : Output → Type 0
AfterAFailedCallTheOtherStreamIsLeft output = (program : Program) → EndsAsSaid output program
    → (calls : List Call) (rest : List ℕ) → GiveAllBytes calls rest
    → ((piece : List ℕ) (on otherwise : Program) → MakesCalls program calls (writes piece on otherwise)
    → failed_reads calls ≡ 0)
    × ((room : ℕ) (on : List ℕ → Program) (otherwise : Program) → MakesCalls program calls (reads room on otherwise)
    → failed_writes calls ≡ 0)
