-- What the definition of an answer comes to. Statements alone; they are proved apart.
use Rattle.std.specs.Prelude.{Bool, List, ℕ, ◌↔◌, ◌≡◌}
use Rattle.bk_tiling.specs.Tiling.{Tiling}
use Rattle.bk_ports.specs.Lines.{kept_front}
use Rattle.bk_text.specs.CodeLine.{Line}
use Rattle.bk_answer.specs.Answer.{AnswersLine}
use Rattle.bk_answer.specs.Checked.{Accepts}
use Rattle.bk_answer.specs.Item.{HasItem, IsStatedBy}
use Rattle.bk_answer.specs.declared.command.Command.{Command}
use Rattle.bk_answer.specs.declared.command.Command.TheVariants.{Plain}
use Rattle.bk_answer.specs.declared.plain.PlainCommand.TheVariants.{Check}

-- a line has at most one answer
abbrev pub ALineHasOneAnswer : Type 0
ALineHasOneAnswer = (command : Command) (bytes : List ℕ) (pieces others : List (List ℕ)) (refused other : Bool)
    → AnswersLine command bytes pieces refused → AnswersLine command bytes others other
    → (pieces ≡ others) × (refused ≡ other)

-- what is kept of a line, its first 8,193 bytes, has the answer of the line
abbrev pub AFrontHasTheAnswer : Type 0
AFrontHasTheAnswer = (command : Command) (bytes : List ℕ) (pieces : List (List ℕ)) (refused : Bool)
    → AnswersLine command (kept_front bytes) pieces refused ↔ AnswersLine command bytes pieces refused

-- check accepts a code exactly when its squares tile the stated rectangle in code order: its answer begins with 'ok'
-- where some tiling has the code, the order and the size that the line states, and only there
abbrev pub CheckAcceptsTilings : Type 0
CheckAcceptsTilings = (bytes : List ℕ) (item : Line) (pieces : List (List ℕ)) (refused : Bool)
    → HasItem bytes item → AnswersLine (Plain Check) bytes pieces refused
    → Accepts pieces ↔ (t : Tiling) × IsStatedBy item t
