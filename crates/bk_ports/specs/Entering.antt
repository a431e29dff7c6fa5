-- Lines entered one after another in a register, whose state goes on from line to line. Lines are numbered from 1, and
-- all of them count.
-- Example (EndingExamples): the sum of the numbers of the lines is kept: from 10 two lines lead by 11 to 13.
use Rattle.std.specs.Prelude.{◌≡◌, ◌+◌, ℕ, Bool, List, [], ◌∷◌, length}
use Rattle.bk_ports.specs.Answered.{AreAnswered, AreBegun, AreCutShort}
use Rattle.bk_ports.specs.Ending.{OfWritten, Output}
use Rattle.bk_ports.specs.Lines.{kept_front}
use Rattle.bk_ports.specs.Reply.{Reply}
use Rattle.bk_ports.specs.declared.line.Stop.{Stop}
use Rattle.bk_ports.specs.declared.line.Stop.TheVariants.{WriteFailed, NoMemory}

-- how a line is entered, and where memory may be wanting: the state before, the number of the line, and the line; and
-- how it is entered, the pieces that are written, each by one call, whether they are the text of a refusal, and the
-- state after
pub record Entering (State : Type 0) : Type 1 where
  pub enters : State → ℕ → List ℕ → List (List ℕ) → Bool → State → Type 0
  pub may_want : State → ℕ → List ℕ → Type 0

-- lines to be entered: how, the state before the first of them, and its number
pub record EnteringFrom (State : Type 0) : Type 1 where
  pub rules : Entering State
  pub state : State
  pub number : ℕ

-- lines to be entered by these rules, from this state and this number on
abbrev pub entering_from : {State : Type 0} → Entering State → State → ℕ → EnteringFrom State
entering_from rules state number = record { rules = rules; state = state; number = number }

-- lines are entered from there on, each with its reply, and the state goes on to the last one
abbrev pub AreEntered : {State : Type 0} → EnteringFrom State → List (List ℕ) → List Reply → State → Type 0
AreEntered from [] [] last = last ≡ from.state
AreEntered from [] (reply ∷ replies) last = ⊥
AreEntered from (line ∷ lines) [] last = ⊥
AreEntered {State} from (line ∷ lines) (reply ∷ replies) last =
    (next : State) × from.rules.enters from.state from.number (kept_front line) reply.pieces reply.refused next
    × AreEntered (record from { state = next; number = from.number + 1 }) lines replies last

-- lines are entered with these replies, to whatever state
abbrev pub CanBeEntered : {State : Type 0} → EnteringFrom State → List (List ℕ) → List Reply → Type 0
CanBeEntered {State} from lines replies = (last : State) × AreEntered from lines replies last

-- memory may be wanting at a line behind those that are entered with these replies
abbrev pub MayWantBehind : {State : Type 0} → EnteringFrom State → List (List ℕ) → List Reply → List ℕ → Type 0
MayWantBehind {State} from done replies line = (last : State) × AreEntered from done replies last
    × from.rules.may_want last (from.number + length done) (kept_front line)

-- these lines are all entered, some of them refused or none, and the state goes on to the last one
abbrev pub AreAllEntered : {State : Type 0} → EnteringFrom State → State → List (List ℕ) → Bool → OfWritten
AreAllEntered from last = AreAnswered (λ lines replies. AreEntered from lines replies last)

-- why these lines are not all entered
abbrev pub IsEntryStopped : {State : Type 0} → EnteringFrom State → Stop → List (List ℕ) → OfWritten
IsEntryStopped from WriteFailed = AreBegun (CanBeEntered from)
IsEntryStopped from NoMemory = AreCutShort (MayWantBehind from)

-- what a run writes that enters lines in a register, and nothing behind them
abbrev pub entries_of : {State : Type 0} → EnteringFrom State → State → Output
entries_of from last = record {
  lines = AreAllEntered from last;
  whole = AreAllEntered from last;
  begun = AreBegun (CanBeEntered from);
  begun_behind = λ lines before after. ⊥;
  short = AreCutShort (MayWantBehind from);
}
