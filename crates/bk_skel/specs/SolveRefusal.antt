-- Why a word has no answer: which words are refused, and where.
-- Examples (RealisedExamples): 2u.2e.1 is refused for its second move, which wants two signs; 2u leaves two segments,
-- and 2e, which leaves one, is not refused for that.
use Rattle.std.specs.Prelude.{length, take, ℕ, ◌-◌, ◌<◌, ◌≤◌}
use Rattle.bk_word.specs.Play.{IsComplete, IsLegal, outline_of}
use Rattle.bk_word.specs.Word.{Word, order_of}
use Rattle.bk_skel.specs.WideWord.{IsWideWord}
use Rattle.bk_skel.specs.declared.realising.SolveFault.TheVariants.{Illegal, NoMemory, OpenEnd, Wide}
use Rattle.bk_skel.specs.declared.realising.SolveFault.{SolveFault}
use Rattle.bk_word.specs.declared.TheConstants.{INLINE_ORDER}

-- the move at this place, from 1, is the first that isn't legal after those before it
pub record IsFirstIllegal (w : Word) (place : ℕ) : Type 0 where
  pub some : 0 < place
  pub within : place ≤ length w
  pub before : IsLegal (take (place - 1) w)
  pub here : ¬ (IsLegal (take place w))

-- why the word has no answer: its first illegal move; more than one segment that is left; a number that is too large;
-- or memory that is wanting, past 16 squares
abbrev pub IsSolveFault : Word → SolveFault → Type 0
IsSolveFault w (Illegal place) = IsFirstIllegal w place
IsSolveFault w OpenEnd = IsLegal w × (1 < length (outline_of w).segments)
IsSolveFault w Wide = IsComplete w × IsWideWord w
IsSolveFault w NoMemory = IsComplete w × (INLINE_ORDER < order_of w)
