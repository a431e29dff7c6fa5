-- What stands written when lines are answered one after another. `AreReplied` says which replies lines may have, and
-- `before` and `after` are the bytes that a sink has taken, where it tells them.
-- Example (EndingExamples): where a line is answered by itself and refused where it begins with `!`, of `a` and `!`
-- some are refused.
use Rattle.std.specs.Prelude.{◌≡◌, ℕ, Bool, List, ◌∷◌, ◌++◌, Option, Result, Ok, Err}
use Rattle.std.specs.Io.KnownBytes.{Appends}
use Rattle.bk_ports.specs.Causes.{AppendsPrefix, Rose}
use Rattle.bk_ports.specs.Ending.{Output}
use Rattle.bk_ports.specs.Lines.{kept_front}
use Rattle.bk_ports.specs.Reply.{Reply, AreReplies, text_of, some_refused}
use Rattle.bk_ports.specs.declared.line.Stop.{Stop}
use Rattle.bk_ports.specs.declared.line.Stop.TheVariants.{WriteFailed, NoMemory}

-- which replies a line may have, and at which lines memory may be wanting
pub record Replies : Type 1 where
  pub answers : List ℕ → List (List ℕ) → Bool → Type 0
  pub may_want : List ℕ → Type 0

-- lines that are answered as what is kept of them
abbrev pub of_fronts : Replies → Replies
of_fronts replies = record {
  answers = λ line. replies.answers (kept_front line);
  may_want = λ line. replies.may_want (kept_front line);
}

-- all these lines have replies as said, and some of them are refused or none
pub record AreAnswered (AreReplied : List (List ℕ) → List Reply → Type 0) (lines : List (List ℕ)) (refused : Bool)
    (before after : Option (List ℕ)) : Type 0 where
  pub replies : List Reply
  pub each : AreReplied lines replies
  pub written : Appends before after (text_of replies)
  pub any : some_refused replies ≡ refused

-- a write failed: what was written is the beginning of the replies to the first of these lines
pub record AreBegun (AreReplied : List (List ℕ) → List Reply → Type 0) (lines : List (List ℕ))
    (before after : Option (List ℕ)) : Type 0 where
  pub begun : List (List ℕ)
  pub unseen : List (List ℕ)
  pub split : lines ≡ begun ++ unseen
  pub replies : List Reply
  pub each : AreReplied begun replies
  pub written : AppendsPrefix before after (text_of replies)

-- memory was wanting at one of these lines, as said of the lines before it, of their replies, and of that line: the
-- replies to the lines before it were written, and nothing else
pub record AreCutShort (IsWantingAt : List (List ℕ) → List Reply → List ℕ → Type 0) (lines : List (List ℕ))
    (before after : Option (List ℕ)) : Type 0 where
  pub done : List (List ℕ)
  pub line : List ℕ
  pub unseen : List (List ℕ)
  pub split : lines ≡ done ++ line ∷ unseen
  pub replies : List Reply
  pub cause : IsWantingAt done replies line
  pub written : Appends before after (text_of replies)

-- what a run writes that answers lines, and nothing behind them: where a write failed, a beginning of the answers to
-- the first lines read; and where memory was wanting, the answers to all lines before
abbrev pub answers_of : Replies → Output
answers_of replies = record {
  lines = AreAnswered (AreReplies replies.answers);
  whole = AreAnswered (AreReplies replies.answers);
  begun = AreBegun (AreReplies replies.answers);
  begun_behind = λ lines before after. ⊥;
  short = AreCutShort (λ done given line. AreReplies replies.answers done given × replies.may_want line);
}

-- a sink's count of faults rose exactly where a write failed
abbrev pub CountFits : {T : Type 0} → ℕ → ℕ → Result T Stop → Type 0
CountFits before now (Ok _) = now ≡ before
CountFits before now (Err WriteFailed) = Rose before now
CountFits before now (Err NoMemory) = now ≡ before
