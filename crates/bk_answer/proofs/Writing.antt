-- What is written for a tiling is what is told of it.
use Rattle.std.specs.List.{concat}
use Rattle.std.proofs.Common.{Bool, Err, List, Ok, Option, Result, [], false, inl, inr, subst, sym, ℕ, ◌<◌, ◌∷◌, ◌≡◌, ◌≤◌, ◌⊎◌}
use Rattle.std.specs.Prelude.{IsOk, OnErr, OnOk}
use Rattle.std.specs.Io.KnownBytes.{Appends}
use Rattle.std.proofs.KnownBytes.{Keeps-refl}
use Rattle.bk_laws.proofs.NumberOrder.{le_or_gt}
use Rattle.bk_laws.proofs.Outcomes.{err-not_ok}
use Rattle.bk_ports.specs.Causes.{AppendsPrefix, HasCause}
use Rattle.bk_ports.specs.declared.Failed.{Failed}
use Rattle.bk_ports.proofs.Pieces.{begins_one, writes_one}
use Rattle.bk_ports.specs.declared.Outcome.{Outcome}
use Rattle.bk_ports.specs.declared.Outcome.TheVariants.{NoMemory}
use Rattle.bk_tiling.specs.Tiling.{Tiling, order}
use Rattle.bk_answer.specs.Replies.{IsReplyWith, accepted_if}
use Rattle.bk_answer.specs.Telling.{IsAnswerTo, TellsPieces, tells}
use Rattle.bk_answer.specs.declared.command.Command.{Command}
use Rattle.bk_answer.specs.declared.command.Command.TheVariants.{Plain}
use Rattle.bk_answer.specs.declared.plain.PlainCommand.{PlainCommand}

-- what is told of a tiling by this command
pub by_command : (command this : PlainCommand) (t : Tiling) (pieces : List (List ℕ)) → command ≡ this → IsAnswerTo (Plain this) t pieces
    → IsAnswerTo (Plain command) t pieces
by_command command this t pieces e = subst (λ (c : PlainCommand). IsAnswerTo (Plain c) t pieces) (sym e)

-- what a buffer has is told of a tiling by this command, as one line
pub line_by_command : (command this : PlainCommand) (t : Tiling) (buffer line : List ℕ) → command ≡ this → buffer ≡ line
    → IsAnswerTo (Plain this) t (line ∷ []) → IsAnswerTo (Plain command) t (buffer ∷ [])
line_by_command command this t buffer line e is an =
    by_command command this t (buffer ∷ []) e (subst (λ (l : List ℕ). IsAnswerTo (Plain this) t (l ∷ [])) (sym is) an)

-- one piece is written
module _ {T : Type 0} (A : List (List ℕ) → Bool → Type 0) (V : Type 0) (a b : Option (List ℕ)) where
  one_written : (line piece : List ℕ) (w : Result T Failed) → A (line ∷ []) false → piece ≡ line → OnOk w (Appends a b piece)
      → OnErr w (AppendsPrefix a b piece)
      → IsReplyWith A V a b (accepted_if w)
  one_written line piece (Ok x) an e ok err = writes_one A false line a b an (subst (λ (l : List ℕ). Appends a b l) e ok)
  one_written line piece (Err x) an e ok err = begins_one A false line a b an (subst (λ (l : List ℕ). AppendsPrefix a b l) e err)

  -- one piece of an answer, written whole or in part, is a reply of that answer
  pub piece_replies : (line piece : List ℕ) (w : Result T Failed) (r : Result Outcome Failed) → A (line ∷ []) false → piece ≡ line → OnOk w (Appends a b piece)
      → OnErr w (AppendsPrefix a b piece) → r ≡ accepted_if w → IsReplyWith A V a b r
  piece_replies line piece w r an e ok err is = subst (IsReplyWith A V a b) (sym is) (one_written line piece w an e ok err)

module _ {T : Type 0} (command : Command) (t : Tiling) (V : Type 0) (a b : Option (List ℕ)) where
  -- one piece is told
  pub piece_told : (line piece : List ℕ) (w : Result T Failed) (r : Result Outcome Failed) → IsAnswerTo command t (line ∷ []) → piece ≡ line
      → OnOk w (Appends a b piece)
      → OnErr w (AppendsPrefix a b piece) → r ≡ accepted_if w → IsReplyWith (TellsPieces command t) V a b r
  piece_told line piece w r an = piece_replies (TellsPieces command t) V a b line piece w r (tells (line ∷ []) an)

  -- these pieces are told
  all_told : (pieces : List (List ℕ)) (w : Result T Failed) → IsAnswerTo command t pieces → OnOk w (Appends a b (concat pieces))
      → OnErr w (AppendsPrefix a b (concat pieces))
      → IsReplyWith (TellsPieces command t) V a b (accepted_if w)
  all_told pieces (Ok x) an ok err = record { pieces = pieces; answer = tells pieces an; written = ok }
  all_told pieces (Err x) an ok err = record { pieces = pieces; refused = false; answer = tells pieces an; written = err }

  -- the pieces told of a tiling, written whole or in part, are a reply
  pub pieces_told : (pieces : List (List ℕ)) (w : Result T Failed) (r : Result Outcome Failed) → IsAnswerTo command t pieces
      → OnOk w (Appends a b (concat pieces))
      → OnErr w (AppendsPrefix a b (concat pieces)) → r ≡ accepted_if w → IsReplyWith (TellsPieces command t) V a b r
  pieces_told pieces w r an ok err is = subst (IsReplyWith (TellsPieces command t) V a b) (sym is) (all_told pieces w an ok err)

-- the cause of a call is that of what it wrote
module _ {T : Type 0} (before now : ℕ) where
  cause_if : (w : Result T Failed) → HasCause before now w → HasCause before now (accepted_if w)
  cause_if (Ok x) h = record { later = h.later; ok = h.ok; failed = tt }
  cause_if (Err x) h = record { later = h.later; ok = tt; failed = h.failed }

  -- a write's cause of failing is that of the call that reports it
  pub cause_told : (w : Result T Failed) (r : Result Outcome Failed) → HasCause before now w → r ≡ accepted_if w → HasCause before now r
  cause_told w r h is = subst (HasCause before now) (sym is) (cause_if w h)

-- memory was wanting, which it may past 16 squares
pub wanting_past_16 : {T E : Type 0} (A : List (List ℕ) → Bool → Type 0) (t : Tiling) (r : Result T E) (x : E) (a : Option (List ℕ)) → r ≡ Err x
    → (order t ≤ 16 → IsOk r)
    → IsReplyWith A (16 < order t) a a (Ok NoMemory)
wanting_past_16 A t r x a e inline = record { cause = by (le_or_gt (order t) 16); kept = Keeps-refl a }
  where
    by : (order t ≤ 16) ⊎ (16 < order t) → 16 < order t
    by (inl h) = absurd (err-not_ok r x e (inline h))
    by (inr h) = h
