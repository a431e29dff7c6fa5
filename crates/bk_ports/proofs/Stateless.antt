-- Where the reply to a line rests on the line alone, a run that enters lines is one that answers them.
use Rattle.std.proofs.Common.{ℕ, ◌+◌, Bool, List, [], ◌∷◌, length, Option}
use Rattle.std.proofs.Common.{sym, subst}
use Rattle.std.specs.Prelude.{Err, Ok, OnErr, Result}
use Rattle.bk_ports.specs.Reply.{Reply, AreReplies}
use Rattle.bk_ports.specs.Lines.{kept_front}
use Rattle.bk_ports.specs.WrittenAnswer.{IsAnswerBegun}
use Rattle.bk_ports.specs.Answered.{AreAnswered, AreBegun, AreCutShort, Replies, answers_of}
use Rattle.bk_ports.specs.Ending.{EndsWith, Streams}
use Rattle.bk_ports.specs.Entering.{AreAllEntered, AreEntered, CanBeEntered, Entering, MayWantBehind, entering_from, entries_of}
use Rattle.bk_ports.specs.declared.Ended.{Ended}
use Rattle.bk_ports.proofs.OtherOutputs.{ends_as}

-- as long as the state serves, a line is entered as it is answered
pub record AnswersAlike {State : Type 0} (rules : Entering State) (serves : State → Type 0) (answers : Replies) : Type 0 where
  pub reply : (s l : State) (n : ℕ) (line : List ℕ) (pieces : List (List ℕ)) (refused : Bool) → serves s
      → rules.enters s n (kept_front line) pieces refused l → answers.answers line pieces refused
  pub goes_on : (s l : State) (n : ℕ) (line : List ℕ) (pieces : List (List ℕ)) (refused : Bool) → serves s
      → rules.enters s n (kept_front line) pieces refused l → serves l
  pub wants : (s : State) (n : ℕ) (line : List ℕ) → serves s → rules.may_want s n (kept_front line) → answers.may_want line

module _ {State : Type 0} (rules : Entering State) (serves : State → Type 0) (answers : Replies) (alike : AnswersAlike rules serves answers) where
  replies : (s l : State) (n : ℕ) (lines : List (List ℕ)) (rs : List Reply) → serves s → AreEntered (entering_from rules s n) lines rs l
      → AreReplies answers.answers lines rs
  replies s l n [] [] served are = tt
  replies s l n [] (r ∷ rs) served are = absurd are
  replies s l n (x ∷ xs) [] served are = absurd are
  replies s l n (x ∷ xs) (r ∷ rs) served are = (
    alike.reply s are.0 n x r.pieces r.refused served are.1,
    replies are.0 l (n + 1) xs rs (alike.goes_on s are.0 n x r.pieces r.refused served are.1) are.2,
  )

  served_last : (s l : State) (n : ℕ) (lines : List (List ℕ)) (rs : List Reply) → serves s → AreEntered (entering_from rules s n) lines rs l → serves l
  served_last s l n [] [] served are = subst serves (sym are) served
  served_last s l n [] (r ∷ rs) served are = absurd are
  served_last s l n (x ∷ xs) [] served are = absurd are
  served_last s l n (x ∷ xs) (r ∷ rs) served are =
      served_last are.0 l (n + 1) xs rs (alike.goes_on s are.0 n x r.pieces r.refused served are.1) are.2

  all_answered : (s l : State) (n : ℕ) (lines : List (List ℕ)) (a b : Option (List ℕ)) (p : Bool) → serves s
      → AreAllEntered (entering_from rules s n) l lines p a b
      → AreAnswered (AreReplies answers.answers) lines p a b
  all_answered s l n lines a b p served h = record { replies = h.replies; each = replies s l n lines h.replies served h.each; written = h.written; any = h.any }

  begun : (s : State) (n : ℕ) (lines : List (List ℕ)) (a b : Option (List ℕ)) → serves s → AreBegun (CanBeEntered (entering_from rules s n)) lines a b
      → AreBegun (AreReplies answers.answers) lines a b
  begun s n lines a b served h = record {
    begun = h.begun;
    unseen = h.unseen;
    split = h.split;
    replies = h.replies;
    each = replies s h.each.0 n h.begun h.replies served h.each.1;
    written = h.written;
  }

  short : (s : State) (n : ℕ) (lines : List (List ℕ)) (a b : Option (List ℕ)) → serves s → AreCutShort (MayWantBehind (entering_from rules s n)) lines a b
      → AreCutShort (λ done given line. AreReplies answers.answers done given × answers.may_want line) lines a b
  short s n lines a b served h = record {
    done = h.done;
    line = h.line;
    unseen = h.unseen;
    split = h.split;
    replies = h.replies;
    cause = (
      replies s h.cause.0 n h.done h.replies served h.cause.1,
      alike.wants h.cause.0 (n + length h.done) h.line (served_last s h.cause.0 n h.done h.replies served h.cause.1) h.cause.2,
    );
    written = h.written;
  }

  -- each ending of the one is the same ending of the other
  pub ends_alike : (s l : State) (streams : Streams) (ended : Ended) → serves s → EndsWith (entries_of (entering_from rules s 1) l) streams ended
      → EndsWith (answers_of answers) streams ended
  ends_alike s l streams ended served =
      ends_as (entries_of (entering_from rules s 1) l) (answers_of answers)
      (record {
        stops = record {
          lines = λ lines p a b. all_answered s l 1 lines a b p served;
          begun = λ lines a b. begun s 1 lines a b served;
          begun_behind = λ lines a b none. absurd none;
          short = λ lines a b. short s 1 lines a b served;
        };
        whole = λ lines p a b. all_answered s l 1 lines a b p served;
      })
      streams ended

-- a reply that was begun, and the state that would follow
pub begun_in_state : {T E State : Type 0} (r : Result T E) (answers : List (List ℕ) → Bool → Type 0) (follows : State → Type 0) (l : State)
    (a b : Option (List ℕ))
    → follows l → OnErr r (IsAnswerBegun answers a b) → OnErr r (IsAnswerBegun (λ pieces refused. (x : State) × (answers pieces refused × follows x)) a b)
begun_in_state (Ok v) answers follows l a b f h = tt
begun_in_state (Err e) answers follows l a b f h = record { pieces = h.pieces; refused = h.refused; answer = (l, (h.answer, f)); written = h.written }
