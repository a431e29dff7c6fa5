-- Where each of some replies is one of others, a run by the first is a run by the others.
use Rattle.std.proofs.Common.{Bool, List, Option, [], ℕ, ◌∷◌}
use Rattle.bk_ports.specs.Answered.{AreAnswered, AreBegun, AreCutShort, Replies, answers_of}
use Rattle.bk_ports.specs.Ending.{EndsWith, Streams}
use Rattle.bk_ports.specs.Reply.{AreReplies, Reply}
use Rattle.bk_ports.specs.declared.Ended.{Ended}
use Rattle.bk_ports.proofs.OtherOutputs.{ends_as}

-- each of some replies is one of others, and so is each line at which memory may be wanting
pub record AreWithin (replies others : Replies) : Type 0 where
  pub reply : (line : List ℕ) (pieces : List (List ℕ)) (refused : Bool) → replies.answers line pieces refused
      → others.answers line pieces refused
  pub wants : (line : List ℕ) → replies.may_want line → others.may_want line

module _ (replies others : Replies) (within : AreWithin replies others) where
  others_reply : (lines : List (List ℕ)) (rs : List Reply) → AreReplies replies.answers lines rs → AreReplies others.answers lines rs
  others_reply [] [] are = tt
  others_reply [] (r ∷ rs) are = absurd are
  others_reply (x ∷ xs) [] are = absurd are
  others_reply (x ∷ xs) (r ∷ rs) are = (within.reply x r.pieces r.refused are.0, others_reply xs rs are.1)

  answered : (lines : List (List ℕ)) (a b : Option (List ℕ)) (p : Bool) → AreAnswered (AreReplies replies.answers) lines p a b
      → AreAnswered (AreReplies others.answers) lines p a b
  answered lines a b p h =
      record { replies = h.replies; each = others_reply lines h.replies h.each; written = h.written; any = h.any }

  begun : (lines : List (List ℕ)) (a b : Option (List ℕ)) → AreBegun (AreReplies replies.answers) lines a b
      → AreBegun (AreReplies others.answers) lines a b
  begun lines a b h = record {
    begun = h.begun;
    unseen = h.unseen;
    split = h.split;
    replies = h.replies;
    each = others_reply h.begun h.replies h.each;
    written = h.written;
  }

  short : (lines : List (List ℕ)) (a b : Option (List ℕ))
      → AreCutShort (λ done given line. AreReplies replies.answers done given × replies.may_want line) lines a b
      → AreCutShort (λ done given line. AreReplies others.answers done given × others.may_want line) lines a b
  short lines a b h = record {
    done = h.done;
    line = h.line;
    unseen = h.unseen;
    split = h.split;
    replies = h.replies;
    cause = (others_reply h.done h.replies h.cause.0, within.wants h.line h.cause.1);
    written = h.written;
  }

  -- a run that ends by some replies ends by others that each of them is one of
  pub ends_by_any_wider_replies : (streams : Streams) (ended : Ended) → EndsWith (answers_of replies) streams ended → EndsWith (answers_of others) streams ended
  ends_by_any_wider_replies =
      ends_as (answers_of replies) (answers_of others)
      (record {
        stops = record { lines = λ lines p a b. answered lines a b p; begun = begun; begun_behind = λ lines a b none. absurd none; short = short };
        whole = λ lines p a b. answered lines a b p;
      })
