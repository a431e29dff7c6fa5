-- Answers of no piece and of one.
use Rattle.std.proofs.Common.{ℕ, Bool, List, [], ◌∷◌, Option, sym, subst}
use Rattle.std.specs.Io.KnownBytes.{Appends}
use Rattle.std.proofs.lemmas.List.{append-nil}
use Rattle.std.proofs.KnownBytes.{Appends-nil}
use Rattle.bk_ports.specs.Causes.{AppendsPrefix}
use Rattle.bk_ports.specs.WrittenAnswer.{IsAnswerBegun, IsWritten}

module _ (answers : List (List ℕ) → Bool → Type 0) (refused : Bool) where
  -- an answer of no piece is written when nothing is added
  pub writes_none : (w : Option (List ℕ)) → answers [] refused → IsWritten answers w w refused
  writes_none w h = record { pieces = []; answer = h; written = Appends-nil w }

  -- an answer of one piece is written when that piece is added
  pub writes_one : (piece : List ℕ) (a b : Option (List ℕ)) → answers (piece ∷ []) refused → Appends a b piece → IsWritten answers a b refused
  writes_one piece a b h written = record {
    pieces = piece ∷ [];
    answer = h;
    written = subst (λ (l : List ℕ). Appends a b l) (sym (append-nil piece)) written;
  }

  -- an answer of one piece is begun when a first part of it is added
  pub begins_one : (piece : List ℕ) (a b : Option (List ℕ)) → answers (piece ∷ []) refused → AppendsPrefix a b piece → IsAnswerBegun answers a b
  begins_one piece a b h written = record {
    pieces = piece ∷ [];
    refused = refused;
    answer = h;
    written = subst (λ (l : List ℕ). AppendsPrefix a b l) (sym (append-nil piece)) written;
  }
