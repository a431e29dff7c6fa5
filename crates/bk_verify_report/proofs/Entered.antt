-- What stands written once a line is entered, or was begun.
use Rattle.std.specs.Prelude.{Option, take}
use Rattle.std.specs.Io.KnownBytes.{Appends}
use Rattle.std.proofs.KnownBytes.{Appends-nil}
use Rattle.std.proofs.Common.{Bool, List, [], append-nil, subst, sym, ℕ, ◌∙◌, ◌∷◌, ◌≡◌}
use Rattle.bk_ports.specs.Causes.{AppendsPrefix}
use Rattle.bk_ports.specs.WrittenAnswer.{IsAnswerBegun, IsWritten}
use Rattle.bk_verify_report.specs.ListLine.{EntersLine}
use Rattle.bk_verify_report.specs.declared.entering.Verifying.{Verifying}

-- the line is entered so, and what was written is this
module _ (s : Verifying) (number : ℕ) (line : List ℕ) (is_refused : Bool) (next : Verifying) (a b : Option (List ℕ)) where
  -- a line that is entered without a piece is written with nothing added
  pub line_entered_without_a_piece : EntersLine s number line (record { pieces = []; refused = is_refused }) next → b ≡ a
      → IsWritten (λ pieces refused. EntersLine s number line (record { pieces = pieces; refused = refused }) next) a b is_refused
  line_entered_without_a_piece enters same = record {
    pieces = [];
    answer = enters;
    written = subst (λ (c : Option (List ℕ)). Appends a c []) (sym same) (Appends-nil a);
  }

  module _ (piece bytes : List ℕ) (is : bytes ≡ piece) (enters : EntersLine s number line (record { pieces = piece ∷ []; refused = is_refused }) next) where
    pub written_one : Appends a b bytes
        → IsWritten (λ pieces refused. EntersLine s number line (record { pieces = pieces; refused = refused }) next) a b is_refused
    written_one p = record { pieces = piece ∷ []; answer = enters; written = subst (Appends a b) (is ∙ sym (append-nil piece)) p }

    pub begun_one : AppendsPrefix a b bytes
        → IsAnswerBegun (λ pieces refused. (last : Verifying) × EntersLine s number line (record { pieces = pieces; refused = refused }) last) a b
    begun_one p = record {
      pieces = piece ∷ [];
      refused = is_refused;
      answer = (next, enters);
      written = (p.0, subst (λ (l : List ℕ). Appends a b (take p.0 l)) (is ∙ sym (append-nil piece)) p.1);
    }
