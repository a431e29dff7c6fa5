-- One line that was entered, or at which a run stopped, taken as the only one of some lines: by the result of the call that entered it.
use Rattle.std.proofs.Common.{◌≡◌, ℕ, ◌+◌, ◌<◌, Bool, List, [], ◌∷◌, length, Option, Result, Ok, Err, IfOk, IfErr}
use Rattle.std.proofs.Common.{refl, sym, subst, arith}
use Rattle.std.specs.List.{concat}
use Rattle.std.specs.Io.KnownBytes.{Appends}
use Rattle.std.proofs.lemmas.List.{append-nil}
use Rattle.std.proofs.Math.Bool.{or-false}
use Rattle.bk_laws.proofs.Bytes.{appends-nothing_where_kept}
use Rattle.bk_ports.specs.Answered.{AreBegun, AreCutShort}
use Rattle.bk_ports.specs.Causes.{AppendsPrefix}
use Rattle.bk_ports.specs.Lines.{kept_front, line_at_end}
use Rattle.bk_ports.specs.WrittenAnswer.{IsAnswerBegun, IsStopped, IsWanting, IsWritten}
use Rattle.bk_ports.specs.Entering.{AreAllEntered, CanBeEntered, Entering, IsEntryStopped, MayWantBehind, entering_from}
use Rattle.bk_ports.specs.declared.line.Stop.{Stop}
use Rattle.bk_ports.specs.declared.line.Stop.TheVariants.{WriteFailed, NoMemory}

-- a line was entered, and what was written for it
abbrev pub IsLineEntered : {State : Type 0} → Entering State → State → State → ℕ → List ℕ → Option (List ℕ) → Option (List ℕ) → Bool → Type 0
IsLineEntered rules s l n front a b p = IsWritten (λ pieces refused. rules.enters s n front pieces refused l) a b p

-- a run stopped at a line, and for what
abbrev pub IsLineStopped : {State : Type 0} → Entering State → State → ℕ → List ℕ → Option (List ℕ) → Option (List ℕ) → Stop → Type 0
IsLineStopped {State} rules s n front a b stop =
    IsStopped (λ pieces refused. (l : State) × rules.enters s n front pieces refused l) (rules.may_want s n front) a b stop

-- one line
module _ {State : Type 0} (rules : Entering State) (s : State) (n : ℕ) (line front : List ℕ) (a b : Option (List ℕ)) (e : front ≡ kept_front line) where
  entered_line : (l : State) (p : Bool) → IsLineEntered rules s l n front a b p → AreAllEntered (entering_from rules s n) l (line ∷ []) p a b
  entered_line l p h = record {
    replies = record { pieces = h.pieces; refused = p } ∷ [];
    each = (l, subst (λ (f : List ℕ). rules.enters s n f h.pieces p l) e h.answer, refl);
    written = subst (λ (t : List ℕ). Appends a b t) (sym (append-nil (concat h.pieces))) h.written;
    any = or-false p;
  }

  begun_line : IsAnswerBegun (λ pieces refused. (l : State) × rules.enters s n front pieces refused l) a b
      → AreBegun (CanBeEntered (entering_from rules s n)) (line ∷ []) a b
  begun_line h = record {
    begun = line ∷ [];
    unseen = [];
    split = refl;
    replies = record { pieces = h.pieces; refused = h.refused } ∷ [];
    each = (h.answer.0, (h.answer.0, subst (λ (f : List ℕ). rules.enters s n f h.pieces h.refused h.answer.0) e h.answer.1, refl));
    written = subst (λ (t : List ℕ). AppendsPrefix a b t) (sym (append-nil (concat h.pieces))) h.written;
  }

  wanting_line : IsWanting (rules.may_want s n front) a b → AreCutShort (MayWantBehind (entering_from rules s n)) (line ∷ []) a b
  wanting_line h =
      let same : n ≡ n + 0 = omega arith in
      record {
        done = [];
        line = line;
        unseen = [];
        split = refl;
        replies = [];
        cause = (
          s,
          refl,
          subst (λ (k : ℕ). rules.may_want s k (kept_front line)) same (subst (λ (f : List ℕ). rules.may_want s n f) e h.cause),
        );
        written = appends-nothing_where_kept a b h.kept;
      }

  stopped_line : (stop : Stop) → IsLineStopped rules s n front a b stop → IsEntryStopped (entering_from rules s n) stop (line ∷ []) a b
  stopped_line WriteFailed h = begun_line h
  stopped_line NoMemory h = wanting_line h

  -- by the result of the call that entered it
  pub line_entered : (l : State) (r : Result Bool Stop) → IfOk r (λ p. IsLineEntered rules s l n front a b p)
      → IfOk r (λ p. AreAllEntered (entering_from rules s n) l (line ∷ []) p a b)
  line_entered l (Ok p) h = entered_line l p h
  line_entered l (Err stop) h = tt

  -- a call that stops at a line stops a run over that line
  pub line_stopped : (r : Result Bool Stop) → IfErr r (λ stop. IsLineStopped rules s n front a b stop)
      → IfErr r (λ stop. IsEntryStopped (entering_from rules s n) stop (line ∷ []) a b)
  line_stopped (Ok p) h = tt
  line_stopped (Err stop) h = stopped_line stop h

last_whole : (line : List ℕ) → 0 < length line → line_at_end line ≡ line ∷ []
last_whole [] some = absurd (omega arith)
last_whole (b ∷ bs) some = refl

-- a line at the end of the input, if it has bytes, is entered by the result of its call
module _ {State : Type 0} (rules : Entering State) (s : State) (n : ℕ) (line front : List ℕ) (a b : Option (List ℕ)) (some : 0 < length line)
    (e : front ≡ kept_front line) where
  -- the line was entered
  pub last_entered : (l : State) (r : Result Bool Stop) → IfOk r (λ p. IsLineEntered rules s l n front a b p)
      → IfOk r (λ p. AreAllEntered (entering_from rules s n) l (line_at_end line) p a b)
  last_entered l r h =
      subst (λ (lines : List (List ℕ)). IfOk r (λ p. AreAllEntered (entering_from rules s n) l lines p a b)) (sym (last_whole line some))
      (line_entered rules s n line front a b e l r h)

  -- the run stopped at it
  pub last_stopped : (r : Result Bool Stop) → IfErr r (λ stop. IsLineStopped rules s n front a b stop)
      → IfErr r (λ stop. IsEntryStopped (entering_from rules s n) stop (line_at_end line) a b)
  last_stopped r h =
      subst (λ (lines : List (List ℕ)). IfErr r (λ stop. IsEntryStopped (entering_from rules s n) stop lines a b)) (sym (last_whole line some))
      (line_stopped rules s n line front a b e r h)
