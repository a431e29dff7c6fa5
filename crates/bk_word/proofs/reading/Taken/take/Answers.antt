-- A letter or a dot ends the count before it, and a letter is a sign of the last move.
use Rattle.std.specs.Prelude.{None, Some, [], if◌then◌else◌, ℕ, ◌*◌, ◌++◌, ◌+◌, ◌∷◌, ◌≡◌}
use Rattle.std.proofs.Common.{Bool, ap, false, inl, inr, subst, sym, true, ◌∙◌}
use Rattle.bk_word.specs.Taken.{Before, Count, KeepsWord, Reading, Signs, bare, moves_counted, step, taken, with_sign}
use Rattle.bk_word.specs.Word.{Move, Word}
use Rattle.bk_word.specs.declared.Sign.{Sign}
use Rattle.bk_word.specs.declared.reader.ByteKind.TheVariants.{Digit, Dot, Letter, Other}
use Rattle.bk_word.specs.declared.reading.Taken.{Taken}
use Rattle.bk_word.proofs.reading.Taken.take.Goals as goal

-- what was read is what stands where the test passes
is_there : (test : Bool) (to next : Reading) → (if test then Some to else None) ≡ Some next → to ≡ next
is_there true to next e = cc
is_there false to next e = absurd (cc)

-- a letter
letter_kept : (r next : Reading) (s : Sign) (old mid new : Taken) → step r (Letter s) ≡ Some next → (KeepsWord (taken r) old → KeepsWord (moves_counted r) mid)
    → ((w : Word) (m : Move) → KeepsWord (w ++ m ∷ []) mid → KeepsWord (w ++ with_sign m s ∷ []) new) → KeepsWord (taken r) old → KeepsWord (taken next) new
letter_kept (Before w) next s old mid new e ends signs keeps = absurd (cc)
letter_kept (Count w n) next s old mid new e ends signs keeps =
    let to : Signs w (with_sign (bare n) s) ≡ next = cc in subst (λ (x : Reading). KeepsWord (taken x) new) to (signs w (bare n) (ends keeps))
letter_kept (Signs w m) next s old mid new e ends signs keeps =
    subst (λ (x : Reading). KeepsWord (taken x) new) (is_there _ (Signs w (with_sign m s)) next e) (signs w m (ends keeps))

-- a dot
dot_kept : (r next : Reading) (old new : Taken) → step r Dot ≡ Some next → (KeepsWord (taken r) old → KeepsWord (moves_counted r) new) → KeepsWord (taken r) old
    → KeepsWord (taken next) new
dot_kept (Before w) next old new e ends keeps = absurd (cc)
dot_kept (Count w n) next old new e ends keeps =
    subst (λ (x : Reading). KeepsWord (taken x) new) (is_there _ (Before (w ++ bare n ∷ [])) next e) (ends keeps)
dot_kept (Signs w m) next old new e ends keeps =
    subst (λ (x : Reading). KeepsWord (taken x) new) (is_there _ (Before (w ++ m ∷ [])) next e) (ends keeps)

-- a digit takes no move, and no other byte goes on
digit_takes : (r next : Reading) (d : ℕ) → step r (Digit d) ≡ Some next → taken r ≡ taken next
digit_takes (Before w) next d e = ap taken (is_there _ (Count w d) next e)
digit_takes (Count w n) next d e = ap taken (is_there _ (Count w (n * 10 + d)) next e)
digit_takes (Signs w m) next d e = absurd (cc)

other_stops : (r next : Reading) → step r Other ≡ Some next → ⊥
other_stops (Before w) next e = cc
other_stops (Count w n) next e = cc
other_stops (Signs w m) next e = cc

pub end_count-requires : goal.end_count-requires
end_count-requires c = record { room = c.requires.room }

pub add_sign-requires : goal.add_sign-requires
add_sign-requires c = record { room = c.end_count.ensures.room }

pub end_count-requires-in-Dot : goal.end_count-requires-in-Dot
end_count-requires-in-Dot c = record { room = c.requires.room }

pub returns-in-Letter : goal.returns-in-Letter
returns-in-Letter c = λ r next place e keeps.
    letter_kept r next c.in-Letter.sign c.args.self.now c.end_count.new.self c.add_sign.new.self (ap (step r) (sym c.in-Letter.is) ∙ e)
    (c.end_count.ensures.keeps r place) c.add_sign.ensures keeps

pub returns-in-Dot : goal.returns-in-Dot
returns-in-Dot c = λ r next place e keeps.
    dot_kept r next c.args.self.now c.end_count-in-Dot.new.self (ap (step r) (sym c.in-Dot.is) ∙ e)
    (c.end_count-in-Dot.ensures.keeps r place) keeps

pub returns-in-Digit : goal.returns-in-Digit
returns-in-Digit c = λ r next place e keeps. elim c.in-Digit.is [
  | inl d ↦ subst (λ (w : Word). KeepsWord w c.args.self.now) (digit_takes r next d.0 (ap (step r) (sym d.1) ∙ e)) keeps
  | inr other ↦ absurd (other_stops r next (ap (step r) (sym other) ∙ e))
]
