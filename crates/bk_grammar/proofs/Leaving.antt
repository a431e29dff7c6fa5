-- Where bytes leave a grammar, for a reader that looks at no byte past that place.
use Rattle.std.specs.Prelude.{List, [], drop, length, suc, take, ℕ, ◌++◌, ◌<◌, ◌∷◌, ◌≡◌, ◌≤◌}
use Rattle.std.proofs.Common.{ap, append_assoc, arith, get_or, inl, inr, subst, sym, ◌∙◌}
use Rattle.std.proofs.Math.Seq.{take-suc}
use Rattle.std.proofs.lemmas.Bool.{cases_lt}
use Rattle.std.proofs.lemmas.List.{take-append-drop, take-take, take_all}
use Rattle.bk_grammar.specs.Longest.{Begins, LeavesAt}

-- what begins a text with more bytes begins one without them
pub begins_shorter : (Grammar : List ℕ → Type 0) (bs more : List ℕ) → Begins Grammar (bs ++ more) → Begins Grammar bs
begins_shorter Grammar bs more (rest, h) = (more ++ rest, subst Grammar (append_assoc bs more rest) h)

-- bytes that begin a text up to a place, and begin none with the byte there, leave the grammar there
pub leaves_before : (Grammar : List ℕ → Type 0) (bs : List ℕ) (at : ℕ) → at < length bs → Begins Grammar (take at bs)
    → ((x : List ℕ) → ¬ (Grammar (take at bs ++ get_or bs at 0 ∷ x)))
    → LeavesAt Grammar bs at
leaves_before Grammar bs at within begins none =
    let front : take (suc at) bs ≡ take at bs ++ get_or bs at 0 ∷ [] = take-suc bs at 0 within in
    let whole : bs ≡ take at bs ++ get_or bs at 0 ∷ drop (suc at) bs =
    sym (take-append-drop (suc at) bs) ∙ ap (λ z. z ++ drop (suc at) bs) front ∙ append_assoc (take at bs) (get_or bs at 0 ∷ []) (drop (suc at) bs) in (
      λ h. none (drop (suc at) bs) (subst Grammar whole h),
      record { inside = omega arith; begins = begins; longest = λ longer few h. longest front longer few h },
    )
  where
    longest : take (suc at) bs ≡ take at bs ++ get_or bs at 0 ∷ [] → (longer : ℕ) → longer ≤ length bs → Begins Grammar (take longer bs) → longer ≤ at
    longest front longer few h = elim (cases_lt at longer) [
      | inl above ↦ (
          let cut : take longer bs ≡ take (suc at) bs ++ drop (suc at) (take longer bs) =
          sym (take-append-drop (suc at) (take longer bs)) ∙ ap (λ z. z ++ drop (suc at) (take longer bs)) (take-take (suc at) longer bs above) in
          let shorter : Begins Grammar (take at bs ++ get_or bs at 0 ∷ []) =
          subst (Begins Grammar) front (begins_shorter Grammar (take (suc at) bs) (drop (suc at) (take longer bs)) (subst (Begins Grammar) cut h)) in
          absurd (none shorter.0 (subst Grammar (append_assoc (take at bs) (get_or bs at 0 ∷ []) shorter.0) shorter.1)))
      | inr below ↦ below
    ]

-- bytes that begin a text, and are none, leave the grammar at their end
pub leaves_at_end : (Grammar : List ℕ → Type 0) (bs : List ℕ) → Begins Grammar bs → ¬ (Grammar bs) → LeavesAt Grammar bs (length bs)
leaves_at_end Grammar bs begins none =
    (none, record { inside = omega arith; begins = subst (Begins Grammar) (sym (take_all (length bs) bs (omega arith))) begins; longest = λ longer few h. few })

-- bytes leave a grammar at one place
pub one_place : (Grammar : List ℕ → Type 0) (bs : List ℕ) (a b : ℕ) → LeavesAt Grammar bs a → LeavesAt Grammar bs b → a ≡ b
one_place Grammar bs a b one two = omega (arith, one.1.longest b two.1.inside two.1.begins, two.1.longest a one.1.inside one.1.begins)
