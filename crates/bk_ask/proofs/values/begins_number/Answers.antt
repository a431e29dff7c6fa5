-- The first byte tells whether the text begins a number, and where that is `0` there must be no other.
use Rattle.std.proofs.Common.{List, [], ap, arith, get_or, inl, inr, length, refl, subst, sym, true≢false, ℕ, ◌<◌, ◌∷◌, ◌≡◌, ◌≤◌, ◌↔◌}
use Rattle.std.proofs.Common.{IsTrue, false, true}
use Rattle.bk_ask.specs.OptionValues.{BeginsNumber}
use Rattle.bk_ask.proofs.values.begins_number.Goals as goal

-- `0` alone
zero_begins : (bytes text : List ℕ) → bytes ≡ text → length bytes < 2 → get_or bytes 0 0 ≡ 48 → IsTrue true ↔ BeginsNumber text
zero_begins bytes text same one is = (λ _. subst BeginsNumber same (inl (alone bytes one is)), λ _. refl)
  where
    alone : (l : List ℕ) → length l < 2 → get_or l 0 0 ≡ 48 → l ≡ 48 ∷ []
    alone [] one is = absurd (omega (arith, is))
    alone (b ∷ []) one is = ap (λ (x : ℕ). x ∷ []) is
    alone (b ∷ d ∷ l) one is = absurd (omega (arith, one))

-- another digit
digit_begins : (bytes text : List ℕ) → bytes ≡ text → 49 ≤ get_or bytes 0 0 → get_or bytes 0 0 ≤ 57 → IsTrue true ↔ BeginsNumber text
digit_begins bytes text same least most = (λ _. subst BeginsNumber same (inr (least, most)), λ _. refl)

-- no text
none_begins : (bytes text : List ℕ) → bytes ≡ text → length bytes < 1 → IsTrue false ↔ BeginsNumber text
none_begins bytes text same none = (λ no. absurd (true≢false (sym no)), λ begins. absurd (nothing bytes none (subst BeginsNumber (sym same) begins)))
  where
    nothing : (l : List ℕ) → length l < 1 → BeginsNumber l → ⊥
    nothing [] none (inl is) = cc
    nothing [] none (inr (least, most)) = omega (arith, least)
    nothing (b ∷ l) none begins = omega (arith, none)

-- a byte that is no digit, or `0` before another
other_begins : (bytes text : List ℕ) → bytes ≡ text → (length bytes ≡ 1 → get_or bytes 0 0 ≡ 48 → ⊥)
    → (49 ≤ get_or bytes 0 0 → get_or bytes 0 0 ≤ 57 → ⊥) → IsTrue false ↔ BeginsNumber text
other_begins bytes text same zero digit = (λ no. absurd (true≢false (sym no)), λ begins. absurd (neither (subst BeginsNumber (sym same) begins)))
  where
    neither : BeginsNumber bytes → ⊥
    neither (inl is) = zero (ap (λ (l : List ℕ). length l) is) (ap (λ (l : List ℕ). get_or l 0 0) is)
    neither (inr (least, most)) = digit least most

pub returns-in-48 : goal.returns-in-48
returns-in-48 c = zero_begins c.as_bytes.result.now c.args.text.now c.as_bytes.ensures.value c.in-48.len_below (omega arith)

pub returns-in-48-2 : goal.returns-in-48-2
returns-in-48-2 c = digit_begins c.as_bytes.result.now c.args.text.now c.as_bytes.ensures.value (omega arith) (omega arith)

pub returns-in-48-3 : goal.returns-in-48-3
returns-in-48-3 c = digit_begins c.as_bytes.result.now c.args.text.now c.as_bytes.ensures.value (omega arith) (omega arith)

pub returns-in_default : goal.returns-in_default
returns-in_default c = none_begins c.as_bytes.result.now c.args.text.now c.as_bytes.ensures.value c.in_default.len_below

pub returns-in_default-2 : goal.returns-in_default-2
returns-in_default-2 c = other_begins c.as_bytes.result.now c.args.text.now c.as_bytes.ensures.value (λ one is. omega arith) (λ least most. omega arith)

pub returns-in_default-3 : goal.returns-in_default-3
returns-in_default-3 c = other_begins c.as_bytes.result.now c.args.text.now c.as_bytes.ensures.value (λ one is. omega arith) (λ least most. omega arith)

pub returns-in_default-4 : goal.returns-in_default-4
returns-in_default-4 c = other_begins c.as_bytes.result.now c.args.text.now c.as_bytes.ensures.value (λ one is. omega arith) (λ least most. omega arith)

pub returns-in_default-5 : goal.returns-in_default-5
returns-in_default-5 c = other_begins c.as_bytes.result.now c.args.text.now c.as_bytes.ensures.value (λ one is. omega arith) (λ least most. omega arith)
