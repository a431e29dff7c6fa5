-- The signs read so far have their places as digits of the number.
use Rattle.std.proofs.Common.{List, [], ap, arith, get_or, inl, inr, length, length-append, lit<, map, slice_index, subst, sym, ℕ, ◌++◌, ◌+◌, ◌<◌}
use Rattle.std.proofs.Common.{◌∙◌, ◌∷◌, ◌≡◌}
use Rattle.std.proofs.lemmas.Bool.{cases_lt}
use Rattle.std.proofs.lemmas.List.{get_or_append_left, get_or_push, length-map, map_push}
use Rattle.bk_word.specs.Word.{sign_place}
use Rattle.bk_word.specs.declared.Sign.{Sign}
use Rattle.bk_packed.specs.Packed.{digit_at}
use Rattle.bk_packed.proofs.reading.read_signs.Goals as goal

-- one sign more
read_more : (number place i : ℕ) (old new : List Sign) (s : Sign) → length old ≡ i
    → ((k : ℕ) → k < i → digit_at number (place + k) ≡ slice_index (map sign_place old) k) → new ≡ old ++ s ∷ []
    → sign_place s ≡ digit_at number (place + i) → (k : ℕ) → k < i + 1 → digit_at number (place + k) ≡ slice_index (map sign_place new) k
read_more number place i old new s many read is here k low = elim (cases_lt k i) [
  | inl less ↦
      read k less ∙ sym (get_or_append_left (map sign_place old) (sign_place s ∷ []) 0 k (omega (arith, less, many, length-map old sign_place))) ∙ sym all
  | inr more ↦
      let last : k ≡ i = omega (arith, low, more) in
      ap (λ (n : ℕ). digit_at number (place + n)) last ∙ sym here
      ∙ sym (get_or_push (map sign_place old) (sign_place s) 0 k (omega (arith, last, many, length-map old sign_place))) ∙ sym all
]
  where
    all : get_or (map sign_place new) k 0 ≡ get_or (map sign_place old ++ sign_place s ∷ []) k 0
    all = ap (λ (l : List Sign). get_or (map sign_place l) k 0) is ∙ ap (λ (l : List ℕ). get_or l k 0) (map_push sign_place old s)

pub clear-requires : goal.clear-requires
clear-requires c = lit< tt

pub signs-init : goal.signs-init
signs-init c = record { many = ap length c.clear.ensures; read = λ k low. absurd (omega (arith, low)) }

pub overflow_add-place : goal.overflow_add-place
overflow_add-place c = omega (arith, c.requires.room, c.signs-test.true)

pub digit_at-requires : goal.digit_at-requires
digit_at-requires c = omega (arith, c.requires.room, c.signs-test.true)

pub sign_of-requires : goal.sign_of-requires
sign_of-requires c = subst (λ (n : ℕ). n < 3) (sym c.digit_at.ensures) (c.requires.digits c.signs.i c.signs-test.true)

pub push-requires : goal.push-requires
push-requires c = (lit< tt, omega (arith, c.requires.room, c.signs-test.true, c.signs.invariant.many))

pub signs-preserved : goal.signs-preserved
signs-preserved c = record {
  many = omega (arith, ap length c.push.ensures.items, length-append c.signs.signs.items (c.sign_of.result ∷ []), c.signs.invariant.many);
  read =
      read_more c.args.number c.args.place c.signs.i c.signs.signs.items c.push.new.self.items c.sign_of.result c.signs.invariant.many
      c.signs.invariant.read c.push.ensures.items (c.sign_of.ensures ∙ c.digit_at.ensures);
}

pub returns-clause-many : goal.returns-clause-many
returns-clause-many c = omega (arith, c.signs.invariant.many, c.signs-test.false, c.signs.auto.i-end)

pub returns-clause-read : goal.returns-clause-read
returns-clause-read c k low =
    c.signs.invariant.read k (omega (arith, low, c.signs.invariant.many, length-map c.signs.signs.items sign_place))
