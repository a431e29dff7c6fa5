-- A further count adds to the order, and its byte follows those of the word, as far as the limit.
use Rattle.std.specs.Prelude.{[], ℕ, ◌++◌, ◌+◌, ◌<◌, ◌∷◌, ◌≡◌, ◌≤◌}
use Rattle.std.proofs.Common.{arith, inl, inr, lit<, refl, sym, ◌∙◌}
use Rattle.std.proofs.lemmas.Bool.{cases_lt}
use Rattle.bk_word.specs.Taken.{KeepsWord, bare}
use Rattle.bk_word.specs.Word.{Word}
use Rattle.bk_word.specs.declared.reading.Taken.{Taken}
use Rattle.bk_word.proofs.StoredBytes.{order_one, stored_one}
use Rattle.bk_word.proofs.reading.Taken.add_count.Goals as goal
use Rattle.bk_word.proofs.reading.Taken.add_count.Goals.{in_default-via-in-Ok+else-from-le-LARGEST_ORDER, in_default-via-in_default}

-- what is kept once the byte of a count is pushed
count_kept : (w : Word) (count b : ℕ) (old new : Taken) → new.order ≡ old.order + count → new.order ≤ 200 → b ≡ count
    → new.bytes.items ≡ old.bytes.items ++ b ∷ [] → KeepsWord w old → KeepsWord (w ++ bare count ∷ []) new
count_kept w count b old new sum few byte is keeps = record {
  order = omega (arith, order_one w (bare count), keeps.order, sum, few);
  bytes = λ low. is ∙ (λ i. keeps.bytes (omega (arith, order_one w (bare count), low)) i ++ byte i ∷ []) ∙ sym (stored_one w (bare count));
}

-- nothing is pushed where the order gets too large
count_passed : (w : Word) (count : ℕ) (old new : Taken) → new.order ≡ 201 → 200 < old.order + count → KeepsWord w old → KeepsWord (w ++ bare count ∷ []) new
count_passed w count old new is many keeps = record {
  order = omega (arith, order_one w (bare count), keeps.order, is, many);
  bytes = λ low. absurd (omega (arith, order_one w (bare count), keeps.order, low, many));
}

pub overflow_add-from : goal.overflow_add-from
overflow_add-from c = omega (arith, c.from.type_inv, c.from.ensures, c.from-2.ensures, c.ranges.count.fits)

pub overflow_sub-order : goal.overflow_sub-order
overflow_sub-order c = omega (arith, c.in-Ok.ensures, c.from.ensures)

pub push-requires : goal.push-requires
push-requires c =
    (lit< tt, omega (arith, c.requires.room (omega (arith, c.if-from-le-LARGEST_ORDER.true, c.in-Ok.ensures, c.from.ensures))))

pub returns-in-Ok-clause-keeps : goal.returns-in-Ok-clause-keeps
returns-in-Ok-clause-keeps c = λ w keeps.
    count_kept w c.args.count _ c.args.self.now _ (omega (arith, c.in-Ok.ensures, c.from.ensures, c.from-2.ensures))
    (omega (arith, c.if-from-le-LARGEST_ORDER.true)) (omega (arith, c.in-Ok.ensures, c.from.ensures, c.from-2.ensures)) c.push.ensures.items keeps

pub returns-in-Ok-clause-room : goal.returns-in-Ok-clause-room
returns-in-Ok-clause-room c = λ few.
    omega (arith, c.push.ensures.len, c.requires.room (omega (arith, few, c.in-Ok.ensures, c.from.ensures)))

pub returns-in_default-clause-keeps : goal.returns-in_default-clause-keeps
returns-in_default-clause-keeps c = λ w keeps. count_passed w c.args.count c.args.self.now _ refl
    (elim c.in_default.branch [
      | in_default-via-in-Ok+else-from-le-LARGEST_ORDER v ↦
          omega (arith, v.in-Ok.ensures, v.if-from-le-LARGEST_ORDER.false, c.from.ensures, c.from-2.ensures)
      | in_default-via-in_default v ↦ elim (cases_lt (c.from.result + c.from-2.result) 256) [
        | inl less ↦ absurd (v.in_default.ensures less)
        | inr more ↦ omega (arith, more, c.from.ensures, c.from-2.ensures)
      ]
    ])
    keeps

pub returns-in_default-clause-room : goal.returns-in_default-clause-room
returns-in_default-clause-room c = λ few. absurd (omega (arith, few))
