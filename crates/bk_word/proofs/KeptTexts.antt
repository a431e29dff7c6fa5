-- What was taken of a text is the word that it is the text of.
use Rattle.std.specs.List.{AllByRecursion}
use Rattle.std.specs.Prelude.{List, [], length, ℕ, ◌∷◌, ◌<◌, ◌≡◌, ◌≤◌}
use Rattle.std.proofs.Common.{ap, arith, inl, inr, subst, sym, ◌∙◌}
use Rattle.std.proofs.lemmas.Bool.{cases_lt}
use Rattle.bk_word.specs.KeptWord.{CanStand, IsKeptWord}
use Rattle.bk_word.specs.StoredWord.{IsStoredWord, stored, word_in}
use Rattle.bk_word.specs.Taken.{KeepsTextOf}
use Rattle.bk_word.specs.Word.{Word, order_of}
use Rattle.bk_word.specs.WordText.{IsTextOf, IsWrittenMove}
use Rattle.bk_word.specs.declared.reading.Taken.{Taken}
use Rattle.bk_word.proofs.StoredBytes.{stored_bytes_of_a_word_that_can_be_kept}

all_stand : (w : Word) → AllByRecursion IsWrittenMove w → AllByRecursion CanStand w
all_stand [] all = tt
all_stand (m ∷ w) all = (all.0.stands, all_stand w all.1)

-- the word of a text, of at most 200 squares, and its bytes
pub record HasBytes (text bytes : List ℕ) : Type 0 where
  pub is : IsTextOf text (word_in bytes)
  pub are_stored : IsStoredWord bytes
  pub few : order_of (word_in bytes) ≤ 200

-- the bytes taken of a text of at most 200 squares store the word that it is the text of
pub bytes_kept : (text bytes : List ℕ) (t : Taken) → KeepsTextOf text t → t.order ≤ 200 → bytes ≡ t.bytes.items → HasBytes text bytes
bytes_kept text bytes t (w, is, keeps) few same =
    let order : order_of w ≤ 200 = omega (arith, few, keeps.order) in
    let kept : IsKeptWord w = record { moves = all_stand w is.moves; few = order } in
    let s = stored_bytes_of_a_word_that_can_be_kept bytes w (same ∙ keeps.bytes order) kept in
    record { is = subst (IsTextOf text) (sym s.0) is; are_stored = s.1; few = subst (λ (v : Word). order_of v ≤ 200) (sym s.0) order }

-- a word that takes memory has more than 16 squares
pub more_than_sixteen_where_not_few : (w : Word) → (order_of w ≤ 16 → ⊥) → 16 < order_of w
more_than_sixteen_where_not_few w h = elim (cases_lt 16 (order_of w)) [
  | inl more ↦ more
  | inr few ↦ absurd (h few)
]

-- a word of more than 64 bytes is stored in more than 64 bytes
pub many_bytes : (bytes : List ℕ) → IsStoredWord bytes → (length bytes ≤ 64 → ⊥) → 64 < length (stored (word_in bytes))
many_bytes bytes are h = elim (cases_lt 64 (length bytes)) [
  | inl more ↦ omega (arith, more, same)
  | inr few ↦ absurd (h few)
]
  where
    same : length bytes ≡ length (stored (word_in bytes))
    same = ap (λ (z : List ℕ). length z) are.same
