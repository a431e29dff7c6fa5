-- Numbers in ascending order without a gap, written one after another.
use Rattle.std.proofs.Common.{List, [], ap, arith, length, refl, set, suc, sym, take}
use Rattle.std.proofs.Common.{zero, ℕ, ◌++◌, ◌+◌, ◌<◌, ◌∙◌, ◌∷◌, ◌≡◌}
use Rattle.bk_word.specs.Play.{numbers_from}
use Rattle.std.proofs.lemmas.Grind.{take-set_at}

-- one more number
pub numbers-snoc : (n k : ℕ) → numbers_from n (suc k) ≡ numbers_from n k ++ (n + k) ∷ []
numbers-snoc n zero = ap (λ m. m ∷ []) (omega arith)
numbers-snoc n (suc k) = ap (λ (l : List ℕ). n ∷ l) (numbers-snoc (n + 1) k ∙ ap (λ m. numbers_from (n + 1) k ++ m ∷ []) (omega arith))

-- one more of numbers that are written in order
pub numbers_in_order_with_one_more_written : (room : List ℕ) (first next index : ℕ) → index < length room → next ≡ first + index
    → take index room ≡ numbers_from first index → take (index + 1) (set room index next) ≡ numbers_from first (index + 1)
numbers_in_order_with_one_more_written room first next index within e put =
    let more : suc index ≡ index + 1 = omega arith in
    take-set_at room index (index + 1) next refl within ∙ (λ i. put i ++ e i ∷ []) ∙ sym (numbers-snoc first index) ∙ ap (numbers_from first) more
