-- The wires of a word's net, one for each square that was hung: lists side by side, by their places.
use Rattle.std.specs.List.{AllByRecursion}
use Rattle.std.proofs.Common.{List, [], ap, arith, length, map, refl, slice_index_or, suc, zero, zip, ℕ}
use Rattle.std.proofs.Common.{◌+◌, ◌<◌, ◌∙◌, ◌∷◌, ◌≡◌}
use Rattle.bk_laws.proofs.NumberOrder.{holds-of_equal_second}
use Rattle.bk_word.specs.Play.{numbers_from}

-- the wires: from the node of each square to what f gives for its number, the numbers from b on
abbrev pub wires_by : (ℕ → ℕ) → ℕ → List ℕ → List (ℕ × ℕ)
wires_by f b hung = zip hung (map f (numbers_from b (length hung)))

-- what holds of each square's two nodes holds of all wires
pub wires_all : (P : ℕ × ℕ → Type 0) (f : ℕ → ℕ) (b : ℕ) (hung : List ℕ)
    → ((k : ℕ) → k < length hung → P (slice_index_or hung k 0, f (b + k))) → AllByRecursion P (wires_by f b hung)
wires_all P f b [] each = tt
wires_all P f b (v ∷ hung) each = (
  holds-of_equal_second P f v (b + 0) b (omega arith) (each 0 (omega arith)),
  wires_all P f (b + 1) hung (λ k h. holds-of_equal_second P f (slice_index_or hung k 0) (b + suc k) (b + 1 + k) (omega arith) (each (suc k) (omega arith))),
)

-- the wire at a place
pub wires_by-at : (f : ℕ → ℕ) (b : ℕ) (hung : List ℕ) (k : ℕ) (d : ℕ × ℕ) → k < length hung
    → slice_index_or (wires_by f b hung) k d ≡ (slice_index_or hung k 0, f (b + k))
wires_by-at f b [] k d h = absurd (omega arith)
wires_by-at f b (v ∷ hung) zero d h = λ i. (v, f (same i))
  where
    same : b ≡ b + 0
    same = omega arith
wires_by-at f b (v ∷ hung) (suc k) d h = wires_by-at f (b + 1) hung k d (omega arith) ∙ (λ i. (slice_index_or hung k 0, f (same i)))
  where
    same : b + 1 + k ≡ b + suc k
    same = omega arith

-- there is a wire for each square
pub wires_length : (f : ℕ → ℕ) (b : ℕ) (hung : List ℕ) → length (wires_by f b hung) ≡ length hung
wires_length f b [] = refl
wires_length f b (v ∷ hung) = ap suc (wires_length f (b + 1) hung)
