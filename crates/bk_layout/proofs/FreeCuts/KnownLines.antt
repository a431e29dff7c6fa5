-- The numbers of lines in a word: each square's left line was there before it, its right line is there with it.
use Rattle.std.proofs.Common.{List, Some, [], ap, arith, inl, inr, length, refl, slice_get, slice_index_or, suc, zero, ℕ, ◌+◌, ◌-◌, ◌<◌}
use Rattle.std.proofs.Common.{◌∷◌, ◌≡◌, ◌≤◌, ◌⊎◌}
use Rattle.std.proofs.lemmas.Bool.{cases_lt}
use Rattle.std.proofs.lemmas.Option.{slice_get-get_or}
use Rattle.bk_word.specs.Outline.{Outline, start, valley_of}
use Rattle.bk_word.specs.Play.{after_move}
use Rattle.bk_word.specs.Word.{Move, Word}
use Rattle.bk_layout.proofs.FreeCuts.NumberedLines.{after_long}
use Rattle.bk_layout.specs.LineNumbers.{left_end, new_sides, right_end, sides_after, sides_along, square_lines}
use Rattle.bk_laws.proofs.ListPlaces.{get_either}

-- the lines of the square at place k
abbrev pub AreKnown : ℕ → ℕ × ℕ → Type 0
AreKnown k p = (p.0 < k + 2) × (p.1 < k + 3)

-- each pair of numbers names lines that are known when its square hangs
abbrev pub AllKnown : List (ℕ × ℕ) → Type 0
AllKnown sides = (k : ℕ) (p : ℕ × ℕ) → slice_get sides k ≡ Some p → AreKnown k p

some_pair : (p q : ℕ × ℕ) (k : ℕ) → slice_get (p ∷ []) 0 ≡ Some q → AreKnown k p → AreKnown k q
some_pair p q k e known = let same : p ≡ q = cc in (omega (arith, known.0, ap (λ (z : ℕ × ℕ). z.0) same), omega (arith, known.1, ap (λ (z : ℕ × ℕ). z.1) same))

new_known : (hung count left right : ℕ) → left < hung + 2 → right < hung + 2 → (j : ℕ) (p : ℕ × ℕ)
    → slice_get (new_sides hung count left right) j ≡ Some p → AreKnown (hung + j) p
new_known hung zero left right l r j p e = absurd (cc)
new_known hung (suc zero) left right l r zero p e = some_pair (left, right) p (hung + 0) e (omega arith, omega arith)
new_known hung (suc zero) left right l r (suc j) p e = absurd (cc)
new_known hung (suc (suc more)) left right l r zero p e =
    some_pair (left, suc (suc hung)) p (hung + 0) (ap (λ (z : ℕ × ℕ). Some z) same) (omega arith, omega arith)
  where
    same : (left, suc (suc hung)) ≡ p
    same = cc
new_known hung (suc (suc more)) left right l r (suc j) p e = let k =
    new_known (suc hung) (suc more) (suc (suc hung)) right (omega arith) (omega arith) j p e in (omega (arith, k.0), omega (arith, k.1))

at_known : (sides : List (ℕ × ℕ)) → AllKnown sides → (k : ℕ) → ((slice_index_or sides k (0, 1)).0 < length sides + 2)
    × ((slice_index_or sides k (0, 1)).1 < length sides + 2)
at_known sides all k = cases (cases_lt k (length sides))
  where
    beyond : (xs : List (ℕ × ℕ)) (k : ℕ) → length xs ≤ k → slice_index_or xs k (0, 1) ≡ (0, 1)
    beyond [] k h = refl
    beyond (y ∷ xs) zero h = absurd (omega arith)
    beyond (y ∷ xs) (suc k) h = beyond xs k (omega arith)

    cases : (k < length sides) ⊎ (length sides ≤ k) → ((slice_index_or sides k (0, 1)).0 < length sides + 2)
        × ((slice_index_or sides k (0, 1)).1 < length sides + 2)
    cases (inl h) = let known = all k (slice_index_or sides k (0, 1)) (slice_get-get_or sides k (0, 1) h) in (omega (arith, known.0), omega (arith, known.1))
    cases (inr h) = (omega (arith, ap (λ (z : ℕ × ℕ). z.0) (beyond sides k h)), omega (arith, ap (λ (z : ℕ × ℕ). z.1) (beyond sides k h)))

left_known : (sides : List (ℕ × ℕ)) → AllKnown sides → (numbers : List ℕ) → left_end sides numbers < length sides + 2
left_known sides all [] = omega arith
left_known sides all (a ∷ numbers) = (at_known sides all (a - 1)).0

right_known : (sides : List (ℕ × ℕ)) → AllKnown sides → (numbers : List ℕ) → right_end sides numbers < length sides + 2
right_known sides all [] = omega arith
right_known sides all (a ∷ []) = (at_known sides all (a - 1)).1
right_known sides all (a ∷ b ∷ numbers) = right_known sides all (b ∷ numbers)

after_known : (o : Outline) (sides : List (ℕ × ℕ)) (m : Move) → length sides ≡ length o.hung → AllKnown sides → AllKnown (sides_after o sides m)
after_known o sides m long all k p e = cases
    (get_either sides (new_sides (length o.hung) m.count (left_end sides (valley_of o)) (right_end sides (valley_of o))) k p e)
  where
    cases : (slice_get sides k ≡ Some p) ⊎ ((j : ℕ) × (k ≡ length sides + j)
        × (slice_get (new_sides (length o.hung) m.count (left_end sides (valley_of o)) (right_end sides (valley_of o))) j ≡ Some p)) → AreKnown k p
    cases (inl f) = all k p f
    cases (inr (j, f, g)) = let known = new_known (length o.hung) m.count (left_end sides (valley_of o)) (right_end sides (valley_of o))
        (omega (arith, long, left_known sides all (valley_of o))) (omega (arith, long, right_known sides all (valley_of o))) j p g in
        (omega (arith, f, long, known.0), omega (arith, f, long, known.1))

along_known : (o : Outline) (sides : List (ℕ × ℕ)) (w : Word) → length sides ≡ length o.hung → AllKnown sides → AllKnown (sides_along o sides w)
along_known o sides [] long all = all
along_known o sides (m ∷ w) long all = along_known (after_move o m) (sides_after o sides m) w (after_long o sides m long) (after_known o sides m long all)

-- of the square at place k, the number of the left line is below k + 2, that of the right one below k + 3
pub known_lines : (w : Word) → AllKnown (square_lines w)
known_lines w = along_known start [] w refl (λ k p e. absurd (none k p e))
  where
    none : (k : ℕ) (p : ℕ × ℕ) → slice_get [] k ≡ Some p → ⊥
    none k p e = cc
