-- Lists that the play of a word is made of: numbers in their order, the signs that part segments, and the place of the valley among them.
use Rattle.std.proofs.Common.{List, [], ap, arith, filter, length, refl, suc, true, zero, ℕ, ◌+◌, ◌∷◌, ◌≡◌, ◌≤◌}
use Rattle.std.specs.List.{AllByRecursion}
use Rattle.bk_word.specs.Outline.{valley_place}
use Rattle.bk_word.specs.Play.{numbers_from, parts}
use Rattle.bk_word.specs.declared.Sign.{Sign}
use Rattle.bk_word.specs.declared.Sign.TheVariants.{Above, Even, Under}

-- numbers in a row are as many as said
pub numbers-length : (n k : ℕ) → length (numbers_from n k) ≡ k
numbers-length n zero = refl
numbers-length n (suc k) = ap suc (numbers-length (n + 1) k)

-- the signs kept between segments are those that part them
pub parts_filter : (signs : List Sign) → AllByRecursion (λ sign. parts sign ≡ true) (filter parts signs)
parts_filter [] = tt
parts_filter (Above ∷ signs) = (refl, parts_filter signs)
parts_filter (Even ∷ signs) = parts_filter signs
parts_filter (Under ∷ signs) = (refl, parts_filter signs)

-- the leftmost valley is one of the segments
pub place_within : (signs : List Sign) → valley_place signs ≤ length signs
place_within [] = omega arith
place_within (Above ∷ signs) = omega arith
place_within (Even ∷ signs) = omega (arith, place_within signs)
place_within (Under ∷ signs) = omega (arith, place_within signs)
