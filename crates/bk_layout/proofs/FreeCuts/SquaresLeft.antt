-- A free move without twins takes so many squares and segments: three at most, and one less for each wall at which it stands. So what is left
-- of both bounds the moves that are left, and the moves at the walls that come.
use Rattle.std.proofs.Common.{Bool, List, Some, [], ap, arith, cond, count_by, false, filter, length, refl, slice_get, subst, suc, true, zero, ℕ, ◌*◌}
use Rattle.std.proofs.Common.{◌++◌, ◌+◌, ◌-◌, ◌<◌, ◌∙◌, ◌∷◌, ◌≡◌, ◌≤◌}
use Rattle.std.proofs.lemmas.List.{length-append}
use Rattle.std.proofs.lemmas.List.Sums.{sum_by-cons}
use Rattle.bk_word.specs.Outline.{IsLegalMove, Outline, has_left_wall, has_right_wall, open_side, start}
use Rattle.bk_word.specs.Play.{AreLegalFrom, after_move, after_moves, outline_of, parts}
use Rattle.bk_word.specs.Signs.{is_even}
use Rattle.bk_word.specs.Word.{Move, Word, order_of}
use Rattle.bk_word.specs.declared.Sign.{Sign}
use Rattle.bk_word.specs.declared.Sign.TheVariants.{Above, Even, Under}
use Rattle.bk_word.proofs.PlayLaws.{legal_front}
use Rattle.bk_word.proofs.StoredBytes.{order_append, order_more}
use Rattle.bk_word_net.proofs.Outlines.MovedParts.{signs_after}
use Rattle.bk_word_net.proofs.Outlines.OutlineParts.{left_open, many_signs, right_open}
use Rattle.bk_word_net.proofs.Outlines.Shape.{Shaped, shaped_move, valley_in}
use Rattle.bk_word_net.proofs.Outlines.ValleyCut.{AtValley}
use Rattle.bk_layout.specs.FreeWord.{HangNoTwinsFrom, HangsNoTwins}
use Rattle.bk_layout.proofs.NormalCuts.MovesLeft.{at_end, legal, shaped}
use Rattle.bk_layout.proofs.NormalCuts.FewMoves.{few_moves, walls_left}
use Rattle.bk_layout.proofs.FreeCuts.RunsOfLines.{wall_moves_hang_one}
use Rattle.bk_layout.specs.NormalCuts.{TooManySquaresIsNormalBarren}
use Rattle.bk_layout.specs.WordNumbers.{left_moves_from, right_moves_from}
use Rattle.bk_layout.proofs.FreeCuts.CutsOfLayouts.{twins_then}

-- ---- a move

-- how many are even, from the first on
pub evens-cons : (s : Sign) (signs : List Sign) → count_by is_even (s ∷ signs) ≡ cond (is_even s) 1 0 + count_by is_even signs
evens-cons s signs = sum_by-cons (λ x. cond (is_even x) 1 0) s signs

-- the signs that aren't even part
parts_many : (signs : List Sign) → length (filter parts signs) + count_by is_even signs ≡ length signs
parts_many [] = refl
parts_many (Above ∷ signs) = omega (arith, parts_many signs, evens-cons Above signs)
parts_many (Even ∷ signs) = omega (arith, parts_many signs, evens-cons Even signs)
parts_many (Under ∷ signs) = omega (arith, parts_many signs, evens-cons Under signs)

-- no more are even than there are
pub evens_most : (signs : List Sign) → count_by is_even signs ≤ length signs
evens_most signs = omega (arith, parts_many signs)

-- at most as many are even as stand outside of a part without even ones
evens_few : (signs : List Sign) (a c b : ℕ) → length signs ≡ a + c + b → ((k : ℕ) → k < c → slice_get signs (a + k) ≡ Some Even → ⊥)
    → count_by is_even signs ≤ a + b
evens_few [] a c b long none = omega arith
evens_few (s ∷ signs) (suc a) c b long none =
    omega (arith, evens-cons s signs, one s, evens_few signs a c b (omega arith) (λ k h e. none k h (ap (slice_get (s ∷ signs)) (next k) ∙ e)))
  where
    one : (s : Sign) → ◌≤◌ (cond {A = ℕ} (is_even s) 1 0) 1
    one Above = omega arith
    one Even = omega arith
    one Under = omega arith

    next : (k : ℕ) → suc a + k ≡ suc (a + k)
    next k = omega arith
evens_few (s ∷ signs) zero (suc c) b long none =
    omega (
      arith,
      evens-cons s signs,
      not_even s (λ e. none 0 (omega arith) (ap (slice_get (s ∷ signs)) start_place ∙ ap (λ (x : Sign). Some x) e)),
      evens_few signs zero c b (omega arith) (λ k h e. none (suc k) (omega arith) (ap (slice_get (s ∷ signs)) (next k) ∙ e)),
    )
  where
    not_even : (s : Sign) → (s ≡ Even → ⊥) → ◌≡◌ {A = ℕ} (cond (is_even s) 1 0) 0
    not_even Above n = refl
    not_even Even n = absurd (n refl)
    not_even Under n = refl

    start_place : 0 + 0 ≡ 0
    start_place = omega arith

    next : (k : ℕ) → 0 + suc k ≡ suc (0 + k)
    next k = omega arith
evens_few (s ∷ signs) zero zero b long none = omega (arith, parts_many (s ∷ signs), long)

-- a wall is no open side
pub wall_or_side : (b : Bool) → ◌≡◌ {A = ℕ} (cond b 1 0 + open_side b) 1
wall_or_side true = refl
wall_or_side false = refl

-- how many segments a move leaves
pub segments_then : (o : Outline) (m : Move) → IsLegalMove o m → Shaped o
    → length (after_move o m).segments + count_by is_even m.signs + 1 ≡ length o.segments + m.count
segments_then o m legal shaped = omega (
  arith,
  shaped.many,
  (shaped_move o m legal shaped).many,
  legal.signs,
  legal.some,
  ap length (signs_after o v m legal),
  length-append v.before_signs (filter parts m.signs ++ v.after_signs),
  length-append (filter parts m.signs) v.after_signs,
  v.before_many,
  v.after_many,
  many_signs o v,
  left_open o v,
  right_open o v,
  parts_many m.signs,
)
  where
    v : AtValley o
    v = valley_in o shaped

-- the squares of a move and the segments before it, against the segments after it
pub segments_after : (o : Outline) (m : Move) → IsLegalMove o m → Shaped o → HangsNoTwins o m
    → m.count + length o.segments + cond {A = ℕ} (has_left_wall o) 1 0 + cond {A = ℕ} (has_right_wall o) 1 0 ≤ length (after_move o m).segments + 3
segments_after o m legal shaped twins =
    omega (arith, segments_then o m legal shaped, few, wall_or_side (has_left_wall o), wall_or_side (has_right_wall o))
  where
    few : count_by is_even m.signs ≤ open_side (has_left_wall o) + open_side (has_right_wall o)
    few = evens_few m.signs (open_side (has_left_wall o)) (m.count - 1) (open_side (has_right_wall o)) (omega (arith, legal.signs, legal.some))
        (λ k h e. twins k (omega arith) e)

-- ---- moves

-- the squares and segments that are left, and the moves at the walls that come, against the moves that are left
pub squares_left : (o : Outline) (rest : Word) → AreLegalFrom o rest → Shaped o → HangNoTwinsFrom o rest
    → order_of rest + length o.segments + left_moves_from o rest + right_moves_from o rest ≤ length (after_moves o rest).segments + 3 * length rest
squares_left o [] legal shaped twins = omega arith
squares_left o (m ∷ rest) legal shaped twins = omega (
  arith,
  order_more m rest,
  segments_after o m legal.0 shaped twins.0,
  squares_left (after_move o m) rest legal.1 (shaped_move o m legal.0 shaped) twins.1,
)

-- the law
pub too_many_squares_is_normal_barren : TooManySquaresIsNormalBarren
too_many_squares_is_normal_barren n most front few over l w rest sound normal word keeps is = omega (
  arith,
  over,
  few_moves n l w sound normal word front rest is most few,
  ap length is,
  length-append front rest,
  sound.squares,
  word.order,
  ap order_of is,
  order_append front rest,
  squares_left (outline_of front) rest (legal n l w sound word front rest is) (shaped n l w sound word front rest is)
      (twins_then start front rest (subst (HangNoTwinsFrom start) is (word.no_twins sound.simple.twins))),
  ap (λ (o : Outline). length o.segments) (at_end n l w sound word front rest is),
  (word.complete).one,
  walls_left n l w sound normal word front rest is,
  (wall_moves_hang_one front legal_then).left,
  (wall_moves_hang_one front legal_then).right,
)
  where
    legal_then : AreLegalFrom start front
    legal_then = legal_front start front rest (subst (AreLegalFrom start) is (word.complete).legal)
