-- The numbers of the open squares are those of squares that hang.
use Rattle.std.specs.List.{concat}
use Rattle.std.proofs.Common.{List, Some, [], ap, arith, drop, inl, inr, length, refl, slice_get, slice_index_or, subst, sym, take}
use Rattle.std.proofs.Common.{ℕ, ◌++◌, ◌+◌, ◌-◌, ◌<◌, ◌∙◌, ◌≡◌, ◌≤◌}
use Rattle.std.proofs.lemmas.Option.{get_or_from_slice_get, slice_get-get_or}
use Rattle.bk_laws.proofs.Occurrences.{times, times-concat, times-positive_of_slice_get, times_at, times_in, times_in-append}
use Rattle.bk_word.specs.Outline.{sizes_of, start, valley_of, valley_place}
use Rattle.bk_word.specs.Play.{IsLegal, outline_of}
use Rattle.bk_word.specs.Word.{Move, Word, order_of}
use Rattle.bk_word_net.proofs.Outlines.Numbering.{numbered_moves, numbered_start}
use Rattle.bk_word_net.proofs.Outlines.Shape.{hung_many}
use Rattle.bk_word_net.proofs.WordFlows.NoLoose.{hung_number}
use Rattle.bk_play.specs.SmallSkeleton.{IsValleyPlace}
use Rattle.bk_play.specs.declared.small.ValleyPlace.{ValleyPlace}
use Rattle.bk_free_search.proofs.Boards.ValleyPlaces.{valley_of_equal, valley_read}
use Rattle.bk_free_search.specs.Joining.{JoinsLeft, JoinsRight}
use Rattle.bk_free_search.specs.TopLines.{AreSquares}

-- numbers that stand in the open segments are those of squares of the word
counted-are_squares : (w : Word) (numbers : List ℕ) → ((m : ℕ) → times m numbers ≤ times_in m (outline_of w).segments) → AreSquares numbers (order_of w)
counted-are_squares w numbers counted j below = (bounds.0, omega (arith, bounds.1, hung_many start w))
  where
    some : 0 < times_in (slice_index_or numbers j 0) ((outline_of w).closed ++ (outline_of w).segments)
    some = omega (
      arith,
      times-positive_of_slice_get numbers j (slice_index_or numbers j 0) (slice_get-get_or numbers j 0 below),
      counted (slice_index_or numbers j 0),
      times_in-append (slice_index_or numbers j 0) (outline_of w).closed (outline_of w).segments,
    )

    bounds : (1 ≤ slice_index_or numbers j 0) × (slice_index_or numbers j 0 ≤ length (outline_of w).hung)
    bounds = hung_number (outline_of w) (numbered_moves start w numbered_start) (slice_index_or numbers j 0) some

-- the open squares of a word, by their numbers, are squares of it
pub open_squares-are_squares : (w : Word) → AreSquares (concat (outline_of w).segments) (order_of w)
open_squares-are_squares w = counted-are_squares w (concat (outline_of w).segments) (λ m. omega (arith, times-concat m (outline_of w).segments))

-- the squares of the leftmost valley of a word are squares of it
pub valley_squares-are_squares : (w : Word) → AreSquares (valley_of (outline_of w)) (order_of w)
valley_squares-are_squares w =
    counted-are_squares w (valley_of (outline_of w)) (λ m. times_at m (valley_place (outline_of w).signs) (outline_of w).segments)

-- the squares that a skeleton of a word reads at the place of its leftmost valley are squares of it
pub valley_read-are_squares : (u w : Word) → u ≡ w → IsLegal u → (ends : List ℕ) → ends ≡ concat (outline_of u).segments → (v : ValleyPlace)
    → IsValleyPlace w v → AreSquares (take (v.end - v.start) (drop v.start ends)) (order_of w)
valley_read-are_squares u w same legal ends e v is = subst (λ (s : List ℕ). AreSquares s (order_of w))
    (sym (valley_read u legal (sizes_of (outline_of u)) ends refl e v (valley_of_equal w u v (sym same) is) ∙ ap (λ (z : Word). valley_of (outline_of z)) same))
    (valley_squares-are_squares w)

segment-are_squares : (w : Word) (k : ℕ) (squares : List ℕ) → slice_get (outline_of w).segments k ≡ Some squares → AreSquares squares (order_of w)
segment-are_squares w k squares at = counted-are_squares w squares (λ m. subst (λ (s : List ℕ). times m s ≤ times_in m (outline_of w).segments)
    (get_or_from_slice_get (outline_of w).segments k squares [] at) (times_at m k (outline_of w).segments))

none-are_squares : (w : Word) (squares : List ℕ) → squares ≡ [] → AreSquares squares (order_of w)
none-are_squares w squares e = subst (λ (s : List ℕ). AreSquares s (order_of w)) (sym e) (λ j below. absurd (omega (arith, below)))

-- the squares that a move joins at the valley's left are squares of the word
pub joined_left-are_squares : (w : Word) (m : Move) (squares : List ℕ) → JoinsLeft (outline_of w) m squares → AreSquares squares (order_of w)
joined_left-are_squares w m squares (inl e) = none-are_squares w squares e
joined_left-are_squares w m squares (inr at) = segment-are_squares w (valley_place (outline_of w).signs - 1) squares at.1

-- the squares that a move joins at the valley's right are squares of the word
pub joined_right-are_squares : (w : Word) (m : Move) (squares : List ℕ) → JoinsRight (outline_of w) m squares → AreSquares squares (order_of w)
joined_right-are_squares w m squares (inl e) = none-are_squares w squares e
joined_right-are_squares w m squares (inr at) = segment-are_squares w (valley_place (outline_of w).signs + 1) squares at.0

-- squares of so many are squares of more
pub are_squares-more : (numbers : List ℕ) (few many : ℕ) → few ≤ many → AreSquares numbers few → AreSquares numbers many
are_squares-more numbers few many within are j below = ((are j below).0, omega (arith, within, (are j below).1))

-- squares of a word have lines in a list that has as many as it has squares
pub among_lines : (w v : Word) (squares lines read : List ℕ) → length lines ≡ order_of w → read ≡ lines → w ≡ v → AreSquares squares (order_of v)
    → AreSquares squares (length read)
among_lines w v squares lines read many are same h =
    are_squares-more squares (order_of v) (length read) (omega (arith, many, ap length are, ap order_of same)) h
