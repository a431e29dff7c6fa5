-- A word of a layout shows its numbers.
use Rattle.std.proofs.Common.{Bool, List, Some, [], ap, arith, cond, count_by, inl, inr, length, nat_eq, refl, slice_get, slice_index_or, suc}
use Rattle.std.proofs.Common.{sym, zero, ℕ, ◌+◌, ◌-◌, ◌<◌, ◌∙◌, ◌∷◌, ◌↔◌, ◌≡◌}
use Rattle.std.proofs.lemmas.List.{length-map}
use Rattle.std.proofs.lemmas.List.Sums.{sum_by-cons}
use Rattle.bk_laws.proofs.NumberTests.{nat_eq-same_of_iff}
use Rattle.bk_word.specs.Outline.{start}
use Rattle.bk_word.specs.Play.{numbers_from, outline_of}
use Rattle.bk_word.specs.Word.{Move, Word}
use Rattle.bk_layout.specs.Layout.{Fits, Layout}
use Rattle.bk_layout.specs.LayoutLaws.{IsWordOfLayout}
use Rattle.bk_layout.proofs.FreeCuts.NumberedLines.{line_numbers_are_lines}
use Rattle.bk_layout.proofs.FreeCuts.SharedLines.{hung_w, square_apart, square_low}
use Rattle.bk_layout.specs.FreeCuts.{AreOuterWalls}
use Rattle.bk_layout.specs.LineNumbers.{numbered_line, square_lines}
use Rattle.bk_layout.proofs.Lists.Totals.{renumbered, total_from}
use Rattle.bk_layout.proofs.FreeCuts.LineGaps.{AreLineNumbers, IsGap, IsLine, along_long, lines_along}
use Rattle.bk_layout.specs.LayoutCounts.{counts_of_layout}
use Rattle.bk_layout.specs.WordNumbers.{AWordShowsNumbers, first_count, left_squares, right_squares}
use Rattle.bk_word_net.proofs.WordFlows.NoLoose.{closed_count}

-- ---- counts as sums

-- how many numbers pass a test
count_numbers : (r : ℕ → Bool) (b n : ℕ) → count_by r (numbers_from b n) ≡ total_from (λ q. cond (r q) 1 0) b n
count_numbers r b zero = refl
count_numbers r b (suc n) = omega (arith, sum_by-cons (λ q. cond {A = ℕ} (r q) 1 0) b (numbers_from (b + 1) n), count_numbers r (b + 1) n)

-- how many elements of a list do, by their places
count_places : (P : ℕ × ℕ → Bool) (xs : List (ℕ × ℕ)) (f : ℕ → Bool) (b : ℕ)
    → ((k : ℕ) (p : ℕ × ℕ) → slice_get xs k ≡ Some p → f (b + k) ≡ P p) → count_by P xs ≡ total_from (λ k. cond (f k) 1 0) b (length xs)
count_places P [] f b each = refl
count_places P (x ∷ xs) f b each = omega (
  arith,
  sum_by-cons (λ p. cond {A = ℕ} (P p) 1 0) x xs,
  ap (λ (t : Bool). cond {A = ℕ} t 1 0) (sym (each 0 x refl)),
  ap (λ (k : ℕ). cond {A = ℕ} (f k) 1 0) here,
  count_places P xs f (b + 1) (λ k p e. ap f (next k) ∙ each (suc k) p e),
)
  where
    here : b + 0 ≡ b
    here = omega arith

    next : (k : ℕ) → b + 1 + k ≡ b + suc k
    next k = omega arith

module _ (l : Layout) (w : Word) (fits : Fits l) (walls : AreOuterWalls l) (word : IsWordOfLayout l w) where
  all : AreLineNumbers (square_lines w)
  all = lines_along start [] w refl (λ k p e. absurd (none k p e))
    where
      none : (k : ℕ) (p : ℕ × ℕ) → slice_get [] k ≡ Some p → ⊥
      none k p e = cc

  long : length (square_lines w) ≡ length (outline_of w).hung
  long = along_long start [] w refl

  within : (xs : List (ℕ × ℕ)) (k : ℕ) (p : ℕ × ℕ) → slice_get xs k ≡ Some p → k < length xs
  within [] k p e = absurd (cc)
  within (x ∷ xs) zero p e = omega arith
  within (x ∷ xs) (suc k) p e = omega (arith, within xs k p e)

  hung : (k : ℕ) (p : ℕ × ℕ) → slice_get (square_lines w) k ≡ Some p → k < length (outline_of w).hung
  hung k p e = omega (arith, within (square_lines w) k p e, long)

  low : (k : ℕ) → k < length (outline_of w).hung → word.square k < l.squares
  low k h = square_low l fits w word k h

  -- the lines of a square are those that its numbers stand for
  lines_of : (k f g : ℕ) → slice_get (square_lines w) k ≡ Some (f, g)
      → (l.left (word.square k) ≡ numbered_line l word.square f) × (l.right (word.square k) ≡ numbered_line l word.square g)
  lines_of = line_numbers_are_lines l w fits word

  -- a line that is no gap is the wall
  no_gap : {wall f : ℕ} → IsLine wall (square_lines w) f → (IsGap (square_lines w) f → ⊥) → f ≡ wall
  no_gap (inl e) none = e
  no_gap (inr gap) none = absurd (none gap)

  -- line 0 at the left of a square stands for the left wall, and no other line there does
  at_left : (k f g : ℕ) → slice_get (square_lines w) k ≡ Some (f, g) → (f ≡ 0) ↔ (l.left (word.square k) ≡ 0)
  at_left k f g e = (
    λ h. (lines_of k f g e).0 ∙ ap (numbered_line l word.square) h,
    λ d. no_gap (all k (f, g) e).0 (λ h. walls.not_before (word.square h.place) (low h.place (omega (arith, hung (suc h.place) (f, h.right) h.behind)))
        (sym (ap (numbered_line l word.square) h.is) ∙ sym (lines_of k f g e).0 ∙ d)),
  )

  -- line 1 at the right of a square stands for the right wall, and no other line there does
  at_right : (k f g : ℕ) → slice_get (square_lines w) k ≡ Some (f, g) → (g ≡ 1) ↔ (l.right (word.square k) ≡ 1)
  at_right k f g e = (
    λ h. (lines_of k f g e).1 ∙ ap (numbered_line l word.square) h,
    λ d. no_gap (all k (f, g) e).1 (λ h. walls.not_beyond (word.square (suc h.place)) (low (suc h.place) (hung (suc h.place) (g, h.right) h.behind))
        ((lines_of (suc h.place) g h.right h.behind).0 ∙ sym (lines_of k f g e).1 ∙ d)),
  )

  -- a count of the word's squares is one of the layout's
  counted : (P : ℕ × ℕ → Bool) (r : ℕ → Bool) → ((k : ℕ) (p : ℕ × ℕ) → slice_get (square_lines w) k ≡ Some p → r (word.square k) ≡ P p)
      → count_by P (square_lines w) ≡ count_by r (numbers_from 0 l.squares)
  counted P r each = count_places P (square_lines w) (λ k. r (word.square k)) 0 (λ k p e. ap (λ (j : ℕ). r (word.square j)) (omega arith) ∙ each k p e)
      ∙ ap (λ (n : ℕ). total_from (λ k. cond {A = ℕ} (r (word.square k)) 1 0) 0 n) (omega (arith, long, hung_w l fits w word))
      ∙ renumbered l.squares word.square (λ k h. low k (omega (arith, h, hung_w l fits w word)))
      (λ j k a b e. square_apart l fits w word j k (omega (arith, a, hung_w l fits w word)) (omega (arith, b, hung_w l fits w word)) e)
      (λ q. cond {A = ℕ} (r q) 1 0)
      ∙ sym (count_numbers r 0 l.squares)

  -- a word of a layout has as many squares at the left wall as the layout has
  pub left_is : left_squares w ≡ (counts_of_layout l).left
  left_is = counted (λ s. nat_eq s.0 0) (λ q. nat_eq (l.left q) 0)
      (λ k p e. sym (nat_eq-same_of_iff p.0 (l.left (word.square k)) 0 (at_left k p.0 p.1 e)))

  -- a word of a layout has as many squares at the right wall as the layout has
  pub right_is : right_squares w ≡ (counts_of_layout l).right
  right_is = counted (λ s. nat_eq s.1 1) (λ q. nat_eq (l.right q) 1)
      (λ k p e. sym (nat_eq-same_of_iff p.1 (l.right (word.square k)) 1 (at_right k p.0 p.1 e)))

-- a word of a layout has as many moves, and as many squares at the top and at the bottom, as the layout tells
module _ (l : Layout) (w : Word) (word : IsWordOfLayout l w) where
  -- a word of a layout has as many moves as the number of the layout's last node
  pub moves_is : length w ≡ l.bottom
  moves_is = omega (arith, closed_count start w, word.net.nodes)

  -- the first move of a word of a layout hangs as many squares as hang from the layout's top
  pub top_is : first_count w ≡ length (l.hanging 0)
  top_is = at w (word.complete).some word.first_count
    where
      at : (v : Word) → 0 < length v → ((m : Move) → slice_get v 0 ≡ Some m → m.count ≡ length (l.hanging 0)) → first_count v ≡ length (l.hanging 0)
      at [] some first = absurd (omega (arith, some))
      at (m ∷ moves) some first = first m refl

  -- a word of a layout ends with as many squares in its last segment as end on the layout's bottom
  pub bottom_is : length (slice_index_or (outline_of w).segments 0 []) ≡ length (l.ending l.bottom)
  bottom_is = sym (length-map (slice_index_or (outline_of w).segments 0 []) (λ number. word.square (number - 1))) ∙ ap length word.end

-- the law
pub a_word_shows_numbers : AWordShowsNumbers
a_word_shows_numbers l w fits walls word = record {
  counts = λ i. record {
    squares = word.order i;
    moves = moves_is l w word i;
    top = top_is l w word i;
    bottom = bottom_is l w word i;
    left = left_is l w fits walls word i;
    right = right_is l w fits walls word i;
  };
  at_left = at_left l w fits walls word;
  at_right = at_right l w fits walls word;
}
