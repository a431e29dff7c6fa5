-- The left lines of a word's squares, as a move is played and taken back.
use Rattle.std.proofs.Common.{List, [], ap, append_assoc, arith, drop, length, length-append, map, refl, slice_index_or, subst, suc, sym, take, zero}
use Rattle.std.proofs.Common.{ℕ, ◌++◌, ◌+◌, ◌-◌, ◌<◌, ◌∙◌, ◌∷◌, ◌≡◌, ◌≤◌}
use Rattle.std.proofs.Math.Seq.{take-append_seam}
use Rattle.std.proofs.lemmas.List.{append-nil, length-map, map-append, take-append-drop}
use Rattle.bk_word.specs.Outline.{IsLegalMove, Outline, start, valley_of}
use Rattle.bk_word.specs.Play.{IsLegal, after_move, after_moves, numbers_from, outline_of}
use Rattle.bk_word.specs.Word.{Move, Word, order_of}
use Rattle.bk_word.proofs.PlayLaws.{legal_front, legal-snoc}
use Rattle.bk_word.proofs.StoredBytes.{order_more}
use Rattle.bk_word_net.proofs.Outlines.Shape.{hung_many}
use Rattle.bk_layout.proofs.FreeCuts.NumberedLines.{sides_long}
use Rattle.bk_layout.specs.LineNumbers.{left_end, lefts_of, new_sides, right_end, sides_after, sides_along, square_lines}
use Rattle.bk_layout.proofs.FreeCuts.CutByNodes.{as_many_lefts}
use Rattle.bk_free_search.specs.Lefts.{IsLeftWord, first_left}

-- ---- one move

-- the left lines in a list of pairs of a left and a right line
abbrev pub lefts_in : List (ℕ × ℕ) → List ℕ
lefts_in sides = map (λ s. s.0) sides

-- of the new squares of a move, the first has the valley's left line, and each later one the line of its own
pub new_lefts : (hung count left right : ℕ) → lefts_in (new_sides hung (suc count) left right) ≡ left ∷ numbers_from (hung + 2) count
new_lefts hung zero left right = refl
new_lefts hung (suc count) left right =
    let e : suc (suc hung) ≡ hung + 2 = omega arith in
    let f : suc hung + 2 ≡ hung + 2 + 1 = omega arith in
    ap (λ l. left ∷ l) (new_lefts (suc hung) count (suc (suc hung)) right ∙ (λ i. e i ∷ numbers_from (f i) count))

-- a line at one side at a place of the pairs is that at that place of the lines at this side
pub index_side : (side : ℕ × ℕ → ℕ) (sides : List (ℕ × ℕ)) (k : ℕ) → side (slice_index_or sides k (0, 1)) ≡ slice_index_or (map side sides) k (side (0, 1))
index_side side [] k = refl
index_side side (s ∷ sides) zero = refl
index_side side (s ∷ sides) (suc k) = index_side side sides k

-- the left end of a segment is the left line of its first square in the list of left lines
pub end_left : (sides : List (ℕ × ℕ)) (numbers : List ℕ) → left_end sides numbers ≡ first_left (lefts_in sides) numbers
end_left sides [] = refl
end_left sides (number ∷ numbers) = index_side (λ s. s.0) sides (number - 1)

-- ---- along moves

-- the lines after two words played one after the other are those after the second, begun from those after the first
pub along_append : (o : Outline) (sides : List (ℕ × ℕ)) (v w : Word) → sides_along o sides (v ++ w) ≡ sides_along (after_moves o v) (sides_along o sides v) w
along_append o sides [] w = refl
along_append o sides (m ∷ v) w = along_append (after_move o m) (sides_after o sides m) v w

-- a word leaves the lines that were there and puts behind them as many as it hangs squares
pub along_more : (o : Outline) (sides : List (ℕ × ℕ)) (w : Word) → (more : List (ℕ × ℕ)) × (sides_along o sides w ≡ sides ++ more) × (length more ≡ order_of w)
along_more o sides [] = ([], sym (append-nil sides), refl)
along_more o sides (m ∷ w) =
    let new = new_sides (length o.hung) m.count (left_end sides (valley_of o)) (right_end sides (valley_of o)) in
    let behind = along_more (after_move o m) (sides_after o sides m) w in (
      new ++ behind.0,
      behind.1 ∙ append_assoc sides new behind.0,
      omega (
        arith,
        length-append new behind.0,
        behind.2,
        order_more m w,
        sides_long (length o.hung) m.count (left_end sides (valley_of o)) (right_end sides (valley_of o)),
      ),
    )

-- ---- played and taken back

-- after a move the lines are the old ones and those of its squares, which stand between the ends of the valley
pub sides_more : (w : Word) (m : Move) → 0 < m.count → square_lines (w ++ m ∷ []) ≡ square_lines w
    ++ new_sides (order_of w) (suc (m.count - 1)) (left_end (square_lines w) (valley_of (outline_of w))) (right_end (square_lines w) (valley_of (outline_of w)))
sides_more w m some = along_append start [] w (m ∷ []) ∙ (λ i. square_lines w ++ new_sides (hung i) (count i)
    (left_end (square_lines w) (valley_of (outline_of w))) (right_end (square_lines w) (valley_of (outline_of w))))
  where
    hung : length (outline_of w).hung ≡ order_of w
    hung = omega (arith, hung_many start w)

    count : m.count ≡ suc (m.count - 1)
    count = omega (arith, some)

-- the first lines at one side of the squares are those of the first moves
pub sides_of_front : (side : ℕ × ℕ → ℕ) (front rest : Word)
    → take (order_of front) (map side (square_lines (front ++ rest))) ≡ map side (square_lines front)
sides_of_front side front rest =
    let more = along_more (outline_of front) (square_lines front) rest in
    let before = along_more start [] front in
    let long : length (map side (square_lines front)) ≡ order_of front = length-map (square_lines front) side ∙ ap length before.1 ∙ before.2 in
    ap (λ l. take (order_of front) (map side l)) (along_append start [] front rest ∙ more.1)
    ∙ ap (take (order_of front)) (map-append side (square_lines front) more.0)
    ∙ (λ i. take (sym long i) (map side (square_lines front) ++ map side more.0))
    ∙ take-append_seam (map side (square_lines front)) (map side more.0)

-- a word has as many left lines as squares
pub left_count : (w : Word) (lefts : List ℕ) → IsLeftWord w lefts → length lefts ≡ order_of w
left_count w lefts left = ap length left.lefts_are ∙ as_many_lefts w

-- behind left lines stand those of the squares of a move, of which the first lies at the valley's left line
pub record AreLeftsThen (w : Word) (m : Move) (lefts lefts_then : List ℕ) : Type 0 where
  pub hung : ℕ
  pub hung_is : hung ≡ order_of w
  pub count : ℕ
  pub count_is : count ≡ m.count
  pub first : ℕ
  pub first_is : first ≡ first_left lefts (valley_of (outline_of w))
  pub are : lefts_then ≡ lefts ++ first ∷ numbers_from (hung + 2) (count - 1)

-- after a legal move the left lines are the old ones, the valley's left line and the move's new lines
pub left_more : (w more : Word) (m : Move) (lefts lefts_then : List ℕ) → IsLeftWord w lefts → IsLegalMove (outline_of w) m → more ≡ w ++ m ∷ []
    → AreLeftsThen w m lefts lefts_then → IsLeftWord more lefts_then
left_more w more m lefts lefts_then left legal e then = record {
  legal = subst IsLegal (sym e) (legal-snoc start w m left.legal legal);
  lefts_are = then.are
      ∙ (λ i. left.lefts_are i ++ (then.first_is ∙ first_is) i ∷ numbers_from (then.hung_is i + 2) (then.count_is i - 1))
      ∙ ap (λ l. lefts_of w ++ l) (sym (new_lefts (order_of w) (m.count - 1) (left_end (square_lines w) (valley_of (outline_of w)))
      (right_end (square_lines w) (valley_of (outline_of w)))))
      ∙ sym (ap lefts_in (sides_more w m legal.some) ∙ map-append (λ s. s.0) (square_lines w) (new_sides (order_of w) (suc (m.count - 1))
      (left_end (square_lines w) (valley_of (outline_of w))) (right_end (square_lines w) (valley_of (outline_of w)))))
      ∙ ap lefts_of (sym e);
}
  where
    first_is : first_left lefts (valley_of (outline_of w)) ≡ left_end (square_lines w) (valley_of (outline_of w))
    first_is = ap (λ l. first_left l (valley_of (outline_of w))) left.lefts_are ∙ sym (end_left (square_lines w) (valley_of (outline_of w)))

-- without its last move a word's left lines are the first ones, as many as the shorter word has squares
pub left_less : (w front : Word) (lefts lefts_then : List ℕ) (order : ℕ) → IsLeftWord w lefts → front ≡ take (length w - 1) w → order ≡ order_of front
    → lefts_then ≡ take order lefts → IsLeftWord front lefts_then
left_less w front lefts lefts_then order left e o f = subst (λ v. IsLeftWord v lefts_then) (sym e) (record {
  legal = legal_front start (take (length w - 1) w) (drop (length w - 1) w) (subst IsLegal whole left.legal);
  lefts_are = f ∙ (λ i. take ((o ∙ ap order_of e) i) ((left.lefts_are ∙ ap lefts_of whole) i))
      ∙ sides_of_front (λ s. s.0) (take (length w - 1) w) (drop (length w - 1) w);
})
  where
    whole : w ≡ take (length w - 1) w ++ drop (length w - 1) w
    whole = sym (take-append-drop (length w - 1) w)

-- the lines of a move, one after another
pub next_left : (before : List ℕ) (hung k count : ℕ) (all : List ℕ) → k < count → before ++ numbers_from (hung + k + 1) (count - k) ≡ all
    → (before ++ (hung + k + 1) ∷ []) ++ numbers_from (hung + (k + 1) + 1) (count - (k + 1)) ≡ all
next_left before hung k count all few e = append_assoc before ((hung + k + 1) ∷ []) (numbers_from (hung + (k + 1) + 1) (count - (k + 1)))
    ∙ ap (λ l. before ++ l) (sym (one (count - k) refl)) ∙ e
  where
    one : (j : ℕ) → count - k ≡ j → numbers_from (hung + k + 1) (count - k) ≡ (hung + k + 1) ∷ numbers_from (hung + (k + 1) + 1) (count - (k + 1))
    one zero f = absurd (omega arith)
    one (suc j) f =
        let less : j ≡ count - (k + 1) = omega arith in
        let next : hung + k + 1 + 1 ≡ hung + (k + 1) + 1 = omega arith in
        ap (numbers_from (hung + k + 1)) f ∙ (λ i. (hung + k + 1) ∷ numbers_from (next i) (less i))

-- if no number is left to put behind a list, it is the whole one
pub last_left : (before : List ℕ) (hung k count : ℕ) (all : List ℕ) → count ≤ k → before ++ numbers_from (hung + k + 1) (count - k) ≡ all → before ≡ all
last_left before hung k count all over e = let none : count - k ≡ 0 = omega arith in sym (append-nil before)
    ∙ ap (λ j. before ++ numbers_from (hung + k + 1) j) (sym none) ∙ e
