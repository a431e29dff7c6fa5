-- The squares at lines from the top, by the numbers of their left lines.
use Rattle.std.proofs.Common.{Bool, List, [], ap, arith, cond, false, length, length-append, nat_eq, refl, replicate, slice_index_or}
use Rattle.std.proofs.Common.{subst, suc, sym, true, zero, ℕ, ◌++◌, ◌+◌, ◌-◌, ◌<◌, ◌∙◌, ◌∷◌, ◌≡◌, ◌≤◌}
use Rattle.std.proofs.lemmas.List.{length-replicate, map-append}
use Rattle.bk_laws.proofs.NumberTests.{nat_eq-not_zero, nat_le-both_of_le, nat_le-not_both}
use Rattle.bk_word.specs.Outline.{Outline, start, valley_of}
use Rattle.bk_word.specs.Play.{AreLegalFrom, IsLegal, after_move, numbers_from, outline_of}
use Rattle.bk_word.specs.Word.{Move, Word, order_of}
use Rattle.bk_word.proofs.StoredBytes.{order_more}
use Rattle.bk_catalogue.specs.VerticalCut.{begins_on_line, lines_after, lines_along, edges_on_lines}
use Rattle.bk_layout.specs.LineNumbers.{left_end, lefts_of, new_sides, right_end, sides_after, sides_along, square_lines}
use Rattle.bk_free_search.proofs.Boards.LeftLines.{end_left, lefts_in, new_lefts}
use Rattle.bk_free_search.specs.Lefts.{first_left}
use Rattle.bk_layout.specs.WordNumbers.{first_count}
use Rattle.bk_free_search.specs.TopLines.{is_top_line, on_top_lines}

-- ---- one line

-- the mark of a square at a line from the top is that of its left line
pub index_top : (first : ℕ) (lefts : List ℕ) (k : ℕ) → is_top_line first (slice_index_or lefts k 0) ≡ slice_index_or (on_top_lines first lefts) k false
index_top first [] k = refl
index_top first (l ∷ lefts) zero = refl
index_top first (l ∷ lefts) (suc k) = index_top first lefts k

segment_top : (first : ℕ) (lefts segment : List ℕ) → is_top_line first (first_left lefts segment) ≡ begins_on_line (on_top_lines first lefts) segment
segment_top first lefts [] = refl
segment_top first lefts (number ∷ segment) = index_top first lefts (number - 1)

-- the lines behind the squares of a first move, and those behind the squares of later ones
inner_top : (first from count : ℕ) → 2 ≤ from → from + count ≤ first + 1 → on_top_lines first (numbers_from from count) ≡ replicate count true
inner_top first from zero least most = refl
inner_top first from (suc count) least most =
    (λ i. nat_le-both_of_le 2 from from first least (omega arith) i ∷ inner_top first (from + 1) count (omega arith) (omega arith) i)

inner_low : (first from count : ℕ) → first < from → on_top_lines first (numbers_from from count) ≡ replicate count false
inner_low first from zero h = refl
inner_low first from (suc count) h =
    (λ i. nat_le-not_both 2 from from first h i ∷ inner_low first (from + 1) count (omega arith) i)

-- ---- along moves

new_marks : (first : ℕ) (o : Outline) (sides : List (ℕ × ℕ)) (m : Move) (mark : Bool) → 0 < m.count
    → on_top_lines first (numbers_from (length o.hung + 2) (m.count - 1)) ≡ replicate (m.count - 1) mark
    → on_top_lines first (lefts_in (new_sides (length o.hung) m.count (left_end sides (valley_of o)) (right_end sides (valley_of o))))
    ≡ begins_on_line (on_top_lines first (lefts_in sides)) (valley_of o) ∷ replicate (m.count - 1) mark
new_marks first o sides m mark some inner =
    ap (λ k. on_top_lines first (lefts_in (new_sides (length o.hung) k (left_end sides (valley_of o)) (right_end sides (valley_of o))))) one_less
    ∙ ap (on_top_lines first) (new_lefts (length o.hung) (m.count - 1) (left_end sides (valley_of o)) (right_end sides (valley_of o)))
    ∙ (λ i. begins i ∷ inner i)
  where
    one_less : m.count ≡ suc (m.count - 1)
    one_less = omega (arith, some)

    begins : is_top_line first (left_end sides (valley_of o)) ≡ begins_on_line (on_top_lines first (lefts_in sides)) (valley_of o)
    begins = ap (is_top_line first) (end_left sides (valley_of o)) ∙ segment_top first (lefts_in sides) (valley_of o)

after_top : (first : ℕ) (o : Outline) (sides : List (ℕ × ℕ)) (lines : List Bool) (m : Move) → 0 < m.count → lines ≡ on_top_lines first (lefts_in sides)
    → on_top_lines first (numbers_from (length o.hung + 2) (m.count - 1)) ≡ replicate (m.count - 1) (nat_eq (length o.closed) 0)
    → lines_after o lines m ≡ on_top_lines first (lefts_in (sides_after o sides m))
after_top first o sides lines m some are inner =
    (λ i. are i ++ begins_on_line (are i) (valley_of o) ∷ replicate (m.count - 1) (nat_eq (length o.closed) 0))
    ∙ ap (λ ls. on_top_lines first (lefts_in sides) ++ ls) (sym (new_marks first o sides m (nat_eq (length o.closed) 0) some inner))
    ∙ sym (map-append (is_top_line first) (lefts_in sides) (lefts_in new))
    ∙ ap (on_top_lines first) (sym (map-append (λ s. s.0) sides new))
  where
    new : List (ℕ × ℕ)
    new = new_sides (length o.hung) m.count (left_end sides (valley_of o)) (right_end sides (valley_of o))

-- from later moves on
later_top : (first : ℕ) (o : Outline) (sides : List (ℕ × ℕ)) (lines : List Bool) (w : Word) → AreLegalFrom o w → 0 < length o.closed
    → first ≤ length o.hung → lines ≡ on_top_lines first (lefts_in sides) → lines_along o lines w ≡ on_top_lines first (lefts_in (sides_along o sides w))
later_top first o sides lines [] legal some many are = are
later_top first o sides lines (m ∷ w) legal some many are =
    later_top first (after_move o m) (sides_after o sides m) (lines_after o lines m) w legal.1
    (omega (arith, length-append o.closed (valley_of o ∷ [])))
    (omega (arith, many, length-append o.hung (replicate m.count (length o.closed))))
    (after_top first o sides lines m (legal.0).some are
    (inner_low first (length o.hung + 2) (m.count - 1) (omega (arith, many)) ∙ ap (replicate (m.count - 1)) (sym (nat_eq-not_zero (length o.closed) some))))

-- the marks of a word are those of the lines from its top
pub marks_of_lefts : (w : Word) → IsLegal w → edges_on_lines w ≡ on_top_lines (first_count w) (lefts_of w)
marks_of_lefts [] legal = refl
marks_of_lefts (m ∷ w) legal =
    later_top m.count (after_move start m) (sides_after start [] m) (lines_after start [] m) w legal.1 (omega arith)
    (omega (arith, length-replicate {A = ℕ} m.count 0))
    (after_top m.count start [] [] m (legal.0).some refl (inner_top m.count 2 (m.count - 1) (omega arith) (omega (arith, (legal.0).some))))

-- ---- on a board

-- the first count of a board, with a move more
pub first_more : (w more : Word) (m : Move) → more ≡ w ++ m ∷ [] → (hung first then_first : ℕ) → IsLegal w → hung ≡ order_of w
    → first ≡ first_count w
    → then_first ≡ cond (nat_eq hung 0) m.count first → then_first ≡ first_count more
first_more [] more m e hung first then_first legal h before now = now ∙ (λ i. cond (nat_eq (h i) 0) m.count first) ∙ ap first_count (sym e)
first_more (n ∷ w) more m e hung first then_first legal h before now =
    now ∙ (λ i. cond (some i) m.count first) ∙ before ∙ ap first_count (sym e)
  where
    some : nat_eq hung 0 ≡ false
    some = nat_eq-not_zero hung (omega (arith, h, order_more n w, (legal.0).some))

-- a line at the left of the valley that comes from the top, by its number
pub left_on_line : (w : Word) (squares : List ℕ) (line top : ℕ) → squares ≡ valley_of (outline_of w) → (v : Word) → v ≡ w → IsLegal v
    → line ≡ left_end (square_lines w) squares → top ≡ first_count w → is_top_line top line ≡ true
    → begins_on_line (edges_on_lines w) (valley_of (outline_of w)) ≡ true
left_on_line w squares line top are v same legal line_is top_is told =
    (λ i. begins_on_line (marks_of_lefts w (subst (λ (u : Word). IsLegal u) same legal) i) (sym are i))
    ∙ sym (segment_top (first_count w) (lefts_of w) squares)
    ∙ (λ i. is_top_line (sym top_is i) (sym (line_is ∙ end_left (square_lines w) squares) i)) ∙ told
