-- The right lines of a word's squares, as a move is played and taken back.
use Rattle.std.proofs.Common.{List, [], ap, append_assoc, arith, drop, length, map, refl, slice_index_or, suc, sym, take, zero, ℕ}
use Rattle.std.proofs.Common.{◌++◌, ◌+◌, ◌-◌, ◌<◌, ◌∙◌, ◌∷◌, ◌≡◌}
use Rattle.std.proofs.lemmas.List.{length-map, map-append, take-append-drop}
use Rattle.bk_word.specs.Outline.{IsLegalMove, start, valley_of}
use Rattle.bk_word.specs.Play.{numbers_from, outline_of}
use Rattle.bk_word.specs.Word.{Move, Word, order_of}
use Rattle.bk_layout.specs.LineNumbers.{left_end, new_sides, right_end, square_lines}
use Rattle.bk_free_search.proofs.Boards.LeftLines.{along_more, index_side, sides_more, sides_of_front}
use Rattle.bk_free_search.specs.Rights.{last_right, rights_of}

-- ---- one move

-- the right lines in a list of pairs of a left and a right line
abbrev pub rights_in : List (ℕ × ℕ) → List ℕ
rights_in sides = map (λ s. s.1) sides

new_rights : (hung count left right : ℕ) → rights_in (new_sides hung (suc count) left right) ≡ numbers_from (hung + 2) count ++ right ∷ []
new_rights hung zero left right = refl
new_rights hung (suc count) left right =
    let e : suc (suc hung) ≡ hung + 2 = omega arith in
    let f : suc hung + 2 ≡ hung + 2 + 1 = omega arith in
    ap (λ l. suc (suc hung) ∷ l) (new_rights (suc hung) count (suc (suc hung)) right) ∙ (λ i. e i ∷ (numbers_from (f i) count ++ right ∷ []))

-- the right end of a segment is the right line of its last square in the list of right lines
pub end_right : (sides : List (ℕ × ℕ)) (numbers : List ℕ) → right_end sides numbers ≡ last_right (rights_in sides) numbers
end_right sides [] = refl
end_right sides (number ∷ []) = index_side (λ s. s.1) sides (number - 1)
end_right sides (number ∷ next ∷ numbers) = end_right sides (next ∷ numbers)

-- the last of some squares
pub last_at : (rights squares : List ℕ) (d : ℕ) → 0 < length squares → slice_index_or rights (slice_index_or squares (length squares - 1) d - 1) 1
    ≡ last_right rights squares
last_at rights [] d some = absurd (omega arith)
last_at rights (number ∷ []) d some = refl
last_at rights (number ∷ next ∷ squares) d some =
    ap (λ k. slice_index_or rights (slice_index_or (number ∷ next ∷ squares) k d - 1) 1) more ∙ last_at rights (next ∷ squares) d (omega arith)
  where
    more : length (number ∷ next ∷ squares) - 1 ≡ suc (length (next ∷ squares) - 1)
    more = omega arith

-- ---- played and taken back

-- a word has as many right lines as squares
pub as_many_rights : (w : Word) → length (rights_of w) ≡ order_of w
as_many_rights w = let more = along_more start [] w in length-map (square_lines w) (λ s. s.1) ∙ ap length more.1 ∙ more.2

-- behind right lines stand those of the squares of a move, of which the last lies at the valley's right line
pub record AreRightsThen (w : Word) (m : Move) (rights rights_then : List ℕ) : Type 0 where
  pub hung : ℕ
  pub hung_is : hung ≡ order_of w
  pub count : ℕ
  pub count_is : count ≡ m.count
  pub last : ℕ
  pub last_is : last ≡ last_right rights (valley_of (outline_of w))
  pub are : rights_then ≡ rights ++ numbers_from (hung + 2) (count - 1) ++ last ∷ []

-- after a legal move the right lines are the old ones, the move's new lines and the valley's right line
pub right_more : (w : Word) (m : Move) (rights rights_then : List ℕ) → IsLegalMove (outline_of w) m → rights ≡ rights_of w
    → AreRightsThen w m rights rights_then → rights_then ≡ rights_of (w ++ m ∷ [])
right_more w m rights rights_then legal are then = then.are
    ∙ (λ i. are i ++ numbers_from (then.hung_is i + 2) (then.count_is i - 1) ++ (then.last_is ∙ last_is) i ∷ [])
    ∙ append_assoc (rights_of w) (numbers_from (order_of w + 2) (m.count - 1)) (right_end (square_lines w) (valley_of (outline_of w)) ∷ [])
    ∙ ap (λ r. rights_of w ++ r) (sym (new_rights (order_of w) (m.count - 1) (left_end (square_lines w) (valley_of (outline_of w)))
    (right_end (square_lines w) (valley_of (outline_of w)))))
    ∙ sym (ap rights_in (sides_more w m legal.some) ∙ map-append (λ s. s.1) (square_lines w) (new_sides (order_of w) (suc (m.count - 1))
    (left_end (square_lines w) (valley_of (outline_of w))) (right_end (square_lines w) (valley_of (outline_of w)))))
  where
    last_is : last_right rights (valley_of (outline_of w)) ≡ right_end (square_lines w) (valley_of (outline_of w))
    last_is = ap (λ r. last_right r (valley_of (outline_of w))) are ∙ sym (end_right (square_lines w) (valley_of (outline_of w)))

-- without its last move a word's right lines are the first ones, as many as the shorter word has squares
pub right_less : (w front : Word) (rights rights_then : List ℕ) (order : ℕ) → rights ≡ rights_of w → front ≡ take (length w - 1) w
    → order ≡ order_of front → rights_then ≡ take order rights → rights_then ≡ rights_of front
right_less w front rights rights_then order are e o f =
    f ∙ (λ i. take ((o ∙ ap order_of e) i) ((are ∙ ap rights_of whole) i)) ∙ sides_of_front (λ s. s.1) (take (length w - 1) w) (drop (length w - 1) w)
    ∙ ap rights_of (sym e)
  where
    whole : w ≡ take (length w - 1) w ++ drop (length w - 1) w
    whole = sym (take-append-drop (length w - 1) w)
