-- The lines of a word of at most 16 squares have numbers that can stand in a set.
use Rattle.std.proofs.Common.{List, Some, [], ap, arith, inl, inr, length, map, refl, slice_get, slice_index_or, subst, sym}
use Rattle.std.proofs.Common.{ℕ, ◌++◌, ◌+◌, ◌-◌, ◌<◌, ◌∙◌, ◌∷◌, ◌≡◌, ◌≤◌, ◌⊎◌}
use Rattle.std.proofs.lemmas.Bool.{cases_lt}
use Rattle.std.proofs.lemmas.List.{length-map}
use Rattle.std.proofs.lemmas.Option.{slice_get-get_or}
use Rattle.bk_laws.proofs.ListItems.{slice_index_or-any_default, slice_index_or-beyond}
use Rattle.bk_word.proofs.StoredBytes.{order_append}
use Rattle.bk_word.specs.Outline.{IsLegalMove}
use Rattle.bk_word.specs.Play.{outline_of}
use Rattle.bk_word.specs.Word.{Move, Word, order_of}
use Rattle.bk_layout.proofs.FreeCuts.CutByNodes.{as_many_sides}
use Rattle.bk_layout.specs.LineNumbers.{lefts_of, square_lines}
use Rattle.bk_layout.proofs.FreeCuts.KnownLines.{known_lines}
use Rattle.bk_free_search.proofs.Boards.LeftLines.{AreLeftsThen, index_side, left_count, left_more}
use Rattle.bk_free_search.proofs.Boards.RightLines.{AreRightsThen, as_many_rights, right_more}
use Rattle.bk_free_search.specs.Lefts.{IsLeftWord, first_left}
use Rattle.bk_free_search.specs.NodeLines.{AreLow}
use Rattle.bk_free_search.specs.Rights.{last_right, rights_of}

-- the lines at one side of a word's squares are low, since each square has one that was there before the next
low_side : (w : Word) (side : ℕ × ℕ → ℕ) → order_of w ≤ 16
    → ((k : ℕ) (s : ℕ × ℕ) → slice_get (square_lines w) k ≡ Some s → side s < k + 3) → AreLow (map side (square_lines w))
low_side w side few each k wall one = cases (cases_lt k (length (square_lines w)))
  where
    many : length (map side (square_lines w)) ≡ length (square_lines w)
    many = length-map (square_lines w) side

    cases : (k < length (square_lines w)) ⊎ (length (square_lines w) ≤ k) → slice_index_or (map side (square_lines w)) k wall < 32
    cases (inr h) = omega (arith, one, slice_index_or-beyond (map side (square_lines w)) k wall (omega (arith, h, many)))
    cases (inl h) = omega (
      arith,
      few,
      h,
      as_many_sides w,
      each k (slice_index_or (square_lines w) k (0, 1)) (slice_get-get_or (square_lines w) k (0, 1) h),
      slice_index_or-any_default (map side (square_lines w)) k wall (side (0, 1)) (omega (arith, h, many)),
      index_side side (square_lines w) k,
    )

-- the lines at the left of the squares are low
pub low_lefts : (w : Word) → order_of w ≤ 16 → AreLow (lefts_of w)
low_lefts w few = low_side w (λ s. s.0) few (λ k s at. omega (arith, (known_lines w k s at).0))

-- the lines at the right of the squares are low
pub low_rights : (w : Word) → order_of w ≤ 16 → AreLow (rights_of w)
low_rights w few = low_side w (λ s. s.1) few (λ k s at. omega (arith, (known_lines w k s at).1))

-- the line at the left end of a segment is low
pub low_left_end : (lefts squares : List ℕ) → AreLow lefts → first_left lefts squares < 32
low_left_end lefts [] low = omega arith
low_left_end lefts (number ∷ squares) low = low (number - 1) 0 (omega arith)

-- where right lines are numbers below 32, so is the right end of any squares
pub low_right_end : (rights squares : List ℕ) → AreLow rights → last_right rights squares < 32
low_right_end rights [] low = omega arith
low_right_end rights (number ∷ []) low = low (number - 1) 1 (omega arith)
low_right_end rights (number ∷ next ∷ squares) low = low_right_end rights (next ∷ squares) low

-- where a word has at most 16 squares after a legal move, its left lines are numbers below 32
pub low_lefts_then : (w : Word) (m : Move) (lefts lefts_then : List ℕ) → IsLeftWord w lefts → IsLegalMove (outline_of w) m → order_of w + m.count ≤ 16
    → AreLeftsThen w m lefts lefts_then → AreLow lefts_then
low_lefts_then w m lefts lefts_then left legal few then =
    let more = left_more w (w ++ m ∷ []) m lefts lefts_then left legal refl then in
    subst (λ (ls : List ℕ). AreLow ls) (sym more.lefts_are) (low_lefts (w ++ m ∷ []) (omega (arith, few, order_append w (m ∷ []))))

-- where a word has at most 16 squares after a legal move, its right lines are numbers below 32
pub low_rights_then : (w : Word) (m : Move) (rights rights_then : List ℕ) → rights ≡ rights_of w → IsLegalMove (outline_of w) m → order_of w + m.count ≤ 16
    → AreRightsThen w m rights rights_then → AreLow rights_then
low_rights_then w m rights rights_then right legal few then = subst (λ (ls : List ℕ). AreLow ls)
    (sym (right_more w m rights rights_then legal right then)) (low_rights (w ++ m ∷ []) (omega (arith, few, order_append w (m ∷ []))))

-- the lines that are read at the left of at most 16 squares are low
pub low_lefts_read : {w : Word} {lefts read : List ℕ} → IsLeftWord w lefts → read ≡ lefts → length read ≤ 16 → AreLow read
low_lefts_read {w = w} {lefts = lefts} left are few = subst (λ (ls : List ℕ). AreLow ls) (sym (are ∙ left.lefts_are))
    (low_lefts w (omega (arith, few, ap length are, left_count w lefts left)))

-- the lines that are read at the right of at most 16 squares are low
pub low_rights_read : (w : Word) {rights read : List ℕ} → rights ≡ rights_of w → read ≡ rights → length read ≤ 16 → AreLow read
low_rights_read w right are few = subst (λ (ls : List ℕ). AreLow ls) (sym (are ∙ right))
    (low_rights w (omega (arith, few, ap length (are ∙ right), as_many_rights w)))
