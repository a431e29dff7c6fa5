-- The bounds after the moves of a legal word, by the flat lists of the open segments: how many squares each has, and the
-- numbers of these squares.
use Rattle.std.specs.List.{concat, sum}
use Rattle.std.proofs.Common.{List, [], ap, arith, drop, length, map, refl, slice_index_or, suc, sym, take, zero, ℕ, ◌+◌, ◌<◌, ◌∙◌, ◌∷◌, ◌≡◌}
use Rattle.std.proofs.lemmas.List.{drop-drop, drop_at, length-map, take_at}
use Rattle.bk_laws.proofs.Sums.{sum-cons_first}
use Rattle.bk_word.specs.Outline.{sizes_of, start}
use Rattle.bk_word.specs.Play.{IsLegal, outline_of}
use Rattle.bk_word.specs.Word.{Word}
use Rattle.bk_word_net.proofs.Outlines.Shape.{Shaped, shaped_moves, shaped_start}
use Rattle.bk_catalogue.specs.VerticalCut.{line_bound, line_bound_of, edges_on_lines, segments_of, touched}

-- ---- the flat lists make the segments again

-- the segments, made again from their sizes and the row of all numbers
pub segments_again : (segments : List (List ℕ)) → segments_of (map length segments) (concat segments) ≡ segments
segments_again [] = refl
segments_again (s ∷ segments) = (λ i. take_at s (concat segments) (length s) refl i
    ∷ segments_of (map length segments) (drop_at s (concat segments) (length s) refl i)) ∙ ap (λ ss. s ∷ ss) (segments_again segments)

-- a segment, by the flat lists: so many squares, behind those of the segments before it
pub segment_at : (sizes ends : List ℕ) (i : ℕ) → i < length sizes
    → slice_index_or (segments_of sizes ends) i [] ≡ take (slice_index_or sizes i 0) (drop (sum (take i sizes)) ends)
segment_at [] ends i h = absurd (omega arith)
segment_at (n ∷ sizes) ends zero h = refl
segment_at (n ∷ sizes) ends (suc i) h = segment_at sizes (drop n ends) i (omega arith)
    ∙ ap (take (slice_index_or sizes i 0)) (drop-drop (sum (take i sizes)) n ends ∙ (λ j. drop (sym (sum-cons_first n (take i sizes)) j) ends))

-- the bound of a word by these flat lists
pub line_bound_by_lists : (w : Word) → line_bound (outline_of w).signs
    (touched (edges_on_lines w) (segments_of (sizes_of (outline_of w)) (concat (outline_of w).segments))) ≡ line_bound_of w
line_bound_by_lists w = λ i. line_bound (outline_of w).signs (touched (edges_on_lines w) (segments_again (outline_of w).segments i))

-- ---- there is one segment more than signs

-- the outline of a legal word is shaped
pub shape_of_word : (w : Word) → IsLegal w → Shaped (outline_of w)
shape_of_word w legal = shaped_moves start w legal shaped_start

-- a legal word has one segment more than signs, as the bounds require of the flat lists
pub sizes_long : (w : Word) → IsLegal w → length (sizes_of (outline_of w)) ≡ length (outline_of w).signs + 1
sizes_long w legal = omega (arith, length-map (outline_of w).segments (λ (s : List ℕ). length s), (shape_of_word w legal).many)
