-- The bounds of complete words: with each move they fall by at most the squares that it hangs, and at the end they are 0.
use Rattle.std.specs.List.{list_any}
use Rattle.std.proofs.Common.{Bool, List, [], ap, arith, cond, false, inl, inr, length, map, refl, sym, true, ℕ, ◌||◌, ◌++◌, ◌+◌, ◌∙◌, ◌∷◌, ◌≡◌, ◌≤◌, ◌⊎◌}
use Rattle.std.proofs.lemmas.Bool.Decides.{nat_tests}
use Rattle.std.proofs.lemmas.List.{nil_from_length}
use Rattle.bk_word.specs.Outline.{IsLegalMove, Outline, sizes_of, start, valley_of}
use Rattle.bk_word.specs.Play.{AreLegalFrom, after_move, after_moves, outline_of}
use Rattle.bk_word.specs.Word.{Move, Word, order_of}
use Rattle.bk_word.proofs.StoredBytes.{order_append, order_more}
use Rattle.bk_word_net.proofs.Outlines.Shape.{Shaped, shaped_move, shaped_moves, shaped_start}
use Rattle.bk_catalogue.proofs.HangingBounds.ClosingLaws.{bound_after}
use Rattle.bk_catalogue.proofs.HangingBounds.LineMoves.{line_bound_after, lines-append, lines_long}
use Rattle.bk_word.proofs.PlayLaws.{after_moves-append, legal_front, legal_rest}
use Rattle.bk_catalogue.proofs.HangingBounds.SingleLaws.{singles_after}
use Rattle.bk_catalogue.specs.ClosingBound.{closing_bound}
use Rattle.bk_catalogue.specs.SingleValleys.{single_valley, single_valleys}
use Rattle.bk_catalogue.specs.VerticalCut.{line_bound, lines_after, lines_along, edges_on_lines, on_line, touched}
use Rattle.bk_catalogue.specs.WordBounds.{ClosingsAreHung, LinesAreHung, HangNoPairsFrom, HangsNoPair, SinglesAreHung}

-- without pairs from the start on is so after the first moves
pub no_pairs_rest : (o : Outline) (front rest : Word) → HangNoPairsFrom o (front ++ rest) → HangNoPairsFrom (after_moves o front) rest
no_pairs_rest o [] rest p = p
no_pairs_rest o (m ∷ front) rest p = no_pairs_rest (after_move o m) front rest p.1

-- one segment has no sign
no_sign : (o : Outline) → Shaped o → length o.segments ≡ 1 → o.signs ≡ []
no_sign o shaped one = nil_from_length o.signs (omega (arith, one, shaped.many))

closings_left : (o : Outline) (rest : Word) → AreLegalFrom o rest → Shaped o → length (after_moves o rest).segments ≡ 1 → closing_bound o.signs ≤ order_of rest
closings_left o [] legal shaped one = omega (arith, ap closing_bound (no_sign o shaped one))
closings_left o (m ∷ rest) legal shaped one =
    omega (arith, bound_after o m, (legal.0).some, closings_left (after_move o m) rest legal.1 (shaped_move o m legal.0 shaped) one, order_more m rest)

abbrev at_end : (front rest : Word) → outline_of (front ++ rest) ≡ after_moves (outline_of front) rest
at_end front rest = after_moves-append start front rest

-- the laws: the bound falls with each move by at most the squares that it hangs
pub closings_are_hung : ClosingsAreHung
closings_are_hung front rest complete = omega (
  arith,
  order_append front rest,
  closings_left (outline_of front) rest (legal_rest start front rest complete.legal)
      (shaped_moves start front (legal_front start front rest complete.legal) shaped_start)
      (ap (λ (o : Outline). length o.segments) (sym (at_end front rest)) ∙ complete.one),
)

-- ---- valleys of one square

single_case : (size : ℕ) → ((size ≡ 1) × (single_valley true size ≡ 1)) ⊎ (single_valley true size ≡ 0)
single_case size = grind (arith, nat_tests)

-- a move that closes one hangs at least two squares
single_move : (o : Outline) (m : Move) → IsLegalMove o m → HangsNoPair o m → single_valley true (length (valley_of o)) + 1 ≤ m.count
single_move o m legal no_pair = cases (single_case (length (valley_of o))) (two m.count)
  where
    two : (k : ℕ) → (k ≤ 1) ⊎ (2 ≤ k)
    two k = grind arith

    cases : ((length (valley_of o) ≡ 1) × (single_valley true (length (valley_of o)) ≡ 1)) ⊎ (single_valley true (length (valley_of o)) ≡ 0)
        → (m.count ≤ 1) ⊎ (2 ≤ m.count)
        → single_valley true (length (valley_of o)) + 1 ≤ m.count
    cases (inl h) (inl k) = absurd (no_pair h.0 (omega (arith, k, legal.some)))
    cases (inl h) (inr k) = omega (arith, h.1, k)
    cases (inr h) k = omega (arith, h, legal.some)

last_is_none : (segments : List (List ℕ)) → length segments ≡ 1 → ((s : List ℕ) → segments ≡ s ∷ [] → length s ≡ 1 → ⊥)
    → single_valleys [] (map length segments) ≡ 0
last_is_none [] one last = absurd (omega arith)
last_is_none (s ∷ u ∷ segments) one last = absurd (omega arith)
last_is_none (s ∷ []) one last = cases (single_case (length s))
  where
    cases : ((length s ≡ 1) × (single_valley true (length s) ≡ 1)) ⊎ (single_valley true (length s) ≡ 0) → single_valleys [] (length s ∷ []) ≡ 0
    cases (inl h) = absurd (last s refl h.0)
    cases (inr h) = h

singles_left : (o : Outline) (rest : Word) → AreLegalFrom o rest → Shaped o → length (after_moves o rest).segments ≡ 1 → HangNoPairsFrom o rest
    → ((s : List ℕ) → (after_moves o rest).segments ≡ s ∷ [] → length s ≡ 1 → ⊥) → closing_bound o.signs + single_valleys o.signs (sizes_of o) ≤ order_of rest
singles_left o [] legal shaped one pairs last = omega (arith, ap closing_bound (no_sign o shaped one), none)
  where
    none : single_valleys o.signs (sizes_of o) ≡ 0
    none = (λ i. single_valleys (no_sign o shaped one i) (sizes_of o)) ∙ last_is_none o.segments one last
singles_left o (m ∷ rest) legal shaped one pairs last = omega (
  arith,
  bound_after o m,
  singles_after o m legal.0 shaped,
  single_move o m legal.0 pairs.0,
  singles_left (after_move o m) rest legal.1 (shaped_move o m legal.0 shaped) one pairs.1 last,
  order_more m rest,
)

-- a complete word without pairs hangs one more square for each valley of one square
pub singles_are_hung : SinglesAreHung
singles_are_hung front rest complete pairs = omega (
  arith,
  order_append front rest,
  singles_left (outline_of front) rest (legal_rest start front rest complete.legal)
      (shaped_moves start front (legal_front start front rest complete.legal) shaped_start)
      (ap (λ (o : Outline). length o.segments) (sym (at_end front rest)) ∙ complete.one)
      (no_pairs_rest start front rest pairs.moves)
      (λ s e. pairs.last s (ap (λ (o : Outline). o.segments) (at_end front rest) ∙ e)),
)

-- ---- lines from the top

no_line : (lines : List Bool) (segments : List (List ℕ)) → length segments ≡ 1
    → ((s : List ℕ) → segments ≡ s ∷ [] → list_any (on_line lines) s ≡ true → ⊥) → line_bound [] (touched lines segments) ≡ 0
no_line lines [] one none = refl
no_line lines (s ∷ u ∷ segments) one none = absurd (omega arith)
no_line lines (s ∷ []) one none = cases (list_any (on_line lines) s) refl
  where
    cases : (b : Bool) → list_any (on_line lines) s ≡ b → ◌≡◌ {A = ℕ} (cond (b || false) 1 0) 0
    cases false f = refl
    cases true f = absurd (none s refl f)

lines_left : (o : Outline) (lines : List Bool) (rest : Word) → AreLegalFrom o rest → Shaped o → length lines ≡ length o.hung
    → length (after_moves o rest).segments ≡ 1 → HangNoPairsFrom o rest
    → ((s : List ℕ) → (after_moves o rest).segments ≡ s ∷ [] → length s ≡ 1 → ⊥)
    → ((s : List ℕ) → (after_moves o rest).segments ≡ s ∷ [] → list_any (on_line (lines_along o lines rest)) s ≡ true → ⊥)
    → line_bound o.signs (touched lines o.segments) + single_valleys o.signs (sizes_of o) ≤ order_of rest
lines_left o lines [] legal shaped long one pairs last none = omega (arith, no_lines, no_singles)
  where
    no_singles : single_valleys o.signs (sizes_of o) ≡ 0
    no_singles = (λ i. single_valleys (no_sign o shaped one i) (sizes_of o)) ∙ last_is_none o.segments one last

    no_lines : line_bound o.signs (touched lines o.segments) ≡ 0
    no_lines = (λ i. line_bound (no_sign o shaped one i) (touched lines o.segments)) ∙ no_line lines o.segments one none
lines_left o lines (m ∷ rest) legal shaped long one pairs last none = omega (
  arith,
  line_bound_after o lines m legal.0 shaped long,
  singles_after o m legal.0 shaped,
  single_move o m legal.0 pairs.0,
  lines_left (after_move o m) (lines_after o lines m) rest legal.1 (shaped_move o m legal.0 shaped)
      (lines_long o lines (m ∷ []) (legal.0, tt) long) one pairs.1 last none,
  order_more m rest,
)

-- a complete word hangs at least the squares of its first moves, of their line bound and of the single valleys
pub lines_are_hung : LinesAreHung
lines_are_hung front rest complete pairs none = omega (
  arith,
  order_append front rest,
  lines_left (outline_of front) (edges_on_lines front) rest (legal_rest start front rest complete.legal)
      (shaped_moves start front (legal_front start front rest complete.legal) shaped_start)
      (lines_long start [] front (legal_front start front rest complete.legal) refl)
      (ap (λ (o : Outline). length o.segments) (sym (at_end front rest)) ∙ complete.one)
      (no_pairs_rest start front rest pairs.moves)
      (λ s e. pairs.last s (ap (λ (o : Outline). o.segments) (at_end front rest) ∙ e))
      (λ s e f. none s (ap (λ (o : Outline). o.segments) (at_end front rest) ∙ e) ((λ i. list_any (on_line (lines-append start [] front rest i)) s) ∙ f)),
)
