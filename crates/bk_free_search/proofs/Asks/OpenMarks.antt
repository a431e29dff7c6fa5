-- The marks of the open segments by the flat lists that a skeleton keeps, segment by segment.
use Rattle.std.specs.List.{concat, list_any}
use Rattle.std.proofs.Common.{Bool, List, [], ap, arith, drop, false, inl, inr, length, map, nat_le, refl, slice_index_or, suc, sum, sym, take, true, zero}
use Rattle.std.proofs.Common.{ℕ, ◌||◌, ◌+◌}
use Rattle.std.proofs.Common.{◌<◌, ◌∙◌, ◌∷◌, ◌≡◌, ◌≤◌, ◌⊎◌}
use Rattle.std.proofs.lemmas.Bool.{cases_lt, le-leb}
use Rattle.std.proofs.lemmas.List.{drop-drop, drop_all, drop_more, get_or-drop, get_or-take, length-drop, length-map, length-take}
use Rattle.std.proofs.lemmas.List.Folds.{list_any_at}
use Rattle.bk_laws.proofs.ListItems.{slice_index_or-beyond}
use Rattle.bk_laws.proofs.Sums.{sum-cons_first, sum-drop_past_end, sum-drop_step}
use Rattle.bk_word.specs.Outline.{sizes_of}
use Rattle.bk_word.specs.Play.{outline_of}
use Rattle.bk_word.specs.Word.{Word}
use Rattle.bk_word_net.proofs.Outlines.Shape.{AllFilled}
use Rattle.bk_catalogue.proofs.HangingBounds.BoundsOfWords.{segments_again}
use Rattle.bk_catalogue.specs.VerticalCut.{begins_on_line, edges_on_lines, next_on_line, on_line, segments_of}
use Rattle.bk_layout.specs.NormalCuts.{touched_or_wide}
use Rattle.bk_free_search.specs.Strong.{AreFilled, is_marked_segment, marks_by_lists}
use Rattle.bk_free_search.specs.NodeLines.{Has}
use Rattle.bk_free_search.specs.TopLines.{HasOneFrom}
use Rattle.bk_free_search.specs.declared.line_set.LineSet.{LineSet}

-- the first of these sizes, and the segment of the squares that it takes
next_begins : (lines : List Bool) (sizes ends : List ℕ) (i : ℕ) → i < length sizes
    → next_on_line lines (segments_of (drop i sizes) ends) ≡ begins_on_line lines (take (slice_index_or sizes i 0) ends)
next_begins lines sizes ends i h = ap (λ l. next_on_line lines (segments_of l ends)) (drop_more sizes i 0 h)

none_begins : (lines : List Bool) (sizes ends : List ℕ) (i : ℕ) → length sizes ≤ i → next_on_line lines (segments_of (drop i sizes) ends) ≡ false
none_begins lines sizes ends i h = ap (λ l. next_on_line lines (segments_of l ends)) (drop_all i sizes h)

-- the squares of the segments from place i on begin at a place among all of them, and these are their marks
pub record IsAt (top : ℕ) (lines : List Bool) (sizes ends : List ℕ) (i start : ℕ) : Type 0 where
  pub within : start + sum (drop i sizes) ≡ length ends
  pub rest : (t : ℕ) → slice_index_or (marks_by_lists top lines sizes ends) (i + t) false
      ≡ slice_index_or (marks_by_lists top lines (drop i sizes) (drop start ends)) t false

module _ (top : ℕ) (lines : List Bool) (sizes ends : List ℕ) where
  -- in front of the first segment
  pub at_none : sum sizes ≡ length ends → IsAt top lines sizes ends 0 0
  at_none enough = record { within = omega (arith, enough); rest = same }
    where
      same : (t : ℕ) → slice_index_or (marks_by_lists top lines sizes ends) (0 + t) false ≡ slice_index_or (marks_by_lists top lines sizes ends) t false
      same t = let e : 0 + t ≡ t = omega arith in ap (λ k. slice_index_or (marks_by_lists top lines sizes ends) k false) e

  module _ (i start : ℕ) (h : IsAt top lines sizes ends i start) (low : i < length sizes) where
    -- the squares of the segment, and of the next one, lie within all of them
    pub two_fit : start + slice_index_or sizes i 0 + slice_index_or sizes (i + 1) 0 ≤ length ends
    two_fit = cases (cases_lt (i + 1) (length sizes))
      where
        cases : (i + 1 < length sizes) ⊎ (length sizes ≤ i + 1) → start + slice_index_or sizes i 0 + slice_index_or sizes (i + 1) 0 ≤ length ends
        cases (inl g) = omega (arith, h.within, sum-drop_step sizes i low, sum-drop_step sizes (i + 1) g)
        cases (inr g) = omega (arith, h.within, sum-drop_step sizes i low, slice_index_or-beyond sizes (i + 1) 0 g)

    begins : next_on_line lines (segments_of (drop (i + 1) sizes) (drop (start + slice_index_or sizes i 0) ends))
        ≡ begins_on_line lines (take (slice_index_or sizes (i + 1) 0) (drop (start + slice_index_or sizes i 0) ends))
    begins = cases (cases_lt (i + 1) (length sizes))
      where
        cases : (i + 1 < length sizes) ⊎ (length sizes ≤ i + 1)
            → next_on_line lines (segments_of (drop (i + 1) sizes) (drop (start + slice_index_or sizes i 0) ends))
            ≡ begins_on_line lines (take (slice_index_or sizes (i + 1) 0) (drop (start + slice_index_or sizes i 0) ends))
        cases (inl g) = next_begins lines sizes (drop (start + slice_index_or sizes i 0) ends) (i + 1) g
        cases (inr g) = none_begins lines sizes (drop (start + slice_index_or sizes i 0) ends) (i + 1) g
            ∙ sym (ap (λ k. begins_on_line lines (take k (drop (start + slice_index_or sizes i 0) ends))) (slice_index_or-beyond sizes (i + 1) 0 g))

    -- its mark
    mark_is : marks_by_lists top lines (drop i sizes) (drop start ends)
        ≡ is_marked_segment top lines (take (slice_index_or sizes i 0) (drop start ends))
        (take (slice_index_or sizes (i + 1) 0) (drop (start + slice_index_or sizes i 0) ends)) (slice_index_or sizes i 0)
        ∷ marks_by_lists top lines (drop (i + 1) sizes) (drop (start + slice_index_or sizes i 0) ends)
    mark_is = ap (λ l. marks_by_lists top lines l (drop start ends)) (drop_more sizes i 0 low)
        ∙ (λ j. ((list_any (on_line lines) (take (slice_index_or sizes i 0) (drop start ends)) || here j) || nat_le top (as_many j))
        ∷ marks_by_lists top lines (drop (i + 1) sizes) (behind j))
      where
        behind : drop (slice_index_or sizes i 0) (drop start ends) ≡ drop (start + slice_index_or sizes i 0) ends
        behind = drop-drop (slice_index_or sizes i 0) start ends ∙ ap (λ k. drop k ends) (omega arith)

        here : next_on_line lines (segments_of (drop (i + 1) sizes) (drop (slice_index_or sizes i 0) (drop start ends)))
            ≡ begins_on_line lines (take (slice_index_or sizes (i + 1) 0) (drop (start + slice_index_or sizes i 0) ends))
        here = ap (λ l. next_on_line lines (segments_of (drop (i + 1) sizes) l)) behind ∙ begins

        as_many : length (take (slice_index_or sizes i 0) (drop start ends)) ≡ slice_index_or sizes i 0
        as_many = omega (arith, length-take (slice_index_or sizes i 0) (drop start ends), length-drop start ends, two_fit)

    pub mark_there : slice_index_or (marks_by_lists top lines sizes ends) i false
        ≡ is_marked_segment top lines (take (slice_index_or sizes i 0) (drop start ends))
        (take (slice_index_or sizes (i + 1) 0) (drop (start + slice_index_or sizes i 0) ends)) (slice_index_or sizes i 0)
    mark_there = let e : i ≡ i + 0 = omega arith in ap (λ k. slice_index_or (marks_by_lists top lines sizes ends) k false) e
        ∙ h.rest 0 ∙ ap (λ l. slice_index_or l 0 false) mark_is

    -- behind the segment
    pub at_next : IsAt top lines sizes ends (i + 1) (start + slice_index_or sizes i 0)
    at_next = record {
      within = omega (arith, h.within, sum-drop_step sizes i low);
      rest = λ t. let e : i + 1 + t ≡ i + suc t = omega arith in ap (λ k. slice_index_or (marks_by_lists top lines sizes ends) k false) e
          ∙ h.rest (suc t) ∙ ap (λ l. slice_index_or l (suc t) false) mark_is;
    }

    or_true : (b : Bool) → (b || true) ≡ true
    or_true true = refl
    or_true false = refl

    begins_there : (n : ℕ) (squares : List ℕ) → 0 < n → 0 < length squares → on_line lines (slice_index_or squares 0 0) ≡ true
        → begins_on_line lines (take n squares) ≡ true
    begins_there n [] some has on = absurd (omega (arith, has))
    begins_there zero (q ∷ squares) some has on = absurd (omega (arith, some))
    begins_there (suc n) (q ∷ squares) some has on = on

    -- a segment is marked where one of its squares, or the next one, stands at a line, and where it has enough squares
    pub marked_there : (places : LineSet)
        → ((j : ℕ) → Has places j → (j < length ends) × (on_line lines (slice_index_or ends j 0) ≡ true)) → AreFilled sizes
        → HasOneFrom places start (slice_index_or sizes i 0) ⊎ (top ≤ slice_index_or sizes i 0)
        → slice_index_or (marks_by_lists top lines sizes ends) i false ≡ true
    marked_there places on filled (inr wide) = mark_there
        ∙ ap (λ b. ((list_any (on_line lines) (take (slice_index_or sizes i 0) (drop start ends))
        || begins_on_line lines (take (slice_index_or sizes (i + 1) 0) (drop (start + slice_index_or sizes i 0) ends))) || b)) wide_enough
        ∙ or_true (list_any (on_line lines) (take (slice_index_or sizes i 0) (drop start ends))
        || begins_on_line lines (take (slice_index_or sizes (i + 1) 0) (drop (start + slice_index_or sizes i 0) ends)))
      where
        wide_enough : nat_le top (slice_index_or sizes i 0) ≡ true
        wide_enough = le-leb top (slice_index_or sizes i 0) wide
    marked_there places on filled (inl one) = mark_there ∙ cases (cases_lt one.more size)
      where
        size : ℕ
        size = slice_index_or sizes i 0

        here : (start + one.more < length ends) × (on_line lines (slice_index_or ends (start + one.more) 0) ≡ true)
        here = on (start + one.more) one.has

        cases : (one.more < size) ⊎ (size ≤ one.more)
            → is_marked_segment top lines (take size (drop start ends)) (take (slice_index_or sizes (i + 1) 0) (drop (start + size) ends)) size ≡ true
        cases (inl low) = ap (λ b. (b || begins_on_line lines (take (slice_index_or sizes (i + 1) 0) (drop (start + size) ends))) || nat_le top size)
            (list_any_at (on_line lines) (take size (drop start ends)) one.more 0
            (omega (arith, low, here.0, length-take size (drop start ends), length-drop start ends))
            (ap (on_line lines) (get_or-take size (drop start ends) one.more 0 low ∙ get_or-drop start ends one.more 0) ∙ here.1))
        cases (inr high) = ap (λ b. (list_any (on_line lines) (take size (drop start ends)) || b) || nat_le top size)
            (begins_there (slice_index_or sizes (i + 1) 0) (drop (start + size) ends) next_some
            (omega (arith, here.0, same, length-drop (start + size) ends))
            (ap (on_line lines) (get_or-drop (start + size) ends 0 0 ∙ ap (λ k. slice_index_or ends k 0) next_at) ∙ here.1))
            ∙ ap (λ b. b || nat_le top size) (or_true (list_any (on_line lines) (take size (drop start ends))))
          where
            same : one.more ≡ size
            same = omega (arith, high, one.few)

            next_at : start + size + 0 ≡ start + one.more
            next_at = omega (arith, same)

            next_low : i + 1 < length sizes
            next_low = more (cases_lt (i + 1) (length sizes))
              where
                more : (i + 1 < length sizes) ⊎ (length sizes ≤ i + 1) → i + 1 < length sizes
                more (inl h) = h
                more (inr over) = absurd (omega (arith, h.within, sum-drop_step sizes i low, sum-drop_past_end sizes (i + 1) over, here.0, same))

            next_some : 0 < slice_index_or sizes (i + 1) 0
            next_some = filled (i + 1) next_low (omega (arith, next_low))

-- there are no more segments than squares, but one
pub segments_few : (sizes : List ℕ) → AreFilled sizes → length sizes ≤ sum sizes + 1
segments_few [] filled = omega arith
segments_few (n ∷ []) filled = omega (arith, sum-cons_first n [])
segments_few (n ∷ k ∷ sizes) filled = omega (arith, all (n ∷ k ∷ sizes) (λ i h. filled i h (omega arith)))
  where
    all : (sizes : List ℕ) → ((i : ℕ) → i < length sizes → 0 < slice_index_or sizes i 0) → length sizes ≤ sum sizes
    all [] some = omega arith
    all (x ∷ xs) some = omega (arith, some 0 (omega arith), all xs (λ i h. some (suc i) (omega (arith, h))), sum-cons_first x xs)

-- no segment of a word is without squares, but the top
pub filled_sizes : (segments : List (List ℕ)) → (length segments ≡ 1) ⊎ AllFilled segments → AreFilled (map length segments)
filled_sizes segments (inl one) i low more = absurd (omega (arith, one, more, length-map segments (λ (s : List ℕ). length s)))
filled_sizes segments (inr all) i low more = at segments all i low
  where
    at : (segments : List (List ℕ)) → AllFilled segments → (i : ℕ) → i < length (map length segments) → 0 < slice_index_or (map length segments) i 0
    at [] all i low = absurd (omega (arith, low))
    at (s ∷ segments) all zero low = all.0
    at (s ∷ segments) all (suc i) low = at segments all.1 i (omega (arith, low))

-- the marks of a word's segments by the flat lists
pub marks_again : (top : ℕ) (w : Word)
    → marks_by_lists top (edges_on_lines w) (sizes_of (outline_of w)) (concat (outline_of w).segments)
    ≡ touched_or_wide top (edges_on_lines w) (outline_of w).segments
marks_again top w = ap (touched_or_wide top (edges_on_lines w)) (segments_again (outline_of w).segments)
