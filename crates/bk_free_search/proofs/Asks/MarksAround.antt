-- Marks of the segments around a move, each still apart: those before and behind the valley keep theirs, and the first and the last new square
-- have those of the lines beside the valley.
use Rattle.std.specs.List.{list_any}
use Rattle.std.proofs.Common.{Bool, List, [], ap, arith, false, length, nat_le, slice_index_or, suc, take, true, zero, ℕ}
use Rattle.std.proofs.Common.{◌||◌, ◌++◌, ◌+◌, ◌<◌, ◌∙◌, ◌∷◌, ◌≡◌}
use Rattle.std.proofs.lemmas.Bool.{or_left}
use Rattle.bk_laws.proofs.Truth.{or-monotone}
use Rattle.bk_catalogue.proofs.HangingBounds.LineLaws.{any_more, begins_more, next_more}
use Rattle.bk_catalogue.specs.VerticalCut.{begins_on_line, next_on_line, on_line}
use Rattle.bk_layout.specs.NormalCuts.{touched_or_wide}
use Rattle.bk_free_search.proofs.Asks.SharedMarks.{mark_of}

-- the marks behind others
pub marks_behind : (top : ℕ) (lines : List Bool) (xs ys : List (List ℕ)) (t : ℕ)
    → slice_index_or (touched_or_wide top lines (xs ++ ys)) (length xs + t) false ≡ slice_index_or (touched_or_wide top lines ys) t false
marks_behind top lines [] ys t = let e : 0 + t ≡ t = omega arith in ap (λ i. slice_index_or (touched_or_wide top lines ys) i false) e
marks_behind top lines (x ∷ xs) ys t = let e : suc (length xs) + t ≡ suc (length xs + t) = omega arith in
    ap (λ i. slice_index_or (touched_or_wide top lines (x ∷ (xs ++ ys))) i false) e ∙ marks_behind top lines xs ys t

-- a segment that begins on a line is marked, and so is the one in front of it
pub begins_marked : (top : ℕ) (lines : List Bool) (segments : List (List ℕ)) → next_on_line lines segments ≡ true
    → slice_index_or (touched_or_wide top lines segments) 0 false ≡ true
begins_marked top lines [] e = absurd (cc)
begins_marked top lines ([] ∷ segments) e = absurd (cc)
begins_marked top lines ((q ∷ s) ∷ segments) e =
    or_left (list_any (on_line lines) (q ∷ s) || next_on_line lines segments) (nat_le top (length (q ∷ s)))
    (or_left (list_any (on_line lines) (q ∷ s)) (next_on_line lines segments) (or_left (on_line lines q) (list_any (on_line lines) s) e))

module _ (top : ℕ) (lines later : List Bool) (kept : (q : ℕ) → on_line lines q ≡ true → on_line later q ≡ true) where
  -- where lines go on, so do marks
  mark_more : (s : List ℕ) (rest others : List (List ℕ)) → (next_on_line lines rest ≡ true → next_on_line later others ≡ true)
      → mark_of top lines s rest ≡ true → mark_of top later s others ≡ true
  mark_more s rest others next = or-monotone (list_any (on_line lines) s || next_on_line lines rest) (nat_le top (length s))
      (list_any (on_line later) s || next_on_line later others) (nat_le top (length s))
      (or-monotone (list_any (on_line lines) s) (next_on_line lines rest) (list_any (on_line later) s) (next_on_line later others)
      (any_more lines later kept s) next) (λ e. e)

  -- a mark stays where lines are only added
  pub marks_more : (segments : List (List ℕ)) (i : ℕ) → slice_index_or (touched_or_wide top lines segments) i false ≡ true
      → slice_index_or (touched_or_wide top later segments) i false ≡ true
  marks_more [] i e = absurd (cc)
  marks_more (s ∷ segments) zero e = mark_more s segments segments (next_more lines later kept segments) e
  marks_more (s ∷ segments) (suc i) e = marks_more segments i e

  -- the first segments, where the next one's line goes on in the new squares
  next_in_front : (j : ℕ) (more news back : List (List ℕ)) → (begins_on_line lines (slice_index_or more j []) ≡ true → next_on_line later (news ++ back) ≡ true)
      → next_on_line lines more ≡ true → next_on_line later ((take j more ++ news) ++ back) ≡ true
  next_in_front j [] news back first e = absurd (cc)
  next_in_front zero (t ∷ more) news back first e = first e
  next_in_front (suc j) (t ∷ more) news back first e = begins_more lines later kept t e

  -- a segment before place p keeps its mark where a line at the left edge of segment p goes on in new squares
  pub marks_before : (p : ℕ) (segments news back : List (List ℕ)) (i : ℕ) → i < p
      → (begins_on_line lines (slice_index_or segments p []) ≡ true → next_on_line later (news ++ back) ≡ true)
      → slice_index_or (touched_or_wide top lines segments) i false ≡ true
      → slice_index_or (touched_or_wide top later ((take p segments ++ news) ++ back)) i false ≡ true
  marks_before zero segments news back i low first e = absurd (omega arith)
  marks_before (suc p) [] news back i low first e = absurd (cc)
  marks_before (suc p) (s ∷ segments) news back zero low first e =
      mark_more s segments ((take p segments ++ news) ++ back) (next_in_front p segments news back first) e
  marks_before (suc p) (s ∷ segments) news back (suc i) low first e = marks_before p segments news back i (omega arith) first e
