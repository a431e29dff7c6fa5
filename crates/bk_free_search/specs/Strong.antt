-- A pass over the open segments as the search counts it.
-- Example (StrongExamples): over the segments of 2u.2ua, of which the first two are marked, it counts 3 moves and the
-- weight 1.
use Rattle.std.specs.List.{list_any}
use Rattle.std.specs.Prelude.{Bool, List, length, max, nat_le, slice_index_or, ℕ, ◌+◌, ◌<◌, ◌||◌, ◌≤◌}
use Rattle.bk_catalogue.specs.VerticalCut.{begins_on_line, on_line, segments_of}
use Rattle.bk_layout.specs.NormalCuts.{touched_or_wide}
use Rattle.bk_layout.specs.StrongPass.{Passed as SeenPassed}
use Rattle.bk_free_search.specs.declared.strong.Passed.{Passed}

abbrev pub seen_passed : Passed → SeenPassed
seen_passed p = record { most = p.most; aboves = p.aboves; more = p.more; low = p.low }

-- what a pass has counted in front of a segment, with the mark of that segment
abbrev pub with_mark : SeenPassed → SeenPassed
with_mark p = record { most = max p.most (p.aboves + 1); aboves = p.aboves; more = p.more; low = p.low }

-- the numbers are small after a pass over so many segments
pub record IsFewPassed (p : Passed) (k : ℕ) : Type 0 where
  pub most : p.most ≤ k + 2
  pub aboves : p.aboves ≤ k
  pub more : p.more ≤ k

-- whether a segment of this size is marked, in front of the next one: a line bounds it or ended on it, or it has at
-- least as many squares as the top
abbrev pub is_marked_segment : ℕ → List Bool → List ℕ → List ℕ → ℕ → Bool
is_marked_segment top lines segment next size =
    (list_any (on_line lines) segment || begins_on_line lines next) || nat_le top size

-- the marks of the segments of these sizes
abbrev pub marks_by_lists : ℕ → List Bool → List ℕ → List ℕ → List Bool
marks_by_lists top lines sizes ends = touched_or_wide top lines (segments_of sizes ends)

-- no segment of several is without squares, by their sizes
abbrev pub AreFilled : List ℕ → Type 0
AreFilled sizes = (i : ℕ) → i < length sizes → 1 < length sizes → 0 < slice_index_or sizes i 0
