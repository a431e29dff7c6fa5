use Rattle.std.proofs.Common.{length, slice_index_or, true, ℕ, ◌<◌, ◌≡◌}
use Rattle.bk_catalogue.specs.VerticalCut.{on_line}
use Rattle.bk_free_search.specs.NodeLines.{Has}
use Rattle.bk_free_search.specs.TopLines.{on_top_lines}
use Rattle.bk_free_search.proofs.top_lines.places_on_lines.Given as goal

abbrev pub invariant-ends : goal.invariant-ends
invariant-ends l = (j : ℕ) → Has l.places j → (j < length l.ends) × (on_line (on_top_lines l.first l.lefts) (slice_index_or l.ends j 0) ≡ true)
