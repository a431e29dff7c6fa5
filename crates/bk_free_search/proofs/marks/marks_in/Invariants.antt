use Rattle.std.proofs.Common.{false, slice_index_or, true, ℕ, ◌≡◌}
use Rattle.bk_free_search.proofs.Asks.OpenMarks.{IsAt}
use Rattle.bk_free_search.specs.NodeLines.{Has}
use Rattle.bk_free_search.specs.Strong.{marks_by_lists}
use Rattle.bk_free_search.specs.TopLines.{on_top_lines}
use Rattle.bk_free_search.proofs.marks.marks_in.Given as goal

abbrev pub invariant-segments : goal.invariant-segments
invariant-segments l = record {
  at : IsAt l.top (on_top_lines l.top l.lefts) l.sizes l.ends l.i l.start;
  only : (j : ℕ) → Has l.marks j → slice_index_or (marks_by_lists l.top (on_top_lines l.top l.lefts) l.sizes l.ends) j false ≡ true;
}
