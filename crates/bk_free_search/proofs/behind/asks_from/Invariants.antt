use Rattle.std.proofs.Common.{Bool, List, drop, false, length, slice_index_or, true, ℕ, ◌+◌, ◌-◌, ◌≡◌, ◌≤◌}
use Rattle.bk_word.specs.Signs.{is_under}
use Rattle.bk_word.specs.declared.Sign.TheVariants.{Above}
use Rattle.bk_free_search.specs.Apart.{AreAsks}
use Rattle.bk_free_search.specs.AskedSigns.{AreFewAsks}
use Rattle.bk_free_search.specs.NodeLines.{Has}
use Rattle.bk_free_search.proofs.behind.asks_from.Given as goal

abbrev pub invariant-loop-i : goal.invariant-loop-i
invariant-loop-i l = record {
  asks : (all : List Bool) → length all ≡ length l.sizes → ((i : ℕ) → Has l.marks i → slice_index_or all i false ≡ true)
      → AreAsks (is_under (slice_index_or l.signs (l.i - 1) Above)) (drop l.i l.signs) (drop l.i l.sizes) (drop l.i all) l.asks;
  low : l.from ≤ l.i;
  few : AreFewAsks l.asks (length l.signs + 1 - l.i);
}
