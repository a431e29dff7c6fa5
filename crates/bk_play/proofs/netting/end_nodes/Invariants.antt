use Rattle.std.specs.List.{concat}
use Rattle.std.proofs.Common.{List, drop, length, map, slice_index, sum, take, ℕ, ◌+◌, ◌<◌, ◌≡◌, ◌≤◌}
use Rattle.bk_play.specs.Wiring.{closed_of}
use Rattle.bk_word_net.specs.WordNet.{end_of}
use Rattle.bk_play.proofs.netting.end_nodes.Given as goal

abbrev pub invariant-nodes : goal.invariant-nodes
invariant-nodes l = record {
  within : l.node ≤ length l.records;
  long : length l.ended ≡ 200;
  at : l.end ≡ sum (take l.node (closed_of l.records));
  marked : (lists : List (List ℕ)) → l.closed ≡ concat lists → closed_of l.records ≡ map length lists
      → (k : ℕ) → k < 200 → slice_index l.ended k ≡ l.node + end_of (drop l.node lists) (k + 1);
}

abbrev pub decreases-nodes : goal.decreases-nodes
decreases-nodes l = l.node
