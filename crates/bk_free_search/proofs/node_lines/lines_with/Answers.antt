use Rattle.std.proofs.Common.{inl, inr, ◌⊎◌}
use Rattle.std.proofs.lemmas.Option.{slice_get-get_or}
use Rattle.bk_free_search.specs.NodeLines.{Has, TouchesWith}
use Rattle.bk_free_search.proofs.node_lines.lines_with.Goals as goal

pub nodes-preserved : goal.nodes-preserved
nodes-preserved c line has = cases (c.joined_lines-found.ensures.only line has)
  where
    cases : Has c.nodes.found line ⊎ Has c.lines_if.result line → TouchesWith c.args.nodes.now c.args.set line
    cases (inl before) = c.nodes.invariant line before
    cases (inr here) = let other = c.lines_if.ensures.touches line here in record {
      node = c.nodes.lines-index;
      touched = _;
      at = slice_get-get_or c.args.nodes.now c.nodes.lines-index _ c.nodes-test.true;
      has_line = c.lines_if.ensures.has line here;
      other = other.0;
      in_lines = other.1;
      has_other = other.2;
    }
