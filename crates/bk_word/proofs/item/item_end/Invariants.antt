use Rattle.std.specs.Prelude.{drop, length, ◌<◌, ◌≤◌}
use Rattle.bk_grammar.specs.Grammar.{Blanks}
use Rattle.bk_word.proofs.item.item_end.Given as goal

abbrev pub invariant-loop-end : goal.invariant-loop-end
invariant-loop-end l = record { behind : l.start < l.end; within : l.end ≤ length l.text; blanks : Blanks (drop l.end l.text) }

abbrev pub decreases-loop-end : goal.decreases-loop-end
decreases-loop-end l = l.end
