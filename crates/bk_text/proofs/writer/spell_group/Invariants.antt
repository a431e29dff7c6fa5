use Rattle.std.specs.Fmt.{decimal}
use Rattle.std.specs.Prelude.{flat_map, length, take, ◌*◌, ◌++◌, ◌+◌, ◌∷◌, ◌≡◌, ◌≤◌}
use Rattle.std.proofs.Common.{get_or}
use Rattle.bk_text.proofs.Spelling.{side_text}
use Rattle.bk_text.proofs.writer.spell_group.Given as goal

abbrev pub invariant-loop-side : goal.invariant-loop-side
invariant-loop-side l = record {
  text : l.line.items ≡ l.fn.line.items ++ 91 ∷ decimal (get_or l.sides 0 0) ++ flat_map side_text (take l.side-index l.others);
  short : length l.line.items ≤ length l.fn.line.items + 16 + 16 * l.side-index;
}
