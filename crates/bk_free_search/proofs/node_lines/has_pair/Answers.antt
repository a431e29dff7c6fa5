use Rattle.std.proofs.Common.{ℕ, ◌≡◌, List}
use Rattle.bk_free_search.specs.NodeLines.{Has, HasPair, TouchBoth}
use Rattle.bk_free_search.specs.declared.line_set.LineSet.{LineSet}
use Rattle.bk_free_search.proofs.node_lines.has_pair.Goals as goal

-- a node that touches a line of each of two smaller sets touches those of the sets, if the lines are not the two walls
pair_of : (nodes : List LineSet) (lefts rights less fewer : LineSet) → ((line : ℕ) → Has less line → Has lefts line)
    → ((line : ℕ) → Has fewer line → Has rights line)
    → ((left right : ℕ) → Has less left → Has fewer right → left ≡ 0 → right ≡ 1 → ⊥) → TouchBoth nodes less fewer → HasPair nodes lefts rights
pair_of nodes lefts rights less fewer at_left at_right apart t = record {
  node = t.touches.node;
  lines = t.touches.touched;
  at = t.touches.at;
  left = t.touches.other;
  right = t.right;
  in_lefts = at_left t.touches.other t.touches.in_lines;
  in_rights = at_right t.right t.in_rights;
  has_left = t.touches.has_other;
  has_right = t.touches.has_line;
  not_walls = apart t.touches.other t.right t.touches.in_lines t.in_rights;
}

pub returns-then-touch_both : goal.returns-then-touch_both
returns-then-touch_both c _ = pair_of c.args.nodes.now c.args.lefts c.args.rights c.but_left_wall.result c.args.rights
    (λ line h. (c.but_left_wall.ensures line h).0) (λ line h. h) (λ left right h k e f. (c.but_left_wall.ensures left h).1 e)
    (c.touch_both.ensures c.if-touch_both.true)

pub returns-else-touch_both : goal.returns-else-touch_both
returns-else-touch_both c told = pair_of c.args.nodes.now c.args.lefts c.args.rights c.left_wall_of.result c.but_right_wall.result
    c.left_wall_of.ensures (λ line h. (c.but_right_wall.ensures line h).0) (λ left right h k e f. (c.but_right_wall.ensures right k).1 f)
    (c.touch_both-else-touch_both.ensures told)
