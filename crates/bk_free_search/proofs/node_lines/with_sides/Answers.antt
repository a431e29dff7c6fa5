-- The lines at both sides of a square are put in, the left one first.
use Rattle.std.proofs.Common.{arith, inl, inr, subst, sym, ◌-◌, ◌∙◌}
use Rattle.bk_free_search.specs.NodeLines.{Has}
use Rattle.bk_free_search.proofs.node_lines.with_sides.Goals as goal

pub with_line-with_left-requires : goal.with_line-with_left-requires
with_line-with_left-requires c = omega (arith, c.line_at.ensures 0, c.requires.lefts (c.args.square - 1) 0 (omega arith))

pub with_line-requires : goal.with_line-requires
with_line-requires c = omega (arith, c.line_at-2.ensures 1, c.requires.rights (c.args.square - 1) 1 (omega arith))

pub returns-clause-only : goal.returns-clause-only
returns-clause-only c line has = elim (c.with_line.ensures.only line has) [
  | inl is ↦ inl (inr (sym (is ∙ c.line_at-2.ensures 1)))
  | inr before ↦ elim (c.with_line-with_left.ensures.only line before) [
    | inl is ↦ inl (inl (sym (is ∙ c.line_at.ensures 0)))
    | inr kept ↦ inr kept
  ]
]

pub returns-clause-all : goal.returns-clause-all
returns-clause-all c line low beside = elim beside [
  | inl left ↦ c.with_line.ensures.kept line
      (subst (λ k. Has c.with_line-with_left.result k) (c.line_at.ensures 0 ∙ left) c.with_line-with_left.ensures.has)
  | inr right ↦ subst (λ k. Has c.with_line.result k) (c.line_at-2.ensures 1 ∙ right) c.with_line.ensures.has
]

pub returns-clause-kept : goal.returns-clause-kept
returns-clause-kept c = λ line has. c.with_line.ensures.kept line (c.with_line-with_left.ensures.kept line has)
