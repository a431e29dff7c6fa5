use Rattle.std.proofs.Common.{arith, inl, inr, subst, sym, ◌+◌, ◌-◌}
use Rattle.bk_free_search.proofs.Boards.LinesBeside.{beside_new, first_beside, last_beside, own_beside}
use Rattle.bk_free_search.specs.NodeLines.{Has}
use Rattle.bk_free_search.proofs.node_lines.node_lines.Goals as goal

pub with_line-requires : goal.with_line-requires
with_line-requires c = omega (arith, c.requires.between.first_is, c.requires.lefts c.args.new.now.hung 0 (omega arith))

pub with_line-outer-requires : goal.with_line-outer-requires
with_line-outer-requires c = omega (arith, c.requires.between.last_is, c.requires.rights (c.args.new.now.hung + c.args.new.now.count - 1) 1 (omega arith))

pub returns-clause-only : goal.returns-clause-only
returns-clause-only c line has = elim (c.joined_lines.ensures.only line has) [
  | inl outer ↦ elim (c.with_line-outer.ensures.only line outer) [
    | inl e ↦ inr (last_beside c.args.lefts.now c.args.rights.now c.args.new.now c.requires.between c.requires.some line e)
    | inr inner ↦ elim (c.with_line.ensures.only line inner) [
      | inl e ↦ inr (first_beside c.args.lefts.now c.args.rights.now c.args.new.now c.requires.between
          c.requires.some line e)
      | inr ended ↦ inl (c.lines_beside-ended.ensures.only line ended)
    ]
  ]
  | inr own ↦ let b = c.lines_between.ensures.only line own in
      inr (own_beside c.args.lefts.now c.args.rights.now c.args.new.now c.requires.between c.requires.some line b.0 b.1)
]

pub returns-clause-all : goal.returns-clause-all
returns-clause-all c line low has = elim has [
  | inl ended ↦ c.joined_lines.ensures.all line (inl (c.with_line-outer.ensures.kept line (c.with_line.ensures.kept line
      (c.lines_beside-ended.ensures.all line low ended))))
  | inr new ↦ elim (beside_new c.args.lefts.now c.args.rights.now c.args.new.now c.requires.between c.requires.some
      line new) [
        | inl e ↦ c.joined_lines.ensures.all line (inl (c.with_line-outer.ensures.kept line (subst (Has c.with_line.result) (sym e) c.with_line.ensures.has)))
        | inr (inl e) ↦ c.joined_lines.ensures.all line (inl (subst (Has c.with_line-outer.result) (sym e) c.with_line-outer.ensures.has))
        | inr (inr own) ↦ c.joined_lines.ensures.all line (inr (c.lines_between.ensures.all line own.0 own.1))
      ]
]
