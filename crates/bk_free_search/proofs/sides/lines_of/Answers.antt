use Rattle.std.proofs.Common.{arith, inl, inr, slice_index_or, sym, ◌-◌, ◌∙◌}
use Rattle.std.proofs.lemmas.Option.{slice_get-get_or}
use Rattle.bk_free_search.proofs.sides.lines_of.Goals as goal

pub squares-init : goal.squares-init
squares-init c = λ wall line has. absurd (c.no_line-found.ensures line has)

pub line_at-requires-clause-least : goal.line_at-requires-clause-least
line_at-requires-clause-least c = (c.requires.squares c.squares.square-index c.squares-test.true).0

pub line_at-requires-clause-most : goal.line_at-requires-clause-most
line_at-requires-clause-most c = (c.requires.squares c.squares.square-index c.squares-test.true).1

pub with_line-found-requires : goal.with_line-found-requires
with_line-found-requires c = omega (
  arith,
  c.line_at.ensures 0,
  c.requires.lines (slice_index_or c.args.squares.now c.squares.square-index 0 - 1) 0 (omega arith),
)

pub squares-preserved : goal.squares-preserved
squares-preserved c = λ wall line has. elim (c.with_line-found.ensures.only line has) [
  | inl e ↦ record {
    place = c.squares.square-index;
    number = slice_index_or c.args.squares.now c.squares.square-index 0;
    at = slice_get-get_or c.args.squares.now c.squares.square-index 0 c.squares-test.true;
    is = sym (c.line_at.ensures wall) ∙ sym e;
  }
  | inr before ↦ c.squares.invariant wall line before
]

pub returns : goal.returns
returns c = c.squares.invariant
