use Rattle.std.proofs.Common.{arith, sym, ◌∙◌}
use Rattle.std.proofs.lemmas.List.Sums.{count_by-le-length}
use Rattle.bk_tiling.specs.CodeOrder.{comes_before}
use Rattle.bk_lay.proofs.CodePlaces.{counted_at, counted_to}
use Rattle.bk_lay.specs.LevelRuns.{corner}
use Rattle.bk_lay.proofs.laying.place_from.Goals as goal

pub squares-preserved : goal.squares-preserved
squares-preserved c = counted_at c.args.squares.now (corner c.args.x c.args.level) c.squares.place (record { x = 0; y = 0; s = 0 })
    c.requires.ordered c.squares-test.true (sym c.is_before.ensures ∙ c.if-is_before.true)

pub returns-else-is_before-clause-count : goal.returns-else-is_before-clause-count
returns-else-is_before-clause-count c = omega (
  arith,
  c.squares.invariant,
  counted_to c.args.squares.now (corner c.args.x c.args.level) c.squares.place (record { x = 0; y = 0; s = 0 })
      c.requires.ordered c.squares-test.true (sym c.is_before.ensures ∙ c.if-is_before.false),
)

pub squares-init : goal.squares-init
squares-init c = c.requires.known

pub bounds-squares-place : goal.bounds-squares-place
bounds-squares-place c = c.squares-test.true

pub squares-smaller : goal.squares-smaller
squares-smaller c = omega (arith, c.squares-test.true)

pub returns-else-is_before-clause-within : goal.returns-else-is_before-clause-within
returns-else-is_before-clause-within c = omega (arith, c.squares-test.true)

pub returns-after-squares-clause-count : goal.returns-after-squares-clause-count
returns-after-squares-clause-count c = omega (
  arith,
  c.squares.invariant,
  c.squares-test.false,
  count_by-le-length (λ q. comes_before q (corner c.args.x c.args.level)) c.args.squares.now,
)

pub returns-after-squares-clause-within : goal.returns-after-squares-clause-within
returns-after-squares-clause-within c = omega (
  arith,
  c.squares.invariant,
  count_by-le-length (λ q. comes_before q (corner c.args.x c.args.level)) c.args.squares.now,
)
