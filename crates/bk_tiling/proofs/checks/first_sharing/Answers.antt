use Rattle.std.proofs.Common.{arith, ℕ, ◌<◌, ◌≤◌}
use Rattle.std.proofs.lemmas.Bool.{both_ways}
use Rattle.bk_tiling.proofs.Refusing.{none_before-more, share_from}
use Rattle.bk_tiling.specs.declared.Square.{Square}
use Rattle.bk_tiling.proofs.checks.first_sharing.Goals as goal

abbrev none : Square
none = record { x = 0; y = 0; s = 0 }

-- below the end of a loop is below where it stopped
all_done : {k i n : ℕ} → k < n → n ≤ i → k < i
all_done few done = omega (arith, few, done)

pub returns-then-share_cell-clause-some : goal.returns-then-share_cell-clause-some
returns-then-share_cell-clause-some c = record {
  after = omega (arith, c.loop-j.auto.j);
  below = c.loop-j-test.true;
  here = share_from c.args.squares.now c.args.i c.loop-j.j none c.requires.place c.loop-j-test.true (c.share_cell.ensures.0 c.if-share_cell.true);
  before = c.loop-j.invariant;
}

pub loop-j-preserved : goal.loop-j-preserved
loop-j-preserved c = none_before-more c.args.squares.now c.args.i c.loop-j.j none c.loop-j.invariant
    (λ share. both_ways c.share_cell.result c.if-share_cell.false (c.share_cell.ensures.1 share))

pub loop-j-init : goal.loop-j-init
loop-j-init c = λ k low high. absurd (omega (arith, low, high))

pub bounds-squares-i : goal.bounds-squares-i
bounds-squares-i c = c.requires.place

pub bounds-squares-j : goal.bounds-squares-j
bounds-squares-j c = c.loop-j-test.true

pub share_cell-requires-clause-p_fits : goal.share_cell-requires-clause-p_fits
share_cell-requires-clause-p_fits c = c.requires.fit c.args.i none c.requires.place

pub share_cell-requires-clause-q_fits : goal.share_cell-requires-clause-q_fits
share_cell-requires-clause-q_fits c = c.requires.fit c.loop-j.j none c.loop-j-test.true

pub returns-clause-none : goal.returns-clause-none
returns-clause-none c = λ k low few. c.loop-j.invariant k low (all_done few c.loop-j-test.false)
