use Rattle.std.proofs.Common.{arith}
use Rattle.bk_tiling.proofs.Members.{found_none}
use Rattle.bk_tiling.proofs.Sweeping.{covered_more, is_over}
use Rattle.bk_tiling.specs.Tiling.{covers}
use Rattle.bk_tiling.proofs.checks.row_at.Goals as goal

pub overflow_add-x : goal.overflow_add-x
overflow_add-x c = let o =
    is_over c.args.width c.args.height c.args.squares.now c.columns.x c.args.y c.in-Some.q c.requires.within c.in-Some.ensures in omega (arith, o.right)

pub overflow_add-q : goal.overflow_add-q
overflow_add-q c = let o =
    is_over c.args.width c.args.height c.args.squares.now c.columns.x c.args.y c.in-Some.q c.requires.within c.in-Some.ensures in omega (arith, o.bottom)

pub columns-smaller : goal.columns-smaller
columns-smaller c = let o =
    is_over c.args.width c.args.height c.args.squares.now c.columns.x c.args.y c.in-Some.q c.requires.within c.in-Some.ensures in
    omega (arith, o.further, o.right)

pub columns-preserved : goal.columns-preserved
columns-preserved c =
    let o = is_over c.args.width c.args.height c.args.squares.now c.columns.x c.args.y c.in-Some.q c.requires.within c.in-Some.ensures in
    record {
      below = omega (arith, o.lower, c.min-until.ensures);
      most = omega (arith, c.min-until.ensures);
      covered = λ i j left high low. covered_more c.args.width c.args.height c.args.squares.now c.columns.x c.args.y c.columns.until c.in-Some.q o
          c.columns.invariant.covered i j left high (omega (arith, c.min-until.ensures));
    }

pub returns-in-None : goal.returns-in-None
returns-in-None c = (
  c.columns-test.true,
  found_none (covers c.columns.x c.args.y) c.args.squares.now c.in-None.ensures,
  λ i left. c.columns.invariant.covered i c.args.y left (omega arith) (omega arith),
)
