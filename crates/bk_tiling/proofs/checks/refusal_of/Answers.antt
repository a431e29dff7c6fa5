use Rattle.std.proofs.Common.{arith, List, refl, ℕ, ◌<◌, ◌^◌}
use Rattle.bk_tiling.proofs.OneRefusal.{accepted_from}
use Rattle.std.specs.List.{All}
use Rattle.bk_tiling.specs.Refusal.{AreWithin, HaveSides}
use Rattle.bk_tiling.specs.Sharing.{EdgesFit}
use Rattle.bk_tiling.specs.declared.Square.{Square}
use Rattle.bk_tiling.proofs.checks.refusal_of.Goals as goal

-- squares of these sides, within a rectangle that fits, fit
edges_fit : (width height : ℕ) (squares : List Square) → width < 2 ^ 64 → height < 2 ^ 64 → HaveSides squares → AreWithin width height squares
    → All EdgesFit squares
edges_fit width height squares wide high sides within k d few =
    let w = within k d few in
    ((sides k d few).0, omega (arith, w.right, wide), omega (arith, w.bottom, high))

pub returns-clause-none : goal.returns-clause-none
returns-clause-none c = accepted_from c.args.width c.args.height c.args.squares.now (omega arith) (omega arith, omega arith) c.in_default.ensures.none
    c.in_default-first_outside.ensures.none c.in_default-first_overlap.ensures.none c.in_default-first_uncovered.ensures.none

pub returns-then-squares-gt-MOST_SQUARES-clause-some : goal.returns-then-squares-gt-MOST_SQUARES-clause-some
returns-then-squares-gt-MOST_SQUARES-clause-some c = (c.if-squares-gt-MOST_SQUARES.true, refl)

pub returns-in-Some-clause-some : goal.returns-in-Some-clause-some
returns-in-Some-clause-some c =
    (c.if-squares-gt-MOST_SQUARES.false, (omega (arith, c.if-width-eq0.false), omega (arith, c.if-height-eq0.false)), c.in-Some.ensures.some)

pub returns-in-Some-first_outside-clause-some : goal.returns-in-Some-first_outside-clause-some
returns-in-Some-first_outside-clause-some c = (
  c.if-squares-gt-MOST_SQUARES.false,
  (omega (arith, c.if-width-eq0.false), omega (arith, c.if-height-eq0.false)),
  c.in_default.ensures.none,
  c.in-Some-first_outside.ensures.some,
)

pub first_overlap-requires : goal.first_overlap-requires
first_overlap-requires c =
    edges_fit c.args.width c.args.height c.args.squares.now (omega (arith, c.ranges.width.fits)) (omega (
      arith,
      c.ranges.height.fits,
    )) c.in_default.ensures.none c.in_default-first_outside.ensures.none

pub returns-in-Some-first_overlap-clause-some : goal.returns-in-Some-first_overlap-clause-some
returns-in-Some-first_overlap-clause-some c = (
  c.if-squares-gt-MOST_SQUARES.false,
  (omega (arith, c.if-width-eq0.false), omega (arith, c.if-height-eq0.false)),
  c.in_default.ensures.none,
  c.in_default-first_outside.ensures.none,
  c.in-Some-first_overlap.ensures.some,
)

pub first_uncovered-requires-clause-wide : goal.first_uncovered-requires-clause-wide
first_uncovered-requires-clause-wide c = omega (arith, c.if-width-eq0.false)

pub first_uncovered-requires-clause-few : goal.first_uncovered-requires-clause-few
first_uncovered-requires-clause-few c = c.if-squares-gt-MOST_SQUARES.false

pub first_uncovered-requires-clause-within : goal.first_uncovered-requires-clause-within
first_uncovered-requires-clause-within c = c.in_default-first_outside.ensures.none

pub first_uncovered-requires-clause-sides : goal.first_uncovered-requires-clause-sides
first_uncovered-requires-clause-sides c = c.in_default.ensures.none

pub first_uncovered-requires-clause-apart : goal.first_uncovered-requires-clause-apart
first_uncovered-requires-clause-apart c = c.in_default-first_overlap.ensures.none

pub returns-in-Some-first_uncovered-clause-some : goal.returns-in-Some-first_uncovered-clause-some
returns-in-Some-first_uncovered-clause-some c = (
  c.if-squares-gt-MOST_SQUARES.false,
  (omega (arith, c.if-width-eq0.false), omega (arith, c.if-height-eq0.false)),
  c.in_default.ensures.none,
  c.in_default-first_outside.ensures.none,
  c.in_default-first_overlap.ensures.none,
  c.in-Some-first_uncovered.ensures.some,
)
