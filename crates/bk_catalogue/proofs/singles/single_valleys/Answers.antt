use Rattle.std.proofs.Common.{arith, slice_index_or, length}
use Rattle.bk_catalogue.proofs.HangingBounds.CountingLaws.{found_above, found_end, found_even, found_start, found_under, single_few}
use Rattle.bk_catalogue.proofs.singles.single_valleys.Goals as goal
use Rattle.bk_catalogue.proofs.singles.single_valleys.Goals.{in-Above, in-Even, in-Under}

pub loop-i-init : goal.loop-i-init
loop-i-init c = found_start c.args.signs.now c.args.sizes.now

pub overflow_add-found : goal.overflow_add-found
overflow_add-found c = omega (
  arith,
  c.loop-i.invariant.few,
  c.single_valley-found.ensures,
  single_few c.loop-i.low (slice_index_or c.args.sizes.now c.loop-i.i 0),
)

pub loop-i-preserved : goal.loop-i-preserved
loop-i-preserved c =
    let l = c.loop-i in
    let few = c.loop-i-test.true in
    elim c.match-sign.branch [
      | in-Above w ↦ found_above c.args.signs.now c.args.sizes.now l.i l.found l.low c.match-sign.found c.match-sign.low few c.requires w.in-Above.is
          (omega (arith, w.found-is, w.single_valley-found.ensures)) w.low-is l.invariant
      | in-Even w ↦ found_even c.args.signs.now c.args.sizes.now l.i l.found l.low c.match-sign.found c.match-sign.low few c.requires w.in-Even.is
          w.found-is w.low-is l.invariant
      | in-Under w ↦ found_under c.args.signs.now c.args.sizes.now l.i l.found l.low c.match-sign.found c.match-sign.low few c.requires w.in-Under.is
          w.found-is w.low-is l.invariant
    ]

pub overflow_add-result : goal.overflow_add-result
overflow_add-result c = omega (
  arith,
  c.loop-i.invariant.few,
  c.single_valley.ensures,
  single_few c.loop-i.low (slice_index_or c.args.sizes.now (length c.args.signs.now) 0),
)

pub returns : goal.returns
returns c = omega (
  arith,
  c.single_valley.ensures,
  found_end c.args.signs.now c.args.sizes.now c.loop-i.i c.loop-i.found c.loop-i.low (omega arith)
      c.requires c.loop-i.invariant,
)
