use Rattle.std.proofs.Common.{arith, length, ◌+◌, ◌∙◌, ◌≡◌}
use Rattle.bk_laws.proofs.NumberTests.{positive-from_zero_test}
use Rattle.bk_lay.proofs.Valleys.{segment_path}
use Rattle.bk_skel.proofs.PlacingGap.{gap_some}
use Rattle.bk_skel.proofs.placing.gap_under.Goals as goal

pub columns_over-requires-clause-fits : goal.columns_over-requires-clause-fits
columns_over-requires-clause-fits c =
    let g = gap_some c.args.width c.args.laid.now c.args.numbers.now c.requires.0 (positive-from_zero_test (length c.args.numbers.now) c.if-is_empty.ensures)
    c.requires.1 in
    let f = (c.requires.1).fits in omega (arith, g.1)

pub overflow_add-result : goal.overflow_add-result
overflow_add-result c =
    let g = gap_some c.args.width c.args.laid.now c.args.numbers.now c.requires.0 (positive-from_zero_test (length c.args.numbers.now) c.if-is_empty.ensures)
    c.requires.1 in
    let f = (c.requires.1).low in
    let e : c.square_of-first.result.y + c.square_of-first.result.s ≡ (c.requires.0).level = cc (g.2, c.square_of-first.ensures) in omega (arith, e)

pub returns : goal.returns
returns c v f =
    let g = gap_some c.args.width c.args.laid.now c.args.numbers.now v (positive-from_zero_test (length c.args.numbers.now) c.if-is_empty.ensures) f in
    segment_path _ v (cc (g.0, c.square_of-first.ensures)) (c.columns_over.ensures ∙ g.1) (cc (g.2, c.square_of-first.ensures))
