use Rattle.bk_ports.proofs.Fronts.{kept-added}
use Rattle.bk_ports.proofs.line.keep.Goals as goal

pub returns : goal.returns
returns c =
    let added = c.try_extend_from_slice-fits.ensures in
    kept-added _ _ c.try_extend_from_slice-fits.result c.args.front.now.items c.args.piece.now _ c.remaining_capacity.result c.min-fitting.result
    c.remaining_capacity.ensures c.min-fitting.ensures added.variant.1 added.ok
