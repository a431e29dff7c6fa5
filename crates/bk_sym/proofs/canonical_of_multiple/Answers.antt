use Rattle.bk_sym.proofs.Greatest.{canonical_of}
use Rattle.bk_sym.proofs.canonical_of_multiple.Goals as goal

pub returns-clause-canonical : goal.returns-clause-canonical
returns-clause-canonical c =
    canonical_of c.args.tiling.now c.scale_down.result c.greatest_image.result c.scale_down.ensures.value c.greatest_image.ensures.greatest
