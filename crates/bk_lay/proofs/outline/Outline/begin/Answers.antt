use Rattle.std.proofs.Common.{refl}
use Rattle.bk_lay.proofs.LaidMoveLaws.{outline_of_nothing}
use Rattle.bk_lay.proofs.outline.Outline.begin.Goals as goal

pub returns-clause-outline : goal.returns-clause-outline
returns-clause-outline c = outline_of_nothing c.args.width _ c.requires c.clear.ensures c.clear-2.ensures refl
