use Rattle.bk_profile.proofs.Division.{flat_refused_has_none}
use Rattle.bk_profile.proofs.LayingSteps.{refused_has_none}
use Rattle.bk_profile.proofs.laws.a_refusal_excludes_every_tiling.Goals as goal

pub returns-clause-code : goal.returns-clause-code
returns-clause-code c code r some refused t has = refused_has_none code r some refused t has

pub returns-clause-flat : goal.returns-clause-flat
returns-clause-flat c width sides r refused t has = flat_refused_has_none width sides r refused t has
