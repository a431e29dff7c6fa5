use Rattle.bk_profile.proofs.CodeLaid.{kept_even}
use Rattle.bk_profile.proofs.laying.even_height.Goals as goal

pub returns-clause-even : goal.returns-clause-even
returns-clause-even c =
    kept_even c.args.profile.now c.least-least.result c.greatest-greatest.result c.requires c.least-least.ensures c.greatest-greatest.ensures
    c.if-least-greatest.false c.width-narrow.ensures.kept.narrow c.greatest-greatest.type_inv
