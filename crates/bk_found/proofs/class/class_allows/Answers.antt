use Rattle.std.proofs.Common.{subst}
use Rattle.bk_word.specs.declared.Class.{Class}
use Rattle.bk_catalogue.specs.Catalogue.{IsOfClass}
use Rattle.bk_found.proofs.class.class_allows.Goals as goal

pub returns-in-Imperfect : goal.returns-in-Imperfect
returns-in-Imperfect c none t sides of =
    subst (λ (k : Class). IsOfClass k t) c.in-Imperfect.is of ((c.has_repeated-in-Imperfect.ensures t sides).0 none)
