-- The currents of the one word of order 2, that of the row of two squares, are one number twice; no member of the class perfect has it.
use Rattle.std.specs.Prelude.{pos}
use Rattle.std.proofs.Common.{[], arith, refl, ◌∷◌}
use Rattle.bk_word.specs.declared.Class.TheVariants.{Perfect}
use Rattle.bk_catalogue.specs.Repeated.{HasNoMember, HasTwoAlike}
use Rattle.bk_catalogue.proofs.Members.CatalogueExamples.{no_perfect, row_word}

-- the number 1 stands at the places 0 and 1
pub row_alike : HasTwoAlike (pos 1 ∷ pos 1 ∷ [])
row_alike = record { first = 0; second = 1; number = pos 1; apart = omega arith; at_first = refl; at_second = refl }

-- and no member of the class perfect has the row's word
row_not_perfect : HasNoMember Perfect row_word
row_not_perfect e is same = no_perfect e is
