-- A comment goes on with all bytes.
use Rattle.std.specs.Prelude.{List, Some, [], length, refl, take, ℕ, ◌∷◌, ◌≡◌}
use Rattle.std.proofs.Common.{ap, arith, ◌∙◌}
use Rattle.std.proofs.lemmas.List.{take_all}
use Rattle.bk_text.specs.GatheredSides.{Gathered}
use Rattle.bk_text.specs.Onward.{onward}
use Rattle.bk_text.specs.declared.reader.Ending.{Ending}
use Rattle.bk_text.specs.declared.reader.Place.TheVariants.{Comment}

-- behind bytes of a comment the place and what is gathered are as before
onward_comment : (bs : List ℕ) (ending : Ending) (g : Gathered) → onward bs (Comment ending) g ≡ Some (Comment ending, g)
onward_comment [] ending g = refl
onward_comment (b ∷ bs) ending g = onward_comment bs ending g

-- behind all bytes of a comment that are left the place and what is gathered are as before
pub comment_to_end : (bs : List ℕ) (ending : Ending) (g : Gathered) → onward (take (length bs) bs) (Comment ending) g ≡ Some (Comment ending, g)
comment_to_end bs ending g = ap (λ (z : List ℕ). onward z (Comment ending) g) (take_all (length bs) bs (omega arith)) ∙ onward_comment bs ending g
