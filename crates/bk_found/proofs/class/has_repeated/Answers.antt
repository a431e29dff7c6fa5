use Rattle.std.proofs.Common.{subst, ◌∙◌}
use Rattle.std.specs.Prelude.{AllPairs, IsTrue, List, ℕ, ◌↔◌, ◌≢◌}
use Rattle.bk_found.proofs.RepeatedMagnitudes.{perfect_told}
use Rattle.bk_found.proofs.class.has_repeated.Goals as goal

pub returns : goal.returns
returns c = λ t same. perfect_told t _ same c.are_different.result
    (subst (λ (sides : List ℕ). IsTrue c.are_different.result ↔ AllPairs ◌≢◌ sides) (c.as_slice.ensures.value ∙ c.magnitudes_of.ensures)
    c.are_different.ensures)
