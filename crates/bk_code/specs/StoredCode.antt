-- How a `Code` is stored: all sides in order, and the places among them at which groups begin.
-- Example (CodeExamples): in the code of the rectangle 33x32 groups begin at the places 0, 2, 4, 6 and 8.
use Rattle.std.specs.Prelude.{List, [], drop, length, slice_range, ℕ, ◌<◌, ◌∷◌, ◌≡◌}
use Rattle.bk_code.specs.Code.{Code}
use Rattle.bk_code.specs.KeptCode.{IsKeptCode}

-- the groups of the sides from a place on, where further groups begin at these places
abbrev pub groups_from : ℕ → List ℕ → List ℕ → Code
groups_from from [] sides = drop from sides ∷ []
groups_from from (start ∷ starts) sides = slice_range sides from start ∷ groups_from start starts sides

-- the groups that begin at these places
abbrev pub groups_at : List ℕ → List ℕ → Code
groups_at [] sides = []
groups_at (start ∷ starts) sides = groups_from start starts sides

-- the places rise from one place to the end
abbrev pub Rise : ℕ → List ℕ → ℕ → Type 0
Rise from [] end = from < end
Rise from (start ∷ starts) end = (from < start) × Rise start starts end

-- the places rise from 0 to the end, or there is none of them and no side
abbrev pub AreStarts : List ℕ → ℕ → Type 0
AreStarts [] end = end ≡ 0
AreStarts (start ∷ starts) end = (start ≡ 0) × Rise start starts end

-- what holds of the places and sides that are stored
pub record IsStoredCode (starts sides : List ℕ) : Type 0 where
  pub starts_rise : AreStarts starts (length sides)
  pub code : IsKeptCode (groups_at starts sides)
