-- Lists in ascending order, by whatever comes before what.
-- Example (TreeExamples): 1, 3, 7 ascend by less than, and 1, 1 do not.
use Rattle.std.specs.List.{AllByRecursion}
use Rattle.std.specs.Prelude.{List, [], ⊤, ◌∷◌}

-- each item comes before all behind it
abbrev pub Ascends : {A : Type 0} → (A → A → Type 0) → List A → Type 0
Ascends {A} Before [] = ⊤
Ascends {A} Before (x ∷ xs) = AllByRecursion (Before x) xs × Ascends Before xs
