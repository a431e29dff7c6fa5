-- Which item a list has at a place. Places count from 0.
-- Example (HasAtExamples): the list 5, 7 has 5 at place 0 and 7 at place 1, and nothing at place 2.
use Rattle.std.specs.Prelude.{List, Some, slice_get, ℕ, ◌≡◌}

-- the list has the item x at place k: so k is below its length, and no other item stands there
abbrev pub HasAt : {A : Type 0} → List A → ℕ → A → Type 0
HasAt xs k x = slice_get xs k ≡ Some x
