-- A list of squares has one refusal, or makes a `Tiling`, and not both. Statements alone; they are proved apart.
use Rattle.std.specs.Prelude.{List, ℕ, ◌≡◌}
use Rattle.bk_tiling.specs.Refusal.{IsAccepted, IsRefusal}
use Rattle.bk_tiling.specs.declared.NotTiling.{NotTiling}
use Rattle.bk_tiling.specs.declared.Square.{Square}

-- no list is refused in two ways
abbrev pub RefusedInOneWay : Type 0
RefusedInOneWay =
    (width height : ℕ) (squares : List Square) (r s : NotTiling)
    → IsRefusal width height squares r → IsRefusal width height squares s → r ≡ s

-- no list that is refused is accepted
abbrev pub RefusedOrAccepted : Type 0
RefusedOrAccepted =
    (width height : ℕ) (squares : List Square) (r : NotTiling)
    → IsRefusal width height squares r → ¬ (IsAccepted width height squares)
