-- A tiling has at most one first part and one least repeated side. Statements alone; they are proved apart.
use Rattle.std.specs.Prelude.{ℕ, ◌≡◌}
use Rattle.bk_tiling.specs.Tiling.{IsTiling, Rectangle, Tiling}
use Rattle.bk_simple.specs.Simple.{IsFirstPart, IsLeastRepeated}

-- a tiling has at most one first part
abbrev pub AFirstPartIsOne : Type 0
AFirstPartIsOne = (t : Tiling) (r s : Rectangle) → IsTiling t → IsFirstPart t r → IsFirstPart t s → r ≡ s

-- a tiling has at most one least repeated side
abbrev pub ALeastRepeatedSideIsOne : Type 0
ALeastRepeatedSideIsOne = (t : Tiling) (a b : ℕ) → IsLeastRepeated t a → IsLeastRepeated t b → a ≡ b
