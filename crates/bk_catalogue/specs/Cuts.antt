-- What a walk through the legal words may pass over: the words that begin with certain moves, because no member of
-- the catalogue has such a word. Statements alone; they are proved apart.
-- Example (BarrenExamples): no member's word begins with 2u.1e or with 2a, and of an order of at least 3 none with 2e.
use Rattle.std.specs.Prelude.{Contains, [], length, ℕ, ◌++◌, ◌<◌, ◌∷◌, ◌≡◌, ◌≤◌, ◌⊎◌}
use Rattle.bk_word.specs.Outline.{valley_of}
use Rattle.bk_word.specs.Play.{outline_of}
use Rattle.bk_word.specs.Word.{Move, Word, order_of}
use Rattle.bk_word.specs.declared.Class.{Class}
use Rattle.bk_word.specs.declared.Class.TheVariants.{Perfect}
use Rattle.bk_word.specs.declared.Sign.TheVariants.{Above, Even}
use Rattle.bk_catalogue.specs.Catalogue.{Entry, IsEntry}
use Rattle.bk_word.specs.OwnSigns.{own_signs}

-- no member's word begins with these moves
abbrev pub IsBarren : ℕ → Class → Word → Type 0
IsBarren n class front = (e : Entry) (rest : Word) → IsEntry n class e → e.word ≡ front ++ rest → ⊥

-- moves that leave one segment, while they hang fewer squares than the order
abbrev pub OneSegmentIsBarren : Type 0
OneSegmentIsBarren = (n : ℕ) (class : Class) (front : Word) → 0 < length front → order_of front < n
    → length (outline_of front).segments ≡ 1 → IsBarren n class front

-- a move with the sign even between two of its own squares
abbrev pub EvenSquaresAreBarren : Type 0
EvenSquaresAreBarren = (n : ℕ) (class : Class) (front : Word) (m : Move) → (class ≡ Perfect) ⊎ (3 ≤ n)
    → Contains (own_signs (outline_of front) m) Even → IsBarren n class (front ++ m ∷ [])

-- a move of one square that closes a segment of just one square
abbrev pub OneUnderOneIsBarren : Type 0
OneUnderOneIsBarren = (n : ℕ) (class : Class) (front : Word) (m : Move) → m.count ≡ 1
    → length (valley_of (outline_of front)) ≡ 1 → IsBarren n class (front ++ m ∷ [])

-- a first move of two squares with the sign above
abbrev pub ShorterFirstIsBarren : Type 0
ShorterFirstIsBarren = (n : ℕ) (class : Class) → IsBarren n class (record { count = 2; signs = Above ∷ [] } ∷ [])
