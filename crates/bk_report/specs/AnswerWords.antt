-- The words of answers that are in more than one of them, each spelled once.
-- Example (AnswerExamples): `ok` begins the answer `ok 9 33x32 perfect simple`, and stands in the line of a trial, too.
use Rattle.std.specs.Prelude.{List, codes, ℕ}

-- an item is accepted: the first word of such an answer; and how many trial codes are
abbrev pub ok_word : List ℕ
ok_word = codes "ok"

-- no two squares are of one size; and how many trial codes have such a tiling
abbrev pub perfect_word : List ℕ
perfect_word = codes "perfect"

-- two squares are of one size; and the class of such tilings
abbrev pub imperfect_word : List ℕ
imperfect_word = codes "imperfect"

-- no part of the squares forms a rectangle; how many trial codes have such a tiling; and the class of all of them
abbrev pub simple_word : List ℕ
simple_word = codes "simple"

-- a number would be too large
abbrev pub wide_word : List ℕ
wide_word = codes "wide"

-- how many squares there are
abbrev pub order_word : List ℕ
order_word = codes "order"

-- lines that are refused
abbrev pub refused_word : List ℕ
refused_word = codes "refused"

-- members that a list lacks
abbrev pub missing_word : List ℕ
missing_word = codes "missing"

-- entries of a list that are no members
abbrev pub foreign_word : List ℕ
foreign_word = codes "foreign"

-- items that were read
abbrev pub items_word : List ℕ
items_word = codes "items"

-- a comment begins: what stands before it is an item, and a line that begins with it has none
abbrev pub semicolon : List ℕ
semicolon = codes ";"
