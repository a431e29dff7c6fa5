-- Each part of the tree has a tree count, which is one number, and it is additive. Statements alone; each is proved
-- apart.
-- Example (TreeExamples): of order 1 there is one word, 1. Up to it there is one, behind it none, and 1 + 0 is the
-- count of all.
use Rattle.std.specs.Prelude.{Option, Some, length, ℕ, ◌+◌, ◌<◌, ◌≡◌, ◌≤◌}
use Rattle.bk_word.specs.Play.{IsLegal}
use Rattle.bk_word.specs.Word.{Follows, Word, order_of}
use Rattle.bk_catalogue.specs.Tree.{HasAtLeast, IsNotAfter, IsTreeCount}

-- a part of the tree, after a cursor and not after a bound, has a tree count
abbrev pub EachPartOfTheTreeHasACount : Type 0
EachPartOfTheTreeHasACount = (n : ℕ) (cursor : Word) (bound : Option Word)
    → (number : ℕ) × IsTreeCount n cursor bound number

-- a list of words of the tree has at most as many as the tree
abbrev pub TheTreeCountIsMost : Type 0
TheTreeCountIsMost = (n : ℕ) (cursor : Word) (bound : Option Word) (count number : ℕ)
    → IsTreeCount n cursor bound count → HasAtLeast n cursor bound number → number ≤ count

-- the tree count is one number
abbrev pub TheTreeCountIsOne : Type 0
TheTreeCountIsOne = (n : ℕ) (cursor : Word) (bound : Option Word) (count other : ℕ)
    → IsTreeCount n cursor bound count → IsTreeCount n cursor bound other → count ≡ other

-- the counts up to a word between and from it on add up
abbrev pub TreeCountsAdd : Type 0
TreeCountsAdd = (n : ℕ) (cursor between : Word) (bound : Option Word) (a b : ℕ) → (Follows cursor between → ⊥)
    → IsNotAfter bound between
    → IsTreeCount n cursor (Some between) a → IsTreeCount n between bound b → IsTreeCount n cursor bound (a + b)

-- numbers of words that the tree has at least in two parts add up
abbrev pub AtLeastAdds : Type 0
AtLeastAdds = (n : ℕ) (cursor between : Word) (bound : Option Word) (a b : ℕ) → (Follows cursor between → ⊥)
    → IsNotAfter bound between
    → HasAtLeast n cursor (Some between) a → HasAtLeast n between bound b → HasAtLeast n cursor bound (a + b)

-- a legal word of at least one move and of at most the order, after the cursor, is one word up to itself
abbrev pub ALegalWordIsOne : Type 0
ALegalWordIsOne = (n : ℕ) (cursor w : Word) → IsLegal w → 0 < length w → order_of w ≤ n → Follows w cursor
    → HasAtLeast n cursor (Some w) 1
