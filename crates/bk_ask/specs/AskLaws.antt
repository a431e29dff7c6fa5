-- What words ask. Statements alone; each is proved apart.
use Rattle.std.specs.Prelude.{List, ℕ, ◌≡◌}
use Rattle.bk_ask.specs.Asked.{Asks}
use Rattle.bk_ask.specs.declared.Ask.{Ask}

-- words ask one thing only
abbrev pub WordsAskOneThing : Type 0
WordsAskOneThing = (words : List (List ℕ)) (a b : Ask) → Asks words a → Asks words b → a ≡ b
