-- The grammar of network lines is unambiguous. A statement alone; it is proved apart.
use Rattle.std.specs.Prelude.{List, ℕ, ◌≡◌}
use Rattle.bk_net.specs.NetLine.{IsNetLine, NetLine}

-- a network line stands for one thing only
abbrev pub ANetLineHasOneMeaning : Type 0
ANetLineHasOneMeaning = (bytes : List ℕ) (l m : NetLine) → IsNetLine l bytes → IsNetLine m bytes → l ≡ m
