-- Lines have one listing. A statement alone; it is proved apart.
use Rattle.std.specs.Prelude.{List, ℕ, ◌≡◌}
use Rattle.bk_ports.specs.Entering.{AreEntered}
use Rattle.bk_ports.specs.Reply.{Reply}
use Rattle.bk_alike.specs.Listed.{Listed, listing_start}

-- lines have at most one listing: the replies to them, the items that are kept and the number of refused lines
abbrev pub LinesHaveOneListing : Type 0
LinesHaveOneListing = (lines : List (List ℕ)) (replies others : List Reply) (last other : Listed)
    → AreEntered listing_start lines replies last → AreEntered listing_start lines others other
    → (replies ≡ others) × (last ≡ other)
