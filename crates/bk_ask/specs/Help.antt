-- The line of usage, and the text of `help`.
-- Example (AskExamples): the line of usage has 42 bytes.
use Rattle.std.specs.Prelude.{List, [], codes, flat_map, ℕ, ◌++◌, ◌∷◌}

-- how a command line is built
abbrev pub usage : List ℕ
usage = codes "usage: bouwkamp COMMAND [--NAME VALUE]...\n"

-- the usage, and then each command with what it does, each with a line feed
abbrev pub help_text : List ℕ
help_text = usage ++ flat_map (λ line. line ++ 10 ∷ []) (
    codes "check: test each code"
    ∷ codes "canon: canonical code of each code"
    ∷ codes "images: the eight images of each code"
    ∷ codes "net: Smith diagram of each code"
    ∷ codes "flow: currents of each network"
    ∷ codes "word: word of each code"
    ∷ codes "solve: code of each word"
    ∷ codes "draw: drawing of each code"
    ∷ codes "list --order N [--class CLASS] [--from WORD] [--limit K]: catalogue of an order"
    ∷ codes "trial --seed S --count C: trial codes"
    ∷ codes "dual: dual diagram of each code"
    ∷ codes "verify --order N: hold a list against the catalogue"
    ∷ codes "alike: group codes by size"
    ∷ codes "pair [--kind KIND]: join rectangles to squares"
    ∷ codes "help: this text"
    ∷ [])
