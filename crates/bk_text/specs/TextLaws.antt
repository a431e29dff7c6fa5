-- What is written is read again as the same thing. Statements alone; they are proved apart.
use Rattle.std.specs.Prelude.{None, Some, decimal, length, List, ℕ, ◌++◌, ◌<◌, ◌∷◌}
use Rattle.bk_code.specs.Code.{Code}
use Rattle.bk_code.specs.KeptCode.{IsKeptCode}
use Rattle.bk_grammar.specs.Grammar.{LineEnd}
use Rattle.bk_text.specs.CodeLine.{IsLine, Item, Size}
use Rattle.bk_text.specs.CodeText.{code_text, size_text}
use Rattle.bk_text.specs.ReadLine.{IsHeaderNumber}

-- a written code and the end of a line are a line that stands for the code
abbrev pub AWrittenCodeIsRead : Type 0
AWrittenCodeIsRead =
    (code : Code) (end : List ℕ) → IsKeptCode code → 0 < length code → LineEnd end
    → IsLine (Item None None code) (code_text code ++ end)

-- a written size is a size
abbrev pub AWrittenSizeIsASize : Type 0
AWrittenSizeIsASize = (w h : ℕ) → IsHeaderNumber w → IsHeaderNumber h → Size (w, h) (size_text w h)

-- a written size, a blank, a written code and the end of a line stand for the size and the code
abbrev pub AWrittenSizeAndCodeAreRead : Type 0
AWrittenSizeAndCodeAreRead =
    (w h : ℕ) (code : Code) (end : List ℕ) → IsHeaderNumber w → IsHeaderNumber h → IsKeptCode code → 0 < length code
    → LineEnd end
    → IsLine (Item None (Some (w, h)) code) (size_text w h ++ 32 ∷ (code_text code ++ end))

-- a written order, size and code, with a blank between each two, and the end of a line stand for the order, the size
-- and the code
abbrev pub AWrittenItemIsRead : Type 0
AWrittenItemIsRead =
    (order w h : ℕ) (code : Code) (end : List ℕ) → IsHeaderNumber order → IsHeaderNumber w → IsHeaderNumber h
    → IsKeptCode code → 0 < length code
    → LineEnd end
    → IsLine (Item (Some order) (Some (w, h)) code)
    (decimal order ++ 32 ∷ (size_text w h ++ 32 ∷ (code_text code ++ end)))
