-- What is written of an entry is read again. A statement alone; it is proved apart.
-- Example (ListingExamples): that of the rectangle 33x32 is a line, and stands for the order 9, the size 33x32 and its
-- code.
use Rattle.std.specs.Prelude.{Some}
use Rattle.bk_tiling.specs.KeptTiling.{IsKept}
use Rattle.bk_tiling.specs.Tiling.{Tiling, order}
use Rattle.bk_code.specs.Code.{code_of}
use Rattle.bk_text.specs.CodeLine.{IsLine, Item}
use Rattle.bk_word.specs.Word.{Word}
use Rattle.bk_report.specs.Listings.{entry_text}

-- the entry of a tiling is in the grammar of lines of codes, and stands for the order, the size and the code of the
-- tiling: its word is a comment
abbrev pub AWrittenEntryIsRead : Type 0
AWrittenEntryIsRead = (t : Tiling) (w : Word) → IsKept t
    → IsLine (Item (Some (order t)) (Some (t.width, t.height)) (code_of t)) (entry_text t w)
