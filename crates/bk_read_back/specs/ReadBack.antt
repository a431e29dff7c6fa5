-- What `list` writes is read again by `check`: each entry as the tiling that was listed, and accepted. Statements
-- alone; each is proved apart.
-- Example (ReadBackExamples): the item of the rectangle 3x2 states the order 3 and the size 3x2.
use Rattle.std.specs.List.{AllZip, concat}
use Rattle.std.specs.Prelude.{List, Some, false, ℕ, ◌≡◌, ◌≤◌}
use Rattle.bk_tiling.specs.Tiling.{Tiling, order}
use Rattle.bk_code.specs.Code.{code_of}
use Rattle.bk_text.specs.CodeLine.{Item, Line}
use Rattle.bk_word.specs.declared.Class.{Class}
use Rattle.bk_word.specs.declared.TheConstants.{LARGEST_LISTED_ORDER}
use Rattle.bk_catalogue.specs.Catalogue.{Entry, IsEntry}
use Rattle.bk_report.specs.Answers.{IsCheckLine}
use Rattle.bk_report.specs.Listings.{entry_text}
use Rattle.bk_report.specs.declared.listing_lines.Last.{Last}
use Rattle.bk_ports.specs.Lines.{lines_of}
use Rattle.bk_ports.specs.Reply.{AreReplies, Reply, some_refused, text_of}
use Rattle.bk_answer.specs.Answer.{AnswersLine}
use Rattle.bk_answer.specs.Item.{HasItem, IsStatedBy}
use Rattle.bk_answer.specs.declared.command.Command.TheVariants.{Plain}
use Rattle.bk_answer.specs.declared.plain.PlainCommand.TheVariants.{Check}
use Rattle.bk_list.specs.Listing.{IsListing, Listing}

-- the item of a tiling: its order, its size and its code, all three stated
abbrev pub item_of : Tiling → Line
item_of t = Item (Some (order t)) (Some (t.width, t.height)) (code_of t)

-- the bytes are a line of at most 8,192 bytes, and stand for the item of the tiling, which speaks of it and of no other
pub record IsReadAs (bytes : List ℕ) (t : Tiling) : Type 0 where
  pub item : HasItem bytes (item_of t)
  pub stated : IsStatedBy (item_of t) t
  pub only : (u : Tiling) → IsStatedBy (item_of t) u → u ≡ t

-- the line of each entry, without its line feed, is read as the member that was listed
abbrev pub AListedEntryIsRead : Type 0
AListedEntryIsRead = (n : ℕ) (class : Class) (e : Entry) → n ≤ LARGEST_LISTED_ORDER → IsEntry n class e
    → IsReadAs (entry_text e.tiling e.word) e.tiling

-- the replies of `check` to the lines of a list: none is refused, and what is written is the line of each entry's
-- tiling, in the order of the list. Of the whole list of order 2 and the class imperfect, `2 2x1 [1,1] ; 2e` and its
-- last line, it is `ok 2 2x1 imperfect 1 simple`
pub record AcceptsAll (entries : List Entry) (replies : List Reply) : Type 0 where
  pub none_refused : some_refused replies ≡ false
  pub lines : List (List ℕ)
  pub each : AllZip (λ e line. IsCheckLine e.tiling line) entries lines
  pub text : text_of replies ≡ concat lines

-- where each line of a list has a reply of `check`, all are accepted
abbrev pub AListIsAccepted : Type 0
AListIsAccepted = (asked : Listing) (last : Last) (bytes : List ℕ) → asked.catalogue.order ≤ LARGEST_LISTED_ORDER
    → (list : IsListing asked last bytes) (replies : List Reply)
    → AreReplies (AnswersLine (Plain Check)) (lines_of bytes) replies → AcceptsAll list.entries replies
