-- What the words of a command line ask, and what is done for it.
-- Example (RunExamples): for `check` lines are answered, for `alike` they are gathered in groups.
use Rattle.std.specs.Prelude.{List, String, map, string_bytes, ⊤, ◌⊎◌}
use Rattle.std.specs.declared.alloc.Global.{Global}
use Rattle.bk_alike.specs.declared.Wanted.TheVariants.{Groups, Pairs}
use Rattle.bk_answer.specs.declared.command.Command.TheVariants.{Memory, Plain}
use Rattle.bk_answer.specs.declared.command.MemoryCommand.TheVariants.{Flow, Solve, Word}
use Rattle.bk_answer.specs.declared.plain.PlainCommand.TheVariants as plain
use Rattle.bk_catalogue.specs.Following.{start_cursor}
use Rattle.bk_list.specs.Listing.{Listing}
use Rattle.bk_ask.specs.Asked.{Asks}
use Rattle.bk_ask.specs.declared.Ask.{Ask}
use Rattle.bk_ask.specs.declared.Ask.TheVariants as asks
use Rattle.bk_top.specs.declared.listing.AskedListing.{AskedListing}
use Rattle.bk_top.specs.declared.work.Work.{Work}
use Rattle.bk_top.specs.declared.work.Work.TheVariants as works

-- what is done for what is asked
abbrev pub work_asked : Ask → Work
work_asked asks.Check = works.Lines (Plain plain.Check)
work_asked asks.Canon = works.Lines (Plain plain.Canon)
work_asked asks.Images = works.Lines (Plain plain.Images)
work_asked asks.Net = works.Lines (Plain plain.Net)
work_asked asks.Dual = works.Lines (Plain plain.Dual)
work_asked asks.Draw = works.Lines (Plain plain.Draw)
work_asked asks.Word = works.Lines (Memory Word)
work_asked asks.Flow = works.Lines (Memory Flow)
work_asked asks.Solve = works.Lines (Memory Solve)
work_asked (asks.List order class from limit) =
    works.Listing (record { order = order; class = class; from = from; limit = limit })
work_asked (asks.Trial seed count) = works.Trial seed count
work_asked (asks.Verify order) = works.Verify order
work_asked asks.Alike = works.Gather Groups
work_asked (asks.Pair kind) = works.Gather (Pairs kind)
work_asked asks.Help = works.Help

-- the listing that is asked: of an order and a class, after a word or from the start, up to a limit
abbrev pub listing_asked : AskedListing → Listing
listing_asked asked = record {
  catalogue = record { order = asked.order; class = asked.class };
  cursor = start_cursor asked.from;
  limit = asked.limit;
}

-- what reads no lines
abbrev pub ReadsNoLines : Work → Type 0
ReadsNoLines (works.Listing asked) = ⊤
ReadsNoLines (works.Trial seed count) = ⊤
ReadsNoLines works.Help = ⊤
ReadsNoLines _ = ⊥

-- the words ask this
abbrev pub WordsAsk : List (String Global) → Ask → Type 0
WordsAsk words ask = Asks (map string_bytes words) ask

-- the words ask nothing
abbrev pub WordsAskNothing : List (String Global) → Type 0
WordsAskNothing words = (ask : Ask) → WordsAsk words ask → ⊥

-- the words ask nothing that reads lines
abbrev pub AsksNoLines : List (String Global) → Type 0
AsksNoLines words = (ask : Ask) → WordsAsk words ask → ReadsNoLines (work_asked ask)

-- nothing is asked but a text on errors
abbrev pub AsksErrorsOnly : List (String Global) → Type 0
AsksErrorsOnly words = WordsAskNothing words ⊎ WordsAsk words asks.Help
