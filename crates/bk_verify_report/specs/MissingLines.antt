-- The members that aren't kept, whose lines are written one after another.
-- Example (VerifyingExamples): the line of 33x32 is `missing 9 33x32 [18,15][7,8][14,4][10,1][9] ; 2u.2aa.2ue.2eue.1e`.
use Rattle.std.specs.Prelude.{Bool, IsTrue, List, Option, [], flat_map, length, ℕ, ⊤}
use Rattle.std.specs.Prelude.{◌++◌, ◌+◌, ◌<◌, ◌^◌, ◌≡◌, ◌⊎◌, ◌↔◌}
use Rattle.std.specs.Io.KnownBytes.{Appends}
use Rattle.bk_ports.specs.Causes.{AppendsPrefix}
use Rattle.bk_tiling.specs.Tiling.{Tiling}
use Rattle.bk_word.specs.Word.{Word}
use Rattle.bk_catalogue.specs.Catalogue.{Entry}
use Rattle.bk_report.specs.ListLines.{faults, missing_line, verified_line}
use Rattle.bk_report.specs.declared.listing_lines.Last.TheVariants.{End}
use Rattle.bk_report.specs.declared.list_reports.ReportCounts.{ReportCounts}
use Rattle.bk_verify_report.specs.KeptEntries.{AreKeptAfter, AreUpTo, CountsMembers, EntriesState, Kept}
use Rattle.bk_verify_report.specs.KeptEntries.{IsNextMissing, IsNotKept}
use Rattle.bk_verify_report.specs.Report.{missing_line_of}
use Rattle.bk_verify_report.specs.declared.entering.Verifying.{Verifying}

-- the lines of the members up to the cursor that aren't kept were written, so many
pub record AreMissingListed (s : EntriesState) (cursor : Word) (missing : ℕ)
    (written written_after : Option (List ℕ)) : Type 0 where
  pub entries : List Entry
  pub are : AreUpTo s.order (IsNotKept s.pairs) cursor entries
  pub count : missing ≡ length entries
  pub few : missing + 1 < 2 ^ 64
  pub appends : Appends written written_after (flat_map missing_line_of entries)

-- a beginning of the lines of the members up to some cursor that aren't kept was written
pub record IsListingBegun (n : ℕ) (pairs : List Kept) (written written_after : Option (List ℕ)) : Type 0 where
  pub cursor : Word
  pub entries : List Entry
  pub are : AreUpTo n (IsNotKept pairs) cursor entries
  pub begins : AppendsPrefix written written_after (flat_map missing_line_of entries)

-- a beginning of the line of the next member that isn't kept was written
pub record IsMissingBegun (n : ℕ) (pairs : List Kept) (cursor : Word)
    (written written_after : Option (List ℕ)) : Type 0 where
  pub tiling : Tiling
  pub word : Word
  pub next : IsNextMissing n pairs cursor tiling word
  pub begins : AppendsPrefix written written_after (missing_line tiling word)

-- what closes a report: the lines of the members that aren't kept, and the last line with the five counts
pub record IsClosing (n : ℕ) (s : Verifying) (counts : ReportCounts) (bytes : List ℕ) : Type 0 where
  pub cursor : Word
  pub entries : List Entry
  pub are : AreUpTo n (IsNotKept (s.entries).pairs) cursor entries
  pub all : AreKeptAfter n (s.entries).pairs cursor
  pub members : CountsMembers n (λ word. ⊤) counts.members
  pub missing : counts.missing ≡ length entries
  pub foreign : counts.foreign ≡ s.lines.foreign
  pub repeated : counts.repeated ≡ s.lines.repeated
  pub refused : counts.refused ≡ s.lines.refused
  pub text : bytes ≡ flat_map missing_line_of entries ++ verified_line End n counts []

-- what closes a report was written, and it is told whether something is missing, foreign, repeated or refused
pub record ClosesReport (n : ℕ) (s : Verifying) (differs : Bool)
    (written written_after : Option (List ℕ)) : Type 0 where
  pub counts : ReportCounts
  pub bytes : List ℕ
  pub closing : IsClosing n s counts bytes
  pub appends : Appends written written_after bytes
  pub verdict : IsTrue differs ↔ 0 < faults counts

-- a beginning of what closes a report was written
pub record IsWholeBegun (n : ℕ) (s : Verifying) (written written_after : Option (List ℕ)) : Type 0 where
  pub counts : ReportCounts
  pub bytes : List ℕ
  pub closing : IsClosing n s counts bytes
  pub begins : AppendsPrefix written written_after bytes

abbrev pub IsClosingBegun : ℕ → Verifying → Option (List ℕ) → Option (List ℕ) → Type 0
IsClosingBegun n s written written_after =
    IsListingBegun n (s.entries).pairs written written_after ⊎ IsWholeBegun n s written written_after
