-- The report on a list that is held against a catalogue.
-- Example (VerifyingExamples): of a list of order 9 that lacks nothing, with a foreign and a repeated entry, the last
-- line is `; end order 9 members 2 missing 0 foreign 1 repeated 1 refused 0`, and there are two faults.
use Rattle.std.specs.List.{AllByRecursion}
use Rattle.std.specs.Prelude.{Contains, List, [], count_by, flat_map, length, ℕ, ⊤, ◌++◌, ◌<◌, ◌≡◌, ◌⊎◌}
use Rattle.bk_word.specs.Word.{Follows}
use Rattle.bk_word.specs.declared.Class.TheVariants.{Perfect}
use Rattle.bk_catalogue.specs.Catalogue.{AreAscending, Entry, IsEntry}
use Rattle.bk_report.specs.ListLines.{faults, missing_line, verified_line}
use Rattle.bk_report.specs.declared.listing_lines.Last.TheVariants.{End}
use Rattle.bk_report.specs.declared.list_reports.ReportCounts.{ReportCounts}
use Rattle.bk_verify_report.specs.KeptEntries.{CountsMembers}
use Rattle.bk_verify_report.specs.Verify.{Accepted, AreNotOf}
use Rattle.bk_verify_report.specs.Told.{IsToldOf, Told, is_foreign, is_line_refused, is_repeat, texts_from}

-- the entries are those of the first missing members, ascending: each other missing member comes after all of them
pub record AreFirstMissing (n : ℕ) (entries : List Accepted) (missing : List Entry) : Type 0 where
  pub each : AllByRecursion (IsEntry n Perfect) missing
  pub none : AllByRecursion (λ e. AreNotOf e.tiling entries) missing
  pub ascending : AreAscending missing
  pub first : (e : Entry) → IsEntry n Perfect e → AreNotOf e.tiling entries
      → Contains missing e ⊎ AllByRecursion (λ f. Follows e.word f.word) missing

-- the line of a missing member
abbrev pub missing_line_of : Entry → List ℕ
missing_line_of e = missing_line e.tiling e.word

-- what stands there once all lines are told, with the lines of the first missing members
pub record BeginsReport (n : ℕ) (lines : List (List ℕ)) (bytes : List ℕ) : Type 0 where
  pub tolds : List Told
  pub told : IsToldOf n lines tolds
  pub missing : List Entry
  pub first_missing : AreFirstMissing n told.entries missing
  pub text : bytes ≡ texts_from 1 tolds ++ flat_map missing_line_of missing

-- the whole report on the lines of a list: what is told of them, a line for each missing member, ascending, and the
-- last line. For a list without lines and order 9 it has the two members of that order as missing ones, and then `; end
-- order 9 members 2 missing 2 foreign 0 repeated 0 refused 0`
pub record IsReport (n : ℕ) (lines : List (List ℕ)) (counts : ReportCounts) (bytes : List ℕ) : Type 0 where
  pub front : List ℕ
  pub begins : BeginsReport n lines front
  pub all_missing : (e : Entry) → IsEntry n Perfect e → AreNotOf e.tiling begins.told.entries
      → Contains begins.missing e
  pub members : CountsMembers n (λ word. ⊤) counts.members
  pub missing_is : counts.missing ≡ length begins.missing
  pub foreign_is : counts.foreign ≡ count_by is_foreign begins.tolds
  pub repeated_is : counts.repeated ≡ count_by is_repeat begins.tolds
  pub refused_is : counts.refused ≡ count_by is_line_refused begins.tolds
  pub text : bytes ≡ front ++ verified_line End n counts []

-- the list and the catalogue differ: the report on these lines counts something that is missing, foreign, repeated or
-- refused
pub record HasFault (n : ℕ) (lines : List (List ℕ)) : Type 0 where
  pub counts : ReportCounts
  pub bytes : List ℕ
  pub report : IsReport n lines counts bytes
  pub some : 0 < faults counts
