-- What a run of `verify` writes: what is told of the lines that it read, and behind the last one the report's end.
-- Example (VerifyingExamples): of a list without lines and an order without members the report is its last line, and a
-- run that wrote it ends as one of which nothing is refused.
use Rattle.std.specs.Prelude.{Bool, IsTrue, List, Option, [], length, ℕ, ◌+◌, ◌++◌, ◌<◌, ◌∷◌, ◌≡◌, ◌⊎◌, ◌↔◌}
use Rattle.std.specs.Io.KnownBytes.{Appends}
use Rattle.bk_ports.specs.Causes.{AppendsPrefix}
use Rattle.bk_ports.specs.Ending.{Output}
use Rattle.bk_ports.specs.Lines.{kept_front}
use Rattle.bk_report.specs.ListLines.{faults}
use Rattle.bk_report.specs.declared.list_reports.ReportCounts.{ReportCounts}
use Rattle.bk_verify_report.specs.Verify.{IsNew}
use Rattle.bk_verify_report.specs.Report.{BeginsReport, IsReport}
use Rattle.bk_verify_report.specs.Told.{HasEntry, IsToldOf, Told, texts_from}

-- what is told of these lines was written
pub record TellsLines (n : ℕ) (lines : List (List ℕ)) (written written_after : Option (List ℕ)) : Type 0 where
  pub tolds : List Told
  pub told : IsToldOf n lines tolds
  pub appends : Appends written written_after (texts_from 1 tolds)

-- the report on these lines was written, and the list and the catalogue differ exactly where it counts a fault
pub record TellsReport (n : ℕ) (lines : List (List ℕ)) (differs : Bool)
    (written written_after : Option (List ℕ)) : Type 0 where
  pub counts : ReportCounts
  pub report : List ℕ
  pub is_report : IsReport n lines counts report
  pub verdict : IsTrue differs ↔ 0 < faults counts
  pub appends : Appends written written_after report

-- a write failed at a line: what was written is a beginning of what is told of the first lines
pub record TellsFirst (n : ℕ) (lines : List (List ℕ)) (written written_after : Option (List ℕ)) : Type 0 where
  pub begun : List (List ℕ)
  pub unseen : List (List ℕ)
  pub split : lines ≡ begun ++ unseen
  pub tolds : List Told
  pub told : IsToldOf n begun tolds
  pub begins : AppendsPrefix written written_after (texts_from 1 tolds)

-- a write failed behind the lines: what was written is a beginning of the report
pub record TellsFront (n : ℕ) (lines : List (List ℕ)) (written written_after : Option (List ℕ)) : Type 0 where
  pub front : List ℕ
  pub is_front : BeginsReport n lines front ⊎ ((counts : ReportCounts) × IsReport n lines counts front)
  pub begins : AppendsPrefix written written_after front

-- memory was wanting at a line whose entry would be new: what is told of the lines before it was written
pub record TellsBefore (n : ℕ) (lines : List (List ℕ)) (written written_after : Option (List ℕ)) : Type 0 where
  pub done : List (List ℕ)
  pub line : List ℕ
  pub unseen : List (List ℕ)
  pub split : lines ≡ done ++ line ∷ unseen
  pub tolds : List Told
  pub told : IsToldOf n done tolds
  pub new : HasEntry (1 + length done) (kept_front line) (λ e. IsNew n (told.entries ++ e ∷ []) e)
  pub appends : Appends written written_after (texts_from 1 tolds)

-- what a run writes that holds a list against the catalogue of this order. That some of the list is refused means here
-- that the list and the catalogue differ
abbrev pub report_of : ℕ → Output
report_of n = record {
  lines = λ lines refused before after. TellsLines n lines before after;
  whole = λ lines differs before after. TellsReport n lines differs before after;
  begun = λ lines before after. TellsFirst n lines before after;
  begun_behind = λ lines before after. TellsFront n lines before after;
  short = λ lines before after. TellsBefore n lines before after;
}
