-- What a run of `verify` writes rests on the lines alone. A statement alone; it is proved apart.
-- Example (VerifyingExamples): of a list without lines nothing else is told than nothing.
use Rattle.std.specs.Prelude.{List, ℕ, ◌≡◌}
use Rattle.bk_report.specs.declared.list_reports.ReportCounts.{ReportCounts}
use Rattle.bk_verify_report.specs.Report.{IsReport}
use Rattle.bk_verify_report.specs.Told.{IsToldOf, Told}

-- of lines one thing is told, and the report on them is one: its counts and its bytes
pub record AListHasOneReport : Type 0 where
  pub told : (n : ℕ) (lines : List (List ℕ)) (tolds others : List Told) → IsToldOf n lines tolds
      → IsToldOf n lines others → tolds ≡ others
  pub report : (n : ℕ) (lines : List (List ℕ)) (counts others : ReportCounts) (bytes more : List ℕ)
      → IsReport n lines counts bytes
      → IsReport n lines others more → (counts ≡ others) × (bytes ≡ more)
