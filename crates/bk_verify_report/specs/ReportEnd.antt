-- What a report is closed by, once all lines of a list are entered.
-- Example (ClosingExamples): what is left of no entries at order 9, with the counts 1, 2 and 3, is what was kept where
-- 1 line was foreign, 2 repeated an earlier one and 3 were refused.
use Rattle.bk_verify_report.specs.Rest.{RestState}
use Rattle.bk_verify_report.specs.declared.entering.LineCounts.{LineCounts}
use Rattle.bk_verify_report.specs.declared.entering.Verifying.{Verifying}

-- what was kept of the lines that left this rest and these counts
abbrev pub kept_of_rest : RestState → LineCounts → Verifying
kept_of_rest rest lines = record { entries = record { order = rest.walk.order; pairs = rest.pairs }; lines = lines }
