-- What is left of no entries at order 9, with the counts 1, 2 and 3.
use Rattle.std.specs.Prelude.{[], refl, ◌≡◌}
use Rattle.bk_verify_report.specs.declared.entering.Verifying.{Verifying}
use Rattle.bk_verify_report.specs.ReportEnd.{kept_of_rest}
use Rattle.bk_verify_report.specs.Rest.{rest_of}

abbrev kept : Verifying
kept = record { entries = record { order = 9; pairs = [] }; lines = record { foreign = 1; repeated = 2; refused = 3 } }

left-kept : kept_of_rest (rest_of kept.entries) kept.lines ≡ kept
left-kept = refl
