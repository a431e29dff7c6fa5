-- Runs that read lines to their end and then write what they found: `verify`, `alike` and `pair`.
use Rattle.std.proofs.Common.{List, Some, refl, subst, sym, ℕ, ◌≡◌}
use Rattle.std.proofs.lemmas.Bool.{false≢true}
use Rattle.bk_ports.proofs.TakenBytes.{taken_all}
use Rattle.bk_ports.specs.Lines.{lines_of}
use Rattle.bk_ports.specs.declared.Ended.TheVariants.{NoneRefused, SomeRefused}
use Rattle.bk_alike.proofs.OneListing.{none_refused}
use Rattle.bk_alike.specs.GroupsEnd.{list_output}
use Rattle.bk_alike.specs.Listed.{HasRefusedLine}
use Rattle.bk_alike.specs.declared.Wanted.{Wanted}
use Rattle.bk_verify_report.proofs.OneReport.{a_fault_is_there}
use Rattle.bk_verify_report.specs.Report.{HasFault}
use Rattle.bk_verify_report.specs.VerifyRun.{report_of}
use Rattle.bk_top.proofs.Statuses.{ending_at, is_calm, one_of_three}
use Rattle.bk_top.specs.Outside.{Outside, faults_of, streams_of}
use Rattle.bk_top.specs.ReadsToEnd.{ListsLines, ReadsToEnd, Verifies}

-- the lines decide whether one of them is refused
module _ (wanted : Wanted) (before after : Outside) (status : ℕ) (reads : ReadsToEnd (list_output wanted) (streams_of before after)
    (faults_of before after) status) where
  module _ (input : List ℕ) (tells : before.source.bytes ≡ Some input) where
    some_line : status ≡ 1 → HasRefusedLine (lines_of input)
    some_line one =
        let h = ending_at (list_output wanted) (streams_of before after) (faults_of before after) status reads SomeRefused one in
        let w = (h.written).1 in
        subst (λ (bytes : List ℕ). HasRefusedLine (lines_of bytes))
        (sym (taken_all input before.source.bytes after.source.bytes tells h.input h.taken h.at_end))
        (record { replies = w.replies; last = w.last; each = w.each; some = w.any })

    no_line : status ≡ 0 → HasRefusedLine (lines_of input) → ⊥
    no_line zero some =
        let h = ending_at (list_output wanted) (streams_of before after) (faults_of before after) status reads NoneRefused zero in
        let w = (h.written).1 in
        none_refused (lines_of h.input) w.replies w.last w.each w.any
        (subst (λ (bytes : List ℕ). HasRefusedLine (lines_of bytes))
        (taken_all input before.source.bytes after.source.bytes tells h.input h.taken h.at_end) some)

  -- a run that reads all lines and lists them has the status that they decide
  pub lists_lines : ListsLines wanted before after status
  lists_lines = record {
    reads = reads;
    exactly_1 = λ input tells few none other. (
      some_line input tells,
      (λ some. one_of_three (HasRefusedLine (lines_of input)) status (no_line input tells) some other
          (reads.complete (is_calm before after input tells few none))),
    );
  }

-- the lines decide whether the list and the catalogue differ
module _ (n : ℕ) (before after : Outside) (status : ℕ) (reads : ReadsToEnd (report_of n) (streams_of before after) (faults_of before after) status) where
  module _ (input : List ℕ) (tells : before.source.bytes ≡ Some input) where
    some_fault : status ≡ 1 → HasFault n (lines_of input)
    some_fault one =
        let h = ending_at (report_of n) (streams_of before after) (faults_of before after) status reads SomeRefused one in
        let w = h.written in
        subst (λ (bytes : List ℕ). HasFault n (lines_of bytes)) (sym (taken_all input before.source.bytes after.source.bytes tells h.input h.taken h.at_end))
        (record { counts = w.counts; bytes = w.report; report = w.is_report; some = w.verdict.0 refl })

    no_fault : status ≡ 0 → HasFault n (lines_of input) → ⊥
    no_fault zero some =
        let h = ending_at (report_of n) (streams_of before after) (faults_of before after) status reads NoneRefused zero in
        let w = h.written in
        false≢true (w.verdict.1 (a_fault_is_there n (lines_of h.input) w.counts w.report w.is_report
        (subst (λ (bytes : List ℕ). HasFault n (lines_of bytes)) (taken_all input before.source.bytes after.source.bytes tells h.input h.taken h.at_end) some)))

  -- a run that reads a whole list has the status that list and catalogue decide
  pub verifies_lines : Verifies n before after status
  verifies_lines = record {
    reads = reads;
    exactly_1 = λ input tells few none other. (
      some_fault input tells,
      (λ some. one_of_three (HasFault n (lines_of input)) status (no_fault input tells) some other
          (reads.complete (is_calm before after input tells few none))),
    );
  }
