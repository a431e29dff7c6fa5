-- How a run ends behind its lines: what is told of all of them, with what stands behind them, is the report.
use Rattle.std.specs.Prelude.{Option, flat_map}
use Rattle.std.specs.Io.KnownBytes.{Appends}
use Rattle.std.proofs.KnownBytes.{Appends-trans}
use Rattle.std.proofs.Common.{Bool, List, [], ap, append_assoc, arith, false, inl, inr, subst, sym, true, ℕ, ◌++◌, ◌∙◌, ◌≡◌, ◌⊎◌}
use Rattle.bk_ports.proofs.KnownSteps.{prefix_after}
use Rattle.bk_ports.proofs.OtherOutputs.{whole_behind}
use Rattle.bk_ports.specs.Ending.{EndsWith, IsReadWhole, Output, Streams, streams_told}
use Rattle.bk_ports.specs.Entering.{AreAllEntered, entering_from}
use Rattle.bk_ports.specs.Reply.{text_of}
use Rattle.bk_ports.specs.Faults.{CountsTell, Faults}
use Rattle.bk_ports.specs.declared.Ended.{Ended}
use Rattle.bk_ports.specs.declared.Ended.TheVariants.{NoneRefused, SomeRefused}
use Rattle.bk_verify_report.proofs.BehindLines.{all_missing, first_missing}
use Rattle.bk_verify_report.proofs.EndingAtLines.{nothing_entered_before_the_first_line, told_of_all}
use Rattle.bk_verify_report.proofs.Following.{AreFollowed, followed}
use Rattle.bk_verify_report.specs.ListLine.{none_entered}
use Rattle.bk_verify_report.specs.MissingLines.{ClosesReport, IsClosing, IsClosingBegun}
use Rattle.bk_verify_report.specs.ListReading.{IsListRead, rules}
use Rattle.bk_word.specs.Word.{Word}
use Rattle.bk_catalogue.specs.Catalogue.{Entry}
use Rattle.bk_report.specs.ListLines.{verified_line}
use Rattle.bk_report.specs.declared.listing_lines.Last.TheVariants.{End}
use Rattle.bk_verify_report.specs.KeptEntries.{AreUpTo, IsNotKept}
use Rattle.bk_report.specs.declared.list_reports.ReportCounts.{ReportCounts}
use Rattle.bk_verify_report.specs.Report.{BeginsReport, IsReport, missing_line_of}
use Rattle.bk_verify_report.specs.VerifyRun.{TellsFront, TellsReport, report_of}
use Rattle.bk_verify_report.specs.declared.entering.Verifying.{Verifying}

-- the lines were entered
pub record AreLinesDone (n : ℕ) (lines : List (List ℕ)) (last : Verifying) (a b : Option (List ℕ)) : Type 0 where
  pub text : List ℕ
  pub followed : AreFollowed n [] 1 lines (none_entered n) text last
  pub written : Appends a b text

lines_done : (n : ℕ) (last : Verifying) (lines : List (List ℕ)) (a b : Option (List ℕ)) (refused : Bool)
    → AreAllEntered (entering_from rules (none_entered n) 1) last lines refused a b → AreLinesDone n lines last a b
lines_done n last lines a b refused all = record {
  text = text_of all.replies;
  followed = followed n [] 1 lines all.replies (none_entered n) last (nothing_entered_before_the_first_line n) all.each;
  written = all.written;
}

-- behind the lines
module _ (n : ℕ) (last : Verifying) (lines : List (List ℕ)) (a b c : Option (List ℕ)) (d : AreLinesDone n lines last a b) where
  abbrev the_front : (cursor : Word) (missing : List Entry) → AreUpTo n (IsNotKept (last.entries).pairs) cursor missing
      → BeginsReport n lines (d.text ++ flat_map missing_line_of missing)
  the_front cursor missing are =
      let f = d.followed in record {
        tolds = f.tolds;
        told = told_of_all n lines d.text last f;
        missing = missing;
        first_missing = first_missing n (last.entries).pairs f.entries f.keeps cursor missing are;
        text = λ i. f.text_is i ++ flat_map missing_line_of missing;
      }

  the_report : (counts : ReportCounts) (bytes : List ℕ) → IsClosing n last counts bytes → IsReport n lines counts (d.text ++ bytes)
  the_report counts bytes k =
      let f = d.followed in
      let foreign = f.foreign_is in
      let repeated = f.repeated_is in
      let refused = f.refused_is in
      let x = k.foreign in
      let y = k.repeated in
      let z = k.refused in record {
        front = d.text ++ flat_map missing_line_of k.entries;
        begins = the_front k.cursor k.entries k.are;
        all_missing = all_missing n (last.entries).pairs f.entries f.keeps k.cursor k.entries k.are k.all;
        members = k.members;
        missing_is = k.missing;
        foreign_is = omega (arith, x, foreign);
        repeated_is = omega (arith, y, repeated);
        refused_is = omega (arith, z, refused);
        text = ap (λ (l : List ℕ). d.text ++ l) k.text
            ∙ sym (append_assoc d.text (flat_map missing_line_of k.entries) (verified_line End n counts []));
      }

  -- the report was written, and tells a fault or none
  told_report : (differs : Bool) (k : ClosesReport n last differs b c) → TellsReport n lines differs a c
  told_report differs k = record {
    counts = k.counts;
    report = d.text ++ k.bytes;
    is_report = the_report k.counts k.bytes k.closing;
    verdict = k.verdict;
    appends = Appends-trans a b c d.text k.bytes d.written k.appends;
  }

  -- a write failed behind the lines
  told_front : IsClosingBegun n last b c → TellsFront n lines a c
  told_front (inl k) = record {
    front = d.text ++ flat_map missing_line_of k.entries;
    is_front = inl (the_front k.cursor k.entries k.are);
    begins = prefix_after a b c d.text (flat_map missing_line_of k.entries) d.written k.begins;
  }
  told_front (inr w) = record {
    front = d.text ++ w.bytes;
    is_front = inr (w.counts, the_report w.counts w.bytes w.closing);
    begins = prefix_after a b c d.text w.bytes d.written w.begins;
  }

-- a list that was read to its end
module _ (n : ℕ) (last : Verifying) (left left_after a b : Option (List ℕ))
    (r : IsListRead n (streams_told left left_after a b) last) where
  -- the order is that asked for
  pub last_order : (last.entries).order ≡ n
  last_order = ((lines_done n last _ a b r.refused (r.whole).written).followed).order

  -- the report of a list that was read to its end was written
  pub ends_whole : (c : Option (List ℕ)) (differs told : Bool) → told ≡ differs → ClosesReport (last.entries).order last told b c
      → IsReadWhole (λ lines. (report_of n).whole lines differs) (streams_told left left_after a c)
  ends_whole c differs told e k =
      whole_behind (λ lines. AreAllEntered (entering_from rules (none_entered n) 1) last lines r.refused) (λ lines. (report_of n).whole lines differs)
      left left_after a b c r.whole
      (λ lines entered. told_report n last lines a b c (lines_done n last lines a b r.refused entered) differs
      (subst (λ (m : ℕ). ClosesReport m last differs b c) last_order (subst (λ (d : Bool). ClosesReport (last.entries).order last d b c) e k)))

  -- a write behind the lines of a list that was read to its end failed
  pub read_whole_where_closing_failed : (c : Option (List ℕ)) → IsClosingBegun (last.entries).order last b c
      → IsReadWhole (report_of n).begun_behind (streams_told left left_after a c)
  read_whole_where_closing_failed c k =
      whole_behind (λ lines. AreAllEntered (entering_from rules (none_entered n) 1) last lines r.refused) (report_of n).begun_behind
      left left_after a b c r.whole
      (λ lines entered. told_front n last lines a b c (lines_done n last lines a b r.refused entered)
      (subst (λ (m : ℕ). IsClosingBegun m last b c) last_order k))

-- all was read where the lines end so
pub whole_at : (output : Output) (streams : Streams) (ended : Ended) → (ended ≡ NoneRefused) ⊎ (ended ≡ SomeRefused) → EndsWith output streams ended
    → (refused : Bool) × IsReadWhole (λ lines. output.whole lines refused) streams
whole_at output streams ended (inl e) h = (false, subst (EndsWith output streams) e h)
whole_at output streams ended (inr e) h = (true, subst (EndsWith output streams) e h)

-- where all was read, no call failed
pub calm_at : (faults : Faults) (ended : Ended) → (ended ≡ NoneRefused) ⊎ (ended ≡ SomeRefused) → CountsTell ended faults
    → (faults.read_after ≡ faults.read) × (faults.write_after ≡ faults.write)
calm_at faults ended (inl e) h = subst (λ (ended : Ended). CountsTell ended faults) e h
calm_at faults ended (inr e) h = subst (λ (ended : Ended). CountsTell ended faults) e h
