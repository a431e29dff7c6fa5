-- A list whose lines were all read and entered, from the start.
-- Example (VerifyingExamples): of an input without a byte, which is at its end, nothing is written, and what is kept is
-- what there was at the start.
use Rattle.std.specs.Prelude.{Bool, ℕ}
use Rattle.bk_ports.specs.Ending.{IsReadWhole, Streams}
use Rattle.bk_ports.specs.Entering.{AreAllEntered, Entering, entering_from}
use Rattle.bk_verify_report.specs.ListLine.{EntersLine, MayWantAt, none_entered}
use Rattle.bk_verify_report.specs.declared.entering.Verifying.{Verifying}

-- how lines are entered
abbrev pub rules : Entering Verifying
rules = record {
  enters = λ s number line pieces refused next.
      EntersLine s number line (record { pieces = pieces; refused = refused }) next;
  may_want = MayWantAt;
}

-- all lines were read and entered, from the start on, and this is kept of them
pub record IsListRead (n : ℕ) (streams : Streams) (last : Verifying) : Type 0 where
  pub refused : Bool
  pub whole : IsReadWhole
      (λ lines. AreAllEntered (entering_from rules (none_entered n) 1) last lines refused) streams
