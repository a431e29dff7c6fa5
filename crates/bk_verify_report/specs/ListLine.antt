-- How a line of a list is entered: what is written for it, and what is kept of it.
-- Example (VerifyingExamples): an entry on line 2 whose member was first on line 1 is answered by `line 2 repeats 1`.
use Rattle.std.specs.Prelude.{List, [], false, true, ℕ, ◌+◌, ◌<◌, ◌∷◌}
use Rattle.bk_ports.specs.Reply.{Reply}
use Rattle.bk_tiling.specs.Tiling.{Tiling}
use Rattle.bk_text.specs.CodeLine.{Skip}
use Rattle.bk_report.specs.ListLines.{foreign_line, refused_line, repeats_line}
use Rattle.bk_report.specs.declared.refusal.Refused.{Refused}
use Rattle.bk_answer.specs.Item.{HasItem, HasTiling}
use Rattle.bk_answer.specs.Refusing.{IsLineRefused}
use Rattle.bk_verify_report.specs.KeptEntries.{IsFed, IsFirstSight, EntriesState}
use Rattle.bk_verify_report.specs.declared.entries.Fed.{Fed}
use Rattle.bk_verify_report.specs.declared.entries.Fed.TheVariants.{Foreign, New, Repeats}
use Rattle.bk_verify_report.specs.declared.entering.Verifying.{Verifying}

-- what is kept for the catalogue of this order where no line is entered
abbrev pub none_entered : ℕ → Verifying
none_entered n = record {
  entries = record { order = n; pairs = [] };
  lines = record { foreign = 0; repeated = 0; refused = 0 };
}

-- what is written for an entry of which this is told
abbrev pub fed_pieces : ℕ → Fed → List (List ℕ)
fed_pieces number New = []
fed_pieces number (Repeats first) = repeats_line number first ∷ []
fed_pieces number Foreign = foreign_line number ∷ []

-- what is kept after an entry of which this is told: the entries, and the counts
abbrev pub after_fed : Verifying → EntriesState → Fed → Verifying
after_fed s v New = record s { entries = v }
after_fed s v (Repeats first) = record s { entries = v; lines = record s.lines { repeated = s.lines.repeated + 1 } }
after_fed s v Foreign = record s { entries = v; lines = record s.lines { foreign = s.lines.foreign + 1 } }

-- a line of this number: the pieces that are written, each by one call, whether it is refused, and what is kept then
pub data EntersLine (s : Verifying) (number : ℕ) (line : List ℕ) : Reply → Verifying → Type 0 where
  -- a line without an item is passed over
  no_item : HasItem line Skip → EntersLine s number line (record { pieces = []; refused = false }) s
  -- a line that check refuses is refused
  refuses : (refused : Refused) → IsLineRefused line refused
      → EntersLine s number line (record { pieces = refused_line number refused ∷ []; refused = true })
      (record s { lines = record s.lines { refused = s.lines.refused + 1 } })
  -- the tiling of any other line is fed to the entries
  feeds : (t : Tiling) (fed : Fed) (v : EntriesState) → HasTiling line t → IsFed s.entries number t fed v
      → EntersLine s number line (record { pieces = fed_pieces number fed; refused = false }) (after_fed s v fed)

-- memory may be wanting at a line whose tiling stands for a member that isn't kept
pub record MayWantAt (s : Verifying) (number : ℕ) (line : List ℕ) : Type 0 where
  pub tiling : Tiling
  pub has : HasTiling line tiling
  pub sight : IsFirstSight s.entries tiling

-- the counts are below the number of the line
pub record CountsAreBelow (s : Verifying) (number : ℕ) : Type 0 where
  pub foreign : s.lines.foreign < number
  pub repeated : s.lines.repeated < number
  pub refused : s.lines.refused < number
