-- How kept members are stored: each under its width and its flat list, which fix it.
-- Example (VerifyExamples): the rectangle 33x32 stands under 33 and 18, 15, 7, 8, 14, 4, 10, 1, 9.
use Rattle.std.specs.Prelude.{ℕ, ◌≡◌}
use Rattle.bk_tiling.specs.Tiling.{IsTiling, Tiling, sides_of}
use Rattle.bk_verify_report.specs.KeptEntries.{Kept}
use Rattle.bk_verify_report.specs.declared.kept.Flat.{Flat}
use Rattle.bk_verify_report.specs.declared.kept.Seen.{Seen}

-- the member that is stored under a key, with what was seen of it
abbrev pub kept_member : Flat × Seen → Kept
kept_member (key, seen) = record {
  line = seen.line;
  tiling = record { width = key.width; height = seen.height; squares = seen.squares.items };
}

-- a member is stored under its own width and flat list
pub record IsStoredMember (e : Flat × Seen) : Type 0 where
  pub tiling : IsTiling (kept_member e).tiling
  pub sides : (e.0).sides.items ≡ sides_of (kept_member e).tiling

-- the key is the width and the flat list of the tiling
pub record IsKeyOf (key : Flat) (t : Tiling) : Type 0 where
  pub tiling : IsTiling t
  pub width : key.width ≡ t.width
  pub sides : key.sides.items ≡ sides_of t

-- what is stored for a tiling
pub record IsSeenOf (line : ℕ) (seen : Seen) (t : Tiling) : Type 0 where
  pub on : seen.line ≡ line
  pub height : seen.height ≡ t.height
  pub squares : seen.squares.items ≡ t.squares
