-- What the code knows of a candidate before it places its squares.
-- Example (TiesExamples): so much is known of the lines of 2u.1e with the currents 2, 1, 1 and the levels 0, 1, 2.
use Rattle.std.specs.Prelude.{List, length, pos, slice_index_or, ℕ, ℤ, ◌*◌, ◌+◌, ◌<◌, ◌≡◌, ◌≤◌}
use Rattle.bk_flow.specs.declared.TheConstants.{LARGEST_SMALL_CURRENT}
use Rattle.bk_found.specs.Placing.{AreKnownLines, AreSmallNumbers, EndWithin, IsSmallNumber}
use Rattle.bk_found.specs.ToldCorners.{Lines}
use Rattle.bk_word.specs.declared.TheConstants.{INLINE_ORDER}
use Rattle.bk_found.specs.declared.levels.TheConstants.{NODES}

-- the lists have one length, of at most 16 squares; the left line of each square was there before it; the wires end at
-- nodes that have levels; and all numbers are small
pub record IsCandidate (l : Lines) (levels : List ℤ) : Type 0 where
  pub few : length l.lefts ≤ INLINE_ORDER
  pub wires : length l.wires ≡ length l.lefts
  pub currents : length l.currents ≡ length l.lefts
  pub rights : length l.rights ≡ length l.lefts
  pub lines : AreKnownLines l.lefts
  pub ends : EndWithin NODES l.wires
  pub small_currents : AreSmallNumbers LARGEST_SMALL_CURRENT l.currents
  pub small_rights : AreSmallNumbers ((INLINE_ORDER + 1) * LARGEST_SMALL_CURRENT) l.rights
  pub small_levels : (v : ℕ) → v < NODES
      → IsSmallNumber (INLINE_ORDER * LARGEST_SMALL_CURRENT) (slice_index_or levels v (pos 0))
  pub small_total : IsSmallNumber LARGEST_SMALL_CURRENT l.total
