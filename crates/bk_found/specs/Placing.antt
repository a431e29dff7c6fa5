-- What the code of a leaf works with: levels and places as whole numbers.
-- Example (PlacingExamples): 2u.1e with the currents 2, 1, 1, whose nodes lie at the levels 0, 1 and 2. By its left
-- lines 0, 2, 2 alone its squares end at 2, 3 and 3, and the second one stands in column 2 at level 0. At line 3 it
-- would stand behind itself. In 2a.1a.2ue.1e a square with the current -1 is placed at the line where it ends.
use Rattle.std.specs.Prelude.{List, [], length, map, neg_ℤ, pos, slice_index_or, ℕ, ℤ, ◌+ℤ◌, ◌+◌, ◌<◌, ◌≡◌, ◌≤ℤ◌, ◌⊎◌}
use Rattle.bk_tiling.specs.declared.Square.{Square}
use Rattle.bk_found.specs.ToldCorners.{Lines}
use Rattle.bk_found.specs.Candidate.{line_place, placed_square, right_edges_from}

-- the magnitude is at most so much; that of each number is
abbrev pub IsSmallNumber : ℕ → ℤ → Type 0
IsSmallNumber most z = (neg_ℤ (pos most) ≤ℤ z) × (z ≤ℤ pos most)

abbrev pub AreSmallNumbers : ℕ → List ℤ → Type 0
AreSmallNumbers most numbers = (k : ℕ) → k < length numbers → IsSmallNumber most (slice_index_or numbers k (pos 0))

-- the nodes at both ends of each wire are below a number
abbrev pub EndWithin : ℕ → List (ℕ × ℕ) → Type 0
EndWithin nodes wires = (k : ℕ) → k < length wires
    → ((slice_index_or wires k (0, 0)).0 < nodes) × ((slice_index_or wires k (0, 0)).1 < nodes)

-- a square's left line was there before it
abbrev pub AreKnownLines : List ℕ → Type 0
AreKnownLines lefts = (k : ℕ) → k < length lefts → slice_index_or lefts k 0 < k + 2

-- lines at the left alone, as sides of which the lines at the right aren't told
abbrev pub by_lefts : List ℕ → List (ℕ × ℕ)
by_lefts lefts = map (λ line. (line, 0)) lefts

-- where squares end, by the lines at their left alone
abbrev pub edges_by_lefts : ℤ → List ℕ → List ℤ → List ℤ
edges_by_lefts total lefts currents = right_edges_from total [] (by_lefts lefts) currents

-- the levels by which each current leads down, where each wire begins at node 0 or where one before it ends
pub record AreLevels (wires : List (ℕ × ℕ)) (currents : List ℤ) (at : ℕ → ℤ) : Type 0 where
  pub top : at 0 ≡ pos 0
  pub drops : (k : ℕ) → k < length wires
      → at (slice_index_or wires k (0, 0)).1 ≡ at (slice_index_or wires k (0, 0)).0 +ℤ slice_index_or currents k (pos 0)
  pub begun : (k : ℕ) → k < length wires → ((slice_index_or wires k (0, 0)).0 ≡ 0)
      ⊎ ((j : ℕ) × (j < k) × ((slice_index_or wires j (0, 0)).1 ≡ (slice_index_or wires k (0, 0)).0))

-- the levels are those that a function gives at both ends of each wire
abbrev pub HasLevels : List (ℕ × ℕ) → (ℕ → ℤ) → List ℤ → Type 0
HasLevels wires at levels = (k : ℕ) → k < length wires
    → (slice_index_or levels (slice_index_or wires k (0, 0)).0 (pos 0) ≡ at (slice_index_or wires k (0, 0)).0)
    × (slice_index_or levels (slice_index_or wires k (0, 0)).1 (pos 0) ≡ at (slice_index_or wires k (0, 0)).1)

-- the square at a place stands between its lines and the levels of its nodes
abbrev pub IsPlacedAt : Lines → List ℤ → ℕ → Square → Type 0
IsPlacedAt l levels k q = q ≡ placed_square (line_place l.total l.rights (slice_index_or l.lefts k 0))
    (slice_index_or l.rights k (pos 0))
    (slice_index_or levels (slice_index_or l.wires k (0, 0)).0 (pos 0))
    (slice_index_or levels (slice_index_or l.wires k (0, 0)).1 (pos 0))
    (slice_index_or l.currents k (pos 0))
