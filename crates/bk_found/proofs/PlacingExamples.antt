-- Levels, left lines and places of the squares of 2u.1e, the rectangle 3x2 of squares 2, 1, 1; and the place of a square that stands reversed.
use Rattle.std.specs.Prelude.{List, negsuc, pos, slice_index_or, ℤ, ◌+ℤ◌}
use Rattle.std.proofs.Common.{[], arith, inl, inr, length, lit<, refl, suc, zero, ℕ, ◌<◌, ◌∷◌, ◌≡◌, ◌⊎◌}
use Rattle.std.proofs.lemmas.Int.{ints}
use Rattle.bk_found.specs.Placing.{AreKnownLines, AreLevels, AreSmallNumbers, EndWithin, HasLevels, IsPlacedAt, IsSmallNumber, edges_by_lefts}
use Rattle.bk_found.specs.ToldCorners.{Lines}

-- the nodes and currents of the wires of 2u.1e, the lines at the left of its squares, and where these end
abbrev pub lines_3x2 : Lines
lines_3x2 = record {
  wires = (0, 2) ∷ (0, 1) ∷ (1, 2) ∷ [];
  currents = pos 2 ∷ pos 1 ∷ pos 1 ∷ [];
  lefts = 0 ∷ 2 ∷ 2 ∷ [];
  rights = pos 2 ∷ pos 3 ∷ pos 3 ∷ [];
  total = pos 3;
  last = 2;
}

-- ---- levels

-- the nodes 0, 1 and 2 lie at the levels 0, 1 and 2
abbrev level_of_node : ℕ → ℤ
level_of_node v = pos v

-- each wire leads down by its current; the first two begin at node 0, and the third at node 1, where the second ends
levels_3x2 : AreLevels lines_3x2.wires lines_3x2.currents level_of_node
levels_3x2 = record { top = refl; drops = drops; begun = begun }
  where
    drops : (k : ℕ) → k < length lines_3x2.wires → level_of_node (slice_index_or lines_3x2.wires k (0, 0)).1
        ≡ level_of_node (slice_index_or lines_3x2.wires k (0, 0)).0 +ℤ slice_index_or lines_3x2.currents k (pos 0)
    drops zero h = refl
    drops (suc zero) h = refl
    drops (suc (suc zero)) h = refl
    drops (suc (suc (suc k))) h = absurd (omega (arith, h))

    begun : (k : ℕ) → k < length lines_3x2.wires → ((slice_index_or lines_3x2.wires k (0, 0)).0 ≡ 0)
        ⊎ ((j : ℕ) × (j < k) × ((slice_index_or lines_3x2.wires j (0, 0)).1 ≡ (slice_index_or lines_3x2.wires k (0, 0)).0))
    begun zero h = inl refl
    begun (suc zero) h = inl refl
    begun (suc (suc zero)) h = inr (1, lit< tt, refl)
    begun (suc (suc (suc k))) h = absurd (omega (arith, h))

-- the wires of 2u.1e, with the last two exchanged
abbrev exchanged : List (ℕ × ℕ)
exchanged = (0, 2) ∷ (1, 2) ∷ (0, 1) ∷ []

-- these wires have no levels: the second one begins at node 1, where no wire before it ends
not_begun : AreLevels exchanged lines_3x2.currents level_of_node → ⊥
not_begun are = from (are.begun 1 (lit< tt))
  where
    from : ((slice_index_or exchanged 1 (0, 0)).0 ≡ 0)
        ⊎ ((j : ℕ) × (j < 1) × ((slice_index_or exchanged j (0, 0)).1 ≡ (slice_index_or exchanged 1 (0, 0)).0)) → ⊥
    from (inl e) = let same : 1 ≡ 0 = e in omega (arith, same)
    from (inr (zero, less, e)) = let same : 2 ≡ 1 = e in omega (arith, same)
    from (inr (suc j, less, e)) = omega (arith, less)

-- a list of the levels 0, 1 and 2 holds those at both ends of each wire
held_3x2 : HasLevels lines_3x2.wires level_of_node (pos 0 ∷ pos 1 ∷ pos 2 ∷ [])
held_3x2 zero h = (refl, refl)
held_3x2 (suc zero) h = (refl, refl)
held_3x2 (suc (suc zero)) h = (refl, refl)
held_3x2 (suc (suc (suc k))) h = absurd (omega (arith, h))

-- a list of the levels 0 and 1 doesn't, since the first wire ends at node 2, of level 2
not_held : HasLevels lines_3x2.wires level_of_node (pos 0 ∷ pos 1 ∷ []) → ⊥
not_held has = let same : pos 0 ≡ pos 2 = (has 0 (lit< tt)).1 in omega (arith, ints, same)

-- the wires begin and end at nodes below 3
ends_3x2 : EndWithin 3 lines_3x2.wires
ends_3x2 zero h = (lit< tt, lit< tt)
ends_3x2 (suc zero) h = (lit< tt, lit< tt)
ends_3x2 (suc (suc zero)) h = (lit< tt, lit< tt)
ends_3x2 (suc (suc (suc k))) h = absurd (omega (arith, h))

-- the first wire ends at node 2, so not all end at nodes below 2
not_below_2 : EndWithin 2 lines_3x2.wires → ⊥
not_below_2 ends = let below : 2 < 2 = (ends 0 (lit< tt)).1 in omega (arith, below)

-- ---- lines at the left

-- lines 0 and 1 are the walls, and line 2 is the one behind the first square: each left line was there before its square
pub lefts_3x2 : AreKnownLines lines_3x2.lefts
lefts_3x2 zero h = lit< tt
lefts_3x2 (suc zero) h = lit< tt
lefts_3x2 (suc (suc zero)) h = lit< tt
lefts_3x2 (suc (suc (suc k))) h = absurd (omega (arith, h))

-- line 3 is the one behind the second square, which can't begin at it
behind_itself : AreKnownLines (0 ∷ 3 ∷ []) → ⊥
behind_itself known = let before : 3 < 3 = known 1 (lit< tt) in omega (arith, before)

-- by these lines alone the squares end at 2, 3 and 3
edges_3x2 : edges_by_lefts (pos 3) lines_3x2.lefts lines_3x2.currents ≡ pos 2 ∷ pos 3 ∷ pos 3 ∷ []
edges_3x2 = refl

-- ---- places

-- the second square stands in column 2 at level 0, since its left line stands at 2, and its wire begins at node 0
second_placed : IsPlacedAt lines_3x2 (pos 0 ∷ pos 1 ∷ pos 2 ∷ []) 1 (record { x = 2; y = 0; s = 1 })
second_placed = refl

-- the third square stands below the second one, since its wire begins at node 1, of level 1
third_placed : IsPlacedAt lines_3x2 (pos 0 ∷ pos 1 ∷ pos 2 ∷ []) 2 (record { x = 2; y = 1; s = 1 })
third_placed = refl

-- 2a.1a.2ue.1e: the square at place 4 has the current -1, since its wire leads from node 2, of level 8, up to node 3, of level 7
abbrev lines_11x13 : Lines
lines_11x13 = record {
  wires = (0, 1) ∷ (0, 3) ∷ (1, 2) ∷ (2, 4) ∷ (2, 3) ∷ (3, 4) ∷ [];
  currents = pos 4 ∷ pos 7 ∷ pos 4 ∷ pos 5 ∷ negsuc 0 ∷ pos 6 ∷ [];
  lefts = 0 ∷ 2 ∷ 0 ∷ 0 ∷ 5 ∷ 5 ∷ [];
  rights = pos 4 ∷ pos 11 ∷ pos 4 ∷ pos 5 ∷ pos 4 ∷ pos 11 ∷ [];
  total = pos 11;
  last = 4;
}

-- the square at place 4 stands reversed: it reaches down from level 7, and from where it ends, at 4, to its left line, which stands at 5
reversed_placed : IsPlacedAt lines_11x13 (pos 0 ∷ pos 4 ∷ pos 8 ∷ pos 7 ∷ pos 13 ∷ []) 4 (record { x = 4; y = 7; s = 1 })
reversed_placed = refl

-- ---- small numbers

-- the magnitude of -3 is at most 3
magnitude : IsSmallNumber 3 (negsuc 2)
magnitude = (omega (arith, ints), omega (arith, ints))

-- the magnitude of -3 isn't at most 2
not_so_small : IsSmallNumber 2 (negsuc 2) → ⊥
not_so_small small = omega (arith, ints, small.0)

-- no current of 2u.1e is greater than 2
currents_3x2 : AreSmallNumbers 2 lines_3x2.currents
currents_3x2 zero h = (omega (arith, ints), omega (arith, ints))
currents_3x2 (suc zero) h = (omega (arith, ints), omega (arith, ints))
currents_3x2 (suc (suc zero)) h = (omega (arith, ints), omega (arith, ints))
currents_3x2 (suc (suc (suc k))) h = absurd (omega (arith, h))

-- one current of 2u.1e is greater than 1
not_all_one : AreSmallNumbers 1 lines_3x2.currents → ⊥
not_all_one small = omega (arith, ints, (small 0 (lit< tt)).1)
