-- Squares that end on one node, lines that stand apart there, and squares at closed nodes.
use Rattle.std.proofs.Common.{List, Option, Some, [], arith, inl, inr, lit<, refl, slice_get, subst, suc, sym, zero, ℕ, ◌+◌, ◌-◌, ◌∷◌, ◌≡◌, ◌⊎◌}
use Rattle.bk_tiling.proofs.ExampleTilings.{rectangle_3x2}
use Rattle.bk_tiling.proofs.TilingTest.{tiling_from_test}
use Rattle.bk_tiling.specs.Tiling.{IsTiling}
use Rattle.bk_word.specs.Play.{outline_of}
use Rattle.bk_layout.specs.Layout.{AreLists, Layout}
use Rattle.bk_layout.proofs.TilingLayouts.TilingFits.{a_tiling_has_a_layout}
use Rattle.bk_layout.specs.TilingLayout.{layout_of}
use Rattle.bk_layout.proofs.TilingLayouts.ApartLines.{lines_of_a_tiling_are_apart}
use Rattle.bk_layout.proofs.FreeCuts.NodeCutExamples.{front}
use Rattle.bk_layout.specs.OpenSegments.{EndsTogether}
use Rattle.bk_layout.specs.SharedNodes.{AreLinesApart, IsAtClosed}

-- ---- in the rectangle 3x2 of the squares 2, 1, 1, which has the word 2u.1e

abbrev three : Layout
three = layout_of rectangle_3x2

tiling : IsTiling rectangle_3x2
tiling = tiling_from_test rectangle_3x2 refl

-- at its nodes no line stands twice
apart : AreLinesApart three
apart = lines_of_a_tiling_are_apart rectangle_3x2 tiling

-- if two squares that end on the bottom stood at one line with their left edges, one would
abbrev one_line : Layout
one_line = record three { left = λ q. 2 }

not_apart : AreLinesApart one_line → ⊥
not_apart lines = omega (arith, lines.lefts 2 0 1 0 2 refl refl refl)

-- after all moves the squares 1 and 3, at the places 0 and 2, stand side by side on the bottom
together : EndsTogether three (λ number. number - 1) (1 ∷ 3 ∷ [])
together = record { node = 2; from = 0; stands = stands }
  where
    stands : (k number : ℕ) → slice_get (1 ∷ 3 ∷ []) k ≡ Some number → slice_get (three.ending 2) (0 + k) ≡ Some (number - 1)
    stands zero number e = let same : 1 ≡ number = cc in subst (λ (n : ℕ). ◌≡◌ {A = Option ℕ} (Some 0) (Some (n - 1))) same refl
    stands (suc zero) number e = let same : 3 ≡ number = cc in subst (λ (n : ℕ). ◌≡◌ {A = Option ℕ} (Some 2) (Some (n - 1))) same refl
    stands (suc (suc k)) number e = absurd (cc)

-- square 2 ends on another node, that above square 3
not_together : EndsTogether three (λ number. number - 1) (1 ∷ 2 ∷ []) → ⊥
not_together ends = omega (
  arith,
  (lists.ending_is ends.node (ends.from + 0) 0 (ends.stands 0 1 refl)).1,
  (lists.ending_is ends.node (ends.from + 1) 1 (ends.stands 1 2 refl)).1,
)
  where
    lists : AreLists three
    lists = ((a_tiling_has_a_layout rectangle_3x2 tiling).0).lists

-- ---- after 3aa.2ue.1ea, by which the nodes 0, 1 and 2 are closed: the top, that under square 1, and that under the squares 5 and 2

-- square 5 hangs from node 1
hangs_from_one : IsAtClosed (outline_of front) 4 1
hangs_from_one = record { within = lit< tt; closed = lit< tt; at = inl refl }

-- and ends on node 2, where it stands first
ends_on_two : IsAtClosed (outline_of front) 4 2
ends_on_two = record { within = lit< tt; closed = lit< tt; at = inr (0, 5 ∷ 2 ∷ [], refl, refl) }

-- the top it doesn't touch
not_at_the_top : IsAtClosed (outline_of front) 4 0 → ⊥
not_at_the_top is = from is.at
  where
    none : (k : ℕ) → slice_get {X = ℕ} [] k ≡ Some 5 → ⊥
    none k e = cc

    from : (◌≡◌ {A = Option ℕ} (Some 1) (Some 0)) ⊎ ((k : ℕ) × (numbers : List ℕ) × (◌≡◌ {A = Option (List ℕ)} (Some []) (Some numbers))
        × (slice_get numbers k ≡ Some 5)) → ⊥
    from (inl e) = cc
    from (inr (k, numbers, top, e)) =
        let empty : ◌≡◌ {A = List ℕ} [] numbers = cc in none k (subst (λ (l : List ℕ). slice_get l k ≡ Some 5) (sym empty) e)
