-- Sides that differ, or two that don't, told of a tiling that has them.
use Rattle.std.specs.List.Sorted.{IsPermutation}
use Rattle.std.specs.Prelude.{AllPairs, Bool, List, cond, count_by, false, get_or, length, not, refl, true, ℕ, ◌<◌, ◌==◌, ◌↔◌, ◌≡◌, ◌≢◌}
use Rattle.std.proofs.Common.{arith, sym, true≢false, ◌∙◌}
use Rattle.std.proofs.lemmas.Bool.{eq-eqb, eqb-true}
use Rattle.std.proofs.lemmas.List.Sorted.{sum_by-IsPermutation}
use Rattle.bk_laws.proofs.Counts.{count_by-map, count_two}
use Rattle.bk_laws.proofs.ListItems.{get_or-zero_or_any_default}
use Rattle.bk_simple.proofs.Repeats.{IsTwice, imperfect, twice_from_count}
use Rattle.bk_simple.specs.Simple.{IsPerfect, IsRepeated}
use Rattle.bk_tiling.specs.Tiling.{Tiling, sides_of}

module _ (t : Tiling) (sides : List ℕ) (same : IsPermutation (sides_of t) sides) where
  count_side : (side : ℕ) → count_by (λ s. s == side) sides ≡ count_by (λ q. q.s == side) t.squares
  count_side side = sum_by-IsPermutation (λ s. cond (s == side) 1 0) (sides_of t) sides same ∙ count_by-map (λ s. s == side) (λ q. q.s) t.squares

  -- where two sides are one, the tiling isn't perfect
  pub imperfect_from_two : (j k : ℕ) → j < k → k < length sides → get_or sides j 0 ≡ get_or sides k 0 → IsPerfect t → ⊥
  imperfect_from_two j k before within e = imperfect t (get_or sides k 0) (omega (
    arith,
    count_side (get_or sides k 0),
    count_two (λ s. s == get_or sides k 0) sides j k 0 before within (eq-eqb (get_or sides j 0) (get_or sides k 0) e)
        (eq-eqb (get_or sides k 0) (get_or sides k 0) refl),
  ))

  -- where no two are, it is
  pub perfect_from_apart : ((j k : ℕ) → j < k → k < length sides → get_or sides j 0 ≢ get_or sides k 0) → IsPerfect t
  perfect_from_apart apart i j d before below e =
      let side : ℕ = (get_or t.squares i d).s in
      let twice : IsRepeated t side =
      count_two (λ q. q.s == side) t.squares i j d before below (eq-eqb side side refl) (eq-eqb (get_or t.squares j d).s side (sym e)) in
      let w : IsTwice (λ s. s == side) sides 0 = twice_from_count (λ s. s == side) sides 0 (omega (arith, twice, count_side side)) in
      apart w.first w.second w.apart w.below
      (eqb-true (get_or sides w.first 0) side w.one ∙ sym (eqb-true (get_or sides w.second 0) side w.other))

  -- a test whether any two sides are one tells whether the tiling is perfect
  pub perfect_told : (differ : Bool) → (differ ≡ true ↔ AllPairs ◌≢◌ sides) → not differ ≡ false ↔ IsPerfect t
  perfect_told true says = (λ no. perfect_from_apart (λ j k before within. says.0 refl j k 0 before within), λ perfect. refl)
  perfect_told false says = (
    λ yes. absurd cc,
    λ perfect. absurd (true≢false (sym (says.1 (λ j k d before within e. imperfect_from_two j k before within
        (get_or-zero_or_any_default sides j d (omega (arith, before, within)) ∙ e ∙ sym (get_or-zero_or_any_default sides k d within)) perfect)))),
  )
