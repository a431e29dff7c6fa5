-- Squares attached step by step.
use Rattle.std.proofs.Common.{Bool, ap, arith, cond, length, refl, suc, sym, zero, ℕ, ◌+◌, ◌-◌, ◌<◌, ◌∙◌, ◌≡◌, ◌≤◌}
use Rattle.std.proofs.lemmas.Bool.{le-leb, lt-leb}
use Rattle.bk_tiling.specs.Tiling.{Tiling}
use Rattle.bk_gen.specs.Attaching.{attached, next_side, with_next}
use Rattle.bk_gen.specs.TrialCodes.{first_rectangle}
use Rattle.bk_gen.proofs.GrowingLaws.{next_length}

-- the steps that are left lead from the rectangle as it is now to what all steps lead to from the first one
pub record IsUnderWay (v end step : ℕ) (first now : Tiling) : Type 0 where
  pub same : attached (end - step) v step now ≡ attached end v 0 first
  pub count : length now.squares + (end - step) ≡ length first.squares + end

attach_more : (n v i : ℕ) (t : Tiling) → 0 < n → next_side v i t ≤ 999_999_999_999_999 → attached n v i t ≡ attached (n - 1) v (i + 1) (with_next v i t)
attach_more zero v i t some side = absurd (omega arith)
attach_more (suc n) v i t some side =
    let less : suc n - 1 ≡ n = omega arith in
    ap (λ (b : Bool). cond b (attached n v (i + 1) (with_next v i t)) t) (le-leb (next_side v i t) 999_999_999_999_999 side)
    ∙ ap (λ (m : ℕ). attached m v (i + 1) (with_next v i t)) (sym less)

attach_stop : (n v i : ℕ) (t : Tiling) → 999_999_999_999_999 < next_side v i t → attached n v i t ≡ t
attach_stop zero v i t more = refl
attach_stop (suc n) v i t more = ap (λ (b : Bool). cond b (attached n v (i + 1) (with_next v i t)) t) (lt-leb (next_side v i t) 999_999_999_999_999 more)

-- one more square is attached, and what is left leads to the same
pub under_way_more : (v end step : ℕ) (first now : Tiling) → step < end → next_side v step now ≤ 999_999_999_999_999 → IsUnderWay v end step first now
    → IsUnderWay v end (step + 1) first (with_next v step now)
under_way_more v end step first now some side way =
    let less : (end - step) - 1 ≡ end - (step + 1) = omega arith in
    record {
      same = ap (λ (n : ℕ). attached n v (step + 1) (with_next v step now)) (sym less) ∙ sym (attach_more (end - step) v step now (omega arith) side)
          ∙ way.same;
      count = omega (arith, next_length v step now, way.count);
    }

-- where the next square would be too large, the rectangle stays as it is
pub under_way_stops : (v end step : ℕ) (first now : Tiling) → 999_999_999_999_999 < next_side v step now → IsUnderWay v end step first now
    → now ≡ attached end v 0 first
under_way_stops v end step first now more way = sym (attach_stop (end - step) v step now more) ∙ way.same

-- a rectangle with no step left is what all steps lead to from the first one
pub under_way_end : (v end step : ℕ) (first now : Tiling) → end ≤ step → IsUnderWay v end step first now → now ≡ attached end v 0 first
under_way_end v end step first now all way =
    let none : end - step ≡ 0 = omega arith in
    sym (ap (λ (n : ℕ). attached n v step now) none) ∙ way.same

-- as many steps as the first rectangle leaves free
pub all_steps : (v n : ℕ) (first : Tiling) → n ≡ length first.squares → first ≡ first_rectangle v
    → attached (200 - n) v 0 first ≡ attached (200 - length (first_rectangle v).squares) v 0 (first_rectangle v)
all_steps v n first count same =
    let all : n ≡ length (first_rectangle v).squares = count ∙ ap (λ (t : Tiling). length t.squares) same in
    λ z. attached (200 - all z) v 0 (same z)
