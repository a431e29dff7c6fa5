-- What flows out of a node, as sums over numbers, where some of the currents are negative.
use Rattle.std.specs.Prelude.{neg_ℤ, pos, ℤ, ◌+ℤ◌, ◌-ℤ◌}
use Rattle.std.proofs.Common.{Bool, List, Some, [], ap, arith, cond, false, length, map, refl, slice_get, suc, sym, true, ℕ, ◌+◌, ◌==◌, ◌∙◌, ◌∷◌, ◌≡◌}
use Rattle.std.proofs.lemmas.Int.{ints}
use Rattle.bk_laws.proofs.Magnitudes.{signed_terms-reversed_wire, signed_terms-wire}
use Rattle.bk_net.specs.Flow.{outflow}
use Rattle.bk_word.specs.Play.{numbers_from}
use Rattle.bk_layout.proofs.Lists.Totals.{total_from}

-- a current with its sign, and the ends between which it flows where it is positive
abbrev pub with_sign : Bool → ℕ → ℤ
with_sign is_reversed s = cond is_reversed (neg_ℤ (pos s)) (pos s)

-- the end at which a current begins: of a reversed wire it is the second
abbrev pub start_of : Bool → ℕ × ℕ → ℕ
start_of is_reversed w = cond is_reversed w.1 w.0

-- the end at which a current arrives: of a reversed wire it is the first
abbrev pub finish_of : Bool → ℕ × ℕ → ℕ
finish_of is_reversed w = cond is_reversed w.0 w.1

signed_wire : (is_reversed : Bool) (w : ℕ × ℕ) (v s m n : ℕ) (r : ℤ) → r ≡ pos m -ℤ pos n
    → (cond (w.0 == v) (with_sign is_reversed s) (pos 0) -ℤ cond (w.1 == v) (with_sign is_reversed s) (pos 0)) +ℤ r
    ≡ pos (cond (start_of is_reversed w == v) s 0 + m) -ℤ pos (cond (finish_of is_reversed w == v) s 0 + n)
signed_wire true w v s m n r e = signed_terms-reversed_wire (w.0 == v) (w.1 == v) s m n r e
signed_wire false w v s m n r e = signed_terms-wire (w.0 == v) (w.1 == v) s m n r e

-- what flows out of a node is the sum of all that begins there less the sum of all that arrives
pub signed_total : (ws : List (ℕ × ℕ)) (is_reversed : ℕ → Bool) (s : ℕ → ℕ) (wire : ℕ → ℕ × ℕ) (b v : ℕ)
    → ((k : ℕ) (w : ℕ × ℕ) → slice_get ws k ≡ Some w → wire (b + k) ≡ w)
    → outflow ws (map (λ k. with_sign (is_reversed k) (s k)) (numbers_from b (length ws))) v
    ≡ pos (total_from (λ k. cond (start_of (is_reversed k) (wire k) == v) (s k) 0) b (length ws)) -ℤ pos
    (total_from (λ k. cond (finish_of (is_reversed k) (wire k) == v) (s k) 0) b (length ws))
signed_total [] is_reversed s wire b v each = omega (arith, ints)
signed_total (w ∷ ws) is_reversed s wire b v each =
    signed_wire (is_reversed b) w v (s b) (total_from (λ k. cond (start_of (is_reversed k) (wire k) == v) (s k) 0) (b + 1) (length ws))
    (total_from (λ k. cond (finish_of (is_reversed k) (wire k) == v) (s k) 0) (b + 1) (length ws))
    (outflow ws (map (λ k. with_sign (is_reversed k) (s k)) (numbers_from (b + 1) (length ws))) v)
    (signed_total ws is_reversed s wire (b + 1) v (λ k x e. ap wire (next k) ∙ each (suc k) x e))
    ∙ (λ i. pos (cond (start_of (is_reversed b) (here i) == v) (s b) 0
    + total_from (λ k. cond (start_of (is_reversed k) (wire k) == v) (s k) 0) (b + 1) (length ws))
    -ℤ pos (cond (finish_of (is_reversed b) (here i) == v) (s b) 0
    + total_from (λ k. cond (finish_of (is_reversed k) (wire k) == v) (s k) 0) (b + 1) (length ws)))
  where
    next : (k : ℕ) → b + 1 + k ≡ b + suc k
    next k = omega arith

    at : b ≡ b + 0
    at = omega arith

    here : w ≡ wire b
    here = sym (ap wire at ∙ each 0 w refl)
