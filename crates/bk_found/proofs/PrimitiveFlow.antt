-- The signed flow of a tiling in lowest terms is primitive; flows with the same currents have the same levels.
use Rattle.std.specs.Prelude.{nat_abs, ℤ, ◌-ℤ◌}
use Rattle.std.proofs.Common.{Contains, arith, length, map, subst, sym, ℕ, ◌*◌, ◌+◌, ◌/◌}
use Rattle.std.proofs.Common.{◌<◌, ◌∙◌, ◌≡◌}
use Rattle.std.proofs.Math.Nat.{mul-div_cancel'}
use Rattle.std.proofs.lemmas.Int.{ints}
use Rattle.std.proofs.lemmas.List.Elements.{recursion_from_All}
use Prim.Native.Nat.{◌∣◌}
use Rattle.bk_laws.proofs.ListItems.{slice_index_or-same_drops}
use Rattle.bk_laws.proofs.Magnitudes.{abs-signed}
use Rattle.bk_tiling.proofs.Cells.{all_from}
use Rattle.bk_tiling.specs.Scale.{IsPrimitiveTiling}
use Rattle.bk_tiling.specs.Tiling.{IsOneOf, IsTiling, Tiling, square_of}
use Rattle.bk_tiling.specs.declared.Square.{Square}
use Rattle.bk_net.specs.Flow.{Flow, IsFlow, IsPrimitive, potential}
use Rattle.bk_net.specs.Net.{HasNoLoose, IsJoined, Net, against, along, here}
use Rattle.bk_word.specs.Word.{Word}
use Rattle.bk_found.proofs.OtherOrder.{in_other, number_in}
use Rattle.bk_found.specs.Candidate.{level_in}
use Rattle.bk_layout.proofs.Lists.NumberedLists.{at_number}
use Rattle.bk_layout.proofs.SignedWords.SignedFlows.{square_apart, square_below}
use Rattle.bk_layout.specs.SignedFlow.{signed_flow, signed_side}
use Rattle.bk_layout.specs.SignedWord.{IsSignedWordOf}

module _ (t : Tiling) (tiling : IsTiling t) (primitive : IsPrimitiveTiling t) (w : Word) (s : IsSignedWordOf t w) where
  side_of_other : (d : ℕ) → ((k : ℕ) → k < length t.squares → d ∣ (square_of t (s.square k)).s) → (q : Square) → IsOneOf q t.squares → (m : ℕ) × (q.s ≡ d * m)
  side_of_other d each q h = from (number_in (λ k. square_of t (s.square k)) 0 (length t.squares) q
      (in_other t tiling s.square (square_below t tiling w s) (square_apart t tiling w s) q h))
    where
      from : (k : ℕ) × (k < 0 + length t.squares) × (square_of t (s.square k) ≡ q) → (m : ℕ) × (q.s ≡ d * m)
      from (k, low, e) = (q.s / d, sym (mul-div_cancel' d (subst (λ (r : Square). d ∣ r.s) e (each k (omega (arith, low))))))

  -- no number above 1 divides the width and all signed sides
  pub signed_flow_is_primitive : IsPrimitive (signed_flow t w s)
  signed_flow_is_primitive d total currents = omega (arith, primitive d (all_from (λ q. (m : ℕ) × (q.s ≡ d * m)) t.squares (side_of_other d each)))
    where
      each : (k : ℕ) → k < length t.squares → d ∣ (square_of t (s.square k)).s
      each k h = subst (λ (n : ℕ). d ∣ n) (abs-signed (s.is_reversed (s.square k)) (square_of t (s.square k)).s)
          (at_number {A = ℤ} (λ c. d ∣ nat_abs c) (λ k. signed_side t s.is_reversed (s.square k)) 0 (length t.squares) k
          (recursion_from_All (λ c. d ∣ nat_abs c) (signed_flow t w s).currents currents) (omega arith) (omega arith))

-- ---- levels by currents

module _ (net : Net) (f g : Flow) (flow : IsFlow net f) (other : IsFlow net g) (same : f.currents ≡ g.currents) where
  drops : map (λ (w : ℕ × ℕ). potential f w.0 -ℤ potential f w.1) net.wires ≡ map (λ (w : ℕ × ℕ). potential g w.0 -ℤ potential g w.1) net.wires
  drops = sym flow.differences ∙ same ∙ other.differences

  drop_same : {u v : ℕ} (c : Contains net.wires (u, v)) → potential f u -ℤ potential f v ≡ potential g u -ℤ potential g v
  drop_same {u} {v} c = subst (λ (e : ℕ × ℕ). potential f e.0 -ℤ potential f e.1 ≡ potential g e.0 -ℤ potential g e.1) c.2
      (slice_index_or-same_drops (potential f) (potential g) net.wires c.0 (u, v) drops c.1)

  joined_same : {u v : ℕ} → IsJoined net.wires u v → potential f u -ℤ potential f v ≡ potential g u -ℤ potential g v
  joined_same (here {v}) = omega (arith, ints)
  joined_same (along {u} {v} {w} c j) = omega (arith, ints, drop_same c, joined_same j)
  joined_same (against {u} {v} {w} c j) = omega (arith, ints, drop_same c, joined_same j)

  -- flows of one net with the same currents have the same levels
  pub same_levels : HasNoLoose net → 0 < net.nodes → (v : ℕ) → v < net.nodes → level_in f v ≡ level_in g v
  same_levels joined some v h = omega (arith, ints, joined_same (joined 0 some), joined_same (joined v h))
