-- A flow whose numbers are all multiples of a number, divided by it: that is a flow of the net, too.
use Rattle.std.specs.Prelude.{List, [], cond, map, pos, slice_index_or, ℕ, ℤ, Bool, false, true, ◌*ℤ◌, ◌-ℤ◌, ◌<◌, ◌==◌, ◌∷◌, ◌≡◌}
use Rattle.std.proofs.Common.{arith, refl, suc, sym, zero, ◌∙◌}
use Rattle.std.proofs.lemmas.Int.{ints}
use Rattle.std.proofs.lemmas.List.{length-map}
use Rattle.bk_laws.proofs.ListPlaces.{head_same, tail_same}
use Rattle.bk_laws.proofs.WholeNumbers.{cancel_left, mul-add, mul-sub, mul-zero}
use Rattle.bk_net.specs.Flow.{IsFlow, outflow}
use Rattle.bk_net.specs.Net.{Net}

-- each number k times as large
abbrev pub all_times : ℕ → List ℤ → List ℤ
all_times k zs = map (λ z. pos k *ℤ z) zs

-- a positive factor of a list is cancelled
list_back : (k : ℕ) (xs ys : List ℤ) → 0 < k → all_times k xs ≡ all_times k ys → xs ≡ ys
list_back k [] [] some e = refl
list_back k [] (y ∷ ys) some e = absurd cc
list_back k (x ∷ xs) [] some e = absurd cc
list_back k (x ∷ xs) (y ∷ ys) some e =
    λ i. cancel_left k x y some (head_same _ _ _ _ e) i ∷ list_back k xs ys some (tail_same _ _ _ _ e) i

potential_times : (k : ℕ) (ps : List ℤ) (v : ℕ) → slice_index_or (all_times k ps) v (pos 0) ≡ pos k *ℤ slice_index_or ps v (pos 0)
potential_times k [] v = sym (mul-zero (pos k))
potential_times k (p ∷ ps) zero = refl
potential_times k (p ∷ ps) (suc v) = potential_times k ps v

abbrev drops : List ℤ → List (ℕ × ℕ) → List ℤ
drops ps ws = map (λ w. slice_index_or ps w.0 (pos 0) -ℤ slice_index_or ps w.1 (pos 0)) ws

drops_times : (k : ℕ) (ps : List ℤ) (ws : List (ℕ × ℕ)) → drops (all_times k ps) ws ≡ all_times k (drops ps ws)
drops_times k ps [] = refl
drops_times k ps (w ∷ ws) =
    let first = (λ i. potential_times k ps w.0 i -ℤ potential_times k ps w.1 i)
    ∙ sym (mul-sub (pos k) (slice_index_or ps w.0 (pos 0)) (slice_index_or ps w.1 (pos 0))) in
    λ i. first i ∷ drops_times k ps ws i

cond_times : (z : ℤ) (b : Bool) (c : ℤ) → cond b (z *ℤ c) (pos 0) ≡ z *ℤ cond b c (pos 0)
cond_times z true c = refl
cond_times z false c = sym (mul-zero z)

-- currents k times as large lead k times as much out of a node
out_times : (z : ℤ) (ws : List (ℕ × ℕ)) (cs : List ℤ) (v : ℕ) → outflow ws (map (λ c. z *ℤ c) cs) v ≡ z *ℤ outflow ws cs v
out_times z [] cs v = sym (mul-zero z)
out_times z (w ∷ ws) [] v = sym (mul-zero z)
out_times z (w ∷ ws) (c ∷ cs) v = omega (
  arith,
  ints,
  cond_times z (w.0 == v) c,
  cond_times z (w.1 == v) c,
  out_times z ws cs v,
  mul-sub z (cond (w.0 == v) c (pos 0)) (cond (w.1 == v) c (pos 0)),
  mul-add z (cond (w.0 == v) c (pos 0) -ℤ cond (w.1 == v) c (pos 0)) (outflow ws cs v),
)

-- a flow of multiples of k, divided by k
pub divided_flow : (net : Net) (k : ℕ) (total : ℤ) (ps cs : List ℤ) → 0 < k
    → IsFlow net (record { total = pos k *ℤ total; potentials = all_times k ps; currents = all_times k cs })
    → IsFlow net (record { total = total; potentials = ps; currents = cs })
divided_flow net k total ps cs some flow = record {
  nodes = sym (length-map ps (λ z. pos k *ℤ z)) ∙ flow.nodes;
  differences = list_back k cs (drops ps net.wires) some (flow.differences ∙ drops_times k ps net.wires);
  first = cancel_left k (outflow net.wires cs 0) total some (sym (out_times (pos k) net.wires cs 0) ∙ flow.first);
  between = λ v below above. cancel_left k (outflow net.wires cs v) (pos 0) some
      (sym (out_times (pos k) net.wires cs v) ∙ flow.between v below above ∙ sym (mul-zero (pos k)));
}
