-- The numbers of the primitive flow of a net of few wires fit 64 bits.
use Rattle.std.specs.Prelude.{All, nat_abs, pos, ℤ}
use Rattle.std.proofs.Common.{List, length, slice_index_or, ◌^◌, ◌∷◌, ◌≤◌}
use Rattle.std.proofs.lemmas.List.Elements.{recursion_from_All}
use Rattle.bk_laws.proofs.AllOfLists.{all-slice_index_or}
use Rattle.bk_net.specs.Flow.{IsPrimitiveFlow}
use Rattle.bk_net.specs.Net.{HasNoLoose, IsNet, Net}
use Rattle.bk_flow.proofs.NarrowNets.{small_nets_have_small_flows}
use Rattle.bk_found.proofs.LevelSteps.{small_from}
use Rattle.bk_found.specs.Placing.{AreSmallNumbers, IsSmallNumber}

module _ (net : Net) (total : ℤ) (currents : List ℤ) (is : IsNet net) (joined : HasNoLoose net) (few : length net.wires ≤ 16)
    (flow : IsPrimitiveFlow net total currents) where
  small : All (λ n. nat_abs n ≤ 2 ^ 34) (total ∷ currents)
  small = small_nets_have_small_flows net total currents is joined few flow

  -- the flow's total is at most 2^34 in magnitude
  pub flow_total_small : IsSmallNumber (2 ^ 34) total
  flow_total_small = small_from (2 ^ 34) total (recursion_from_All (λ n. nat_abs n ≤ 2 ^ 34) (total ∷ currents) small).0

  -- the flow's currents are at most 2^34 in magnitude
  pub flow_currents_small : AreSmallNumbers (2 ^ 34) currents
  flow_currents_small k h = small_from (2 ^ 34) (slice_index_or currents k (pos 0))
      (all-slice_index_or (λ n. nat_abs n ≤ 2 ^ 34) currents k (pos 0) (recursion_from_All (λ n. nat_abs n ≤ 2 ^ 34) (total ∷ currents) small).1 h)
