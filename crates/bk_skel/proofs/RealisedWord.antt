-- What the faults and the flow of a word's net say of the word.
use Rattle.std.specs.Prelude.{All, List, nat_abs, ℤ}
use Rattle.std.proofs.Common.{ap, arith, false, get_or, inl, inr, length, subst, suc, sym, true, ℕ, ◌<◌, ◌^◌, ◌≡◌, ◌≤◌, ◌⊎◌}
use Rattle.std.proofs.lemmas.Bool.{false≢true}
use Rattle.bk_net.specs.Net.{HasNoLoose, Net}
use Rattle.bk_flow.specs.FlowNumbers.{FlowNumbers, IsNarrowFlow}
use Rattle.bk_flow.specs.RefusedNet.{IsRefusedFor}
use Rattle.bk_flow.specs.Wide.{IsWide}
use Rattle.bk_flow.specs.declared.FlowFault.TheVariants.{Loose, NoMemory, Wide}
use Rattle.bk_flow.specs.declared.FlowFault.{FlowFault}
use Rattle.bk_tiling.specs.declared.TheConstants.{LONGEST_SIDE}
use Rattle.bk_word.specs.Outline.{start}
use Rattle.bk_word.specs.Play.{IsComplete, IsLegal, outline_of}
use Rattle.bk_word.specs.Word.{Word, order_of}
use Rattle.bk_word_net.proofs.WordFlows.NoLoose.{a_word_net_has_no_loose}
use Rattle.bk_word_net.proofs.PlacedSquares.WordTilings.{wires_many}
use Rattle.bk_word_net.proofs.Outlines.Shape.{Shaped, shaped_moves, shaped_start}
use Rattle.bk_skel.specs.WideWord.{HasLargeCurrent, IsWideWord}
use Rattle.bk_word_net.specs.WordNet.{net_of_word}

module _ (w : Word) (net : Net) (is : net ≡ net_of_word w) where
  -- the net of a word of at most 16 squares has at most 16 wires
  pub net_of_few_squares_has_few_wires : order_of w ≤ 16 → length net.wires ≤ 16
  net_of_few_squares_has_few_wires few = omega (arith, ap (λ (n : Net). length n.wires) is, wires_many w, few)

  -- each node of the net of a complete word is joined to the last
  pub complete_net_has_no_loose_node : IsComplete w → HasNoLoose net
  complete_net_has_no_loose_node complete = subst HasNoLoose (sym is) (a_word_net_has_no_loose w complete).1

  -- a word whose net is wide is a wide word
  pub wide_net : IsWide net → IsWideWord w
  wide_net wide = inl (subst IsWide is wide)

-- the currents of a narrow flow are not too large for sides
pub small_enough : (f : FlowNumbers) → IsNarrowFlow f → (seen : List ℤ) → seen ≡ f.currents → All (λ c. nat_abs c ≤ LONGEST_SIDE) seen
small_enough f narrow seen is = subst (λ (cs : List ℤ). All (λ c. nat_abs c ≤ LONGEST_SIDE) cs) (sym is)
    (λ k d h. let low : nat_abs (get_or f.currents k d) ≤ 2 ^ 34 = narrow.small (suc k) d (omega (arith, h)) in omega (arith, low))

-- where all moves are legal and the word isn't complete, more than one segment is left
pub open_end : (skel w : Word) → skel ≡ w → 0 < length w → IsLegal w → (IsComplete skel → ⊥) → IsLegal w × (1 < length (outline_of w).segments)
open_end skel w same some legal never = (legal, cases (three (length (outline_of w).segments)))
  where
    shaped : Shaped (outline_of w)
    shaped = shaped_moves start w legal shaped_start

    three : (n : ℕ) → (n ≡ 0) ⊎ (n ≡ 1) ⊎ (1 < n)
    three n = grind arith

    cases : (length (outline_of w).segments ≡ 0) ⊎ (length (outline_of w).segments ≡ 1) ⊎ (1 < length (outline_of w).segments)
        → 1 < length (outline_of w).segments
    cases (inl e) = absurd (omega (arith, e, shaped.many))
    cases (inr (inl e)) = absurd (never (subst IsComplete (sym same) (record { legal = legal; some = some; one = e })))
    cases (inr (inr h)) = h

module _ (skel w : Word) (same : skel ≡ w) (complete : IsComplete skel) (net : Net) (is : net ≡ net_of_word skel) (fault : FlowFault)
    (refused : IsRefusedFor fault net) where
  -- the fault that memory is wanting means a complete word of more than 16 squares
  pub memory_fault : fault ≡ NoMemory → IsComplete w × (16 < order_of w)
  memory_fault e = (subst IsComplete same complete, from (subst (λ (f : FlowFault). IsRefusedFor f net) e refused))
    where
      from : HasNoLoose net × (16 < length net.wires) → 16 < order_of w
      from r = omega (arith, r.1, ap (λ (n : Net). length n.wires) is, wires_many skel, ap order_of same)

  -- the fault that a net is wide means a complete word that is wide
  pub wide_fault : fault ≡ Wide → IsComplete w × IsWideWord w
  wide_fault e = (subst IsComplete same complete, subst IsWideWord same (from (subst (λ (f : FlowFault). IsRefusedFor f net) e refused)))
    where
      from : HasNoLoose net × IsWide net → IsWideWord skel
      from r = wide_net skel net is r.1

  -- no loose node is ever a fault
  pub loose_fault : (node : ℕ) → fault ≡ Loose node → ⊥
  loose_fault node e = from (subst (λ (f : FlowFault). IsRefusedFor f net) e refused)
    where
      from : IsRefusedFor (Loose node) net → ⊥
      from r = (r.0).1 (complete_net_has_no_loose_node skel net is complete node (r.0).0)

-- a complete word whose net has too large a current is wide
pub large_word : (skel w : Word) → skel ≡ w → IsComplete skel → HasLargeCurrent (net_of_word skel) → IsComplete w × IsWideWord w
large_word skel w same complete large = (subst IsComplete same complete, subst IsWideWord same (inr large))

-- a complete word whose net is neither wide nor has a current that is too large is not wide
pub not_wide : (skel w : Word) (net : Net) → skel ≡ w → net ≡ net_of_word skel → (IsWide net → ⊥)
    → (HasLargeCurrent (net_of_word skel) → false ≡ true) → IsWideWord w → ⊥
not_wide skel w net same is never small wide = from (subst IsWideWord (sym same) wide)
  where
    from : IsWideWord skel → ⊥
    from (inl wide) = never (subst IsWide (sym is) wide)
    from (inr large) = false≢true (small large)
