-- What one run of a leaf has found, from what its steps ensure.
use Rattle.std.specs.Int.{w64}
use Rattle.std.specs.List.Sorted.{IsPermutation}
use Rattle.std.specs.Prelude.{nat_abs, pos, ℤ}
use Rattle.std.proofs.Common.{List, ap, arith, length, map, of_z, slice_index_or, subst, sym, to_z, ℕ, ◌*◌, ◌-◌, ◌<◌, ◌^◌, ◌∙◌, ◌≡◌, ◌≤◌}
use Rattle.std.proofs.lemmas.Int.{to_z-of_z}
use Rattle.bk_tiling.specs.CodeOrder.{in_code_order}
use Rattle.bk_tiling.specs.Refusal.{IsAccepted}
use Rattle.bk_tiling.specs.Scale.{IsPrimitiveTiling}
use Rattle.bk_tiling.specs.Tiling.{IsTiling, Tiling, sides_of}
use Rattle.bk_tiling.specs.declared.Square.{Square}
use Rattle.bk_flow.specs.FlowNumbers.{FlowNumbers}
use Rattle.bk_net.specs.Flow.{IsPrimitiveFlow}
use Rattle.bk_net.specs.Net.{HasNoLoose, Net}
use Rattle.bk_word.specs.Play.{IsComplete}
use Rattle.bk_word.specs.Word.{Word, order_of}
use Rattle.bk_word_net.specs.WordNet.{net_of_word}
use Rattle.bk_layout.specs.SignedWord.{IsSignedWordOf}
use Rattle.bk_found.proofs.Leaves.{accepted_found, as_many_wires_as_squares_of_the_word, currents_many, currents_small, height_found, in_order_found, joined}
use Rattle.bk_found.proofs.Leaves.{lines_known, no_zero_found, nodes_few, sides_found, total_small, width_found, wires_of_a_word_end_below_17}
use Rattle.bk_found.proofs.LevelSteps.{fits_small, told_lines}
use Rattle.bk_layout.specs.LineNumbers.{lefts_of}
use Rattle.bk_layout.proofs.FreeCuts.CutByNodes.{as_many_lefts}
use Rattle.bk_found.specs.Placing.{AreKnownLines, AreLevels, AreSmallNumbers, EndWithin, HasLevels, IsPlacedAt, IsSmallNumber, edges_by_lefts}

-- for each tiling in lowest terms of which the word is a signed one: this is its size, and these are its squares
pub record IsLeafRun (w : Word) (width height : ℕ) (squares : List Square) : Type 0 where
  pub width_is : (t : Tiling) → IsTiling t → IsPrimitiveTiling t → IsSignedWordOf t w → width ≡ t.width
  pub height_is : (t : Tiling) → IsTiling t → IsPrimitiveTiling t → IsSignedWordOf t w → height ≡ t.height
  pub accepted : (t : Tiling) → IsTiling t → IsPrimitiveTiling t → IsSignedWordOf t w → IsAccepted width height squares
  pub in_order : (t : Tiling) → IsTiling t → IsPrimitiveTiling t → IsSignedWordOf t w → in_code_order squares ≡ t.squares

-- the level of the last node as the code holds it
pub held_height : (levels : List ℤ) (from nodes height : ℕ) → ((v : ℕ) → v < 17 → IsSmallNumber (16 * 2 ^ 34) (slice_index_or levels v (pos 0)))
    → from ≡ nodes → nodes ≤ 17
    → height ≡ nat_abs (to_z w64 (of_z w64 (slice_index_or levels (from - 1) (pos 0)))) → height ≡ nat_abs (slice_index_or levels (nodes - 1) (pos 0))
held_height levels from nodes height small same few e = e
    ∙ ap nat_abs (to_z-of_z w64 (slice_index_or levels (from - 1) (pos 0))
    (fits_small (16 * 2 ^ 34) (slice_index_or levels (from - 1) (pos 0)) (small (from - 1) (omega (arith, same, few))) (omega arith)))
    ∙ ap (λ (v : ℕ). nat_abs (slice_index_or levels (v - 1) (pos 0))) same

-- a net that is the word's, and what its flow shows
module _ (w : Word) (complete : IsComplete w) (few : order_of w ≤ 16) (net : Net) (net_is : net ≡ net_of_word w) where
  -- a word's net has at most 16 wires
  pub leaf_net_has_few_wires : length net.wires ≤ 16
  leaf_net_has_few_wires = omega (arith, ap (λ (n : Net). length n.wires) net_is, as_many_wires_as_squares_of_the_word w complete few, few)

  -- a word's net has as many wires as the word has squares
  pub leaf_net_has_a_wire_for_each_square : length net.wires ≡ order_of w
  leaf_net_has_a_wire_for_each_square = ap (λ (n : Net). length n.wires) net_is ∙ as_many_wires_as_squares_of_the_word w complete few

  -- each node of a word's net is joined to the last
  pub leaf_net_has_no_loose_node : HasNoLoose net
  leaf_net_has_no_loose_node = subst HasNoLoose (sym net_is) (joined w complete few)

  -- a word's net has at most 17 nodes
  pub net_nodes : net.nodes ≤ 17
  net_nodes = omega (arith, ap (λ (n : Net). n.nodes) net_is, nodes_few w complete few)

  module _ (wires : List (ℕ × ℕ)) (wires_is : wires ≡ net.wires) where
    all_wires : wires ≡ (net_of_word w).wires
    all_wires = wires_is ∙ ap (λ (n : Net). n.wires) net_is

    pub shown_ends : EndWithin 17 wires
    shown_ends = subst (EndWithin 17) (sym all_wires) (wires_of_a_word_end_below_17 w complete few)

  module _ (lefts : List ℕ) (lefts_is : lefts ≡ lefts_of w) where
    pub lefts_known : AreKnownLines lefts
    lefts_known = subst AreKnownLines (sym lefts_is) (lines_known w complete few)

    pub lefts_many : length lefts ≡ order_of w
    lefts_many = ap length lefts_is ∙ as_many_lefts w

  module _ (total : ℤ) (currents : List ℤ) (flow : IsPrimitiveFlow net total currents) where
    word_flow : IsPrimitiveFlow (net_of_word w) total currents
    word_flow = subst (λ (n : Net). IsPrimitiveFlow n total currents) net_is flow

    pub small_total : IsSmallNumber (2 ^ 34) total
    small_total = total_small w complete few total currents word_flow

    -- the total as the code holds it
    pub held_total : to_z w64 (of_z w64 total) ≡ total
    held_total = to_z-of_z w64 total (fits_small (2 ^ 34) total small_total (omega arith))

    pub held_small : IsSmallNumber (2 ^ 34) (to_z w64 (of_z w64 total))
    held_small = subst (λ (z : ℤ). IsSmallNumber (2 ^ 34) z) (sym held_total) small_total

    module _ (shown : List ℤ) (shown_is : shown ≡ currents) where
      pub shown_small : AreSmallNumbers (2 ^ 34) shown
      shown_small = subst (AreSmallNumbers (2 ^ 34)) (sym shown_is) (currents_small w complete few total currents word_flow)

      pub shown_many : length shown ≡ order_of w
      shown_many = omega (arith, ap length shown_is, currents_many w complete few total currents word_flow, as_many_wires_as_squares_of_the_word w complete few)

      pub never_zero : ((k : ℕ) × (k < length shown) × (slice_index_or shown k (pos 1) ≡ pos 0)) → (t : Tiling) → IsTiling t
          → IsPrimitiveTiling t → IsSignedWordOf t w → ⊥
      never_zero (k, h, e) t tiling lowest s = no_zero_found w complete few total currents word_flow t tiling lowest s k
          (omega (arith, h, ap length shown_is)) (ap (λ (cs : List ℤ). slice_index_or cs k (pos 1)) (sym shown_is) ∙ e)

      pub shown_sides : (t : Tiling) → IsTiling t → IsPrimitiveTiling t → IsSignedWordOf t w → IsPermutation (sides_of t) (map nat_abs shown)
      shown_sides t tiling lowest s = subst (λ (cs : List ℤ). IsPermutation (sides_of t) (map nat_abs cs)) (sym shown_is)
          (sides_found w complete few total currents word_flow t tiling lowest s)

      module _ (wires : List (ℕ × ℕ)) (wires_is : wires ≡ net.wires) (levels : List ℤ) (right : (at : ℕ → ℤ) → AreLevels wires shown at
          → HasLevels wires at levels) where
        word_right : (at : ℕ → ℤ) → AreLevels (net_of_word w).wires currents at → HasLevels (net_of_word w).wires at levels
        word_right = subst (λ (ws : List (ℕ × ℕ)). (at : ℕ → ℤ) → AreLevels ws currents at → HasLevels ws at levels) (all_wires wires wires_is)
            (subst (λ (cs : List ℤ). (at : ℕ → ℤ) → AreLevels wires cs at → HasLevels wires at levels) shown_is right)

        module _ (width height : ℕ) (width_eq : width ≡ nat_abs total) (height_eq : height ≡ nat_abs (slice_index_or levels (net.nodes - 1) (pos 0))) where
          pub is_width : (t : Tiling) → IsTiling t → IsPrimitiveTiling t → IsSignedWordOf t w → width ≡ t.width
          is_width t tiling lowest s = width_eq ∙ width_found w complete few total currents word_flow t tiling lowest s

          pub is_height : (t : Tiling) → IsTiling t → IsPrimitiveTiling t → IsSignedWordOf t w → height ≡ t.height
          is_height t tiling lowest s = height_eq ∙ ap (λ (n : Net). nat_abs (slice_index_or levels (n.nodes - 1) (pos 0))) net_is
              ∙ height_found w complete few total currents word_flow levels word_right t tiling lowest s

          module _ (lefts : List ℕ) (lefts_is : lefts ≡ lefts_of w) (held : ℤ) (held_is : held ≡ total) (rights : List ℤ)
              (edges : rights ≡ edges_by_lefts held lefts shown) (squares : List Square) (many : length squares ≡ length lefts)
              (each : (k : ℕ) → k < length lefts → IsPlacedAt (told_lines lefts wires shown rights held) levels k
              (slice_index_or squares k (record { x = 0; y = 0; s = 0 }))) where
            word_edges : rights ≡ edges_by_lefts total (lefts_of w) currents
            word_edges = edges ∙ (λ i. edges_by_lefts (held_is i) (lefts_is i) (shown_is i))

            word_each : (k : ℕ) → k < length (lefts_of w)
                → IsPlacedAt (told_lines (lefts_of w) (net_of_word w).wires currents rights total) levels k
                (slice_index_or squares k (record { x = 0; y = 0; s = 0 }))
            word_each = subst (λ (ls : List ℕ). (k : ℕ) → k < length ls
                → IsPlacedAt (told_lines ls (net_of_word w).wires currents rights total) levels k
                (slice_index_or squares k (record { x = 0; y = 0; s = 0 }))) lefts_is
                (subst (λ (ws : List (ℕ × ℕ)). (k : ℕ) → k < length lefts
                → IsPlacedAt (told_lines lefts ws currents rights total) levels k (slice_index_or squares k (record { x = 0; y = 0; s = 0 })))
                (all_wires wires wires_is)
                (subst (λ (cs : List ℤ). (k : ℕ) → k < length lefts
                → IsPlacedAt (told_lines lefts wires cs rights total) levels k (slice_index_or squares k (record { x = 0; y = 0; s = 0 }))) shown_is
                (subst (λ (z : ℤ). (k : ℕ) → k < length lefts
                → IsPlacedAt (told_lines lefts wires shown rights z) levels k (slice_index_or squares k (record { x = 0; y = 0; s = 0 }))) held_is each)))

            pub leaf_run : IsLeafRun w width height squares
            leaf_run = record {
              width_is = is_width;
              height_is = is_height;
              accepted = λ t tiling lowest s. subst (λ (n : ℕ). IsAccepted n height squares) (sym (is_width t tiling lowest s))
                  (subst (λ (n : ℕ). IsAccepted t.width n squares) (sym (is_height t tiling lowest s))
                  (accepted_found w complete few total currents word_flow levels word_right rights squares word_edges
                  (many ∙ ap length lefts_is) word_each t tiling lowest s));
              in_order = λ t tiling lowest s. in_order_found w complete few total currents word_flow levels word_right rights squares
                  word_edges (many ∙ ap length lefts_is) word_each t tiling lowest s;
            }

-- the flow of a net, as it is shown
pub flow_shown : (net : Net) (f : FlowNumbers) (total : ℤ) (currents : List ℤ) → total ≡ f.total → currents ≡ f.currents
    → IsPrimitiveFlow net f.total f.currents → IsPrimitiveFlow net total currents
flow_shown net f total currents same_total same_currents flow = subst (λ (z : ℤ). IsPrimitiveFlow net z currents) (sym same_total)
    (subst (λ (cs : List ℤ). IsPrimitiveFlow net f.total cs) (sym same_currents) flow)
