-- What the code of a leaf finds: the squares of the candidate, and the tiling of which the word is a signed one.
use Rattle.std.specs.List.{AllByRecursion}
use Rattle.std.specs.List.Sorted.{IsPermutation}
use Rattle.std.specs.Prelude.{nat_abs, negsuc, pos, ℤ, ◌++◌, ◌+ℤ◌, ◌-ℤ◌, ◌≢◌}
use Rattle.std.proofs.Common.{List, Some, [], ap, arith, length, map, refl, slice_get, slice_index_or, subst, suc, sym, ℕ, ◌+◌, ◌-◌, ◌<◌, ◌^◌}
use Rattle.std.proofs.Common.{◌∙◌, ◌∷◌, ◌≡◌, ◌≤◌}
use Rattle.std.proofs.lemmas.Int.{ints}
use Rattle.std.proofs.lemmas.List.{length-map}
use Rattle.std.proofs.lemmas.Option.{get_or_from_slice_get, slice_get-get_or, slice_get_within}
use Rattle.bk_laws.proofs.AllOfLists.{all-slice_index_or}
use Rattle.bk_laws.proofs.ListItems.{slice_index_or-map}
use Rattle.bk_tiling.proofs.Cells.{all_from, in_all}
use Rattle.bk_tiling.specs.CodeOrder.{in_code_order}
use Rattle.bk_tiling.specs.KeptTiling.{IsSide}
use Rattle.bk_tiling.specs.Refusal.{IsAccepted}
use Rattle.bk_tiling.specs.Scale.{IsPrimitiveTiling}
use Rattle.bk_tiling.specs.Tiling.{IsOneOf, IsTiling, Tiles, Tiling, sides_of as sides_in, whole}
use Rattle.bk_tiling.specs.declared.Square.{Square}
use Rattle.bk_net.specs.Flow.{Flow, IsPrimitiveFlow, potential}
use Rattle.bk_net.specs.Net.{HasNoLoose, last_node}
use Rattle.bk_word.proofs.PlayLaws.{moves_many}
use Rattle.bk_word.specs.Outline.{start}
use Rattle.bk_word.specs.Play.{IsComplete, numbers_from, outline_of}
use Rattle.bk_word.specs.Word.{Word, order_of}
use Rattle.bk_word_net.proofs.WordFlows.NoLoose.{a_word_net_has_no_loose, closed_count}
use Rattle.bk_word_net.proofs.WordFlows.PlacesInLists.{index_of}
use Rattle.bk_word_net.proofs.Outlines.Shape.{hung_many}
use Rattle.bk_word_net.proofs.PlacedSquares.WordTilings.{wires_many}
use Rattle.bk_word_net.specs.WordNet.{net_of_word}
use Rattle.bk_layout.specs.LineNumbers.{lefts_of, square_lines}
use Rattle.bk_layout.proofs.FreeCuts.CutByNodes.{as_many_lefts}
use Rattle.bk_layout.proofs.FreeCuts.KnownLines.{known_lines}
use Rattle.bk_layout.specs.SignedWord.{IsSignedWordOf}
use Rattle.bk_found.proofs.LevelSteps.{told_lines}
use Rattle.bk_found.proofs.Candidates.{the_candidate_is_the_tiling}
use Rattle.bk_found.specs.Candidate.{IsCandidateOf, candidate_square, candidate_squares, level_in, line_place, placed_square, right_edges_from}
use Rattle.bk_found.proofs.FoundSides.{magnitudes_are_sides}
use Rattle.bk_found.proofs.SmallFlows.{flow_currents_small, flow_total_small}
use Rattle.bk_found.proofs.WordWires.{last_end, word_levels}
use Rattle.bk_found.specs.Placing.{AreKnownLines, AreLevels, AreSmallNumbers, EndWithin, HasLevels, IsPlacedAt, IsSmallNumber, by_lefts, edges_by_lefts}

by_index : (xs : List Square) (g : ℕ → Square) (b : ℕ) (d : Square) → ((k : ℕ) → k < length xs → slice_index_or xs k d ≡ g (b + k))
    → xs ≡ map g (numbers_from b (length xs))
by_index [] g b d each = refl
by_index (x ∷ xs) g b d each = λ i. (each 0 (omega arith) ∙ ap g at) i ∷ by_index xs g (b + 1) d (λ k h. each (suc k) (omega arith) ∙ ap g (next k)) i
  where
    at : b + 0 ≡ b
    at = omega arith

    next : (k : ℕ) → b + suc k ≡ b + 1 + k
    next k = omega arith

-- where squares end is told by the lines at their left
pub edges_told : (total : ℤ) (rights : List ℤ) (sides : List (ℕ × ℕ)) (currents : List ℤ)
    → right_edges_from total rights (by_lefts (map (λ s. s.0) sides)) currents ≡ right_edges_from total rights sides currents
edges_told total rights [] currents = refl
edges_told total rights (s ∷ sides) [] = refl
edges_told total rights (s ∷ sides) (c ∷ currents) = edges_told total (rights ++ (line_place total rights s.0 +ℤ c) ∷ []) sides currents

-- the numbers of a complete word of at most 16 squares
module _ (w : Word) (complete : IsComplete w) (few : order_of w ≤ 16) where
  -- a word's net has as many wires as the word has squares
  pub as_many_wires_as_squares_of_the_word : length (net_of_word w).wires ≡ order_of w
  as_many_wires_as_squares_of_the_word = wires_many w

  -- each node of a word's net is joined to the last
  pub joined : HasNoLoose (net_of_word w)
  joined = (a_word_net_has_no_loose w complete).1

  -- a word's net has at most 17 nodes
  pub nodes_few : (net_of_word w).nodes ≤ 17
  nodes_few = omega (arith, few, closed_count start w, moves_many start w complete.legal)

  -- the wires of a word's net end at nodes below 17
  pub wires_of_a_word_end_below_17 : EndWithin 17 (net_of_word w).wires
  wires_of_a_word_end_below_17 k h = let e = ((a_word_net_has_no_loose w complete).0).ends k (0, 0) h in
      (omega (arith, e.0, nodes_few), omega (arith, e.1, nodes_few))

  -- the left lines of a word have known numbers
  pub lines_known : AreKnownLines (lefts_of w)
  lines_known k h = subst (λ (n : ℕ). n < k + 2) (sym (slice_index_or-map (λ (s : ℕ × ℕ). s.0) (square_lines w) k 0 (0, 0) low))
      (known_lines w k (slice_index_or (square_lines w) k (0, 0)) (slice_get-get_or (square_lines w) k (0, 0) low)).0
    where
      low : k < length (square_lines w)
      low = omega (arith, h, length-map (square_lines w) (λ s. s.0))

  module _ (total : ℤ) (currents : List ℤ) (flow : IsPrimitiveFlow (net_of_word w) total currents) where
    pub total_small : IsSmallNumber (2 ^ 34) total
    total_small = flow_total_small (net_of_word w) total currents (a_word_net_has_no_loose w complete).0 joined
        (omega (arith, as_many_wires_as_squares_of_the_word, few)) flow

    pub currents_small : AreSmallNumbers (2 ^ 34) currents
    currents_small = flow_currents_small (net_of_word w) total currents (a_word_net_has_no_loose w complete).0 joined
        (omega (arith, as_many_wires_as_squares_of_the_word, few)) flow

    abbrev the_flow : Flow
    the_flow = record { total = total; potentials = flow.0; currents = currents }

    pub currents_many : length currents ≡ length (net_of_word w).wires
    currents_many = ap length (((flow.1).flow).differences) ∙ length-map (net_of_word w).wires (λ e. potential (the_flow) e.0 -ℤ potential (the_flow) e.1)

    levels_are : AreLevels (net_of_word w).wires currents (level_in (record { total = total; potentials = flow.0; currents = currents }))
    levels_are = word_levels w complete (omega (arith, as_many_wires_as_squares_of_the_word, hung_many start w))
        (record { total = total; potentials = flow.0; currents = currents }) (flow.1).flow

    -- where the word is a signed one of a tiling in lowest terms
    module _ (t : Tiling) (tiling : IsTiling t) (lowest : IsPrimitiveTiling t) (s : IsSignedWordOf t w) where
      found : IsCandidateOf t w s (record { total = total; potentials = flow.0; currents = currents })
      found = the_candidate_is_the_tiling t w (record { total = total; potentials = flow.0; currents = currents }) tiling lowest s
          (flow.1).flow (flow.1).positive flow.2

      pub width_found : nat_abs total ≡ t.width
      width_found = ap nat_abs found.width

      pub sides_found : IsPermutation (sides_in t) (map nat_abs currents)
      sides_found = magnitudes_are_sides t w (record { total = total; potentials = flow.0; currents = currents }) found.squares

      pub no_zero_found : (k : ℕ) → k < length currents → slice_index_or currents k (pos 1) ≡ pos 0 → ⊥
      no_zero_found k h e = all-slice_index_or (λ c. c ≢ pos 0) currents k (pos 1) found.some h e

    -- the levels are those of the flow
    module _ (levels : List ℤ) (right : (at : ℕ → ℤ) → AreLevels (net_of_word w).wires currents at → HasLevels (net_of_word w).wires at levels) where
      has : HasLevels (net_of_word w).wires (level_in (record { total = total; potentials = flow.0; currents = currents })) levels
      has = right (level_in (record { total = total; potentials = flow.0; currents = currents })) levels_are

      height_is : slice_index_or levels ((net_of_word w).nodes - 1) (pos 0)
          ≡ level_in (record { total = total; potentials = flow.0; currents = currents }) (last_node (net_of_word w))
      height_is = from (last_end w complete complete.some (omega (arith, as_many_wires_as_squares_of_the_word, hung_many start w)) complete.one)
        where
          from : (k : ℕ) × (k < length (net_of_word w).wires) × ((slice_index_or (net_of_word w).wires k (0, 0)).1 ≡ length (outline_of w).closed)
              → slice_index_or levels ((net_of_word w).nodes - 1) (pos 0)
              ≡ level_in (record { total = total; potentials = flow.0; currents = currents }) (last_node (net_of_word w))
          from (k, h, e) = subst (λ (v : ℕ). slice_index_or levels v (pos 0)
              ≡ level_in (record { total = total; potentials = flow.0; currents = currents }) v) (e ∙ omega arith) (has k h).1

      pub height_found : (t : Tiling) → IsTiling t → IsPrimitiveTiling t → IsSignedWordOf t w
          → nat_abs (slice_index_or levels ((net_of_word w).nodes - 1) (pos 0)) ≡ t.height
      height_found t tiling lowest s = ap nat_abs (height_is ∙ (found t tiling lowest s).height)

      -- what was placed is the candidate
      module _ (rights : List ℤ) (squares : List Square) (edges : rights ≡ edges_by_lefts total (lefts_of w) currents)
          (many : length squares ≡ length (lefts_of w))
          (each : (k : ℕ) → k < length (lefts_of w)
          → IsPlacedAt (told_lines (lefts_of w) (net_of_word w).wires currents rights total) levels k
          (slice_index_or squares k (record { x = 0; y = 0; s = 0 }))) where
        edges_are : rights ≡ right_edges_from total [] (square_lines w) currents
        edges_are = edges ∙ edges_told total [] (square_lines w) currents

        one : (k : ℕ) → k < length (lefts_of w) → slice_index_or squares k (record { x = 0; y = 0; s = 0 })
            ≡ candidate_square w (record { total = total; potentials = flow.0; currents = currents }) k
        one k h = each k h ∙ (λ i. placed_square (line_place total (edges_are i)
            (slice_index_or-map (λ (s : ℕ × ℕ). s.0) (square_lines w) k 0 (0, 1) (omega (arith, h, length-map (square_lines w) (λ s. s.0))) i))
            (slice_index_or (edges_are i) k (pos 0)) ((has k low).0 i) ((has k low).1 i) (slice_index_or currents k (pos 0)))
          where
            low : k < length (net_of_word w).wires
            low = omega (arith, h, as_many_lefts w, as_many_wires_as_squares_of_the_word)

        squares_are : squares ≡ candidate_squares w (record { total = total; potentials = flow.0; currents = currents })
        squares_are = by_index squares (candidate_square w (record { total = total; potentials = flow.0; currents = currents })) 0
            (record { x = 0; y = 0; s = 0 })
            (λ k h. one k (omega (arith, h, many)) ∙ ap (candidate_square w (record { total = total; potentials = flow.0; currents = currents })) (from_zero k))
            ∙ ap (λ (n : ℕ). map (candidate_square w (record { total = total; potentials = flow.0; currents = currents }))
            (numbers_from 0 n)) (omega (arith, many, as_many_lefts w, as_many_wires_as_squares_of_the_word, currents_many))
          where
            from_zero : (k : ℕ) → k ≡ 0 + k
            from_zero k = omega arith

        module _ (t : Tiling) (tiling : IsTiling t) (lowest : IsPrimitiveTiling t) (s : IsSignedWordOf t w) where
          side_small : (z : ℤ) (left right above below : ℤ) → IsSmallNumber (2 ^ 34) z → (placed_square left right above below z).s ≤ 2 ^ 34
          side_small (pos n) left right above below small = omega (arith, ints, small.1)
          side_small (negsuc n) left right above below small = omega (arith, ints, small.0)

          pub accepted_found : IsAccepted t.width t.height squares
          accepted_found = record {
            few = omega (arith, many, as_many_lefts w, few);
            sides = all_from (λ q. IsSide q.s) squares side_of;
            tiles = subst (λ (qs : List Square). Tiles (whole t) qs) (sym squares_are) (found t tiling lowest s).tiles;
          }
            where
              side_of : (q : Square) → IsOneOf q squares → IsSide q.s
              side_of q h = (
                in_all (λ q. 0 < q.s) squares
                    (subst (λ (qs : List Square). AllByRecursion (λ q. 0 < q.s) qs) (sym squares_are) (found t tiling lowest s).tiles.sides) q
                    h,
                from (index_of squares q h),
              )
                where
                  from : (k : ℕ) × (slice_get squares k ≡ Some q) → q.s ≤ 999_999_999_999_999
                  from (k, e) = omega (
                    arith,
                    ap (λ (z : Square). z.s) (sym (get_or_from_slice_get squares k q (record { x = 0; y = 0; s = 0 }) e) ∙ each k low),
                    side_small (slice_index_or currents k (pos 0)) (line_place total rights (slice_index_or (lefts_of w) k 0))
                        (slice_index_or rights k (pos 0)) (slice_index_or levels (slice_index_or (net_of_word w).wires k (0, 0)).0 (pos 0))
                        (slice_index_or levels (slice_index_or (net_of_word w).wires k (0, 0)).1 (pos 0))
                        (currents_small k (omega (arith, low, as_many_lefts w, as_many_wires_as_squares_of_the_word, currents_many))),
                  )
                    where
                      low : k < length (lefts_of w)
                      low = omega (arith, slice_get_within squares k q e, many)

          pub in_order_found : in_code_order squares ≡ t.squares
          in_order_found = ap in_code_order squares_are ∙ (found t tiling lowest s).squares
