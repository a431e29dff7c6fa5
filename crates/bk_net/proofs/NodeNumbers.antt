-- The wires of a Smith diagram by its squares: each from the number of its group to that of the group of the square under
-- its left column, which a search in the order of the code finds.
use Rattle.std.specs.List.Sorted.{IsPartitionPoint}
use Rattle.std.specs.Prelude.{slice_index}
use Rattle.std.proofs.Common.{Bool, List, [], ap, arith, cond, count_by, false, inl, inr, length, nat_eq, slice_index_or, subst, sym}
use Rattle.std.proofs.Common.{take, true, ℕ, ◌&&◌, ◌++◌, ◌+◌, ◌-◌, ◌<◌, ◌^◌, ◌∙◌, ◌∷◌, ◌≡◌, ◌≢◌, ◌≤◌, ◌⊎◌}
use Rattle.std.proofs.lemmas.Bool.{both_ways, cases_Bool, cases_lt, eqb-true}
use Rattle.std.proofs.lemmas.Bool.Decides.{nat_tests}
use Rattle.std.proofs.lemmas.List.{take_more}
use Rattle.bk_tiling.proofs.Cells.{covers_from, none_counted, one_counted, over_from}
use Rattle.bk_tiling.proofs.Groups.{row_of}
use Rattle.bk_tiling.proofs.Members.{one_at}
use Rattle.bk_tiling.proofs.Places.{at_place, later_place}
use Rattle.bk_tiling.proofs.Scaling.{before_cases}
use Rattle.bk_tiling.proofs.TilingGroups.{one_there}
use Rattle.bk_tiling.proofs.TilingLaws.{a_square_over_each_cell, side_of, within_of}
use Rattle.bk_tiling.specs.CodeOrder.{comes_before, is_no_later}
use Rattle.bk_tiling.specs.Column.{covers_column}
use Rattle.bk_tiling.specs.KeptTiling.{IsKept}
use Rattle.bk_tiling.specs.SquareGroups.{square_groups}
use Rattle.bk_tiling.specs.Tiling.{IsOneOf, IsTiling, Tiling, covers}
use Rattle.bk_tiling.specs.declared.Square.{Square}
use Rattle.bk_net.proofs.GroupSquares.{row_is, square_below_begins_at_the_bottom}
use Rattle.bk_net.proofs.NodeBelow.{below_from, has_node_below}
use Rattle.bk_net.proofs.SidesFlow.{the_one_flow}
use Rattle.bk_net.proofs.SmithLists.{HasGroup, count_at}
use Rattle.bk_net.specs.Diagram.{node_below, smith_diagram}
use Rattle.bk_net.specs.GroupNumbers.{group_numbers}
use Rattle.bk_net.proofs.SquareNumbers.{HasNumber, group_numbers_are_as_many_as_squares, has_number, no_later_from, no_later_to, wires_by, wires_by-at}
use Rattle.bk_net.proofs.SquareNumbers.{wires_by-groups, wires_by-length}

-- the lower edge of a square of a kept tiling fits 64 bits
pub lower_edge_fits : (t : Tiling) → IsKept t → (q : Square) → IsOneOf q t.squares → q.y + q.s < 2 ^ 64
lower_edge_fits t kept q one = omega (arith, (within_of t kept.tiling q one).bottom, kept.height_fits)

-- ---- the node below a square

-- that the square's left column at its bottom lies over a square of that level
abbrev under : Square → Square → Bool
under q r = nat_eq r.y (q.y + q.s) && covers_column q.x r

under_level : (q r : Square) → under q r ≡ true → r.y ≡ q.y + q.s
under_level q r e = grind (arith, nat_tests)

module _ (t : Tiling) (tiling : IsTiling t) (q : Square) (one : IsOneOf q t.squares) where
  -- at the bottom of the tiling there is none
  pub at_bottom : q.y + q.s ≡ t.height → length (square_groups t.squares) ≡ node_below (square_groups t.squares) q
  at_bottom low = cases (has_node_below t tiling q one).found
    where
      none : count_by (under q) (row_of (square_groups t.squares)) ≡ 0
      none = ap (count_by (under q)) (row_is t tiling)
          ∙ none_counted (under q) t.squares (λ r h e. omega (arith, under_level q r e, (within_of t tiling r h).bottom, side_of t tiling r h, low))

      cases : ((node_below (square_groups t.squares) q < length (square_groups t.squares))
          × (0 < count_by (under q) (slice_index_or (square_groups t.squares) (node_below (square_groups t.squares) q) [])))
          ⊎ ((node_below (square_groups t.squares) q ≡ length (square_groups t.squares))
          × (count_by (under q) (row_of (square_groups t.squares)) ≡ 0)) → length (square_groups t.squares) ≡ node_below (square_groups t.squares) q
      cases (inl h) = absurd (omega (arith, h.1, count_at (under q) (square_groups t.squares) (node_below (square_groups t.squares) q), none))
      cases (inr h) = sym h.0

  -- above it, it is the group of the square that a search finds
  pub record IsFound (k : ℕ) : Type 0 where
    pub some : 0 < k
    pub is : slice_index (group_numbers t.squares) (k - 1) ≡ node_below (square_groups t.squares) q

  -- above the bottom, the square before the place that the search finds has the number of the node below
  pub node_below_found : (k : ℕ) → q.y + q.s ≢ t.height → k ≤ length t.squares
      → IsPartitionPoint (λ r. is_no_later q.x (q.y + q.s) r ≡ true) (λ r. is_no_later q.x (q.y + q.s) r ≡ false) t.squares k → IsFound k
  node_below_found k high within parts = from (at_place t.squares below.0 below.1)
    where
      inside : q.y + q.s < t.height
      inside = let w = (within_of t tiling q one).bottom in omega arith

      below : (r : Square) × IsOneOf r t.squares × (covers q.x (q.y + q.s) r ≡ true)
      below = a_square_over_each_cell t tiling q.x (q.y + q.s) (let w = (within_of t tiling q one).right in omega (arith, side_of t tiling q one)) inside

      level : (below.0).y ≡ q.y + q.s
      level = square_below_begins_at_the_bottom t tiling q below.0 q.x one (omega arith) (omega (arith, side_of t tiling q one)) below.1 below.2

      left : (below.0).x ≤ q.x
      left = (over_from q.x (q.y + q.s) below.0 below.2).left

      right : q.x < (below.0).x + (below.0).s
      right = (over_from q.x (q.y + q.s) below.0 below.2).right

      tests : under q below.0 ≡ true
      tests = below_from q below.0 level left right

      from : (m : ℕ) × (m < length t.squares) × ((d : Square) → slice_index_or t.squares m d ≡ below.0) → IsFound k
      from (m, there, at) = record { some = omega (arith, last); is = ap (slice_index (group_numbers t.squares)) (omega (arith, last)) ∙ number }
        where
          -- a later one that comes no later than the cell would lie over it too
          no_later_one : (j : ℕ) → m < j → j < length t.squares → is_no_later q.x (q.y + q.s) (slice_index_or t.squares j q) ≡ true → ⊥
          no_later_one j up end e =
              by (no_later_to q.x (q.y + q.s) (slice_index_or t.squares j q) e) (before_cases below.0 (slice_index_or t.squares j q) before)
            where
              before : comes_before below.0 (slice_index_or t.squares j q) ≡ true
              before = subst (λ (r : Square). comes_before r (slice_index_or t.squares j q) ≡ true) (at q) (later_place t.squares tiling.ordered m j q up end)

              by : ((slice_index_or t.squares j q).y < q.y + q.s) ⊎ (((slice_index_or t.squares j q).y ≡ q.y + q.s) × ((slice_index_or t.squares j q).x ≤ q.x))
                  → ((below.0).y < (slice_index_or t.squares j q).y)
                  ⊎ (((below.0).y ≡ (slice_index_or t.squares j q).y) × ((below.0).x < (slice_index_or t.squares j q).x)) → ⊥
              by (inl a) (inl b) = omega (arith, level)
              by (inl a) (inr b) = omega (arith, level, b.0)
              by (inr a) (inl b) = omega (arith, level, a.0)
              by (inr a) (inr b) = omega (arith, b.1, ap (λ (r : Square). r.x) same)
                where
                  same : below.0 ≡ slice_index_or t.squares j q
                  same = one_there t tiling below.0 (slice_index_or t.squares j q) (slice_index_or t.squares j q).x (q.y + q.s) below.1
                      (covers_from (slice_index_or t.squares j q).x (q.y + q.s) below.0 (omega (arith, b.1)) (omega (arith, a.1, right))
                      (omega (arith, level)) (omega (arith, level, side_of t tiling below.0 below.1)))
                      (one_at t.squares j q end)
                      (covers_from (slice_index_or t.squares j q).x (q.y + q.s) (slice_index_or t.squares j q) (omega arith)
                      (omega (arith, side_of t tiling (slice_index_or t.squares j q) (one_at t.squares j q end))) (omega (arith, a.0))
                      (omega (arith, a.0, side_of t tiling (slice_index_or t.squares j q) (one_at t.squares j q end))))

          last : m + 1 ≡ k
          last = by (cases_lt m k)
            where
              by : (m < k) ⊎ (k ≤ m) → m + 1 ≡ k
              by (inr late) = absurd (both_ways (is_no_later q.x (q.y + q.s) (slice_index_or t.squares m q))
                  (parts.1 m q late there) (ap (is_no_later q.x (q.y + q.s)) (at q) ∙ no_later_from q.x (q.y + q.s) below.0 level left))
              by (inl soon) = more (cases_lt (m + 1) k)
                where
                  more : (m + 1 < k) ⊎ (k ≤ m + 1) → m + 1 ≡ k
                  more (inl h) = absurd (no_later_one (m + 1) (omega arith) (omega arith) (parts.0 (m + 1) q (omega arith) h))
                  more (inr h) = omega arith

          h : HasNumber 0 (square_groups t.squares) m q
          h = has_number 0 (square_groups t.squares) m q (omega (arith, ap length (row_is t tiling)))

          g : HasGroup (under q) (square_groups t.squares) (node_below (square_groups t.squares) q)
          g = has_node_below t tiling q one

          its_group : IsOneOf below.0 (slice_index_or (square_groups t.squares) h.place [])
          its_group = subst (λ (r : Square). IsOneOf r (slice_index_or (square_groups t.squares) h.place []))
              (ap (λ (l : List Square). slice_index_or l m q) (row_is t tiling) ∙ at q) h.is

          same_node : nat_eq (node_below (square_groups t.squares) q) h.place ≡ true
          same_node = by (cases_Bool (nat_eq (node_below (square_groups t.squares) q) h.place))
            where
              by : (nat_eq (node_below (square_groups t.squares) q) h.place ≡ true)
                  ⊎ (nat_eq (node_below (square_groups t.squares) q) h.place ≡ false) → nat_eq (node_below (square_groups t.squares) q) h.place ≡ true
              by (inl e) = e
              by (inr e) = absurd (omega (
                arith,
                one_counted (under q) (slice_index_or (square_groups t.squares) h.place []) below.0 its_group tests,
                g.counts h.place h.below,
                ap (λ (b : Bool). cond {A = ℕ} b 1 0) e,
              ))

          number : slice_index (group_numbers t.squares) m ≡ node_below (square_groups t.squares) q
          number = h.number ∙ omega (arith, eqb-true (node_below (square_groups t.squares) q) h.place same_node)

-- ---- the wires

module _ (t : Tiling) (tiling : IsTiling t) where
  -- the wires of the Smith diagram, square by square, lead from the number of its group to that of the node below
  pub wires_lead_from_groups_to_nodes_below : (smith_diagram t).wires ≡ wires_by (node_below (square_groups t.squares)) (group_numbers t.squares) t.squares
  wires_lead_from_groups_to_nodes_below = wires_by-groups (node_below (square_groups t.squares)) 0 (square_groups t.squares)
      ∙ ap (wires_by (node_below (square_groups t.squares)) (group_numbers t.squares)) (row_is t tiling)

  -- there is a number for each square
  pub numbers_many : length (group_numbers t.squares) ≡ length t.squares
  numbers_many = group_numbers_are_as_many_as_squares 0 (square_groups t.squares) ∙ ap length (row_is t tiling)

  -- there is a wire for each square
  pub diagram_has_a_wire_for_each_square : length (smith_diagram t).wires ≡ length t.squares
  diagram_has_a_wire_for_each_square = ap length wires_lead_from_groups_to_nodes_below
      ∙ wires_by-length (node_below (square_groups t.squares)) (group_numbers t.squares) t.squares numbers_many

  -- the wire of the square at a place leads from its group to the node below it
  pub wire_leads_from_the_group_to_the_node_below : (i : ℕ) (q : Square) (d : ℕ × ℕ) → i < length t.squares
      → slice_index_or (smith_diagram t).wires i d ≡ (
        slice_index (group_numbers t.squares) i,
        node_below (square_groups t.squares) (slice_index_or t.squares i q),
      )
  wire_leads_from_the_group_to_the_node_below i q d h = ap (λ (ws : List (ℕ × ℕ)). slice_index_or ws i d) wires_lead_from_groups_to_nodes_below
      ∙ wires_by-at (node_below (square_groups t.squares)) (group_numbers t.squares) t.squares i d q (omega (arith, numbers_many)) h

  -- two ends of a wire: two different nodes
  pub record HasEnds (from to : ℕ) : Type 0 where
    pub from_node : from < length (square_groups t.squares) + 1
    pub to_node : to < length (square_groups t.squares) + 1
    pub differ : from ≢ to

  -- the ends of the wire of a square are two nodes
  pub wire_of_square_ends_at_nodes : (i : ℕ) (q : Square) → i < length t.squares
      → HasEnds (slice_index (group_numbers t.squares) i) (node_below (square_groups t.squares) (slice_index_or t.squares i q))
  wire_of_square_ends_at_nodes i q h = record { from_node = here.0; to_node = here.1; differ = here.2 }
    where
      here : (slice_index (group_numbers t.squares) i < length (square_groups t.squares) + 1)
          × (node_below (square_groups t.squares) (slice_index_or t.squares i q) < length (square_groups t.squares) + 1)
          × (slice_index (group_numbers t.squares) i ≢ node_below (square_groups t.squares) (slice_index_or t.squares i q))
      here = subst (λ (w : ℕ × ℕ). (w.0 < length (square_groups t.squares) + 1) × (w.1 < length (square_groups t.squares) + 1) × (w.0 ≢ w.1))
          (wire_leads_from_the_group_to_the_node_below i q (0, 0) h)
          ((the_one_flow t tiling).0.ends i (0, 0) (omega (arith, diagram_has_a_wire_for_each_square)))

  -- a further wire
  pub wires_with_that_of_one_square_more : (i : ℕ) (q : Square) (wires : List (ℕ × ℕ)) → i < length t.squares → wires ≡ take i (smith_diagram t).wires
      → wires ++ (slice_index (group_numbers t.squares) i, node_below (square_groups t.squares) (slice_index_or t.squares i q)) ∷ []
      ≡ take (i + 1) (smith_diagram t).wires
  wires_with_that_of_one_square_more i q wires h e = (λ k. e k ++ sym (wire_leads_from_the_group_to_the_node_below i q (0, 0) h) k ∷ [])
      ∙ sym (take_more (smith_diagram t).wires i (0, 0) (omega (arith, diagram_has_a_wire_for_each_square)))
