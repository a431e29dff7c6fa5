-- The flow of a signed word's net: its wires are those of the Smith diagram, renumbered and reversed, so the signed sides are its one flow.
use Rattle.bk_laws.proofs.ListPlaces.{get_some}
use Rattle.bk_laws.proofs.NumberTests.{eq_test-cases}
use Rattle.bk_layout.proofs.Lists.NumberedLists.{numbers_get, numbers_index, numbers_length, reversed_get, reversed_length}
use Rattle.bk_layout.proofs.Lists.SignedTotals.{finish_of, signed_total, start_of, with_sign}
use Rattle.bk_layout.proofs.Lists.Totals.{renumbered, total_from, total_same}
use Rattle.bk_layout.proofs.TilingLayouts.NodesFit.{levels_of}
use Rattle.bk_layout.proofs.TilingLayouts.TilingNet.{net_is, numbers_map}
use Rattle.bk_layout.proofs.TilingLayouts.TilingSquares.{in_square, node_at}
use Rattle.bk_layout.specs.Layout.{net_of_layout}
use Rattle.bk_layout.specs.SignedFlow.{SignedSidesAreTheOneFlow, signed_flow, signed_side, upper_end}
use Rattle.bk_layout.specs.SignedWord.{IsSignedWordOf, reversed_net}
use Rattle.bk_layout.specs.TilingLayout.{layout_of, node_above}
use Rattle.bk_net.proofs.SidesFlow.{sides_are_the_one_flow}
use Rattle.bk_net.specs.Diagram.{node_below, node_levels}
use Rattle.bk_net.specs.Flow.{IsFlow, outflow, potential}
use Rattle.bk_net.specs.Net.{IsNet, Net}
use Rattle.bk_net.specs.SmithFlow.{smith_flow}
use Rattle.bk_tiling.proofs.TilingLaws.{wide_enough}
use Rattle.bk_tiling.specs.SquareGroups.{square_groups}
use Rattle.bk_tiling.specs.Tiling.{IsTiling, Tiling, square_of}
use Rattle.bk_tiling.specs.declared.Square.{Square}
use Rattle.bk_word.specs.Play.{numbers_from}
use Rattle.bk_word.specs.Word.{Word}
use Rattle.bk_word_net.proofs.WordFlows.NoLoose.{a_word_has_one_flow, a_word_net_has_no_loose}
use Rattle.bk_word_net.specs.Renumbering.{IsRenumbering}
use Rattle.bk_word_net.specs.WordNet.{net_of_word}
use Rattle.std.proofs.Common.{Bool, List, Some, ap, arith, cond, false, inl, inr, length, map, refl, slice_get, slice_index_or, subst, sym, true, ℕ, ◌+◌}
use Rattle.std.proofs.Common.{◌-◌, ◌<◌, ◌==◌, ◌∙◌, ◌≡◌, ◌≤◌, ◌⊎◌}
use Rattle.std.proofs.lemmas.Bool.{cases_lt}
use Rattle.std.proofs.lemmas.Int.{ints}
use Rattle.std.proofs.lemmas.Option.{get_or_from_slice_get, same_Some, slice_get_within}
use Rattle.std.specs.Prelude.{option_map, pos, ℤ, ◌-ℤ◌}

module _ (t : Tiling) (tiling : IsTiling t) (w : Word) (s : IsSignedWordOf t w) where
  abbrev side_at : ℕ → ℕ
  side_at k = (square_of t k).s

  abbrev pair_at : ℕ → ℕ × ℕ
  pair_at k = (node_above (square_groups t.squares) (square_of t k), node_below (square_groups t.squares) (square_of t k))

  abbrev wire_at : ℕ → ℕ × ℕ
  wire_at k = slice_index_or (net_of_word w).wires k (0, 0)

  abbrev reversed_at : ℕ → Bool
  reversed_at k = s.is_reversed (s.square k)

  -- the ends of the tiling's own wire
  abbrev from_at : ℕ → ℕ
  from_at k = start_of (reversed_at k) (wire_at k)

  abbrev to_at : ℕ → ℕ
  to_at k = finish_of (reversed_at k) (wire_at k)

  -- the word's net is the Smith diagram, renumbered, with the wires of reversed squares reversed
  pub net_of : IsRenumbering (net_of_word w) (reversed_net s.is_reversed (net_of_layout (layout_of t))) s.node s.square
  net_of = subst (λ (n : Net). IsRenumbering (net_of_word w) (reversed_net s.is_reversed n) s.node s.square) (sym (net_is t tiling)) s.net

  -- the word's net has a wire for each square of the tiling
  pub as_many : length (net_of_word w).wires ≡ length t.squares
  as_many = net_of.wires ∙ reversed_length s.is_reversed 0 (map pair_at (numbers_from 0 (length t.squares)))
      ∙ numbers_length {A = ℕ × ℕ} pair_at 0 (length t.squares)

  -- the square that stands for a wire is one of the tiling
  pub square_below : (k : ℕ) → k < length t.squares → s.square k < length t.squares
  square_below k h = omega (arith, as_many, net_of.wire_apart.below k (omega (arith, as_many)))

  -- no two wires are one square of the tiling
  pub square_apart : (j k : ℕ) → j < length t.squares → k < length t.squares → s.square j ≡ s.square k → j ≡ k
  square_apart j k h l e = net_of.wire_apart.apart j k (omega (arith, as_many)) (omega (arith, as_many)) e

  -- a wire of the word's net, led back where it is reversed, is that of the square which it stands for
  reversed_pair : (k : ℕ) → k < length t.squares
      → cond (reversed_at k) ((pair_at (s.square k)).1, (pair_at (s.square k)).0) (pair_at (s.square k)) ≡ (s.node (wire_at k).0, s.node (wire_at k).1)
  reversed_pair k h = from (get_some (net_of_word w).wires k (omega (arith, as_many)))
    where
      from : (x : ℕ × ℕ) × (slice_get (net_of_word w).wires k ≡ Some x)
          → cond (reversed_at k) ((pair_at (s.square k)).1, (pair_at (s.square k)).0) (pair_at (s.square k)) ≡ (s.node (wire_at k).0, s.node (wire_at k).1)
      from (x, e) = same_Some (cond (reversed_at k) ((pair_at (s.square k)).1, (pair_at (s.square k)).0) (pair_at (s.square k))) (s.node x.0, s.node x.1)
          (sym (reversed_get s.is_reversed pair_at 0 (length t.squares) (s.square k) (square_below k h)
          ∙ ap (λ (i : ℕ). Some (cond {A = ℕ × ℕ} (s.is_reversed i) ((pair_at i).1, (pair_at i).0) (pair_at i))) (omega arith))
          ∙ net_of.each k (omega (arith, as_many)) ∙ ap (option_map (λ w. (s.node w.0, s.node w.1))) e)
          ∙ ap (λ (v : ℕ × ℕ). (s.node v.0, s.node v.1)) (sym (get_or_from_slice_get (net_of_word w).wires k x (0, 0) e))

  reversed_back : (b : Bool) (p : ℕ × ℕ) (x : ℕ × ℕ) → cond {A = ℕ × ℕ} b (p.1, p.0) p ≡ (s.node x.0, s.node x.1)
      → (p.0 ≡ s.node (start_of b x)) × (p.1 ≡ s.node (finish_of b x))
  reversed_back true p x e = (ap (λ (z : ℕ × ℕ). z.1) e, ap (λ (z : ℕ × ℕ). z.0) e)
  reversed_back false p x e = (ap (λ (z : ℕ × ℕ). z.0) e, ap (λ (z : ℕ × ℕ). z.1) e)

  -- the ends of a wire of the word's net are those of the square's own, renumbered
  pub pair_is : (k : ℕ) → k < length t.squares → ((pair_at (s.square k)).0 ≡ s.node (from_at k)) × ((pair_at (s.square k)).1 ≡ s.node (to_at k))
  pair_is k h = reversed_back (reversed_at k) (pair_at (s.square k)) (wire_at k) (reversed_pair k h)

  -- the word's net is a net
  pub word_net : IsNet (net_of_word w)
  word_net = (a_word_net_has_no_loose w s.complete).0

  -- both ends of a wire are nodes of the word's net
  pub ends_below : (k : ℕ) → k < length t.squares → ((wire_at k).0 < (net_of_word w).nodes) × ((wire_at k).1 < (net_of_word w).nodes)
  ends_below k h = let e = word_net.ends k (0, 0) (omega (arith, as_many)) in (e.0, e.1)

  -- both ends between which a wire's square lies are nodes of the word's net
  pub own_ends_below : (k : ℕ) → k < length t.squares → (from_at k < (net_of_word w).nodes) × (to_at k < (net_of_word w).nodes)
  own_ends_below k h = cases (reversed_at k) (ends_below k h)
    where
      cases : (b : Bool) → ((wire_at k).0 < (net_of_word w).nodes) × ((wire_at k).1 < (net_of_word w).nodes)
          → (start_of b (wire_at k) < (net_of_word w).nodes) × (finish_of b (wire_at k) < (net_of_word w).nodes)
      cases true (l, m) = (m, l)
      cases false (l, m) = (l, m)

  same_test : (a v : ℕ) → a < (net_of_word w).nodes → v < (net_of_word w).nodes → (a == v) ≡ (s.node a == s.node v)
  same_test a v h k = cases (eq_test-cases a v) (eq_test-cases (s.node a) (s.node v))
    where
      cases : ((a ≡ v) × ((a == v) ≡ true)) ⊎ ((a ≡ v → ⊥) × ((a == v) ≡ false)) → ((s.node a ≡ s.node v) × ((s.node a == s.node v) ≡ true))
          ⊎ ((s.node a ≡ s.node v → ⊥) × ((s.node a == s.node v) ≡ false)) → (a == v) ≡ (s.node a == s.node v)
      cases (inl d) (inl e) = d.1 ∙ sym e.1
      cases (inl d) (inr e) = absurd (e.0 (ap s.node d.0))
      cases (inr d) (inl e) = absurd (d.0 (net_of.node_apart.apart a v h k e.0))
      cases (inr d) (inr e) = d.1 ∙ sym e.1

  -- both sums of a node
  sum_is : (v : ℕ) → v < (net_of_word w).nodes → (end own : ℕ → ℕ) → ((k : ℕ) → k < length t.squares → end k < (net_of_word w).nodes)
      → ((k : ℕ) → k < length t.squares → own (s.square k) ≡ s.node (end k))
      → total_from (λ k. cond (end k == v) (side_at (s.square k)) 0) 0 (length t.squares)
      ≡ total_from (λ k. cond (own k == s.node v) (side_at k) 0) 0 (length t.squares)
  sum_is v h end own below same = total_same (λ k. cond (end k == v) (side_at (s.square k)) 0)
      (λ k. cond (own (s.square k) == s.node v) (side_at (s.square k)) 0) 0 (length t.squares)
      (λ k lo hi. ap (λ (b : Bool). cond b (side_at (s.square k)) 0) (same_test (end k) v (below k (omega arith)) h
      ∙ ap (λ (u : ℕ). u == s.node v) (sym (same k (omega arith)))))
      ∙ renumbered (length t.squares) s.square square_below square_apart (λ k. cond (own k == s.node v) (side_at k) 0)

  -- what flows out of a node less what flows in is the same by the wires of the word and by those of the tiling
  pub flows : (v : ℕ) → v < (net_of_word w).nodes
      → outflow (net_of_word w).wires (map (λ k. signed_side t s.is_reversed (s.square k)) (numbers_from 0 (length t.squares))) v
      ≡ outflow (map pair_at (numbers_from 0 (length t.squares))) (map (λ k. pos (side_at k)) (numbers_from 0 (length t.squares))) (s.node v)
  flows v h = left ∙ (λ i. pos (sum_is v h from_at (λ k. (pair_at k).0) (λ k l. (own_ends_below k l).0) (λ k l. (pair_is k l).0) i) -ℤ pos
      (sum_is v h to_at (λ k. (pair_at k).1) (λ k l. (own_ends_below k l).1) (λ k l. (pair_is k l).1) i)) ∙ sym right
    where
      left : outflow (net_of_word w).wires (map (λ k. signed_side t s.is_reversed (s.square k)) (numbers_from 0 (length t.squares))) v
          ≡ pos (total_from (λ k. cond (from_at k == v) (side_at (s.square k)) 0) 0 (length t.squares)) -ℤ pos
          (total_from (λ k. cond (to_at k == v) (side_at (s.square k)) 0) 0 (length t.squares))
      left = subst (λ (n : ℕ). outflow (net_of_word w).wires (map (λ k. signed_side t s.is_reversed (s.square k)) (numbers_from 0 n)) v
          ≡ pos (total_from (λ k. cond (from_at k == v) (side_at (s.square k)) 0) 0 n) -ℤ pos
          (total_from (λ k. cond (to_at k == v) (side_at (s.square k)) 0) 0 n))
          as_many (signed_total (net_of_word w).wires reversed_at (λ k. side_at (s.square k)) wire_at 0 v
          (λ k x e. ap (λ (i : ℕ). wire_at i) (from_zero k) ∙ get_or_from_slice_get (net_of_word w).wires k x (0, 0) e))
        where
          from_zero : (k : ℕ) → 0 + k ≡ k
          from_zero k = omega arith

      right : outflow (map pair_at (numbers_from 0 (length t.squares))) (map (λ k. pos (side_at k)) (numbers_from 0 (length t.squares))) (s.node v)
          ≡ pos (total_from (λ k. cond ((pair_at k).0 == s.node v) (side_at k) 0) 0 (length t.squares)) -ℤ pos
          (total_from (λ k. cond ((pair_at k).1 == s.node v) (side_at k) 0) 0 (length t.squares))
      right = subst (λ (n : ℕ). outflow (map pair_at (numbers_from 0 (length t.squares))) (map (λ k. pos (side_at k)) (numbers_from 0 n))
          (s.node v) ≡ pos (total_from (λ k. cond ((pair_at k).0 == s.node v) (side_at k) 0) 0 n) -ℤ pos
          (total_from (λ k. cond ((pair_at k).1 == s.node v) (side_at k) 0) 0 n))
          (numbers_length {A = ℕ × ℕ} pair_at 0 (length t.squares))
          (signed_total (map pair_at (numbers_from 0 (length t.squares))) (λ k. false) side_at pair_at 0 (s.node v)
          (λ k x e. same_Some (pair_at (0 + k)) x (sym (numbers_get {A = ℕ × ℕ} pair_at 0 (length t.squares) k (few k x e)) ∙ e)))
        where
          few : (k : ℕ) (x : ℕ × ℕ) → slice_get (map pair_at (numbers_from 0 (length t.squares))) k ≡ Some x → k < length t.squares
          few k x e = omega (
            arith,
            slice_get_within (map pair_at (numbers_from 0 (length t.squares))) k x e,
            numbers_length {A = ℕ × ℕ} pair_at 0 (length t.squares),
          )

  -- the flow of the layout's net
  sides_are : map (λ q. pos q.s) t.squares ≡ map (λ k. pos (side_at k)) (numbers_from 0 (length t.squares))
  sides_are = sym (numbers_map {A = Square} {B = ℤ} (λ k. pos (side_at k)) (λ q. pos q.s) 0 t.squares
      (λ k q e. ap (λ (i : ℕ). pos (side_at i)) (from_zero k)
      ∙ ap (λ (q : Square). pos q.s) (get_or_from_slice_get t.squares k q (record { x = 0; y = 0; s = 0 }) e)))
    where
      from_zero : (k : ℕ) → 0 + k ≡ k
      from_zero k = omega arith

  smith : IsFlow (net_of_layout (layout_of t)) (smith_flow t)
  smith = subst (λ (n : Net). IsFlow n (smith_flow t)) (sym (net_is t tiling)) (sides_are_the_one_flow t tiling).2.flow

  outflow_is : (v : ℕ) → v < (net_of_word w).nodes
      → outflow (net_of_word w).wires (map (λ k. signed_side t s.is_reversed (s.square k)) (numbers_from 0 (length t.squares))) v
      ≡ outflow (map pair_at (numbers_from 0 (length t.squares))) (map (λ q. pos q.s) t.squares) (s.node v)
  outflow_is v h = flows v h ∙ ap (λ (cs : List ℤ). outflow (map pair_at (numbers_from 0 (length t.squares))) cs (s.node v)) (sym sides_are)

  -- the potential of a node is the height that is left under its level
  pub potential_is : (v : ℕ) → v < (net_of_word w).nodes → potential (signed_flow t w s) v ≡ pos t.height -ℤ pos (slice_index_or (node_levels t) (s.node v) 0)
  potential_is v h = numbers_index {A = ℤ} (λ v. pos t.height -ℤ pos (slice_index_or (node_levels t) (s.node v) 0)) 0 (net_of_word w).nodes
      v (pos 0) h ∙ ap (λ (v : ℕ). pos t.height -ℤ pos (slice_index_or (node_levels t) (s.node v) 0)) (omega arith)

  level_from : (k : ℕ) → k < length t.squares → potential (signed_flow t w s) (from_at k) ≡ pos t.height -ℤ pos (square_of t (s.square k)).y
  level_from k h = potential_is (from_at k) (own_ends_below k h).0 ∙ ap (λ (l : ℕ). pos t.height -ℤ pos l)
      (ap (λ (v : ℕ). slice_index_or (node_levels t) v 0) (sym (pair_is k h).0)
      ∙ (levels_of t tiling (square_of t (s.square k)) (in_square t tiling (s.square k) (square_below k h))).0)

  level_to : (k : ℕ) → k < length t.squares → potential (signed_flow t w s) (to_at k)
      ≡ pos t.height -ℤ pos ((square_of t (s.square k)).y + (square_of t (s.square k)).s)
  level_to k h = potential_is (to_at k) (own_ends_below k h).1 ∙ ap (λ (l : ℕ). pos t.height -ℤ pos l)
      (ap (λ (v : ℕ). slice_index_or (node_levels t) v 0) (sym (pair_is k h).1)
      ∙ (levels_of t tiling (square_of t (s.square k)) (in_square t tiling (s.square k) (square_below k h))).1)

  -- the current is the difference of the potentials, both ways
  drops : (k : ℕ) → k < length t.squares → signed_side t s.is_reversed (s.square k)
      ≡ potential (signed_flow t w s) (wire_at k).0 -ℤ potential (signed_flow t w s) (wire_at k).1
  drops k h = cases (reversed_at k) (level_from k h) (level_to k h)
    where
      cases : (b : Bool) → potential (signed_flow t w s) (start_of b (wire_at k)) ≡ pos t.height -ℤ pos (square_of t (s.square k)).y
          → potential (signed_flow t w s) (finish_of b (wire_at k)) ≡ pos t.height -ℤ pos ((square_of t (s.square k)).y + (square_of t (s.square k)).s)
          → with_sign b (square_of t (s.square k)).s ≡ potential (signed_flow t w s) (wire_at k).0 -ℤ potential (signed_flow t w s) (wire_at k).1
      cases true from to = omega (arith, ints, from, to)
      cases false from to = omega (arith, ints, from, to)

  flow : IsFlow (net_of_word w) (signed_flow t w s)
  flow = record {
    nodes = numbers_length {A = ℤ} (λ v. pos t.height -ℤ pos (slice_index_or (node_levels t) (s.node v) 0)) 0 (net_of_word w).nodes;
    differences = ap (λ (n : ℕ). map (λ k. signed_side t s.is_reversed (s.square k)) (numbers_from 0 n)) (sym (as_many))
        ∙ numbers_map {A = ℕ × ℕ} {B = ℤ} (λ k. signed_side t s.is_reversed (s.square k))
        (λ w1. potential (signed_flow t w s) w1.0 -ℤ potential (signed_flow t w s) w1.1) 0 (net_of_word w).wires each;
    first = outflow_is 0 (omega (arith, (word_net).some))
        ∙ ap (outflow (map pair_at (numbers_from 0 (length t.squares))) (map (λ q. pos q.s) t.squares)) net_of.first ∙ smith.first;
    between = between;
  }
    where
      each : (k : ℕ) (x : ℕ × ℕ) → slice_get (net_of_word w).wires k ≡ Some x
          → signed_side t s.is_reversed (s.square (0 + k)) ≡ potential (signed_flow t w s) x.0 -ℤ potential (signed_flow t w s) x.1
      each k x e = ap (λ (i : ℕ). signed_side t s.is_reversed (s.square i)) (omega arith)
          ∙ drops k (omega (arith, as_many, slice_get_within (net_of_word w).wires k x e))
          ∙ ap (λ (y : ℕ × ℕ). potential (signed_flow t w s) y.0 -ℤ potential (signed_flow t w s) y.1)
          (get_or_from_slice_get (net_of_word w).wires k x (0, 0) e)

      between : (v : ℕ) → 0 < v → v + 1 < (net_of_word w).nodes
          → outflow (net_of_word w).wires (map (λ k. signed_side t s.is_reversed (s.square k)) (numbers_from 0 (length t.squares))) v ≡ pos 0
      between v a b = outflow_is v (omega arith)
          ∙ smith.between (s.node v) (above (cases_lt 0 (s.node v))) (below (cases_lt (s.node v + 1) (net_of_word w).nodes))
        where
          above : (0 < s.node v) ⊎ (s.node v ≤ 0) → 0 < s.node v
          above (inl h) = h
          above (inr h) = absurd (omega (
            arith,
            a,
            net_of.node_apart.apart v 0 (omega arith) (omega arith) (omega (
              arith,
              h,
              net_of.first,
            )),
          ))

          below : (s.node v + 1 < (net_of_word w).nodes) ⊎ ((net_of_word w).nodes ≤ s.node v + 1) → s.node v + 1 < length (square_groups t.squares) + 1
          below (inl h) = omega (arith, h, net_of.nodes)
          below (inr h) = absurd (omega (
            arith,
            b,
            net_of.node_apart.apart v ((net_of_word w).nodes - 1) (omega arith) (omega arith)
                (omega (
                  arith,
                  h,
                  b,
                  net_of.node_apart.below v (omega arith),
                  net_of.last ((net_of_word w).nodes - 1) (omega
                      arith),
                )),
          ))

  top_level : slice_index_or (node_levels t) 0 0 ≡ 0
  top_level = let first = node_at t tiling 0 (omega arith) in first.is_level ∙ (first.top refl).0

  -- at the first node it is the whole height
  pub top_potential : potential (signed_flow t w s) 0 ≡ pos t.height
  top_potential = potential_is 0 (omega (arith, (word_net).some))
      ∙ ap (λ (v : ℕ). pos t.height -ℤ pos (slice_index_or (node_levels t) v 0)) net_of.first ∙ omega (arith, ints, top_level)

  -- a square's level is the drop from there to the node from which it hangs
  pub hangs_by_flow : (k : ℕ) → k < length t.squares
      → pos (square_of t (s.square k)).y ≡ potential (signed_flow t w s) 0 -ℤ potential (signed_flow t w s) (upper_end w (reversed_at k) k)
  hangs_by_flow k h = omega (arith, ints, top_potential, level_from k h)

-- the signed sides, with the width as the total, are the one flow of the word's net
pub signed_sides_are_the_one_flow : SignedSidesAreTheOneFlow
signed_sides_are_the_one_flow t w tiling s =
    a_word_has_one_flow w (signed_flow t w s) s.complete (flow t tiling w s) (omega (arith, ints, wide_enough t tiling))
