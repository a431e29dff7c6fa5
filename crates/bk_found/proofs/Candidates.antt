-- The candidate of a signed word of a tiling in lowest terms is this tiling.
use Rattle.std.specs.List.{AllByRecursion}
use Rattle.std.specs.Prelude.{nat_abs, neg_ℤ, pos, ℤ, ◌-ℤ◌, ◌≢◌, ◌≤ℤ◌}
use Rattle.std.proofs.Common.{Bool, List, Some, [], ap, arith, cond, false, inl, inr, length, map, refl, slice_get, slice_index_or, subst, suc, sym}
use Rattle.std.proofs.Common.{true, zero, ℕ, ◌+◌, ◌<◌, ◌∙◌, ◌≡◌, ◌⊎◌}
use Rattle.std.proofs.lemmas.Int.{ints}
use Rattle.std.proofs.lemmas.Option.{slice_get-get_or}
use Rattle.bk_laws.proofs.Magnitudes.{signed-nonzero}
use Rattle.bk_tiling.proofs.TilingLaws.{side_of}
use Rattle.bk_tiling.specs.CodeOrder.{in_code_order}
use Rattle.bk_tiling.specs.Scale.{IsPrimitiveTiling}
use Rattle.bk_tiling.specs.SquareGroups.{square_groups}
use Rattle.bk_tiling.specs.Tiling.{IsTiling, Tiles, Tiling, square_of, whole}
use Rattle.bk_tiling.specs.declared.Square.{Square}
use Rattle.bk_net.specs.Diagram.{node_levels}
use Rattle.bk_net.specs.Flow.{Flow, IsFlow, IsOneFlow, IsPrimitive, potential}
use Rattle.bk_net.specs.Net.{HasNoLoose, IsNet, last_node}
use Rattle.bk_flow.proofs.OnePrimitive.{one_primitive}
use Rattle.bk_word.specs.Play.{numbers_from}
use Rattle.bk_word.specs.Word.{Word}
use Rattle.bk_word_net.proofs.WordFlows.NoLoose.{a_word_has_one_flow, a_word_net_has_no_loose}
use Rattle.bk_word_net.specs.WordNet.{net_of_word}
use Rattle.bk_layout.proofs.TilingLayouts.TilingSquares.{in_square, node_at}
use Rattle.bk_layout.proofs.TilingLayouts.GroupNodes.{IsNode}
use Rattle.bk_layout.specs.LineNumbers.{square_lines}
use Rattle.bk_layout.proofs.FreeCuts.CutByNodes.{as_many_sides}
use Rattle.bk_found.proofs.OtherOrder.{other, other_in_order, other_tiles}
use Rattle.bk_found.proofs.PlacedEdges.{StandRight, edges_are, place_is}
use Rattle.bk_found.proofs.PrimitiveFlow.{same_levels, signed_flow_is_primitive}
use Rattle.bk_found.specs.Candidate.{IsCandidateOf, TheCandidateIsTheTiling, candidate_square, candidate_squares, level_in, line_place}
use Rattle.bk_found.specs.Candidate.{placed_square, right_edges, right_edges_from}
use Rattle.bk_layout.proofs.FreeCuts.KnownLines.{known_lines}
use Rattle.bk_layout.proofs.SignedWords.SignedFlows.{ends_below, hangs_by_flow, potential_is, signed_sides_are_the_one_flow, square_apart, square_below}
use Rattle.bk_layout.proofs.SignedWords.SignedFlows.{top_potential}
use Rattle.bk_layout.proofs.Lists.NumberedLists.{numbers_all, numbers_each, numbers_index, numbers_length}
use Rattle.bk_layout.specs.SignedFlow.{signed_flow, signed_side, upper_end}
use Rattle.bk_layout.specs.SignedWord.{IsSignedWordOf, left_edge, line_column, right_edge}

-- a square placed by its edges and levels
placed : (is_reversed : Bool) (q : Square) (left right above below current : ℤ) → 0 < q.s → left ≡ pos (cond is_reversed (q.x + q.s) q.x)
    → right ≡ pos (cond is_reversed q.x (q.x + q.s)) → cond is_reversed below above ≡ pos q.y
    → current ≡ cond is_reversed (neg_ℤ (pos q.s)) (pos q.s) → placed_square left right above below current ≡ q
placed false q left right above below current some l r y c = ap (placed_square left right above below) c
    ∙ (λ i. record { x = nat_abs (l i); y = nat_abs (y i); s = q.s })
placed true q left right above below current some l r y c = reversed_side q.s refl some
  where
    reversed_side : (s : ℕ) → q.s ≡ s → 0 < q.s → placed_square left right above below current ≡ q
    reversed_side zero e some = absurd (omega (arith, e, some))
    reversed_side (suc s) e some = ap (placed_square left right above below) (c ∙ ap (λ (n : ℕ). neg_ℤ (pos n)) e)
        ∙ (λ i. record { x = nat_abs (r i); y = nat_abs (y i); s = sym e i })

module _ (t : Tiling) (w : Word) (f : Flow) (tiling : IsTiling t) (primitive : IsPrimitiveTiling t) (s : IsSignedWordOf t w)
    (flow : IsFlow (net_of_word w) f) (positive : pos 1 ≤ℤ f.total) (lowest : IsPrimitive f) where
  side_one : IsOneFlow (net_of_word w) (signed_flow t w s)
  side_one = signed_sides_are_the_one_flow t w tiling s

  same : (f.total ≡ pos t.width) × (f.currents ≡ (signed_flow t w s).currents)
  same = one_primitive (net_of_word w) f.total (pos t.width) f.currents (signed_flow t w s).currents
      (f.potentials, a_word_has_one_flow w f s.complete flow positive, lowest)
      ((signed_flow t w s).potentials, side_one, signed_flow_is_primitive t tiling primitive w s)

  loose : IsNet (net_of_word w) × HasNoLoose (net_of_word w)
  loose = a_word_net_has_no_loose w s.complete

  level_is : (v : ℕ) → v < (net_of_word w).nodes → level_in f v ≡ level_in (signed_flow t w s) v
  level_is v h = same_levels (net_of_word w) f (signed_flow t w s) flow side_one.flow same.1 loose.1 (omega (arith, loose.0.some)) v h

  -- the edges
  long : length (square_lines w) ≡ length t.squares
  long = as_many_sides w ∙ s.order_is

  edges : StandRight t s.is_reversed s.square (length t.squares) (right_edges w f)
  edges = subst (λ (n : ℕ). StandRight t s.is_reversed s.square n (right_edges w f)) (omega (arith, long))
      (subst (λ (cs : List ℤ). StandRight t s.is_reversed s.square (0 + length (square_lines w)) (right_edges_from f.total [] (square_lines w) cs))
      (ap (λ (n : ℕ). map (λ k. signed_side t s.is_reversed (s.square k)) (numbers_from 0 n)) long ∙ sym same.1)
      (edges_are t s.is_reversed s.square f.total same.0 0 (square_lines w) [] (record { many = refl; each = λ k h. absurd (omega arith) }) lines))
    where
      lines : (j : ℕ) (p : ℕ × ℕ) → slice_get (square_lines w) j ≡ Some p
          → (left_edge t s.is_reversed (s.square (0 + j)) ≡ line_column t s.is_reversed s.square p.0) × (p.0 < 0 + j + 2)
      lines j p e = (ap (λ (k : ℕ). left_edge t s.is_reversed (s.square k)) (omega arith) ∙ (s.lines j p.0 p.1 e).0, omega (arith, (known_lines w j p e).0))

  -- a line of the word stands where it is computed
  pub line_of_the_word_stands_at_a_left_edge : (k : ℕ) → k < length t.squares
      → line_place f.total (right_edges w f) (slice_index_or (square_lines w) k (0, 1)).0 ≡ pos (left_edge t s.is_reversed (s.square k))
  line_of_the_word_stands_at_a_left_edge k h = place_is t s.is_reversed s.square f.total same.0 (length t.squares) (right_edges w f) edges
      (slice_index_or (square_lines w) k (0, 1)).0
      (omega (arith, h, (known_lines w k (slice_index_or (square_lines w) k (0, 1)) got).0))
      ∙ ap pos (sym (s.lines k (slice_index_or (square_lines w) k (0, 1)).0 (slice_index_or (square_lines w) k (0, 1)).1 got).0)
    where
      got : slice_get (square_lines w) k ≡ Some (slice_index_or (square_lines w) k (0, 1))
      got = slice_get-get_or (square_lines w) k (0, 1) (omega (arith, long, h))

  -- the right edge of a square stands where it is computed
  pub right_edges_stand_where_computed : (k : ℕ) → k < length t.squares
      → slice_index_or (right_edges w f) k (pos 0) ≡ pos (right_edge t s.is_reversed (s.square k))
  right_edges_stand_where_computed k h = edges.each k h

  -- a current is the side of its square, negative where this is reversed
  pub current_is : (k : ℕ) → k < length t.squares → slice_index_or f.currents k (pos 0) ≡ signed_side t s.is_reversed (s.square k)
  current_is k h = ap (λ (cs : List ℤ). slice_index_or cs k (pos 0)) same.1
      ∙ numbers_index {A = ℤ} (λ k. signed_side t s.is_reversed (s.square k)) 0 (length t.squares) k (pos 0) h
      ∙ ap (λ (i : ℕ). signed_side t s.is_reversed (s.square i)) (omega arith)

  -- one square
  pub square_is : (k : ℕ) → k < length t.squares → candidate_square w f k ≡ square_of t (s.square k)
  square_is k h = placed (s.is_reversed (s.square k)) (square_of t (s.square k))
      (line_place f.total (right_edges w f) (slice_index_or (square_lines w) k (0, 1)).0) (slice_index_or (right_edges w f) k (pos 0))
      (level_in f (slice_index_or (net_of_word w).wires k (0, 0)).0) (level_in f (slice_index_or (net_of_word w).wires k (0, 0)).1)
      (slice_index_or f.currents k (pos 0))
      (side_of t tiling (square_of t (s.square k)) (in_square t tiling (s.square k) (square_below t tiling w s k h)))
      (line_of_the_word_stands_at_a_left_edge k h) (right_edges_stand_where_computed k h) (level (s.is_reversed (s.square k)) (hangs_by_flow t tiling w s k h))
      (current_is k h)
    where
      level : (b : Bool) → pos (square_of t (s.square k)).y ≡ potential (signed_flow t w s) 0 -ℤ potential (signed_flow t w s) (upper_end w b k)
          → cond b (level_in f (slice_index_or (net_of_word w).wires k (0, 0)).1)
          (level_in f (slice_index_or (net_of_word w).wires k (0, 0)).0) ≡ pos (square_of t (s.square k)).y
      level true e = level_is (slice_index_or (net_of_word w).wires k (0, 0)).1 (ends_below t tiling w s k h).1 ∙ sym e
      level false e = level_is (slice_index_or (net_of_word w).wires k (0, 0)).0 (ends_below t tiling w s k h).0 ∙ sym e

  squares_are : candidate_squares w f ≡ other t tiling s.square (square_below t tiling w s) (square_apart t tiling w s)
  squares_are = ap (λ (n : ℕ). map (candidate_square w f) (numbers_from 0 n))
      (ap length same.1 ∙ numbers_length {A = ℤ} (λ k. signed_side t s.is_reversed (s.square k)) 0 (length t.squares))
      ∙ numbers_each {A = Square} (candidate_square w f) (λ k. square_of t (s.square k)) 0 (length t.squares) (λ k lo hi. square_is k (omega (arith, hi)))

  -- the height is the level of the last node
  bottom_level : slice_index_or (node_levels t) (length (square_groups t.squares)) 0 ≡ t.height
  bottom_level = bottom.is_level ∙ cases bottom.inner
    where
      bottom : IsNode t (length (square_groups t.squares))
      bottom = node_at t tiling (length (square_groups t.squares)) (omega arith)

      cases : ((length (square_groups t.squares) < length (square_groups t.squares)) × (bottom.level < t.height))
          ⊎ ((length (square_groups t.squares) ≡ length (square_groups t.squares)) × (bottom.level ≡ t.height) × (bottom.left ≡ 0) × (bottom.right ≡ t.width))
          → bottom.level ≡ t.height
      cases (inl (h, k)) = absurd (omega arith)
      cases (inr h) = h.1

  -- the last node of the word is the tiling's
  pub last_node_is_the_last_of_the_tiling : s.node (last_node (net_of_word w)) ≡ length (square_groups t.squares)
  last_node_is_the_last_of_the_tiling = s.net.last (last_node (net_of_word w)) (omega (arith, loose.0.some)) ∙ omega (arith, s.net.nodes)

  height_is : level_in f (last_node (net_of_word w)) ≡ pos t.height
  height_is = level_is (last_node (net_of_word w)) (omega (arith, loose.0.some)) ∙ omega (
    arith,
    ints,
    top_potential t tiling w s,
    potential_is t tiling w s (last_node (net_of_word w)) (omega (arith, loose.0.some)),
    ap (λ (v : ℕ). slice_index_or (node_levels t) v 0) last_node_is_the_last_of_the_tiling,
    bottom_level,
  )

  side_some : (k : ℕ) → k < length t.squares → 0 < (square_of t (s.square k)).s
  side_some k h = side_of t tiling (square_of t (s.square k)) (in_square t tiling (s.square k) (square_below t tiling w s k h))

  -- the candidate has the size of the tiling and, in another order, its squares
  pub candidate : IsCandidateOf t w s f
  candidate = record {
    width = same.0;
    height = height_is;
    currents = same.1;
    some = subst (λ (cs : List ℤ). AllByRecursion (λ c. c ≢ pos 0) cs) (sym same.1)
        (numbers_all {A = ℤ} (λ c. c ≢ pos 0) (λ k. signed_side t s.is_reversed (s.square k)) 0 (length t.squares)
        (λ k lo hi. signed-nonzero (s.is_reversed (s.square k)) (square_of t (s.square k)).s (side_some k (omega (arith, hi)))));
    positive = λ kept. subst (λ (cs : List ℤ). AllByRecursion (λ c. pos 1 ≤ℤ c) cs) (sym same.1)
        (numbers_all {A = ℤ} (λ c. pos 1 ≤ℤ c) (λ k. signed_side t s.is_reversed (s.square k)) 0 (length t.squares)
        (λ k lo hi. subst (λ (b : Bool). pos 1 ≤ℤ cond b (neg_ℤ (pos (square_of t (s.square k)).s)) (pos (square_of t (s.square k)).s))
        (sym (kept (s.square k))) (omega (arith, ints, side_some k (omega (arith, hi))))));
    tiles = subst (λ (qs : List Square). Tiles (whole t) qs) (sym squares_are)
        (other_tiles t tiling s.square (square_below t tiling w s) (square_apart t tiling w s));
    squares = ap (λ (qs : List Square). in_code_order qs) squares_are
        ∙ other_in_order t tiling s.square (square_below t tiling w s) (square_apart t tiling w s);
  }

-- the candidate by each primitive flow of a signed word's net, which is the signed one, is the tiling
pub the_candidate_is_the_tiling : TheCandidateIsTheTiling
the_candidate_is_the_tiling t w f tiling primitive s flow positive lowest = candidate t w f tiling primitive s flow positive lowest
