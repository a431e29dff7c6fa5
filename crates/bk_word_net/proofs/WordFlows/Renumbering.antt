-- The net of a tiling's word is its Smith diagram, with nodes and wires renumbered.
use Rattle.bk_tiling.proofs.TilingLaws.{own_cell}
use Rattle.std.specs.List.{position_or_len}
use Rattle.std.proofs.Common.{List, Some, [], ap, arith, inl, inr, length, map, option_map, refl, slice_get, slice_index_or, subst, suc, sym, zero}
use Rattle.std.proofs.Common.{ℕ, ◌++◌, ◌+◌, ◌<◌, ◌∙◌, ◌∷◌, ◌≡◌, ◌≤◌, ◌⊎◌}
use Rattle.std.proofs.lemmas.Bool.{cases_lt}
use Rattle.std.proofs.lemmas.Option.{get_or_from_slice_get, slice_get_within}
use Rattle.std.proofs.lemmas.List.{length-append, length-map}
use Rattle.bk_laws.proofs.ListPlaces.{get_map, get_some, slice_get-unique}
use Rattle.bk_tiling.specs.declared.Segment.{Segment}
use Rattle.bk_tiling.specs.Tiling.{IsOneOf, IsTiling, Tiling, covers}
use Rattle.bk_tiling.specs.declared.Square.{Square}
use Rattle.bk_tiling.proofs.Groups.{row_of}
use Rattle.bk_tiling.proofs.TilingGroups.{one_there}
use Rattle.bk_tiling.specs.SquareGroups.{square_groups}
use Rattle.bk_net.proofs.GroupSquares.{group_of, row_is}
use Rattle.bk_net.proofs.TopGroup.{deep}
use Rattle.bk_net.proofs.SmithLists.{group_wires}
use Rattle.bk_net.specs.Diagram.{node_below, smith_diagram}
use Rattle.bk_word.specs.Outline.{start}
use Rattle.bk_word.specs.Play.{outline_of}
use Rattle.bk_word.specs.Word.{Word}
use Rattle.bk_lay.proofs.SquaresOnce.{squares_once}
use Rattle.bk_lay.proofs.LaidRuns.{one_of}
use Rattle.bk_lay.proofs.WordPlay.{fewer}
use Rattle.bk_lay.specs.TilingWord.{IsWordOf}
use Rattle.bk_word_net.proofs.TilingWords.AlongWord.{HasBegun, NotBegun}
use Rattle.bk_word_net.proofs.TilingWords.GroupRuns.{IsGroupRun}
use Rattle.bk_word_net.proofs.TilingWords.ExactNodes.{ExactEnd, exact_end}
use Rattle.bk_word_net.proofs.WordFlows.NoLoose.{closed_count}
use Rattle.bk_word_net.proofs.WordFlows.Wires.{wires_length}
use Rattle.bk_word_net.specs.Renumbering.{IsRenumbering, WordNetIsSmithDiagram}
use Rattle.bk_word_net.specs.WordNet.{end_of, net_of_word}
use Rattle.bk_word_net.proofs.WordFlows.PlacesInLists.{WireAt, one_index, pos_found, wire_at, wires_got}
use Rattle.bk_word_net.proofs.TilingWords.CellGroups.{complete, heads, in_place, laid_in}
use Rattle.bk_word_net.proofs.TilingWords.CellGroups.{laid_once}
use Rattle.bk_word_net.proofs.TilingWords.WordNodes.{hung_group}
use Rattle.bk_word_net.proofs.TilingWords.WordNodes.{node_apart, node_below_groups, node_last, node_of_word, node_run}
use Rattle.bk_word_net.proofs.TilingWords.WordSquares.{all_in_laid, as_many, closed_is, hung_is}
use Rattle.bk_word_net.proofs.TilingWords.WordEnds.{ends_there}

module _ (t : Tiling) (w : Word) (tiling : IsTiling t) (p : IsWordOf t w) where
  abbrev e : ExactEnd t (outline_of w)
  e = exact_end t w tiling p

  abbrev node : ℕ → ℕ
  node = node_of_word t w tiling p

  abbrev wire : ℕ → ℕ
  wire k = slice_index_or (map (λ q. position_or_len (covers q.x q.y) t.squares) e.laid) k 0

  -- ---- the wires

  row_count : (below : Square → ℕ) (n : ℕ) (groups : List (List Square)) → length (group_wires below n groups) ≡ length (row_of groups)
  row_count below n [] = refl
  row_count below n (g ∷ groups) = omega (
    arith,
    length-append {A = ℕ × ℕ} (map (λ q. (n, below q)) g) (group_wires below (n + 1) groups),
    length-map {B = ℕ × ℕ} g (λ q. (n, below q)),
    length-append g (row_of groups),
    row_count below (n + 1) groups,
  )

  squares_count : length e.laid ≡ length t.squares
  squares_count = omega (
    arith,
    fewer e.laid t.squares (laid_once t w tiling p) (laid_in t w tiling p),
    fewer t.squares e.laid (squares_once t tiling) (all_in_laid t w tiling p),
  )

  word_wires : length (net_of_word w).wires ≡ length e.laid
  word_wires = wires_length (end_of ((outline_of w).closed ++ (outline_of w).segments)) 1 (outline_of w).hung ∙ hung_is t w tiling p

  smith_wires : length (smith_diagram t).wires ≡ length t.squares
  smith_wires = row_count (node_below (square_groups t.squares)) 0 (square_groups t.squares) ∙ ap length (row_is t tiling)

  square_at_wire : (k : ℕ) (q : Square) → slice_get e.laid k ≡ Some q → slice_get t.squares (wire k) ≡ Some q
  square_at_wire k q f = ap (slice_get t.squares)
      (get_or_from_slice_get (map (λ q. position_or_len (covers q.x q.y) t.squares) e.laid) k (position_or_len (covers q.x q.y) t.squares) 0
      (get_map (λ q. position_or_len (covers q.x q.y) t.squares) e.laid k q f))
      ∙ pos_found (covers q.x q.y) t.squares q q_in (own_cell t tiling q q_in) (λ r h c. one_there t tiling r q q.x q.y h c q_in (own_cell t tiling q q_in))
    where
      q_in : IsOneOf q t.squares
      q_in = laid_in t w tiling p q (one_of e.laid k q f)

  wire_apart : (j k : ℕ) → j < length (net_of_word w).wires → k < length (net_of_word w).wires → wire j ≡ wire k → j ≡ k
  wire_apart j k a b f = at (get_some e.laid j (omega (arith, word_wires))) (get_some e.laid k (omega (arith, word_wires)))
    where
      at : (q : Square) × (slice_get e.laid j ≡ Some q) → (r : Square) × (slice_get e.laid k ≡ Some r) → j ≡ k
      at (q, g) (r, h) = one_index e.laid (laid_once t w tiling p) j k r (subst (λ (s : Square). slice_get e.laid j ≡ Some s) same g) h
        where
          same : q ≡ r
          same = slice_get-unique t.squares (wire k) q r (ap (slice_get t.squares) (sym f) ∙ square_at_wire j q g) (square_at_wire k r h)

  wire_below : (k : ℕ) → k < length (net_of_word w).wires → wire k < length (net_of_word w).wires
  wire_below k h = let q = get_some e.laid k (omega (arith, word_wires)) in
      omega (arith, slice_get_within t.squares (wire k) q.0 (square_at_wire k q.0 q.1), word_wires, squares_count)

  each : (k : ℕ) → k < length (net_of_word w).wires
      → slice_get (smith_diagram t).wires (wire k) ≡ option_map (λ (x : ℕ × ℕ). (node x.0, node x.1)) (slice_get (net_of_word w).wires k)
  each k h = at (get_some e.laid k (omega (arith, word_wires)))
    where
      at : (q : Square) × (slice_get e.laid k ≡ Some q)
          → slice_get (smith_diagram t).wires (wire k) ≡ option_map (λ (x : ℕ × ℕ). (node x.0, node x.1)) (slice_get (net_of_word w).wires k)
      at (q, f) = r.wire ∙ (λ i. Some (from i, ends i))
          ∙ sym (ap (option_map (λ (x : ℕ × ℕ). (node x.0, node x.1)))
          (wires_got (end_of ((outline_of w).closed ++ (outline_of w).segments)) 1 (outline_of w).hung k (omega (arith, word_wires, hung_is t w tiling p))))
        where
          r : WireAt (node_below (square_groups t.squares)) 0 (square_groups t.squares) (wire k) q
          r = wire_at (node_below (square_groups t.squares)) 0 (square_groups t.squares) (wire k) q
              (ap (λ (l : List Square). slice_get l (wire k)) (row_is t tiling) ∙ square_at_wire k q f)

          ends : node_below (square_groups t.squares) q ≡ node (end_of ((outline_of w).closed ++ (outline_of w).segments) (1 + k))
          ends = sym (ends_there t w tiling p k q f)

          from : 0 + r.place ≡ node (slice_index_or (outline_of w).hung k 0)
          from = omega (
            arith,
            (hung_group t w tiling p k q f).1,
            in_place t w tiling p r.place r.group q q.x q.y r.is r.inside (own_cell t tiling q (laid_in t w tiling p q (one_of e.laid k q f))),
          )

  -- ---- the nodes

  nodes_are : (net_of_word w).nodes ≡ (smith_diagram t).nodes
  nodes_are = omega (arith, closed_is t w tiling p, as_many t w tiling p)

  first_node : node 0 ≡ 0
  first_node = from (e.along).begun
    where
      from : NotBegun e.laid e.nodes (outline_of w) ⊎ HasBegun t e.laid e.nodes (outline_of w) → node 0 ≡ 0
      from (inl n) = absurd (omega (arith, closed_count start w, (complete t w tiling p).some, ap length n.no_list))
      from (inr b) = at (node_run t w tiling p 0 (omega (arith, ap length b.nodes_are)))
        where
          at : (v : Segment) × ((r : IsGroupRun t v) × (slice_get e.nodes 0 ≡ Some v) × (node 0 ≡ r.place)) → node 0 ≡ 0
          at (v, (r, is, same)) = same ∙ zeroth r.place refl
            where
              top : v ≡ b.top
              top = slice_get-unique e.nodes 0 v b.top is (ap (λ (l : List Segment). slice_get l 0) b.nodes_are)

              zeroth : (k : ℕ) → r.place ≡ k → r.place ≡ 0
              zeroth zero f = f
              zeroth (suc k) f = absurd (omega (
                arith,
                deep t tiling k r.group at_place,
                ap (λ (z : Square). z.y) (heads (group_of t tiling (suc k) r.group at_place).0.row.is r.squares),
                r.y,
                ap (λ (s : Segment). s.level) top,
                b.level,
              ))
                where
                  at_place : slice_get (square_groups t.squares) (suc k) ≡ Some r.group
                  at_place = subst (λ (i : ℕ). slice_get (square_groups t.squares) i ≡ Some r.group) f r.is

  below_all : (k : ℕ) → k < (net_of_word w).nodes → node k < (net_of_word w).nodes
  below_all k h = cases (cases_lt k (length e.nodes))
    where
      cases : (k < length e.nodes) ⊎ (length e.nodes ≤ k) → node k < (net_of_word w).nodes
      cases (inl l) = omega (arith, node_below_groups t w tiling p k l, as_many t w tiling p, closed_is t w tiling p)
      cases (inr l) = omega (arith, node_last t w tiling p k (omega (arith, closed_is t w tiling p)), as_many t w tiling p, closed_is t w tiling p)

  apart_all : (j k : ℕ) → j < (net_of_word w).nodes → k < (net_of_word w).nodes → node j ≡ node k → j ≡ k
  apart_all j k a b f = cases (cases_lt j (length e.nodes)) (cases_lt k (length e.nodes))
    where
      cases : (j < length e.nodes) ⊎ (length e.nodes ≤ j) → (k < length e.nodes) ⊎ (length e.nodes ≤ k) → j ≡ k
      cases (inl l) (inl m) = node_apart t w tiling p j k l m f
      cases (inl l) (inr m) = absurd (omega (arith, f, node_below_groups t w tiling p j l, node_last t w tiling p k (omega (arith, closed_is t w tiling p))))
      cases (inr l) (inl m) = absurd (omega (arith, f, node_below_groups t w tiling p k m, node_last t w tiling p j (omega (arith, closed_is t w tiling p))))
      cases (inr l) (inr m) = omega (arith, closed_is t w tiling p)

  -- nodes go to their groups, squares to their places in the code
  pub renumbering : (node : ℕ → ℕ) × (wire : ℕ → ℕ) × IsRenumbering (net_of_word w) (smith_diagram t) node wire
  renumbering = (
    node,
    wire,
    record {
      nodes = nodes_are;
      wires = word_wires ∙ squares_count ∙ sym smith_wires;
      node_apart = record { below = below_all; apart = apart_all };
      wire_apart = record { below = wire_below; apart = wire_apart };
      first = first_node;
      last = λ k h. node_last t w tiling p k (omega (arith, closed_is t w tiling p)) ∙ omega (arith, as_many t w tiling p, closed_is t w tiling p);
      each = each;
    },
  )

-- the law
pub word_net_is_smith_diagram : WordNetIsSmithDiagram
word_net_is_smith_diagram t w tiling p = renumbering t w tiling p
