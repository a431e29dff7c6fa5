-- The layout of a simple tiling has no parts but single squares and the whole, no twins and no pairs.
use Rattle.std.proofs.Common.{Some, arith, inl, inr, length, refl, slice_get, subst, suc, sym, ℕ, ◌+◌, ◌<◌, ◌==◌, ◌∙◌, ◌≡◌, ◌≤◌, ◌⊎◌}
use Rattle.std.proofs.lemmas.Bool.{cases_lt}
use Rattle.bk_laws.proofs.ListPlaces.{get_some}
use Rattle.bk_tiling.specs.SquareGroups.{square_groups}
use Rattle.bk_tiling.specs.Tiling.{IsOneOf, IsTiling, Tiling, order, square_of}
use Rattle.bk_simple.specs.Simple.{IsSimple}
use Rattle.bk_net.specs.Diagram.{node_below}
use Rattle.bk_layout.proofs.Lists.AscendingPlaces.{AreNext, next_from, stands_in}
use Rattle.bk_layout.proofs.TilingLayouts.LineEdges.{IsMark}
use Rattle.bk_layout.proofs.Sweeps.NodeLaws.{beside}
use Rattle.bk_layout.proofs.TilingLayouts.Nodes.{most_nodes}
use Rattle.bk_layout.proofs.TilingLayouts.NodeColumns.{hung_fill}
use Rattle.bk_layout.proofs.TilingLayouts.NodeCorners.{first_of_ended, first_of_hung, last_of_ended, last_of_hung, over_hung}
use Rattle.bk_layout.proofs.TilingLayouts.TilingSquares.{ended, ended_from, ended_one, hung, hung_from, hung_node, hung_one, in_square, key, node_at}
use Rattle.bk_layout.proofs.FreeCuts.Twins.{none_below, none_beside}
use Rattle.bk_layout.specs.Layout.{HasNoTwins}
use Rattle.bk_layout.specs.SimpleLayout.{ASimpleTilingHasASimpleLayout, AreOutermost, HasNoPairs, HasNoParts, HasOneBetween}
use Rattle.bk_layout.specs.TilingLayout.{from_left, layout_of, node_above}
use Rattle.bk_layout.proofs.FreeCuts.BetweenLines.{by_columns, level_nodes, nodes_exchanged}
use Rattle.bk_layout.proofs.FreeCuts.TouchedNodes.{HasMark, mark_of, one_column, touched_node}
use Rattle.bk_layout.proofs.TilingLayouts.GroupNodes.{IsNode}

module _ (t : Tiling) (tiling : IsTiling t) where
  module _ (simple : IsSimple t) where
    no_parts : HasNoParts (layout_of t)
    no_parts f g u v lines nodes fu fv gu gv = cases (cases_lt first.level second.level) (cases_lt second.level first.level)
      where
        first : IsNode t u
        first = touched_node t tiling f u fu

        second : IsNode t v
        second = touched_node t tiling f v fv

        a : HasMark t tiling f u first
        a = mark_of t tiling f u first fu

        b : HasMark t tiling f v second
        b = mark_of t tiling f v second fv

        c : HasMark t tiling g u first
        c = mark_of t tiling g u first gu

        d : HasMark t tiling g v second
        d = mark_of t tiling g v second gv

        b_here : IsMark t f a.column v second
        b_here = subst (λ (i : ℕ). IsMark t f i v second) (one_column t tiling f a.column b.column u v first second a.mark b.mark) b.mark

        d_here : IsMark t g c.column v second
        d_here = subst (λ (i : ℕ). IsMark t g i v second) (one_column t tiling g c.column d.column u v first second c.mark d.mark) d.mark

        cases : (first.level < second.level) ⊎ (second.level ≤ first.level) → (second.level < first.level) ⊎ (first.level ≤ second.level)
            → HasOneBetween (layout_of t) f g u v ⊎ AreOutermost (layout_of t) f g u v
        cases (inl h) k = by_columns t tiling simple f g u v first second a.column c.column a.mark b_here c.mark d_here h lines
        cases (inr h) (inl k) = nodes_exchanged t tiling simple f g u v
            (by_columns t tiling simple f g v u second first a.column c.column b_here a.mark d_here c.mark k lines)
        cases (inr h) (inr k) = absurd
            (level_nodes t tiling simple f g u v first second a.column c.column a.mark b_here c.mark d_here (omega arith) lines nodes)

    module _ (many : 3 ≤ order t) where
      no_twins : HasNoTwins (layout_of t)
      no_twins v q r next ends = none_beside t tiling simple many (square_of t q) (square_of t r) q_in r_in edge level bottom
        where
          n : AreNext (key t tiling) (hung t tiling v) (length t.squares) (hung_one t tiling v) q r
          n = next_from (key t tiling) (hung t tiling v) (length t.squares) (hung_one t tiling v) q r next

          node : IsNode t v
          node = hung_node t tiling v q n.first_in.0 n.first_in.1

          q_in : IsOneOf (square_of t q) t.squares
          q_in = in_square t tiling q n.first_in.0

          r_in : IsOneOf (square_of t r) t.squares
          r_in = in_square t tiling r n.second_in.0

          edge : (square_of t q).x + (square_of t q).s ≡ (square_of t r).x
          edge = beside t tiling v node (λ w. node_above (square_groups t.squares) w ≡ v) (hung_fill t tiling v node) (square_of t q)
              (square_of t r) q_in r_in (hung_from t tiling v q n.first_in.1) (hung_from t tiling v r n.second_in.1) n.less
              (over_hung t tiling v (λ w. (w.x ≤ (square_of t q).x) ⊎ ((square_of t r).x ≤ w.x)) n.between)

          level : (square_of t q).y ≡ (square_of t r).y
          level = (node.hang_to (square_of t q) q_in (hung_from t tiling v q n.first_in.1)).0
              ∙ sym (node.hang_to (square_of t r) r_in (hung_from t tiling v r n.second_in.1)).0

          same : node_below (square_groups t.squares) (square_of t r) ≡ node_below (square_groups t.squares) (square_of t q)
          same = ended_from t tiling (node_below (square_groups t.squares) (square_of t q)) r
              (stands_in (key t tiling) (ended t tiling (node_below (square_groups t.squares) (square_of t q))) (length t.squares)
              (ended_one t tiling (node_below (square_groups t.squares) (square_of t q))) (suc ends.0) r ends.2).1

          under : IsNode t (node_below (square_groups t.squares) (square_of t q))
          under = node_at t tiling (node_below (square_groups t.squares) (square_of t q)) (most_nodes t tiling (square_of t q) q_in)

          bottom : (square_of t q).y + (square_of t q).s ≡ (square_of t r).y + (square_of t r).s
          bottom = (under.end_to (square_of t q) q_in refl).0 ∙ sym (under.end_to (square_of t r) r_in same).0

      no_pairs : HasNoPairs (layout_of t)
      no_pairs v one_above one_under = from (get_some (from_left t (λ q. node_below (square_groups t.squares) (square_of t q) == v)) 0
          (omega (arith, one_above))) (get_some (from_left t (λ q. node_above (square_groups t.squares) (square_of t q) == v)) 0 (omega (arith, one_under)))
        where
          from : (p : ℕ) × (slice_get (from_left t (λ q. node_below (square_groups t.squares) (square_of t q) == v)) 0 ≡ Some p) → (q : ℕ)
              × (slice_get (from_left t (λ q. node_above (square_groups t.squares) (square_of t q) == v)) 0 ≡ Some q) → ⊥
          from (p, e) (q, h) = let a = first_of_ended t tiling v p e in
              let b = last_of_ended t tiling v p (0, sym one_above, e) in
              let c = first_of_hung t tiling v q h in
              let d = last_of_hung t tiling v q (0, sym one_under, h) in
              let node = hung_node t tiling v q c.0 c.1 in
              let p_in = in_square t tiling p a.0 in
              let q_in = in_square t tiling q c.0 in
              none_below t tiling simple many (square_of t p) (square_of t q) p_in q_in
              ((node.end_to (square_of t p) p_in (ended_from t tiling v p a.1)).0 ∙ sym (node.hang_to (square_of t q) q_in (hung_from t tiling v q c.1)).0)
              (a.2 node ∙ sym (c.2 node)) (b.2 node ∙ sym (d.2 node))

-- the law: parts, twins and pairs of the layout would be parts of the tiling
pub a_simple_tiling_has_a_simple_layout : ASimpleTilingHasASimpleLayout
a_simple_tiling_has_a_simple_layout t tiling simple many =
    record { parts = no_parts t tiling simple; twins = no_twins t tiling simple many; pairs = no_pairs t tiling simple many }
