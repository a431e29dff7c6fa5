-- The lists and the nodes of the layout of a tiling are those of a layout that fits.
use Rattle.std.proofs.Common.{ap, arith, inl, inr, length, refl, slice_index_or, sym, ℕ, ◌+◌, ◌<◌, ◌==◌, ◌∙◌, ◌≡◌, ◌≤◌, ◌⊎◌}
use Rattle.std.proofs.lemmas.Bool.{cases_lt}
use Rattle.bk_tiling.proofs.TilingGroups.{known_groups}
use Rattle.bk_tiling.specs.SquareGroups.{square_groups}
use Rattle.bk_tiling.specs.Tiling.{IsOneOf, IsTiling, Tiling, square_of}
use Rattle.bk_tiling.specs.declared.Square.{Square}
use Rattle.bk_net.specs.Diagram.{node_below, node_levels}
use Rattle.bk_layout.proofs.Lists.AscendingPlaces.{has_place, once, some, stands_in}
use Rattle.bk_layout.proofs.TilingLayouts.Edges.{side}
use Rattle.bk_layout.proofs.TilingLayouts.NodeColumns.{EndsAt, HangsAt, ends_at, hangs_at}
use Rattle.bk_layout.proofs.TilingLayouts.Nodes.{above_bottom, most_nodes}
use Rattle.bk_layout.specs.Layout.{AreLists, AreNodes}
use Rattle.bk_layout.specs.TilingLayout.{from_left, layout_of, node_above}
use Rattle.bk_layout.proofs.TilingLayouts.TilingSquares.{ended, ended_from, ended_one, ended_to, has_number, hung, hung_from, hung_one, hung_to, in_square}
use Rattle.bk_layout.proofs.TilingLayouts.TilingSquares.{key, node_at}
use Rattle.bk_layout.proofs.TilingLayouts.GroupNodes.{IsNode}

module _ (t : Tiling) (tiling : IsTiling t) where
  -- ---- lists and nodes

  -- the lists of the layout are those of a layout that fits
  pub lists : AreLists (layout_of t)
  lists = record {
    hanging_is = λ v k q e. let s = stands_in (key t tiling) (hung t tiling v) (length t.squares) (hung_one t tiling v) k q e in
        (s.0, hung_from t tiling v q s.1);
    ending_is = λ v k q e. let s = stands_in (key t tiling) (ended t tiling v) (length t.squares) (ended_one t tiling v) k q e in
        (s.0, ended_from t tiling v q s.1);
    hangs = λ q h. let v = node_above (square_groups t.squares) (square_of t q) in
        has_place (key t tiling) (hung t tiling v) (length t.squares) (hung_one t tiling v) q h (hung_to t tiling v q refl);
    ends = λ q h. let v = node_below (square_groups t.squares) (square_of t q) in
        has_place (key t tiling) (ended t tiling v) (length t.squares) (ended_one t tiling v) q h (ended_to t tiling v q refl);
    hanging_once = λ v j k q d e. once (key t tiling) (hung t tiling v) (length t.squares) (hung_one t tiling v) j k q d e;
    ending_once = λ v j k q d e. once (key t tiling) (ended t tiling v) (length t.squares) (ended_one t tiling v) j k q d e;
  }

  -- a tiling has a group
  pub some_groups : 0 < length (square_groups t.squares)
  some_groups = omega (arith, ap length (known_groups t tiling).is)

  -- each node but the bottom is above the bottom's level
  pub low_level : (v : ℕ) (node : IsNode t v) → v < length (square_groups t.squares) → node.level < t.height
  low_level v node h = cases node.inner
    where
      cases : ((v < length (square_groups t.squares)) × (node.level < t.height))
          ⊎ ((v ≡ length (square_groups t.squares)) × (node.level ≡ t.height) × (node.left ≡ 0) × (node.right ≡ t.width)) → node.level < t.height
      cases (inl m) = m.1
      cases (inr m) = absurd (omega (arith, m.0))

  deep_level : (v : ℕ) (node : IsNode t v) → 0 < v → 0 < node.level
  deep_level v node h = cases (cases_lt 0 node.level) node.inner
    where
      node0 : IsNode t 0
      node0 = node_at t tiling 0 (omega arith)

      cases : (0 < node.level) ⊎ (node.level ≤ 0) → ((v < length (square_groups t.squares)) × (node.level < t.height))
          ⊎ ((v ≡ length (square_groups t.squares)) × (node.level ≡ t.height) × (node.left ≡ 0) × (node.right ≡ t.width)) → 0 < node.level
      cases (inl m) other = m
      cases (inr m) (inr n) = omega (arith, n.1, low_level 0 node0 some_groups)
      cases (inr m) (inl n) = absurd (from (hangs_at t tiling v node node.left n.1 (omega arith) node.some))
        where
          from : HangsAt t tiling v node node.left → ⊥
          from w = omega (
            arith,
            h,
            w.has,
            node0.hang_from w.square node.left w.is (omega (arith, m, (node.hang_to w.square w.is w.has).0, (node0.top refl).0))
                (omega (arith, (node0.top refl).1)) (omega (arith, (node0.top refl).2, node.some, node.wide)) w.on.left w.on.right,
          )

  some_hang : (v : ℕ) → v < length (square_groups t.squares) → 0 < length (from_left t (λ q. node_above (square_groups t.squares) (square_of t q) == v))
  some_hang v h = from (hangs_at t tiling v node node.left (low_level v node h) (omega arith) node.some)
    where
      node : IsNode t v
      node = node_at t tiling v (omega arith)

      from : HangsAt t tiling v node node.left → 0 < length (from_left t (λ q. node_above (square_groups t.squares) (square_of t q) == v))
      from w = let k = has_number t tiling w.square w.is in
          some (key t tiling) (hung t tiling v) (length t.squares) (hung_one t tiling v) k.number k.below
          (hung_to t tiling v k.number (ap (node_above (square_groups t.squares)) k.is ∙ w.has))

  some_end : (v : ℕ) → 0 < v → v ≤ length (square_groups t.squares) → 0 < length (from_left t (λ q. node_below (square_groups t.squares) (square_of t q) == v))
  some_end v a h = from (ends_at t tiling v node node.left (deep_level v node a) (omega arith) node.some)
    where
      node : IsNode t v
      node = node_at t tiling v h

      from : EndsAt t tiling v node node.left → 0 < length (from_left t (λ q. node_below (square_groups t.squares) (square_of t q) == v))
      from w = let k = has_number t tiling w.square w.is in
          some (key t tiling) (ended t tiling v) (length t.squares) (ended_one t tiling v) k.number k.below
          (ended_to t tiling v k.number (ap (node_below (square_groups t.squares)) k.is ∙ w.has))

  below_top : (q : Square) → IsOneOf q t.squares → 0 < node_below (square_groups t.squares) q
  below_top q h = cases (cases_lt 0 (node_below (square_groups t.squares) q))
    where
      node : IsNode t (node_below (square_groups t.squares) q)
      node = node_at t tiling (node_below (square_groups t.squares) q) (most_nodes t tiling q h)

      cases : (0 < node_below (square_groups t.squares) q) ⊎ (node_below (square_groups t.squares) q ≤ 0) → 0 < node_below (square_groups t.squares) q
      cases (inl m) = m
      cases (inr m) = absurd (omega (arith, side t tiling q h, (node.end_to q h refl).0, (node.top (omega arith)).0))

  -- the levels of a square's nodes
  pub levels_of : (q : Square) → IsOneOf q t.squares → (slice_index_or (node_levels t) (node_above (square_groups t.squares) q) 0 ≡ q.y)
      × (slice_index_or (node_levels t) (node_below (square_groups t.squares) q) 0 ≡ q.y + q.s)
  levels_of q h = (upper.is_level ∙ sym (upper.hang_to q h refl).0, lower.is_level ∙ sym (lower.end_to q h refl).0)
    where
      upper : IsNode t (node_above (square_groups t.squares) q)
      upper = node_at t tiling (node_above (square_groups t.squares) q) (omega (arith, above_bottom t tiling q h))

      lower : IsNode t (node_below (square_groups t.squares) q)
      lower = node_at t tiling (node_below (square_groups t.squares) q) (most_nodes t tiling q h)

  goes_down : (q : Square) → IsOneOf q t.squares
      → slice_index_or (node_levels t) (node_above (square_groups t.squares) q) 0 < slice_index_or (node_levels t) (node_below (square_groups t.squares) q) 0
  goes_down q h = omega (arith, side t tiling q h, (levels_of q h).0, (levels_of q h).1)

  -- a layout's squares and nodes fit
  pub nodes : AreNodes (layout_of t)
  nodes = record {
    hangs_above = λ q h. above_bottom t tiling (square_of t q) (in_square t tiling q h);
    ends_below = λ q h. (below_top (square_of t q) (in_square t tiling q h), most_nodes t tiling (square_of t q) (in_square t tiling q h));
    hanging_some = some_hang;
    ending_some = some_end;
    rank = λ v. slice_index_or (node_levels t) v 0;
    rises = λ q h. goes_down (square_of t q) (in_square t tiling q h);
  }
