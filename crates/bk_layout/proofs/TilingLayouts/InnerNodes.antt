-- Each group of squares of a tiling is a node: its squares hang from it, and those above end on it.
use Rattle.std.proofs.Common.{List, Some, ap, arith, count_by, inl, length, nat_eq, slice_get, subst, sym, true, ℕ, ◌&&◌, ◌+◌, ◌<◌, ◌∙◌, ◌∷◌, ◌≡◌, ◌≤◌}
use Rattle.std.proofs.lemmas.Option.{slice_get_within}
use Rattle.bk_laws.proofs.TestsAsNumbers.{cond_count-nat_eq_same, nat_eq-same_if_counted}
use Rattle.bk_tiling.proofs.Cells.{counted_one, one_counted}
use Rattle.bk_tiling.proofs.Groups.{IsGroup}
use Rattle.bk_tiling.proofs.TilingGroups.{known_groups, one_there}
use Rattle.bk_tiling.specs.Column.{covers_column}
use Rattle.bk_tiling.specs.SquareGroups.{square_groups}
use Rattle.bk_tiling.specs.Tiling.{IsOneOf, IsTiling, Tiling, covers}
use Rattle.bk_tiling.specs.declared.Square.{Square}
use Rattle.bk_net.proofs.GroupSquares.{get_index, group_of, in_group}
use Rattle.bk_net.proofs.NodeBelow.{IsBelow, below_from, below_to as is_below, has_node_below}
use Rattle.bk_net.specs.Diagram.{group_level, node_below}
use Rattle.bk_layout.proofs.TilingLayouts.Edges.{IsOn, side}
use Rattle.bk_layout.specs.TilingLayout.{node_above}
use Rattle.bk_layout.proofs.TilingLayouts.GroupNodes.{IsNode, end_within, ends_within, in_level, in_under, level_of_group, low, over, reaches, some_columns}
use Rattle.bk_layout.proofs.TilingLayouts.GroupNodes.{tops, within}
use Rattle.bk_tiling.proofs.TilingLaws.{own_cell}
use Rattle.bk_layout.proofs.TilingLayouts.Nodes.{own_group}

module _ (t : Tiling) (tiling : IsTiling t) (v : ℕ) (g : List Square) (e : slice_get (square_groups t.squares) v ≡ Some g) where
  few : v < length (square_groups t.squares)
  few = slice_get_within (square_groups t.squares) v g e

  abbrev group : IsGroup t.squares g
  group = (group_of t tiling v g e).0

  own_in : (q : Square) → IsOneOf q g → IsOneOf q t.squares
  own_in q h = in_group t tiling v g e q h

  above_to : (q : Square) → IsOneOf q t.squares → node_above (square_groups t.squares) q ≡ v → IsOneOf q g
  above_to q h same = from (counted_one (covers q.x q.y) g
      (omega (
        arith,
        ap (count_by (covers q.x q.y)) (get_index (square_groups t.squares) v g e),
        (own_group t tiling q h).counts v few,
        cond_count-nat_eq_same (node_above (square_groups t.squares) q) v same,
      )))
    where
      from : (r : Square) × IsOneOf r g × (covers q.x q.y r ≡ true) → IsOneOf q g
      from (r, m, f) = subst (λ (s : Square). IsOneOf s g) (sym (one_there t tiling q r q.x q.y h (own_cell t tiling q h) (own_in r m) f)) m

  -- the squares of the group of this number hang from the node
  pub above_from : (q : Square) → IsOneOf q g → node_above (square_groups t.squares) q ≡ v
  above_from q h = nat_eq-same_if_counted (node_above (square_groups t.squares) q) v
      (omega (
        arith,
        one_counted (covers q.x q.y) g q h (own_cell t tiling q (own_in q h)),
        ap (count_by (covers q.x q.y)) (get_index (square_groups t.squares) v g e),
        (own_group t tiling q (own_in q h)).counts v few,
      ))

  below_to : (q : Square) → IsOneOf q t.squares → node_below (square_groups t.squares) q ≡ v
      → (q.y + q.s ≡ (group_of t tiling v g e).0.row.first.y) × ((group_of t tiling v g e).0.row.first.x ≤ q.x)
      × (q.x + q.s ≤ (group_of t tiling v g e).0.row.end)
  below_to q h same = from (counted_one (λ r. nat_eq r.y (q.y + q.s) && covers_column q.x r) g (omega (
    arith,
    ap (count_by (λ r. nat_eq r.y (q.y + q.s) && covers_column q.x r)) (get_index (square_groups t.squares) v g e),
    (has_node_below t tiling q h).counts v few,
    cond_count-nat_eq_same (node_below (square_groups t.squares) q) v same,
  )))
    where
      from : (r : Square) × IsOneOf r g × ((nat_eq r.y (q.y + q.s) && covers_column q.x r) ≡ true)
          → (q.y + q.s ≡ (group_of t tiling v g e).0.row.first.y) × ((group_of t tiling v g e).0.row.first.x ≤ q.x)
          × (q.x + q.s ≤ (group_of t tiling v g e).0.row.end)
      from (r, m, f) = (level, on.0, on.1)
        where
          u : IsBelow q r
          u = is_below q r f

          level : q.y + q.s ≡ (group_of t tiling v g e).0.row.first.y
          level = omega (arith, u.level, tops t tiling g group own_in r m)

          on : ((group_of t tiling v g e).0.row.first.x ≤ q.x) × (q.x + q.s ≤ (group_of t tiling v g e).0.row.end)
          on = let w = within t tiling g group own_in r m in
              ends_within t tiling g group own_in q q.x h level (omega (arith, w.0, u.left)) (omega (arith, w.1, u.right)) (omega arith)
              (omega (arith, side t tiling q h))

  below_from_level : (q : Square) (c : ℕ) → IsOneOf q t.squares → q.y + q.s ≡ (group_of t tiling v g e).0.row.first.y
      → (group_of t tiling v g e).0.row.first.x ≤ c → c < (group_of t tiling v g e).0.row.end → q.x ≤ c → c < q.x + q.s
      → node_below (square_groups t.squares) q ≡ v
  below_from_level q c h level lo hi a b = from (over t tiling g group own_in q.x on.0 (omega (arith, on.1, side t tiling q h)))
    where
      on : ((group_of t tiling v g e).0.row.first.x ≤ q.x) × (q.x + q.s ≤ (group_of t tiling v g e).0.row.end)
      on = ends_within t tiling g group own_in q c h level lo hi a b

      from : (r : Square) × IsOneOf r g × IsOn q.x (group_of t tiling v g e).0.row.first.y r → node_below (square_groups t.squares) q ≡ v
      from (r, m, o) = nat_eq-same_if_counted (node_below (square_groups t.squares) q) v (omega (
        arith,
        one_counted (λ r. nat_eq r.y (q.y + q.s) && covers_column q.x r) g r m
            (below_from q r (omega (arith, tops t tiling g group own_in r m, level)) o.left o.right),
        ap (count_by (λ r. nat_eq r.y (q.y + q.s) && covers_column q.x r)) (get_index (square_groups t.squares) v g e),
        (has_node_below t tiling q h).counts v few,
      ))

  at_top : v ≡ 0 → ((group_of t tiling v g e).0.row.first.y ≡ 0) × ((group_of t tiling v g e).0.row.first.x ≡ 0)
  at_top zero_is = (ap (λ (s : Square). s.y) same ∙ (known_groups t tiling).y, ap (λ (s : Square). s.x) same ∙ (known_groups t tiling).x)
    where
      is : Some g ≡ Some (known_groups t tiling).group
      is = sym e ∙ ap (slice_get (square_groups t.squares)) zero_is ∙ ap (λ (gs : List (List Square)). slice_get gs 0) (known_groups t tiling).is

      groups_same : {a b : List Square} → Some a ≡ Some b → a ≡ b
      groups_same f = cc

      heads : {a b : Square} {xs ys zs : List Square} → zs ≡ a ∷ xs → zs ≡ b ∷ ys → a ≡ b
      heads f h = cc

      same : (group_of t tiling v g e).0.row.first ≡ (known_groups t tiling).first
      same = heads (group_of t tiling v g e).0.row.is (groups_same is ∙ (known_groups t tiling).own.row.is) ∙ (known_groups t tiling).at_first

  -- each group is a node: the columns and the level of its squares
  pub inner_node : IsNode t v
  inner_node = record {
    left = (group_of t tiling v g e).0.row.first.x;
    right = (group_of t tiling v g e).0.row.end;
    level = (group_of t tiling v g e).0.row.first.y;
    some = some_columns t tiling g group own_in;
    wide = end_within t tiling g group own_in;
    is_level = level_of_group (square_groups t.squares) v t.height g e ∙ ap group_level (group_of t tiling v g e).0.row.is;
    hang_to = λ q h same. let m = above_to q h same in let w = within t tiling g group own_in q m in (tops t tiling g group own_in q m, w.0, w.1);
    hang_from = λ q c h level lo hi a b. above_from q (in_level t tiling g group own_in q c h level lo hi a b);
    end_to = below_to;
    end_from = below_from_level;
    under = λ q c h lo hi on. tops t tiling g group own_in q (in_under t tiling g group own_in q c h lo hi on);
    beyond_left = λ z h ey ex. (group_of t tiling v g e).0.left z h ey ex;
    beyond_right = λ z h ey ex. (group_of t tiling v g e).0.row.right z h ey ex;
    inner = inl (few, low t tiling g group own_in);
    top = λ zero_is. let k = at_top zero_is in (k.0, k.1, reaches t tiling g group own_in k.1 k.0);
  }
