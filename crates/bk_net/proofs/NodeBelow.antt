-- The node below a square: it is the bottom, or the one group that begins at the level at which the square ends.
use Rattle.std.proofs.Common.{Bool, List, Some, [], ap, arith, cond, count_by, false, inl, inr, length, nat_eq, refl, slice_get, slice_index_or}
use Rattle.std.proofs.Common.{subst, sym, true, ℕ, ◌&&◌, ◌+◌, ◌<◌, ◌∙◌, ◌∷◌, ◌≡◌, ◌≤◌, ◌⊎◌}
use Rattle.std.proofs.lemmas.Bool.{cases_lt}
use Rattle.std.proofs.lemmas.Bool.Decides.{nat_tests}
use Rattle.bk_laws.proofs.ListPlaces.{get_some}
use Rattle.bk_tiling.proofs.Cells.{count-cons, counted_one, covers_from, none_counted, one_counted, over_from}
use Rattle.bk_tiling.proofs.TilingLaws.{a_square_over_each_cell, cell_once, side_of, within_of}
use Rattle.bk_tiling.specs.Column.{covers_column}
use Rattle.bk_tiling.specs.Tiling.{IsOneOf, IsTiling, Tiling, covers}
use Rattle.bk_tiling.specs.declared.Square.{Square}
use Rattle.bk_tiling.proofs.Groups.{IsRow, row_of}
use Rattle.bk_tiling.specs.SquareGroups.{square_groups}
use Rattle.bk_net.proofs.GroupSquares.{get_index, group_of, level_is, row_is, square_below_begins_at_the_bottom, top_of}
use Rattle.bk_net.proofs.SmithLists.{HasGroup, has_group}
use Rattle.bk_net.specs.Diagram.{group_level, node_below}

-- the squares of one level that lie over a column: the test by which the node below a square is found
pub below_from : (q r : Square) → r.y ≡ q.y + q.s → r.x ≤ q.x → q.x < r.x + r.s → (nat_eq r.y (q.y + q.s) && covers_column q.x r) ≡ true
below_from q r a b c = grind (arith, nat_tests)

-- a square begins at the level at which q ends, and over q's left column
pub record IsBelow (q r : Square) : Type 0 where
  pub level : r.y ≡ q.y + q.s
  pub left : r.x ≤ q.x
  pub right : q.x < r.x + r.s

-- a square that the test finds has its top where the first one ends, and lies over its left column
pub below_to : (q r : Square) → (nat_eq r.y (q.y + q.s) && covers_column q.x r) ≡ true → IsBelow q r
below_to q r e = record { level = grind (arith, nat_tests); left = grind (arith, nat_tests); right = grind (arith, nat_tests) }

module _ (t : Tiling) (tiling : IsTiling t) where
  -- the test finds at most one square of a tiling
  pub tests_once : (q : Square) → IsOneOf q t.squares → count_by (λ r. nat_eq r.y (q.y + q.s) && covers_column q.x r) t.squares ≤ 1
  tests_once q h = cases (cases_lt (q.y + q.s) t.height)
    where
      to_cell : (r : Square) → IsOneOf r t.squares → (nat_eq r.y (q.y + q.s) && covers_column q.x r) ≡ true → covers q.x (q.y + q.s) r ≡ true
      to_cell r k e = let b = below_to q r e in
          covers_from q.x (q.y + q.s) r b.left b.right (omega (arith, b.level)) (omega (arith, b.level, side_of t tiling r k))

      all_less : (squares : List Square) → ((r : Square) → IsOneOf r squares → IsOneOf r t.squares)
          → count_by (λ r. nat_eq r.y (q.y + q.s) && covers_column q.x r) squares ≤ count_by (covers q.x (q.y + q.s)) squares
      all_less [] i = omega arith
      all_less (s ∷ squares) i = omega (
        arith,
        count-cons (λ r. nat_eq r.y (q.y + q.s) && covers_column q.x r) s squares,
        count-cons (covers q.x (q.y + q.s)) s squares,
        one (nat_eq s.y (q.y + q.s) && covers_column q.x s) (covers q.x (q.y + q.s) s) (to_cell s (i s (inl refl))),
        all_less squares (λ r h. i r (inr h)),
      )
        where
          one : (a b : Bool) → (a ≡ true → b ≡ true) → ◌≤◌ (cond {A = ℕ} a 1 0) (cond b 1 0)
          one true b k = omega (arith, ap (λ (c : Bool). cond {A = ℕ} c 1 0) (k refl))
          one false b k = omega arith

      cases : (q.y + q.s < t.height) ⊎ (t.height ≤ q.y + q.s) → count_by (λ r. nat_eq r.y (q.y + q.s) && covers_column q.x r) t.squares ≤ 1
      cases (inl l) = omega (
        arith,
        all_less t.squares (λ r k. k),
        cell_once t tiling q.x (q.y + q.s) (let w = (within_of t tiling q h).right in
            omega (arith, side_of t tiling q h)) l,
      )
      cases (inr l) = omega (
        arith,
        none_counted (λ r. nat_eq r.y (q.y + q.s) && covers_column q.x r) t.squares (λ r k e. omega (
          arith,
          (below_to q r e).level,
          (within_of t tiling r k).bottom,
          side_of t tiling r k,
        )),
      )

  -- the test finds at most one group, and the place of this group is the node below
  pub has_node_below : (q : Square) → IsOneOf q t.squares
      → HasGroup (λ r. nat_eq r.y (q.y + q.s) && covers_column q.x r) (square_groups t.squares) (node_below (square_groups t.squares) q)
  has_node_below q h = has_group (λ r. nat_eq r.y (q.y + q.s) && covers_column q.x r) (square_groups t.squares)
      (omega (arith, ap (count_by (λ r. nat_eq r.y (q.y + q.s) && covers_column q.x r)) (row_is t tiling), tests_once q h))

  -- the node below a square is the bottom, or a group whose level is the square's bottom
  pub record StandsOn (q : Square) : Type 0 where
    pub is : ((node_below (square_groups t.squares) q ≡ length (square_groups t.squares)) × (q.y + q.s ≡ t.height))
        ⊎ ((g : List Square) × (slice_get (square_groups t.squares) (node_below (square_groups t.squares) q) ≡ Some g) × (group_level g ≡ q.y + q.s))

  -- the node below a square is the bottom where the square ends there, and else a group at the level where it ends
  pub stands_on : (q : Square) → IsOneOf q t.squares → StandsOn q
  stands_on q h = record { is = cases (has_node_below q h).found }
    where
      group : (g : List Square) → slice_get (square_groups t.squares) (node_below (square_groups t.squares) q) ≡ Some g
          → 0 < count_by (λ r. nat_eq r.y (q.y + q.s) && covers_column q.x r)
          (slice_index_or (square_groups t.squares) (node_below (square_groups t.squares) q) []) → group_level g ≡ q.y + q.s
      group g e c = from (counted_one (λ r. nat_eq r.y (q.y + q.s) && covers_column q.x r) g
          (subst (λ (l : List Square). 0 < count_by (λ r. nat_eq r.y (q.y + q.s) && covers_column q.x r) l)
          (get_index (square_groups t.squares) (node_below (square_groups t.squares) q) g e) c))
        where
          row : IsRow t.squares g
          row = (group_of t tiling (node_below (square_groups t.squares) q) g e).0.row

          from : (r : Square) × IsOneOf r g × ((nat_eq r.y (q.y + q.s) && covers_column q.x r) ≡ true) → group_level g ≡ q.y + q.s
          from (r, k, f) = level_is t tiling g row ∙ sym (top_of t tiling g row r k) ∙ (below_to q r f).level

      cases : ((node_below (square_groups t.squares) q < length (square_groups t.squares))
          × (0 < count_by (λ r. nat_eq r.y (q.y + q.s) && covers_column q.x r)
          (slice_index_or (square_groups t.squares) (node_below (square_groups t.squares) q) [])))
          ⊎ ((node_below (square_groups t.squares) q ≡ length (square_groups t.squares))
          × (count_by (λ r. nat_eq r.y (q.y + q.s) && covers_column q.x r) (row_of (square_groups t.squares)) ≡ 0))
          → ((node_below (square_groups t.squares) q ≡ length (square_groups t.squares)) × (q.y + q.s ≡ t.height))
          ⊎ ((g : List Square) × (slice_get (square_groups t.squares) (node_below (square_groups t.squares) q) ≡ Some g)
          × (group_level g ≡ q.y + q.s))
      cases (inl k) = let g = get_some (square_groups t.squares) (node_below (square_groups t.squares) q) k.0 in inr (g.0, g.1, group g.0 g.1 k.1)
      cases (inr k) = inl (k.0, bottom (cases_lt (q.y + q.s) t.height))
        where
          bottom : (q.y + q.s < t.height) ⊎ (t.height ≤ q.y + q.s) → q.y + q.s ≡ t.height
          bottom (inr l) = omega (arith, (within_of t tiling q h).bottom)
          bottom (inl l) = from (a_square_over_each_cell t tiling q.x (q.y + q.s)
              (let w = (within_of t tiling q h).right in omega (arith, side_of t tiling q h)) l)
            where
              from : (r : Square) × IsOneOf r t.squares × (covers q.x (q.y + q.s) r ≡ true) → q.y + q.s ≡ t.height
              from (r, m, f) = absurd (omega (
                arith,
                k.1,
                ap (count_by (λ r. nat_eq r.y (q.y + q.s) && covers_column q.x r)) (row_is t tiling),
                one_counted (λ r. nat_eq r.y (q.y + q.s) && covers_column q.x r) t.squares r m
                    (below_from q r (square_below_begins_at_the_bottom t tiling q r q.x h (omega arith) (omega (arith, side_of t tiling q h)) m f)
                    (over_from q.x (q.y + q.s) r f).left (over_from q.x (q.y + q.s) r f).right),
              ))
