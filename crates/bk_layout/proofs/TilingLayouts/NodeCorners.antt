-- What stands first and last at each node begins and ends with the node.
use Rattle.std.proofs.Common.{Bool, ap, length, subst, true, ℕ, ◌+◌, ◌<◌, ◌==◌, ◌∙◌, ◌≡◌, ◌≤◌}
use Rattle.std.proofs.lemmas.Bool.{eq-eqb, eqb-true}
use Rattle.bk_tiling.specs.SquareGroups.{square_groups}
use Rattle.bk_tiling.specs.Tiling.{IsOneOf, IsTiling, Tiling, square_of}
use Rattle.bk_tiling.specs.declared.Square.{Square}
use Rattle.bk_net.specs.Diagram.{node_below}
use Rattle.bk_layout.specs.Layout.{IsFirst, IsLast}
use Rattle.bk_layout.proofs.Lists.AscendingPlaces.{first_from, last_from, stands_in}
use Rattle.bk_layout.proofs.Sweeps.NodeLaws.{first_of, last_of}
use Rattle.bk_layout.proofs.TilingLayouts.NodeColumns.{DoFill, ended_fill, hung_fill}
use Rattle.bk_layout.specs.TilingLayout.{from_left, node_above}
use Rattle.bk_layout.proofs.TilingLayouts.GroupNodes.{IsNode}
use Rattle.bk_layout.proofs.TilingLayouts.TilingSquares.{ended_one, has_number, hung_one, in_square}

module _ (t : Tiling) (tiling : IsTiling t) where
  abbrev key : ℕ → ℕ
  key q = (square_of t q).x

  abbrev hung : ℕ → ℕ → Bool
  hung v q = node_above (square_groups t.squares) (square_of t q) == v

  abbrev ended : ℕ → ℕ → Bool
  ended v q = node_below (square_groups t.squares) (square_of t q) == v

  -- the squares with a node v, above them or below: where no two begin at one column, and they fill the node
  module _ (at : Square → ℕ) (v : ℕ) (one : (q r : ℕ) → q < length t.squares → r < length t.squares → (at (square_of t q) == v) ≡ true
      → (at (square_of t r) == v) ≡ true → key q ≡ key r → q ≡ r) (fill : (node : IsNode t v) → DoFill t tiling v node (λ w. at w ≡ v)) where
    -- what holds of all numbers holds of all squares
    pub over : (P : Square → Type 0) → ((r : ℕ) → r < length t.squares → (at (square_of t r) == v) ≡ true → P (square_of t r)) → (w : Square)
        → IsOneOf w t.squares → at w ≡ v → P w
    over P each w h e = let k = has_number t tiling w h in
        subst P k.is (each k.number k.below (eq-eqb (at (square_of t k.number)) v (ap at k.is ∙ e)))

    -- the first stands at the left end of the node
    first_at : (p : ℕ) → IsFirst (from_left t (λ q. at (square_of t q) == v)) p
        → (p < length t.squares) × ((at (square_of t p) == v) ≡ true) × ((node : IsNode t v) → (square_of t p).x ≡ node.left)
    first_at p first = (
      s.0,
      s.1,
      λ node. first_of t tiling v node (λ w. at w ≡ v) (fill node) (square_of t p) (in_square t tiling p s.0) (eqb-true (at (square_of t p)) v s.1)
          (over (λ w. key p ≤ w.x) (λ r h e. first_from key (λ q. at (square_of t q) == v) (length t.squares) one p first r h e)),
    )
      where
        s : (p < length t.squares) × ((at (square_of t p) == v) ≡ true)
        s = stands_in key (λ q. at (square_of t q) == v) (length t.squares) one 0 p first

    -- the last stands at its right end
    last_at : (p : ℕ) → IsLast (from_left t (λ q. at (square_of t q) == v)) p
        → (p < length t.squares) × ((at (square_of t p) == v) ≡ true) × ((node : IsNode t v) → (square_of t p).x + (square_of t p).s ≡ node.right)
    last_at p last = (
      s.0,
      s.1,
      λ node. last_of t tiling v node (λ w. at w ≡ v) (fill node) (square_of t p) (in_square t tiling p s.0) (eqb-true (at (square_of t p)) v s.1)
          (over (λ w. w.x ≤ key p) (λ r h e. last_from key (λ q. at (square_of t q) == v) (length t.squares) one p last r h e)),
    )
      where
        s : (p < length t.squares) × ((at (square_of t p) == v) ≡ true)
        s = stands_in key (λ q. at (square_of t q) == v) (length t.squares) one last.0 p last.2

  -- what holds of all numbers of squares that hang from a node holds of those squares
  pub over_hung : (v : ℕ) (P : Square → Type 0) → ((r : ℕ) → r < length t.squares → hung v r ≡ true → P (square_of t r)) → (w : Square)
      → IsOneOf w t.squares → node_above (square_groups t.squares) w ≡ v → P w
  over_hung v = over (node_above (square_groups t.squares)) v (hung_one t tiling v) (hung_fill t tiling v)

  -- what holds of all numbers of squares that end on a node holds of those squares
  pub over_ended : (v : ℕ) (P : Square → Type 0) → ((r : ℕ) → r < length t.squares → ended v r ≡ true → P (square_of t r)) → (w : Square)
      → IsOneOf w t.squares → node_below (square_groups t.squares) w ≡ v → P w
  over_ended v = over (node_below (square_groups t.squares)) v (ended_one t tiling v) (ended_fill t tiling v)

  -- the first in the list of what hangs from a node begins at its left end
  pub first_of_hung : (v p : ℕ) → IsFirst (from_left t (λ q. node_above (square_groups t.squares) (square_of t q) == v)) p
      → (p < length t.squares) × (hung v p ≡ true) × ((node : IsNode t v) → (square_of t p).x ≡ node.left)
  first_of_hung v = first_at (node_above (square_groups t.squares)) v (hung_one t tiling v) (hung_fill t tiling v)

  -- the first in the list of what ends on a node begins at its left end
  pub first_of_ended : (v p : ℕ) → IsFirst (from_left t (λ q. node_below (square_groups t.squares) (square_of t q) == v)) p
      → (p < length t.squares) × (ended v p ≡ true) × ((node : IsNode t v) → (square_of t p).x ≡ node.left)
  first_of_ended v = first_at (node_below (square_groups t.squares)) v (ended_one t tiling v) (ended_fill t tiling v)

  -- the last in the list of what hangs from a node ends at its right end
  pub last_of_hung : (v p : ℕ) → IsLast (from_left t (λ q. node_above (square_groups t.squares) (square_of t q) == v)) p
      → (p < length t.squares) × (hung v p ≡ true) × ((node : IsNode t v) → (square_of t p).x + (square_of t p).s ≡ node.right)
  last_of_hung v = last_at (node_above (square_groups t.squares)) v (hung_one t tiling v) (hung_fill t tiling v)

  -- the last in the list of what ends on a node ends at its right end
  pub last_of_ended : (v p : ℕ) → IsLast (from_left t (λ q. node_below (square_groups t.squares) (square_of t q) == v)) p
      → (p < length t.squares) × (ended v p ≡ true) × ((node : IsNode t v) → (square_of t p).x + (square_of t p).s ≡ node.right)
  last_of_ended v = last_at (node_below (square_groups t.squares)) v (ended_one t tiling v) (ended_fill t tiling v)
