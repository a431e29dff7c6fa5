-- The squares of a tiling and their numbers in its layout, and which of them hang from a node and end on it.
use Rattle.std.proofs.Common.{Bool, ap, arith, inl, inr, length, subst, sym, true, ℕ, ◌+◌, ◌<◌, ◌==◌, ◌≡◌, ◌≤◌, ◌⊎◌}
use Rattle.std.proofs.lemmas.Bool.{cases_lt, eq-eqb, eqb-true}
use Rattle.bk_laws.proofs.ListPlaces.{get_some}
use Rattle.bk_tiling.proofs.Members.{one_at}
use Rattle.bk_tiling.proofs.Places.{at_place, later_place}
use Rattle.bk_tiling.proofs.Scaling.{before_cases}
use Rattle.bk_tiling.specs.SquareGroups.{square_groups}
use Rattle.bk_tiling.specs.Tiling.{IsOneOf, IsTiling, Tiling, square_of}
use Rattle.bk_tiling.specs.declared.Square.{Square}
use Rattle.bk_net.specs.Diagram.{node_below}
use Rattle.bk_layout.proofs.TilingLayouts.Edges.{side}
use Rattle.bk_layout.proofs.TilingLayouts.NodeColumns.{one_ended, one_hung}
use Rattle.bk_layout.proofs.TilingLayouts.Nodes.{above_bottom, bottom_node, most_nodes}
use Rattle.bk_layout.specs.TilingLayout.{node_above}
use Rattle.bk_layout.proofs.TilingLayouts.GroupNodes.{IsNode}
use Rattle.bk_layout.proofs.TilingLayouts.InnerNodes.{inner_node}

module _ (t : Tiling) (tiling : IsTiling t) where
  -- the square of a number is the tiling's
  pub in_square : (k : ℕ) → k < length t.squares → IsOneOf (square_of t k) t.squares
  in_square k h = one_at t.squares k (record { x = 0; y = 0; s = 0 }) h

  -- the number of a square of the tiling
  pub record HasNumber (q : Square) : Type 0 where
    pub number : ℕ
    pub below : number < length t.squares
    pub is : square_of t number ≡ q

  -- each square has one
  pub has_number : (q : Square) → IsOneOf q t.squares → HasNumber q
  has_number q h = let p = at_place t.squares q h in record { number = p.0; below = p.1; is = p.2 (record { x = 0; y = 0; s = 0 }) }

  -- each square has just one number
  pub one_number : (j k : ℕ) → j < length t.squares → k < length t.squares → square_of t j ≡ square_of t k → j ≡ k
  one_number j k h m same = cases (cases_lt j k) (cases_lt k j)
    where
      not_before : (j k : ℕ) → j < k → k < length t.squares → square_of t j ≡ square_of t k → ⊥
      not_before j k a b e = by (before_cases (square_of t j) (square_of t k) (later_place t.squares tiling.ordered j k (record { x = 0; y = 0; s = 0 }) a b))
        where
          by : ((square_of t j).y < (square_of t k).y) ⊎ (((square_of t j).y ≡ (square_of t k).y) × ((square_of t j).x < (square_of t k).x)) → ⊥
          by (inl c) = omega (arith, c, ap (λ (s : Square). s.y) e)
          by (inr c) = omega (arith, c.1, ap (λ (s : Square). s.x) e)

      cases : (j < k) ⊎ (k ≤ j) → (k < j) ⊎ (j ≤ k) → j ≡ k
      cases (inl a) b = absurd (not_before j k a m same)
      cases (inr a) (inl b) = absurd (not_before k j b h (sym same))
      cases (inr a) (inr b) = omega arith

  -- each number up to that of the bottom is a node
  pub node_at : (v : ℕ) → v ≤ length (square_groups t.squares) → IsNode t v
  node_at v h = cases (cases_lt v (length (square_groups t.squares)))
    where
      cases : (v < length (square_groups t.squares)) ⊎ (length (square_groups t.squares) ≤ v) → IsNode t v
      cases (inl m) = let g = get_some (square_groups t.squares) v m in inner_node t tiling v g.0 g.1
      cases (inr m) = let same : length (square_groups t.squares) ≡ v = omega arith in subst (IsNode t) same (bottom_node t tiling)

  -- the key, and the tests
  abbrev pub key : ℕ → ℕ
  key q = (square_of t q).x

  -- the square hangs from the node
  abbrev pub hung : ℕ → ℕ → Bool
  hung v q = node_above (square_groups t.squares) (square_of t q) == v

  -- whether a square ends on the node
  abbrev pub ended : ℕ → ℕ → Bool
  ended v q = node_below (square_groups t.squares) (square_of t q) == v

  -- where the test says so, the node is that above it
  pub hung_from : (v q : ℕ) → hung v q ≡ true → node_above (square_groups t.squares) (square_of t q) ≡ v
  hung_from v q e = eqb-true (node_above (square_groups t.squares) (square_of t q)) v e

  -- a square whose node above is v is among those that hang from v
  pub hung_to : (v q : ℕ) → node_above (square_groups t.squares) (square_of t q) ≡ v → hung v q ≡ true
  hung_to v q e = eq-eqb (node_above (square_groups t.squares) (square_of t q)) v e

  -- where the test says so, the node is that below it
  pub ended_from : (v q : ℕ) → ended v q ≡ true → node_below (square_groups t.squares) (square_of t q) ≡ v
  ended_from v q e = eqb-true (node_below (square_groups t.squares) (square_of t q)) v e

  -- a square whose node below is v is among those that end on v
  pub ended_to : (v q : ℕ) → node_below (square_groups t.squares) (square_of t q) ≡ v → ended v q ≡ true
  ended_to v q e = eq-eqb (node_below (square_groups t.squares) (square_of t q)) v e

  -- what squares hang from is a node
  pub hung_node : (v q : ℕ) → q < length t.squares → hung v q ≡ true → IsNode t v
  hung_node v q h e = node_at v (omega (arith, hung_from v q e, above_bottom t tiling (square_of t q) (in_square q h)))

  -- what squares end on is a node
  pub ended_node : (v q : ℕ) → q < length t.squares → ended v q ≡ true → IsNode t v
  ended_node v q h e = node_at v (omega (arith, ended_from v q e, most_nodes t tiling (square_of t q) (in_square q h)))

  -- the square with a number of the tiling has a width
  pub wide_at : (q : ℕ) → q < length t.squares → (square_of t q).x < (square_of t q).x + (square_of t q).s
  wide_at q h = omega (arith, side t tiling (square_of t q) (in_square q h))

  -- no two squares that hang from one node begin at one column
  pub hung_one : (v q r : ℕ) → q < length t.squares → r < length t.squares → hung v q ≡ true → hung v r ≡ true → key q ≡ key r → q ≡ r
  hung_one v q r h k e f same = one_number q r h k
      (one_hung t tiling v (hung_node v q h e) (key q) (square_of t q) (square_of t r) (in_square q h) (in_square r k) (hung_from v q e)
      (hung_from v r f) (omega arith) (wide_at q h) (omega (arith, same)) (omega (arith, same, wide_at r k)))

  -- no two squares that end on one node begin at one column
  pub ended_one : (v q r : ℕ) → q < length t.squares → r < length t.squares → ended v q ≡ true → ended v r ≡ true → key q ≡ key r → q ≡ r
  ended_one v q r h k e f same = one_number q r h k
      (one_ended t tiling v (ended_node v q h e) (key q) (square_of t q) (square_of t r) (in_square q h) (in_square r k) (ended_from v q e)
      (ended_from v r f) (omega arith) (wide_at q h) (omega (arith, same)) (omega (arith, same, wide_at r k)))
