-- What hangs from a node fills it, and so does what ends on it: neighbours stand side by side, from its left end to its right end.
use Rattle.std.proofs.Common.{ap, arith, inl, inr, ℕ, ◌+◌, ◌-◌, ◌<◌, ◌≡◌, ◌≤◌, ◌⊎◌}
use Rattle.std.proofs.lemmas.Bool.{cases_lt}
use Rattle.bk_tiling.specs.Tiling.{IsOneOf, IsTiling, Tiling}
use Rattle.bk_tiling.specs.declared.Square.{Square}
use Rattle.bk_layout.proofs.TilingLayouts.Edges.{IsThere, side}
use Rattle.bk_layout.proofs.TilingLayouts.GroupNodes.{IsNode}
use Rattle.bk_layout.proofs.TilingLayouts.NodeColumns.{DoFill, filled_once}

-- squares that fill the node, those that hang from it or those that end on it
module _ (t : Tiling) (tiling : IsTiling t) (v : ℕ) (node : IsNode t v) (P : Square → Type 0) (fill : DoFill t tiling v node P) where
  -- neighbours stand side by side
  pub beside : (q r : Square) → IsOneOf q t.squares → IsOneOf r t.squares → P q → P r → q.x < r.x
      → ((w : Square) → IsOneOf w t.squares → P w → (w.x ≤ q.x) ⊎ (r.x ≤ w.x)) → q.x + q.s ≡ r.x
  beside q r h k e f less between = cases (cases_lt (q.x + q.s) r.x) (cases_lt r.x (q.x + q.s))
    where
      cases : (q.x + q.s < r.x) ⊎ (r.x ≤ q.x + q.s) → (r.x < q.x + q.s) ⊎ (q.x + q.s ≤ r.x) → q.x + q.s ≡ r.x
      cases a (inl m) = let same : q ≡ r =
          filled_once t tiling v node P fill r.x q r h k e f (omega (arith, less)) m (omega arith) (omega (arith, side t tiling r k)) in
          absurd (omega (arith, less, ap (λ (s : Square). s.x) same))
      cases (inr m) (inr n) = omega (arith, m, n)
      cases (inl m) b = absurd (past (between w.square w.is w.has))
        where
          w : IsThere t tiling P (q.x + q.s) fill.level
          w = fill.over q h e (q.x + q.s) (omega (arith, (fill.within q h e).2)) (omega (arith, m, (fill.within r k f).3, side t tiling r k))

          past : (w.square.x ≤ q.x) ⊎ (r.x ≤ w.square.x) → ⊥
          past (inr l) = omega (arith, l, m, w.on.left)
          past (inl l) = let same : w.square ≡ q =
              filled_once t tiling v node P fill q.x w.square q w.is h w.has e l (omega (arith, w.on.right)) (omega arith) (omega (arith, side t tiling q h)) in
              omega (arith, w.on.right, ap (λ (s : Square). s.x + s.s) same)

  -- the first begins at the node's left end
  pub first_of : (q : Square) → IsOneOf q t.squares → P q → ((w : Square) → IsOneOf w t.squares → P w → q.x ≤ w.x) → q.x ≡ node.left
  first_of q h e least = let w = fill.over q h e node.left (omega arith) node.some in
      omega (arith, (fill.within q h e).2, least w.square w.is w.has, w.on.left)

  -- the last ends at its right end
  pub last_of : (q : Square) → IsOneOf q t.squares → P q → ((w : Square) → IsOneOf w t.squares → P w → w.x ≤ q.x) → q.x + q.s ≡ node.right
  last_of q h e most = omega (arith, w.on.right, node.some, (fill.within q h e).3, ap (λ (s : Square). s.x + s.s) same)
    where
      w : IsThere t tiling P (node.right - 1) fill.level
      w = fill.over q h e (node.right - 1) (omega (arith, node.some)) (omega (arith, node.some))

      same : w.square ≡ q
      same = filled_once t tiling v node P fill q.x w.square q w.is h w.has e (most w.square w.is w.has)
          (omega (arith, w.on.right, (fill.within q h e).3, side t tiling q h)) (omega arith) (omega (arith, side t tiling q h))

  -- the one at its right end is the last
  pub is_last : (q : Square) → IsOneOf q t.squares → P q → q.x + q.s ≡ node.right → (w : Square) → IsOneOf w t.squares → P w → w.x ≤ q.x
  is_last q h e at w k f = cases (cases_lt q.x w.x)
    where
      cases : (q.x < w.x) ⊎ (w.x ≤ q.x) → w.x ≤ q.x
      cases (inr m) = m
      cases (inl m) = let same : q ≡ w = filled_once t tiling v node P fill w.x q w h k e f (omega (arith, m))
          (omega (arith, at, (fill.within w k f).3, side t tiling w k)) (omega arith) (omega (arith, side t tiling w k)) in
          absurd (omega (arith, m, ap (λ (s : Square). s.x) same))
