-- Squares that meet in a column: their edge goes on downwards until the line ends, and no square lies across it.
use Rattle.std.proofs.Common.{ap, arith, inl, inr, length, subst, suc, sym, zero, ℕ, ◌+◌, ◌-◌, ◌<◌, ◌∙◌, ◌≡◌, ◌≤◌, ◌⊎◌}
use Rattle.std.proofs.lemmas.Bool.{cases_lt}
use Rattle.bk_tiling.specs.SquareGroups.{square_groups}
use Rattle.bk_tiling.specs.Tiling.{IsOneOf, IsTiling, Tiling}
use Rattle.bk_tiling.specs.declared.Square.{Square}
use Rattle.bk_layout.proofs.TilingLayouts.Edges.{left_of, meet, right_of, right_within, same_left, same_right, side}
use Rattle.bk_layout.proofs.TilingLayouts.LineEnds.{Ends}
use Rattle.bk_layout.proofs.TilingLayouts.NodeColumns.{HangsAt, hangs_at}
use Rattle.bk_layout.specs.TilingLayout.{line_number}
use Rattle.bk_layout.proofs.TilingLayouts.GroupNodes.{IsNode}

-- two squares meet in the column at the level
pub record IsEdge (t : Tiling) (x y : ℕ) : Type 0 where
  pub left : Square
  pub right : Square
  pub left_in : IsOneOf left t.squares
  pub right_in : IsOneOf right t.squares
  pub left_edge : left.x + left.s ≡ x
  pub right_edge : right.x ≡ x
  pub left_top : left.y ≤ y
  pub left_bottom : y < left.y + left.s
  pub right_top : right.y ≤ y
  pub right_bottom : y < right.y + right.s

-- a square that stands at the column, with its left or its right edge
abbrev pub IsBeside : ℕ → Square → Type 0
IsBeside x q = (q.x ≡ x) ⊎ (q.x + q.s ≡ x)

-- a square beside the line, in a column, that hangs from the node or ends on it
pub record IsMark (t : Tiling) (f x : ℕ) (u : ℕ) (node : IsNode t u) : Type 0 where
  pub square : Square
  pub is : IsOneOf square t.squares
  pub beside : IsBeside x square
  pub line : line_number t x square.y ≡ f
  pub at : (square.y ≡ node.level) ⊎ (square.y + square.s ≡ node.level)
  pub from_left : node.left ≤ x
  pub to_right : x ≤ node.right

module _ (t : Tiling) (tiling : IsTiling t) where
  -- at the right side of a square a square stands, so they meet
  pub edge_of_left : (x y : ℕ) (q : Square) → IsOneOf q t.squares → q.x + q.s ≡ x → x < t.width → q.y ≤ y → y < q.y + q.s → IsEdge t x y
  edge_of_left x y q h e wide a b = let z = right_of t tiling q y h a b (omega (arith, e, wide)) in
      record {
        left = q;
        right = z.square;
        left_in = h;
        right_in = z.is;
        left_edge = e;
        right_edge = z.has ∙ e;
        left_top = a;
        left_bottom = b;
        right_top = z.on.top;
        right_bottom = z.on.bottom;
      }

  -- a square's left side is an edge
  pub edge_of_right : (x y : ℕ) (q : Square) → IsOneOf q t.squares → q.x ≡ x → 0 < x → q.y ≤ y → y < q.y + q.s → IsEdge t x y
  edge_of_right x y q h e some a b = let z = left_of t tiling q y h a b (omega (arith, e, some)) in
      edge_of_left x y z.square z.is (z.has ∙ e) (omega (arith, e, side t tiling q h, right_within t tiling q h)) z.on.top z.on.bottom

  -- an edge goes on downwards unless the line ends
  edge_down : (x y : ℕ) → IsEdge t x y → (Ends t.squares x (suc y) → ⊥) → IsEdge t x (suc y)
  edge_down x y e not_end = cases (cases_lt (suc y) (e.left.y + e.left.s)) (cases_lt (suc y) (e.right.y + e.right.s))
    where
      cases : (suc y < e.left.y + e.left.s) ⊎ (e.left.y + e.left.s ≤ suc y) → (suc y < e.right.y + e.right.s)
          ⊎ (e.right.y + e.right.s ≤ suc y) → IsEdge t x (suc y)
      cases (inl h) k = edge_of_left x (suc y) e.left e.left_in e.left_edge
          (omega (arith, e.right_edge, side t tiling e.right e.right_in, right_within t tiling e.right e.right_in)) (omega (arith, e.left_top)) h
      cases (inr h) (inl k) = edge_of_right x (suc y) e.right e.right_in e.right_edge
          (omega (arith, e.left_edge, side t tiling e.left e.left_in)) (omega (arith, e.right_top)) k
      cases (inr h) (inr k) = absurd (not_end (record {
        left = e.left;
        right = e.right;
        left_in = e.left_in;
        right_in = e.right_in;
        left_edge = e.left_edge;
        right_edge = e.right_edge;
        left_bottom = omega (arith, h, e.left_bottom);
        right_bottom = omega (arith, k, e.right_bottom);
      }))

  -- an edge goes on as long as no line ends
  pub edge_along : (d x y : ℕ) → IsEdge t x y → ((c : ℕ) → y < c → c ≤ y + d → Ends t.squares x c → ⊥) → IsEdge t x (y + d)
  edge_along zero x y e none = subst (IsEdge t x) (omega arith) e
  edge_along (suc d) x y e none = subst (IsEdge t x) (omega arith)
      (edge_down x (y + d) (edge_along d x y e (λ c lo hi. none c lo (omega arith))) (none (suc (y + d)) (omega arith) (omega arith)))

  -- no square lies across an edge
  pub not_across : (x y : ℕ) (e : IsEdge t x y) (z : Square) → IsOneOf z t.squares → z.x < x → x < z.x + z.s → z.y ≤ y → y < z.y + z.s → ⊥
  not_across x y e z h a b c d = let same : z ≡ e.right =
      meet t tiling x y z e.right h e.right_in (record { left = omega (arith, a); right = b; top = c; bottom = d })
      (record {
        left = omega (arith, e.right_edge);
        right = omega (arith, e.right_edge, side t tiling e.right e.right_in);
        top =
            e.right_top;
        bottom = e.right_bottom;
      }) in
      omega (arith, a, e.right_edge, ap (λ (s : Square). s.x) same)

  -- no line ends along the side of a square that stands at the column
  pub not_along : (x c : ℕ) (q : Square) → IsOneOf q t.squares → IsBeside x q → q.y < c → c < q.y + q.s → Ends t.squares x c → ⊥
  not_along x c q h (inl e) lo hi k = let same : q ≡ k.right =
      same_left t tiling q k.right (c - 1) h k.right_in (e ∙ sym k.right_edge) (omega arith) (omega arith)
      (omega (arith, k.right_bottom, side t tiling k.right k.right_in)) (omega (arith, k.right_bottom, lo)) in
      omega (arith, hi, k.right_bottom, ap (λ (s : Square). s.y + s.s) same)
  not_along x c q h (inr e) lo hi k = let same : q ≡ k.left =
      same_right t tiling q k.left (c - 1) h k.left_in (e ∙ sym k.left_edge) (omega arith) (omega arith)
      (omega (arith, k.left_bottom, side t tiling k.left k.left_in)) (omega (arith, k.left_bottom, lo)) in
      omega (arith, hi, k.left_bottom, ap (λ (s : Square). s.y + s.s) same)

  -- two nodes of one level over one column are one
  pub same_node : (u v c : ℕ) (a : IsNode t u) (b : IsNode t v) → a.level ≡ b.level → a.left ≤ c → c < a.right → b.left ≤ c → c < b.right → u ≡ v
  same_node u v c a b level a1 a2 b1 b2 = cases a.inner b.inner
    where
      from : HangsAt t tiling u a c → u ≡ v
      from w = sym w.has ∙ b.hang_from w.square c w.is (omega (arith, level, (a.hang_to w.square w.is w.has).0)) b1 b2 w.on.left w.on.right

      cases : ((u < length (square_groups t.squares)) × (a.level < t.height))
          ⊎ ((u ≡ length (square_groups t.squares)) × (a.level ≡ t.height) × (a.left ≡ 0) × (a.right ≡ t.width))
          → ((v < length (square_groups t.squares)) × (b.level < t.height))
          ⊎ ((v ≡ length (square_groups t.squares)) × (b.level ≡ t.height) × (b.left ≡ 0) × (b.right ≡ t.width)) → u ≡ v
      cases (inl m) n = from (hangs_at t tiling u a c m.1 a1 a2)
      cases (inr m) (inl n) = absurd (omega (arith, level, m.1, n.1))
      cases (inr m) (inr n) = m.0 ∙ sym n.0
