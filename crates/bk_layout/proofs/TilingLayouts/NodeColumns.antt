-- Over each column of a node one square hangs from it and one ends on it.
use Rattle.std.proofs.Common.{arith, inl, inr, length, ℕ, ◌+◌, ◌-◌, ◌<◌, ◌≡◌, ◌≤◌, ◌⊎◌}
use Rattle.std.proofs.lemmas.Bool.{cases_lt}
use Rattle.bk_tiling.specs.SquareGroups.{square_groups}
use Rattle.bk_tiling.specs.Tiling.{IsOneOf, IsTiling, Tiling}
use Rattle.bk_tiling.specs.declared.Square.{Square}
use Rattle.bk_net.specs.Diagram.{node_below}
use Rattle.bk_layout.proofs.TilingLayouts.Edges.{IsCell, IsThere, bottom_within, cell, meet, side, there}
use Rattle.bk_layout.specs.TilingLayout.{node_above}
use Rattle.bk_layout.proofs.TilingLayouts.GroupNodes.{IsNode}

-- levels and heights
module _ (t : Tiling) (tiling : IsTiling t) (v : ℕ) (node : IsNode t v) where
  -- the square hangs from the node
  abbrev pub Hung : Square → Type 0
  Hung q = node_above (square_groups t.squares) q ≡ v

  -- the square ends on the node
  abbrev pub Ended : Square → Type 0
  Ended q = node_below (square_groups t.squares) q ≡ v

  -- a node lies within the height
  pub level_within : node.level ≤ t.height
  level_within = cases node.inner
    where
      cases : ((v < length (square_groups t.squares)) × (node.level < t.height))
          ⊎ ((v ≡ length (square_groups t.squares)) × (node.level ≡ t.height) × (node.left ≡ 0) × (node.right ≡ t.width)) → node.level ≤ t.height
      cases (inl h) = omega (arith, h.1)
      cases (inr h) = omega (arith, h.1)

  -- over each column some square hangs, and some square ends
  abbrev pub HangsAt : ℕ → Type 0
  HangsAt c = IsThere t tiling Hung c node.level

  -- over each column of a node but the bottom some square hangs from it
  pub hangs_at : (c : ℕ) → node.level < t.height → node.left ≤ c → c < node.right → HangsAt c
  hangs_at c low lo hi = let w = cell t tiling c node.level (omega (arith, node.wide, hi)) low in
      there t tiling Hung c node.level w (node.hang_from w.square c w.is (node.under w.square c w.is lo hi w.on) lo hi w.on.left w.on.right)

  -- a square over a column that ends on the node
  abbrev pub EndsAt : ℕ → Type 0
  EndsAt c = IsThere t tiling Ended c (node.level - 1)

  -- over each column of a node but the top some square ends on it
  pub ends_at : (c : ℕ) → 0 < node.level → node.left ≤ c → c < node.right → EndsAt c
  ends_at c some lo hi = there t tiling Ended c (node.level - 1) w
      (node.end_from w.square c w.is (ends (cases_lt node.level (w.square.y + w.square.s))) lo hi w.on.left w.on.right)
    where
      w : IsCell t tiling c (node.level - 1)
      w = cell t tiling c (node.level - 1) (omega (arith, node.wide, hi)) (omega (arith, some, level_within))

      ends : (node.level < w.square.y + w.square.s) ⊎ (w.square.y + w.square.s ≤ node.level) → w.square.y + w.square.s ≡ node.level
      ends (inr h) = omega (arith, h, w.on.bottom)
      ends (inl h) = absurd (omega (
        arith,
        some,
        w.on.top,
        node.under w.square c w.is lo hi (record { left = w.on.left; right = w.on.right; top = omega (arith, w.on.top); bottom = h }),
      ))

  -- a node from which a square hangs is above the bottom
  pub low_if_hung : (q : Square) → IsOneOf q t.squares → Hung q → node.level < t.height
  low_if_hung q h e = omega (arith, (node.hang_to q h e).0, side t tiling q h, bottom_within t tiling q h)

  -- a node on which a square ends is below the top
  pub deep_if_ended : (q : Square) → IsOneOf q t.squares → Ended q → 0 < node.level
  deep_if_ended q h e = omega (arith, (node.end_to q h e).0, side t tiling q h)

  -- squares that fill the node: they lie within its ends and share a level, and if there are any, one stands over each column
  pub record DoFill (P : Square → Type 0) : Type 0 where
    pub level : ℕ
    pub within : (q : Square) → IsOneOf q t.squares → P q → (q.y ≤ level) × (level < q.y + q.s) × (node.left ≤ q.x) × (q.x + q.s ≤ node.right)
    pub over : (q : Square) → IsOneOf q t.squares → P q → (c : ℕ) → node.left ≤ c → c < node.right → IsThere t tiling P c level

  -- the squares that hang from a node fill it
  pub hung_fill : DoFill Hung
  hung_fill = record {
    level = node.level;
    within = λ q h e. let k = node.hang_to q h e in (omega (arith, k.0), omega (arith, k.0, side t tiling q h), k.1, k.2);
    over = λ q h e c. hangs_at c (low_if_hung q h e);
  }

  -- the squares that end on a node fill it
  pub ended_fill : DoFill Ended
  ended_fill = record {
    level = node.level - 1;
    within = λ q h e. let k = node.end_to q h e in (omega (arith, k.0, side t tiling q h), omega (arith, k.0, side t tiling q h), k.1, k.2);
    over = λ q h e c. ends_at c (deep_if_ended q h e);
  }

  -- squares that fill the node, over one column, are one
  pub filled_once : (P : Square → Type 0) → DoFill P → (c : ℕ) (q r : Square) → IsOneOf q t.squares → IsOneOf r t.squares → P q → P r → q.x ≤ c
      → c < q.x + q.s → r.x ≤ c → c < r.x + r.s → q ≡ r
  filled_once P fill c q r h k e f a b d g = meet t tiling c fill.level q r h k
      (record { left = a; right = b; top = (fill.within q h e).0; bottom = (fill.within q h e).1 })
      (record { left = d; right = g; top = (fill.within r k f).0; bottom = (fill.within r k f).1 })

  -- squares of one node over one column are one
  pub one_hung : (c : ℕ) (q r : Square) → IsOneOf q t.squares → IsOneOf r t.squares → Hung q → Hung r → q.x ≤ c → c < q.x + q.s → r.x ≤ c
      → c < r.x + r.s → q ≡ r
  one_hung = filled_once Hung hung_fill

  -- two squares that end on one node over one column are one
  pub one_ended : (c : ℕ) (q r : Square) → IsOneOf q t.squares → IsOneOf r t.squares → Ended q → Ended r → q.x ≤ c → c < q.x + q.s → r.x ≤ c
      → c < r.x + r.s → q ≡ r
  one_ended = filled_once Ended ended_fill
