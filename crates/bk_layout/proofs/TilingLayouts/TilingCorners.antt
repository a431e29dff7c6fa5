-- The lines around a node of a tiling are apart.
use Rattle.std.proofs.Common.{Some, ap, arith, inl, inr, length, slice_get, sym, ℕ, ◌+◌, ◌-◌, ◌<◌, ◌∙◌, ◌≡◌, ◌≤◌}
use Rattle.std.proofs.lemmas.Option.{same_Some}
use Rattle.bk_tiling.specs.SquareGroups.{square_groups}
use Rattle.bk_tiling.specs.Tiling.{IsTiling, Tiling, square_of}
use Rattle.bk_net.specs.Diagram.{node_below}
use Rattle.bk_layout.proofs.Lists.AscendingPlaces.{has_place}
use Rattle.bk_layout.proofs.TilingLayouts.LineNumbers.{number_column}
use Rattle.bk_layout.proofs.TilingLayouts.NodeColumns.{one_hung}
use Rattle.bk_layout.proofs.TilingLayouts.TilingSquares.{ended, ended_one, ended_to, hung_node, hung_to, key, one_number}
use Rattle.bk_layout.specs.TilingLayout.{layout_of, node_above}
use Rattle.bk_layout.proofs.TilingLayouts.ApartLines.{lines_of_a_tiling_are_apart}
use Rattle.bk_layout.specs.SharedNodes.{AreLinesApart}
use Rattle.bk_layout.specs.NodeCorners.{AreCornersApart, IsAfter, IsBefore}
use Rattle.bk_layout.proofs.TilingLayouts.ApartNodes.{apart_left, apart_right, is_in, low, some}

module _ (t : Tiling) (tiling : IsTiling t) where
  -- squares that end on one node, and squares that hang from one
  place : (v x : ℕ) → x < length t.squares → node_below (square_groups t.squares) (square_of t x) ≡ v → (k : ℕ)
      × (slice_get ((layout_of t).ending v) k ≡ Some x)
  place v x h e = has_place (key t tiling) (ended t tiling v) (length t.squares) (ended_one t tiling v) x h (ended_to t tiling v x e)

  apart : AreLinesApart (layout_of t)
  apart = lines_of_a_tiling_are_apart t tiling

  one_place : (v x y a b : ℕ) → slice_get ((layout_of t).ending v) a ≡ Some x → slice_get ((layout_of t).ending v) b ≡ Some y → a ≡ b → x ≡ y
  one_place v x y a b e f i = same_Some x y (sym e ∙ ap (slice_get ((layout_of t).ending v)) i ∙ f)

  ended_left : (v x y : ℕ) → x < length t.squares → y < length t.squares → node_below (square_groups t.squares) (square_of t x) ≡ v
      → node_below (square_groups t.squares) (square_of t y) ≡ v → (layout_of t).left x ≡ (layout_of t).left y → x ≡ y
  ended_left v x y h k e f same = let a = place v x h e in let b = place v y k f in one_place v x y a.0 b.0 a.1 b.1 (apart.lefts v a.0 b.0 x y a.1 b.1 same)

  ended_right : (v x y : ℕ) → x < length t.squares → y < length t.squares → node_below (square_groups t.squares) (square_of t x) ≡ v
      → node_below (square_groups t.squares) (square_of t y) ≡ v → (layout_of t).right x ≡ (layout_of t).right y → x ≡ y
  ended_right v x y h k e f same = let a = place v x h e in let b = place v y k f in one_place v x y a.0 b.0 a.1 b.1 (apart.rights v a.0 b.0 x y a.1 b.1 same)

  hung_both : (v x y c : ℕ) → x < length t.squares → y < length t.squares → node_above (square_groups t.squares) (square_of t x) ≡ v
      → node_above (square_groups t.squares) (square_of t y) ≡ v
      → (square_of t x).x ≤ c → c < (square_of t x).x + (square_of t x).s → (square_of t y).x ≤ c → c < (square_of t y).x + (square_of t y).s → x ≡ y
  hung_both v x y c h k e f a b d g = one_number t tiling x y h k
      (one_hung t tiling v (hung_node t tiling v x h (hung_to t tiling v x e)) c (square_of t x) (square_of t y) (is_in t tiling x h) (is_in t tiling y k)
      e f a b d g)

  hung_left : (v x y : ℕ) → x < length t.squares → y < length t.squares → node_above (square_groups t.squares) (square_of t x) ≡ v
      → node_above (square_groups t.squares) (square_of t y) ≡ v → (layout_of t).left x ≡ (layout_of t).left y → x ≡ y
  hung_left v x y h k e f same = hung_both v x y (square_of t x).x h k e f (omega arith) (omega (arith, some t tiling x h)) (omega (arith, column))
      (omega (arith, column, some t tiling y k))
    where
      column : (square_of t x).x ≡ (square_of t y).x
      column = number_column t (square_of t x).x (square_of t x).y (square_of t y).x (square_of t y).y (low t tiling x h) (low t tiling y k) same

  hung_right : (v x y : ℕ) → x < length t.squares → y < length t.squares → node_above (square_groups t.squares) (square_of t x) ≡ v
      → node_above (square_groups t.squares) (square_of t y) ≡ v → (layout_of t).right x ≡ (layout_of t).right y → x ≡ y
  hung_right v x y h k e f same = hung_both v x y ((square_of t x).x + (square_of t x).s - 1) h k e f (omega (arith, some t tiling x h))
      (omega (arith, some t tiling x h)) (omega (arith, column, some t tiling x h, some t tiling y k)) (omega (arith, column, some t tiling x h))
    where
      column : (square_of t x).x + (square_of t x).s ≡ (square_of t y).x + (square_of t y).s
      column = number_column t ((square_of t x).x + (square_of t x).s) (square_of t x).y ((square_of t y).x + (square_of t y).s)
          (square_of t y).y (low t tiling x h) (low t tiling y k) same

  before : (v x y f : ℕ) → x < length t.squares → y < length t.squares → IsBefore (layout_of t) v x f → IsBefore (layout_of t) v y f → x ≡ y
  before v x y f h k (inl a) (inl b) = ended_left v x y h k a.0 b.0 (a.1 ∙ sym b.1)
  before v x y f h k (inl a) (inr b) = absurd (apart_left t tiling v x y h k a.0 b.0 (a.1 ∙ sym b.1))
  before v x y f h k (inr a) (inl b) = absurd (apart_left t tiling v y x k h b.0 a.0 (b.1 ∙ sym a.1))
  before v x y f h k (inr a) (inr b) = hung_right v x y h k a.0 b.0 (a.1 ∙ sym b.1)

  after : (v x y f : ℕ) → x < length t.squares → y < length t.squares → IsAfter (layout_of t) v x f → IsAfter (layout_of t) v y f → x ≡ y
  after v x y f h k (inl a) (inl b) = ended_right v x y h k a.0 b.0 (a.1 ∙ sym b.1)
  after v x y f h k (inl a) (inr b) = absurd (apart_right t tiling v x y h k a.0 b.0 (a.1 ∙ sym b.1))
  after v x y f h k (inr a) (inl b) = absurd (apart_right t tiling v y x k h b.0 a.0 (b.1 ∙ sym a.1))
  after v x y f h k (inr a) (inr b) = hung_left v x y h k a.0 b.0 (a.1 ∙ sym b.1)

  -- the lines around each node of a tiling's layout are apart
  pub corners : AreCornersApart (layout_of t)
  corners = record { before = before; after = after }
