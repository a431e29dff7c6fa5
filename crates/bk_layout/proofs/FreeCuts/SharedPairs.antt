-- Lines and nodes that words share: two lines at one open segment, and a closed node.
use Rattle.std.proofs.Common.{List, Some, ap, arith, inl, inr, length, refl, slice_get, slice_index_or, subst, sym, ℕ, ◌++◌, ◌+◌, ◌-◌, ◌<◌, ◌∙◌, ◌≡◌, ◌≤◌, ◌⊎◌}
use Rattle.std.proofs.lemmas.Bool.{cases_lt}
use Rattle.std.proofs.lemmas.Option.{same_Some, slice_get-get_or}
use Rattle.bk_word.specs.Outline.{start}
use Rattle.bk_word.specs.Play.{AreLegalFrom, outline_of}
use Rattle.bk_word.specs.Word.{Word}
use Rattle.bk_word_net.proofs.WordFlows.NoLoose.{Played, played_moves, played_start}
use Rattle.bk_layout.specs.Layout.{Fits, Layout}
use Rattle.bk_layout.specs.LayoutLaws.{IsWordOfLayout}
use Rattle.bk_layout.specs.SimpleLayout.{AreOutermost, HasOneBetween, IsSimpleLayout, Touches}
use Rattle.bk_word.proofs.PlayLaws.{legal_front}
use Rattle.bk_layout.proofs.Sweeps.OpenRuns.{open_segments_end_together}
use Rattle.bk_layout.proofs.FreeCuts.SharedLines.{above_is, closed_less, fresh, node_apart, open_low}
use Rattle.bk_layout.proofs.FreeCuts.ClosedNodes.{from_closed, touches_closed}
use Rattle.bk_layout.specs.OpenSegments.{EndsTogether}
use Rattle.bk_layout.specs.SharedNodes.{AreLinesApart, LinesShareTheNodeAbove}

module _ (l : Layout) (fits : Fits l) (simple : IsSimpleLayout l) (lines : AreLinesApart l) (w : Word) (word : IsWordOfLayout l w)
    (front rest : Word) (is : w ≡ front ++ rest)
    (x i j a b : ℕ) (s : List ℕ) (e : slice_get (outline_of front).segments x ≡ Some s) (f : slice_get s i ≡ Some a)
    (g : slice_get s j ≡ Some b) (order : i ≤ j) (v : ℕ) (closed : v < length (outline_of front).closed) where
  played : Played (outline_of front)
  played = played_moves start front (legal_front start front rest (subst (AreLegalFrom start) is (word.complete).legal)) played_start

  t : EndsTogether l (λ number. word.square (number - 1)) s
  t = open_segments_end_together l w front rest word is x s e

  abbrev left_line : ℕ
  left_line = l.left (word.square (a - 1))

  abbrev right_line : ℕ
  right_line = l.right (word.square (b - 1))

  a_is : (word.square (a - 1) < l.squares) × (l.below (word.square (a - 1)) ≡ t.node)
  a_is = fits.lists.ending_is t.node (t.from + i) (word.square (a - 1)) (t.stands i a f)

  b_is : (word.square (b - 1) < l.squares) × (l.below (word.square (b - 1)) ≡ t.node)
  b_is = fits.lists.ending_is t.node (t.from + j) (word.square (b - 1)) (t.stands j b g)

  a_low : (1 ≤ a) × (a ≤ length (outline_of front).hung)
  a_low = open_low l fits w word front rest is x i a s e f

  not_node : (u : ℕ) → u < length (outline_of front).closed → t.node ≡ word.node u → ⊥
  not_node u h k = fresh l fits w word front rest is x i a s e f u h (a_is.1 ∙ k)

  -- one square between the two lines, that ends on the open segment's node
  module _ (z : ℕ) (within : z < l.squares) (top : l.above z ≡ word.node v) (bottom : l.below z ≡ t.node) where
    place : (k : ℕ) × (slice_get (l.ending t.node) k ≡ Some z)
    place = subst (λ (u : ℕ). (k : ℕ) × (slice_get (l.ending u) k ≡ Some z)) bottom (fits.lists.ends z within)

    is_it : l.left z ≡ left_line → l.right z ≡ right_line → (i ≡ j) × (slice_get (outline_of front).hung (a - 1) ≡ Some v)
    is_it h k = (omega (arith, at_a, at_b), slice_get-get_or (outline_of front).hung (a - 1) 0 low ∙ ap (λ (u : ℕ). Some u) same_node)
      where
        at_a : place.0 ≡ t.from + i
        at_a = lines.lefts t.node place.0 (t.from + i) z (word.square (a - 1)) place.1 (t.stands i a f) h

        at_b : place.0 ≡ t.from + j
        at_b = lines.rights t.node place.0 (t.from + j) z (word.square (b - 1)) place.1 (t.stands j b g) k

        same : z ≡ word.square (a - 1)
        same = same_Some z (word.square (a - 1)) (sym place.1 ∙ ap (λ (n : ℕ). slice_get (l.ending t.node) n) at_a ∙ t.stands i a f)

        low : a - 1 < length (outline_of front).hung
        low = omega (arith, a_low.0, a_low.1)

        same_node : slice_index_or (outline_of front).hung (a - 1) 0 ≡ v
        same_node = node_apart l fits w word (slice_index_or (outline_of front).hung (a - 1) 0) v
            (omega (arith, played.below (a - 1) low, closed_less l fits w word front rest is)) (omega (arith, closed, closed_less l fits w word front rest is))
            (sym (above_is l fits w word front rest is (a - 1) (slice_index_or (outline_of front).hung (a - 1) 0)
            (slice_get-get_or (outline_of front).hung (a - 1) 0 low)) ∙ ap l.above (sym same) ∙ top)

    own : l.left z ≡ l.right z → ⊥
    own h = lines.order t.node place.0 place.0 z z place.1 place.1 (omega arith) h

    exchanged : l.left z ≡ right_line → l.right z ≡ left_line → ⊥
    exchanged h k = cases (cases_lt place.0 (t.from + i))
      where
        cases : (place.0 < t.from + i) ⊎ (t.from + i ≤ place.0) → ⊥
        cases (inl q) = lines.order t.node place.0 (t.from + j) z (word.square (b - 1)) place.1 (t.stands j b g) (omega (arith, q, order)) h
        cases (inr q) = lines.order t.node (t.from + i) place.0 (word.square (a - 1)) z (t.stands i a f) place.1 q (sym k)

    sides : (l.left z ≡ left_line) ⊎ (l.left z ≡ right_line) → (l.right z ≡ left_line) ⊎ (l.right z ≡ right_line) → (i ≡ j)
        × (slice_get (outline_of front).hung (a - 1) ≡ Some v)
    sides (inl h) (inl k) = absurd (own (h ∙ sym k))
    sides (inl h) (inr k) = is_it h k
    sides (inr h) (inl k) = absurd (exchanged h k)
    sides (inr h) (inr k) = absurd (own (h ∙ sym k))

  one_between : HasOneBetween l left_line right_line (word.node v) t.node → (i ≡ j) × (slice_get (outline_of front).hung (a - 1) ≡ Some v)
  one_between z = nodes z.above z.under
    where
      down : l.above z.square ≡ l.below z.square → ⊥
      down h = omega (arith, fits.nodes.rises z.square z.within, ap fits.nodes.rank h)

      nodes : (l.above z.square ≡ word.node v) ⊎ (l.above z.square ≡ t.node) → (l.below z.square ≡ word.node v)
          ⊎ (l.below z.square ≡ t.node) → (i ≡ j) × (slice_get (outline_of front).hung (a - 1) ≡ Some v)
      nodes (inl h) (inl k) = absurd (down (h ∙ sym k))
      nodes (inl h) (inr k) = sides z.square z.within h k z.left z.right
      nodes (inr h) (inl k) = let c = from_closed l fits w word front rest is v closed z.square z.within k in absurd (not_node c.0 c.1 (sym h ∙ c.2))
      nodes (inr h) (inr k) = absurd (down (h ∙ sym k))

  shared : Touches l left_line (word.node v) → Touches l right_line (word.node v)
      → ((i ≡ j) × (slice_get (outline_of front).hung (a - 1) ≡ Some v)) ⊎ ((left_line ≡ 0) × (right_line ≡ 1)) ⊎ ((left_line ≡ 1) × (right_line ≡ 0))
  shared m n = cases (simple.parts left_line right_line (word.node v) t.node
      (λ h. lines.order t.node (t.from + i) (t.from + j) (word.square (a - 1)) (word.square (b - 1)) (t.stands i a f) (t.stands j b g) (omega (arith, order)) h)
      (λ h. not_node v closed (sym h)) m
      (record { square = word.square (a - 1); within = a_is.0; beside = inl refl; at = inr a_is.1 }) n
      (record { square = word.square (b - 1); within = b_is.0; beside = inr refl; at = inr b_is.1 }))
    where
      cases : HasOneBetween l left_line right_line (word.node v) t.node ⊎ AreOutermost l left_line right_line (word.node v) t.node
          → ((i ≡ j) × (slice_get (outline_of front).hung (a - 1) ≡ Some v)) ⊎ ((left_line ≡ 0) × (right_line ≡ 1)) ⊎ ((left_line ≡ 1) × (right_line ≡ 0))
      cases (inl z) = inl (one_between z)
      cases (inr o) = inr o.lines

-- the law: else two lines and two nodes would bound a part
pub lines_share_the_node_above : LinesShareTheNodeAbove
lines_share_the_node_above l w front rest fits simple lines word is x i j a b v c d s e f g order at_c beside_c at_d beside_d =
    shared l fits simple lines w word front rest is x i j a b s e f g order v at_c.closed
    (touches_closed l fits w word front rest is v at_c.closed c (l.left (word.square (a - 1))) at_c beside_c)
    (touches_closed l fits w word front rest is v at_c.closed d (l.right (word.square (b - 1))) at_d beside_d)
