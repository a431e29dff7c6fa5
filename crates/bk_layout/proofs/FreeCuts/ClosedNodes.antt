-- A node that first moves of a word have closed: what ends on it hangs from a closed one too, and lines of squares at it touch it.
use Rattle.std.proofs.Common.{List, Some, [], ap, arith, inl, inr, length, slice_get, slice_index_or, subst, suc, sym, ℕ, ◌++◌, ◌+◌, ◌<◌, ◌∙◌, ◌≡◌, ◌⊎◌}
use Rattle.std.proofs.lemmas.List.{length-append}
use Rattle.std.proofs.lemmas.Option.{slice_get-get_or}
use Rattle.bk_laws.proofs.Occurrences.{times, times_at, times_in-append}
use Rattle.bk_laws.proofs.ListPlaces.{get_some, slice_index_or-of_slice_get}
use Rattle.bk_word.specs.Outline.{start}
use Rattle.bk_word.specs.Play.{AreLegalFrom, outline_of}
use Rattle.bk_word.specs.Word.{Word}
use Rattle.bk_word_net.proofs.WordFlows.NoLoose.{Played, played_moves, played_start}
use Rattle.bk_word_net.proofs.Outlines.Numbering.{HasPlace, times_some}
use Rattle.bk_word_net.specs.WordNet.{end_of}
use Rattle.bk_layout.specs.Layout.{Fits, Layout}
use Rattle.bk_layout.specs.LayoutLaws.{IsWordOfLayout}
use Rattle.bk_layout.specs.SimpleLayout.{Touches}
use Rattle.bk_word.proofs.PlayLaws.{legal_front}
use Rattle.bk_layout.proofs.FreeCuts.SharedLines.{above_is, below_is, closed_got, closed_less, hung_less, node_apart, place_of, square_low, wire}
use Rattle.bk_layout.proofs.FreeCuts.SharedSquares.{numbered_square}
use Rattle.bk_layout.specs.SharedNodes.{IsAtClosed}

module _ (l : Layout) (fits : Fits l) (w : Word) (word : IsWordOfLayout l w) (front rest : Word) (is : w ≡ front ++ rest)
    (v : ℕ) (closed : v < length (outline_of front).closed) where
  played : Played (outline_of front)
  played = played_moves start front (legal_front start front rest (subst (AreLegalFrom start) is (word.complete).legal)) played_start

  -- a square of the layout that ends on this node hangs from a closed one
  pub from_closed : (z : ℕ) → z < l.squares → l.below z ≡ word.node v → (u : ℕ) × (u < length (outline_of front).closed) × (l.above z ≡ word.node u)
  from_closed z h bottom = at (numbered_square l fits w word z h)
    where
      at : (k : ℕ) × (k < length (outline_of w).hung) × (word.square k ≡ z)
          → (u : ℕ) × (u < length (outline_of front).closed) × (l.above z ≡ word.node u)
      at (k, low, same) = from (get_some (outline_of front).closed v closed)
        where
          p : HasPlace (1 + k) ((outline_of w).closed ++ (outline_of w).segments) (end_of ((outline_of w).closed ++ (outline_of w).segments) (1 + k))
          p = place_of l fits w word k low

          at_v : end_of ((outline_of w).closed ++ (outline_of w).segments) (1 + k) ≡ v
          at_v = node_apart l fits w word (end_of ((outline_of w).closed ++ (outline_of w).segments) (1 + k)) v
              (omega (arith, p.below, length-append (outline_of w).closed (outline_of w).segments, (word.complete).one))
              (omega (arith, closed, closed_less l fits w word front rest is))
              (sym (wire l fits w word k low).1 ∙ ap l.below same ∙ bottom)

          from : (numbers : List ℕ) × (slice_get (outline_of front).closed v ≡ Some numbers)
              → (u : ℕ) × (u < length (outline_of front).closed) × (l.above z ≡ word.node u)
          from (numbers, q) = (
            slice_index_or (outline_of front).hung k 0,
            played.below k within,
            ap l.above (sym same) ∙ above_is l fits w word front rest is k (slice_index_or (outline_of front).hung k 0)
                (slice_get-get_or (outline_of front).hung k 0 within),
          )
            where
              there : 0 < times (1 + k) (slice_index_or (outline_of front).closed v [])
              there = subst (λ (xs : List ℕ). 0 < times (1 + k) xs)
                  (slice_index_or-of_slice_get ((outline_of w).closed ++ (outline_of w).segments) v numbers
                  (closed_got l fits w word front rest is v numbers q) ∙ sym (slice_index_or-of_slice_get (outline_of front).closed v numbers q))
                  (subst (λ (u : ℕ). 0 < times (1 + k) (slice_index_or ((outline_of w).closed ++ (outline_of w).segments) u [])) at_v p.here)

              within : k < length (outline_of front).hung
              within = omega (
                arith,
                (times_some (1 + k) 1 (length (outline_of front).hung)
                    (omega (
                      arith,
                      there,
                      times_at (1 + k) v (outline_of front).closed,
                      played.numbered (1 + k),
                      times_in-append (1 + k) (outline_of front).closed (outline_of front).segments,
                    ))).1,
              )

  -- a line at the side of a square at this node touches it
  pub touches_closed : (c line : ℕ) → IsAtClosed (outline_of front) c v → (l.left (word.square c) ≡ line) ⊎ (l.right (word.square c) ≡ line)
      → Touches l line (word.node v)
  touches_closed c line at beside = record { square = word.square c; within = square_low l fits w word c low; beside = beside; at = node at.at }
    where
      low : c < length (outline_of w).hung
      low = omega (arith, at.within, hung_less l fits w word front rest is)

      node : (slice_get (outline_of front).hung c ≡ Some v)
          ⊎ ((k : ℕ) × (numbers : List ℕ) × (slice_get (outline_of front).closed v ≡ Some numbers) × (slice_get numbers k ≡ Some (suc c)))
          → (l.above (word.square c) ≡ word.node v) ⊎ (l.below (word.square c) ≡ word.node v)
      node (inl h) = inl (above_is l fits w word front rest is c v h)
      node (inr (k, numbers, h, q)) = inr (below_is l fits w word front rest is v numbers k c h q low)
