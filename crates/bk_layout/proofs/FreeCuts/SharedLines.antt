-- Lines and nodes that words share: the nodes and squares of a word against those of its layout.
use Rattle.std.proofs.Common.{List, Some, [], ap, arith, length, option_map, replicate, slice_get, slice_index_or, subst}
use Rattle.std.proofs.Common.{suc, sym, ℕ, ◌++◌, ◌+◌, ◌-◌, ◌<◌, ◌∙◌, ◌∷◌, ◌≡◌, ◌≤◌}
use Rattle.std.proofs.lemmas.List.{append-nil, append_assoc, length-append}
use Rattle.std.proofs.lemmas.Option.{get_or_from_slice_get, slice_get_within, some_pair_parts}
use Rattle.bk_laws.proofs.Occurrences.{times, times-positive_in_list_at, times_at, times_in, times_in-append}
use Rattle.bk_laws.proofs.ListPlaces.{get_append, get_map, get_some, slice_index_or-of_slice_get}
use Rattle.bk_laws.proofs.TestsAsNumbers.{nat_eq-same_if_counted}
use Rattle.bk_word.specs.Outline.{Outline, start, valley_of}
use Rattle.bk_word.specs.Play.{after_move, after_moves, numbers_from, outline_of}
use Rattle.bk_word.specs.Word.{Word}
use Rattle.bk_word_net.proofs.Outlines.Numbering.{HasPlace, Numbered, numbered_moves, numbered_start, place_of_number, times_one, times_some}
use Rattle.bk_word_net.proofs.WordFlows.PlacesInLists.{wires_got}
use Rattle.bk_word_net.proofs.Outlines.Shape.{hung_many}
use Rattle.bk_word_net.proofs.WordFlows.Wires.{wires_length}
use Rattle.bk_word_net.specs.WordNet.{end_of, net_of_word}
use Rattle.bk_layout.specs.Layout.{Fits, Layout, net_of_layout}
use Rattle.bk_layout.specs.LayoutLaws.{IsWordOfLayout}
use Rattle.bk_word.proofs.PlayLaws.{after_moves-append}
use Rattle.bk_layout.proofs.NormalCuts.MarkedSquares.{numbers_at}

closed_grows : (o : Outline) (w : Word) → (more : List (List ℕ)) × ((after_moves o w).closed ≡ o.closed ++ more)
closed_grows o [] = ([], sym (append-nil o.closed))
closed_grows o (m ∷ w) = let r = closed_grows (after_move o m) w in ((valley_of o ∷ []) ++ r.0, r.1 ∙ append_assoc o.closed (valley_of o ∷ []) r.0)

hung_grows : (o : Outline) (w : Word) → (more : List ℕ) × ((after_moves o w).hung ≡ o.hung ++ more)
hung_grows o [] = ([], sym (append-nil o.hung))
hung_grows o (m ∷ w) = let r = hung_grows (after_move o m) w in
    (replicate m.count (length o.closed) ++ r.0, r.1 ∙ append_assoc o.hung (replicate m.count (length o.closed)) r.0)

-- a number stands in one list alone
one_place : (m : ℕ) (lists : List (List ℕ)) (place v : ℕ) → HasPlace m lists place → 0 < times m (slice_index_or lists v []) → place ≡ v
one_place m lists place v p h = nat_eq-same_if_counted place v (omega (arith, h, p.counts v))

module _ (l : Layout) (fits : Fits l) (w : Word) (word : IsWordOfLayout l w) where
  numbered_w : Numbered (outline_of w)
  numbered_w = numbered_moves start w numbered_start

  -- a word hangs as many squares as the layout has
  pub hung_w : length (outline_of w).hung ≡ l.squares
  hung_w = omega (arith, hung_many start w, word.order)

  wires_w : length (net_of_word w).wires ≡ length (outline_of w).hung
  wires_w = wires_length (end_of ((outline_of w).closed ++ (outline_of w).segments)) 1 (outline_of w).hung

  -- the squares of a word are squares of the layout
  pub square_low : (k : ℕ) → k < length (outline_of w).hung → word.square k < l.squares
  square_low k h = omega (arith, hung_w, wires_w, word.net.wire_apart.below k (omega (arith, h, wires_w)))

  -- no two squares of a word are one of the layout
  pub square_apart : (j k : ℕ) → j < length (outline_of w).hung → k < length (outline_of w).hung → word.square j ≡ word.square k → j ≡ k
  square_apart j k a b e = word.net.wire_apart.apart j k (omega (arith, a, wires_w)) (omega (arith, b, wires_w)) e

  -- no two nodes of a word are one of the layout
  pub node_apart : (u v : ℕ) → u ≤ length (outline_of w).closed → v ≤ length (outline_of w).closed → word.node u ≡ word.node v → u ≡ v
  node_apart u v a b e = word.net.node_apart.apart u v (omega (arith, a)) (omega (arith, b)) e

  -- a square's nodes in the layout are those of its wire in the word's net
  pub wire : (k : ℕ) → k < length (outline_of w).hung
      → (l.above (word.square k) ≡ word.node (slice_index_or (outline_of w).hung k 0))
      × (l.below (word.square k) ≡ word.node (end_of ((outline_of w).closed ++ (outline_of w).segments) (1 + k)))
  wire k h = some_pair_parts (l.above (word.square k)) (word.node (slice_index_or (outline_of w).hung k 0)) (l.below (word.square k))
      (word.node (end_of ((outline_of w).closed ++ (outline_of w).segments) (1 + k)))
      (sym there ∙ word.net.each k (omega (arith, h, wires_w))
      ∙ ap (option_map (λ (x : ℕ × ℕ). (word.node x.0, word.node x.1)))
      (wires_got (end_of ((outline_of w).closed ++ (outline_of w).segments)) 1 (outline_of w).hung k h))
    where
      there : slice_get (net_of_layout l).wires (word.square k) ≡ Some (l.above (word.square k), l.below (word.square k))
      there = get_map (λ (q : ℕ). (l.above q, l.below q)) (numbers_from 0 l.squares) (word.square k) (word.square k)
          (numbers_at 0 l.squares (word.square k) (square_low k h) ∙ ap (λ (x : ℕ). Some x) (omega arith))

  -- each square of the word ends in one list of the closed and the open
  pub place_of : (k : ℕ) → k < length (outline_of w).hung
      → HasPlace (1 + k) ((outline_of w).closed ++ (outline_of w).segments) (end_of ((outline_of w).closed ++ (outline_of w).segments) (1 + k))
  place_of k h = place_of_number (outline_of w) numbered_w (1 + k) (omega arith) (omega (arith, h))

  module _ (front rest : Word) (is : w ≡ front ++ rest) where
    o : Outline
    o = outline_of front

    at_end : outline_of w ≡ after_moves (outline_of front) rest
    at_end = ap outline_of is ∙ after_moves-append start front rest

    closed_then : (more : List (List ℕ)) × ((outline_of w).closed ≡ (outline_of front).closed ++ more)
    closed_then = let r = closed_grows (outline_of front) rest in (r.0, ap (λ (x : Outline). x.closed) at_end ∙ r.1)

    hung_then : (more : List ℕ) × ((outline_of w).hung ≡ (outline_of front).hung ++ more)
    hung_then = let r = hung_grows (outline_of front) rest in (r.0, ap (λ (x : Outline). x.hung) at_end ∙ r.1)

    -- first moves hang no more squares than the word
    pub hung_less : length (outline_of front).hung ≤ length (outline_of w).hung
    hung_less = omega (arith, ap length hung_then.1, length-append (outline_of front).hung hung_then.0)

    -- first moves of a word close no more nodes than the word
    pub closed_less : length (outline_of front).closed ≤ length (outline_of w).closed
    closed_less = omega (arith, ap length closed_then.1, length-append (outline_of front).closed closed_then.0)

    -- the node from which a square hangs after first moves is the layout's
    pub above_is : (k v : ℕ) → slice_get (outline_of front).hung k ≡ Some v → l.above (word.square k) ≡ word.node v
    above_is k v e = (wire k (omega (arith, slice_get_within (outline_of front).hung k v e, hung_less))).0
        ∙ ap word.node (get_or_from_slice_get (outline_of w).hung k v 0 (ap (λ (xs : List ℕ). slice_get xs k) hung_then.1
        ∙ get_append (outline_of front).hung hung_then.0 k v e))

    -- a node that is closed after first moves is closed as the same in the word
    pub closed_got : (v : ℕ) (numbers : List ℕ) → slice_get (outline_of front).closed v ≡ Some numbers
        → slice_get ((outline_of w).closed ++ (outline_of w).segments) v ≡ Some numbers
    closed_got v numbers e = get_append (outline_of w).closed (outline_of w).segments v numbers
        (ap (λ (xs : List (List ℕ)). slice_get xs v) closed_then.1 ∙ get_append (outline_of front).closed closed_then.0 v numbers e)

    -- the node on which a closed square ends is the layout's
    pub below_is : (v : ℕ) (numbers : List ℕ) (k c : ℕ) → slice_get (outline_of front).closed v ≡ Some numbers
        → slice_get numbers k ≡ Some (suc c) → c < length (outline_of w).hung → l.below (word.square c) ≡ word.node v
    below_is v numbers k c e f h = (wire c h).1
        ∙ ap word.node (one_place (1 + c) ((outline_of w).closed ++ (outline_of w).segments)
        (end_of ((outline_of w).closed ++ (outline_of w).segments) (1 + c)) v (place_of c h)
        (subst (λ (n : ℕ). 0 < times n (slice_index_or ((outline_of w).closed ++ (outline_of w).segments) v [])) same
        (times-positive_in_list_at ((outline_of w).closed ++ (outline_of w).segments) v numbers k (suc c) (closed_got v numbers e) f)))
      where
        same : suc c ≡ 1 + c
        same = omega arith

    -- ---- a square of an open segment does not end on a closed node

    module _ (x i a : ℕ) (s : List ℕ) (e : slice_get (outline_of front).segments x ≡ Some s) (f : slice_get s i ≡ Some a) where
      open_times : 0 < times_in a (outline_of front).segments
      open_times = omega (arith, times-positive_in_list_at (outline_of front).segments x s i a e f, times_at a x (outline_of front).segments)

      numbered_o : times_in a (outline_of front).closed + times_in a (outline_of front).segments ≡ times a (numbers_from 1 (length (outline_of front).hung))
      numbered_o = omega (arith, numbered_moves start front numbered_start a, times_in-append a (outline_of front).closed (outline_of front).segments)

      -- an open square was hung
      pub open_low : (1 ≤ a) × (a ≤ length (outline_of front).hung)
      open_low = let r = times_some a 1 (length (outline_of front).hung) (omega (arith, open_times, numbered_o)) in (r.0, omega (arith, r.1))

      open_within : a - 1 < length (outline_of w).hung
      open_within = omega (arith, open_low.0, open_low.1, hung_less)

      -- an open square ends on no node that is closed yet
      pub fresh : (v : ℕ) → v < length (outline_of front).closed → l.below (word.square (a - 1)) ≡ word.node v → ⊥
      fresh v low g = from (get_some (outline_of front).closed v low)
        where
          p : HasPlace (1 + (a - 1)) ((outline_of w).closed ++ (outline_of w).segments)
              (end_of ((outline_of w).closed ++ (outline_of w).segments) (1 + (a - 1)))
          p = place_of (a - 1) open_within

          at_v : end_of ((outline_of w).closed ++ (outline_of w).segments) (1 + (a - 1)) ≡ v
          at_v = node_apart (end_of ((outline_of w).closed ++ (outline_of w).segments) (1 + (a - 1))) v
              (omega (arith, p.below, length-append (outline_of w).closed (outline_of w).segments, (word.complete).one))
              (omega (arith, low, closed_less)) (sym (wire (a - 1) open_within).1 ∙ g)

          number : 1 + (a - 1) ≡ a
          number = omega (arith, open_low.0)

          from : (numbers : List ℕ) × (slice_get (outline_of front).closed v ≡ Some numbers) → ⊥
          from (numbers, h) = omega (
            arith,
            times_one a 1 (length (outline_of front).hung) open_low.0 (omega (arith, open_low.1)),
            numbered_o,
            open_times,
            times_at a v (outline_of front).closed,
            there,
          )
            where
              there : 0 < times a (slice_index_or (outline_of front).closed v [])
              there = subst (λ (xs : List ℕ). 0 < times a xs)
                  (slice_index_or-of_slice_get ((outline_of w).closed ++ (outline_of w).segments) v numbers (closed_got v numbers h)
                  ∙ sym (slice_index_or-of_slice_get (outline_of front).closed v numbers h))
                  (subst (λ (n : ℕ). 0 < times n (slice_index_or ((outline_of w).closed ++ (outline_of w).segments) v [])) number
                  (subst (λ (u : ℕ). 0 < times (1 + (a - 1)) (slice_index_or ((outline_of w).closed ++ (outline_of w).segments) u [])) at_v p.here))
