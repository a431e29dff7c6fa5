-- The net of the word of a layout is the layout's net: nodes by the order of closing, squares by that of hanging.
use Rattle.std.proofs.Common.{List, Some, [], ap, arith, length, map, option_map, slice_get, slice_index_or, subst, suc, sym, zero, ℕ, ◌++◌}
use Rattle.std.proofs.Common.{◌+◌, ◌-◌, ◌<◌, ◌∙◌, ◌∷◌, ◌≡◌}
use Rattle.std.proofs.lemmas.List.{length-map, map-append}
use Rattle.std.proofs.lemmas.Option.{get_or_from_slice_get}
use Rattle.bk_laws.proofs.Occurrences.{slice_get-of_times_positive, times, times-map_positive}
use Rattle.bk_laws.proofs.ListPlaces.{get_append, get_map}
use Rattle.bk_laws.proofs.ListItems.{map-only_list, slice_index_or-map}
use Rattle.bk_laws.proofs.ZippedLists.{all_zip-slice_index_or}
use Rattle.bk_word.proofs.PlayLists.{numbers-length}
use Rattle.bk_word.specs.Outline.{Outline, start}
use Rattle.bk_word.specs.Play.{numbers_from, outline_of}
use Rattle.bk_word_net.proofs.Outlines.Numbering.{HasPlace, place_of_number}
use Rattle.bk_word_net.proofs.WordFlows.PlacesInLists.{wires_got}
use Rattle.bk_word_net.proofs.Outlines.Shape.{hung_many}
use Rattle.bk_word_net.proofs.WordFlows.Wires.{wires_length}
use Rattle.bk_word_net.specs.Renumbering.{IsRenumbering}
use Rattle.bk_word_net.specs.WordNet.{end_of, net_after}
use Rattle.bk_layout.proofs.Lists.SquareLists.{lists_at, sq_of}
use Rattle.bk_layout.proofs.Sweeps.Sweep.{State}
use Rattle.bk_layout.proofs.Sweeps.SweepEnd.{Ended, WholeSweep, laid_many, one_segment}
use Rattle.bk_layout.proofs.Sweeps.Trace.{sweep}
use Rattle.bk_layout.proofs.Sweeps.ValleySides.{AtLeft, walls_of}
use Rattle.bk_layout.proofs.Sweeps.Chains.{Chain}
use Rattle.bk_layout.proofs.Sweeps.LayoutNumbers.{closed_many, first_node, hung_is, last_node, node_apart, node_low, square_apart, square_low}
use Rattle.bk_layout.specs.Layout.{Fits, IsFirst, IsLast, Layout, net_of_layout}
use Rattle.bk_layout.specs.LayoutLaws.{ALayoutHasAFreeWord, IsWordOfLayout}

numbers_got : (from k n : ℕ) → k < n → slice_get (numbers_from from n) k ≡ Some (from + k)
numbers_got from k zero h = absurd (omega arith)
numbers_got from zero (suc n) h = ap (λ (x : ℕ). Some x) (omega arith)
numbers_got from (suc k) (suc n) h = numbers_got (from + 1) k n (omega arith) ∙ ap (λ (x : ℕ). Some x) (omega arith)

module _ (l : Layout) (fits : Fits l) (o : Outline) (st : State l o) (end : Ended l o st) where
  abbrev all_nodes : List ℕ
  all_nodes = st.done ++ (l.bottom ∷ [])

  -- the node of the layout by its place in the order of closing, the bottom last
  abbrev pub node : ℕ → ℕ
  node k = slice_index_or (st.done ++ (l.bottom ∷ [])) k 0

  -- the square of the layout by its place in the order of hanging
  abbrev pub square : ℕ → ℕ
  square k = slice_index_or st.laid k 0

  word_wires : length (net_after o).wires ≡ l.squares
  word_wires = wires_length (end_of (o.closed ++ o.segments)) 1 o.hung ∙ hung_is l fits o st end

  layout_wires : length (net_of_layout l).wires ≡ l.squares
  layout_wires = length-map (numbers_from 0 l.squares) (λ (q : ℕ). (l.above q, l.below q)) ∙ numbers-length 0 l.squares

  from_node : (k : ℕ) → k < l.squares → node (slice_index_or o.hung k 0) ≡ l.above (square k)
  from_node k h = get_or_from_slice_get all_nodes (slice_index_or o.hung k 0) (l.above (square k)) 0
      (get_append st.done (l.bottom ∷ []) (slice_index_or o.hung k 0) (l.above (square k))
      (all_zip-slice_index_or (λ q j. slice_get st.done j ≡ Some (l.above q)) st.laid o.hung k st.hung (omega (arith, h, laid_many l fits o st end))))

  lists_are : lists_at st.laid (o.closed ++ o.segments) ≡ map l.ending all_nodes
  lists_are = map-append (map (sq_of st.laid)) o.closed o.segments ∙ (λ i. st.closed i ++ end.one i) ∙ sym (map-append l.ending st.done (l.bottom ∷ []))

  to_node : (k : ℕ) → k < l.squares → node (end_of (o.closed ++ o.segments) (1 + k)) ≡ l.below (square k)
  to_node k h = at (end_of (o.closed ++ o.segments) (1 + k)) (place_of_number o st.numbered (1 + k) (omega arith) (omega (arith, h, hung_is l fits o st end)))
    where
      as_index : 1 + k - 1 ≡ k
      as_index = omega arith

      at : (place : ℕ) → HasPlace (1 + k) (o.closed ++ o.segments) place → node place ≡ l.below (square k)
      at place p = sym (on (slice_get-of_times_positive (l.ending (node place)) (square k) (subst (λ (xs : List ℕ). 0 < times (square k) xs) ends inside)))
        where
          many : length (o.closed ++ o.segments) ≡ length all_nodes
          many = sym (length-map (o.closed ++ o.segments) (map (sq_of st.laid))) ∙ ap length lists_are ∙ length-map all_nodes l.ending

          ends : map (sq_of st.laid) (slice_index_or (o.closed ++ o.segments) place []) ≡ l.ending (node place)
          ends = sym (slice_index_or-map (map (sq_of st.laid)) (o.closed ++ o.segments) place [] [] p.below)
              ∙ ap (λ (x : List (List ℕ)). slice_index_or x place []) lists_are ∙ slice_index_or-map l.ending all_nodes place [] 0
              (omega (arith, p.below, many))

          inside : 0 < times (square k) (map (sq_of st.laid) (slice_index_or (o.closed ++ o.segments) place []))
          inside = subst (λ (j : ℕ). 0 < times (slice_index_or st.laid j 0) (map (sq_of st.laid) (slice_index_or (o.closed ++ o.segments) place []))) as_index
              (times-map_positive (sq_of st.laid) (slice_index_or (o.closed ++ o.segments) place []) (1 + k) p.here)

          on : (j : ℕ) × (slice_get (l.ending (node place)) j ≡ Some (square k)) → l.below (square k) ≡ node place
          on (j, e) = (fits.lists.ending_is (node place) j (square k) e).1

  each : (k : ℕ) → k < l.squares → slice_get (net_of_layout l).wires (square k)
      ≡ option_map (λ (x : ℕ × ℕ). (node x.0, node x.1)) (slice_get (net_after o).wires k)
  each k h = there ∙ (λ i. Some (sym (from_node k h) i, sym (to_node k h) i))
      ∙ sym (ap (option_map (λ (x : ℕ × ℕ). (node x.0, node x.1)))
      (wires_got (end_of (o.closed ++ o.segments)) 1 o.hung k (omega (arith, h, hung_is l fits o st end))))
    where
      number : slice_get (numbers_from 0 l.squares) (square k) ≡ Some (square k)
      number = numbers_got 0 (square k) l.squares (square_low l fits o st end k h) ∙ ap (λ (x : ℕ). Some x) (omega arith)

      there : slice_get (net_of_layout l).wires (square k) ≡ Some (l.above (square k), l.below (square k))
      there = get_map (λ (q : ℕ). (l.above q, l.below q)) (numbers_from 0 l.squares) (square k) (square k) number

  -- by these numbers the net of the outline is the layout's net
  pub renumbering : IsRenumbering (net_after o) (net_of_layout l) node square
  renumbering = record {
    nodes = omega (arith, closed_many l fits o st end);
    wires = word_wires ∙ sym layout_wires;
    node_apart = record {
      below = λ k h. omega (arith, closed_many l fits o st end, node_low l fits o st end k (omega (arith, h, closed_many l fits o st end)));
      apart =
          λ j k a b e. node_apart l fits o st end j k (omega (arith, a, closed_many l fits o st end)) (omega (arith, b, closed_many l fits o st end)) e;
    };
    wire_apart = record {
      below = λ k h. omega (arith, word_wires, square_low l fits o st end k (omega (arith, h, word_wires)));
      apart =
          λ j k a b e. square_apart l fits o st end j k (omega (arith, a, word_wires)) (omega (arith, b, word_wires)) e;
    };
    first = first_node l fits o st end;
    last = λ k h. last_node l fits o st end k (omega (arith, h, closed_many l fits o st end));
    each = λ k h. each k (omega (arith, h, word_wires));
  }

-- the word of a sweep
pub word_of_sweep : (l : Layout) → Fits l → (s : WholeSweep l) → IsWordOfLayout l s.word
word_of_sweep l fits s = record {
  complete = record { legal = s.legal; some = s.some; one = one_segment l fits (outline_of s.word) s.last s.end };
  order = omega (arith, hung_many start s.word, hung_is l fits (outline_of s.word) s.last s.end);
  free = s.free;
  no_twins = s.no_twins;
  first_count = s.first_count;
  node = node l fits (outline_of s.word) s.last s.end;
  square = square l fits (outline_of s.word) s.last s.end;
  net = renumbering l fits (outline_of s.word) s.last s.end;
  wall = s.wall;
  lines = s.lines;
  nodes = s.nodes;
  end = map-only_list (sq_of s.last.laid) (outline_of s.word).segments (l.ending l.bottom) (s.end).one;
  end_from = end_walls.0;
  end_to = end_walls.1;
}
  where
    end_walls : ((q : ℕ) → IsFirst (l.ending l.bottom) q → l.left q ≡ 0) × ((q : ℕ) → IsLast (l.ending l.bottom) q → l.right q ≡ 1)
    end_walls = walls_of l (outline_of s.word).signs (l.ending l.bottom)
        (subst (λ (x : List (List ℕ)). Chain l (outline_of s.word).signs x) (s.end).one (s.last).chain)
        (subst (λ (x : List (List ℕ)). AtLeft l x) (s.end).one (s.last).wall)

-- the law: the word of the layout's whole sweep
pub a_layout_has_a_free_word : ALayoutHasAFreeWord
a_layout_has_a_free_word l fits = let s = sweep l fits in (s.word, word_of_sweep l fits s)
