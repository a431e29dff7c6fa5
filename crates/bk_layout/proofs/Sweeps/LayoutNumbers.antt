-- At the end of a layout's sweep each square has one place in the order of hanging, each node one in the order of closing.
use Rattle.std.proofs.Common.{List, Some, [], ap, arith, inl, inr, length, map, refl, slice_get, slice_index_or, suc, sym, zero, ℕ, ◌++◌, ◌+◌, ◌<◌, ◌∙◌, ◌∷◌}
use Rattle.std.proofs.Common.{◌≡◌, ◌≤◌, ◌⊎◌}
use Rattle.std.proofs.lemmas.List.{length-append, length-map}
use Rattle.std.proofs.lemmas.Bool.{cases_eq}
use Rattle.std.proofs.lemmas.Option.{get_or_from_slice_get, slice_get-get_or}
use Rattle.bk_laws.proofs.Occurrences.{times, times-append, times-positive_of_slice_get, unique_place-of_times_le_one}
use Rattle.bk_laws.proofs.ListPlaces.{get_append, get_last}
use Rattle.bk_laws.proofs.TestsAsNumbers.{cond_count-nat_eq_other, cond_count-nat_eq_same}
use Rattle.bk_word.specs.Outline.{Outline}
use Rattle.bk_layout.proofs.Lists.SquareLists.{sq_of}
use Rattle.bk_layout.proofs.Sweeps.Sweep.{State}
use Rattle.bk_layout.proofs.Sweeps.SweepEnd.{Ended, done_many, is_laid, laid_many}
use Rattle.bk_layout.specs.Layout.{Fits, Layout}

module _ (l : Layout) (fits : Fits l) (o : Outline) (st : State l o) (end : Ended l o st) where
  -- all nodes in the order of closing, the bottom last
  abbrev all_nodes : List ℕ
  all_nodes = st.done ++ (l.bottom ∷ [])

  -- the node of the layout by its place in the order of closing, the bottom last
  abbrev node : ℕ → ℕ
  node k = slice_index_or (st.done ++ (l.bottom ∷ [])) k 0

  -- the square of the layout by its place in the order of hanging
  abbrev square : ℕ → ℕ
  square k = slice_index_or st.laid k 0

  -- all nodes but the bottom are closed
  pub closed_many : length o.closed ≡ l.bottom
  closed_many = sym (length-map o.closed (map (sq_of st.laid))) ∙ ap length st.closed ∙ length-map st.done l.ending ∙ done_many l fits o st end

  nodes_many : length all_nodes ≡ l.bottom + 1
  nodes_many = omega (arith, length-append st.done (l.bottom ∷ []), done_many l fits o st end)

  -- all squares of the layout are hung
  pub hung_is : length o.hung ≡ l.squares
  hung_is = sym st.long ∙ laid_many l fits o st end

  square_got : (k : ℕ) → k < l.squares → slice_get st.laid k ≡ Some (square k)
  square_got k h = slice_get-get_or st.laid k 0 (omega (arith, h, laid_many l fits o st end))

  -- what is hung is a square of the layout
  pub square_low : (k : ℕ) → k < l.squares → square k < l.squares
  square_low k h = st.laid_low (square k) (times-positive_of_slice_get st.laid k (square k) (square_got k h))

  -- no two hung squares of the layout are one
  pub square_apart : (j k : ℕ) → j < l.squares → k < l.squares → square j ≡ square k → j ≡ k
  square_apart j k a b e = unique_place-of_times_le_one st.laid (square k) (omega (arith, is_laid l fits o st end (square k) (square_low k b))) j k
      (square_got j a ∙ ap (λ (x : ℕ). Some x) e) (square_got k b)

  bottom_open : (n : ℕ) → times l.bottom st.done ≡ n → n ≡ 0
  bottom_open zero e = refl
  bottom_open (suc n) e = absurd (omega (arith, st.done_low l.bottom (omega (arith, e))))

  nodes_once : (v : ℕ) → times v all_nodes ≤ 1
  nodes_once v = cases (cases_eq v l.bottom)
    where
      cases : (v ≡ l.bottom) ⊎ (v ≡ l.bottom → ⊥) → times v all_nodes ≤ 1
      cases (inl e) = omega (
        arith,
        times-append v st.done (l.bottom ∷ []),
        cond_count-nat_eq_same v l.bottom e,
        ap (λ (u : ℕ). times u st.done) e,
        bottom_open (times l.bottom st.done) refl,
      )
      cases (inr e) = omega (arith, times-append v st.done (l.bottom ∷ []), cond_count-nat_eq_other v l.bottom e, st.done_once v)

  nodes_low : (v : ℕ) → 0 < times v all_nodes → v < l.bottom + 1
  nodes_low v h = cases (cases_eq v l.bottom)
    where
      cases : (v ≡ l.bottom) ⊎ (v ≡ l.bottom → ⊥) → v < l.bottom + 1
      cases (inl e) = omega (arith, e)
      cases (inr e) = omega (arith, st.done_low v (omega (arith, h, times-append v st.done (l.bottom ∷ []), cond_count-nat_eq_other v l.bottom e)))

  node_got : (k : ℕ) → k < l.bottom + 1 → slice_get all_nodes k ≡ Some (node k)
  node_got k h = slice_get-get_or all_nodes k 0 (omega (arith, h, nodes_many))

  -- each number is that of a node of the layout
  pub node_low : (k : ℕ) → k < l.bottom + 1 → node k < l.bottom + 1
  node_low k h = nodes_low (node k) (times-positive_of_slice_get all_nodes k (node k) (node_got k h))

  -- no two numbers are those of one node
  pub node_apart : (j k : ℕ) → j < l.bottom + 1 → k < l.bottom + 1 → node j ≡ node k → j ≡ k
  node_apart j k a b e = unique_place-of_times_le_one all_nodes (node k) (nodes_once (node k)) j k (node_got j a ∙ ap (λ (x : ℕ). Some x) e) (node_got k b)

  -- the first is the top
  pub first_node : node 0 ≡ 0
  first_node = get_or_from_slice_get all_nodes 0 0 0 (get_append st.done (l.bottom ∷ []) 0 0 st.top)

  -- the last is the bottom
  pub last_node : (k : ℕ) → suc k ≡ l.bottom + 1 → node k ≡ k
  last_node k h = get_or_from_slice_get all_nodes k l.bottom 0 ((λ i. slice_get all_nodes (same i)) ∙ get_last st.done l.bottom []) ∙ omega (arith, h)
    where
      same : k ≡ length st.done
      same = omega (arith, h, done_many l fits o st end)
