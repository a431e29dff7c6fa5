-- The sides of the squares are the differences of the potentials along the wires, and what leaves a node is their sum.
use Rattle.std.specs.Prelude.{pos, ℤ, ◌-ℤ◌}
use Rattle.std.proofs.Common.{List, Some, [], ap, arith, inl, inr, length, map, refl, slice_get, slice_index_or, suc, sym, zero, ℕ, ◌++◌, ◌+◌, ◌∙◌, ◌∷◌, ◌≡◌}
use Rattle.std.proofs.Common.{◌⊎◌}
use Rattle.std.proofs.lemmas.Int.{ints}
use Rattle.bk_tiling.specs.Tiling.{IsOneOf, IsTiling, Tiling}
use Rattle.bk_tiling.specs.declared.Square.{Square}
use Rattle.bk_tiling.specs.SquareGroups.{square_groups}
use Rattle.bk_net.proofs.GroupSquares.{group_of, in_group, level_is, row_is, top_of}
use Rattle.bk_net.proofs.NodeBelow.{stands_on}
use Rattle.bk_net.proofs.SmithLists.{all_outflow, group_currents, in_total, out_total}
use Rattle.bk_net.specs.Diagram.{group_level, node_below, smith_diagram}
use Rattle.bk_net.specs.Flow.{outflow, potential}
use Rattle.bk_net.specs.SmithFlow.{smith_flow}

get_level : (xs : List (List Square)) (k : ℕ) (x : List Square) (h : ℕ) (g : ℕ → ℤ) → slice_get xs k ≡ Some x
    → slice_index_or (map g (map group_level xs ++ h ∷ [])) k (pos 0) ≡ g (group_level x)
get_level [] k x h g e = absurd (cc)
get_level (y ∷ xs) zero x h g e = let same : y ≡ x = cc in ap (λ (s : List Square). g (group_level s)) same
get_level (y ∷ xs) (suc k) x h g e = get_level xs k x h g e

get_last_level : (xs : List (List Square)) (k h : ℕ) (g : ℕ → ℤ) → k ≡ length xs → slice_index_or (map g (map group_level xs ++ h ∷ [])) k (pos 0) ≡ g h
get_last_level [] zero h g e = refl
get_last_level [] (suc k) h g e = absurd (omega arith)
get_last_level (y ∷ xs) zero h g e = absurd (omega arith)
get_last_level (y ∷ xs) (suc k) h g e = get_last_level xs k h g (omega arith)

module _ (t : Tiling) (tiling : IsTiling t) where
  potential_at : (v : ℕ) (g : List Square) → slice_get (square_groups t.squares) v ≡ Some g → potential (smith_flow t) v ≡ pos t.height -ℤ pos (group_level g)
  potential_at v g e = get_level (square_groups t.squares) v g t.height (λ l. pos t.height -ℤ pos l) e

  end_potential : (q : Square) → IsOneOf q t.squares → potential (smith_flow t) (node_below (square_groups t.squares) q) ≡ pos t.height -ℤ pos (q.y + q.s)
  end_potential q h = cases (stands_on t tiling q h).is
    where
      cases : ((node_below (square_groups t.squares) q ≡ length (square_groups t.squares)) × (q.y + q.s ≡ t.height))
          ⊎ ((g : List Square) × (slice_get (square_groups t.squares) (node_below (square_groups t.squares) q) ≡ Some g)
          × (group_level g ≡ q.y + q.s))
          → potential (smith_flow t) (node_below (square_groups t.squares) q) ≡ pos t.height -ℤ pos (q.y + q.s)
      cases (inl (e, b)) = get_last_level (square_groups t.squares) (node_below (square_groups t.squares) q) t.height (λ l. pos t.height -ℤ pos l) e
          ∙ ap (λ (l : ℕ). pos t.height -ℤ pos l) (sym b)
      cases (inr (g, e, l)) = potential_at (node_below (square_groups t.squares) q) g e ∙ ap (λ (l : ℕ). pos t.height -ℤ pos l) l

  -- the side of a square is the potential of the node that it hangs from, less that of the node below it
  pub side_is_drop : (v : ℕ) (g : List Square) → slice_get (square_groups t.squares) v ≡ Some g → (q : Square) → IsOneOf q g
      → pos q.s ≡ potential (smith_flow t) v -ℤ potential (smith_flow t) (node_below (square_groups t.squares) q)
  side_is_drop v g e q h = omega (
    arith,
    ints,
    potential_at v g e,
    level_is t tiling g (group_of t tiling v g e).0.row,
    top_of t tiling g (group_of t tiling v g e).0.row q h,
    end_potential q (in_group t tiling v g e q h),
  )

  -- the sides are the differences of potentials along the wires
  pub sides_are_differences : map (λ q. pos q.s) t.squares ≡ map (λ w. potential (smith_flow t) w.0 -ℤ potential (smith_flow t) w.1) (smith_diagram t).wires
  sides_are_differences = ap (map (λ q. pos q.s)) (sym (row_is t tiling))
      ∙ group_currents (node_below (square_groups t.squares)) (λ w. potential (smith_flow t) w.0 -ℤ potential (smith_flow t) w.1) 0
      (square_groups t.squares)
      (λ k g e q h. side_is_drop k g e q h ∙ ap (λ (v : ℕ). potential (smith_flow t) v -ℤ potential (smith_flow t) (node_below (square_groups t.squares) q))
      (omega arith))

  -- of the sides the outflow of a node is the sum of those that hang from it, less the sum of those that stand on it
  pub outflow_of_sides : (v : ℕ) → outflow (smith_diagram t).wires (map (λ q. pos q.s) t.squares) v ≡ pos (out_total 0 v (square_groups t.squares)) -ℤ pos
      (in_total (node_below (square_groups t.squares)) v t.squares)
  outflow_of_sides v = ap (λ (l : List Square). outflow (smith_diagram t).wires (map (λ q. pos q.s) l) v) (sym (row_is t tiling))
      ∙ all_outflow (node_below (square_groups t.squares)) 0 v (square_groups t.squares)
      ∙ ap (λ (l : List Square). pos (out_total 0 v (square_groups t.squares)) -ℤ pos (in_total (node_below (square_groups t.squares)) v l)) (row_is t tiling)
