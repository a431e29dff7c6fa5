-- The cells of a tiling, each under one square, and the squares of its groups.
use Rattle.std.proofs.Common.{List, Some, [], ap, arith, inl, inr, refl, slice_get, slice_index_or, subst, suc, sym, true, zero, ℕ, ◌+◌, ◌-◌, ◌<◌}
use Rattle.std.proofs.Common.{◌∷◌, ◌≡◌, ◌≤◌, ◌⊎◌}
use Rattle.std.proofs.lemmas.Bool.{cases_lt}
use Rattle.bk_laws.proofs.AllOfLists.{all-slice_get}
use Rattle.bk_tiling.proofs.Cells.{covers_from, in_all, over_from}
use Rattle.bk_tiling.proofs.TilingLaws.{side_of}
use Rattle.bk_tiling.specs.Tiling.{IsOneOf, IsTiling, Tiling, covers}
use Rattle.bk_tiling.specs.declared.Square.{Square}
use Rattle.bk_tiling.proofs.Groups.{AllIn, IsGroup, IsRow, groups_row, row_of}
use Rattle.bk_tiling.proofs.TilingGroups.{known_groups, one_there}
use Rattle.bk_tiling.specs.SquareGroups.{square_groups}
use Rattle.bk_net.specs.Diagram.{group_level}

-- a list that is got at a place is the one read there
pub get_index : (xs : List (List Square)) (k : ℕ) (x : List Square) → slice_get xs k ≡ Some x → slice_index_or xs k [] ≡ x
get_index [] k x e = absurd (cc)
get_index (y ∷ xs) zero x e = cc
get_index (y ∷ xs) (suc k) x e = get_index xs k x e

module _ (t : Tiling) (tiling : IsTiling t) where
  -- a square over a cell just below a square's bottom begins there
  pub square_below_begins_at_the_bottom : (q r : Square) (i : ℕ) → IsOneOf q t.squares → q.x ≤ i → i < q.x + q.s → IsOneOf r t.squares
      → covers i (q.y + q.s) r ≡ true
      → r.y ≡ q.y + q.s
  square_below_begins_at_the_bottom q r i a lo hi b e = cases (cases_lt r.y (q.y + q.s))
    where
      cases : (r.y < q.y + q.s) ⊎ (q.y + q.s ≤ r.y) → r.y ≡ q.y + q.s
      cases (inl h) = let same : q ≡ r =
          one_there t tiling q r i (q.y + q.s - 1) a (covers_from i (q.y + q.s - 1) q lo hi (omega (arith, side_of t tiling q a))
          (omega (arith, side_of t tiling q a))) b
          (covers_from i (q.y + q.s - 1) r (over_from i (q.y + q.s) r e).left (over_from i (q.y + q.s) r e).right (omega arith)
          (omega (arith, (over_from i (q.y + q.s) r e).bottom))) in
          absurd (omega (arith, (over_from i (q.y + q.s) r e).bottom, ap (λ (s : Square). s.y + s.s) same))
      cases (inr h) = omega (arith, (over_from i (q.y + q.s) r e).top)

  -- the squares of the groups, one after the other, are the squares of the tiling
  pub row_is : row_of (square_groups t.squares) ≡ t.squares
  row_is = groups_row t.squares

  -- a group of the tiling's squares is a group among them
  pub group_of : (v : ℕ) (g : List Square) → slice_get (square_groups t.squares) v ≡ Some g → IsGroup t.squares g × AllIn t.squares g
  group_of v g e = all-slice_get (λ g. IsGroup t.squares g × AllIn t.squares g) (square_groups t.squares) v g (known_groups t tiling).all e

  -- the squares of a group are squares of the tiling
  pub in_group : (v : ℕ) (g : List Square) → slice_get (square_groups t.squares) v ≡ Some g → (q : Square) → IsOneOf q g → IsOneOf q t.squares
  in_group v g e q h = in_all (λ q. IsOneOf q t.squares) g (group_of v g e).1 q h

  -- the first square of a group is in it
  pub first_in : (g : List Square) (k : IsRow t.squares g) → IsOneOf k.first g
  first_in g k = subst (IsOneOf k.first) (sym k.is) (inl refl)

  -- the level of a group is that of its first square's top
  pub level_is : (g : List Square) (k : IsRow t.squares g) → group_level g ≡ k.first.y
  level_is g k = ap group_level k.is

  -- the level of a group is that of the top of each of its squares
  pub top_of : (g : List Square) (k : IsRow t.squares g) (q : Square) → IsOneOf q g → q.y ≡ k.first.y
  top_of g k q h = in_all (λ q. q.y ≡ k.first.y) g k.tops q h
