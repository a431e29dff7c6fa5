-- The word of a tiling lays all its squares, and has as many nodes as the tiling has groups.
use Rattle.bk_tiling.proofs.TilingLaws.{own_cell}
use Rattle.std.proofs.Common.{List, Some, arith, inl, length, refl, slice_get, slice_index_or, subst, sym, ℕ, ◌<◌, ◌∙◌, ◌≡◌}
use Rattle.bk_laws.proofs.ZippedLists.{zip_length}
use Rattle.bk_laws.proofs.ListPlaces.{get_some}
use Rattle.bk_tiling.specs.Tiling.{IsOneOf, IsTiling, Tiling}
use Rattle.bk_tiling.specs.declared.Square.{Square}
use Rattle.bk_tiling.specs.SquareGroups.{square_groups}
use Rattle.bk_net.proofs.GroupSquares.{group_of, in_group}
use Rattle.bk_word.specs.Play.{outline_of}
use Rattle.bk_word.specs.Word.{Word}
use Rattle.bk_lay.proofs.ValleySegment.{all_squares_laid_at_full_depth}
use Rattle.bk_lay.specs.Depiction.{Hangs, IsSegment}
use Rattle.bk_lay.specs.TilingWord.{IsWordOf}
use Rattle.bk_word_net.proofs.WordFlows.PlacesInLists.{index_of, not_more}
use Rattle.bk_word_net.proofs.TilingWords.CellGroups.{d, e, in_place}
use Rattle.bk_word_net.proofs.TilingWords.WordNodes.{hung_group, node_apart, node_below_groups, node_of_word}

module _ (t : Tiling) (w : Word) (tiling : IsTiling t) (p : IsWordOf t w) where
  -- all squares of the tiling are laid
  pub all_in_laid : (q : Square) → IsOneOf q t.squares → IsOneOf q (e t w tiling p).laid
  all_in_laid q h = all_squares_laid_at_full_depth t tiling (e t w tiling p).laid ((e t w tiling p).along).fills (e t w tiling p).full q h

  -- there are as many nodes as groups
  pub as_many : length (e t w tiling p).nodes ≡ length (square_groups t.squares)
  as_many = omega (
    arith,
    not_more (node_of_word t w tiling p) (λ k. k) (length (e t w tiling p).nodes) (length (square_groups t.squares)) (node_apart t w tiling p) (λ j h.
        (node_of_word t w tiling p j, node_below_groups t w tiling p j h, refl)),
    not_more (λ k. k) (node_of_word t w tiling p) (length (square_groups t.squares)) (length (e t w tiling p).nodes) (λ j k a b f. f) found,
  )
    where
      found : (j : ℕ) → j < length (square_groups t.squares) → (k : ℕ) × (k < length (e t w tiling p).nodes) × (j ≡ node_of_word t w tiling p k)
      found j h = of (get_some (square_groups t.squares) j h)
        where
          of : (g : List Square) × (slice_get (square_groups t.squares) j ≡ Some g) → (k : ℕ) × (k < length (e t w tiling p).nodes) × (j ≡ node_of_word t w
              tiling p k)
          of (g, is) = from (index_of (e t w tiling p).laid (group_of t tiling j g is).0.row.first (all_in_laid (group_of t tiling j g is).0.row.first q_in))
            where
              in_g : IsOneOf (group_of t tiling j g is).0.row.first g
              in_g = subst (IsOneOf (group_of t tiling j g is).0.row.first) (sym (group_of t tiling j g is).0.row.is) (inl refl)

              q_in : IsOneOf (group_of t tiling j g is).0.row.first t.squares
              q_in = in_group t tiling j g is (group_of t tiling j g is).0.row.first in_g

              from : (k : ℕ) × (slice_get (e t w tiling p).laid k ≡ Some (group_of t tiling j g is).0.row.first) → (k : ℕ) × (k < length (e t w tiling
                  p).nodes) × (j ≡ node_of_word t w tiling p k)
              from (k, f) = let r = hung_group t w tiling p k (group_of t tiling j g is).0.row.first f in (
                slice_index_or (outline_of w).hung k 0,
                r.0,
                sym (in_place t w tiling p j g (group_of t tiling j g is).0.row.first (group_of t tiling j g is).0.row.first.x
                    (group_of t tiling j g is).0.row.first.y is in_g (own_cell t tiling (group_of t tiling j g is).0.row.first q_in)) ∙ sym r.1,
              )

  -- each is closed
  pub closed_is : length (outline_of w).closed ≡ length (e t w tiling p).nodes
  closed_is = sym (zip_length (IsSegment (e t w tiling p).laid) (e t w tiling p).nodes (outline_of w).closed (d t w tiling p).closed)

  -- each square of the tiling is hung by its word
  pub hung_is : length (outline_of w).hung ≡ length (e t w tiling p).laid
  hung_is = sym (zip_length (Hangs (e t w tiling p).nodes) (e t w tiling p).laid (outline_of w).hung (d t w tiling p).hung)
