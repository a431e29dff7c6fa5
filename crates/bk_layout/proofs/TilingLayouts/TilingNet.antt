-- The net of the layout of a tiling is its Smith diagram.
use Rattle.std.proofs.Common.{List, Some, [], ap, arith, inl, inr, length, map, refl, slice_get, slice_index_or, suc, sym, zero, ℕ, ◌++◌, ◌+◌}
use Rattle.std.proofs.Common.{◌∙◌, ◌∷◌, ◌≡◌}
use Rattle.std.proofs.lemmas.List.{map-append}
use Rattle.bk_tiling.proofs.Groups.{row_of}
use Rattle.bk_tiling.specs.SquareGroups.{square_groups}
use Rattle.bk_tiling.specs.Tiling.{IsOneOf, IsTiling, Tiling, square_of}
use Rattle.bk_tiling.specs.declared.Square.{Square}
use Rattle.bk_net.proofs.GroupSquares.{row_is}
use Rattle.bk_net.proofs.SmithLists.{group_wires}
use Rattle.bk_net.specs.Diagram.{node_below, smith_diagram}
use Rattle.bk_word.specs.Play.{numbers_from}
use Rattle.bk_layout.specs.Layout.{net_of_layout}
use Rattle.bk_layout.specs.TilingLayout.{layout_of, node_above}
use Rattle.bk_layout.proofs.TilingLayouts.InnerNodes.{above_from}

-- ---- the net

wires_mapped : (above below : Square → ℕ) (n : ℕ) (groups : List (List Square))
    → ((k : ℕ) (g : List Square) → slice_get groups k ≡ Some g → (q : Square) → IsOneOf q g → above q ≡ n + k)
    → group_wires below n groups ≡ map {B = ℕ × ℕ} (λ q. (above q, below q)) (row_of groups)
wires_mapped above below n [] each = refl
wires_mapped above below n (g ∷ groups) each =
    (λ i. own g (λ q h. sym (each 0 g refl q h ∙ omega arith)) i
    ++ wires_mapped above below (n + 1) groups (λ k h e q m. each (suc k) h e q m ∙ omega arith) i)
    ∙ sym (map-append {B = ℕ × ℕ} (λ q. (above q, below q)) g (row_of groups))
  where
    own : (g : List Square) → ((q : Square) → IsOneOf q g → n ≡ above q) → map {B = ℕ × ℕ} (λ q. (n, below q)) g ≡ map {B = ℕ × ℕ} (λ q. (above q, below q)) g
    own [] each = refl
    own (q ∷ g) each = λ i. (each q (inl refl) i, below q) ∷ own g (λ r h. each r (inr h)) i

-- the values at the places of a list are what is made of its elements
pub numbers_map : {A B : Type 0} (f : ℕ → B) (h : A → B) (n : ℕ) (xs : List A) → ((k : ℕ) (x : A) → slice_get xs k ≡ Some x → f (n + k) ≡ h x)
    → map f (numbers_from n (length xs)) ≡ map h xs
numbers_map f h n [] each = refl
numbers_map f h n (q ∷ squares) each = λ i. (ap f at ∙ each 0 q refl) i ∷ numbers_map f h (n + 1) squares (λ k r e. ap f (next k) ∙ each (suc k) r e) i
  where
    at : n ≡ n + 0
    at = omega arith

    next : (k : ℕ) → n + 1 + k ≡ n + suc k
    next k = omega arith

index_get : (squares : List Square) (k : ℕ) (q d : Square) → slice_get squares k ≡ Some q → slice_index_or squares k d ≡ q
index_get [] k q d e = absurd (cc)
index_get (r ∷ squares) zero q d e = cc
index_get (r ∷ squares) (suc k) q d e = index_get squares k q d e

module _ (t : Tiling) (tiling : IsTiling t) where
  -- the layout's net is the Smith diagram
  pub net_is : net_of_layout (layout_of t) ≡ smith_diagram t
  net_is = λ i. record { nodes = length (square_groups t.squares) + 1; wires = wires i }
    where
      wires : map (λ q. (node_above (square_groups t.squares) (square_of t q), node_below (square_groups t.squares) (square_of t q)))
          (numbers_from 0 (length t.squares)) ≡ group_wires (node_below (square_groups t.squares)) 0 (square_groups t.squares)
      wires = numbers_map {A = Square} {B = ℕ × ℕ} (λ q. (
        node_above (square_groups t.squares) (square_of t q),
        node_below (square_groups t.squares) (square_of t q),
      ))
          (λ q. (node_above (square_groups t.squares) q, node_below (square_groups t.squares) q)) 0 t.squares
          (λ k q e. ap (λ (s : Square). (node_above (square_groups t.squares) s, node_below (square_groups t.squares) s))
          (ap (λ (n : ℕ). square_of t n) (from_zero k) ∙ index_get t.squares k q (record { x = 0; y = 0; s = 0 }) e))
          ∙ ap (map (λ q. (node_above (square_groups t.squares) q, node_below (square_groups t.squares) q))) (sym (row_is t tiling))
          ∙ sym (wires_mapped (node_above (square_groups t.squares)) (node_below (square_groups t.squares)) 0 (square_groups t.squares)
          (λ k g e q h. above_from t tiling k g e q h ∙ omega arith))
        where
          from_zero : (k : ℕ) → 0 + k ≡ k
          from_zero k = omega arith
