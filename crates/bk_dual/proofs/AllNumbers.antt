-- The numbers of the squares in the order of the dual diagram: each from 1 to the order stands there once.
use Rattle.std.specs.List.{AllByRecursion, position_or_len}
use Rattle.std.specs.Prelude.{All, count_by}
use Rattle.std.proofs.Common.{List, [], ap, arith, get_or, inl, inr, length, map, refl, slice_index_or, suc, sym, take}
use Rattle.std.proofs.Common.{zero, ℕ, ◌+◌, ◌<◌, ◌==◌, ◌∙◌, ◌∷◌, ◌≡◌, ◌≤◌}
use Rattle.std.proofs.lemmas.List.Elements.{All-from_recursion}
use Rattle.std.proofs.lemmas.List.Sums.{position_or_len_is}
use Rattle.std.proofs.lemmas.List.{length-map, take_all}
use Rattle.bk_tiling.proofs.OrderLaws.{in_code_order-count}
use Rattle.bk_tiling.proofs.Places.{later_place}
use Rattle.bk_tiling.specs.CodeOrder.{InCodeOrder}
use Rattle.bk_tiling.specs.Tiling.{IsOneOf, Tiling, order}
use Rattle.bk_tiling.specs.declared.Square.{Square}
use Rattle.bk_sym.specs.Image.{image, image_square}
use Rattle.bk_sym.specs.declared.Turn.TheVariants.{Swap}
use Rattle.bk_laws.proofs.Counts.{count_by-eq_in_counting_list, count_by-map}
use Rattle.bk_dual.proofs.Numbers.{earlier_stands_apart, first_within, from_image, stands_at, stands_itself}
use Rattle.bk_dual.specs.Dual.{dual_order, number_at}
use Rattle.bk_dual.specs.DualWires.{exchanged}

-- the number of a square in code order is one more than its place
place_is : (squares : List Square) → InCodeOrder squares → (k : ℕ) (d : Square) → k < length squares
    → position_or_len (stands_at (slice_index_or squares k d).x (slice_index_or squares k d).y) squares ≡ k
place_is squares ordered k d within =
    position_or_len_is (stands_at (slice_index_or squares k d).x (slice_index_or squares k d).y) squares k d (omega (arith, within))
    (λ i below. earlier_stands_apart (slice_index_or squares k d) (slice_index_or squares i d) (later_place squares ordered i k d below within))
    (λ h. stands_itself (slice_index_or squares k d))

get-map : (f : Square → ℕ) (squares : List Square) (k : ℕ) (d : Square) → k < length squares → get_or (map f squares) k 0 ≡ f (slice_index_or squares k d)
get-map f [] k d h = absurd (omega (arith, h))
get-map f (q ∷ squares) zero d h = refl
get-map f (q ∷ squares) (suc k) d h = get-map f squares k d (omega (arith, h))

module _ (t : Tiling) (ordered : InCodeOrder t.squares) where
  counts_on : (k : ℕ) → k < length (map (λ q. number_at t q.x q.y) t.squares) → get_or (map (λ q. number_at t q.x q.y) t.squares) k 0 ≡ 1 + k
  counts_on k h =
      let within : k < length t.squares = omega (arith, h, length-map t.squares (λ (q : Square). number_at t q.x q.y)) in
      omega (
        arith,
        get-map (λ q. number_at t q.x q.y) t.squares k (record { x = 0; y = 0; s = 0 }) within,
        place_is t.squares ordered k
            (record { x = 0; y = 0; s = 0 }) within,
      )

  -- each number once
  pub each_number_once : (n : ℕ) → 0 < n → n ≤ order t → count_by (λ m. m == n) (dual_order t) ≡ 1
  each_number_once n some most =
      count_by-map (λ m. m == n) (λ (q : Square). number_at t q.y q.x) (image Swap t).squares
      ∙ in_code_order-count (λ q. number_at t q.y q.x == n) (map (image_square Swap t.width t.height) t.squares)
      ∙ count_by-map (λ (q : Square). number_at t q.y q.x == n) (image_square Swap t.width t.height) t.squares
      ∙ sym (count_by-map (λ m. m == n) (λ (q : Square). number_at t q.x q.y) t.squares)
      ∙ count_by-eq_in_counting_list n 1 (map (λ q. number_at t q.x q.y) t.squares) counts_on (omega (arith, some))
      (omega (arith, most, length-map t.squares (λ (q : Square). number_at t q.x q.y)))

  -- and none besides
  in_range : (q : Square) → IsOneOf q (image Swap t).squares → (0 < number_at t q.y q.x) × (number_at t q.y q.x ≤ order t)
  in_range q one = (
    omega arith,
    omega (arith, first_within (stands_at q.y q.x) t.squares (exchanged q) (from_image t q one) (stands_itself (exchanged q))),
  )

  all_in_range : (squares : List Square) → ((q : Square) → IsOneOf q squares → IsOneOf q (image Swap t).squares)
      → AllByRecursion (λ n. (0 < n) × (n ≤ order t)) (map (λ q. number_at t q.y q.x) squares)
  all_in_range [] each = tt
  all_in_range (q ∷ squares) each = (in_range q (each q (inl refl)), all_in_range squares (λ p h. each p (inr h)))

  -- each number in the order of the dual diagram is one from 1 to the order
  pub each_in_range : All (λ n. (0 < n) × (n ≤ order t)) (dual_order t)
  each_in_range = All-from_recursion (λ (n : ℕ). (0 < n) × (n ≤ order t)) (dual_order t) (all_in_range (image Swap t).squares (λ q h. h))

-- the numbers that were pushed for all squares of the image
pub dual_order_from : (t : Tiling) (numbers : List ℕ) (k : ℕ) (squares : List Square) (turned : Tiling)
    → numbers ≡ map (λ q. number_at t q.y q.x) (take k squares)
    → length squares ≤ k → squares ≡ turned.squares → turned ≡ image Swap t → numbers ≡ dual_order t
dual_order_from t numbers k squares turned pushed all same is =
    pushed ∙ ap (λ (l : List Square). map (λ q. number_at t q.y q.x) l) (take_all k squares all ∙ same ∙ ap (λ (u : Tiling). u.squares) is)
