-- The nodes of a diagram and of its dual, counted by the corners of squares.
use Rattle.std.specs.Cmp.{both_ways}
use Rattle.std.proofs.Common.{Bool, List, [], ap, arith, cond, count_by, length, map, refl, sum_by, ℕ, ◌&&◌, ◌+◌, ◌<◌, ◌==◌, ◌∙◌, ◌∷◌, ◌≡◌}
use Rattle.std.proofs.lemmas.Bool.Decides.{nat_tests}
use Rattle.std.proofs.lemmas.List.Sums.{sum_by-cons}
use Rattle.std.proofs.lemmas.List.{length-map}
use Rattle.bk_laws.proofs.Sums.{sum_by-add, sum_by-same_terms}
use Rattle.bk_tiling.proofs.GroupCount.{AreLaid, groups_counted}
use Rattle.bk_tiling.proofs.OrderLaws.{in_code_order-count, in_code_order-length, sum_ordered}
use Rattle.bk_tiling.proofs.TilingLaws.{cell_most, cell_once, side_of, wide_enough}
use Rattle.bk_tiling.specs.CodeOrder.{stands_beside}
use Rattle.bk_tiling.specs.SquareGroups.{square_groups}
use Rattle.bk_tiling.specs.Tiling.{IsTiling, Tiling}
use Rattle.bk_tiling.specs.declared.Square.{Square}
use Rattle.bk_sym.proofs.Images.{images_are_tilings}
use Rattle.bk_sym.specs.Image.{image, image_square}
use Rattle.bk_sym.specs.declared.Turn.TheVariants.{Swap}
use Rattle.bk_dual.proofs.CornerCounts.{among, bottom_left, on_left, on_top, over_here, top_left, top_right}
use Rattle.bk_dual.proofs.SquareCorners.{at_square}
use Rattle.bk_dual.proofs.CrossingBegins.{none_among, none_counted_between_at_column_0}
use Rattle.bk_dual.proofs.CrossingCount.{crossings_at_squares}
use Rattle.bk_dual.proofs.PointSums.{sum_same_in}
use Rattle.bk_dual.specs.Dual.{is_crossing}
use Rattle.bk_dual.specs.NodeSum.{NodesAndCrossings}

laid : (t : Tiling) → IsTiling t → AreLaid t.squares
laid t tiling = record { ordered = tiling.ordered; sides = side_of t tiling; most = cell_most t tiling }

beside_is : (p r : Square) → stands_beside p r ≡ top_right r.x r.y p
beside_is p r = both_ways (stands_beside p r) (top_right r.x r.y p) (λ e. grind (arith, nat_tests)) (λ e. grind (arith, nat_tests))

turned_beside_is : (w h : ℕ) (p r : Square) → stands_beside (image_square Swap w h p) (image_square Swap w h r) ≡ bottom_left r.x r.y p
turned_beside_is w h p r = both_ways (stands_beside (image_square Swap w h p) (image_square Swap w h r)) (bottom_left r.x r.y p)
    (λ e. grind (arith, nat_tests)) (λ e. grind (arith, nat_tests))

count_same : (f g : Square → Bool) (squares : List Square) → ((q : Square) → f q ≡ g q) → count_by f squares ≡ count_by g squares
count_same f g squares each =
    sum_by-same_terms (λ q. cond {A = ℕ} (f q) 1 0) (λ q. cond {A = ℕ} (g q) 1 0) squares (λ q. ap (λ (b : Bool). cond {A = ℕ} b 1 0) (each q))

sum_map : (f : Square → ℕ) (g : Square → Square) (squares : List Square) → sum_by f (map g squares) ≡ sum_by (λ q. f (g q)) squares
sum_map f g [] = refl
sum_map f g (q ∷ squares) = omega (arith, sum_by-cons f (g q) (map g squares), sum_by-cons (λ q. f (g q)) q squares, sum_map f g squares)

sum_ones : (squares : List Square) → sum_by (λ q. 1) squares ≡ length squares
sum_ones [] = refl
sum_ones (q ∷ squares) = omega (arith, sum_by-cons (λ (q : Square). 1) q squares, sum_ones squares)

module _ (t : Tiling) (tiling : IsTiling t) where
  -- the groups of the tiling
  own_groups : length (square_groups t.squares) + sum_by (λ r. count_by (top_right r.x r.y) t.squares) t.squares ≡ length t.squares
  own_groups = omega (
    arith,
    groups_counted t.squares (laid t tiling),
    sum_by-same_terms (λ r. count_by (λ p. stands_beside p r) t.squares) (λ r. count_by (top_right r.x r.y) t.squares) t.squares
        (λ r. count_same (λ p. stands_beside p r) (top_right r.x r.y) t.squares (λ p. beside_is p r)),
  )

  turned_count : (c : Square → Bool) → count_by c (image Swap t).squares ≡ count_by (λ p. c (image_square Swap t.width t.height p)) t.squares
  turned_count c = in_code_order-count c (map (image_square Swap t.width t.height) t.squares)
      ∙ sum_map (λ p. cond {A = ℕ} (c p) 1 0) (image_square Swap t.width t.height) t.squares

  -- and of its image
  turned_groups : length (square_groups (image Swap t).squares) + sum_by (λ r. count_by (bottom_left r.x r.y) t.squares) t.squares ≡ length t.squares
  turned_groups = omega (
    arith,
    groups_counted (image Swap t).squares (laid (image Swap t) (images_are_tilings t Swap tiling)),
    in_code_order-length (map (image_square Swap t.width t.height) t.squares),
    length-map t.squares (image_square Swap t.width t.height),
    sum_ordered (λ r. count_by (λ p. stands_beside p r) (image Swap t).squares) (map (image_square Swap t.width t.height) t.squares),
    sum_map (λ r. count_by (λ p. stands_beside p r) (image Swap t).squares) (image_square Swap t.width t.height) t.squares,
    sum_by-same_terms (λ r. count_by (λ p. stands_beside p (image_square Swap t.width t.height r)) (image Swap t).squares)
        (λ r. count_by (bottom_left r.x r.y) t.squares) t.squares
        (λ r. turned_count (λ p. stands_beside p (image_square Swap t.width t.height r))
        ∙ count_same (λ p. stands_beside (image_square Swap t.width t.height p) (image_square Swap t.width t.height r)) (bottom_left r.x r.y) t.squares
        (λ p. turned_beside_is t.width t.height p r)),
  )

  -- one square stands at the corner of the tiling
  one_first : sum_by (λ q. cond {A = ℕ} ((q.x == 0) && (q.y == 0)) 1 0) t.squares ≡ 1
  one_first = omega (
    arith,
    count_same (λ q. (q.x == 0) && (q.y == 0)) (top_left 0 0) t.squares first_is,
    over_here t tiling 0 0,
    cell_once t tiling 0 0 (wide_enough t tiling) high,
    none_among t tiling (on_left 0),
    none_counted_between_at_column_0 t tiling (on_top 0),
    none_counted_between_at_column_0 t tiling (among 0),
  )
    where
      first_is : (q : Square) → ((q.x == 0) && (q.y == 0)) ≡ top_left 0 0 q
      first_is q = both_ways ((q.x == 0) && (q.y == 0)) (top_left 0 0 q) (λ e. grind (arith, nat_tests)) (λ e. grind (arith, nat_tests))

      high : 0 < t.height
      high = wide_enough (image Swap t) (images_are_tilings t Swap tiling)

  corners_sum : sum_by (λ r. count_by (top_right r.x r.y) t.squares) t.squares + sum_by (λ r. count_by (bottom_left r.x r.y) t.squares) t.squares + 1
      ≡ length t.squares + sum_by (λ q. cond {A = ℕ} (is_crossing t q.x q.y) 1 0) t.squares
  corners_sum = omega (
    arith,
    sum_same_in (λ q. count_by (top_right q.x q.y) t.squares + count_by (bottom_left q.x q.y) t.squares + cond {A = ℕ} ((q.x == 0) && (q.y == 0)) 1 0)
        (λ q. 1 + cond {A = ℕ} (is_crossing t q.x q.y) 1 0) t.squares (at_square t tiling),
    sum_by-add (λ q. count_by (top_right q.x q.y) t.squares + count_by (bottom_left q.x q.y) t.squares) (λ q. cond {A = ℕ} ((q.x == 0) && (q.y == 0)) 1 0)
        t.squares,
    sum_by-add (λ q. count_by (top_right q.x q.y) t.squares) (λ q. count_by (bottom_left q.x q.y) t.squares) t.squares,
    sum_by-add (λ q. 1) (λ q. cond {A = ℕ} (is_crossing t q.x q.y) 1 0) t.squares,
    sum_ones t.squares,
    one_first,
  )

-- the nodes of both diagrams and the crossings are three more than the squares
pub nodes_and_crossings : NodesAndCrossings
nodes_and_crossings t tiling = omega (arith, own_groups t tiling, turned_groups t tiling, corners_sum t tiling, crossings_at_squares t tiling)
