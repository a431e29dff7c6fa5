-- The layout of a tiling has the tiling's counts.
use Rattle.std.proofs.Common.{Bool, Some, ap, arith, count_by, filter, length, slice_get, sym, ℕ, ◌+◌}
use Rattle.std.proofs.Common.{◌<◌, ◌==◌, ◌∙◌, ◌≡◌}
use Rattle.std.proofs.lemmas.List.Sums.{length-filter}
use Rattle.std.proofs.lemmas.Option.{get_or_from_slice_get, slice_get_within}
use Rattle.bk_laws.proofs.Counts.{count_by-map}
use Rattle.bk_laws.proofs.NumberTests.{eq_test-of_iff}
use Rattle.bk_tiling.specs.SquareGroups.{square_groups}
use Rattle.bk_tiling.specs.Tiling.{IsTiling, Tiling, square_of}
use Rattle.bk_tiling.specs.declared.Square.{Square}
use Rattle.bk_net.specs.Diagram.{node_below}
use Rattle.bk_word.specs.Play.{numbers_from}
use Rattle.bk_layout.proofs.Lists.Ascending.{sorted_from, sorted_to}
use Rattle.bk_layout.proofs.TilingLayouts.NodesFit.{lists}
use Rattle.bk_layout.proofs.TilingLayouts.TilingNet.{numbers_map}
use Rattle.bk_layout.proofs.TilingLayouts.TilingSquares.{in_square}
use Rattle.bk_layout.specs.TilingLayout.{from_left, layout_of, node_above}
use Rattle.bk_layout.proofs.NormalImages.LayoutSides.{at_left_wall, at_right_wall, at_top, on_bottom}
use Rattle.bk_layout.proofs.Lists.SameNumbers.{Once, once_filter, once_numbers, once_places, same_long}
use Rattle.bk_layout.specs.Normal.{counts_of, is_at_bottom, is_at_left, is_at_right, is_at_top}
use Rattle.bk_layout.specs.LayoutCounts.{TheLayoutHasTheCounts, counts_of_layout}

module _ (t : Tiling) (tiling : IsTiling t) where
  -- a test of numbers counts the squares that pass a test, where the one passes at a square's number just where the other passes at it
  counted : (test : ℕ → Bool) (p : Square → Bool) → ((k : ℕ) → k < length t.squares → test k ≡ p (square_of t k))
      → count_by test (numbers_from 0 (length t.squares)) ≡ count_by p t.squares
  counted test p each = sym (count_by-map (λ b. b) test (numbers_from 0 (length t.squares)))
      ∙ ap (count_by (λ (b : Bool). b)) (numbers_map {A = Square} {B = Bool} test p 0 t.squares at)
      ∙ count_by-map (λ b. b) p t.squares
    where
      from_zero : (k : ℕ) → 0 + k ≡ k
      from_zero k = omega arith

      at : (k : ℕ) (q : Square) → slice_get t.squares k ≡ Some q → test (0 + k) ≡ p q
      at k q e = ap test (from_zero k) ∙ each k (slice_get_within t.squares k q e)
          ∙ ap p (get_or_from_slice_get t.squares k q (record { x = 0; y = 0; s = 0 }) e)

  -- as many stand in a list from left to right as pass its test
  listed : (test : ℕ → Bool) → Once (from_left t test) → length (from_left t test) ≡ count_by test (numbers_from 0 (length t.squares))
  listed test once = same_long (from_left t test) (filter test (numbers_from 0 (length t.squares))) once
      (once_filter test (numbers_from 0 (length t.squares)) (once_numbers 0 (length t.squares)))
      (sorted_from (λ q. (square_of t q).x) (filter test (numbers_from 0 (length t.squares))))
      (sorted_to (λ q. (square_of t q).x) (filter test (numbers_from 0 (length t.squares))))
      ∙ length-filter test (numbers_from 0 (length t.squares))

  top : length ((layout_of t).hanging 0) ≡ count_by is_at_top t.squares
  top = listed (λ q. node_above (square_groups t.squares) (square_of t q) == 0)
      (once_places ((layout_of t).hanging 0) (λ j k q e f. (lists t tiling).hanging_once 0 j k q e f))
      ∙ counted (λ q. node_above (square_groups t.squares) (square_of t q) == 0) is_at_top
      (λ k h. eq_test-of_iff (node_above (square_groups t.squares) (square_of t k)) 0 (square_of t k).y 0
      (at_top t tiling (square_of t k) (in_square t tiling k h)))

  bottom : length ((layout_of t).ending (layout_of t).bottom) ≡ count_by (is_at_bottom t.height) t.squares
  bottom = listed (λ q. node_below (square_groups t.squares) (square_of t q) == length (square_groups t.squares))
      (once_places ((layout_of t).ending (layout_of t).bottom) (λ j k q e f. (lists t tiling).ending_once (layout_of t).bottom j k q e f))
      ∙ counted (λ q. node_below (square_groups t.squares) (square_of t q) == length (square_groups t.squares)) (is_at_bottom t.height)
      (λ k h. eq_test-of_iff (node_below (square_groups t.squares) (square_of t k)) (length (square_groups t.squares))
      ((square_of t k).y + (square_of t k).s) t.height (on_bottom t tiling (square_of t k) (in_square t tiling k h)))

  left : count_by (λ q. (layout_of t).left q == 0) (numbers_from 0 (length t.squares)) ≡ count_by is_at_left t.squares
  left = counted (λ q. (layout_of t).left q == 0) is_at_left
      (λ k h. eq_test-of_iff ((layout_of t).left k) 0 (square_of t k).x 0 (at_left_wall t tiling (square_of t k) (in_square t tiling k h)))

  right : count_by (λ q. (layout_of t).right q == 1) (numbers_from 0 (length t.squares)) ≡ count_by (is_at_right t.width) t.squares
  right = counted (λ q. (layout_of t).right q == 1) (is_at_right t.width)
      (λ k h. eq_test-of_iff ((layout_of t).right k) 1 ((square_of t k).x + (square_of t k).s) t.width
      (at_right_wall t tiling (square_of t k) (in_square t tiling k h)))

  same_counts : counts_of_layout (layout_of t) ≡ counts_of t
  same_counts = λ i. record {
    squares = length t.squares;
    moves = length (square_groups t.squares);
    top = top i;
    bottom = bottom i;
    left = left i;
    right = right i;
  }

-- the law
pub the_layout_has_the_counts : TheLayoutHasTheCounts
the_layout_has_the_counts t tiling = same_counts t tiling
