use Rattle.std.proofs.Common.{false, true, arith, ◌≡◌, get_or, ◌+◌, ◌<◌, ◌^◌}
use Rattle.bk_tiling.specs.declared.Square.{Square}
use Rattle.bk_simple.proofs.PartTrials.{no_part_with_corners_where_none_is_between, none_cut, none_single, none_whole, part_at_from}
use Rattle.bk_simple.specs.Border.{rectangle_of}
use Rattle.bk_tiling.specs.Sharing.{EdgesFit}
use Rattle.bk_simple.proofs.UncutParts.{square_at_a_place_has_a_side}
use Rattle.bk_tiling.specs.Tiling.{Rectangle}
use Rattle.bk_simple.specs.CornerSquares.{IsBetween}
use Rattle.bk_simple.proofs.KeptEdges.{edges_of_kept_fit, next_place_fits, place_in_memory_fits}
use Rattle.bk_simple.proofs.part_at.Goals as goal
use Rattle.bk_simple.proofs.part_at.Goals.{else-inside-ge2-via-then-inside-ge2+else-inside-order, else-inside-ge2-via-else-inside-ge2}

abbrev none : Square
none = record { x = 0; y = 0; s = 0 }

-- the edges of a rectangle that ends with a square fit
corner_fits : (p q : Square) (r : Rectangle) → IsBetween p q r → EdgesFit q → (r.x + r.width < 2 ^ 64) × (r.y + r.height < 2 ^ 64)
corner_fits p q r corners fits = (omega (arith, corners.right, fits.1), omega (arith, corners.bottom, fits.2))

pub returns-in_err-tried-clause-none : goal.returns-in_err-tried-clause-none
returns-in_err-tried-clause-none c =
    rw c.from_residual.ensures
    (no_part_with_corners_where_none_is_between c.args.tiling.now c.squares-squares.ensures.kept.tiling c.args.i c.args.j none c.args.right_end
    c.requires.right c.requires.first c.requires.last
    (rw c.squares-squares.ensures.value at c.in_err-tried.ensures.none))

pub returns-in_err-inside-clause-none : goal.returns-in_err-inside-clause-none
returns-in_err-inside-clause-none c =
    rw c.from_residual-in_err-inside.ensures
    (none_cut c.args.tiling.now c.squares-squares.ensures.kept.tiling c.args.i c.args.j none (rectangle_of c.in_ok-tried.tried)
    (rw c.squares-squares.ensures.value at c.in_ok-tried.ensures.some).corners
    (λ uncut. let e : false ≡ true = c.in_err-inside.ensures.uncut.1 uncut in cc))

pub returns-then-inside-order-clause-part : goal.returns-then-inside-order-clause-part
returns-then-inside-order-clause-part c =
    part_at_from c.args.tiling.now c.squares-squares.ensures.kept.tiling c.args.i c.args.j none (rectangle_of c.in_ok-tried.tried)
    (rw c.squares-squares.ensures.value at c.in_ok-tried.ensures.some).corners c.requires.first c.requires.last
    (c.in_ok-inside.ensures.uncut.0 (λ i. true)) (omega (arith, c.in_ok-inside.ensures.count))
    (omega (arith, c.in_ok-inside.ensures.count, c.order.ensures.value))

pub returns-else-inside-ge2-clause-none : goal.returns-else-inside-ge2-clause-none
returns-else-inside-ge2-clause-none c =
    elim c.else-inside-ge2.branch [
      | else-inside-ge2-via-then-inside-ge2+else-inside-order w ↦
          none_whole c.args.tiling.now c.squares-squares.ensures.kept.tiling c.args.i c.args.j none (rectangle_of c.in_ok-tried.tried)
          (rw c.squares-squares.ensures.value at c.in_ok-tried.ensures.some).corners (omega (arith, c.in_ok-inside.ensures.count, w.order.ensures.value))
      | else-inside-ge2-via-else-inside-ge2 w ↦
          none_single c.args.tiling.now c.squares-squares.ensures.kept.tiling c.args.i c.args.j none (rectangle_of c.in_ok-tried.tried)
          (rw c.squares-squares.ensures.value at c.in_ok-tried.ensures.some).corners (omega (arith, c.in_ok-inside.ensures.count))
    ]

pub offset_bounds-squares-i : goal.offset_bounds-squares-i
offset_bounds-squares-i c = place_in_memory_fits c.args.tiling.now c.squares-squares.ensures.kept c.args.i c.requires.first

pub bounds-squares-i : goal.bounds-squares-i
bounds-squares-i c = rw c.squares-squares.ensures.value c.requires.first

pub offset_bounds-squares-j : goal.offset_bounds-squares-j
offset_bounds-squares-j c = place_in_memory_fits c.args.tiling.now c.squares-squares.ensures.kept c.args.j c.requires.last

pub bounds-squares-j : goal.bounds-squares-j
bounds-squares-j c = rw c.squares-squares.ensures.value c.requires.last

pub between-requires-clause-p_fits : goal.between-requires-clause-p_fits
between-requires-clause-p_fits c =
    rw c.squares-squares.ensures.value (let e = edges_of_kept_fit c.args.tiling.now c.squares-squares.ensures.kept c.args.i none c.requires.first in (e.1, e.2))

pub between-requires-clause-q_fits : goal.between-requires-clause-q_fits
between-requires-clause-q_fits c =
    rw c.squares-squares.ensures.value (let e = edges_of_kept_fit c.args.tiling.now c.squares-squares.ensures.kept c.args.j none c.requires.last in (e.1, e.2))

pub between-requires-clause-sides : goal.between-requires-clause-sides
between-requires-clause-sides c =
    rw c.squares-squares.ensures.value (
      square_at_a_place_has_a_side c.args.tiling.now c.squares-squares.ensures.kept.tiling c.args.i none c.requires.first,
      square_at_a_place_has_a_side c.args.tiling.now c.squares-squares.ensures.kept.tiling c.args.j none c.requires.last,
    )

pub returns-in_err-tried-clause-part : goal.returns-in_err-tried-clause-part
returns-in_err-tried-clause-part c = rw c.from_residual.ensures tt

pub overflow_add-i : goal.overflow_add-i
overflow_add-i c = next_place_fits c.args.tiling.now c.squares-squares.ensures.kept c.args.i c.requires.first

pub count_inside-requires-clause-place : goal.count_inside-requires-clause-place
count_inside-requires-clause-place c = omega (arith, c.requires.first)

pub count_inside-requires-clause-fits : goal.count_inside-requires-clause-fits
count_inside-requires-clause-fits c =
    corner_fits _ (get_or c.args.tiling.now.squares c.args.j none) (rectangle_of c.in_ok-tried.tried)
    (rw c.squares-squares.ensures.value at c.in_ok-tried.ensures.some).corners
    (edges_of_kept_fit c.args.tiling.now c.squares-squares.ensures.kept c.args.j none c.requires.last)

pub returns-in_err-inside-clause-part : goal.returns-in_err-inside-clause-part
returns-in_err-inside-clause-part c = rw c.from_residual-in_err-inside.ensures tt
