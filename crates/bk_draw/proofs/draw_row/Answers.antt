use Rattle.std.proofs.Common.{List, [], ap, arith, length, lit<, rules, ◌+◌, ◌++◌, ◌∙◌, ◌∷◌, ◌≡◌, ℕ}
use Rattle.std.proofs.lemmas.List.FromFn.{fill_by_all}
use Rattle.arrayvec.proofs.ArrayVecLemmas.{items-with_items}
use Rattle.bk_draw.specs.Drawing.{character, drawing_row}
use Rattle.bk_draw.proofs.draw_row.Goals as goal

pub returns : goal.returns
returns c =
    let long : length c.draw_squares.new.points ≡ c.args.tiling.now.width + 1 =
    omega (arith, c.draw_squares.auto.points, ap length c.as_mut_slice.ensures.value, c.leave_blank.ensures.length, c.width.ensures.value) in
    let all : c.draw_squares.new.points ≡ drawing_row c.args.tiling.now c.args.y =
    fill_by_all (λ x. character c.args.tiling.now x c.args.y) c.draw_squares.new.points (c.args.tiling.now.width + 1) 0 long
    (λ x below. c.draw_squares.ensures x (omega (arith, long, c.draw_squares.auto.points))) in
    c.push.ensures.items ∙ ap (λ (points : List ℕ). points ++ 10 ∷ []) (items-with_items c.leave_blank.new.row c.draw_squares.new.points (search rules) ∙ all)

pub draw_squares-requires-clause-width : goal.draw_squares-requires-clause-width
draw_squares-requires-clause-width c = omega (arith, ap length c.as_mut_slice.ensures.value, c.leave_blank.ensures.length, c.width.ensures.value)

pub overflow_add-width : goal.overflow_add-width
overflow_add-width c = omega (arith, c.width.ensures.value, c.requires.width)

pub leave_blank-requires : goal.leave_blank-requires
leave_blank-requires c = omega (arith, c.width.ensures.value, c.requires.width)

pub as_mut_slice-requires : goal.as_mut_slice-requires
as_mut_slice-requires c = lit< tt
