use Rattle.std.proofs.Common.{ap, arith, filter, ◌∙◌, ◌≡◌}
use Rattle.bk_lay.proofs.LaidMoveLaws.{AreUnderValley, can_stand, laid_with_next, order_fits, under_valley}
use Rattle.bk_lay.specs.LevelRuns.{begins_under}
use Rattle.bk_lay.proofs.laying.lay_next.Goals.{After-squares_under-squares}
use Rattle.bk_lay.proofs.laying.lay_next.Goals as goal

-- the squares under the valley
found : (c : After-squares_under-squares) → AreUnderValley c.args.tiling.now c.squares.ensures.kept c.requires.going.0 c.args.outline.now
    c.requires.going.1 c.requires.low c.squares_under-squares.result.now
    (c.squares_under-squares.ensures ∙ ap (filter (begins_under c.args.outline.now.valley)) c.squares.ensures.value)
found c = under_valley c.args.tiling.now c.squares.ensures.kept c.requires.going.0 c.args.outline.now c.requires.going.1 c.requires.low
    c.squares_under-squares.result.now (c.squares_under-squares.ensures ∙ ap (filter (begins_under c.args.outline.now.valley)) c.squares.ensures.value)

pub move_under-requires-clause-few : goal.move_under-requires-clause-few
move_under-requires-clause-few c = (found (goal.at.move_under-requires-clause-few c).After-squares_under-squares).few

pub move_under-requires-clause-fit : goal.move_under-requires-clause-fit
move_under-requires-clause-fit c = (found (goal.at.move_under-requires-clause-fit c).After-squares_under-squares).bottom

pub lay-requires-clause-some : goal.lay-requires-clause-some
lay-requires-clause-some c = (found (goal.at.lay-requires-clause-some c).After-squares_under-squares).some

pub lay-requires-clause-room : goal.lay-requires-clause-room
lay-requires-clause-room c = omega (
  arith,
  c.squares.ensures.kept.few,
  (c.requires.going.1).room,
  c.move_under.ensures.count,
  order_fits c.args.tiling.now c.squares.ensures.kept c.requires.going.0 c.args.outline.now c.requires.going.1 c.requires.low
      c.squares_under-squares.result.now (c.squares_under-squares.ensures ∙ ap (filter (begins_under c.args.outline.now.valley)) c.squares.ensures.value)
      c.move_under.new.m c.move_under.ensures.count c.move_under.ensures.signs,
)

pub lay-requires-clause-right : goal.lay-requires-clause-right
lay-requires-clause-right c = (found (goal.at.lay-requires-clause-right c).After-squares_under-squares).right

pub lay-requires-clause-fit : goal.lay-requires-clause-fit
lay-requires-clause-fit c = (found (goal.at.lay-requires-clause-fit c).After-squares_under-squares).bottom

pub returns : goal.returns
returns c w to =
    let is : c.squares_under-squares.result.now ≡ filter (begins_under c.args.outline.now.valley) c.args.tiling.now.squares =
    c.squares_under-squares.ensures ∙ ap (filter (begins_under c.args.outline.now.valley)) c.squares.ensures.value in
    record {
      stands = can_stand c.args.tiling.now c.squares.ensures.kept w c.args.outline.now to c.requires.low c.squares_under-squares.result.now is
          c.move_under.new.m c.move_under.ensures.count c.move_under.ensures.signs;
      fits = order_fits c.args.tiling.now c.squares.ensures.kept w c.args.outline.now to c.requires.low c.squares_under-squares.result.now is
          c.move_under.new.m c.move_under.ensures.count c.move_under.ensures.signs;
      to = laid_with_next c.args.tiling.now c.squares.ensures.kept w c.args.outline.now to c.requires.low c.squares_under-squares.result.now is
          c.move_under.new.m c.move_under.ensures.count c.move_under.ensures.signs c.lay.new.self c.lay.ensures.outline
          c.lay.ensures.fewer;
    }
