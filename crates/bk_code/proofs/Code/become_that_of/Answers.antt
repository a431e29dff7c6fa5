use Rattle.std.proofs.Common.{sym, ◌∙◌}
use Rattle.bk_tiling.specs.declared.Square.{Square}
use Rattle.bk_code.proofs.GroupSteps.{step_is, step_room}
use Rattle.bk_code.proofs.Code.become_that_of.Goals.{else-begins_group, then-begins_group}
use Rattle.bk_code.proofs.Code.become_that_of.Goals as goal

pub begin_group-requires-clause-room : goal.begin_group-requires-clause-room
begin_group-requires-clause-room c =
    step_room _ _ c.loop-i.i _ c.squares-squares.ensures.kept c.squares-squares.ensures.value c.loop-i-test.true c.loop-i.invariant

pub push_side-requires-clause-room : goal.push_side-requires-clause-room
push_side-requires-clause-room c =
    step_room _ _ c.loop-i.i _ c.squares-squares.ensures.kept c.squares-squares.ensures.value c.loop-i-test.true c.loop-i.invariant

abbrev nowhere : Square
nowhere = record { x = 0; y = 0; s = 0 }

pub loop-i-preserved : goal.loop-i-preserved
loop-i-preserved c = elim c.if-begins_group.branch [
  | then-begins_group w ↦ step_is c.args.tiling.now c.squares-squares.result.now c.loop-i.i c.loop-i.self _ _ nowhere c.squares-squares.ensures.value
      c.loop-i-test.true c.loop-i.invariant
      (sym w.if-begins_group.true ∙ c.begins_group.ensures) (w.self-is ∙ w.begin_group.ensures.group)
  | else-begins_group w ↦ step_is c.args.tiling.now c.squares-squares.result.now c.loop-i.i c.loop-i.self _ _ nowhere c.squares-squares.ensures.value
      c.loop-i-test.true c.loop-i.invariant
      (sym w.if-begins_group.false ∙ c.begins_group.ensures) (w.self-is ∙ w.push_side.ensures.group)
]
