use Rattle.std.proofs.lemmas.Grind.{common_steps}
use Rattle.std.proofs.Common.{arith}
use Rattle.std.specs.Prelude.{decimal, option_map}
use Rattle.bk_text.specs.CodeText.{size_text}
use Rattle.bk_tiling.specs.Tiling.{order}
use Rattle.bk_simple.specs.Border.{rectangle_of}
use Rattle.bk_report.specs.Answers.{perfect_text, simple_text}
use Rattle.bk_report.proofs.Spaces.{verdict_pieces}
use Rattle.bk_report.proofs.answer.push_verdicts.Goals as goal

pub returns : goal.returns
returns c =
    rw (
      c.push-3.ensures.items,
      c.push_simple.ensures.text,
      c.push-2.ensures.items,
      c.push_perfect.ensures.text,
      c.push.ensures.items,
      c.write_size.ensures.text,
      c.push_filled.ensures.text,
      c.order.ensures.value,
      c.width.ensures.value,
      c.height.ensures.value,
    )
    (verdict_pieces c.args.out.now.items (decimal (order c.args.tiling.now)) (size_text c.args.tiling.now.width c.args.tiling.now.height)
    (perfect_text c.args.repeated) (simple_text (option_map rectangle_of c.args.part)))

pub push-requires : goal.push-requires
push-requires c = grind (arith, common_steps)

pub push_perfect-requires : goal.push_perfect-requires
push_perfect-requires c = grind (arith, common_steps)

pub push-requires-2 : goal.push-requires-2
push-requires-2 c = grind (arith, common_steps)

pub push_simple-requires : goal.push_simple-requires
push_simple-requires c = grind (arith, common_steps)

pub push-requires-3 : goal.push-requires-3
push-requires-3 c = grind (arith, common_steps)
