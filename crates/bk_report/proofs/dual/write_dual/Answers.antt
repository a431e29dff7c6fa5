use Rattle.std.proofs.lemmas.Grind.{common_steps}
use Rattle.bk_laws.proofs.AllOfLists.{all_small-below_1000}
use Rattle.bk_tiling.specs.declared.Square.{Square}
use Rattle.std.specs.Prelude.{All, decimal}
use Rattle.std.proofs.Common.{arith, List, subst, sym, ℕ, ◌≤◌}
use Rattle.bk_tiling.specs.Tiling.{order}
use Rattle.bk_sym.specs.Image.{image}
use Rattle.bk_sym.specs.declared.Turn.TheVariants.{Swap}
use Rattle.bk_dual.specs.Dual.{crossings, dual_diagram, dual_order}
use Rattle.bk_report.specs.Answers.{wire_text}
use Rattle.bk_report.specs.declared.net.TheConstants.{LARGEST_PLACE}
use Rattle.bk_report.proofs.Spaces.{dual_pieces}
use Rattle.bk_report.proofs.dual.write_dual.Goals as goal

pub push_places-requires-clause-small : goal.push_places-requires-clause-small
push_places-requires-clause-small c = subst (λ (l : List ℕ). All (λ n. n ≤ LARGEST_PLACE) l) (sym c.as_slice.ensures.value)
    (all_small-below_1000 c.dual_order.result.items (order c.args.tiling.now) (c.dual_order.ensures.kept).few c.dual_order.ensures.range)

pub returns-clause-line : goal.returns-clause-line
returns-clause-line c =
    rw (
      c.push.ensures.items,
      c.push_number.ensures.text,
      c.push_bytes-3.ensures,
      c.push_places.ensures.text,
      c.as_slice.ensures.value,
      c.push_bytes-2.ensures,
      c.push_sides.ensures.text,
      c.push_bytes.ensures,
      c.push_net.ensures.text,
      c.clear.ensures,
      c.dual_of.ensures.diagram,
      c.image.ensures.value,
      c.dual_order.ensures.value,
      c.from.ensures,
      c.crossings.ensures,
    )
    (dual_pieces wire_text (λ (q : Square). decimal q.s) decimal (decimal (dual_diagram c.args.tiling.now).nodes) (decimal (image Swap c.args.tiling.now).width)
    (decimal (crossings c.args.tiling.now)) (dual_diagram c.args.tiling.now).wires (image Swap c.args.tiling.now).squares (dual_order c.args.tiling.now))

pub push_sides-requires : goal.push_sides-requires
push_sides-requires c = grind (arith, common_steps)

pub push_bytes-requires-2 : goal.push_bytes-requires-2
push_bytes-requires-2 c = grind (arith, common_steps)

pub push_places-requires-clause-room : goal.push_places-requires-clause-room
push_places-requires-clause-room c = grind (arith, common_steps)

pub push_bytes-requires-3 : goal.push_bytes-requires-3
push_bytes-requires-3 c = grind (arith, common_steps)

pub push_number-requires : goal.push_number-requires
push_number-requires c = grind (arith, common_steps)

pub push-requires : goal.push-requires
push-requires c = grind (arith, common_steps)

pub returns-clause-short : goal.returns-clause-short
returns-clause-short c = grind (arith, common_steps)
