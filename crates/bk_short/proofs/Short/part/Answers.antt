use Rattle.std.proofs.Common.{ap, arith, drop, length, length-take, length-take-le, slice_range, take, ◌-◌, ◌∙◌, ◌≡◌, ◌≤◌}
use Rattle.std.proofs.lemmas.List.{length-drop}
use Rattle.bk_short.specs.Short.{Short}
use Rattle.bk_short.proofs.CopiedPlaces.{parted}
use Rattle.bk_short.proofs.Short.part.Goals as goal

pub returns : goal.returns
returns g c =
    let items : take c.self.inside.len c.self.inside.cells ≡ c.args.self.now.items = ap (λ (s : Short g.row.T.Denot). s.items) c.self.view_is in
    let within : c.args.end ≤ c.self.inside.len = omega (
      arith,
      c.requires.within,
      ap length items,
      c.self.invariant.0,
      c.self.invariant.1,
      length-take-le c.self.inside.len c.self.inside.cells (omega (arith, c.self.invariant.0, c.self.invariant.1)),
    ) in
    parted c.self.inside.cells c.in-Some.cells.now c.args.start c.args.end c.self.inside.len g.row.W c.requires.order within c.requires.few
    c.in-Some.ensures.cases.same ∙ ap (λ l. slice_range l c.args.start c.args.end) items

pub offset_bounds-cells-start : goal.offset_bounds-cells-start
offset_bounds-cells-start g c = omega (arith, c.requires.room, c.self.invariant.1)

pub slice_bounds-first_chunk-count : goal.slice_bounds-first_chunk-count
slice_bounds-first_chunk-count g c = omega (arith, c.requires.room, c.self.invariant.1)

pub overflow_sub-result : goal.overflow_sub-result
overflow_sub-result g c = c.requires.order

pub unreachable-requires : goal.unreachable-requires
unreachable-requires g c = omega (
  arith,
  c.in-None.ensures.cases,
  c.requires.room,
  c.self.invariant.1,
  length-take (length c.self.inside.cells - c.args.start) (drop c.args.start c.self.inside.cells),
  length-drop c.args.start c.self.inside.cells,
)

pub unreachable-unreachable : goal.unreachable-unreachable
unreachable-unreachable g c = c.unreachable.result
