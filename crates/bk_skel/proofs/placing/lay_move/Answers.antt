use Rattle.std.proofs.Common.{ap, arith, length, refl, sym, ℕ, ◌++◌, ◌+◌, ◌-◌, ◌∙◌, ◌≤◌}
use Rattle.std.proofs.lemmas.Bool.{both_ways, false≢true}
use Rattle.bk_tiling.specs.SquareGroups.{laid_group}
use Rattle.bk_tiling.specs.declared.Segment.{Segment}
use Rattle.bk_lay.specs.TilingWord.{signs_between}
use Rattle.bk_skel.proofs.LaidMove.{lays_move, laid_as, numbers_as, window_then, after_steps}
use Rattle.bk_skel.proofs.placing.lay_move.Goals as goal

pub slice_bounds-gap_under-end : goal.slice_bounds-gap_under-end
slice_bounds-gap_under-end c = let m = lays_move c.requires in omega (arith, m.order, m.within, ap length c.deref-2.ensures.0)

pub gap_under-gap-requires : goal.gap_under-gap-requires
gap_under-gap-requires c = let m = lays_move c.requires in (m.valley, m.fitting c.deref.result.now c.deref-2.result.now c.deref.ensures.0 c.deref-2.ensures.0)

pub returns-then-sum_of-gap-clause-none : goal.returns-then-sum_of-gap-clause-none
returns-then-sum_of-gap-clause-none c e v t =
    let m = lays_move c.requires in
    let found = c.gap_under-gap.ensures m.valley (m.fitting c.deref.result.now c.deref-2.result.now c.deref.ensures.0 c.deref-2.ensures.0) in
    c.if-sum_of-gap.true (c.sum_of.ensures.sum ∙ t.fills ∙ ap (λ (v : Segment). v.width) (m.only v t ∙ sym found))

pub push_group-requires-clause-fits : goal.push_group-requires-clause-fits
push_group-requires-clause-fits c =
    let m = lays_move c.requires in
    let found = c.gap_under-gap.ensures m.valley (m.fitting c.deref.result.now c.deref-2.result.now c.deref.ensures.0 c.deref-2.ensures.0) in
    omega (arith, m.fits (sym c.sum_of.ensures.sum ∙ c.if-sum_of-gap.false ∙ ap (λ (v : Segment). v.width) found), ap (λ (v : Segment). v.x) found)

pub splice_numbers-requires : goal.splice_numbers-requires
splice_numbers-requires c =
    let m = lays_move c.requires in
    let fits : length c.args.laying.now.numbers.items - (c.args.end - c.args.first) + length c.args.new.now ≤ 200 = omega (arith, m.room, m.order, m.within) in
    let small : c.len.result + 1 + length c.args.new.now ≤ 255 = omega (arith, (c.requires.1).room, c.len.ensures.value) in
    (omega arith, (m.order, (m.within, (fits, small))))

pub overflow_add-left : goal.overflow_add-left
overflow_add-left c = let m = lays_move c.requires in omega (arith, m.inside, m.few, m.room, (c.requires.1).room, c.saturating_sub-left.ensures)

pub overflow_add-left-2 : goal.overflow_add-left-2
overflow_add-left-2 c = let m = lays_move c.requires in omega (arith, m.inside, m.few, m.room, (c.requires.1).room, c.saturating_sub-left.ensures)

pub slice_bounds-signs_fit-end : goal.slice_bounds-signs_fit-end
slice_bounds-signs_fit-end c =
    let numbers_are = numbers_as c.args.laying.now.numbers.items c.splice_numbers.new.list.items c.deref-4.result.now c.args.laying.now.laid.items
    c.args.first c.args.end (c.len.result + 1) (length c.args.new.now) (ap (λ (n : ℕ). n + 1) c.len.ensures.value)
    c.splice_numbers.ensures c.deref-4.ensures.0 in
    omega (arith, (lays_move c.requires).inside, ap length numbers_are, c.saturating_sub-left.ensures)

pub signs_fit-requires-clause-known : goal.signs_fit-requires-clause-known
signs_fit-requires-clause-known c =
    let m = lays_move c.requires in
    let found = c.gap_under-gap.ensures m.valley (m.fitting c.deref.result.now c.deref-2.result.now c.deref.ensures.0 c.deref-2.ensures.0) in
    let window = window_then m (after_steps (c.saturating_sub-left.result + length c.args.signs.now + 1 - c.saturating_sub-left.result) found
    c.push_group.ensures c.deref-3.ensures.0 (ap (λ (n : ℕ). n + 1) c.len.ensures.value) c.splice_numbers.ensures c.deref-4.ensures.0
    c.saturating_sub-left.ensures (omega arith)) in
    window.known

pub signs_fit-requires-clause-low : goal.signs_fit-requires-clause-low
signs_fit-requires-clause-low c n h =
    let m = lays_move c.requires in
    let found = c.gap_under-gap.ensures m.valley (m.fitting c.deref.result.now c.deref-2.result.now c.deref.ensures.0 c.deref-2.ensures.0) in
    m.low c.deref-3.result.now (laid_as c.gap_under-gap.result m.valley c.args.laying.now.laid.items c.push_group.new.laid.items
    c.deref-3.result.now c.args.new.now found c.push_group.ensures c.deref-3.ensures.0) n h

pub signs_fit-requires-clause-count : goal.signs_fit-requires-clause-count
signs_fit-requires-clause-count c =
    let m = lays_move c.requires in
    let found = c.gap_under-gap.ensures m.valley (m.fitting c.deref.result.now c.deref-2.result.now c.deref.ensures.0 c.deref-2.ensures.0) in
    let window = window_then m (after_steps (c.saturating_sub-left.result + length c.args.signs.now + 1 - c.saturating_sub-left.result) found
    c.push_group.ensures c.deref-3.ensures.0 (ap (λ (n : ℕ). n + 1) c.len.ensures.value) c.splice_numbers.ensures c.deref-4.ensures.0
    c.saturating_sub-left.ensures (omega arith)) in
    window.count

pub returns-clause-fills : goal.returns-clause-fills
returns-clause-fills c e =
    let m = lays_move c.requires in
    let found = c.gap_under-gap.ensures m.valley (m.fitting c.deref.result.now c.deref-2.result.now c.deref.ensures.0 c.deref-2.ensures.0) in
    let window = window_then m (after_steps (c.saturating_sub-left.result + length c.args.signs.now + 1 - c.saturating_sub-left.result) found
    c.push_group.ensures c.deref-3.ensures.0 (ap (λ (n : ℕ). n + 1) c.len.ensures.value) c.splice_numbers.ensures c.deref-4.ensures.0
    c.saturating_sub-left.ensures (omega arith)) in (
      m.valley,
      (
        m.fills (sym c.sum_of.ensures.sum ∙ c.if-sum_of-gap.false ∙ ap (λ (v : Segment). v.width) found)
            (c.signs_fit.ensures.0 e ∙ ap signs_between window.bottoms),
        c.push_group.ensures ∙ ap (λ (v : Segment). c.args.laying.now.laid.items ++ laid_group v.x v.level c.args.new.now) found,
      ),
    )

pub returns-clause-none : goal.returns-clause-none
returns-clause-none c e v t =
    let m = lays_move c.requires in
    let found = c.gap_under-gap.ensures m.valley (m.fitting c.deref.result.now c.deref-2.result.now c.deref.ensures.0 c.deref-2.ensures.0) in
    let window = window_then m (after_steps (c.saturating_sub-left.result + length c.args.signs.now + 1 - c.saturating_sub-left.result) found
    c.push_group.ensures c.deref-3.ensures.0 (ap (λ (n : ℕ). n + 1) c.len.ensures.value) c.splice_numbers.ensures c.deref-4.ensures.0
    c.saturating_sub-left.ensures (omega arith)) in
    both_ways c.signs_fit.result e (c.signs_fit.ensures.1 (m.signs_are v t ∙ ap signs_between (sym window.bottoms)))

pub returns-clause-numbers : goal.returns-clause-numbers
returns-clause-numbers c e = numbers_as c.args.laying.now.numbers.items c.splice_numbers.new.list.items c.splice_numbers.new.list.items
    c.args.laying.now.laid.items c.args.first c.args.end (c.len.result + 1) (length c.args.new.now) (ap (λ (n : ℕ). n + 1) c.len.ensures.value)
    c.splice_numbers.ensures refl

pub sum_of-requires-clause-few : goal.sum_of-requires-clause-few
sum_of-requires-clause-few c = omega (arith, (lays_move c.requires).room)

pub sum_of-requires-clause-sides : goal.sum_of-requires-clause-sides
sum_of-requires-clause-sides c = (c.requires.1).sides

pub returns-then-sum_of-gap-clause-fills : goal.returns-then-sum_of-gap-clause-fills
returns-then-sum_of-gap-clause-fills c e = absurd (false≢true e)

pub returns-then-sum_of-gap-clause-numbers : goal.returns-then-sum_of-gap-clause-numbers
returns-then-sum_of-gap-clause-numbers c e = absurd (false≢true e)

pub overflow_add-number : goal.overflow_add-number
overflow_add-number c = omega (arith, (c.requires.1).room, c.len.ensures.value)

pub overflow_cast-number : goal.overflow_cast-number
overflow_cast-number c = omega (arith, (c.requires.1).room, c.len.ensures.value)

pub push_group-requires-clause-room : goal.push_group-requires-clause-room
push_group-requires-clause-room c = (c.requires.1).room

pub overflow_cast-new : goal.overflow_cast-new
overflow_cast-new c = omega (arith, (c.requires.1).room)

pub slice_bounds-gap_under-start : goal.slice_bounds-gap_under-start
slice_bounds-gap_under-start c = (lays_move c.requires).order
