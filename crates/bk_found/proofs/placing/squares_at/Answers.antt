use Rattle.std.specs.Int.{w64}
use Rattle.std.specs.Prelude.{pos}
use Rattle.std.proofs.Common.{List, ap, arith, length, lit<, of_z, slice_index_or, subst, sym, to_z, ℕ, ℤ, ◌+◌, ◌*◌, ◌^◌, ◌∙◌, ◌≡◌}
use Rattle.std.proofs.lemmas.Int.{to_z-of_z}
use Rattle.bk_tiling.specs.declared.Square.{Square}
use Rattle.bk_found.specs.Candidate.{placed_square}
use Rattle.bk_found.specs.Placing.{IsPlacedAt, IsSmallNumber}
use Rattle.bk_found.proofs.LevelSteps.{ArePlaced, held_as_is, held_still, held_within, line_within, placed_more, told_lines}
use Rattle.bk_found.proofs.placing.squares_at.Goals as goal

pub line_place-left-requires : goal.line_place-left-requires
line_place-left-requires c =
    omega (arith, c.args.candidate.now.known.lines c.loop-k.k c.loop-k-test.true, c.loop-k-test.true, c.args.candidate.now.known.rights)

pub square_between-requires-clause-left : goal.square_between-requires-clause-left
square_between-requires-clause-left c = held_within (17 * 2 ^ 34) c.line_place-left.result
    (subst (λ (z : ℤ). IsSmallNumber (17 * 2 ^ 34) z) (sym c.line_place-left.ensures) (line_within c.args.candidate.now.rights.now
    (to_z w64 (of_z w64 c.args.candidate.now.total)) (slice_index_or c.args.candidate.now.lefts.now c.loop-k.k 0)
    (held_still (2 ^ 34) c.args.candidate.now.total c.args.candidate.now.known.small_total (omega arith)) c.args.candidate.now.known.small_rights
    (omega (arith, c.args.candidate.now.known.lines c.loop-k.k c.loop-k-test.true, c.loop-k-test.true, c.args.candidate.now.known.rights)))) (omega arith)

pub square_between-requires-clause-right : goal.square_between-requires-clause-right
square_between-requires-clause-right c = held_within (17 * 2 ^ 34) (slice_index_or c.args.candidate.now.rights.now c.loop-k.k (pos 0))
    (c.args.candidate.now.known.small_rights c.loop-k.k (omega (arith, c.loop-k-test.true, c.args.candidate.now.known.rights))) (omega arith)

pub square_between-requires-clause-above : goal.square_between-requires-clause-above
square_between-requires-clause-above c = held_within (16 * 2 ^ 34) (slice_index_or c.args.candidate.now.levels.now c.from.result (pos 0))
    (c.args.candidate.now.known.small_levels c.from.result (omega (
      arith,
      c.from.ensures,
      (c.args.candidate.now.known.ends c.loop-k.k (omega (arith, c.loop-k-test.true, c.args.candidate.now.known.wires))).0,
    ))) (omega arith)

pub square_between-requires-clause-below : goal.square_between-requires-clause-below
square_between-requires-clause-below c = held_within (16 * 2 ^ 34) (slice_index_or c.args.candidate.now.levels.now c.from-in-loop-k.result (pos 0))
    (c.args.candidate.now.known.small_levels c.from-in-loop-k.result (omega (
      arith,
      c.from-in-loop-k.ensures,
      (c.args.candidate.now.known.ends c.loop-k.k (omega (arith, c.loop-k-test.true, c.args.candidate.now.known.wires))).1,
    ))) (omega arith)

pub square_between-requires-clause-current : goal.square_between-requires-clause-current
square_between-requires-clause-current c = held_within (2 ^ 34) (slice_index_or c.args.candidate.now.currents.now c.loop-k.k (pos 0))
    (c.args.candidate.now.known.small_currents c.loop-k.k (omega (arith, c.loop-k-test.true, c.args.candidate.now.known.currents))) (omega arith)

pub loop-k-preserved : goal.loop-k-preserved
loop-k-preserved c =
    let k = c.loop-k.k in
    let ends = c.args.candidate.now.known.ends c.loop-k.k (omega (arith, c.loop-k-test.true, c.args.candidate.now.known.wires)) in
    let from : c.from.result ≡ (slice_index_or c.args.candidate.now.wires.now c.loop-k.k (0, 0)).0 = c.from.ensures in
    let to : c.from-in-loop-k.result ≡ (slice_index_or c.args.candidate.now.wires.now c.loop-k.k (0, 0)).1 = c.from-in-loop-k.ensures in
    let left = to_z-of_z w64 c.line_place-left.result (record { sfits = c.line_place-left.type_inv }) ∙ c.line_place-left.ensures in
    let right = held_as_is (17 * 2 ^ 34) (slice_index_or c.args.candidate.now.rights.now c.loop-k.k (pos 0))
    (c.args.candidate.now.known.small_rights c.loop-k.k (omega (arith, c.loop-k-test.true, c.args.candidate.now.known.rights))) (omega arith) in
    let above = held_as_is (16 * 2 ^ 34) (slice_index_or c.args.candidate.now.levels.now c.from.result (pos 0))
    (c.args.candidate.now.known.small_levels c.from.result (omega (arith, from, ends.0))) (omega arith)
    ∙ ap (λ (v : ℕ). slice_index_or c.args.candidate.now.levels.now v (pos 0)) from in
    let below = held_as_is (16 * 2 ^ 34) (slice_index_or c.args.candidate.now.levels.now c.from-in-loop-k.result (pos 0))
    (c.args.candidate.now.known.small_levels c.from-in-loop-k.result (omega (arith, to, ends.1))) (omega arith)
    ∙ ap (λ (v : ℕ). slice_index_or c.args.candidate.now.levels.now v (pos 0)) to in
    let current = held_as_is (2 ^ 34) (slice_index_or c.args.candidate.now.currents.now c.loop-k.k (pos 0))
    (c.args.candidate.now.known.small_currents c.loop-k.k (omega (arith, c.loop-k-test.true, c.args.candidate.now.known.currents))) (omega arith) in
    subst (λ (qs : List Square). ArePlaced c.args.candidate.now.lefts.now c.args.candidate.now.wires.now c.args.candidate.now.currents.now
    c.args.candidate.now.levels.now c.args.candidate.now.rights.now
    (to_z w64 (of_z w64 c.args.candidate.now.total)) qs (c.loop-k.k + 1)) (sym c.push.ensures.items)
    (placed_more c.args.candidate.now.lefts.now c.args.candidate.now.wires.now c.args.candidate.now.currents.now c.args.candidate.now.levels.now
    c.args.candidate.now.rights.now
    (to_z w64 (of_z w64 c.args.candidate.now.total)) c.loop-k.squares.items c.loop-k.k c.square_between.result c.loop-k.invariant
    (c.square_between.ensures ∙ (λ i. placed_square (left i) (right i) (above i) (below i) (current i))))

pub push-requires : goal.push-requires
push-requires c = (lit< tt, omega (arith, c.loop-k.invariant.many, c.loop-k-test.true, c.args.candidate.now.known.few))

pub returns-clause-many : goal.returns-clause-many
returns-clause-many c = omega (arith, c.loop-k.invariant.many, c.loop-k-test.false, c.loop-k.auto.k-end)

pub new-squares-requires : goal.new-squares-requires
new-squares-requires c = lit< tt

pub loop-k-init : goal.loop-k-init
loop-k-init c = record { many = ap length c.new-squares.ensures; each = λ k h. absurd (omega (arith, h)) }

pub offset_bounds-wires-k : goal.offset_bounds-wires-k
offset_bounds-wires-k c = omega (arith, c.loop-k-test.true, c.args.candidate.now.known.few)

pub bounds-wires-k : goal.bounds-wires-k
bounds-wires-k c = omega (arith, c.loop-k-test.true, c.args.candidate.now.known.wires)

pub bounds-wires-k-in-loop-k : goal.bounds-wires-k-in-loop-k
bounds-wires-k-in-loop-k c = omega (arith, c.loop-k-test.true, c.args.candidate.now.known.wires)

pub bounds-lefts-k : goal.bounds-lefts-k
bounds-lefts-k c = c.loop-k-test.true

pub offset_bounds-rights-k : goal.offset_bounds-rights-k
offset_bounds-rights-k c = omega (arith, c.loop-k-test.true, c.args.candidate.now.known.few)

pub bounds-rights-k : goal.bounds-rights-k
bounds-rights-k c = omega (arith, c.loop-k-test.true, c.args.candidate.now.known.rights)

pub from-requires : goal.from-requires
from-requires c = tt

pub offset_bounds-levels-from : goal.offset_bounds-levels-from
offset_bounds-levels-from c =
    omega (arith, c.from.ensures, (c.args.candidate.now.known.ends c.loop-k.k (omega (arith, c.loop-k-test.true, c.args.candidate.now.known.wires))).0)

pub bounds-levels-from : goal.bounds-levels-from
bounds-levels-from c =
    omega (arith, c.from.ensures, (c.args.candidate.now.known.ends c.loop-k.k (omega (arith, c.loop-k-test.true, c.args.candidate.now.known.wires))).0)

pub from-requires-in-loop-k : goal.from-requires-in-loop-k
from-requires-in-loop-k c = tt

pub offset_bounds-levels-from-in-loop-k : goal.offset_bounds-levels-from-in-loop-k
offset_bounds-levels-from-in-loop-k c =
    let ends = c.args.candidate.now.known.ends c.loop-k.k (omega (arith, c.loop-k-test.true, c.args.candidate.now.known.wires)) in
    omega (arith, c.from-in-loop-k.ensures, ends.1)

pub bounds-levels-from-in-loop-k : goal.bounds-levels-from-in-loop-k
bounds-levels-from-in-loop-k c = omega (
  arith,
  c.from-in-loop-k.ensures,
  (c.args.candidate.now.known.ends c.loop-k.k (omega (arith, c.loop-k-test.true, c.args.candidate.now.known.wires))).1,
)

pub offset_bounds-currents-k : goal.offset_bounds-currents-k
offset_bounds-currents-k c = omega (arith, c.loop-k-test.true, c.args.candidate.now.known.few)

pub bounds-currents-k : goal.bounds-currents-k
bounds-currents-k c = omega (arith, c.loop-k-test.true, c.args.candidate.now.known.currents)

pub loop-k-smaller : goal.loop-k-smaller
loop-k-smaller c = omega (arith, c.loop-k-test.true)

pub returns-clause-each : goal.returns-clause-each
returns-clause-each c = λ k h.
    subst (λ (t : ℤ). IsPlacedAt (told_lines c.args.candidate.now.lefts.now c.args.candidate.now.wires.now c.args.candidate.now.currents.now
    c.args.candidate.now.rights.now t) c.args.candidate.now.levels.now k
    (slice_index_or c.loop-k.squares.items k (record { x = 0; y = 0; s = 0 })))
    (held_as_is (2 ^ 34) c.args.candidate.now.total c.args.candidate.now.known.small_total (omega arith))
    (c.loop-k.invariant.each k (omega (arith, h, c.loop-k.auto.k-end, c.loop-k-test.false)))
