use Rattle.std.specs.Prelude.{List, Some, [], false, length, refl, ℕ, ◌+◌, ◌<◌, ◌==◌, ◌∷◌, ◌≡◌, ◌≤◌}
use Rattle.std.proofs.Common.{ap, arith, le_refl, sym, zero-le, ◌∙◌}
use Rattle.std.proofs.lemmas.List.{length-drop}
use Rattle.bk_text.specs.Onward.{behind_sides}
use Rattle.bk_text.proofs.Fronts.{group_taken}
use Rattle.bk_text.proofs.Strides.{from, from_is_drop}
use Rattle.bk_text.proofs.gatherer.Gatherer.take_next_group.Goals as goal
use Rattle.bk_text.proofs.gatherer.Gatherer.take_next_group.Goals.{else-closed, then-closed}

-- bytes that are not empty
some_bytes : (bs : List ℕ) → false ≡ (length bs == 0) → 0 < length bs
some_bytes [] e = absurd (cc)
some_bytes (b ∷ bs) e = omega arith

-- the sides behind a bracket and the bracket lie within the bytes
group_and_bracket : (bs : List ℕ) (taken : ℕ) → false ≡ (length bs == 0) → taken ≤ length (from 1 bs) → taken + 1 ≤ length bs
group_and_bracket bs taken e within =
    omega (arith, some_bytes bs e, within, ap length (from_is_drop 1 bs), length-drop 1 bs)

pub returns-clause-leads : goal.returns-clause-leads
returns-clause-leads c =
    let moved : behind_sides c.args.header c.in-Open.bracket c.take_group-taken.result.1 ≡ c.if-closed.place = elim c.if-closed.branch [
      | then-closed w ↦ ap (behind_sides c.args.header c.in-Open.bracket) w.if-closed.true ∙ sym w.place-is
      | else-closed w ↦ ap (behind_sides c.args.header c.in-Open.bracket) w.if-closed.false ∙ sym w.place-is
    ] in
    group_taken c.args.place.now c.args.header c.in-Open.bracket c.args.bytes.now c.take_group-taken.result.0 c.take_group-taken.result.1 c.args.self.now
    c.take_group-taken.new.self c.requires (some_bytes c.args.bytes.now c.if-is_empty.ensures) (sym c.kind_of.ensures ∙ c.in-Open.is)
    c.take_group-taken.ensures.leads ∙ ap (λ z. Some (z, c.take_group-taken.new.self)) moved

pub returns-then-is_empty-clause-within : goal.returns-then-is_empty-clause-within
returns-then-is_empty-clause-within c = zero-le

pub returns-then-is_empty-clause-leads : goal.returns-then-is_empty-clause-leads
returns-then-is_empty-clause-leads c = refl

pub bounds-bytes-0 : goal.bounds-bytes-0
bounds-bytes-0 c = some_bytes c.args.bytes.now c.if-is_empty.ensures

pub returns-in_default : goal.returns-in_default
returns-in_default c = record { within = zero-le; leads = refl }

pub slice_bounds-take_group-count : goal.slice_bounds-take_group-count
slice_bounds-take_group-count c = some_bytes c.args.bytes.now c.if-is_empty.ensures

pub slice_bounds-take_group-start : goal.slice_bounds-take_group-start
slice_bounds-take_group-start c = some_bytes c.args.bytes.now c.if-is_empty.ensures

pub slice_bounds-take_group-end : goal.slice_bounds-take_group-end
slice_bounds-take_group-end c = le_refl (length c.args.bytes.now)

pub overflow_add-result : goal.overflow_add-result
overflow_add-result c = omega (arith, group_and_bracket c.args.bytes.now c.take_group-taken.result.0 c.if-is_empty.ensures c.take_group-taken.ensures.within)

pub returns-clause-within : goal.returns-clause-within
returns-clause-within c = group_and_bracket c.args.bytes.now c.take_group-taken.result.0 c.if-is_empty.ensures c.take_group-taken.ensures.within
