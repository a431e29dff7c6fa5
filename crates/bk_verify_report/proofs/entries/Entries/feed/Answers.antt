use Rattle.std.proofs.lemmas.Grind.{common_steps}
use Rattle.std.proofs.Common.{List, arith, refl, subst, sym, true≢false, ◌∙◌}
use Rattle.bk_laws.proofs.Outcomes.{on_err-intro}
use Rattle.bk_verify_report.proofs.Standing.{canonical_order, kept_then, none_of_other_kind, none_of_other_order, stands_told, taken_in}
use Rattle.bk_verify_report.specs.KeptEntries.{AreKeptEntries, EntriesState, IsFirstSight, IsTakenIn, Kept, StandsFor, StandsForNone}
use Rattle.bk_verify_report.proofs.entries.Entries.feed.Goals as goal

pub returns-then-order-from-clause-fed : goal.returns-then-order-from-clause-fed
returns-then-order-from-clause-fed c = (
  subst (λ (s : EntriesState). StandsForNone s.order c.args.tiling.now) c.self.view_is
      (none_of_other_order c.self.inside.order c.args.tiling.now (λ e. c.if-order-from.true (c.order.ensures.value ∙ e ∙ sym c.from.ensures))),
  refl,
)

pub line_of-requires : goal.line_of-requires
line_of-requires c =
    omega (
      arith,
      canonical_order c.args.tiling.now c.canonical-member.result c.canonical-member.ensures.canonical,
      c.order.ensures.value,
      c.from.ensures,
      c.if-order-from.false,
      c.self.invariant.most,
    )

pub returns-then-not-is_perfect_simple-clause-fed : goal.returns-then-not-is_perfect_simple-clause-fed
returns-then-not-is_perfect_simple-clause-fed c = (
  subst (λ (s : EntriesState). StandsForNone s.order c.args.tiling.now) c.self.view_is
      (none_of_other_kind c.self.inside.order c.args.tiling.now c.canonical-member.result c.order.ensures.kept.tiling c.canonical-member.ensures.canonical
      (λ perfect simple. true≢false (sym (c.is_perfect_simple.ensures.1 (perfect, simple)) ∙ c.if-not-is_perfect_simple.true))),
  refl,
)

pub keep-requires-clause-few : goal.keep-requires-clause-few
keep-requires-clause-few c =
    omega (
      arith,
      canonical_order c.args.tiling.now c.canonical-member.result c.canonical-member.ensures.canonical,
      c.order.ensures.value,
      c.from.ensures,
      c.if-order-from.false,
      c.self.invariant.most,
    )

pub returns-in_err-keep-clause-wanting : goal.returns-in_err-keep-clause-wanting
returns-in_err-keep-clause-wanting c =
    let stands : StandsFor c.self.inside.order c.args.tiling.now c.canonical-member.result =
    stands_told c.self.inside.order c.args.tiling.now c.canonical-member.result c.order.result c.from.result c.is_perfect_simple.result
    c.order.ensures.kept.tiling
    c.canonical-member.ensures.canonical c.order.ensures.value c.from.ensures c.if-order-from.false c.is_perfect_simple.ensures c.if-not-is_perfect_simple.false
    in
    on_err-intro c.from_residual.result
    (subst (λ (s : EntriesState). IsFirstSight s c.args.tiling.now) c.self.view_is
    (record { tiling = c.canonical-member.result; stands = stands; new = c.in_default.ensures }))

pub invariant_of-self-2 : goal.invariant_of-self-2
invariant_of-self-2 c =
    let stands : StandsFor c.self.inside.order c.args.tiling.now c.canonical-member.result =
    stands_told c.self.inside.order c.args.tiling.now c.canonical-member.result c.order.result c.from.result c.is_perfect_simple.result
    c.order.ensures.kept.tiling
    c.canonical-member.ensures.canonical c.order.ensures.value c.from.ensures c.if-order-from.false c.is_perfect_simple.ensures c.if-not-is_perfect_simple.false
    in
    kept_then (record { order = c.self.inside.order; pairs = c.self.inside.kept }) c.args.tiling.now c.canonical-member.result c.args.line
    c.keep.new.self stands c.in_default.ensures
    c.self.invariant c.in_ok-keep.ensures.kept

pub returns-clause-kept : goal.returns-clause-kept
returns-clause-kept c = invariant_of-self-2 c

pub returns-clause-fed : goal.returns-clause-fed
returns-clause-fed c =
    let stands : StandsFor c.self.inside.order c.args.tiling.now c.canonical-member.result =
    stands_told c.self.inside.order c.args.tiling.now c.canonical-member.result c.order.result c.from.result c.is_perfect_simple.result
    c.order.ensures.kept.tiling
    c.canonical-member.ensures.canonical c.order.ensures.value c.from.ensures c.if-order-from.false c.is_perfect_simple.ensures c.if-not-is_perfect_simple.false
    in
    subst (λ (s : EntriesState). IsTakenIn s c.args.line c.args.tiling.now (record { order = c.self.inside.order; pairs = c.keep.new.self })) c.self.view_is
    (taken_in (record { order = c.self.inside.order; pairs = c.self.inside.kept }) c.args.tiling.now c.canonical-member.result c.args.line
    c.keep.new.self stands c.in_default.ensures
    c.in_ok-keep.ensures.kept)

pub returns-in-Some-clause-fed : goal.returns-in-Some-clause-fed
returns-in-Some-clause-fed c = grind (arith, common_steps)

pub returns-in_err-keep-clause-unchanged : goal.returns-in_err-keep-clause-unchanged
returns-in_err-keep-clause-unchanged c =
    on_err-intro c.from_residual.result ((λ i. record { order = c.self.inside.order; pairs = c.in_err-keep.ensures.unchanged i }) ∙ c.self.view_is)

pub invariant_of-self : goal.invariant_of-self
invariant_of-self c =
    subst (λ (k : List Kept). AreKeptEntries (record { order = c.self.inside.order; pairs = k })) (sym c.in_err-keep.ensures.unchanged)
    c.self.invariant

pub returns-in_err-keep-clause-kept : goal.returns-in_err-keep-clause-kept
returns-in_err-keep-clause-kept c = invariant_of-self c

pub returns-in-Some-clause-kept : goal.returns-in-Some-clause-kept
returns-in-Some-clause-kept c = subst AreKeptEntries c.self.view_is c.self.invariant

pub returns-then-order-from-clause-kept : goal.returns-then-order-from-clause-kept
returns-then-order-from-clause-kept c = subst AreKeptEntries c.self.view_is c.self.invariant

pub returns-then-not-is_perfect_simple-clause-kept : goal.returns-then-not-is_perfect_simple-clause-kept
returns-then-not-is_perfect_simple-clause-kept c = subst AreKeptEntries c.self.view_is c.self.invariant

pub keep-requires-clause-new : goal.keep-requires-clause-new
keep-requires-clause-new c = c.in_default.ensures
