use Rattle.std.proofs.Common.{Bor, Err, Option, ap, arith, length, refl, subst, ℕ, ◌+◌, ◌<◌, ◌∙◌, ◌≡◌, ◌≤◌}
use Rattle.std.specs.Option.{option_copied}
use Rattle.std.specs.Prelude.{Ok, OnOk, Result}
use Rattle.bk_tiling.specs.Tiling.{Tiling}
use Rattle.bk_report.specs.ListLines.{refused_line}
use Rattle.bk_report.specs.declared.refusal.Refused.TheVariants.{More}
use Rattle.bk_answer.specs.Item.{HasTiling, IsLaidLine}
use Rattle.bk_alike.specs.Listed.{Listed, ListsLine, MayWantItem, with_item, with_refused}
use Rattle.bk_alike.proofs.ListedLines.{fewer_items_kept_unless_full, full_line, kept_apart, kept_line, memory_wanting_at_an_accepted_line, refused_begun}
use Rattle.bk_alike.proofs.ListedLines.{refused_entry, refused_outcome, skipped_line, wanting_apart}
use Rattle.bk_answer.proofs.Failing.{cause-of_same}
use Rattle.bk_alike.proofs.listed.ItemListRegister.enter.Goals as goal

pub returns-in-Ok-None-clause-outcome : goal.returns-in-Ok-None-clause-outcome
returns-in-Ok-None-clause-outcome g c =
    let none = subst (λ (o : Option (Bor Tiling)). IsLaidLine c.args.line.now (option_copied o)) c.in-Ok-None.field-0-is c.in-Ok-None.ensures.laid in
    skipped_line c.args.self.now _ c.args.number c.args.line.now (g.O.Sink.written c.args.out.now) none c.self.view_is

pub returns-in-Ok-clause-outcome : goal.returns-in-Ok-clause-outcome
returns-in-Ok-clause-outcome g c =
    let has : HasTiling c.args.line.now c.in-Ok-Some.tiling.now =
    subst (λ (o : Option (Bor Tiling)). IsLaidLine c.args.line.now (option_copied o)) c.in-Ok-Some.field-0-is c.in-Ok-Some.ensures.laid in
    let k = c.in-Ok.ensures.kept in
    let few : length c.self.inside.items < 16384 =
    fewer_items_kept_unless_full (length c.self.inside.items) c.add.result (kept_apart c.add.result c.in-Ok.field-0 c.in-Ok.is) c.add.ensures.full in
    kept_line c.args.self.now _ c.args.number c.args.line.now c.in-Ok-Some.tiling.now k.0 (g.O.Sink.written c.args.out.now) has
    (omega (arith, few, ap (λ (s : Listed). length s.items) c.self.view_is)) k.1
    ((λ i. record { items = k.2 i; refused = c.self.inside.refused }) ∙ ap (λ (s : Listed). with_item s c.args.number k.0) c.self.view_is)

full : (g : _) (c : goal.After-refuse g) → 16384 ≤ length c.args.self.now.items
full g c =
    let many : 16384 ≤ length c.self.inside.items = c.add.ensures.full.0 (c.in-Err-Full.is ∙ ap Err c.in-Err-Full.field-0-is) in
    omega (arith, many, ap (λ (s : Listed). length s.items) c.self.view_is)

pub returns-in-Err-Full-clause-outcome : goal.returns-in-Err-Full-clause-outcome
returns-in-Err-Full-clause-outcome g c =
    let has : HasTiling c.args.line.now c.in-Ok-Some.tiling.now =
    subst (λ (o : Option (Bor Tiling)). IsLaidLine c.args.line.now (option_copied o)) c.in-Ok-Some.field-0-is c.in-Ok-Some.ensures.laid in
    refused_outcome (λ pieces refused.
    ListsLine c.args.self.now c.args.number c.args.line.now (record { pieces = pieces; refused = refused }) c.refuse.new.self)
    (MayWantItem c.args.self.now c.args.number c.args.line.now) (refused_line c.args.number More)
    (g.O.Sink.written c.args.out.now) (g.O.Sink.written c.refuse.new.out) c.refuse.result
    (full_line c.args.self.now c.refuse.new.self c.args.number c.args.line.now c.in-Ok-Some.tiling.now has (full g c)
    (c.refuse.ensures.state ∙ (λ i. with_refused (record { items = c.in-Err-Full.ensures.unchanged i; refused = c.self.inside.refused }))
    ∙ ap with_refused c.self.view_is))
    c.refuse.ensures.outcome

pub returns-in-Err-Full-clause-failed : goal.returns-in-Err-Full-clause-failed
returns-in-Err-Full-clause-failed g c =
    let has : HasTiling c.args.line.now c.in-Ok-Some.tiling.now =
    subst (λ (o : Option (Bor Tiling)). IsLaidLine c.args.line.now (option_copied o)) c.in-Ok-Some.field-0-is c.in-Ok-Some.ensures.laid in
    refused_begun (λ pieces refused. (s : Listed) × ListsLine c.args.self.now c.args.number c.args.line.now (record { pieces = pieces; refused = refused }) s)
    (refused_line c.args.number More)
    (g.O.Sink.written c.args.out.now) (g.O.Sink.written c.refuse.new.out) c.refuse.result (
      with_refused c.args.self.now,
      full_line c.args.self.now (with_refused c.args.self.now) c.args.number c.args.line.now c.in-Ok-Some.tiling.now has (full g c) refl,
    )
    c.refuse.ensures.failed

pub returns-in-Err-clause-outcome : goal.returns-in-Err-clause-outcome
returns-in-Err-clause-outcome g c =
    refused_outcome (λ pieces refused.
    ListsLine c.args.self.now c.args.number c.args.line.now (record { pieces = pieces; refused = refused }) c.refuse-in-Err.new.self)
    (MayWantItem c.args.self.now c.args.number c.args.line.now) (refused_line c.args.number c.in-Err.refused)
    (g.O.Sink.written c.args.out.now) (g.O.Sink.written c.refuse-in-Err.new.out) c.refuse-in-Err.result
    (refused_entry c.args.self.now c.refuse-in-Err.new.self c.args.number c.args.line.now c.in-Err.refused c.in-Err.ensures.refused
    (c.refuse-in-Err.ensures.state ∙ ap with_refused c.self.view_is))
    c.refuse-in-Err.ensures.outcome

pub returns-in-Err-clause-failed : goal.returns-in-Err-clause-failed
returns-in-Err-clause-failed g c =
    refused_begun (λ pieces refused. (s : Listed) × ListsLine c.args.self.now c.args.number c.args.line.now (record { pieces = pieces; refused = refused }) s)
    (refused_line c.args.number c.in-Err.refused)
    (g.O.Sink.written c.args.out.now) (g.O.Sink.written c.refuse-in-Err.new.out) c.refuse-in-Err.result (
      with_refused c.args.self.now,
      refused_entry c.args.self.now (with_refused c.args.self.now) c.args.number c.args.line.now c.in-Err.refused c.in-Err.ensures.refused refl,
    )
    c.refuse-in-Err.ensures.failed

pub returns-in-Err-NoMemory-clause-outcome : goal.returns-in-Err-NoMemory-clause-outcome
returns-in-Err-NoMemory-clause-outcome g c =
    let has : HasTiling c.args.line.now c.in-Ok-Some.tiling.now =
    subst (λ (o : Option (Bor Tiling)). IsLaidLine c.args.line.now (option_copied o)) c.in-Ok-Some.field-0-is c.in-Ok-Some.ensures.laid in
    let few : length c.self.inside.items < 16384 =
    fewer_items_kept_unless_full (length c.self.inside.items) c.add.result
    (wanting_apart c.add.result (c.in-Err-NoMemory.is ∙ ap Err c.in-Err-NoMemory.field-0-is))
    c.add.ensures.full in
    memory_wanting_at_an_accepted_line c.args.self.now c.args.number c.args.line.now c.in-Ok-Some.tiling.now (g.O.Sink.written c.args.out.now) has
    (omega (arith, few, ap (λ (s : Listed). length s.items) c.self.view_is))

pub returns-in-Err-Full-clause-cause : goal.returns-in-Err-Full-clause-cause
returns-in-Err-Full-clause-cause g c = c.refuse.ensures.cause

pub returns-in-Err-clause-cause : goal.returns-in-Err-clause-cause
returns-in-Err-clause-cause g c = c.refuse-in-Err.ensures.cause

pub refuse-requires : goal.refuse-requires
refuse-requires g c = omega (arith, c.requires.early, c.requires.ready, ap (λ (s : Listed). s.refused) c.self.view_is)

pub refuse-requires-in-Err : goal.refuse-requires-in-Err
refuse-requires-in-Err g c = omega (arith, c.requires.early, c.requires.ready, ap (λ (s : Listed). s.refused) c.self.view_is)

pub returns-in-Ok-None-clause-cause : goal.returns-in-Ok-None-clause-cause
returns-in-Ok-None-clause-cause g c = cause-of_same refl

pub returns-in-Ok-None-clause-ready : goal.returns-in-Ok-None-clause-ready
returns-in-Ok-None-clause-ready g c = omega (arith, c.requires.ready, ap (λ (s : Listed). s.refused) c.self.view_is)

pub returns-in-Ok-clause-cause : goal.returns-in-Ok-clause-cause
returns-in-Ok-clause-cause g c = cause-of_same refl

pub returns-in-Ok-clause-ready : goal.returns-in-Ok-clause-ready
returns-in-Ok-clause-ready g c = omega (arith, c.requires.ready, ap (λ (s : Listed). s.refused) c.self.view_is)

-- after one more refused line
ready_next : {T E : Type 0} (r : Result T E) (n m k number : ℕ) → m ≡ n + 1 → n ≡ k → k < number → OnOk r (m < number + 1)
ready_next (Ok x) n m k number next same less = omega (arith, next, same, less)
ready_next (Err x) n m k number next same less = tt

pub returns-in-Err-Full-clause-ready : goal.returns-in-Err-Full-clause-ready
returns-in-Err-Full-clause-ready g c =
    ready_next c.refuse.result c.self.inside.refused c.refuse.new.self.refused c.args.self.now.refused c.args.number
    (ap (λ (s : Listed). s.refused) c.refuse.ensures.state) (ap (λ (s : Listed). s.refused) c.self.view_is) c.requires.ready

pub returns-in-Err-NoMemory-clause-cause : goal.returns-in-Err-NoMemory-clause-cause
returns-in-Err-NoMemory-clause-cause g c = cause-of_same refl

pub returns-in-Err-NoMemory-clause-ready : goal.returns-in-Err-NoMemory-clause-ready
returns-in-Err-NoMemory-clause-ready g c = omega (arith, c.requires.ready, ap (λ (s : Listed). s.refused) c.self.view_is)

pub returns-in-Err-clause-ready : goal.returns-in-Err-clause-ready
returns-in-Err-clause-ready g c =
    ready_next c.refuse-in-Err.result c.self.inside.refused c.refuse-in-Err.new.self.refused c.args.self.now.refused c.args.number
    (ap (λ (s : Listed). s.refused) c.refuse-in-Err.ensures.state) (ap (λ (s : Listed). s.refused) c.self.view_is) c.requires.ready
