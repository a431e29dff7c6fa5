use Rattle.std.proofs.lemmas.Grind.{common_steps}
use Rattle.std.proofs.Common.{ap, arith, length, length-take, length-take-le, rules, sym, take, ◌++◌, ◌+◌, ◌∙◌, ◌≤◌}
use Rattle.bk_ports.specs.Stores.{Store}
use Rattle.bk_ports.proofs.memory.MemSinkSink.write_all.Goals as goal

pub returns-clause-ok : goal.returns-clause-ok
returns-clause-ok c = grind (arith, common_steps)

pub returns-clause-fits : goal.returns-clause-fits
returns-clause-fits c = search rules

pub returns-clause-after : goal.returns-clause-after
returns-clause-after c = grind (arith, common_steps)

pub returns-then-is_some-clause-after : goal.returns-then-is_some-clause-after
returns-then-is_some-clause-after c = search rules

pub overflow_sub-self-inside : goal.overflow_sub-self-inside
overflow_sub-self-inside c = c.self.invariant

pub copy_at-requires : goal.copy_at-requires
copy_at-requires c =
    let room : c.self.inside.kept + length (take c.min-count.result c.args.bytes.now) ≤ length c.self.inside.room.now = omega (
      arith,
      c.self.invariant,
      length-take c.min-count.result c.args.bytes.now,
      c.min-count.ensures,
      c.min-fitting.ensures,
    ) in room

pub invariant_of-self : goal.invariant_of-self
invariant_of-self c =
    let room : c.self.inside.kept + c.min-count.result ≤ length c.copy_at.new.room = omega (
      arith,
      c.copy_at.auto.room,
      c.self.invariant,
      c.min-count.ensures,
      c.min-fitting.ensures,
    ) in room

pub invariant_of-self-then-is_some : goal.invariant_of-self-then-is_some
invariant_of-self-then-is_some c =
    let room : c.self.inside.kept + c.min-count.result ≤ length c.copy_at.new.room = omega (
      arith,
      c.copy_at.auto.room,
      c.self.invariant,
      c.min-count.ensures,
      c.min-fitting.ensures,
    ) in room

pub returns-then-is_some-clause-err : goal.returns-then-is_some-clause-err
returns-then-is_some-clause-err c = (
  c.min-count.result,
  ap (λ n. take (c.self.inside.kept + n) c.copy_at.new.room)
      (sym (length-take-le c.min-count.result c.args.bytes.now (omega (arith, c.min-count.ensures, c.min-fitting.ensures))))
      ∙ c.copy_at.ensures ∙ ap (λ (s : Store). s.kept ++ take c.min-count.result c.args.bytes.now) c.self.view_is,
)

pub returns-then-is_some-clause-cause : goal.returns-then-is_some-clause-cause
returns-then-is_some-clause-cause c =
    let same = ap (λ (s : Store). s.faults) c.self.view_is in
    let rose = c.saturating_add-self-inside-then-is_some.ensures in
    record { later = omega (arith, same, rose, c.self.ranges); ok = tt; failed = omega (arith, same, rose) }

pub returns-clause-cause : goal.returns-clause-cause
returns-clause-cause c =
    let same = ap (λ (s : Store). s.faults) c.self.view_is in record { later = omega (arith, same); ok = same; failed = tt }
