use Rattle.std.proofs.lemmas.Grind.{common_steps}
use Rattle.std.proofs.Common.{Contains, true, false, ◌≡◌, ◌↔◌, refl, subst, ap, arith, drop, length, length-take-le, rules, sym, ◌∙◌, ◌≤◌}
use Rattle.std.proofs.lemmas.List.{length-append}
use Rattle.std.proofs.lemmas.Bool.{true≢false}
use Rattle.std.proofs.lemmas.Bool.Decides.{Decides-eqb}
use Rattle.std.proofs.lemmas.List.Elements.{Decides-contains, contains_decides}
use Rattle.bk_ports.specs.Causes.{counted}
use Rattle.bk_ports.specs.Stores.{Supply}
use Rattle.bk_ports.proofs.memory.MemSourceSource.read.Goals as goal

pub returns-then-contains-clause-bytes : goal.returns-then-contains-clause-bytes
returns-then-contains-clause-bytes c = search rules

pub returns-then-contains-clause-after : goal.returns-then-contains-clause-after
returns-then-contains-clause-after c = search rules

pub returns-clause-bytes : goal.returns-clause-bytes
returns-clause-bytes c = grind (arith, common_steps)

pub returns-clause-given : goal.returns-clause-given
returns-clause-given c = search rules

pub invariant_of-self : goal.invariant_of-self
invariant_of-self c = c.self.invariant

pub invariant_of-self-2 : goal.invariant_of-self-2
invariant_of-self-2 c = c.self.invariant

pub returns-then-contains-clause-cause : goal.returns-then-contains-clause-cause
returns-then-contains-clause-cause c =
    let same = ap (λ (s : Supply). s.faults) c.self.view_is in
    let rose = c.saturating_add-self-inside-then-contains.ensures in
    record { later = omega (arith, same, rose, c.self.ranges); ok = tt; failed = omega (arith, same, rose) }

pub split_at-requires : goal.split_at-requires
split_at-requires c = let within : c.min-count.result ≤ length c.self.inside.bytes.now = omega (arith, c.min.ensures, c.min-count.ensures) in within

pub copy_from_slice-requires : goal.copy_from_slice-requires
copy_from_slice-requires c = length-take-le c.min-count.result c.args.buf.now (omega (arith, c.min.ensures, c.min-count.ensures))
    ∙ sym c.split_at.ensures.front_len

pub returns-clause-count : goal.returns-clause-count
returns-clause-count c = omega (
  arith,
  length-append c.copy_from_slice.new.self (drop c.min-count.result c.args.buf.now),
  ap length c.copy_from_slice.ensures.after,
  c.split_at.ensures.front_len,
)

pub returns-clause-cause : goal.returns-clause-cause
returns-clause-cause c =
    let same = ap (λ (s : Supply). s.faults) c.self.view_is in record { later = omega (arith, same); ok = same; failed = tt }

pub returns-clause-after : goal.returns-clause-after
returns-clause-after c = λ i. record {
  left = (c.split_at.ensures.back ∙ ap (λ (s : Supply). drop c.min-count.result s.left) c.self.view_is) i;
  most = (c.self.view_is i).most;
  fails = (c.self.view_is i).fails;
  call = (c.saturating_add-self-inside.ensures ∙ ap (λ (s : Supply). counted s.call) c.self.view_is) i;
  faults = (c.self.view_is i).faults;
}

pub saturating_add-self-inside-requires : goal.saturating_add-self-inside-requires
saturating_add-self-inside-requires c = tt

pub saturating_add-self-inside-requires-then-contains : goal.saturating_add-self-inside-requires-then-contains
saturating_add-self-inside-requires-then-contains c = tt

pub returns-then-contains-clause-count : goal.returns-then-contains-clause-count
returns-then-contains-clause-count c = tt

pub returns-then-contains-clause-fails : goal.returns-then-contains-clause-fails
returns-then-contains-clause-fails c =
    let fails = c.self.inside.fails.now in
    let call = c.self.inside.call in
    let told = Decides-contains fails call c.contains.result (contains_decides _ Decides-eqb fails call c.contains.result c.contains.ensures.cases) in
    subst (λ (s : Supply). (true ≡ true) ↔ Contains s.fails s.call) c.self.view_is (λ _. told.0 c.if-contains.true, λ _. refl)

pub returns-then-contains-clause-given : goal.returns-then-contains-clause-given
returns-then-contains-clause-given c = tt

pub min-requires : goal.min-requires
min-requires c = tt

pub min-count-requires : goal.min-count-requires
min-count-requires c = tt

pub slice_bounds-copy_from_slice-end : goal.slice_bounds-copy_from_slice-end
slice_bounds-copy_from_slice-end c = omega (arith, c.min.ensures, c.min-count.ensures)

pub slice_bounds-copy_from_slice-end-2 : goal.slice_bounds-copy_from_slice-end-2
slice_bounds-copy_from_slice-end-2 c = sym (length-take-le c.min-count.result c.args.buf.now (omega (arith, c.min.ensures, c.min-count.ensures)))

pub returns-clause-fails : goal.returns-clause-fails
returns-clause-fails c =
    let fails = c.self.inside.fails.now in
    let call = c.self.inside.call in
    let told = Decides-contains fails call c.contains.result (contains_decides _ Decides-eqb fails call c.contains.result c.contains.ensures.cases) in
    subst (λ (s : Supply). (false ≡ true) ↔ Contains s.fails s.call) c.self.view_is
    (λ yes. absurd (true≢false (sym yes)), λ has. sym c.if-contains.false ∙ told.1 has)
