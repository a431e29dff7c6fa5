-- A call gives as many copies as fit into the buffer, and the others are left.
use Rattle.std.proofs.Common.{List, ◌+◌, arith, drop, length-append, replicate, ◌++◌, ℕ, sym, ap, length, length-take-le, min, refl, ◌∙◌, ◌-◌, ◌≡◌, ◌≤◌}
use Rattle.std.proofs.lemmas.List.{length-replicate, replicate-append-replicate, take_at}
use Rattle.bk_ports.specs.Stores.{Copies}
use Rattle.bk_ports.proofs.memory.FillSourceSource.read.Goals as goal

pub min-count-requires : goal.min-count-requires
min-count-requires c = tt

pub slice_bounds-fill-end : goal.slice_bounds-fill-end
slice_bounds-fill-end c = omega (arith, c.min-count.ensures)

pub slice_bounds-fill-end-2 : goal.slice_bounds-fill-end-2
slice_bounds-fill-end-2 c = sym (length-take-le c.min-count.result c.args.buf.now (omega (arith, c.min-count.ensures)))

pub fill-requires : goal.fill-requires
fill-requires c = tt

pub overflow_sub-self : goal.overflow_sub-self
overflow_sub-self c = omega (arith, c.min-count.ensures)

pub returns-clause-count : goal.returns-clause-count
returns-clause-count c =
    omega (
      arith,
      length-append c.fill.new.self (drop c.min-count.result c.args.buf.now),
      c.fill.ensures.len,
      length-take-le c.min-count.result c.args.buf.now (omega (arith, c.min-count.ensures)),
    )

pub returns-clause-bytes : goal.returns-clause-bytes
returns-clause-bytes c =
    let filled = c.min-count.result in
    let left = c.self.inside.left in
    let buf = c.args.buf.now in
    let within : filled ≤ length buf = omega (arith, c.min-count.ensures) in
    let parts : left ≡ filled + (left - filled) = omega (arith, c.min-count.ensures) in
    let all = c.fill.ensures.after (λ _ same. same) ∙ ap (λ (n : ℕ). replicate n c.self.inside.byte) (length-take-le filled buf within) in
    let some = ap length all ∙ length-replicate filled c.self.inside.byte in (
      sym (ap (λ (s : Copies). replicate s.count s.byte) c.self.view_is)
          ∙ ap (λ (n : ℕ). replicate n c.self.inside.byte) parts
          ∙ sym (replicate-append-replicate filled (left - filled) c.self.inside.byte)
          ∙ ap (λ (l : List ℕ). l ++ replicate (left - filled) c.self.inside.byte) (sym all ∙ sym (take_at c.fill.new.self (drop filled buf) filled some)),
      λ none _.
          let no : left - filled ≡ 0 = omega (arith, none, c.min-count.ensures, c.requires) in
          ap (λ (n : ℕ). replicate n c.self.inside.byte) no,
    )

pub returns-clause-cause : goal.returns-clause-cause
returns-clause-cause c = record { later = omega arith; ok = refl; failed = tt }

pub returns-clause-ok : goal.returns-clause-ok
returns-clause-ok c = refl

pub returns-clause-given : goal.returns-clause-given
returns-clause-given c = c.min-count.ensures ∙ ap (λ (s : Copies). min s.count (length c.args.buf.now)) c.self.view_is

pub returns-clause-after : goal.returns-clause-after
returns-clause-after c = λ i. record { byte = (c.self.view_is i).byte; count = (c.self.view_is i).count - c.min-count.result }
