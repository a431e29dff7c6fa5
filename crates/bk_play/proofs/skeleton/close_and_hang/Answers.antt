use Rattle.std.specs.List.{splice}
use Rattle.std.proofs.Common.{ap, arith, drop, length, lit<, slice_range, ◌+◌, ◌++◌, ◌-◌, ◌∙◌, ◌≡◌, ◌≤◌}
use Rattle.std.proofs.lemmas.List.{length-drop, length-take-le}
use Rattle.bk_word.specs.Play.{numbers_from}
use Rattle.bk_play.proofs.skeleton.close_and_hang.Goals as goal

pub len-requires : goal.len-requires
len-requires c = lit< tt

pub len-requires-2 : goal.len-requires-2
len-requires-2 c = lit< tt

pub overflow_add-number : goal.overflow_add-number
overflow_add-number c = omega (arith, c.len.ensures.fits, c.len-2.ensures.fits)

pub overflow_add-number-2 : goal.overflow_add-number-2
overflow_add-number-2 c = omega (arith, c.len.ensures.fits, c.len-2.ensures.fits)

pub overflow_cast-number : goal.overflow_cast-number
overflow_cast-number c = omega (arith, c.requires.few, c.len.ensures.value, c.len-2.ensures.value)

pub overflow_add-end : goal.overflow_add-end
overflow_add-end c = omega (arith, c.from-first.ensures, c.from.ensures, c.requires.within, c.requires.few)

pub deref-requires : goal.deref-requires
deref-requires c = lit< tt

pub slice_bounds-append-count : goal.slice_bounds-append-count
slice_bounds-append-count c = omega arith

pub slice_bounds-append-start : goal.slice_bounds-append-start
slice_bounds-append-start c = omega arith

pub slice_bounds-append-end : goal.slice_bounds-append-end
slice_bounds-append-end c = omega (arith, c.requires.within, c.from-first.ensures, c.from.ensures, ap length c.deref.ensures.0)

pub append-requires : goal.append-requires
append-requires c =
    let within : c.from-first.result + c.from.result ≤ length c.deref.result.now =
    omega (arith, c.requires.within, c.from-first.ensures, c.from.ensures, ap length c.deref.ensures.0) in (
      lit< tt,
      omega (
        arith,
        c.requires.within,
        c.requires.few,
        c.from-first.ensures,
        c.from.ensures,
        length-take-le (c.from-first.result + c.from.result - c.from-first.result) (drop c.from-first.result c.deref.result.now)
            (omega (arith, within, length-drop c.from-first.result c.deref.result.now)),
      ),
    )

pub splice_numbers-requires : goal.splice_numbers-requires
splice_numbers-requires c =
    let within : c.from-first.result + c.from.result ≤ length c.args.ends.now.items =
    omega (arith, c.requires.within, c.from-first.ensures, c.from.ensures) in
    let fits : length c.args.ends.now.items - (c.from-first.result + c.from.result - c.from-first.result) + c.args.noted.now.count ≤ 200 =
    omega (arith, c.requires.few) in
    let small : c.len.result + c.len-2.result + 1 + c.args.noted.now.count ≤ 255 =
    omega (arith, c.requires.few, c.len.ensures.value, c.len-2.ensures.value) in (lit< tt, (omega arith, (within, (fits, small))))

pub returns-clause-ends : goal.returns-clause-ends
returns-clause-ends c =
    let number : c.len.result + c.len-2.result + 1 ≡ length c.args.ends.now.items + length c.args.closed.now.items + 1 =
    omega (arith, c.len.ensures.value, c.len-2.ensures.value) in
    c.splice_numbers.ensures ∙ (λ i. splice c.args.ends.now.items (c.from-first.ensures i) (c.from-first.ensures i + c.from.ensures i)
    (numbers_from (number i) c.args.noted.now.count))

pub returns-clause-closed : goal.returns-clause-closed
returns-clause-closed c = c.append.ensures ∙ (λ i. c.args.closed.now.items
    ++ slice_range (c.deref.ensures.0 i) (c.from-first.ensures i) (c.from-first.ensures i + c.from.ensures i))
