use Rattle.std.specs.List.{splice}
use Rattle.std.proofs.Common.{arith, length, lit<, slice_range, ◌+◌, ◌++◌, ◌∙◌, ◌≡◌, ◌≤◌}
use Rattle.bk_word.specs.Play.{numbers_from}
use Rattle.bk_play.proofs.small.close_and_hang.Goals as goal

pub len-requires : goal.len-requires
len-requires c = lit< tt

pub len-requires-2 : goal.len-requires-2
len-requires-2 c = lit< tt

pub overflow_add-number : goal.overflow_add-number
overflow_add-number c = omega (arith, c.len.ensures.few, c.len-2.ensures.few)

pub overflow_add-number-2 : goal.overflow_add-number-2
overflow_add-number-2 c = omega (arith, c.len.ensures.few, c.len-2.ensures.few)

pub overflow_cast-number : goal.overflow_cast-number
overflow_cast-number c = omega (arith, c.len.ensures.few, c.len-2.ensures.few)

pub overflow_add-end : goal.overflow_add-end
overflow_add-end c = omega (arith, c.from-first.ensures, c.from.ensures, c.requires.within, c.requires.few)

pub part-valley-requires : goal.part-valley-requires
part-valley-requires c =
    let within : c.from-first.result + c.from.result ≤ length c.args.ends.now.items =
    omega (arith, c.requires.within, c.from-first.ensures, c.from.ensures) in
    let few : c.from-first.result + c.from.result ≤ 16 = omega (arith, within, c.requires.few) in
    (lit< tt, (lit< tt, (omega arith, (within, (omega (arith, few), omega (arith, few))))))

pub append-requires : goal.append-requires
append-requires c =
    let room : length c.args.closed.now.items + 16 ≤ 32 = omega (arith, c.requires.few) in (lit< tt, (lit< tt, room))

pub hang-requires-clause-order : goal.hang-requires-clause-order
hang-requires-clause-order c = omega arith

pub hang-requires-clause-within : goal.hang-requires-clause-within
hang-requires-clause-within c = omega (arith, c.requires.within, c.from-first.ensures, c.from.ensures)

pub hang-requires-clause-few : goal.hang-requires-clause-few
hang-requires-clause-few c = omega (arith, c.requires.few)

pub hang-requires-clause-fits : goal.hang-requires-clause-fits
hang-requires-clause-fits c = omega (arith, c.requires.few)

pub hang-requires-clause-small : goal.hang-requires-clause-small
hang-requires-clause-small c = omega (arith, c.len.ensures.few, c.len-2.ensures.few)

pub returns-clause-ends : goal.returns-clause-ends
returns-clause-ends c =
    let number : c.len.result + c.len-2.result + 1 ≡ length c.args.ends.now.items + length c.args.closed.now.items + 1 =
    omega (arith, c.len.ensures.value, c.len-2.ensures.value) in
    c.hang.ensures ∙ (λ i. splice c.args.ends.now.items (c.from-first.ensures i) (c.from-first.ensures i + c.from.ensures i)
    (numbers_from (number i) c.args.noted.now.count))

pub returns-clause-closed : goal.returns-clause-closed
returns-clause-closed c = c.append.ensures ∙ (λ i. c.args.closed.now.items ++ (c.part-valley.ensures
    ∙ (λ i. slice_range c.args.ends.now.items (c.from-first.ensures i) (c.from-first.ensures i + c.from.ensures i))) i)
