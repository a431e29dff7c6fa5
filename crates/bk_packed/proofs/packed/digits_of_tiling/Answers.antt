use Rattle.std.proofs.Common.{arith, ap, length, ℕ, List}
use Rattle.bk_packed.proofs.LaidDigits.{as_long, digits_of_all_squares_where_all_are_laid, laid_on, not_begun, room_for_next, some_count}
use Rattle.bk_packed.proofs.packed.digits_of_tiling.Goals as goal

pub next_in-requires : goal.next_in-requires
next_in-requires c = (c.moves.invariant.word, c.moves.invariant.to)

pub push_digits-requires-clause-some : goal.push_digits-requires-clause-some
push_digits-requires-clause-some c =
    some_count c.args.tiling.now c.moves.laying c.next_in.new.self c.moves.digits.items c.moves.invariant c.next_in.new.m
    (c.next_in.ensures.next c.moves-test.true)

pub push_digits-requires-clause-room : goal.push_digits-requires-clause-room
push_digits-requires-clause-room c =
    room_for_next c.args.tiling.now c.moves.laying c.next_in.new.self c.moves.digits.items c.moves.invariant c.next_in.new.m
    (c.next_in.ensures.next c.moves-test.true) c.requires

pub moves-init : goal.moves-init
moves-init c = not_begun c.args.tiling.now c.begin.new.self c.new-digits.result.items c.begin.ensures.laid c.new-digits.ensures

pub moves-smaller : goal.moves-smaller
moves-smaller c = omega (
  arith,
  ap (λ (l : List ℕ). length l) c.push_digits.ensures,
  as_long c.args.tiling.now c.moves.laying c.next_in.new.self c.moves.digits.items c.moves.invariant c.next_in.new.m
      (c.next_in.ensures.next c.moves-test.true),
  room_for_next c.args.tiling.now c.moves.laying c.next_in.new.self c.moves.digits.items c.moves.invariant c.next_in.new.m
      (c.next_in.ensures.next c.moves-test.true) c.requires,
)

pub moves-preserved : goal.moves-preserved
moves-preserved c = laid_on c.args.tiling.now c.moves.laying c.next_in.new.self c.moves.digits.items c.moves.invariant c.next_in.new.m
    (c.next_in.ensures.next c.moves-test.true) c.push_digits.new.digits.items c.push_digits.ensures

pub returns : goal.returns
returns c = digits_of_all_squares_where_all_are_laid c.args.tiling.now c.moves.laying c.moves.digits.items c.moves.invariant c.requires
    (c.next_in.ensures.last c.moves-test.false)
