use Rattle.std.proofs.Common.{ap, arith, drop, length, refl, ◌+◌, ◌-◌, ◌≤◌}
use Rattle.bk_laws.proofs.Rooms.{room-before, room-behind, room-length, room-made}
use Rattle.bk_play.proofs.splicing.make_room.Goals as goal

pub len-len-requires : goal.len-len-requires
len-len-requires g c = omega arith

pub lengthen-requires : goal.lengthen-requires
lengthen-requires g c = (omega arith, omega (arith, c.requires.order, c.requires.within, c.requires.fits, c.saturating_sub.ensures))

pub deref_mut-requires : goal.deref_mut-requires
deref_mut-requires g c = omega arith

pub copy_within-requires-clause-dest_in_bounds : goal.copy_within-requires-clause-dest_in_bounds
copy_within-requires-clause-dest_in_bounds g c = omega (
  arith,
  ap length c.deref_mut.ensures.value,
  c.lengthen.ensures.long,
  c.saturating_sub.ensures,
  c.len-len.ensures.value,
  c.requires.order,
  c.requires.within,
)

pub truncate-requires : goal.truncate-requires
truncate-requires g c = omega arith

pub returns-clause-long : goal.returns-clause-long
returns-clause-long g c =
    let long : length c.args.list.now.items ≤ length c.lengthen.new.list.items = omega (arith, c.lengthen.ensures.long) in
    let fits : c.args.start + c.args.room + (c.len-len.result - c.args.end) ≤ length c.lengthen.new.list.items =
    omega (arith, c.lengthen.ensures.long, c.saturating_sub.ensures, c.len-len.ensures.value, c.requires.order, c.requires.within) in
    room-length c.args.list.now.items c.lengthen.new.list.items c.truncate.new.self.items c.args.start c.args.end c.args.room c.len-len.result
    c.requires.order c.requires.within c.len-len.ensures.value long fits (room-made c.args.list.now.items c.lengthen.new.list.items c.deref_mut.result.now
    c.copy_within.new.self c.truncate.new.self.items c.args.start c.args.end c.args.room c.len-len.result c.requires.order c.requires.within
    c.len-len.ensures.value long fits c.deref_mut.ensures.value c.copy_within.ensures.len c.copy_within.ensures.after c.truncate.ensures.items)

pub returns-clause-front : goal.returns-clause-front
returns-clause-front g c =
    let long : length c.args.list.now.items ≤ length c.lengthen.new.list.items = omega (arith, c.lengthen.ensures.long) in
    let fits : c.args.start + c.args.room + (c.len-len.result - c.args.end) ≤ length c.lengthen.new.list.items =
    omega (arith, c.lengthen.ensures.long, c.saturating_sub.ensures, c.len-len.ensures.value, c.requires.order, c.requires.within) in
    room-before c.args.list.now.items c.lengthen.new.list.items c.truncate.new.self.items c.args.start c.args.end c.args.room c.len-len.result
    c.requires.order c.requires.within fits c.lengthen.ensures.front (room-made c.args.list.now.items c.lengthen.new.list.items c.deref_mut.result.now
    c.copy_within.new.self c.truncate.new.self.items c.args.start c.args.end c.args.room c.len-len.result c.requires.order c.requires.within
    c.len-len.ensures.value long fits c.deref_mut.ensures.value c.copy_within.ensures.len c.copy_within.ensures.after c.truncate.ensures.items)

pub returns-clause-back : goal.returns-clause-back
returns-clause-back g c =
    let long : length c.args.list.now.items ≤ length c.lengthen.new.list.items = omega (arith, c.lengthen.ensures.long) in
    let fits : c.args.start + c.args.room + (c.len-len.result - c.args.end) ≤ length c.lengthen.new.list.items =
    omega (arith, c.lengthen.ensures.long, c.saturating_sub.ensures, c.len-len.ensures.value, c.requires.order, c.requires.within) in
    room-behind c.args.list.now.items c.lengthen.new.list.items c.truncate.new.self.items c.args.start c.args.end c.args.room c.len-len.result
    c.requires.order c.requires.within c.len-len.ensures.value fits c.lengthen.ensures.front (room-made c.args.list.now.items c.lengthen.new.list.items
    c.deref_mut.result.now c.copy_within.new.self c.truncate.new.self.items c.args.start c.args.end c.args.room c.len-len.result c.requires.order
    c.requires.within c.len-len.ensures.value long fits c.deref_mut.ensures.value c.copy_within.ensures.len c.copy_within.ensures.after
    c.truncate.ensures.items)

pub overflow_sub-size : goal.overflow_sub-size
overflow_sub-size g c = c.requires.order

pub returns-then-room-size-clause-long : goal.returns-then-room-size-clause-long
returns-then-room-size-clause-long g c = omega (arith, c.if-room-size.true, c.requires.order, c.requires.within)

pub returns-then-room-size-clause-front : goal.returns-then-room-size-clause-front
returns-then-room-size-clause-front g c = refl

pub returns-then-room-size-clause-back : goal.returns-then-room-size-clause-back
returns-then-room-size-clause-back g c = ap (λ n. drop n c.args.list.now.items) (omega (arith, c.if-room-size.true, c.requires.order))

pub overflow_add-start : goal.overflow_add-start
overflow_add-start g c = omega (arith, c.requires.fits, c.requires.order, c.requires.within, g.N.fits)

pub copy_within-requires-clause-start_le_end : goal.copy_within-requires-clause-start_le_end
copy_within-requires-clause-start_le_end g c = omega (arith, c.len-len.ensures.value, c.requires.within)

pub copy_within-requires-clause-in_bounds : goal.copy_within-requires-clause-in_bounds
copy_within-requires-clause-in_bounds g c = omega (arith, c.len-len.ensures.value, ap length c.deref_mut.ensures.value, c.lengthen.ensures.long)

pub overflow_sub-len : goal.overflow_sub-len
overflow_sub-len g c = omega (arith, c.len-len.ensures.value, c.requires.within)

pub overflow_add-len : goal.overflow_add-len
overflow_add-len g c = omega (arith, c.len-len.ensures.value, c.requires.fits, g.N.fits)
