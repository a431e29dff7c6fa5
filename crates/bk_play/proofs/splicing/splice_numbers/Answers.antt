use Rattle.std.proofs.Common.{ap, arith, length, refl, ◌+◌, ◌∙◌}
use Rattle.std.specs.List.{splice}
use Rattle.bk_laws.proofs.Rooms.{room-filled, room-long}
use Rattle.bk_word.specs.Play.{numbers_from}
use Rattle.bk_play.proofs.splicing.splice_numbers.Goals as goal

pub returns : goal.returns
returns g c =
    let many = room-long c.deref_mut.result.now c.make_room.new.list.items c.args.start (c.args.start + c.from-room.result) c.from-room.result
    c.deref_mut.ensures.value (omega (arith, c.make_room.ensures.long, c.requires.order, c.requires.within)) refl in
    room-filled c.args.list.now.items c.make_room.new.list.items c.deref_mut.result.now c.put_numbers.new.room c.args.start c.args.end
    c.from-room.result _ c.requires.order c.requires.within c.make_room.ensures.long c.make_room.ensures.front c.make_room.ensures.back
    c.deref_mut.ensures.value (omega arith) c.put_numbers.auto.room
    ∙ ap (splice c.args.list.now.items c.args.start c.args.end) (c.put_numbers.ensures ∙ ap (numbers_from c.args.first) (many ∙ c.from-room.ensures))

pub make_room-requires : goal.make_room-requires
make_room-requires g c = (omega arith, (c.requires.order, (c.requires.within, omega (arith, c.requires.fits, c.from-room.ensures))))

pub deref_mut-requires : goal.deref_mut-requires
deref_mut-requires g c = omega arith

pub overflow_add-start : goal.overflow_add-start
overflow_add-start g c = omega (arith, c.requires.order, c.ranges.end.fits, c.from-room.ensures, c.requires.small, c.requires.within)

pub slice_bounds-put_numbers-count : goal.slice_bounds-put_numbers-count
slice_bounds-put_numbers-count g c = omega arith

pub slice_bounds-put_numbers-start : goal.slice_bounds-put_numbers-start
slice_bounds-put_numbers-start g c = omega arith

pub slice_bounds-put_numbers-end : goal.slice_bounds-put_numbers-end
slice_bounds-put_numbers-end g c = omega (arith, ap length c.deref_mut.ensures.value, c.make_room.ensures.long, c.requires.order, c.requires.within)

pub put_numbers-requires : goal.put_numbers-requires
put_numbers-requires g c =
    let many = room-long c.deref_mut.result.now c.make_room.new.list.items c.args.start (c.args.start + c.from-room.result) c.from-room.result
    c.deref_mut.ensures.value (omega (arith, c.make_room.ensures.long, c.requires.order, c.requires.within)) refl in
    omega (arith, many, c.from-room.ensures, c.requires.small)
