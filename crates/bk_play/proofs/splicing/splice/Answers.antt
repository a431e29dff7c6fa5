use Rattle.std.proofs.Common.{ap, arith, drop, length, ℕ, ◌*◌, ◌+◌, ◌-◌, ◌<◌, ◌∙◌, ◌≤◌}
use Rattle.std.proofs.lemmas.List.{length-drop, length-take-le}
use Rattle.std.specs.List.{splice}
use Rattle.std.proofs.lemmas.Nat.{mul-le}
use Rattle.bk_laws.proofs.Rooms.{room-filled}
use Rattle.bk_play.proofs.splicing.splice.Goals as goal

-- a part of a list begins within the address space
begins : (start size n b : ℕ) → start ≤ n → n * size < b → b ≤ 18446744073709551616 → start * size < 18446744073709551616
begins start size n b h lt most = omega (arith, lt, most, mul-le start size n size h (omega arith))

pub offset_bounds-deref_mut-start : goal.offset_bounds-deref_mut-start
offset_bounds-deref_mut-start g c =
    let within : c.args.start ≤ length c.deref_mut.result.now =
    omega (arith, ap length c.deref_mut.ensures.value, c.make_room.ensures.long, c.requires.order, c.requires.within) in
    record { fits = begins _ _ _ _ within c.deref_mut.type_inv.1 (omega arith) }

pub returns : goal.returns
returns g c =
    room-filled c.args.list.now.items c.make_room.new.list.items c.deref_mut.result.now c.copy_from_slice.new.self c.args.start c.args.end
    (length c.args.items.now) _ c.requires.order c.requires.within c.make_room.ensures.long c.make_room.ensures.front c.make_room.ensures.back
    c.deref_mut.ensures.value (omega arith) c.copy_from_slice.ensures.len
    ∙ ap (splice c.args.list.now.items c.args.start c.args.end) c.copy_from_slice.ensures.after

pub overflow_add-start : goal.overflow_add-start
overflow_add-start g c = omega (arith, c.requires.fits, c.requires.order, c.requires.within, g.N.fits)

pub slice_bounds-copy_from_slice-count : goal.slice_bounds-copy_from_slice-count
slice_bounds-copy_from_slice-count g c = omega arith

pub copy_from_slice-requires : goal.copy_from_slice-requires
copy_from_slice-requires g c =
    length-take-le (c.args.start + length c.args.items.now - c.args.start) (drop c.args.start c.deref_mut.result.now) (omega (
      arith,
      length-drop c.args.start c.deref_mut.result.now,
      ap length c.deref_mut.ensures.value,
      c.make_room.ensures.long,
      c.requires.order,
      c.requires.within,
    ))
    ∙ omega arith

pub make_room-requires : goal.make_room-requires
make_room-requires g c = (omega arith, (c.requires.order, (c.requires.within, c.requires.fits)))

pub deref_mut-requires : goal.deref_mut-requires
deref_mut-requires g c = omega arith

pub slice_bounds-copy_from_slice-start : goal.slice_bounds-copy_from_slice-start
slice_bounds-copy_from_slice-start g c = omega arith

pub slice_bounds-copy_from_slice-end : goal.slice_bounds-copy_from_slice-end
slice_bounds-copy_from_slice-end g c = omega (arith, ap length c.deref_mut.ensures.value, c.make_room.ensures.long, c.requires.order, c.requires.within)
