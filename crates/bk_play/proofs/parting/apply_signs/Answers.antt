use Rattle.std.proofs.Common.{ap, arith, length, lit<, max, min, ℕ, ◌+◌, ◌-◌, ◌<◌, ◌∙◌, ◌≡◌, ◌≤◌}
use Rattle.std.specs.List.{splice}
use Rattle.bk_laws.proofs.Rooms.{room-filled, room-long}
use Rattle.bk_play.specs.Skeleton.{first_touched, joined_sizes, open_sides_of_record}
use Rattle.bk_play.proofs.parting.apply_signs.Goals as goal

-- the touched sizes give way to others
sizes_room : (start sides parted p q r n : ℕ) → p ≡ start → q ≡ sides → r ≡ parted → start + (sides + 1) ≤ n → n - (sides + 1) + (parted + 1) ≤ 200
    → (p ≤ p + q + 1) × ((p + q + 1 ≤ n) × (n - (p + q + 1 - p) + (r + 1) ≤ 200))
sizes_room start sides parted p q r n e f g within fits = (omega arith, (omega arith, omega arith))

-- the signs between the touched segments give way to others
signs_room : (start sides parted p q r n : ℕ) → p ≡ start → q ≡ sides → r ≡ parted → start + sides ≤ n → n - sides + parted ≤ 200
    → (p ≤ p + q) × ((p + q ≤ n) × (n - (p + q - p) + r ≤ 200))
signs_room start sides parted p q r n e f g within fits = (omega arith, (omega arith, omega arith))

-- a room of the sizes and one of the signs end within the list
sizes_end : (start sides p q r n new : ℕ) → p ≡ start → q ≡ sides → start + (sides + 1) ≤ n → new ≡ n - (p + q + 1 - p) + (r + 1) → p + r + 1 ≤ new
sizes_end start sides p q r n new e f within long = omega arith

signs_end : (start sides p q r n new : ℕ) → p ≡ start → q ≡ sides → start + sides ≤ n → new ≡ n - (p + q - p) + r → p + r ≤ new
signs_end start sides p q r n new e f within long = omega arith

-- a start, the open sides and the parted signs are few together
all_few : (start left right parted p q r n : ℕ) → p ≡ start → q ≡ min left 1 + min right 1 → r ≡ parted → start + (min left 1 + min right 1 + 1) ≤ n
    → n - (min left 1 + min right 1 + 1) + (parted + 1) ≤ 200 → p + q + r + 1 ≤ 400
all_few start left right parted p q r n e f g within fits = omega arith

one_more : (p r m : ℕ) → r ≡ m → p + r + 1 ≡ p + (m + 1)
one_more p r m e = omega arith

-- sides that are one at least are small
still_small : (left right a b n : ℕ) → a ≡ max left 1 → b ≡ max right 1 → left + n + right ≤ 253 → a + n + b < 256
still_small left right a b n e f h = omega arith

pub returns-clause-sizes : goal.returns-clause-sizes
returns-clause-sizes c =
    let to : c.first_touched-start.result + c.open_sides-open.result + 1 ≡ first_touched c.args.noted.now + (open_sides_of_record c.args.noted.now + 1) =
    omega (arith, c.first_touched-start.ensures, c.open_sides-open.ensures) in
    let sizes = c.put_sizes.ensures ∙ (λ i. joined_sizes (c.max.ensures i) (c.max-2.ensures i) c.args.moved.now) in
    room-filled c.args.sizes.now.items c.make_room.new.list.items c.deref_mut.result.now c.put_sizes.new.room c.first_touched-start.result
    (c.first_touched-start.result + c.open_sides-open.result + 1) (c.from-parted.result + 1) _ (omega arith)
    (omega (arith, c.first_touched-start.ensures, c.open_sides-open.ensures, c.requires.room.sizes_within)) c.make_room.ensures.long c.make_room.ensures.front
    c.make_room.ensures.back c.deref_mut.ensures.value (omega arith) c.put_sizes.auto.room
    ∙ (λ i. splice c.args.sizes.now.items (c.first_touched-start.ensures i) (to i) (sizes i))

pub returns-clause-signs : goal.returns-clause-signs
returns-clause-signs c =
    room-filled c.args.signs.now.items c.make_room-2.new.list.items c.deref_mut-2.result.now c.put_signs.new.room c.first_touched-start.result
    (c.first_touched-start.result + c.open_sides-open.result) c.from-parted.result _ (omega arith)
    (omega (arith, c.first_touched-start.ensures, c.open_sides-open.ensures, c.requires.room.signs_within)) c.make_room-2.ensures.long
    c.make_room-2.ensures.front c.make_room-2.ensures.back c.deref_mut-2.ensures.value (omega arith) c.put_signs.auto.room
    ∙ (λ i. splice c.args.signs.now.items (c.first_touched-start.ensures i) (c.first_touched-start.ensures i + c.open_sides-open.ensures i)
    (c.put_signs.ensures i))

pub make_room-requires : goal.make_room-requires
make_room-requires c = (
  lit< tt,
  sizes_room _ _ _ _ _ _ _ c.first_touched-start.ensures c.open_sides-open.ensures c.from-parted.ensures
      c.requires.room.sizes_within c.requires.room.sizes_fit,
)

pub put_sizes-requires-clause-long : goal.put_sizes-requires-clause-long
put_sizes-requires-clause-long c = room-long _ _ _ _ _ c.deref_mut.ensures.value
    (sizes_end _ _ _ _ _ _ _ c.first_touched-start.ensures c.open_sides-open.ensures c.requires.room.sizes_within c.make_room.ensures.long)
    (one_more _ _ _ (c.from-parted.ensures ∙ c.requires.parted))

pub put_sizes-requires-clause-small : goal.put_sizes-requires-clause-small
put_sizes-requires-clause-small c = still_small _ _ _ _ _ c.max.ensures c.max-2.ensures c.requires.small

pub make_room-requires-2 : goal.make_room-requires-2
make_room-requires-2 c = (
  lit< tt,
  signs_room _ _ _ _ _ _ _ c.first_touched-start.ensures c.open_sides-open.ensures c.from-parted.ensures
      c.requires.room.signs_within c.requires.room.signs_fit,
)

pub put_signs-requires : goal.put_signs-requires
put_signs-requires c = room-long _ _ _ _ _ c.deref_mut-2.ensures.value
    (signs_end _ _ _ _ _ _ _ c.first_touched-start.ensures c.open_sides-open.ensures c.requires.room.signs_within c.make_room-2.ensures.long)
    (ap (λ n. c.first_touched-start.result + n) (c.from-parted.ensures ∙ c.requires.parted))

pub overflow_add-start : goal.overflow_add-start
overflow_add-start c = omega (
  arith,
  all_few _ _ _ _ _ _ _ _ c.first_touched-start.ensures c.open_sides-open.ensures c.from-parted.ensures
      c.requires.room.sizes_within c.requires.room.sizes_fit,
)

pub overflow_add-start-2 : goal.overflow_add-start-2
overflow_add-start-2 c = omega (
  arith,
  all_few _ _ _ _ _ _ _ _ c.first_touched-start.ensures c.open_sides-open.ensures c.from-parted.ensures
      c.requires.room.sizes_within c.requires.room.sizes_fit,
)

pub overflow_add-start-3 : goal.overflow_add-start-3
overflow_add-start-3 c = omega (
  arith,
  all_few _ _ _ _ _ _ _ _ c.first_touched-start.ensures c.open_sides-open.ensures c.from-parted.ensures
      c.requires.room.sizes_within c.requires.room.sizes_fit,
)

pub overflow_add-start-4 : goal.overflow_add-start-4
overflow_add-start-4 c = omega (
  arith,
  all_few _ _ _ _ _ _ _ _ c.first_touched-start.ensures c.open_sides-open.ensures c.from-parted.ensures
      c.requires.room.sizes_within c.requires.room.sizes_fit,
)

pub overflow_add-start-5 : goal.overflow_add-start-5
overflow_add-start-5 c = omega (
  arith,
  all_few _ _ _ _ _ _ _ _ c.first_touched-start.ensures c.open_sides-open.ensures c.from-parted.ensures
      c.requires.room.sizes_within c.requires.room.sizes_fit,
)

pub overflow_add-start-6 : goal.overflow_add-start-6
overflow_add-start-6 c = omega (
  arith,
  all_few _ _ _ _ _ _ _ _ c.first_touched-start.ensures c.open_sides-open.ensures c.from-parted.ensures
      c.requires.room.sizes_within c.requires.room.sizes_fit,
)

pub overflow_add-parted : goal.overflow_add-parted
overflow_add-parted c = omega (arith, c.from-parted.ensures, c.requires.room.sizes_fit)

pub deref_mut-requires : goal.deref_mut-requires
deref_mut-requires c = lit< tt

pub deref_mut-requires-2 : goal.deref_mut-requires-2
deref_mut-requires-2 c = lit< tt

pub slice_bounds-put_sizes-count : goal.slice_bounds-put_sizes-count
slice_bounds-put_sizes-count c = omega arith

pub slice_bounds-put_sizes-start : goal.slice_bounds-put_sizes-start
slice_bounds-put_sizes-start c = omega arith

pub slice_bounds-put_sizes-end : goal.slice_bounds-put_sizes-end
slice_bounds-put_sizes-end c = omega (
  arith,
  ap length c.deref_mut.ensures.value,
  c.make_room.ensures.long,
  c.first_touched-start.ensures,
  c.open_sides-open.ensures,
  c.requires.room.sizes_within,
)

pub slice_bounds-put_signs-count : goal.slice_bounds-put_signs-count
slice_bounds-put_signs-count c = omega arith

pub slice_bounds-put_signs-start : goal.slice_bounds-put_signs-start
slice_bounds-put_signs-start c = omega arith

pub slice_bounds-put_signs-end : goal.slice_bounds-put_signs-end
slice_bounds-put_signs-end c = omega (
  arith,
  ap length c.deref_mut-2.ensures.value,
  c.make_room-2.ensures.long,
  c.first_touched-start.ensures,
  c.open_sides-open.ensures,
  c.requires.room.signs_within,
)
