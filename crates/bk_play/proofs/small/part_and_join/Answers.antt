use Rattle.std.proofs.Common.{List, ap, arith, filter, length, lit<, max, slice_range, take, ℕ, ◌++◌, ◌+◌, ◌-◌, ◌<◌, ◌∙◌, ◌≡◌, ◌≤◌}
use Rattle.std.proofs.lemmas.List.Sums.{length-filter}
use Rattle.std.proofs.lemmas.List.{length-append, length-take-le}
use Rattle.bk_laws.proofs.ListParts.{splice-from_cut}
use Rattle.bk_word.specs.Play.{parts}
use Rattle.bk_word.specs.declared.Sign.{Sign}
use Rattle.bk_play.proofs.PlayedFlat.{sizes_after_many}
use Rattle.bk_play.specs.Skeleton.{first_touched, joined_sizes, open_sides_of_record, sizes_after}
use Rattle.bk_play.proofs.small.part_and_join.Goals as goal

-- where the touched segments end, there is room behind them
sizes_parted : (start sides p q len n : ℕ) → p ≡ start → q ≡ sides → len ≡ n → start + (sides + 1) ≤ n → n ≤ 16
    → (p + q + 1 ≤ len) × ((len ≤ n) × ((len - (p + q + 1) ≤ 16) × (p + q + 1 + 16 ≤ 32)))
sizes_parted start sides p q len n e f g within few = (omega arith, (omega arith, (omega arith, omega arith)))

-- where the touched segments end, there is room behind the signs between them
signs_parted : (start sides p q len n : ℕ) → p ≡ start → q ≡ sides → len ≡ n → start + sides ≤ n → n ≤ 16
    → (p + q ≤ len) × ((len ≤ n) × ((len - (p + q) ≤ 16) × (p + q + 16 ≤ 32)))
signs_parted start sides p q len n e f g within few = (omega arith, (omega arith, (omega arith, omega arith)))

-- what is left in front of a place has room for more
cut_fits : {X : Type 0} (old cut : List X) (start k m p : ℕ) → cut ≡ take p old → p ≡ start → start + k ≤ length old → length old - k + m ≤ 16
    → length cut + m ≤ 16
cut_fits old cut start k m p e f within fits = omega (arith, ap length e, length-take-le p old (omega arith))

-- and with that room for 16 more behind
still_room : {X : Type 0} (old cut all more : List X) (start k m p : ℕ) → cut ≡ take p old → p ≡ start → all ≡ cut ++ more → length more ≡ m
    → start + k ≤ length old → length old - k + m ≤ 16 → length all + 16 ≤ 32
still_room old cut all more start k m p e f g h within fits =
    omega (arith, ap length g, length-append cut more, h, cut_fits old cut start k m p e f within fits)

-- the two bounds of that
below_room : (n m : ℕ) → n + (m + 1) ≤ 16 → n + m < 32
below_room n m h = omega arith

in_room : (n m : ℕ) → n + m ≤ 16 → n + m ≤ 32
in_room n m h = omega arith

-- sides that are one at least are small
still_small : (left right a b n : ℕ) → a ≡ max left 1 → b ≡ max right 1 → left + n + right ≤ 253 → a + n + b < 256
still_small left right a b n e f h = omega arith

-- what was cut and lengthened is no shorter than where it was cut
no_shorter : {X : Type 0} (old cut all more : List X) (start sides p len : ℕ) → cut ≡ take p old → all ≡ cut ++ more → len ≡ length all → p ≡ start
    → start + sides ≤ length old → p ≤ len
no_shorter old cut all more start sides p len e f g h within =
    omega (arith, ap length e, ap length f, length-append cut more, length-take-le p old (omega arith))

pub append-requires : goal.append-requires
append-requires c = (
  omega arith,
  (
    omega arith,
    still_room _ _ _ _ _ _ _ _ c.truncate.ensures c.first_touched-start.ensures c.push_parted.ensures.sizes
        (sizes_after_many c.max.result c.max-2.result c.args.moved.now) c.requires.room.sizes_within c.requires.room.sizes_fit,
  ),
)

pub append-requires-2 : goal.append-requires-2
append-requires-2 c = (
  omega arith,
  (
    omega arith,
    still_room _ _ _ _ _ _ _ _ c.truncate-2.ensures c.first_touched-start.ensures c.push_parted.ensures.signs
        (length-filter parts c.args.moved.now) c.requires.room.signs_within c.requires.room.signs_fit,
  ),
)

pub returns-clause-sizes : goal.returns-clause-sizes
returns-clause-sizes c =
    splice-from_cut c.args.sizes.now.items c.truncate.new.self.items (sizes_after c.args.noted.now c.args.moved.now) c.push_parted.new.sizes.items
    c.part-sizes_behind.result.items c.append.new.self.items (first_touched c.args.noted.now)
    (first_touched c.args.noted.now + (open_sides_of_record c.args.noted.now + 1)) c.len.result c.len.ensures.value
    (c.part-sizes_behind.ensures ∙ ap (λ n. slice_range c.args.sizes.now.items n c.len.result)
    (omega (arith, c.first_touched-start.ensures, c.open_sides.ensures)))
    (c.truncate.ensures ∙ ap (λ n. take n c.args.sizes.now.items) c.first_touched-start.ensures)
    (c.push_parted.ensures.sizes
    ∙ (λ i. c.truncate.new.self.items ++ joined_sizes (c.max.ensures i) (c.max-2.ensures i) c.args.moved.now)) c.append.ensures

pub returns-clause-signs : goal.returns-clause-signs
returns-clause-signs c =
    splice-from_cut c.args.signs.now.items c.truncate-2.new.self.items (filter parts c.args.moved.now) c.push_parted.new.signs.items
    c.part-signs_behind.result.items c.append-2.new.self.items (first_touched c.args.noted.now)
    (first_touched c.args.noted.now + open_sides_of_record c.args.noted.now) c.len-2.result c.len-2.ensures.value
    (c.part-signs_behind.ensures ∙ ap (λ n. slice_range c.args.signs.now.items n c.len-2.result)
    (omega (arith, c.first_touched-start.ensures, c.open_sides.ensures)))
    (c.truncate-2.ensures ∙ ap (λ n. take n c.args.signs.now.items) c.first_touched-start.ensures)
    c.push_parted.ensures.signs c.append-2.ensures

pub returns-clause-parted : goal.returns-clause-parted
returns-clause-parted c = omega (
  arith,
  c.len-3.ensures.value,
  ap (length {A = Sign}) c.push_parted.ensures.signs,
  length-append c.truncate-2.new.self.items (filter parts c.args.moved.now),
  length-filter parts c.args.moved.now,
  ap (length {A = Sign}) c.truncate-2.ensures,
  c.first_touched-start.ensures,
  length-take-le c.first_touched-start.result c.args.signs.now.items (omega (arith, c.first_touched-start.ensures, c.requires.room.signs_within)),
)

pub part-sizes_behind-requires : goal.part-sizes_behind-requires
part-sizes_behind-requires c = (
  lit< tt,
  (
    lit< tt,
    sizes_parted _ _ _ _ _ _ c.first_touched-start.ensures c.open_sides.ensures c.len.ensures.value
        c.requires.room.sizes_within c.requires.sizes_few,
  ),
)

pub part-signs_behind-requires : goal.part-signs_behind-requires
part-signs_behind-requires c = (
  lit< tt,
  (
    lit< tt,
    signs_parted _ _ _ _ _ _ c.first_touched-start.ensures c.open_sides.ensures c.len-2.ensures.value
        c.requires.room.signs_within c.requires.signs_few,
  ),
)

pub push_parted-requires-clause-sizes_fit : goal.push_parted-requires-clause-sizes_fit
push_parted-requires-clause-sizes_fit c = below_room _ _ (cut_fits _ _ _ _ _ _ c.truncate.ensures c.first_touched-start.ensures
    c.requires.room.sizes_within c.requires.room.sizes_fit)

pub push_parted-requires-clause-signs_fit : goal.push_parted-requires-clause-signs_fit
push_parted-requires-clause-signs_fit c = in_room _ _ (cut_fits _ _ _ _ _ _ c.truncate-2.ensures c.first_touched-start.ensures
    c.requires.room.signs_within c.requires.room.signs_fit)

pub push_parted-requires-clause-small : goal.push_parted-requires-clause-small
push_parted-requires-clause-small c = still_small _ _ _ _ _ c.max.ensures c.max-2.ensures c.requires.small

pub overflow_sub-parted : goal.overflow_sub-parted
overflow_sub-parted c = no_shorter _ _ _ _ _ _ _ _ c.truncate-2.ensures c.push_parted.ensures.signs c.len-3.ensures.value
    c.first_touched-start.ensures c.requires.room.signs_within

pub overflow_cast-parted : goal.overflow_cast-parted
overflow_cast-parted c = omega (arith, c.len-3.ensures.few)
