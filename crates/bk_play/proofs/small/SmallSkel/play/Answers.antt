use Rattle.std.proofs.Common.{[], ap, arith, count_by, length, lit<, refl, subst, sum, sym, ℕ, ◌+◌, ◌++◌, ◌∙◌, ◌∷◌, ◌≡◌, ◌≤◌}
use Rattle.bk_word.specs.Play.{parts}
use Rattle.bk_word.specs.declared.Sign.{Sign}
use Rattle.bk_play.proofs.Playing.{Playing, moves_shown, stored_played}
use Rattle.bk_play.proofs.SkelFacts.{skeleton_lists_after_a_move}
use Rattle.bk_play.proofs.SmallPlaying.{played_lists, small_played, small_playing}
use Rattle.bk_play.proofs.ValleyKept.{kept_looked}
use Rattle.bk_play.proofs.ValleyReads.{valley_sizes}
use Rattle.bk_play.specs.Skeleton.{GiveWay, first_touched, open_sides_of_record, with_parted}
use Rattle.bk_play.specs.StoredLists.{moves_in, small_lists_of}
use Rattle.bk_play.specs.declared.records.MoveRecord.{MoveRecord}
use Rattle.bk_play.proofs.small.SmallSkel.play.Goals as goal

pub len-requires : goal.len-requires
len-requires c = lit< tt

pub record_in-noted-requires-clause-many : goal.record_in-noted-requires-clause-many
record_in-noted-requires-clause-many c = (valley_sizes c.self.invariant.stored c.self.inside.open.sizes.items c.self.inside.open.signs.items refl refl).0

pub record_in-noted-requires-clause-stands : goal.record_in-noted-requires-clause-stands
record_in-noted-requires-clause-stands c = c.self.invariant.valley

pub record_in-noted-requires-clause-first : goal.record_in-noted-requires-clause-first
record_in-noted-requires-clause-first c = (kept_looked c.self.invariant c.self.inside.open.sizes.items c.self.inside.open.signs.items
    c.self.inside.open.place c.self.inside.open.first refl refl refl refl).few

pub record_in-noted-requires-clause-from : goal.record_in-noted-requires-clause-from
record_in-noted-requires-clause-from c = omega (arith, c.len.ensures.few)

-- what is known of the move once its record is made
at_hang : (c : goal.After-noted-1) → Playing 16 (moves_in (small_lists_of c.self.inside)) c.args.m.now (small_lists_of c.self.inside)
    (with_parted c.record_in-noted.result (count_by parts c.args.m.now.signs))
at_hang c = small_playing c.record_in-noted.result c.self.invariant c.self.view_is refl c.requires.legal c.requires.few
    c.record_in-noted.ensures c.len.ensures.value

pub close_and_hang-requires-clause-within : goal.close_and_hang-requires-clause-within
close_and_hang-requires-clause-within c = (at_hang c).first

pub close_and_hang-requires-clause-few : goal.close_and_hang-requires-clause-few
close_and_hang-requires-clause-few c = omega (arith, (at_hang c).numbers, ap (λ (t : MoveRecord). t.count) (at_hang c).record_is)

-- and once the move is read
at_join : (c : goal.After-as_slice) → Playing 16 (moves_in (small_lists_of c.self.inside))
    (record { count = c.m.inside.count; signs = c.m.inside.signs.items }) (small_lists_of c.self.inside)
    (with_parted c.record_in-noted.result (count_by parts c.m.inside.signs.items))
at_join c = small_playing c.record_in-noted.result c.self.invariant c.self.view_is c.m.view_is c.requires.legal c.requires.few
    c.record_in-noted.ensures c.len.ensures.value

pub part_and_join-requires-clause-room : goal.part_and_join-requires-clause-room
part_and_join-requires-clause-room c =
    subst (λ (n : ℕ). GiveWay 16 (record { start = first_touched c.record_in-noted.result; old = open_sides_of_record c.record_in-noted.result; new = n })
    c.self.inside.open.sizes.items c.self.inside.open.signs.items) (ap (count_by parts) (sym c.as_slice.ensures.items)) (at_join c).gives

pub part_and_join-requires-clause-sizes_few : goal.part_and_join-requires-clause-sizes_few
part_and_join-requires-clause-sizes_few c = (at_join c).sizes_few

pub part_and_join-requires-clause-signs_few : goal.part_and_join-requires-clause-signs_few
part_and_join-requires-clause-signs_few c = (at_join c).signs_few

pub part_and_join-requires-clause-small : goal.part_and_join-requires-clause-small
part_and_join-requires-clause-small c = omega (arith, (at_join c).small, ap (length {A = Sign}) c.as_slice.ensures.items)

pub append-requires : goal.append-requires
append-requires c =
    let p = small_playing c.record_in-noted.result c.self.invariant c.self.view_is c.m.view_is c.requires.legal c.requires.few
    c.record_in-noted.ensures c.len.ensures.value in
    let room : length c.self.inside.played.items + 17 ≤ 49 = omega (arith, p.played_fit) in
    (omega arith, (omega arith, room))

pub push-requires : goal.push-requires
push-requires c =
    let p = small_playing c.record_in-noted.result c.self.invariant c.self.view_is c.m.view_is c.requires.legal c.requires.few
    c.record_in-noted.ensures c.len.ensures.value in
    (omega arith, p.records_fit)

-- the lists are those with the move played
new_lists : (c : goal.After-find_valley-arg-1) → record {
  ends = c.close_and_hang.new.ends.items;
  sizes = c.part_and_join.new.sizes.items;
  signs = c.part_and_join.new.signs.items;
  closed = c.close_and_hang.new.closed.items;
  records = c.push.new.self.items;
  played = c.append.new.self.items;
} ≡ skeleton_lists_after_a_move (small_lists_of c.self.inside) (record { count = c.m.inside.count; signs = c.m.inside.signs.items })
    (with_parted c.record_in-noted.result (count_by parts c.m.inside.signs.items))
new_lists c =
    let p = small_playing c.record_in-noted.result c.self.invariant c.self.view_is c.m.view_is c.requires.legal c.requires.few
    c.record_in-noted.ensures c.len.ensures.value in
    let parted : c.part_and_join.result ≡ count_by parts c.m.inside.signs.items = c.part_and_join.ensures.parted
    ∙ ap (count_by parts) c.as_slice.ensures.items in
    played_lists p c.as_slice.ensures.items c.close_and_hang.ensures.ends c.part_and_join.ensures.sizes c.part_and_join.ensures.signs
    c.close_and_hang.ensures.closed
    (c.push.ensures ∙ ap (λ k. c.self.inside.records.items ++ with_parted c.record_in-noted.result k ∷ []) parted) c.append.ensures

-- so the sizes and signs are those of a skeleton
sizes_new : (c : goal.After-find_valley-arg-1) → (length c.part_and_join.new.sizes.items ≡ length c.part_and_join.new.signs.items + 1)
    × (sum c.part_and_join.new.sizes.items ≤ 200)
sizes_new c =
    let p = small_playing c.record_in-noted.result c.self.invariant c.self.view_is c.m.view_is c.requires.legal c.requires.few
    c.record_in-noted.ensures c.len.ensures.value in
    valley_sizes (stored_played c.self.invariant.stored p (new_lists c)) c.part_and_join.new.sizes.items c.part_and_join.new.signs.items refl refl

pub find_valley-place-requires-clause-many : goal.find_valley-place-requires-clause-many
find_valley-place-requires-clause-many c = (sizes_new c).0

pub find_valley-place-requires-clause-small : goal.find_valley-place-requires-clause-small
find_valley-place-requires-clause-small c = (sizes_new c).1

pub invariant_of-self : goal.invariant_of-self
invariant_of-self c =
    let p = small_playing c.record_in-noted.result c.self.invariant c.self.view_is c.m.view_is c.requires.legal c.requires.few
    c.record_in-noted.ensures c.len.ensures.value in
    small_played c.self.invariant p (new_lists c.before.before.before) c.find_valley-place.ensures

pub returns : goal.returns
returns c =
    let p = small_playing c.record_in-noted.result c.self.invariant c.self.view_is c.m.view_is c.requires.legal c.requires.few
    c.record_in-noted.ensures c.len.ensures.value in
    moves_shown (stored_played c.self.invariant.stored p (new_lists c.before.before.before)) ∙ (λ i. c.self.view_is i ++ c.m.view_is i ∷ [])
