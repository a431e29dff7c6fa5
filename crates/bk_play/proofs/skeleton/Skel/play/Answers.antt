use Rattle.std.proofs.Common.{List, [], ap, arith, count_by, length, lit<, sum, sym, ◌+◌, ◌++◌, ◌∙◌, ◌∷◌, ◌≤◌}
use Rattle.bk_word.specs.Play.{parts}
use Rattle.bk_word.specs.declared.Sign.{Sign}
use Rattle.bk_play.proofs.Playing.{Playing, moves_shown, playing, stored_played, stored_shown}
use Rattle.bk_play.proofs.SmallPlaying.{played_lists}
use Rattle.bk_play.proofs.SkelReads.{counted_in}
use Rattle.bk_play.specs.StoredLists.{lists_of, moves_in}
use Rattle.bk_play.specs.declared.records.MoveRecord.{MoveRecord}
use Rattle.bk_play.proofs.skeleton.Skel.play.Goals as goal

pub record_for-noted-requires-clause-many : goal.record_for-noted-requires-clause-many
record_for-noted-requires-clause-many c = omega (arith, ap length c.deref.ensures.0, ap length c.deref-2.ensures.0, (counted_in c.self.invariant).many)

pub record_for-noted-requires-clause-small : goal.record_for-noted-requires-clause-small
record_for-noted-requires-clause-small c =
    let kept = c.self.invariant.kept in let k = counted_in c.self.invariant in omega (arith, ap sum c.deref.ensures.0, k.total, k.all, kept.few)

pub close_and_hang-requires-clause-within : goal.close_and_hang-requires-clause-within
close_and_hang-requires-clause-within c =
    let p = playing c.self.invariant c.self.view_is c.m.view_is c.requires.legal c.requires.few c.record_for-noted.ensures
    c.deref.ensures.0 c.deref-2.ensures.0 c.deref-3.ensures.0 c.len.ensures.value in
    p.first

pub close_and_hang-requires-clause-few : goal.close_and_hang-requires-clause-few
close_and_hang-requires-clause-few c =
    let p = playing c.self.invariant c.self.view_is c.m.view_is c.requires.legal c.requires.few c.record_for-noted.ensures
    c.deref.ensures.0 c.deref-2.ensures.0 c.deref-3.ensures.0 c.len.ensures.value in
    omega (arith, p.numbers, ap (λ (t : MoveRecord). t.count) p.record_is)

known : (c : goal.After-deref-4) → Playing 200 (moves_in (lists_of c.self.inside))
    (record { count = c.m.inside.count; signs = c.m.inside.signs.items }) (lists_of c.self.inside) c.record_for-noted.result
known c = playing c.self.invariant c.self.view_is c.m.view_is c.requires.legal c.requires.few c.record_for-noted.ensures
    c.deref.ensures.0 c.deref-2.ensures.0 c.deref-3.ensures.0 c.len.ensures.value

pub apply_signs-requires-clause-room : goal.apply_signs-requires-clause-room
apply_signs-requires-clause-room c = (known c).gives

pub apply_signs-requires-clause-small : goal.apply_signs-requires-clause-small
apply_signs-requires-clause-small c = omega (arith, (known c).small, ap (length {A = Sign}) c.deref-4.ensures.0)

pub append-requires : goal.append-requires
append-requires c =
    let p = playing c.self.invariant c.self.view_is c.m.view_is c.requires.legal c.requires.few c.record_for-noted.ensures
    c.deref.ensures.0 c.deref-2.ensures.0 c.deref-3.ensures.0 c.len.ensures.value in
    let h : length c.self.inside.played.items + length c.deref-5.result.now ≤ 400 =
    omega (arith, p.played_fit, ap (length {A = Sign}) c.deref-5.ensures.0) in (omega arith, h)

pub push-requires : goal.push-requires
push-requires c =
    let p = playing c.self.invariant c.self.view_is c.m.view_is c.requires.legal c.requires.few c.record_for-noted.ensures
    c.deref.ensures.0 c.deref-2.ensures.0 c.deref-3.ensures.0 c.len.ensures.value in
    (omega arith, p.records_fit)

pub invariant_of-self : goal.invariant_of-self
invariant_of-self c =
    let p = playing c.self.invariant c.self.view_is c.m.view_is c.requires.legal c.requires.few c.record_for-noted.ensures
    c.deref.ensures.0 c.deref-2.ensures.0 c.deref-3.ensures.0 c.len.ensures.value in
    let n = played_lists p c.deref-4.ensures.0 c.close_and_hang.ensures.ends c.apply_signs.ensures.sizes c.apply_signs.ensures.signs
    c.close_and_hang.ensures.closed c.push.ensures.items (c.append.ensures
    ∙ ap (λ (l : List Sign). c.self.inside.played.items ++ l) c.deref-5.ensures.0) in
    stored_shown (stored_played c.self.invariant p n)

pub returns : goal.returns
returns c =
    let p = playing c.self.invariant c.self.view_is c.m.view_is c.requires.legal c.requires.few c.record_for-noted.ensures
    c.deref.ensures.0 c.deref-2.ensures.0 c.deref-3.ensures.0 c.len.ensures.value in
    let n = played_lists p c.deref-4.ensures.0 c.close_and_hang.ensures.ends c.apply_signs.ensures.sizes c.apply_signs.ensures.signs
    c.close_and_hang.ensures.closed c.push.ensures.items (c.append.ensures
    ∙ ap (λ (l : List Sign). c.self.inside.played.items ++ l) c.deref-5.ensures.0) in
    moves_shown (stored_played c.self.invariant p n) ∙ (λ i. c.self.view_is i ++ c.m.view_is i ∷ [])

pub deref-requires : goal.deref-requires
deref-requires c = lit< tt

pub deref-requires-2 : goal.deref-requires-2
deref-requires-2 c = lit< tt

pub deref-requires-3 : goal.deref-requires-3
deref-requires-3 c = lit< tt

pub deref-requires-4 : goal.deref-requires-4
deref-requires-4 c = lit< tt

pub len-requires : goal.len-requires
len-requires c = lit< tt

pub record_for-noted-requires-clause-few : goal.record_for-noted-requires-clause-few
record_for-noted-requires-clause-few c = omega (arith, c.deref.ensures.1, ap length c.deref.ensures.0)

pub record_for-noted-requires-clause-moved : goal.record_for-noted-requires-clause-moved
record_for-noted-requires-clause-moved c = c.deref-3.ensures.1

pub record_for-noted-requires-clause-from : goal.record_for-noted-requires-clause-from
record_for-noted-requires-clause-from c = c.len.ensures.fits

pub apply_signs-requires-clause-parted : goal.apply_signs-requires-clause-parted
apply_signs-requires-clause-parted c =
    ap (λ (t : MoveRecord). t.parted) c.record_for-noted.ensures ∙ ap (count_by parts) (c.deref-3.ensures.0 ∙ sym c.deref-4.ensures.0)
