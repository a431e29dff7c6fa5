use Rattle.std.specs.List.{splice}
use Rattle.std.proofs.Common.{ap, arith, drop, length, lit<, take, ◌+◌, ◌-◌, ◌∙◌, ◌≡◌, ◌≤◌}
use Rattle.std.proofs.lemmas.List.{length-drop, length-map}
use Rattle.bk_laws.proofs.ListParts.{drop-as_read}
use Rattle.bk_play.proofs.Playing.{moves_shown, stored_shown}
use Rattle.bk_play.proofs.TakenBack.{front_left, lists_before, stored_back, taken_back}
use Rattle.bk_play.proofs.SkelReads.{counted_in}
use Rattle.bk_play.specs.Skeleton.{move_of}
use Rattle.bk_play.specs.StoredLists.{lists_of}
use Rattle.bk_play.proofs.skeleton.Skel.pop.Goals as goal

pub overflow_sub-kept : goal.overflow_sub-kept
overflow_sub-kept c =
    let b = taken_back c.self.invariant c.take_last-noted.ensures c.requires c.self.view_is in
    omega (arith, b.closed_within, c.len.ensures.value, c.from.ensures)

pub undo_signs-requires : goal.undo_signs-requires
undo_signs-requires c =
    let b = taken_back c.self.invariant c.take_last-noted.ensures c.requires c.self.view_is in b.gives

pub splice-requires : goal.splice-requires
splice-requires c =
    let b = taken_back c.self.invariant c.take_last-noted.ensures c.requires c.self.view_is in
    let kept : c.len.result - c.from.result ≡ length c.self.inside.closed.items - c.take_last-noted.result.closed =
    (λ i. c.len.ensures.value i - c.from.ensures i) in
    let within : c.from-first.result + c.from-2.result ≤ length c.self.inside.ends.items =
    omega (arith, b.ends_within, c.from-first.ensures, c.from-2.ensures) in
    let few : length (take (length c.deref.result.now - (c.len.result - c.from.result))
    (drop (c.len.result - c.from.result) c.deref.result.now)) ≡ c.take_last-noted.result.closed =
    ap length (drop-as_read c.self.inside.closed.items c.deref.result.now (c.len.result - c.from.result)
    (length c.self.inside.closed.items - c.take_last-noted.result.closed) c.deref.ensures.0 kept)
    ∙ length-drop (length c.self.inside.closed.items - c.take_last-noted.result.closed) c.self.inside.closed.items ∙ omega (arith, b.closed_within) in
    let fits : length c.self.inside.ends.items - (c.from-first.result + c.from-2.result - c.from-first.result)
    + length (take (length c.deref.result.now - (c.len.result - c.from.result))
    (drop (c.len.result - c.from.result) c.deref.result.now)) ≤ 200 = omega (arith, few, b.ends_fit, c.from-2.ensures) in
    (omega arith, (omega arith, (within, fits)))

-- the lists are those with the move taken back
left : (c : goal.After-truncate-2) → record {
  ends = c.splice.new.list.items;
  sizes = c.undo_signs.new.sizes.items;
  signs = c.undo_signs.new.signs.items;
  closed = c.truncate.new.self.items;
  records = c.take_last-noted.new.records.items;
  played = c.truncate-2.new.self.items;
} ≡ lists_before (lists_of c.self.inside) c.take_last-noted.new.records.items c.take_last-noted.result
left c =
    let kept : c.len.result - c.from.result ≡ length c.self.inside.closed.items - c.take_last-noted.result.closed =
    (λ i. c.len.ensures.value i - c.from.ensures i) in λ i. record {
      ends = (c.splice.ensures ∙ (λ i. splice c.self.inside.ends.items (c.from-first.ensures i) (c.from-first.ensures i + c.from-2.ensures i)
          (drop-as_read c.self.inside.closed.items c.deref.result.now (c.len.result - c.from.result)
          (length c.self.inside.closed.items - c.take_last-noted.result.closed) c.deref.ensures.0 kept i))) i;
      sizes = c.undo_signs.ensures.sizes i;
      signs = c.undo_signs.ensures.signs i;
      closed = (c.truncate.ensures.items ∙ ap (λ n. take n c.self.inside.closed.items) kept) i;
      records = c.take_last-noted.new.records.items;
      played = (c.truncate-2.ensures.items ∙ ap (λ n. take n c.self.inside.played.items) c.from-3.ensures) i;
    }

pub invariant_of-self : goal.invariant_of-self
invariant_of-self c = stored_shown (stored_back (taken_back c.self.invariant c.take_last-noted.ensures c.requires c.self.view_is) (left c))

pub returns : goal.returns
returns c =
    let b = taken_back c.self.invariant c.take_last-noted.ensures c.requires c.self.view_is in
    moves_shown (stored_back b (left c)) ∙ front_left b c.args.self.now c.self.view_is

pub take_last-noted-requires : goal.take_last-noted-requires
take_last-noted-requires c = omega (arith, c.requires, ap length c.self.view_is, length-map c.self.inside.records.items (move_of c.self.inside.played.items))

pub len-requires : goal.len-requires
len-requires c = lit< tt

pub overflow_add-first : goal.overflow_add-first
overflow_add-first c =
    let b = taken_back c.self.invariant c.take_last-noted.ensures c.requires c.self.view_is in
    let kept = c.self.invariant.kept in
    omega (arith, b.ends_within, c.from-first.ensures, c.from-2.ensures, (counted_in c.self.invariant).all, kept.few)

pub deref-requires : goal.deref-requires
deref-requires c = lit< tt

pub slice_bounds-splice-count : goal.slice_bounds-splice-count
slice_bounds-splice-count c = omega (arith, ap length c.deref.ensures.0, c.len.ensures.value)

pub slice_bounds-splice-start : goal.slice_bounds-splice-start
slice_bounds-splice-start c = omega (arith, ap length c.deref.ensures.0, c.len.ensures.value)

pub slice_bounds-splice-end : goal.slice_bounds-splice-end
slice_bounds-splice-end c = omega arith

pub truncate-requires : goal.truncate-requires
truncate-requires c = lit< tt

pub truncate-requires-2 : goal.truncate-requires-2
truncate-requires-2 c = lit< tt
