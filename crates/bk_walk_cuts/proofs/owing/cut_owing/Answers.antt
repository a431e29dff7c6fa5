-- The signs up to where they ask for too much are the first ones of moves that no member's word goes on by.
use Rattle.std.proofs.Common.{List, ap, arith, count_by, drop, length, refl, subst, sym, take, ◌++◌, ◌+◌, ◌-◌, ◌<◌, ◌∙◌, ◌≡◌, lit<}
use Rattle.std.proofs.lemmas.List.{length-take-le}
use Rattle.std.proofs.lemmas.Option.{IfSome_then}
use Rattle.bk_word.specs.Play.{outline_of}
use Rattle.bk_word.specs.Signs.{is_under}
use Rattle.bk_word.specs.Word.{Move, order_of}
use Rattle.bk_word.specs.declared.Sign.{Sign}
use Rattle.bk_catalogue.specs.ClosingBound.{closing_bound}
use Rattle.bk_walk_cuts.proofs.OwingLaws.{owing_cut}
use Rattle.bk_walk_cuts.proofs.owing.cut_owing.Goals as goal

pub returns : goal.returns
returns c = IfSome_then c.first_over.result c.first_over.ensures.over (λ kept over class. owing_cut c.args.order class c.args.skel.now c.args.m.now kept
    c.saturating_sub-room.result (c.args.order - order_of c.args.skel.now - c.args.m.now.count) c.unders_behind.result c.valley_place-place.result
    c.valley_place-place.ensures.value
    (c.unders_behind.ensures ∙ ap (λ l. count_by is_under (drop (c.valley_place-place.result + 1) l)) c.signs-signs.ensures)
    refl
    (let o = c.order.ensures.value in omega (arith, c.saturating_sub-room.ensures, c.from.ensures, c.from-2.ensures, ap (λ (m : Move). m.count) c.m.view_is))
    (let shown = c.as_slice.ensures.value ∙ ap (λ (m : Move). m.signs) c.m.view_is in
    let read : take c.saturating_sub.result c.signs-signs.result.now ++ take kept c.as_slice.result.now
    ≡ take (c.valley_place-place.result - 1) (outline_of c.args.skel.now).signs ++ take kept c.args.m.now.signs =
    (λ i. take (c.saturating_sub.ensures i) (c.signs-signs.ensures i) ++ take kept (shown i)) in
    subst (λ (l : List Sign). c.saturating_sub-room.result < closing_bound l) read over))

pub overflow_sub-left : goal.overflow_sub-left
overflow_sub-left c = omega (arith, c.order.ensures.value, c.from.ensures, c.requires)

pub overflow_sub-left-2 : goal.overflow_sub-left-2
overflow_sub-left-2 c =
    omega (arith, c.order.ensures.value, c.from.ensures, c.from-2.ensures, c.requires, ap (λ (m : Move). m.count) c.m.view_is)

pub unders_behind-requires : goal.unders_behind-requires
unders_behind-requires c = omega (arith, c.valley_place-place.ensures.within, ap length c.signs-signs.ensures)

pub slice_bounds-first_over-end : goal.slice_bounds-first_over-end
slice_bounds-first_over-end c = sym (length-take-le c.saturating_sub.result c.signs-signs.result.now
    (omega (arith, c.saturating_sub.ensures, c.valley_place-place.ensures.within, ap length c.signs-signs.ensures)))

pub as_slice-requires : goal.as_slice-requires
as_slice-requires c = lit< tt

pub first_over-requires : goal.first_over-requires
first_over-requires c = omega (arith, c.saturating_sub-room.ensures, c.from.ensures, c.ranges.order)
