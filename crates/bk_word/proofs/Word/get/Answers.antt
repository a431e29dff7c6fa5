-- The move that is got is the one at its place, so it can stand.
use Rattle.std.proofs.Common.{List, ap, arith, get_or, length, lit<, refl, ℕ}
use Rattle.std.proofs.lemmas.Bool.{ltb-true}
use Rattle.bk_word.proofs.CountPlaces.{got_move, kept_at}
use Rattle.bk_word.specs.StoredWord.{word_in}
use Rattle.bk_word.specs.Word.{Word}
use Rattle.bk_word.proofs.Word.get.Goals as goal

pub returns-clause-value : goal.returns-clause-value
returns-clause-value c =
    got_move c.as_slice-bytes.result.now c.self.inside.bytes.items c.args.self.now c.args.i c.count_place-place.result c.signs_at.result.items
    c.as_slice-bytes.ensures c.self.invariant.stored c.self.view_is
    c.count_place-place.ensures.within c.count_place-place.ensures.count c.count_place-place.ensures.behind c.signs_at.ensures

pub count_place-place-requires : goal.count_place-place-requires
count_place-place-requires c =
    omega (arith, c.requires, ap (λ (l : List ℕ). length (word_in l)) c.as_slice-bytes.ensures, ap (λ (w : Word). length w) c.self.view_is)

pub as_slice-bytes-requires : goal.as_slice-bytes-requires
as_slice-bytes-requires c = lit< tt

pub bounds-bytes-place : goal.bounds-bytes-place
bounds-bytes-place c = c.count_place-place.ensures.within

pub overflow_add-place : goal.overflow_add-place
overflow_add-place c = omega (arith, c.count_place-place.ensures.within)

pub slice_bounds-signs_at-count : goal.slice_bounds-signs_at-count
slice_bounds-signs_at-count c = omega (arith, c.count_place-place.ensures.within)

pub slice_bounds-signs_at-start : goal.slice_bounds-signs_at-start
slice_bounds-signs_at-start c = omega (arith, c.count_place-place.ensures.within)

pub slice_bounds-signs_at-end : goal.slice_bounds-signs_at-end
slice_bounds-signs_at-end c = omega (arith, c.count_place-place.ensures.within)

pub signs_at-requires : goal.signs_at-requires
signs_at-requires c =
    let kept =
    kept_at c.self.inside.bytes.items c.args.self.now c.args.i _ c.self.invariant.stored c.self.view_is
    (got_move c.as_slice-bytes.result.now c.self.inside.bytes.items c.args.self.now c.args.i c.count_place-place.result _
    c.as_slice-bytes.ensures c.self.invariant.stored c.self.view_is
    c.count_place-place.ensures.within c.count_place-place.ensures.count c.count_place-place.ensures.behind refl) in
    omega (arith, kept.0.most, kept.1)

pub returns-clause-stands : goal.returns-clause-stands
returns-clause-stands c =
    (kept_at c.self.inside.bytes.items c.args.self.now c.args.i _ c.self.invariant.stored c.self.view_is
    (got_move c.as_slice-bytes.result.now c.self.inside.bytes.items c.args.self.now c.args.i c.count_place-place.result c.signs_at.result.items
    c.as_slice-bytes.ensures c.self.invariant.stored c.self.view_is
    c.count_place-place.ensures.within c.count_place-place.ensures.count c.count_place-place.ensures.behind c.signs_at.ensures)).0

pub returns-clause-few : goal.returns-clause-few
returns-clause-few c =
    omega (arith, ltb-true (get_or c.as_slice-bytes.result.now c.count_place-place.result 0) 201 c.count_place-place.ensures.count)
