use Rattle.std.proofs.Common.{ap, arith, drop, false, length, nat_le, refl, slice_index_or, subst, true, ◌||◌, ◌+◌, ◌∙◌}
use Rattle.std.proofs.Common.{◌≡◌, ◌<◌, ◌-◌}
use Rattle.bk_word.specs.Outline.{sizes_of, valley_place}
use Rattle.bk_word.specs.Play.{IsLegal, outline_of}
use Rattle.bk_word.specs.Signs.{is_under}
use Rattle.bk_word.specs.Word.{Word, order_of}
use Rattle.bk_word.specs.declared.Sign.TheVariants.{Above}
use Rattle.bk_layout.specs.WordNumbers.{first_count}
use Rattle.bk_free_search.specs.Apart.{AreAsks, marks_of_word}
use Rattle.bk_free_search.proofs.Boards.ValleyPlaces.{place_few, valley_low}
use Rattle.bk_catalogue.proofs.HangingBounds.BoundsOfWords.{sizes_long}
use Rattle.bk_free_search.proofs.Asks.BehindLists.{asks_apart, asks_at_wall, asks_joined, marks_many, own_mark, told_last, told_more, wide_mark, wider_mark}
use Rattle.bk_free_search.proofs.NextWords.Cutting.{few_signs_open}
use Rattle.bk_free_search.proofs.Asks.AskedNext.{few_behind}
use Rattle.bk_free_search.specs.declared.counts.TheConstants.{FEW}
use Rattle.bk_free_search.proofs.behind.behind_valley.Goals as goal

pub returns-then-place-signs : goal.returns-then-place-signs
returns-then-place-signs c =
    let at : valley_place (outline_of c.args.board.now).signs ≡ length (outline_of c.args.board.now).signs = omega (
      arith,
      c.requires.place,
      c.if-place-signs.true,
      ap length c.signs-signs.ensures,
      ap (λ (w : Word). length (outline_of w).signs) c.skel.ensures.value,
    ) in record {
      above = (asks_at_wall false c.args.board.now c.at_end.result at
          (c.at_end.ensures.asks false 1 false refl (λ e. e))).0;
      even = (asks_at_wall false c.args.board.now c.at_end-then-place-signs.result at (c.at_end-then-place-signs.ensures.asks false 1 false refl (λ e. e))).1;
      under = (asks_at_wall true c.args.board.now c.at_end-then-place-signs-2.result at (c.at_end-then-place-signs-2.ensures.asks true 1 false refl
          (λ e. e))).0;
      few_above = few_behind c.at_end.result 1 (FEW + 1) (omega arith) c.at_end.ensures.few;
      few_even = few_behind c.at_end-then-place-signs.result 1 (FEW + 1) (omega arith) c.at_end-then-place-signs.ensures.few;
      few_under = few_behind c.at_end-then-place-signs-2.result 1 (FEW + 1) (omega arith) c.at_end-then-place-signs-2.ensures.few;
    }

pub overflow_add-first : goal.overflow_add-first
overflow_add-first c = omega (arith, place_few c.skel.ensures.legal c.skel.ensures.value c.signs-signs.ensures c.requires.few c.requires.place)

pub is_wide_then-wide-requires-clause-place : goal.is_wide_then-wide-requires-clause-place
is_wide_then-wide-requires-clause-place c = omega (
  arith,
  c.if-place-signs.false,
  valley_low c.skel.ensures.value c.signs-signs.ensures c.requires.place,
  ap length (c.signs-signs.ensures ∙ ap (λ (w : Word). (outline_of w).signs) c.skel.ensures.value),
)

pub bounds-sizes-first : goal.bounds-sizes-first
bounds-sizes-first c = omega (
  arith,
  c.if-place-signs.false,
  valley_low c.skel.ensures.value c.signs-signs.ensures c.requires.place,
  ap length (c.signs-signs.ensures ∙ ap (λ (w : Word). (outline_of w).signs) c.skel.ensures.value),
  ap (λ (w : Word). length (outline_of w).signs) c.skel-2.ensures.value,
  sizes_long c.skel-2.result.now c.skel-2.ensures.legal,
  ap length c.sizes-sizes.ensures,
)

pub returns-then-first-signs : goal.returns-then-first-signs
returns-then-first-signs c =
    let signs = (c.signs-signs.ensures ∙ ap (λ (v : Word). (outline_of v).signs) c.skel.ensures.value) in
    let sizes = (c.sizes-sizes.ensures ∙ ap (λ (v : Word). sizes_of (outline_of v)) c.skel-2.ensures.value) in
    let legal = (subst (λ (v : Word). IsLegal v) c.skel.ensures.value c.skel.ensures.legal) in
    let within : valley_place (outline_of c.args.board.now).signs < length (outline_of c.args.board.now).signs =
    omega (arith, c.if-first-signs.true, c.requires.place, ap length signs) in
    record {
      above = asks_apart false c.args.board.now c.at_end-then-first-signs.result within legal
          (told_last false c.args.board.now c.signs-signs.result.now c.sizes-sizes.result.now c.args.place c.at_end-then-first-signs.result
          signs sizes c.requires.place legal c.if-first-signs.true (own_mark c.args.board.now) (c.at_end-then-first-signs.ensures.asks false
          (slice_index_or c.sizes-sizes.result.now (c.args.place + 1) 0) (slice_index_or (marks_of_word c.args.board.now) (c.args.place + 1) false) refl
          (λ e. c.requires.marks (c.args.place + 1) (c.has_mark-mark.ensures e))));
      even = asks_joined false c.args.board.now c.at_end-then-first-signs-2.result within legal
          (told_last false c.args.board.now c.signs-signs.result.now c.sizes-sizes.result.now c.args.place c.at_end-then-first-signs-2.result
          signs sizes c.requires.place legal c.if-first-signs.true (wider_mark c.args.board.now) (c.at_end-then-first-signs-2.ensures.asks false
          (slice_index_or c.sizes-sizes.result.now (c.args.place + 1) 0) (slice_index_or (marks_of_word c.args.board.now)
          (c.args.place + 1) false || nat_le (first_count c.args.board.now) (slice_index_or (sizes_of (outline_of c.args.board.now))
          (c.args.place + 1) 0 + 1)) refl
          (λ e. wide_mark c.args.board.now (c.args.place + 1) (c.is_wide_then-wide.ensures e))));
      under = asks_apart true c.args.board.now c.at_end-then-first-signs-3.result within legal
          (told_last true c.args.board.now c.signs-signs.result.now c.sizes-sizes.result.now c.args.place c.at_end-then-first-signs-3.result
          signs sizes c.requires.place legal c.if-first-signs.true (own_mark c.args.board.now) (c.at_end-then-first-signs-3.ensures.asks true
          (slice_index_or c.sizes-sizes.result.now (c.args.place + 1) 0) (slice_index_or (marks_of_word c.args.board.now) (c.args.place + 1) false) refl
          (λ e. c.requires.marks (c.args.place + 1) (c.has_mark-mark.ensures e))));
      few_above = few_behind c.at_end-then-first-signs.result 1 (FEW + 1) (omega arith) c.at_end-then-first-signs.ensures.few;
      few_even = few_behind c.at_end-then-first-signs-2.result 1 (FEW + 1) (omega arith) c.at_end-then-first-signs-2.ensures.few;
      few_under = few_behind c.at_end-then-first-signs-3.result 1 (FEW + 1) (omega arith) c.at_end-then-first-signs-3.ensures.few;
    }

pub overflow_add-first-2 : goal.overflow_add-first-2
overflow_add-first-2 c = omega (arith, place_few c.skel.ensures.legal c.skel.ensures.value c.signs-signs.ensures c.requires.few c.requires.place)

pub asks_from-rest-requires-clause-long : goal.asks_from-rest-requires-clause-long
asks_from-rest-requires-clause-long c = omega (
  arith,
  ap length c.signs-signs.ensures,
  ap (λ (w : Word). length (outline_of w).signs) c.skel.ensures.value,
  ap (λ (w : Word). length (outline_of w).signs) c.skel-2.ensures.value,
  sizes_long c.skel-2.result.now c.skel-2.ensures.legal,
  ap length c.sizes-sizes.ensures,
)

pub asks_from-rest-requires-clause-within : goal.asks_from-rest-requires-clause-within
asks_from-rest-requires-clause-within c = omega (
  arith,
  c.if-place-signs.false,
  c.if-first-signs.false,
  valley_low c.skel.ensures.value c.signs-signs.ensures c.requires.place,
)

pub asks_from-rest-requires-clause-few : goal.asks_from-rest-requires-clause-few
asks_from-rest-requires-clause-few c = omega (
  arith,
  c.requires.few,
  few_signs_open c.skel.result.now c.skel.ensures.legal,
  ap order_of c.skel.ensures.value,
  ap length c.signs-signs.ensures,
)

pub bounds-signs-first : goal.bounds-signs-first
bounds-signs-first c = omega (
  arith,
  c.if-place-signs.false,
  c.if-first-signs.false,
  valley_low c.skel.ensures.value c.signs-signs.ensures c.requires.place,
)

pub returns : goal.returns
returns c =
    let signs = (c.signs-signs.ensures ∙ ap (λ (v : Word). (outline_of v).signs) c.skel.ensures.value) in
    let sizes = (c.sizes-sizes.ensures ∙ ap (λ (v : Word). sizes_of (outline_of v)) c.skel-2.ensures.value) in
    let legal = (subst (λ (v : Word). IsLegal v) c.skel.ensures.value c.skel.ensures.legal) in
    let less : c.args.place + 1 < length c.signs-signs.result.now = omega (
      arith,
      c.if-place-signs.false,
      c.if-first-signs.false,
      valley_low c.skel.ensures.value c.signs-signs.ensures c.requires.place,
    ) in
    let within : valley_place (outline_of c.args.board.now).signs < length (outline_of c.args.board.now).signs =
    omega (arith, less, c.requires.place, ap length signs) in
    let index : c.args.place + 1 + 1 - 1 ≡ c.args.place + 1 = omega arith in
    let rest = subst (λ k. AreAsks (is_under (slice_index_or c.signs-signs.result.now k Above)) (drop (c.args.place + 1 + 1) c.signs-signs.result.now)
    (drop (c.args.place + 1 + 1) c.sizes-sizes.result.now) (drop (c.args.place + 1 + 1)
    (marks_of_word c.args.board.now)) c.asks_from-rest.result) index (c.asks_from-rest.ensures.asks (marks_of_word c.args.board.now)
    (marks_many c.args.board.now c.sizes-sizes.result.now sizes) c.requires.marks) in record {
      above = asks_apart false c.args.board.now c.in_front.result within legal
          (told_more false c.args.board.now c.signs-signs.result.now c.sizes-sizes.result.now c.args.place c.in_front.result
          signs sizes c.requires.place legal less (own_mark c.args.board.now)
          (c.in_front.ensures.asks false (drop (c.args.place + 1 + 1) c.signs-signs.result.now)
          (slice_index_or c.sizes-sizes.result.now (c.args.place + 1) 0)
          (drop (c.args.place + 1 + 1) c.sizes-sizes.result.now) (slice_index_or (marks_of_word c.args.board.now) (c.args.place + 1) false) (drop
          (c.args.place + 1 + 1) (marks_of_word c.args.board.now)) rest refl
          (λ e. c.requires.marks (c.args.place + 1) (c.has_mark-mark.ensures e))));
      even = asks_joined false c.args.board.now c.in_front-2.result within legal
          (told_more false c.args.board.now c.signs-signs.result.now c.sizes-sizes.result.now c.args.place c.in_front-2.result
          signs sizes c.requires.place legal less (wider_mark c.args.board.now)
          (c.in_front-2.ensures.asks false (drop (c.args.place + 1 + 1) c.signs-signs.result.now)
          (slice_index_or c.sizes-sizes.result.now (c.args.place + 1) 0)
          (drop (c.args.place + 1 + 1) c.sizes-sizes.result.now) (slice_index_or (marks_of_word c.args.board.now) (c.args.place + 1) false || nat_le
          (first_count c.args.board.now) (slice_index_or (sizes_of (outline_of c.args.board.now)) (c.args.place + 1) 0 + 1)) (drop
          (c.args.place + 1 + 1) (marks_of_word c.args.board.now)) rest refl
          (λ e. wide_mark c.args.board.now (c.args.place + 1) (c.is_wide_then-wide.ensures e))));
      under = asks_apart true c.args.board.now c.in_front-3.result within legal
          (told_more true c.args.board.now c.signs-signs.result.now c.sizes-sizes.result.now c.args.place c.in_front-3.result
          signs sizes c.requires.place legal less (own_mark c.args.board.now)
          (c.in_front-3.ensures.asks true (drop (c.args.place + 1 + 1) c.signs-signs.result.now)
          (slice_index_or c.sizes-sizes.result.now (c.args.place + 1) 0)
          (drop (c.args.place + 1 + 1) c.sizes-sizes.result.now) (slice_index_or (marks_of_word c.args.board.now) (c.args.place + 1) false) (drop
          (c.args.place + 1 + 1) (marks_of_word c.args.board.now)) rest refl
          (λ e. c.requires.marks (c.args.place + 1) (c.has_mark-mark.ensures e))));
      few_above = c.in_front.ensures.few FEW c.asks_from-rest.ensures.few;
      few_even = c.in_front-2.ensures.few FEW c.asks_from-rest.ensures.few;
      few_under = c.in_front-3.ensures.few FEW c.asks_from-rest.ensures.few;
    }
