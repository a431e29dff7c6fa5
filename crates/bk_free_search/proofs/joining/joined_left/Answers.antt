use Rattle.std.proofs.Common.{Some, ap, arith, drop, inr, length, rules, slice_get, take, sym, ◌-◌, ◌∙◌, ◌≡◌}
use Rattle.bk_word.proofs.PlayLists.{place_within}
use Rattle.bk_word.specs.declared.Sign.TheVariants.{Even}
use Rattle.bk_word.specs.Play.{outline_of}
use Rattle.bk_catalogue.proofs.HangingBounds.BoundsOfWords.{sizes_long}
use Rattle.bk_free_search.proofs.Boards.ValleyPlaces.{ends_within, left_read}
use Rattle.bk_free_search.proofs.joining.joined_left.Goals as goal

pub bounds-sizes-valley : goal.bounds-sizes-valley
bounds-sizes-valley c = omega (
  arith,
  c.requires.valley.stands.place_is,
  place_within (outline_of c.args.skel.now).signs,
  sizes_long c.args.skel.now c.requires.word,
  ap length c.sizes.ensures,
)

pub slice_bounds-result-end-2 : goal.slice_bounds-result-end-2
slice_bounds-result-end-2 c = omega (
  arith,
  ends_within c.args.skel.now c.requires.word c.sizes.result.now c.ends.result.now c.sizes.ensures c.ends.ensures
      c.args.valley.now c.requires.valley,
)

pub returns : goal.returns
returns c =
    let even : slice_get c.args.m.now.signs 0 ≡ Some Even = search rules in
    inr (
      omega (arith, c.if-valley-eq0.false, c.requires.valley.stands.place_is),
      left_read c.args.skel.now c.requires.word c.sizes.result.now c.ends.result.now c.sizes.ensures c.ends.ensures c.args.valley.now c.requires.valley
          (omega (arith, c.if-valley-eq0.false))
          ∙ ap (λ k. Some (take (c.args.valley.now.start - (c.args.valley.now.start - k)) (drop (c.args.valley.now.start - k) c.ends.result.now)))
          (sym c.from-many.ensures),
      even,
    )
