use Rattle.std.proofs.Common.{Some, ap, arith, drop, inr, length, rules, slice_get, sym, take, ◌+◌, ◌-◌, ◌∙◌, ◌≡◌, ◌≤◌}
use Rattle.bk_word.proofs.PlayLists.{place_within}
use Rattle.bk_word.specs.declared.Sign.TheVariants.{Even}
use Rattle.bk_word.specs.Play.{outline_of}
use Rattle.bk_free_search.proofs.Boards.ValleyPlaces.{right_fits, right_low, right_read}
use Rattle.bk_free_search.proofs.joining.joined_right.Goals as goal

pub overflow_add-valley : goal.overflow_add-valley
overflow_add-valley c = omega (arith, c.requires.valley.stands.place_is, place_within (outline_of c.args.skel.now).signs, ap length c.signs.ensures)

pub bounds-sizes-valley : goal.bounds-sizes-valley
bounds-sizes-valley c = right_low c.requires.word c.signs.ensures c.sizes.ensures c.requires.valley c.if-valley-signs.false

fits : (c : goal.After-ends) → c.args.valley.now.end + c.from-many.result ≤ length c.ends.result.now
fits c = omega (
  arith,
  c.from-many.ensures,
  right_fits c.args.skel.now c.requires.word c.sizes.result.now c.ends.result.now c.sizes.ensures c.ends.ensures c.args.valley.now c.requires.valley
      (right_low c.requires.word c.signs.ensures c.sizes.ensures c.requires.valley c.if-valley-signs.false),
)

pub overflow_add-result : goal.overflow_add-result
overflow_add-result c = omega (arith, fits c)

pub slice_bounds-result-end-2 : goal.slice_bounds-result-end-2
slice_bounds-result-end-2 c = omega (arith, fits c)

pub returns : goal.returns
returns c =
    let even : slice_get c.args.m.now.signs (length c.args.m.now.signs - 1) ≡ Some Even = search rules in
    inr (
      right_read c.args.skel.now c.requires.word c.sizes.result.now c.ends.result.now c.sizes.ensures c.ends.ensures c.args.valley.now c.requires.valley
          (right_low c.requires.word c.signs.ensures c.sizes.ensures c.requires.valley c.if-valley-signs.false)
          ∙ ap (λ k. Some (take (c.args.valley.now.end + k - c.args.valley.now.end) (drop c.args.valley.now.end c.ends.result.now))) (sym c.from-many.ensures),
      even,
    )
