use Rattle.std.proofs.Common.{ap, arith, count_by, length, lit<, subst, sum, sym, take, ◌∙◌, ◌≡◌}
use Rattle.bk_word.proofs.PlayLists.{place_within}
use Rattle.bk_word.specs.Outline.{valley_place}
use Rattle.bk_word.specs.Play.{parts}
use Rattle.bk_word.specs.Word.{Move}
use Rattle.bk_play.specs.Skeleton.{record_of, with_parted}
use Rattle.bk_play.proofs.small.record_in.Goals as goal

pub as_slice-requires : goal.as_slice-requires
as_slice-requires c = lit< tt

pub as_slice-requires-2 : goal.as_slice-requires-2
as_slice-requires-2 c = lit< tt

pub len-requires : goal.len-requires
len-requires c = lit< tt

pub record_at_valley-requires-clause-many : goal.record_at_valley-requires-clause-many
record_at_valley-requires-clause-many c = omega (arith, c.requires.many, ap length c.as_slice.ensures.items, ap length c.as_slice-2.ensures.items)

pub record_at_valley-requires-clause-place : goal.record_at_valley-requires-clause-place
record_at_valley-requires-clause-place c = c.from.ensures ∙ c.requires.stands.place_is ∙ ap valley_place (sym c.as_slice-2.ensures.items)

pub record_at_valley-requires-clause-within : goal.record_at_valley-requires-clause-within
record_at_valley-requires-clause-within c =
    omega (arith, c.from.ensures, c.requires.stands.place_is, place_within c.args.segments.now.signs.items, ap length c.as_slice-2.ensures.items)

pub record_at_valley-requires-clause-first : goal.record_at_valley-requires-clause-first
record_at_valley-requires-clause-first c = c.from-2.ensures ∙ c.requires.stands.first_is
    ∙ (λ i. sum (take (valley_place (sym c.as_slice-2.ensures.items i)) (sym c.as_slice.ensures.items i)))

pub record_at_valley-requires-clause-first_few : goal.record_at_valley-requires-clause-first_few
record_at_valley-requires-clause-first_few c = omega (arith, c.from-2.ensures, c.requires.first)

pub record_at_valley-requires-clause-few : goal.record_at_valley-requires-clause-few
record_at_valley-requires-clause-few c = omega (arith, c.as_slice.ensures.few, ap length c.as_slice.ensures.items)

pub record_at_valley-requires-clause-moved : goal.record_at_valley-requires-clause-moved
record_at_valley-requires-clause-moved c = omega (arith, c.len.ensures.few)

pub record_at_valley-requires-clause-from : goal.record_at_valley-requires-clause-from
record_at_valley-requires-clause-from c = c.requires.from

pub returns : goal.returns
returns c =
    subst (λ (m : Move). with_parted c.record_at_valley.result (count_by parts m.signs) ≡ record_of c.args.segments.now.sizes.items
    c.args.segments.now.signs.items m c.args.from) c.m.view_is (c.record_at_valley.ensures c.m.inside.signs.items (sym c.len.ensures.value)
    ∙ (λ i. record_of (c.as_slice.ensures.items i) (c.as_slice-2.ensures.items i)
    (record { count = c.m.inside.count; signs = c.m.inside.signs.items }) c.args.from))
