use Rattle.std.proofs.Common.{ap, arith, length, sym, ◌∙◌}
use Rattle.std.specs.List.{list_any}
use Rattle.std.proofs.lemmas.Bool.{not-true}
use Rattle.bk_word.proofs.PlayLists.{place_within}
use Rattle.bk_word.specs.Play.{outline_of}
use Rattle.bk_word.specs.Signs.{is_above}
use Rattle.bk_word.specs.Word.{Move}
use Rattle.bk_free_search.proofs.NextWords.UnderSigns.{behind_are, under_then}
use Rattle.bk_free_search.proofs.all_under.are_under_then.Goals as goal

pub behind-requires : goal.behind-requires
behind-requires c = omega (
  arith,
  c.valley_place.ensures.stands.place_is,
  place_within (outline_of c.skel-skel.result.now).signs,
  ap length c.signs.ensures,
)

pub returns : goal.returns
returns c told = under_then c.args.board.now c.args.m.now
    (ap (list_any is_above) (sym (c.as_slice.ensures.items ∙ ap (λ (m : Move). m.signs) c.m.view_is)) ∙ sym c.is_any_above.ensures ∙ c.if-is_any_above.false)
    (ap (list_any is_above) (sym (c.behind.ensures ∙ behind_are c.args.board.now c.skel-skel.result.now c.signs.result.now c.valley_place.result.place
    c.skel-skel.ensures.value c.signs.ensures c.valley_place.ensures.stands.place_is))
    ∙ sym c.is_any_above-2.ensures ∙ not-true c.is_any_above-2.result told)
