use Rattle.std.proofs.Common.{ap, arith, ◌∙◌}
use Rattle.bk_word.specs.Outline.{valley_of}
use Rattle.bk_word.specs.Play.{new_squares, outline_of}
use Rattle.bk_word.specs.Word.{Move}
use Rattle.bk_walk_cuts.proofs.MoveAnswers.{AreAdded, are_added}
use Rattle.bk_walk_cuts.proofs.Segments.{numbers_are}
use Rattle.bk_walk_cuts.proofs.tracing.add_equations.Goals as goal

pub new_numbers-numbers-requires : goal.new_numbers-numbers-requires
new_numbers-numbers-requires c = omega (arith, c.order.ensures.value, ap (λ (m : Move). m.count) c.m.view_is, c.requires.few)

added : (c : goal.After-contradicts) → AreAdded c.args.ledger.now c.contradicts.new.ledger c.args.levels.now c.contradicts.result
    (valley_of (outline_of c.args.skel.now)) (new_squares (outline_of c.args.skel.now) c.args.m.now) c.args.m.now.signs
added c = are_added c.args.ledger.now c.contradicts.new.ledger c.args.levels.now c.contradicts.result
    c.valley_squares.result.now (valley_of (outline_of c.args.skel.now)) c.as_slice.result.now (new_squares (outline_of c.args.skel.now) c.args.m.now)
    c.as_slice-2.result.now c.args.m.now.signs c.valley_squares.ensures
    (numbers_are c.args.skel.now c.args.m.now c.as_slice.result.now c.order.result c.m.inside.count
    (c.as_slice.ensures.value ∙ c.new_numbers-numbers.ensures) c.order.ensures.value (ap (λ (m : Move). m.count) c.m.view_is))
    (c.as_slice-2.ensures.value ∙ ap (λ (m : Move). m.signs) c.m.view_is)
    (record {
      meets = c.contradicts.ensures.meets;
      all_kept = c.contradicts.ensures.kept;
      by_widths = c.contradicts.ensures.widths;
      by_levels = c.contradicts.ensures.levels;
    })

pub returns : goal.returns
returns c = record {
  meets = λ sides h. (added c).meets sides h.meets h.widths h.signs;
  first = c.contradicts.ensures.first;
  kept = (added c).all_kept;
  widths = (added c).by_widths;
  levels = (added c).by_levels;
}
