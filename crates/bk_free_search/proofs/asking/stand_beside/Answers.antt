-- What stands beside the valley is what its parts answer of the board, at the place that the skeleton gives.
use Rattle.std.proofs.Common.{ap, arith, length, nat_eq, ◌∙◌}
use Rattle.bk_word.specs.Play.{outline_of}
use Rattle.bk_word.specs.Word.{Word}
use Rattle.bk_play.specs.SmallSkeleton.{IsValleyPlace}
use Rattle.bk_free_search.proofs.Boards.ValleyPlaces.{valley_of_equal}
use Rattle.bk_free_search.proofs.asking.stand_beside.Goals as goal

pub marks_of-marks-requires : goal.marks_of-marks-requires
marks_of-marks-requires c = record { few = c.requires.few }

pub before_valley-before-requires-clause-few : goal.before_valley-before-requires-clause-few
before_valley-before-requires-clause-few c = c.requires.few

pub before_valley-before-requires-clause-marks : goal.before_valley-before-requires-clause-marks
before_valley-before-requires-clause-marks c = c.marks_of-marks.ensures

pub before_valley-before-requires-clause-valley : goal.before_valley-before-requires-clause-valley
before_valley-before-requires-clause-valley c =
    valley_of_equal c.skel-2.result.now c.args.board.now c.valley_place-valley.result c.skel-2.ensures.value c.valley_place-valley.ensures

pub behind_valley-behind-requires-clause-few : goal.behind_valley-behind-requires-clause-few
behind_valley-behind-requires-clause-few c = c.requires.few

pub behind_valley-behind-requires-clause-marks : goal.behind_valley-behind-requires-clause-marks
behind_valley-behind-requires-clause-marks c = c.marks_of-marks.ensures

pub behind_valley-behind-requires-clause-place : goal.behind_valley-behind-requires-clause-place
behind_valley-behind-requires-clause-place c =
    (valley_of_equal c.skel-2.result.now c.args.board.now c.valley_place-valley.result c.skel-2.ensures.value c.valley_place-valley.ensures).stands.place_is

pub look_ahead-ahead-requires : goal.look_ahead-ahead-requires
look_ahead-ahead-requires c = record { few = omega (arith, c.requires.few) }

pub needs_of-needs-requires-clause-before : goal.needs_of-needs-requires-clause-before
needs_of-needs-requires-clause-before c = c.before_valley-before.ensures.few

pub needs_of-needs-requires-clause-behind : goal.needs_of-needs-requires-clause-behind
needs_of-needs-requires-clause-behind c = c.behind_valley-behind.ensures.few_even

pub returns : goal.returns
returns c = record {
  left_is = ap (λ p. nat_eq p 0) valley.stands.place_is;
  right_is = λ i. nat_eq (valley.stands.place_is i)
      (length ((c.signs-signs.ensures ∙ ap (λ (w : Word). (outline_of w).signs) c.skel.ensures.value) i));
  before_is = c.before_valley-before.ensures.asked;
  few_before = c.before_valley-before.ensures.few;
  behind_is = c.behind_valley-behind.ensures;
  moves_are = c.look_ahead-ahead.ensures.moves;
  evens_are = c.look_ahead-ahead.ensures.evens;
  needs_are = c.needs_of-needs.ensures;
  valley_is = valley;
}
  where
    valley : IsValleyPlace c.args.board.now c.valley_place-valley.result
    valley = valley_of_equal c.skel-2.result.now c.args.board.now c.valley_place-valley.result c.skel-2.ensures.value c.valley_place-valley.ensures
