use Rattle.std.specs.Prelude.{take}
use Rattle.std.proofs.Common.{ap, arith, sym, ◌∙◌}
use Rattle.bk_word.specs.WordReading.{next_word_place}
use Rattle.bk_word.specs.Taken.{step}
use Rattle.bk_word.proofs.WordProgress.{at_most_600_bytes_for_200_squares, at_start, no_word_behind_stop, no_word_text_where_bytes_end_early, progress_whole}
use Rattle.bk_word.proofs.WordProgress.{text_kept}
use Rattle.bk_word.proofs.WordProgress.{word_progress_to_the_next_place}
use Rattle.bk_word.proofs.reading.take_text.Goals as goal

pub loop-at-init : goal.loop-at-init
loop-at-init c = at_start c.new-taken.result c.new-taken.ensures

pub returns-in_default-clause-err : goal.returns-in_default-clause-err
returns-in_default-clause-err c =
    no_word_behind_stop c.args.text.now c.loop-at.at c.loop-at.place c.loop-at.taken (omega arith) c.loop-at.invariant
    (ap (next_word_place c.loop-at.place) (sym c.kind_of-kind.ensures) ∙ sym c.next.ensures ∙ c.in_default.is)

pub take-requires : goal.take-requires
take-requires c = record {
  room = λ few. at_most_600_bytes_for_200_squares
      (take c.loop-at.at c.args.text.now) c.loop-at.place c.loop-at.taken c.loop-at.invariant few;
}

pub loop-at-preserved : goal.loop-at-preserved
loop-at-preserved c =
    word_progress_to_the_next_place c.args.text.now c.loop-at.at c.loop-at.place c.in-Some.next c.loop-at.taken c.take.new.self
    (omega arith) c.loop-at.invariant
    (ap (next_word_place c.loop-at.place) (sym c.kind_of-kind.ensures) ∙ sym c.next.ensures ∙ c.in-Some.is)
    (λ r to place e keeps. c.take.ensures r to place (ap (step r) c.kind_of-kind.ensures ∙ e) keeps)

pub returns-then-not-may_end-clause-err : goal.returns-then-not-may_end-clause-err
returns-then-not-may_end-clause-err c =
    no_word_text_where_bytes_end_early c.args.text.now c.loop-at.place c.loop-at.taken
    (progress_whole c.args.text.now c.loop-at.at c.loop-at.place c.loop-at.taken
    (omega arith) c.loop-at.invariant)
    (sym c.may_end.ensures ∙ c.if-not-may_end.true)

pub end_count-requires : goal.end_count-requires
end_count-requires c = record {
  room = λ few. at_most_600_bytes_for_200_squares
      (take c.loop-at.at c.args.text.now) c.loop-at.place c.loop-at.taken c.loop-at.invariant few;
}

pub returns-clause-ok : goal.returns-clause-ok
returns-clause-ok c =
    text_kept c.args.text.now c.loop-at.place c.loop-at.taken c.end_count.new.self (progress_whole c.args.text.now c.loop-at.at c.loop-at.place c.loop-at.taken
    (omega arith) c.loop-at.invariant)
    (sym c.may_end.ensures ∙ c.if-not-may_end.false) c.end_count.ensures.keeps
