use Rattle.std.specs.Prelude.{drop, ◌-◌, ℕ}
use Rattle.std.proofs.Common.{ap, arith, sym, ◌∙◌}
use Rattle.bk_word.specs.StoredWord.{word_in}
use Rattle.bk_word.proofs.CountPlaces.{count_passed, no_count_where_all_bytes_were_passed, sign_here}
use Rattle.bk_word.proofs.storage.count_place.Goals as goal
use Rattle.bk_word.proofs.storage.count_place.Goals.{else-is_count, then-is_count+else-left-eq0}

pub loop-place-preserved : goal.loop-place-preserved
loop-place-preserved c = elim c.if-is_count.branch [
  | then-is_count+else-left-eq0 w ↦ record {
    few = omega arith;
    behind =
        count_passed c.args.bytes.now c.loop-place.place c.args.i c.loop-place.left c.loop-place-test.true c.loop-place.invariant.few (omega arith)
        (sym c.is_count.ensures ∙ w.if-is_count.true)
        c.loop-place.invariant.behind
        ∙ ap (λ (n : ℕ). drop (c.args.i - n) (word_in c.args.bytes.now)) (sym w.left-is);
  }
  | else-is_count w ↦ record {
    few = omega arith;
    behind =
        sym (sign_here c.args.bytes.now c.loop-place.place c.loop-place-test.true (sym c.is_count.ensures ∙ w.if-is_count.false))
        ∙ c.loop-place.invariant.behind
        ∙ ap (λ (n : ℕ). drop (c.args.i - n) (word_in c.args.bytes.now)) (sym w.left-is);
  }
]

pub unreachable-requires : goal.unreachable-requires
unreachable-requires c =
    no_count_where_all_bytes_were_passed c.args.bytes.now c.loop-place.place c.args.i c.loop-place.left c.loop-place-test.false c.requires
    c.loop-place.invariant.behind
