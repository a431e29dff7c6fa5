use Rattle.std.proofs.Common.{ap, arith, length, slice_index_or, subst, sym, ◌+◌, ◌∙◌, ◌≡◌, ◌≤◌}
use Rattle.bk_word.proofs.PlayLists.{place_within}
use Rattle.bk_word.specs.Play.{outline_of}
use Rattle.bk_word.specs.Word.{Word, order_of}
use Rattle.bk_word.specs.declared.Sign.TheVariants.{Above}
use Rattle.bk_layout.specs.StrongPass.{pass}
use Rattle.bk_free_search.proofs.Asks.AskedBefore.{past_before}
use Rattle.bk_free_search.proofs.NextWords.Cutting.{few_signs_open}
use Rattle.bk_free_search.proofs.Asks.CountedSigns.{counted_none}
use Rattle.bk_free_search.specs.Apart.{IsCountedTo}
use Rattle.bk_free_search.specs.Strong.{seen_passed}
use Rattle.bk_free_search.specs.declared.counts.TheConstants.{FEW}
use Rattle.bk_free_search.proofs.asking.pass_before.Goals as goal

pub segments-init : goal.segments-init
segments-init c = record {
  counted = λ m legal. subst (IsCountedTo c.args.board.now m 0) (sym c.none_passed-passed.ensures.passed) (counted_none c.args.board.now m legal);
  few = c.none_passed-passed.ensures.few;
}

pub bounds-signs-i : goal.bounds-signs-i
bounds-signs-i c = omega (
  arith,
  c.segments-test.true,
  c.requires.many,
  place_within (outline_of c.args.board.now).signs,
  ap length c.signs-signs.ensures,
  ap (λ (w : Word). length (outline_of w).signs) c.skel.ensures.value,
)

pub past_one-passed-requires : goal.past_one-passed-requires
past_one-passed-requires c = let f = c.segments.invariant.few in let small = few_signs_open c.skel.result.now c.skel.ensures.legal in
    let many : c.segments.i ≤ FEW = omega (
      arith,
      c.segments-test.true,
      c.requires.many,
      c.requires.few,
      small,
      place_within (outline_of c.args.board.now).signs,
      ap (λ (w : Word). length (outline_of w).signs) c.skel.ensures.value,
      ap order_of c.skel.ensures.value,
    ) in record { most = omega (arith, f.most, many); aboves = omega (arith, f.aboves, many); more = omega (arith, f.more, many) }

pub segments-preserved : goal.segments-preserved
segments-preserved c = record {
  counted = λ m legal. subst (IsCountedTo c.args.board.now m (c.segments.i + 1)) (sym (c.past_one-passed.ensures.passed
      ∙ ap (λ s. pass (seen_passed c.segments.passed) s 1 c.has_mark.result) sign))
      (past_before c.args.board.now m legal c.segments.i (seen_passed c.segments.passed) c.has_mark.result (omega
      (arith, c.segments-test.true, c.requires.many)) (c.segments.invariant.counted m legal)
      (λ e. c.requires.marks c.segments.i (c.has_mark.ensures e)));
  few = c.past_one-passed.ensures.few c.segments.i c.segments.invariant.few;
}
  where
    sign : slice_index_or c.signs-signs.result.now c.segments.i Above ≡ slice_index_or (outline_of c.args.board.now).signs c.segments.i Above
    sign = ap (λ l. slice_index_or l c.segments.i Above) (c.signs-signs.ensures ∙ ap (λ (w : Word). (outline_of w).signs) c.skel.ensures.value)

pub returns-clause-small : goal.returns-clause-small
returns-clause-small c = omega (
  arith,
  c.requires.many,
  c.requires.few,
  few_signs_open c.skel.result.now c.skel.ensures.legal,
  place_within (outline_of c.args.board.now).signs,
  ap (λ (w : Word). length (outline_of w).signs) c.skel.ensures.value,
  ap order_of c.skel.ensures.value,
)
