use Rattle.std.proofs.Common.{ap, arith, count_by, length, subst, ◌∙◌}
use Rattle.bk_word.specs.Play.{IsLegal, outline_of}
use Rattle.bk_word.specs.Signs.{is_even}
use Rattle.bk_word.specs.Word.{Move, Word, order_of}
use Rattle.bk_free_search.proofs.NextWords.Cutting.{few_signs_open}
use Rattle.bk_layout.specs.Normal.{Counts}
use Rattle.bk_free_search.proofs.NextWords.UnderSigns.{left_then, right_then, signs_shown, top_then}
use Rattle.bk_free_search.proofs.all_under.look_after.Goals as goal

pub returns-clause-stands : goal.returns-clause-stands
returns-clause-stands c =
    let legal = subst IsLegal c.skel.ensures.value c.skel.ensures.legal in record {
      top_is = top_then c.args.board.now c.args.m.now legal c.requires.legal c.counts-counts.result.moves c.counts-counts.result.top c.top_after.result
          (ap (λ (k : Counts). k.moves) c.counts-counts.ensures) (ap (λ (k : Counts). k.top) c.counts-counts.ensures)
          (λ e. c.top_after.ensures.none e ∙ ap (λ (m : Move). m.count) c.m.view_is) c.top_after.ensures.some;
      left_is = c.at_walls_then-left.ensures.left ∙ left_then c.args.board.now c.args.m.now legal c.requires.legal;
      right_is = c.at_walls_then-left.ensures.right ∙ right_then c.args.board.now c.args.m.now legal c.requires.legal;
      signs_are = omega (
        arith,
        signs_shown c.args.board.now c.args.m.now (length c.signs.result.now) c.evens_in.result c.from.result
            (subst IsLegal c.skel.ensures.value c.skel.ensures.legal) c.requires.legal
            (ap length c.signs.ensures ∙ ap (λ (w : Word). length (outline_of w).signs) c.skel.ensures.value)
            (c.evens_in.ensures ∙ ap (count_by is_even) (c.as_slice.ensures.items ∙ ap (λ (m : Move). m.signs) c.m.view_is))
            (c.from.ensures ∙ ap (λ (m : Move). m.count) c.m.view_is),
      );
    }

pub overflow_sub-result-2 : goal.overflow_sub-result-2
overflow_sub-result-2 c = omega (
  arith,
  signs_shown c.args.board.now c.args.m.now (length c.signs.result.now) c.evens_in.result c.from.result
      (subst IsLegal c.skel.ensures.value c.skel.ensures.legal) c.requires.legal
      (ap length c.signs.ensures ∙ ap (λ (w : Word). length (outline_of w).signs) c.skel.ensures.value)
      (c.evens_in.ensures ∙ ap (count_by is_even) (c.as_slice.ensures.items ∙ ap (λ (m : Move). m.signs) c.m.view_is))
      (c.from.ensures ∙ ap (λ (m : Move). m.count) c.m.view_is),
)

pub returns-clause-few : goal.returns-clause-few
returns-clause-few c = (
  c.at_walls_then-left.ensures.few.0,
  c.at_walls_then-left.ensures.few.1,
  omega (
    arith,
    c.from.ensures,
    ap (λ (m : Move). m.count) c.m.view_is,
    ap length c.signs.ensures,
    few_signs_open c.skel.result.now c.skel.ensures.legal,
    ap order_of c.skel.ensures.value,
    c.requires.few,
  ),
)
