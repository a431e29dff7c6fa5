use Rattle.std.specs.Prelude.{fold}
use Rattle.std.proofs.Common.{ap, arith, drop, slice_index, subst, suc, sym, ℕ, ◌+◌, ◌-◌, ◌∙◌, ◌≡◌}
use Rattle.std.proofs.lemmas.List.{get_or_default}
use Rattle.bk_laws.proofs.ListItems.{drop-cons_get_or}
use Rattle.bk_forms.specs.Form.{Form as SeenForm, with_column}
use Rattle.bk_walk_cuts.proofs.SmallForms.{small_with_side}
use Rattle.bk_walk_cuts.specs.Trace.{IsSmall}
use Rattle.bk_walk_cuts.proofs.levels.sum_of_sides.Goals as goal

pub loop-number-preserved : goal.loop-number-preserved
loop-number-preserved c =
    let x = slice_index c.args.numbers.now c.loop-number.number-index in
    let one : suc c.loop-number.number-index ≡ c.loop-number.number-index + 1 = omega arith in
    let is = c.plus_side-sum.ensures ∙ ap (with_column c.loop-number.sum) (c.saturating_sub.ensures ∙ ap (λ (n : ℕ). n - 1) c.from.ensures) in
    record {
      added = ap (λ (f : SeenForm). fold (λ form n. with_column form (n - 1)) f (drop (c.loop-number.number-index + 1) c.args.numbers.now)) is
          ∙ sym (ap (fold (λ form n. with_column form (n - 1)) c.loop-number.sum)
          (drop-cons_get_or c.args.numbers.now c.loop-number.number-index x c.loop-number-test.true
          (get_or_default c.args.numbers.now c.loop-number.number-index 0 x c.loop-number-test.true)))
          ∙ c.loop-number.invariant.added;
      small = subst (IsSmall (c.loop-number.number-index + 1)) (sym is)
          (subst (λ (k : ℕ). IsSmall k (with_column c.loop-number.sum (x - 1))) one
          (small_with_side c.loop-number.number-index c.loop-number.sum (x - 1) c.loop-number.invariant.small));
    }
