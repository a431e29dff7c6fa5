-- The sign that is found is even, and between two of the own squares.
use Rattle.std.proofs.Common.{arith, ap, lit<, Some, slice_get, slice_index_or, sym, ◌∙◌, ◌≡◌}
use denote.Enum.Bare.{same_true}
use Rattle.std.proofs.lemmas.Option.{slice_get-get_or}
use Rattle.bk_word.specs.Word.{Move}
use Rattle.bk_word.specs.contracts.Sign.{the_type}
use Rattle.bk_word.specs.declared.Sign.TheVariants.{Above, Even}
use Rattle.bk_walk_cuts.proofs.barren.first_even.Goals as goal

pub overflow_add-end : goal.overflow_add-end
overflow_add-end c = omega (arith, c.from.ensures, c.requires, c.from.type_inv)

pub as_slice-sign-items-requires : goal.as_slice-sign-items-requires
as_slice-sign-items-requires c = lit< tt

pub bounds-sign-items-i : goal.bounds-sign-items-i
bounds-sign-items-i c = omega arith

pub overflow_add-i : goal.overflow_add-i
overflow_add-i c = omega arith

pub overflow_add-result : goal.overflow_add-result
overflow_add-result c = omega arith

pub returns-then-eq : goal.returns-then-eq
returns-then-eq c =
    let shown = c.as_slice-sign-items.ensures.value ∙ ap (λ (m : Move). m.signs) c.m.view_is in
    let here : slice_index_or c.as_slice-sign-items.result.now c.loop-i.i Above ≡ Even = same_true the_type tt _ _ (sym c.eq.ensures ∙ c.if-eq.true) in
    record {
      low = omega (arith, c.if-i-from.true);
      high = omega (arith, c.if-i-end.true, c.from.ensures, ap (λ (m : Move). m.count) c.m.view_is);
      even = ap (slice_get c.args.m.now.signs) (omega arith) ∙ ap (λ l. slice_get l c.loop-i.i) (sym shown)
          ∙ slice_get-get_or c.as_slice-sign-items.result.now c.loop-i.i Above c.loop-i-test.true ∙ ap (λ s. Some s) here;
    }
