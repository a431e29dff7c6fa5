use Rattle.std.proofs.Common.{arith, below_more, refl, sym, true≢false, ◌∙◌}
use Rattle.std.proofs.lemmas.List.{get_or-map, length-map}
use Rattle.bk_word.specs.Word.{sign_place}
use Rattle.bk_word.specs.declared.Sign.TheVariants.{Above}
use Rattle.bk_packed.proofs.reading.has_signs.Goals as goal

pub signs-init : goal.signs-init
signs-init c k low = absurd (omega (arith, low))

pub digit_at-requires : goal.digit_at-requires
digit_at-requires c = omega (arith, c.signs-test.true, c.requires)

pub overflow_add-place : goal.overflow_add-place
overflow_add-place c = record { fits = omega (arith, c.signs-test.true, c.requires) }

pub sign_place-requires : goal.sign_place-requires
sign_place-requires c = tt

pub signs-preserved : goal.signs-preserved
signs-preserved c = below_more _ _ c.signs.invariant (sym c.digit_at.ensures ∙ c.if-digit_at-sign_place.false ∙ c.sign_place.ensures
    ∙ sym (get_or-map sign_place c.args.signs.now c.signs.i Above 0 c.signs-test.true))

pub returns-then-digit_at-sign_place : goal.returns-then-digit_at-sign_place
returns-then-digit_at-sign_place c = (
  λ no. absurd (true≢false (sym no)),
  λ has. absurd (c.if-digit_at-sign_place.true (c.digit_at.ensures
      ∙ has c.signs.i (omega (arith, c.signs-test.true, length-map c.args.signs.now sign_place))
      ∙ get_or-map sign_place c.args.signs.now c.signs.i Above 0 c.signs-test.true ∙ sym c.sign_place.ensures)),
)

pub returns : goal.returns
returns c = (λ _ k low. c.signs.invariant k (omega (arith, low, c.signs-test.false, length-map c.args.signs.now sign_place)), λ _. refl)
