-- What a reduced form says of positive sides.
-- Example (FormExamples): a + 2c is positive, a form of zeros zero, -b negative, and 2a - b open.
use Rattle.std.specs.List.{list_all}
use Rattle.std.specs.Prelude.{Bool, cond, not, ◌||◌}
use Rattle.bk_forms.specs.Form.{Form, is_negative, is_zero}
use Rattle.bk_forms.specs.declared.form.Claim.{Claim}
use Rattle.bk_forms.specs.declared.form.Claim.TheVariants.{Negative, Open, Positive, Zero}

-- no coefficient is below 0
abbrev pub none_negative : Form → Bool
none_negative form = list_all (λ a. not (is_negative a)) form

-- no coefficient is above 0
abbrev pub none_positive : Form → Bool
none_positive form = list_all (λ a. is_zero a || is_negative a) form

-- the claim that the signs of the coefficients allow
abbrev pub claim_of : Form → Claim
claim_of form = cond (none_negative form) (cond (none_positive form) Zero Positive)
    (cond (none_positive form) Negative Open)
