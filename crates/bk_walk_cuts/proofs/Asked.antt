-- What answers of a ledger say of two signs, of equations kept before, and of equal sides.
use Rattle.std.specs.Prelude.{pos, ℤ, ◌+ℤ◌}
use Rattle.std.proofs.Common.{List, Some, [], ap, arith, get_or, length, refl, slice_get, subst, suc, sym, take, zero, ℕ, ◌+◌}
use Rattle.std.proofs.Common.{◌<◌, ◌∙◌, ◌∷◌, ◌≡◌}
use Rattle.std.proofs.lemmas.Int.{ints}
use Rattle.std.proofs.lemmas.List.{length-append, take-append-le, take-take, take_all}
use Rattle.bk_word.specs.declared.Sign.{Sign}
use Rattle.bk_word.specs.declared.Sign.TheVariants.{Above, Even, Under}
use Rattle.bk_forms.specs.Form.{Form, form_value, with_column}
use Rattle.bk_forms.specs.FormLaws.{Compares}
use Rattle.bk_forms.specs.Reduction.{Addition, contradiction, gives_up, keeps, kept_after, known}
use Rattle.bk_walk_cuts.proofs.SideValues.{value_with_side, value_zero}
use Rattle.bk_walk_cuts.specs.KnownSides.{KeepsFirst}
use Rattle.bk_walk_cuts.specs.SideForms.{zero_form}
use Rattle.bk_walk_cuts.specs.SidesOfTilings.{AgreeWith}

-- two numbers compare by one sign
pub one_sign : (a b : Sign) (x y : ℤ) → Compares a x y → Compares b x y → a ≡ b
one_sign Above Above x y h k = refl
one_sign Above Even x y h k = absurd (omega (arith, ints, h, k))
one_sign Above Under x y h k = absurd (omega (arith, ints, h, k))
one_sign Even Above x y h k = absurd (omega (arith, ints, h, k))
one_sign Even Even x y h k = refl
one_sign Even Under x y h k = absurd (omega (arith, ints, h, k))
one_sign Under Above x y h k = absurd (omega (arith, ints, h, k))
one_sign Under Even x y h k = absurd (omega (arith, ints, h, k))
one_sign Under Under x y h k = refl

-- the sign at a place of a list
pub sign_read : (signs : List Sign) (i : ℕ) (d : Sign) → i < length signs → slice_get signs i ≡ Some (get_or signs i d)
sign_read [] i d h = absurd (omega arith)
sign_read (s ∷ signs) zero d h = refl
sign_read (s ∷ signs) (suc i) d h = sign_read signs i d (omega arith)

-- a sign compares the forms beside it
pub agreed : (signs : List Sign) (levels : List Form) (sides : List ℕ) (i : ℕ) (d : Sign) (f g : Form) → AgreeWith signs levels sides
    → i < length signs → f ≡ get_or levels i zero_form → g ≡ get_or levels (i + 1) zero_form
    → Compares (get_or signs i d) (form_value f sides) (form_value g sides)
agreed signs levels sides i d f g agree h ef eg = subst (λ (x : Form). Compares (get_or signs i d) (form_value x sides) (form_value g sides)) (sym ef)
    (subst (λ (x : Form). Compares (get_or signs i d) (form_value (get_or levels i zero_form) sides) (form_value x sides))
    (ap (λ (k : ℕ). get_or levels k zero_form) next ∙ sym eg) (agree i (get_or signs i d) (sign_read signs i d h)))
  where
    next : suc i ≡ i + 1
    next = omega arith

-- a ledger keeps its own first equations
pub keeps_all : (kept : List Form) → KeepsFirst kept kept
keeps_all kept = record { more = omega arith; same = take_all (length kept) kept (omega arith) }

-- a ledger keeps its first equations when something is added
pub keeps_after : (kept kept_then : List Form) (a : Addition) → kept_then ≡ kept_after kept a → KeepsFirst kept kept_then
keeps_after kept kept_then (keeps form) e = subst (KeepsFirst kept) (sym e)
    (record {
      more = omega (arith, length-append kept (form ∷ []));
      same = take-append-le (length kept) kept (form ∷ []) (omega arith)
          ∙ take_all (length kept) kept (omega arith);
    })
keeps_after kept kept_then known e = subst (KeepsFirst kept) (sym e) (keeps_all kept)
keeps_after kept kept_then contradiction e = subst (KeepsFirst kept) (sym e) (keeps_all kept)
keeps_after kept kept_then gives_up e = subst (KeepsFirst kept) (sym e) (keeps_all kept)

-- a ledger that keeps the first equations of another keeps those that the other keeps
pub keeps_trans : (a b c : List Form) → KeepsFirst a b → KeepsFirst b c → KeepsFirst a c
keeps_trans a b c f g = let low = f.more in let more = g.more in record {
  more = omega arith;
  same = sym (take-take (length a) (length b) c low) ∙ ap (take (length a)) g.same ∙ f.same;
}

-- a side alone
pub value_of_side : (sides : List ℕ) (c : ℕ) → length sides ≡ 16 → c < 16 → form_value (with_column zero_form c) sides ≡ pos (get_or sides c 0)
value_of_side sides c long h = value_with_side zero_form sides c h (omega (arith, long))
    ∙ ap (λ (z : ℤ). z +ℤ pos (get_or sides c 0)) (value_zero sides) ∙ omega (arith, ints)

-- two columns whose forms have one value have equal sides
pub equal_sides : (sides : List ℕ) (i j : ℕ) → length sides ≡ 16 → i < 16 → j < 16
    → form_value (with_column zero_form i) sides ≡ form_value (with_column zero_form j) sides → get_or sides i 0 ≡ get_or sides j 0
equal_sides sides i j long h k e = omega (arith, ints, e, value_of_side sides i long h, value_of_side sides j long k)
