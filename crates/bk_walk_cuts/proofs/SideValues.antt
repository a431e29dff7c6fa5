-- The values of forms that are made of sides: one side more, sums of sides, and levels.
use Rattle.std.specs.List.{AllZip}
use Rattle.std.specs.Prelude.{fold, pos, ℤ, ◌+ℤ◌, ◌<ℤ◌}
use Rattle.std.proofs.Common.{List, Some, [], ap, arith, get_or, inl, inr, length, map, refl, replicate, slice_get, subst, suc, sym, zero, ℕ, ◌++◌}
use Rattle.std.proofs.Common.{◌+◌, ◌-◌, ◌<◌, ◌∙◌, ◌∷◌, ◌≡◌, ◌⊎◌}
use Rattle.std.proofs.Math.IntN.{zero-*ℤ}
use Rattle.std.proofs.lemmas.Int.{ints}
use Rattle.std.proofs.lemmas.List.{append_assoc, length-append, length-set}
use Rattle.bk_laws.proofs.WholeNumbers.{add-mul, one-*ℤ}
use Rattle.bk_tiling.proofs.Rows.{Chain}
use Rattle.bk_tiling.specs.declared.Segment.{Segment}
use Rattle.bk_tiling.specs.declared.Square.{Square}
use Rattle.bk_tiling.specs.Tiling.{IsOneOf}
use Rattle.bk_word.specs.Play.{numbers_from}
use Rattle.bk_word.specs.declared.Sign.{Sign}
use Rattle.bk_word.specs.declared.Sign.TheVariants.{Above, Even, Under}
use Rattle.bk_lay.proofs.Joining.{sign_case}
use Rattle.bk_lay.specs.Depiction.{IsSegment, Span}
use Rattle.bk_lay.specs.TilingWord.{sign_between, signs_between}
use Rattle.bk_forms.specs.Form.{Form, coefficient, form_value, with_column}
use Rattle.bk_forms.specs.FormLaws.{Compares}
use Rattle.bk_walk_cuts.specs.SideForms.{level_of, zero_form}
use Rattle.bk_walk_cuts.specs.SidesOfTilings.{AgreeWith, AreSidesOf, IsBottomOf}

value_nought : (n : ℕ) (sides : List ℕ) → form_value (replicate n (pos 0)) sides ≡ pos 0
value_nought zero sides = refl
value_nought (suc n) [] = refl
value_nought (suc n) (s ∷ sides) = omega (arith, ints, zero-*ℤ (pos s), value_nought n sides)

-- a form of zeros has the value 0
pub value_zero : (sides : List ℕ) → form_value zero_form sides ≡ pos 0
value_zero sides = value_nought 16 sides

-- a form with a side once more has a value greater by that side
pub value_with_side : (form : Form) (sides : List ℕ) (c : ℕ) → c < length form → c < length sides
    → form_value (with_column form c) sides ≡ form_value form sides +ℤ pos (get_or sides c 0)
value_with_side [] sides c h k = absurd (omega arith)
value_with_side (a ∷ form) [] c h k = absurd (omega arith)
value_with_side (a ∷ form) (s ∷ sides) zero h k = omega (arith, ints, add-mul a (pos 1) (pos s), one-*ℤ (pos s))
value_with_side (a ∷ form) (s ∷ sides) (suc c) h k = omega (arith, ints, value_with_side form sides c (omega arith) (omega arith))

-- a form with a side once more is as long as it was
pub long_with_side : (form : Form) (c : ℕ) → length (with_column form c) ≡ length form
long_with_side form c = length-set form c (coefficient form c +ℤ pos 1)

-- a square that is laid has its side among the sides
module _ (laid : List Square) (sides : List ℕ) (are : AreSidesOf laid sides) where
  within : (squares : List Square) (k : ℕ) (q : Square) → slice_get squares k ≡ Some q → k < length squares
  within [] k q e = absurd (cc)
  within (r ∷ squares) zero q e = omega arith
  within (r ∷ squares) (suc k) q e = omega (arith, within squares k q e)

  -- a form with the side of the k-th square once more has a value greater by that side
  pub form_value_with_a_side_once_more : (form : Form) (n k : ℕ) (q : Square) → length form ≡ 16 → n ≡ suc k → slice_get laid k ≡ Some q
      → form_value (with_column form (n - 1)) sides ≡ form_value form sides +ℤ pos q.s
  form_value_with_a_side_once_more form n k q long is at = ap (λ (c : ℕ). form_value (with_column form c) sides) less
      ∙ value_with_side form sides k (omega (arith, long, are.few, within laid k q at)) (omega (arith, are.long, are.few, within laid k q at))
      ∙ ap (λ (s : ℕ). form_value form sides +ℤ pos s) (are.each k q at)
    where
      less : n - 1 ≡ k
      less = omega (arith, is)

  -- the sides of squares that end at one level side by side
  pub span_sum : (numbers : List ℕ) (form : Form) (level x end : ℕ) → length form ≡ 16 → Span laid level x numbers end
      → form_value (fold (λ f n. with_column f (n - 1)) form numbers) sides +ℤ pos x ≡ form_value form sides +ℤ pos end
  span_sum [] form level x end long e = omega (arith, ints, e)
  span_sum (n ∷ numbers) form level x end long (q, (k, is, at), px, pb, rest) =
      omega (
        arith,
        ints,
        span_sum numbers (with_column form (n - 1)) level (x + q.s) end (long_with_side form (n - 1) ∙ long) rest,
        form_value_with_a_side_once_more form n k q long is at,
      )

  at_end : (front : List Square) (q : Square) (back : List Square) → slice_get (front ++ q ∷ back) (length front) ≡ Some q
  at_end [] q back = refl
  at_end (r ∷ front) q back = at_end front q back

  -- the sides of new squares side by side
  pub chain_sum : (squares front : List Square) (form : Form) (n x end : ℕ) → laid ≡ front ++ squares → n ≡ length front + 1 → length form ≡ 16
      → Chain x squares end
      → form_value (fold (λ f n. with_column f (n - 1)) form (numbers_from n (length squares))) sides +ℤ pos x ≡ form_value form sides +ℤ pos end
  chain_sum [] front form n x end is e long c = omega (arith, ints, c)
  chain_sum (q ∷ squares) front form n x end is e long c =
      omega (
        arith,
        ints,
        chain_sum squares (front ++ q ∷ []) (with_column form (n - 1)) (n + 1) (x + q.s) end (is ∙ sym (append_assoc front (q ∷ []) squares))
            (omega (arith, e, length-append front (q ∷ []))) (long_with_side form (n - 1) ∙ long) c.1,
        form_value_with_a_side_once_more form n (length front) q long (omega (arith, e))
            (ap (λ (l : List Square). slice_get l (length front)) is ∙ at_end front q squares),
      )

  -- the levels of the bottoms of new squares side by side
  pub new_bottoms_by_their_forms : (squares front : List Square) (form : Form) (n level : ℕ) → laid ≡ front ++ squares → n ≡ length front + 1 → length form ≡ 16
      → form_value form sides ≡ pos level
      → ((q : Square) → IsOneOf q squares → q.y ≡ level) → AllZip (IsBottomOf sides)
      (map (λ n. with_column form (n - 1)) (numbers_from n (length squares))) squares
  new_bottoms_by_their_forms [] front form n level is e long value under = tt
  new_bottoms_by_their_forms (q ∷ squares) front form n level is e long value under = (
    record {
      long = long_with_side form (n - 1) ∙ long;
      level = form_value_with_a_side_once_more form n (length front) q long (omega (arith, e))
          (ap (λ (l : List Square). slice_get l (length front)) is ∙ at_end front q squares)
          ∙ omega (arith, ints, value, under q (inl refl));
    },
    new_bottoms_by_their_forms squares (front ++ q ∷ []) form (n + 1) level (is ∙ sym (append_assoc front (q ∷ []) squares))
        (omega (arith, e, length-append front (q ∷ []))) long value (λ r h. under r (inr h)),
  )

-- the level of a segment, from those of the bottoms
pub record IsLevelOf (sides : List ℕ) (form : Form) (level : ℕ) : Type 0 where
  pub long : length form ≡ 16
  pub value : form_value form sides ≡ pos level

zip_read : (sides : List ℕ) (bottoms : List Form) (laid : List Square) (k : ℕ) (q : Square) → AllZip (IsBottomOf sides) bottoms laid
    → slice_get laid k ≡ Some q → IsBottomOf sides (get_or bottoms k zero_form) q
zip_read sides [] [] k q z e = absurd (cc)
zip_read sides [] (r ∷ laid) k q z e = absurd z
zip_read sides (b ∷ bottoms) [] k q z e = absurd z
zip_read sides (b ∷ bottoms) (r ∷ laid) zero q z e = subst (IsBottomOf sides b) same z.0
  where
    same : r ≡ q
    same = cc
zip_read sides (b ∷ bottoms) (r ∷ laid) (suc k) q z e = zip_read sides bottoms laid k q z.1 e

-- the level of an open segment is read from the forms of its squares' bottoms
pub segment_level : (sides : List ℕ) (bottoms : List Form) (laid : List Square) (u : Segment) (numbers : List ℕ) → 0 < u.width
    → AllZip (IsBottomOf sides) bottoms laid → IsSegment laid u numbers
    → IsLevelOf sides (level_of bottoms numbers) u.level
segment_level sides bottoms laid u [] some zip (inl e) = absurd (omega (arith, some, e))
segment_level sides bottoms laid u [] some zip (inr top) = record { long = refl; value = value_zero sides ∙ ap pos (sym top.0) }
segment_level sides bottoms laid u (n ∷ numbers) some zip (inl (q, (k, is, at), px, pb, rest)) = record { long = b.long; value = b.level ∙ ap pos pb }
  where
    less : n - 1 ≡ k
    less = omega (arith, is)

    b : IsBottomOf sides (get_or bottoms (n - 1) zero_form) q
    b = subst (λ (c : ℕ). IsBottomOf sides (get_or bottoms c zero_form) q) (sym less) (zip_read sides bottoms laid k q zip at)
segment_level sides bottoms laid u (n ∷ numbers) some zip (inr top) = absurd (not_nil top.1)
  where
    not_nil : n ∷ numbers ≡ [] → ⊥
    not_nil f = cc

-- ---- signs

compares : (a b : ℕ) (sign : Sign) (x y : ℤ) → sign_between a b ≡ sign → x ≡ pos a → y ≡ pos b → Compares sign x y
compares a b sign x y e f g = cases (sign_case a b)
  where
    cases : ((a < b) × (sign_between a b ≡ Above)) ⊎ ((a ≡ b) × (sign_between a b ≡ Even)) ⊎ ((b < a) × (sign_between a b ≡ Under)) → Compares sign x y
    cases (inl h) = subst (λ (s : Sign). Compares s x y) (sym h.1 ∙ e) less
      where
        less : x <ℤ y
        less = omega (arith, ints, h.0, f, g)
    cases (inr (inl h)) = subst (λ (s : Sign). Compares s x y) (sym h.1 ∙ e) (f ∙ ap pos h.0 ∙ sym g)
    cases (inr (inr h)) = subst (λ (s : Sign). Compares s x y) (sym h.1 ∙ e) more
      where
        more : y <ℤ x
        more = omega (arith, ints, h.0, f, g)

-- the signs between levels agree with forms of these levels
pub signs_agree : (sides : List ℕ) (forms : List Form) (ns : List ℕ) → AllZip (IsLevelOf sides) forms ns → AgreeWith (signs_between ns) forms sides
signs_agree sides forms [] zip i sign e = absurd (cc)
signs_agree sides forms (a ∷ []) zip i sign e = absurd (cc)
signs_agree sides [] (a ∷ b ∷ ns) zip i sign e = absurd zip
signs_agree sides (f ∷ []) (a ∷ b ∷ ns) zip i sign e = absurd zip.1
signs_agree sides (f ∷ g ∷ forms) (a ∷ b ∷ ns) zip zero sign e = compares a b sign (form_value f sides) (form_value g sides) same (zip.0).value
    ((zip.1).0).value
  where
    same : sign_between a b ≡ sign
    same = cc
signs_agree sides (f ∷ g ∷ forms) (a ∷ b ∷ ns) zip (suc i) sign e = signs_agree sides (g ∷ forms) (b ∷ ns) zip.1 i sign e
