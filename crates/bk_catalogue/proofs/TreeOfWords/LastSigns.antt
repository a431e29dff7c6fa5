-- The next signs, told from the last one.
use Rattle.std.proofs.Common.{List, Some, [], ap, append-nil, append_assoc, arith, length, refl, replicate, suc, ℕ, ◌++◌, ◌-◌, ◌<◌, ◌∙◌, ◌∷◌, ◌≡◌, ◌≤◌}
use Rattle.std.proofs.lemmas.List.{length-append}
use Rattle.bk_word.specs.declared.Sign.{Sign}
use Rattle.bk_word.specs.declared.Sign.TheVariants.{Above, Even, Under}
use Rattle.bk_catalogue.specs.NextMove.{raised, signs_after}

some_more : (s : Sign) (signs : List Sign) → raised s (Some signs) ≡ Some (s ∷ signs)
some_more Above signs = refl
some_more Even signs = refl
some_more Under signs = refl

-- the next signs, where the last one is under
pub after_under : (signs : List Sign) → signs_after (signs ++ Under ∷ []) ≡ signs_after signs
after_under [] = refl
after_under (s ∷ signs) = ap (raised s) (after_under signs)

-- where the last sign is above, the next signs have even in its place
pub after_above : (signs : List Sign) → signs_after (signs ++ Above ∷ []) ≡ Some (signs ++ Even ∷ [])
after_above [] = refl
after_above (s ∷ signs) = ap (raised s) (after_above signs) ∙ some_more s (signs ++ Even ∷ [])

-- the next signs after a last even one
pub after_even : (signs : List Sign) → signs_after (signs ++ Even ∷ []) ≡ Some (signs ++ Under ∷ [])
after_even [] = refl
after_even (s ∷ signs) = ap (raised s) (after_even signs) ∙ some_more s (signs ++ Under ∷ [])

-- signs with signs above behind them, up to so many
abbrev pub filled_up : ℕ → List Sign → List Sign
filled_up wanted signs = signs ++ replicate (wanted - length signs) Above

-- signs filled up with above, one after another
pub fill_one : (wanted : ℕ) (signs : List Sign) → length signs < wanted → filled_up wanted (signs ++ Above ∷ []) ≡ filled_up wanted signs
fill_one wanted signs h = append_assoc signs (Above ∷ []) (replicate (wanted - length (signs ++ Above ∷ [])) Above) ∙ ap (λ k. signs ++ replicate k Above) one
  where
    one : suc (wanted - length (signs ++ Above ∷ [])) ≡ wanted - length signs
    one = omega (arith, length-append signs (Above ∷ []))

-- enough signs stay
pub fill_none : (wanted : ℕ) (signs : List Sign) → wanted ≤ length signs → filled_up wanted signs ≡ signs
fill_none wanted signs h = ap (λ k. signs ++ replicate k Above) none ∙ append-nil signs
  where
    none : wanted - length signs ≡ 0
    none = omega arith
