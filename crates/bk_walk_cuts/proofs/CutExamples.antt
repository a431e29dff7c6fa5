-- A ledger in which each cut acts. The sides of the first squares are called a, b, c.
use Rattle.std.specs.Prelude.{negsuc, pos}
use Rattle.std.proofs.Common.{List, [], arith, refl, ◌∷◌, ◌≡◌}
use Rattle.bk_word.specs.declared.Sign.TheVariants.{Above, Even, Under}
use Rattle.bk_forms.specs.Form.{Form}
use Rattle.bk_walk_cuts.proofs.SideFormExamples.{form_of}
use Rattle.bk_walk_cuts.specs.FormCuts.{LevelsContradict, SidesAreEqual, SignIsOther, WidthsContradict, kept_by_widths}

-- a = b is kept
abbrev equal_sides : List Form
equal_sides = form_of (negsuc 0 ∷ pos 1 ∷ []) ∷ []

-- so a square a can't have squares b and c under it: c would be 0
widths_contradict : WidthsContradict equal_sides (1 ∷ []) (2 ∷ 3 ∷ [])
widths_contradict = record { some = λ e. absurd cc; contradict = refl }

-- and where nothing is kept it can: then a = b + c is kept
widths_kept : kept_by_widths [] (1 ∷ []) (2 ∷ 3 ∷ []) ≡ form_of (negsuc 0 ∷ pos 1 ∷ pos 1 ∷ []) ∷ []
widths_kept = refl

-- the levels a and a + b are never even
levels_contradict : LevelsContradict [] (form_of (pos 1 ∷ []) ∷ form_of (pos 1 ∷ pos 1 ∷ []) ∷ []) (Even ∷ [])
levels_contradict = record { place = 0; even = refl; contradict = refl }

-- nor is b at a level under a + b: it is above
different : Above ≡ Under → ⊥
different e = cc

uneven : Under ≡ Even → ⊥
uneven e = cc

sign_is_other : SignIsOther [] (form_of (pos 0 ∷ pos 1 ∷ []) ∷ form_of (pos 1 ∷ pos 1 ∷ []) ∷ []) (Under ∷ [])
sign_is_other = record { place = 0; sign = Under; known = Above; here = refl; uneven = uneven; compared = refl; other = different }

-- where a = b is kept, two sides are equal
sides_are_equal : SidesAreEqual equal_sides 2
sides_are_equal = record { first = 0; second = 1; order = omega arith; within = omega arith; equal = refl }
