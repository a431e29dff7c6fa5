-- What the flow of the one word of order 2 tells.
use Rattle.std.specs.Prelude.{pos}
use Rattle.std.proofs.Common.{[], arith, inl, inr, refl, suc, zero, ◌∷◌, ◌≡◌}
use Rattle.std.proofs.lemmas.Int.{ints}
use Rattle.bk_word.specs.declared.Class.TheVariants.{Imperfect, Perfect}
use Rattle.bk_tree_walk.specs.WholeWords.{IsUnfit}
use Rattle.bk_catalogue.proofs.Members.RepeatedExamples.{row_alike}

-- the currents of the row's net are one number twice, so they are unfit in the class perfect, and in the class imperfect they are fit
row_unfit : IsUnfit Perfect (pos 1 ∷ pos 1 ∷ [])
row_unfit = inr (refl, row_alike)

row_fit : IsUnfit Imperfect (pos 1 ∷ pos 1 ∷ []) → ⊥
row_fit (inl (zero, c, within, at, below)) = let one : pos 1 ≡ c = at in omega (arith, ints, one, below)
row_fit (inl (suc zero, c, within, at, below)) = let one : pos 1 ≡ c = at in omega (arith, ints, one, below)
row_fit (inl (suc (suc k), c, within, at, below)) = absurd (omega (arith, within))
row_fit (inr (perfect, two)) = cc
