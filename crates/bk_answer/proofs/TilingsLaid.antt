-- A tiling is laid by its code, so its code is not refused.
use Rattle.std.proofs.Common.{refl, subst, sym, ℕ, ◌≡◌}
use Rattle.bk_tiling.specs.Tiling.{IsTiling, Tiling}
use Rattle.bk_code.proofs.CodeOfTiling.{code_some}
use Rattle.bk_code.specs.Code.{Code, code_of}
use Rattle.bk_profile.proofs.CodeLaid.{no_misfit, not_open, width_is}
use Rattle.bk_profile.proofs.CodeLaying.{a_code_is_laid}
use Rattle.bk_profile.specs.Refused.{HasCode, IsRefused, first_sum}
use Rattle.bk_profile.specs.declared.laying.Refusal.{Refusal}
use Rattle.bk_profile.specs.declared.laying.Refusal.TheVariants.{Gap, Open}

not_refused : (t : Tiling) (r : Refusal) → IsTiling t → IsRefused t.width (code_of t) r → ⊥
not_refused t (Gap n gap total) tiling h = no_misfit t.width (code_of t) t.squares n gap total (a_code_is_laid t tiling) h
not_refused t (Open least greatest) tiling h = not_open t.width (code_of t) t least greatest tiling refl (a_code_is_laid t tiling) h

-- the width of a tiling is the sum of its code's first group
pub width_is_first_sum : (t : Tiling) → IsTiling t → first_sum (code_of t) ≡ t.width
width_is_first_sum t tiling = width_is (code_of t) t (record { tiling = tiling; code_is = refl }) (code_some t tiling)

-- a code that a tiling has is not refused under its first sum
pub code_not_refused : (code : Code) (t : Tiling) (r : Refusal) → HasCode code t → IsRefused (first_sum code) code r → ⊥
code_not_refused code t r has h =
    let own : IsRefused (first_sum (code_of t)) (code_of t) r = subst (λ (c : Code). IsRefused (first_sum c) c r) (sym has.code_is) h in
    not_refused t r has.tiling (subst (λ (w : ℕ). IsRefused w (code_of t) r) (width_is_first_sum t has.tiling) own)
