-- Laying ends in one way: a code has one refusal at most, and so has a flat list.
use Rattle.std.proofs.Common.{List, [], ap, arith, length, refl, subst, suc, sum, sym, ℕ, ◌++◌, ◌+◌, ◌∙◌, ◌∷◌, ◌≡◌}
use Rattle.bk_tiling.specs.declared.Segment.{Segment}
use Rattle.bk_tiling.specs.declared.Square.{Square}
use Rattle.bk_code.specs.Code.{Code}
use Rattle.bk_profile.proofs.CodeLaid.{no_misfit}
use Rattle.bk_profile.proofs.Division.{divides_once}
use Rattle.bk_profile.proofs.LayingOnce.{gap_unique, lays_unique}
use Rattle.bk_profile.specs.Gap.{FitsGap, IsGap, LaysTo, laid_with_group}
use Rattle.bk_profile.specs.Laid.{IsUneven, Laid}
use Rattle.bk_profile.specs.LayingLaws.{ACodeIsRefusedInOneWay, AFlatListIsRefusedInOneWay}
use Rattle.bk_profile.specs.Refused.{IsRefused}
use Rattle.bk_profile.specs.declared.laying.Refusal.TheVariants.{Gap, Open}

-- groups that are laid from some squares on, and then one that doesn't fit
pub record Stops (w : ℕ) (laid : List Square) (before : Code) (group : List ℕ) (gap : Segment) : Type 0 where
  pub end : List Square
  pub lays : LaysTo w laid before end
  pub is_gap : IsGap w end gap
  pub misfit : FitsGap gap group → ⊥

-- two misfits of a code are one: the same groups before, the same group, the same gap
pub record Same (before other : Code) (group group2 : List ℕ) (gap gap2 : Segment) : Type 0 where
  pub places : length before ≡ length other
  pub groups : group ≡ group2
  pub gaps : gap ≡ gap2

-- a group that misfits the gap doesn't begin a code that is laid
not_laid : (w : ℕ) (laid : List Square) (first : List ℕ) (code : Code) (group : List ℕ) (gap : Segment) (end : List Square) → group ≡ first
    → IsGap w laid gap → (FitsGap gap group → ⊥) → LaysTo w laid (first ∷ code) end → ⊥
not_laid w laid first code group gap end same is misfit (g, is_gap, fits, lays) =
    misfit (ap (λ (l : List ℕ). sum l) same ∙ fits ∙ ap (λ (s : Segment). s.width) (gap_unique w laid g gap is_gap is))

stops_once : (w : ℕ) (laid : List Square) (before other after after2 : Code) (group group2 : List ℕ) (gap gap2 : Segment)
    → before ++ group ∷ after ≡ other ++ group2 ∷ after2
    → Stops w laid before group gap → Stops w laid other group2 gap2 → Same before other group group2 gap gap2
stops_once w laid [] [] after after2 group group2 gap gap2 e a b = record {
  places = refl;
  groups = cc;
  gaps = gap_unique w laid gap gap2 (subst (λ (l : List Square). IsGap w l gap) (sym a.lays) a.is_gap)
      (subst (λ (l : List Square). IsGap w l gap2) (sym b.lays) b.is_gap);
}
stops_once w laid [] (first ∷ other) after after2 group group2 gap gap2 e a b =
    absurd (not_laid w laid first other group gap b.end same (subst (λ (l : List Square). IsGap w l gap) (sym a.lays) a.is_gap) a.misfit b.lays)
  where
    same : group ≡ first
    same = cc
stops_once w laid (first ∷ before) [] after after2 group group2 gap gap2 e a b =
    absurd (not_laid w laid first before group2 gap2 a.end same (subst (λ (l : List Square). IsGap w l gap2) (sym b.lays) b.is_gap) b.misfit a.lays)
  where
    same : group2 ≡ first
    same = cc
stops_once w laid (first ∷ before) (second ∷ other) after after2 group group2 gap gap2 e a b =
    from a.lays b.lays (λ h. stops_once w (laid_with_group laid h second) before other after after2 group group2 gap gap2 rest)
  where
    same : first ≡ second
    same = cc

    rest : before ++ group ∷ after ≡ other ++ group2 ∷ after2
    rest = cc

    from : LaysTo w laid (first ∷ before) a.end → LaysTo w laid (second ∷ other) b.end
        → ((h : Segment) → Stops w (laid_with_group laid h second) before group gap → Stops w (laid_with_group laid h second) other group2 gap2
        → Same before other group group2 gap gap2)
        → Same (first ∷ before) (second ∷ other) group group2 gap gap2
    from (g, is, fits, lays) (h, is2, fits2, lays2) more =
        let moved : LaysTo w (laid_with_group laid h second) before a.end =
        subst (λ (l : List Square). LaysTo w l before a.end) (λ i. laid_with_group laid (gap_unique w laid g h is is2 i) (same i)) lays in
        let later = more h (record { end = a.end; lays = moved; is_gap = a.is_gap; misfit = a.misfit })
        (record { end = b.end; lays = lays2; is_gap = b.is_gap; misfit = b.misfit }) in
        record { places = ap suc later.places; groups = later.groups; gaps = later.gaps }

least_once : (p : Laid) (l1 g1 l2 g2 : ℕ) → IsUneven p l1 g1 → IsUneven p l2 g2 → (l1 ≡ l2) × (g1 ≡ g2)
least_once p l1 g1 l2 g2 a b =
    let la = a.least_is in
    let lb = b.least_is in
    let ga = a.greatest_is in
    let gb = b.greatest_is in (
      omega (arith, la.there, lb.there, la.below lb.column lb.within, lb.below la.column la.within),
      omega (arith, ga.there, gb.there, ga.above gb.column gb.within, gb.above ga.column ga.within),
    )

-- a code has at most one refusal
pub a_code_is_refused_in_one_way : ACodeIsRefusedInOneWay
a_code_is_refused_in_one_way width code (Gap n gap_width total) (Gap n2 gap_width2 total2) a b =
    let same = stops_once width [] a.before b.before a.after b.after a.group b.group a.gap b.gap (sym a.split ∙ b.split)
    (record { end = a.laid; lays = a.lays; is_gap = a.is_gap; misfit = a.misfit })
    (record { end = b.laid; lays = b.lays; is_gap = b.is_gap; misfit = b.misfit }) in
    let number : n ≡ n2 = sym a.place ∙ ap (λ k. k + 1) same.places ∙ b.place in
    let width_is : gap_width ≡ gap_width2 = sym a.gap_is ∙ ap (λ (s : Segment). s.width) same.gaps ∙ b.gap_is in
    let total_is : total ≡ total2 = sym a.total_is ∙ ap (λ (l : List ℕ). sum l) same.groups ∙ b.total_is in
    λ i. Gap (number i) (width_is i) (total_is i)
a_code_is_refused_in_one_way width code (Gap n gap_width total) (Open least greatest) a b = absurd (no_misfit width code b.laid n gap_width total b.lays a)
a_code_is_refused_in_one_way width code (Open least greatest) (Gap n gap_width total) a b = absurd (no_misfit width code a.laid n gap_width total a.lays b)
a_code_is_refused_in_one_way width code (Open least greatest) (Open least2 greatest2) a b =
    let same : a.laid ≡ b.laid = lays_unique width [] code a.laid b.laid a.lays b.lays in
    let both = least_once (record { width = width; squares = b.laid }) least greatest least2 greatest2
    (subst (λ (l : List Square). IsUneven (record { width = width; squares = l }) least greatest) same a.uneven) b.uneven in
    λ i. Open (both.0 i) (both.1 i)

-- a flat list has at most one refusal
pub a_flat_list_is_refused_in_one_way : AFlatListIsRefusedInOneWay
a_flat_list_is_refused_in_one_way width sides r s a b =
    let same : a.code ≡ b.code = divides_once width [] sides a.code b.code a.divided b.divided in
    a_code_is_refused_in_one_way width b.code r s (subst (λ (c : Code). IsRefused width c r) same a.refused) b.refused
