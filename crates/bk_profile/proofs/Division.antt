-- How a flat list is divided: in one way, and for the flat list of a tiling's code into the groups of that code.
use Rattle.std.specs.List.{AllByRecursion}
use Rattle.std.proofs.Common.{Bool, List, [], ap, arith, cond, length, map, refl, subst, suc, sum, sym, take, zero, ℕ, ◌++◌, ◌+◌}
use Rattle.std.proofs.Common.{◌-◌, ◌<◌, ◌∙◌, ◌∷◌, ◌≡◌, ◌≤◌}
use Rattle.std.proofs.lemmas.Bool.{le-leb, lt-leb}
use Rattle.std.proofs.lemmas.List.Sums.{sum_by-cons}
use Rattle.bk_laws.proofs.ListParts.{append-same_rest}
use Rattle.bk_laws.proofs.Sums.{sum-positive_of_positive}
use Rattle.bk_tiling.proofs.Groups.{AllIn, IsGroup}
use Rattle.bk_tiling.proofs.TilingGroups.{all_groups}
use Rattle.bk_tiling.proofs.TilingLaws.{side_of}
use Rattle.bk_tiling.specs.SquareGroups.{square_groups}
use Rattle.bk_tiling.specs.Tiling.{IsTiling, Tiling}
use Rattle.bk_tiling.specs.declared.Segment.{Segment}
use Rattle.bk_tiling.specs.declared.Square.{Square}
use Rattle.bk_code.specs.Code.{Code, code_of, flat}
use Rattle.bk_profile.proofs.CodeLaid.{no_misfit, not_open}
use Rattle.bk_profile.proofs.CodeLaying.{a_code_is_laid}
use Rattle.bk_profile.proofs.LaidGroups.{AreGroups}
use Rattle.bk_profile.proofs.LayingOnce.{gap_unique}
use Rattle.bk_profile.specs.Gap.{Divides, FitsGap, IsGap, LaysTo, done, fits, laid_with_group, misfit, next_group}
use Rattle.bk_profile.specs.Refused.{HasFlat, IsFlatRefused, IsRefused}
use Rattle.bk_profile.specs.declared.laying.Refusal.{Refusal}
use Rattle.bk_profile.specs.declared.laying.Refusal.TheVariants.{Gap, Open}

next_ends : (n s : ℕ) (sides : List ℕ) → n ≤ s → next_group n (s ∷ sides) ≡ s ∷ []
next_ends n s sides h = ap (λ (b : Bool). s ∷ cond b [] (next_group (n - s) sides)) (le-leb n s h)

next_goes_on : (n s : ℕ) (sides : List ℕ) → s < n → next_group n (s ∷ sides) ≡ s ∷ next_group (n - s) sides
next_goes_on n s sides h = ap (λ (b : Bool). s ∷ cond b [] (next_group (n - s) sides)) (lt-leb n s h)

-- the prefix with which the sum reaches a number
pub next_group-of_sum_reached : (n : ℕ) (sides : List ℕ) (i : ℕ) → i < length sides → sum (take i sides) < n → n ≤ sum (take (i + 1) sides)
    → take (i + 1) sides ≡ next_group n sides
next_group-of_sum_reached n [] i l short enough = absurd (omega arith)
next_group-of_sum_reached n (s ∷ sides) zero l short enough = sym (next_ends n s sides (omega (arith, enough, sum_by-cons (λ (k : ℕ). k) s [])))
next_group-of_sum_reached n (s ∷ sides) (suc i) l short enough =
    let less : s + sum (take i sides) < n = omega (arith, short, sum_by-cons (λ (k : ℕ). k) s (take i sides)) in
    let place : suc i + 1 ≡ suc (i + 1) = omega arith in
    let more : n ≤ s + sum (take (i + 1) sides) =
    omega (arith, enough, sum_by-cons (λ (k : ℕ). k) s (take (i + 1) sides), ap (λ k. sum (take k (s ∷ sides))) place) in
    ap (λ k. take k (s ∷ sides)) place
    ∙ ap (λ (l : List ℕ). s ∷ l) (next_group-of_sum_reached (n - s) sides i (omega arith) (omega (arith, less)) (omega (arith, more)))
    ∙ sym (next_goes_on n s sides (omega (arith, less)))

-- all sides, where their sum reaches no further
pub falls_short : (n : ℕ) (sides : List ℕ) → sum sides < n → next_group n sides ≡ sides
falls_short n [] short = refl
falls_short n (s ∷ sides) short =
    let less : s + sum sides < n = omega (arith, short, sum_by-cons (λ (k : ℕ). k) s sides) in
    next_goes_on n s sides (omega (arith, less)) ∙ ap (λ (l : List ℕ). s ∷ l) (falls_short (n - s) sides (omega (arith, less)))

-- a group that fills the gap is the next one
next_exact : (n : ℕ) (group more : List ℕ) → 0 < length group → AllByRecursion (λ s. 0 < s) group → sum group ≡ n → group ≡ next_group n (group ++ more)
next_exact n [] more some good e = absurd (omega arith)
next_exact n (s ∷ []) more some good e = sym (next_ends n s more (omega (arith, e, sum_by-cons (λ (k : ℕ). k) s [])))
next_exact n (s ∷ t ∷ group) more some good e =
    let whole : s + sum (t ∷ group) ≡ n = omega (arith, e, sum_by-cons (λ (k : ℕ). k) s (t ∷ group)) in
    ap (λ (l : List ℕ). s ∷ l) (next_exact (n - s) (t ∷ group) more (omega arith) good.1 (omega (arith, whole)))
    ∙ sym (next_goes_on n s (t ∷ group ++ more) (omega (arith, whole, sum-positive_of_positive t group good.1)))

-- groups that fit, one after another, are how their flat list is divided
divides_lays : (w : ℕ) (laid : List Square) (code : Code) (end : List Square) → AreGroups code → LaysTo w laid code end → Divides w laid (flat code) code
divides_lays w laid [] end good lays = done
divides_lays w laid ([] ∷ code) end good lays = absurd (omega (arith, good.0.0))
divides_lays w laid ((s ∷ group) ∷ code) end good (gap, is, fit, lays) =
    fits (flat code) gap is (next_exact gap.width (s ∷ group) (flat code) good.0.0 good.0.1 fit) fit refl
    (divides_lays w (laid_with_group laid gap (s ∷ group)) code end good.1 lays)

-- the next group is one
same_group : (w : ℕ) (laid : List Square) (sides group other : List ℕ) (gap gap2 : Segment) → IsGap w laid gap → IsGap w laid gap2
    → group ≡ next_group gap.width sides → other ≡ next_group gap2.width sides → group ≡ other
same_group w laid sides group other gap gap2 is is2 next next2 = next
    ∙ ap (λ (g : Segment). next_group g.width sides) (gap_unique w laid gap gap2 is is2) ∙ sym next2

same_fit : (w : ℕ) (laid : List Square) (group other : List ℕ) (gap gap2 : Segment) → IsGap w laid gap → IsGap w laid gap2 → group ≡ other
    → FitsGap gap group → FitsGap gap2 other
same_fit w laid group other gap gap2 is is2 same fit = ap (λ (g : List ℕ). sum g) (sym same) ∙ fit
    ∙ ap (λ (g : Segment). g.width) (gap_unique w laid gap gap2 is is2)

-- a list is divided in one way
pub divides_once : (w : ℕ) (laid : List Square) (sides : List ℕ) (code other : Code) → Divides w laid sides code → Divides w laid sides other → code ≡ other
divides_once w laid sides code other done done = refl
divides_once w laid sides code other (misfit {s = s} {sides = tail} {group = g} gap is next not) (misfit {group = h} gap2 is2 next2 not2) =
    ap (λ (l : List ℕ). l ∷ []) (same_group w laid (s ∷ tail) g h gap gap2 is is2 next next2)
divides_once w laid sides code other (misfit {s = s} {sides = tail} {group = g} gap is next not) (fits {group = h} rest2 gap2 is2 next2 fit2 split2 more2) =
    absurd (not (same_fit w laid h g gap2 gap is2 is (same_group w laid (s ∷ tail) h g gap2 gap is2 is next2 next) fit2))
divides_once w laid sides code other (fits {s = s} {sides = tail} {group = g} rest gap is next fit split more) (misfit {group = h} gap2 is2 next2 not2) =
    absurd (not2 (same_fit w laid g h gap gap2 is is2 (same_group w laid (s ∷ tail) g h gap gap2 is is2 next next2) fit))
divides_once w laid sides code other (fits {s = s} {sides = tail} {group = g} {code = c} rest gap is next fit split more)
    (fits {group = h} {code = d} rest2 gap2 is2 next2 fit2 split2 more2) =
    λ i. same i ∷ divides_once w (laid_with_group laid gap2 h) rest2 c d moved more2 i
  where
    same : g ≡ h
    same = same_group w laid (s ∷ tail) g h gap gap2 is is2 next next2

    moved : Divides w (laid_with_group laid gap2 h) rest2 c
    moved = subst (λ (l : List ℕ). Divides w (laid_with_group laid gap2 h) l c) (append-same_rest (s ∷ tail) g h rest rest2 same split split2)
        (subst (λ (l : List Square). Divides w l rest c) (λ i. laid_with_group laid (gap_unique w laid gap gap2 is is2 i) (same i)) more)

-- the groups of a tiling's code have sides, all of them positive
side_groups_good : (t : Tiling) → IsTiling t → (groups : List (List Square)) → AllByRecursion (λ g. IsGroup t.squares g × AllIn t.squares g) groups
    → AreGroups (map (map (λ q. q.s)) groups)
side_groups_good t tiling [] all = tt
side_groups_good t tiling (g ∷ groups) all = ((long g all.0.0, good g all.0.1), side_groups_good t tiling groups all.1)
  where
    long : (g : List Square) → IsGroup t.squares g → 0 < length (map (λ q. q.s) g)
    long [] k = absurd (omega (arith, ap length (k.row).is))
    long (q ∷ g) k = omega arith

    good : (g : List Square) → AllIn t.squares g → AllByRecursion (λ s. 0 < s) (map (λ q. q.s) g)
    good [] all = tt
    good (q ∷ g) all = (side_of t tiling q all.0, good g all.1)

-- the flat list of a tiling's code is divided into that code
divides_tiling : (width : ℕ) (sides : List ℕ) (t : Tiling) → HasFlat width sides t → Divides width [] sides (code_of t)
divides_tiling width sides t has =
    subst (λ n. Divides n [] sides (code_of t)) has.width_is
    (subst (λ (l : List ℕ). Divides t.width [] l (code_of t)) has.flat_is
    (divides_lays t.width [] (code_of t) t.squares (side_groups_good t has.tiling (square_groups t.squares) (all_groups t has.tiling))
    (a_code_is_laid t has.tiling)))

-- no tiling has a width and a flat list that are refused
pub flat_refused_has_none : (width : ℕ) (sides : List ℕ) (refusal : Refusal) → IsFlatRefused width sides refusal → (t : Tiling) → HasFlat width sides t → ⊥
flat_refused_has_none width sides refusal refused t has = from refusal (subst (λ (c : Code). IsRefused width c refusal) same refused.refused)
  where
    same : refused.code ≡ code_of t
    same = divides_once width [] sides refused.code (code_of t) refused.divided (divides_tiling width sides t has)

    lays : LaysTo width [] (code_of t) t.squares
    lays = subst (λ n. LaysTo n [] (code_of t) t.squares) has.width_is (a_code_is_laid t has.tiling)

    from : (refusal : Refusal) → IsRefused width (code_of t) refusal → ⊥
    from (Gap number gap_width total) h = no_misfit width (code_of t) t.squares number gap_width total lays h
    from (Open least greatest) h = not_open width (code_of t) t least greatest has.tiling has.width_is lays h
