-- Dividing a flat list group by group: what each step needs and keeps, and how it ends.
use Rattle.std.specs.List.{AllByRecursion}
use Rattle.std.specs.Prelude.{IfErr, IfOk, IsOkAnd, Result}
use Rattle.std.specs.declared.result.Result.TheVariants.{Err, Ok}
use Rattle.std.proofs.Common.{List, [], ap, arith, drop, length, refl, subst, sum, sym, take, ℕ, ◌++◌, ◌+◌, ◌<◌, ◌∙◌, ◌∷◌, ◌≡◌, ◌≤◌}
use Rattle.std.proofs.lemmas.List.{append-nil, append_assoc, length-append, length-take-le, take-append-drop}
use Rattle.bk_laws.proofs.AllOfLists.{all_left, all_right}
use Rattle.bk_tiling.specs.KeptTiling.{IsSide}
use Rattle.bk_tiling.specs.Tiling.{Tiling}
use Rattle.bk_tiling.specs.declared.Segment.{Segment}
use Rattle.bk_code.proofs.FlatList.{a_flat_list_fixes_a_tiling}
use Rattle.bk_code.proofs.GroupSteps.{side_groups}
use Rattle.bk_code.proofs.Storing.{flat_more}
use Rattle.bk_code.specs.Code.{Code, flat}
use Rattle.bk_code.specs.KeptCode.{IsSideGroup}
use Rattle.bk_profile.proofs.CodeLaid.{laid_out, sum_bounds}
use Rattle.bk_profile.proofs.Division.{falls_short, flat_refused_has_none}
use Rattle.bk_profile.proofs.LayingOnce.{gap_of_none, gap_unique, lays_length, lays_push}
use Rattle.bk_profile.proofs.LayingSteps.{misfits_at}
use Rattle.bk_profile.specs.Gap.{Divides, FitsGap, IsGap, LaysTo, done, fits, laid_with_group, misfit, next_group}
use Rattle.bk_profile.specs.Laid.{IsLaidOut, IsLaidTiling, IsUneven, Laid, LaysNextGroup, MisfitsNextGroup}
use Rattle.bk_profile.specs.Refused.{HasFlat, IsFlatRefused, IsOpen}
use Rattle.bk_profile.specs.declared.laying.Refusal.{Refusal}
use Rattle.bk_profile.specs.declared.laying.Refusal.TheVariants.{Gap, Open}
use Rattle.bk_profile.specs.declared.profile.TheConstants.{WIDEST_PROFILE}

all_more : (code : Code) (group : List ℕ) → AllByRecursion IsSideGroup code → IsSideGroup group → AllByRecursion IsSideGroup (code ++ group ∷ [])
all_more [] group all one = (one, tt)
all_more (first ∷ code) group all one = (all.0, all_more code group all.1 one)

-- some groups are laid, the next one has a number, from 1, and the rest of the sides is left
pub record Dividing (width : ℕ) (sides : List ℕ) (number : ℕ) (p : Laid) (rest : List ℕ) : Type 0 where
  pub code : Code
  pub width_is : p.width ≡ width
  pub lays : LaysTo width [] code p.squares
  pub number_is : length code + 1 ≡ number
  pub flat_is : flat code ++ rest ≡ sides
  pub good : AllByRecursion IsSideGroup code
  pub goes_on : (more : Code) → Divides width p.squares rest more → Divides width [] sides (code ++ more)

module _ (width : ℕ) (sides : List ℕ) (number : ℕ) (p : Laid) (rest : List ℕ) (so_far : Dividing width sides number p rest) (few : length sides ≤ 200)
    (good : AllByRecursion IsSide sides) where
  count : length p.squares + length rest ≡ length sides
  count = omega (arith, lays_length width [] so_far.code p.squares so_far.lays, ap length so_far.flat_is, length-append (flat so_far.code) rest)

  -- the sides that are left are sides that squares may have
  pub rest_good : AllByRecursion IsSide rest
  rest_good = all_right IsSide (flat so_far.code) rest (subst (AllByRecursion IsSide) (sym so_far.flat_is) good)

  -- the number of the next group is at most one more than the sides
  pub number-at_most_one_more : number ≤ length sides + 1
  number-at_most_one_more = omega (arith, so_far.number_is, count, groups so_far.code so_far.good, lays_length width [] so_far.code p.squares so_far.lays)
    where
      groups : (code : Code) → AllByRecursion IsSideGroup code → length code ≤ length (flat code)
      groups [] all = omega arith
      groups (group ∷ code) all = omega (arith, all.0.0, groups code all.1, length-append group (flat code))

  -- the sides that are left have room beside what is laid
  pub rest_room : length p.squares + length rest ≤ 200
  rest_room = omega (arith, count, few)

  here : (gap : Segment) → IsGap p.width p.squares gap → IsGap width p.squares gap
  here gap is = subst (λ n. IsGap n p.squares gap) so_far.width_is is

  divides_fit : (rest group left : List ℕ) (gap : Segment) (code : Code) → IsGap p.width p.squares gap → 0 < length rest
      → group ≡ next_group gap.width rest → group ++ left ≡ rest → FitsGap gap group
      → Divides width (laid_with_group p.squares gap group) left code → Divides width p.squares rest (group ∷ code)
  divides_fit [] group left gap code is some next split fit more = absurd (omega arith)
  divides_fit (s ∷ rest) group left gap code is some next split fit more = fits left gap (here gap is) next fit (sym split) more

  divides_misfit : (rest : List ℕ) (gap : Segment) → IsGap p.width p.squares gap → 0 < length rest → (FitsGap gap (next_group gap.width rest) → ⊥)
      → Divides width p.squares rest (next_group gap.width rest ∷ [])
  divides_misfit [] gap is some not = absurd (omega arith)
  divides_misfit (s ∷ rest) gap is some not = misfit gap (here gap is) refl not

  -- with the next group laid, one more group is laid, and the sides behind it are left
  pub next_step : (new : Laid) (n : ℕ) (left : List ℕ) → left ≡ drop n rest → LaysNextGroup p rest n new → Dividing width sides (number + 1) new left
  next_step new n left back lay = subst (λ (q : Laid). Dividing width sides (number + 1) q left) (sym moved) (record {
    code = so_far.code ++ group ∷ [];
    width_is = so_far.width_is;
    lays = lays_push width [] so_far.code p.squares group lay.gap so_far.lays (here lay.gap lay.is_gap) fit;
    number_is = omega (arith, so_far.number_is, length-append so_far.code (group ∷ []));
    flat_is = ap (λ (l : List ℕ). l ++ left) (flat_more so_far.code group) ∙ append_assoc (flat so_far.code) group left
        ∙ ap (λ (l : List ℕ). flat so_far.code ++ l) split ∙ so_far.flat_is;
    good = all_more so_far.code group so_far.good
        (omega (arith, lay.some, length-take-le n rest lay.within), all_left IsSide group left (subst (AllByRecursion IsSide) (sym split) rest_good));
    goes_on = λ more d. subst (λ (c : Code). Divides width [] sides c) (sym (append_assoc so_far.code (group ∷ []) more))
        (so_far.goes_on (group ∷ more)
        (divides_fit rest group left lay.gap more lay.is_gap (omega (arith, lay.some, lay.within)) lay.next split fit d));
  })
    where
      group : List ℕ
      group = take n rest

      split : group ++ left ≡ rest
      split = ap (λ (l : List ℕ). group ++ l) back ∙ take-append-drop n rest

      same : (lay.lays).gap ≡ lay.gap
      same = gap_unique p.width p.squares (lay.lays).gap lay.gap (lay.lays).is_gap lay.is_gap

      fit : FitsGap lay.gap group
      fit = (lay.lays).fits ∙ ap (λ (g : Segment). g.width) same

      moved : new ≡ record { width = p.width; squares = laid_with_group p.squares lay.gap group }
      moved = (lay.lays).laid ∙ ap (λ (g : Segment). record { width = p.width; squares = laid_with_group p.squares g group }) same

  -- where the next group misfits the gap, the list is refused
  pub misfit_step : (gap_width total : ℕ) → 0 < length rest → MisfitsNextGroup p rest gap_width total
      → IsFlatRefused width sides (Gap number gap_width total)
  misfit_step gap_width total some m = record {
    code = so_far.code ++ group ∷ [];
    divided = so_far.goes_on (group ∷ [])
        (divides_misfit rest m.gap m.is_gap some (λ fit. (m.misfits).misfit (fit ∙ ap (λ (g : Segment). g.width) (sym same))));
    refused = misfits_at width (so_far.code ++ group ∷ []) so_far.code [] group number p gap_width total
        refl so_far.number_is so_far.width_is so_far.lays m.misfits;
  }
    where
      group : List ℕ
      group = next_group (m.gap).width rest

      same : (m.misfits).gap ≡ m.gap
      same = gap_unique p.width p.squares (m.misfits).gap m.gap (m.misfits).is_gap m.is_gap

-- after the last step
module _ (width : ℕ) (sides : List ℕ) (number : ℕ) (p : Laid) (rest : List ℕ) (so_far : Dividing width sides number p rest) (few : length sides ≤ 200)
    (some : 0 < length sides) (over : rest ≡ []) where
  -- after the last step the groups have all sides
  pub flat_all : flat so_far.code ≡ sides
  flat_all = sym (append-nil (flat so_far.code)) ∙ ap (λ (l : List ℕ). flat so_far.code ++ l) (sym over) ∙ so_far.flat_is

  -- groups with a side are not none
  pub groups_some : (code : Code) → 0 < length (flat code) → 0 < length code
  groups_some [] h = h
  groups_some (group ∷ code) h = omega arith

  -- after the last step all groups are laid
  abbrev pub is_laid_out : IsLaidOut p
  is_laid_out = record {
    code = so_far.code;
    kept = record { groups = so_far.good; few = omega (arith, few, ap length flat_all) };
    some = groups_some so_far.code (omega (arith, some, ap length flat_all));
    lays = subst (λ n. LaysTo n [] so_far.code p.squares) (sym so_far.width_is) so_far.lays;
  }

  divided : Divides width [] sides so_far.code
  divided =
      subst (λ (c : Code). Divides width [] sides c) (append-nil so_far.code)
      (so_far.goes_on [] (subst (λ (l : List ℕ). Divides width p.squares l []) (sym over) done))

  has_flat : (t : Tiling) → IsLaidTiling p t → HasFlat width sides t
  has_flat t is = record {
    tiling = is.tiling;
    width_is = is.width_is ∙ so_far.width_is;
    flat_is = ap flat (ap side_groups is.squares_are ∙ (laid_out p is_laid_out).groups) ∙ flat_all;
  }

  open_refused : (refusal : Refusal) → IsOpen p refusal → IsFlatRefused width sides refusal
  open_refused (Gap number gap_width total) h = absurd h
  open_refused (Open least greatest) h = record {
    code = so_far.code;
    divided = divided;
    refused =
        record {
          laid = p.squares;
          lays = so_far.lays;
          uneven =
              subst (λ n. IsUneven (record { width = n; squares = p.squares }) least greatest) so_far.width_is h;
        };
  }

  -- where what is laid is a tiling, it has the width and the flat list
  pub ends_ok : (r : Result Tiling Refusal) → IfOk r (IsLaidTiling p) → IfOk r (HasFlat width sides)
  ends_ok (Ok t) is = has_flat t is
  ends_ok (Err e) is = tt

  -- where what is laid is open, the flat list is refused
  pub ends_refused : (r : Result Tiling Refusal) → IfErr r (IsOpen p) → IfErr r (IsFlatRefused width sides)
  ends_refused (Ok t) h = tt
  ends_refused (Err e) h = open_refused e h

  -- a tiling with the width and the flat list is what is laid
  pub ends_only : (r : Result Tiling Refusal) → IfOk r (IsLaidTiling p) → IfErr r (IsOpen p) → (t : Tiling) → HasFlat width sides t → IsOkAnd r (λ u. u ≡ t)
  ends_only (Ok u) is h t has =
      a_flat_list_fixes_a_tiling u t is.tiling has.tiling ((has_flat u is).width_is ∙ sym has.width_is) ((has_flat u is).flat_is ∙ sym has.flat_is)
  ends_only (Err e) is h t has = absurd (flat_refused_has_none width sides e (open_refused e h) t has)

abbrev whole_gap : ℕ → Segment
whole_gap width = record { x = 0; width = width; level = 0 }

-- a width that no sum of sides reaches
pub too_wide : (width total : ℕ) (sides : List ℕ) → 0 < length sides → length sides ≤ 200 → AllByRecursion IsSide sides
    → WIDEST_PROFILE < width
    → total ≡ sum sides → IsFlatRefused width sides (Gap 1 width total)
too_wide width total [] some few good wide is = absurd (omega arith)
too_wide width total (s ∷ sides) some few good wide is = record {
  code = (s ∷ sides) ∷ [];
  divided = misfit (whole_gap width) (gap_of_none width (omega (arith, wide))) (sym (falls_short width (s ∷ sides) short)) not;
  refused = record {
    before = [];
    group = s ∷ sides;
    after = [];
    split = refl;
    place = refl;
    laid = [];
    lays = refl;
    gap = whole_gap width;
    is_gap = gap_of_none width (omega (arith, wide));
    gap_is = refl;
    total_is = sym is;
    misfit = not;
  };
}
  where
    short : sum (s ∷ sides) < width
    short = omega (arith, (sum_bounds (s ∷ sides) good).0, few, wide)

    not : FitsGap (whole_gap width) (s ∷ sides) → ⊥
    not e = omega (arith, short, e)
