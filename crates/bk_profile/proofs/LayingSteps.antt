-- Laying a code group by group: what each step needs and keeps, and how it ends.
use Rattle.std.specs.Prelude.{IfErr, IfOk, IsOkAnd, Result}
use Rattle.std.specs.declared.result.Result.TheVariants.{Err, Ok}
use Rattle.std.proofs.Common.{List, [], ap, arith, drop, get_or, length, refl, subst, sum, sym, take, ℕ, ◌++◌, ◌+◌, ◌<◌, ◌∙◌, ◌∷◌, ◌≡◌, ◌≤◌}
use Rattle.std.proofs.lemmas.List.{append_assoc, drop_more, length-append, length-take-le, take-append-drop, take_all, take_more}
use Rattle.bk_tiling.proofs.NextCorner.{same_tiling}
use Rattle.bk_tiling.specs.Tiling.{Tiling}
use Rattle.bk_code.proofs.GroupSteps.{side_groups}
use Rattle.bk_code.specs.Code.{Code, flat}
use Rattle.bk_code.specs.KeptCode.{IsKeptCode}
use Rattle.bk_profile.proofs.CodeLaid.{laid_out, lays_code, no_misfit, not_open, width_is}
use Rattle.bk_profile.proofs.LayingOnce.{lays_length, lays_push, lays_unique}
use Rattle.bk_profile.specs.Gap.{IsGap, LaysTo, laid_with_group}
use Rattle.bk_profile.specs.Laid.{IsLaidOut, IsLaidTiling, IsUneven, Laid, LaysGroup, MisfitsGap}
use Rattle.bk_profile.specs.Refused.{HasCode, IsOpen, IsRefused, Misfits, first_sum}
use Rattle.bk_profile.specs.declared.laying.Refusal.{Refusal}
use Rattle.bk_profile.specs.declared.laying.Refusal.TheVariants.{Gap, Open}

flat_append : (code more : Code) → flat (code ++ more) ≡ flat code ++ flat more
flat_append [] more = refl
flat_append (group ∷ code) more = ap (λ (l : List ℕ). group ++ l) (flat_append code more) ∙ sym (append_assoc group (flat code) (flat more))

-- the groups up to one, that one, and those after it
split_at : (code : Code) (k : ℕ) → k < length code → code ≡ take k code ++ get_or code k [] ∷ drop (k + 1) code
split_at code k l = sym (take-append-drop k code) ∙ ap (λ (c : Code). take k code ++ c) (drop_more code k [] l)

-- the next group has room among 200 sides
pub read_room : (code : Code) (k : ℕ) (group : List ℕ) (n : ℕ) → IsKeptCode code → k < length code → group ≡ get_or code k []
    → n ≡ length (flat (take k code)) → n + length group ≤ 200
read_room code k group n kept l is count =
    omega (
      arith,
      kept.few,
      count,
      ap length is,
      ap (λ (c : Code). length (flat c)) (split_at code k l),
      ap length (flat_append (take k code) (get_or code k [] ∷ drop (k + 1) code)),
      length-append (flat (take k code)) (get_or code k [] ++ flat (drop (k + 1) code)),
      length-append (get_or code k []) (flat (drop (k + 1) code)),
    )

-- the sum of the first group is the width
pub first_read : (code : Code) (group : List ℕ) (n : ℕ) → 0 < length code → group ≡ get_or code 0 [] → n ≡ sum group → n ≡ first_sum code
first_read [] group n some is e = absurd (omega arith)
first_read (first ∷ code) group n some is e = e ∙ ap (λ (l : List ℕ). sum l) is

-- the first k groups are laid
pub record FirstLaid (code : Code) (k : ℕ) (p : Laid) : Type 0 where
  pub width : p.width ≡ first_sum code
  pub lays : LaysTo (first_sum code) [] (take k code) p.squares
  pub count : length p.squares ≡ length (flat (take k code))

-- with a group laid, one more of the code is laid
pub next_step : (code : Code) (k : ℕ) (group : List ℕ) (old new : Laid) → FirstLaid code k old → k < length code → group ≡ get_or code k []
    → LaysGroup old group new → FirstLaid code (k + 1) new
next_step code k group old new so_far l is lay =
    let more : take (k + 1) code ≡ take k code ++ group ∷ [] = take_more code k [] l ∙ ap (λ (g : List ℕ). take k code ++ g ∷ []) (sym is) in
    let gap : IsGap (first_sum code) old.squares lay.gap = subst (λ n. IsGap n old.squares lay.gap) so_far.width lay.is_gap in
    let lays : LaysTo (first_sum code) [] (take k code ++ group ∷ []) (laid_with_group old.squares lay.gap group) =
    lays_push (first_sum code) [] (take k code) old.squares group lay.gap so_far.lays gap lay.fits in
    subst (λ (q : Laid). FirstLaid code (k + 1) q) (sym lay.laid)
    (record {
      width = so_far.width;
      lays = subst (λ (c : Code). LaysTo (first_sum code) [] c (laid_with_group old.squares lay.gap group)) (sym more) lays;
      count = omega (
        arith,
        lays_length (first_sum code) [] (take k code ++ group ∷ []) (laid_with_group old.squares lay.gap group) lays,
        ap
            (λ (c : Code). length (flat c)) more,
      );
    })

-- a code misfits where its groups before one are laid, and that one misfits the gap
pub misfits_at : (width : ℕ) (code before after : Code) (group : List ℕ) (number : ℕ) (p : Laid) (gap_width total : ℕ)
    → code ≡ before ++ group ∷ after → length before + 1 ≡ number → p.width ≡ width → LaysTo width [] before p.squares
    → MisfitsGap p group gap_width total → Misfits width code number gap_width total
misfits_at width code before after group number p gap_width total split place same lays m = record {
  before = before;
  group = group;
  after = after;
  split = split;
  place = place;
  laid = p.squares;
  lays = lays;
  gap = m.gap;
  is_gap = subst (λ n. IsGap n p.squares m.gap) same m.is_gap;
  gap_is = m.width;
  total_is = m.total_is;
  misfit = m.misfit;
}

-- a group that misfits the gap is where the code misfits
pub misfit_step : (code : Code) (k : ℕ) (group : List ℕ) (old : Laid) (gap_width total : ℕ) → FirstLaid code k old → k < length code
    → group ≡ get_or code k [] → MisfitsGap old group gap_width total → Misfits (first_sum code) code (k + 1) gap_width total
misfit_step code k group old gap_width total so_far l is =
    misfits_at (first_sum code) code (take k code) (drop (k + 1) code) group (k + 1) old gap_width total
    (split_at code k l ∙ ap (λ (g : List ℕ). take k code ++ g ∷ drop (k + 1) code) (sym is)) (omega (arith, length-take-le k code (omega (arith, l))))
    so_far.width so_far.lays

-- no tiling has a code that is refused
pub refused_has_none : (code : Code) (refusal : Refusal) → 0 < length code → IsRefused (first_sum code) code refusal → (t : Tiling) → HasCode code t → ⊥
refused_has_none code (Gap number gap_width total) some refused t has =
    no_misfit (first_sum code) code t.squares number gap_width total (lays_code code t has some) refused
refused_has_none code (Open least greatest) some refused t has =
    not_open (first_sum code) code t least greatest has.tiling (sym (width_is code t has some)) (lays_code code t has some) refused

-- after the last step
module _ (code : Code) (k : ℕ) (p : Laid) (kept : IsKeptCode code) (some : 0 < length code) (so_far : FirstLaid code k p) (all : length code ≤ k) where
  -- after the last step the code lays what is laid
  pub lays : LaysTo (first_sum code) [] code p.squares
  lays = subst (λ (c : Code). LaysTo (first_sum code) [] c p.squares) (take_all k code all) so_far.lays

  -- after the last step all groups of the code are laid
  abbrev pub is_laid_out : IsLaidOut p
  is_laid_out = record { code = code; kept = kept; some = some; lays = subst (λ n. LaysTo n [] code p.squares) (sym so_far.width) lays }

  groups : side_groups p.squares ≡ code
  groups = (laid_out p is_laid_out).groups

  has_code : (t : Tiling) → IsLaidTiling p t → HasCode code t
  has_code t is = record { tiling = is.tiling; code_is = ap side_groups is.squares_are ∙ groups }

  -- where what is laid is open, the code is refused
  pub open_refused : (refusal : Refusal) → IsOpen p refusal → IsRefused (first_sum code) code refusal
  open_refused (Gap number gap_width total) h = absurd h
  open_refused (Open least greatest) h =
      record { laid = p.squares; lays = lays; uneven = subst (λ (n : ℕ). IsUneven (record { width = n; squares = p.squares }) least greatest) so_far.width h }

  the_one : (t u : Tiling) → IsLaidTiling p t → HasCode code u → t ≡ u
  the_one t u is has = same_tiling t u is.tiling has.tiling (is.width_is ∙ so_far.width ∙ width_is code u has some)
      (is.squares_are ∙ lays_unique (first_sum code) [] code p.squares u.squares lays (lays_code code u has some))

  -- where what is laid is a tiling, it has the code
  pub ends_ok : (r : Result Tiling Refusal) → IfOk r (IsLaidTiling p) → IfOk r (HasCode code)
  ends_ok (Ok t) is = has_code t is
  ends_ok (Err e) is = tt

  -- a tiling with the code is what is laid
  pub ends_only : (r : Result Tiling Refusal) → IfOk r (IsLaidTiling p) → IfErr r (IsOpen p) → (t : Tiling) → HasCode code t → IsOkAnd r (λ u. u ≡ t)
  ends_only (Ok u) is h t has = the_one u t is has
  ends_only (Err e) is h t has = absurd (refused_has_none code e some (open_refused e h) t has)
