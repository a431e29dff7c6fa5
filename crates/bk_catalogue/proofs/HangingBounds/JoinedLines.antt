-- The bound with lines, where segments are joined at even signs or stand in front: it doesn't fall.
use Rattle.std.specs.List.{list_any}
use Rattle.std.proofs.Common.{Bool, List, [], arith, cond, false, filter, length, refl, true, ℕ, ◌||◌, ◌++◌, ◌+◌, ◌∷◌, ◌≡◌, ◌≤◌}
use Rattle.std.proofs.lemmas.Bool.{or_left}
use Rattle.bk_laws.proofs.AllOfLists.{list_any-append_left, list_any-append_right}
use Rattle.bk_laws.proofs.TestsAsNumbers.{cond_count-le_of_implies}
use Rattle.bk_laws.proofs.Truth.{or-monotone}
use Rattle.bk_word.specs.Play.{before_first_list, joined, parts}
use Rattle.bk_word.specs.declared.Sign.{Sign}
use Rattle.bk_word.specs.declared.Sign.TheVariants.{Above, Even, Under}
use Rattle.bk_catalogue.proofs.HangingBounds.ClosingLaws.{unders, unders-cons, unders-parts}
use Rattle.bk_catalogue.specs.VerticalCut.{begins_on_line, line_bound, next_on_line, on_line, touched}

-- the bound of segments
abbrev pub bound : List Bool → List Sign → List (List ℕ) → ℕ
bound lines signs segments = line_bound signs (touched lines segments)

any_first : (lines : List Bool) (s : List ℕ) → begins_on_line lines s ≡ true → list_any (on_line lines) s ≡ true
any_first lines [] e = absurd (cc)
any_first lines (q ∷ s) e = or_left (on_line lines q) (list_any (on_line lines) s) e

-- the bound with lines is at least the number of signs under
pub bound_unders : (lines : List Bool) (signs : List Sign) (s : List ℕ) (segments : List (List ℕ)) → unders signs ≤ bound lines signs (s ∷ segments)
bound_unders lines [] s segments = omega arith
bound_unders lines (g ∷ signs) s segments = omega arith

-- ---- segments that the sign even joins

begins-append : (lines : List Bool) (s t : List ℕ) → begins_on_line lines s ≡ true → begins_on_line lines (s ++ t) ≡ true
begins-append lines [] t e = absurd (cc)
begins-append lines (q ∷ s) t e = e

next_joined : (lines : List Bool) (signs : List Sign) (segments : List (List ℕ)) → next_on_line lines segments ≡ true
    → next_on_line lines (joined signs segments) ≡ true
next_joined lines signs [] e = absurd (cc)
next_joined lines [] (s ∷ segments) e = e
next_joined lines (Above ∷ signs) (s ∷ segments) e = e
next_joined lines (Under ∷ signs) (s ∷ segments) e = e
next_joined lines (Even ∷ signs) (s ∷ segments) e = before (joined signs segments)
  where
    before : (rest : List (List ℕ)) → next_on_line lines (before_first_list s rest) ≡ true
    before [] = e
    before (t ∷ rest) = begins-append lines s t e

-- a segment that grows at its left is touched as well as before, and as well as what it grows by
grown_rest : (lines : List Bool) (signs : List Sign) (s : List ℕ) (segments : List (List ℕ))
    → bound lines signs segments ≤ bound lines signs (before_first_list s segments)
grown_rest lines signs s [] = omega arith
grown_rest lines [] s (t ∷ segments) = cond_count-le_of_implies (list_any (on_line lines) t || next_on_line lines segments)
    (list_any (on_line lines) (s ++ t) || next_on_line lines segments)
    (or-monotone (list_any (on_line lines) t) (next_on_line lines segments) (list_any (on_line lines) (s ++ t)) (next_on_line lines segments)
    (list_any-append_right (on_line lines) s t) (λ e. e))
grown_rest lines (g ∷ signs) s (t ∷ segments) = omega (
  arith,
  cond_count-le_of_implies (list_any (on_line lines) t || next_on_line lines segments) (list_any (on_line lines) (s ++ t) || next_on_line lines segments)
      (or-monotone (list_any (on_line lines) t) (next_on_line lines segments) (list_any (on_line lines) (s ++ t)) (next_on_line lines segments)
      (list_any-append_right (on_line lines) s t) (λ e. e)),
)

grown_mark : (lines : List Bool) (s t : List ℕ) (segments : List (List ℕ))
    → ◌≤◌ (cond {A = ℕ} (list_any (on_line lines) s || begins_on_line lines t) 1 0)
    (cond {A = ℕ} (list_any (on_line lines) (s ++ t) || next_on_line lines segments) 1 0)
grown_mark lines s t segments =
    cond_count-le_of_implies (list_any (on_line lines) s || begins_on_line lines t) (list_any (on_line lines) (s ++ t) || next_on_line lines segments)
    (λ e. or_left (list_any (on_line lines) (s ++ t)) (next_on_line lines segments)
    (either (list_any (on_line lines) s) (begins_on_line lines t) (list_any-append_left (on_line lines) s t)
    (λ f. list_any-append_right (on_line lines) s t (any_first lines t f)) e))
  where
    either : {P : Type 0} (a b : Bool) → (a ≡ true → P) → (b ≡ true → P) → (a || b) ≡ true → P
    either true b f g e = f refl
    either false b f g e = g e

grown_first : (lines : List Bool) (signs : List Sign) (s : List ℕ) (segments : List (List ℕ))
    → unders signs + cond {A = ℕ} (list_any (on_line lines) s || next_on_line lines segments) 1 0 ≤ bound lines signs (before_first_list s segments)
grown_first lines [] s [] = omega arith
grown_first lines (g ∷ signs) s [] = omega arith
grown_first lines [] s (t ∷ segments) = omega (arith, grown_mark lines s t segments)
grown_first lines (g ∷ signs) s (t ∷ segments) = omega (arith, grown_mark lines s t segments)

-- where segments behind a segment are joined, it keeps its mark
mark_joined : (lines : List Bool) (signs : List Sign) (s : List ℕ) (segments : List (List ℕ))
    → cond {A = ℕ} (list_any (on_line lines) s || next_on_line lines segments) 1 0
    ≤ cond (list_any (on_line lines) s || next_on_line lines (joined signs segments)) 1 0
mark_joined lines signs s segments = cond_count-le_of_implies (list_any (on_line lines) s || next_on_line lines segments)
    (list_any (on_line lines) s || next_on_line lines (joined signs segments))
    (or-monotone (list_any (on_line lines) s) (next_on_line lines segments) (list_any (on_line lines) s)
    (next_on_line lines (joined signs segments)) (λ e. e) (next_joined lines signs segments))

-- where joining segments doesn't lower the bound, it doesn't behind a further segment and any sign
joined_behind : (lines : List Bool) (x : Sign) (signs : List Sign) (s : List ℕ) (segments : List (List ℕ))
    → bound lines signs segments ≤ bound lines (filter parts signs) (joined signs segments)
    → bound lines (x ∷ signs) (s ∷ segments) ≤ bound lines (x ∷ filter parts signs) (s ∷ joined signs segments)
joined_behind lines x signs s segments rest = omega (
  arith,
  rest,
  unders-parts signs,
  unders-cons x signs,
  unders-cons x (filter parts signs),
  mark_joined lines signs s segments,
)

-- joining segments at even signs doesn't lower it
pub joined_bound : (lines : List Bool) (signs : List Sign) (segments : List (List ℕ))
    → bound lines signs segments ≤ bound lines (filter parts signs) (joined signs segments)
joined_bound lines signs [] = omega arith
joined_bound lines [] (s ∷ segments) = omega arith
joined_bound lines (Above ∷ signs) (s ∷ segments) = joined_behind lines Above signs s segments (joined_bound lines signs segments)
joined_bound lines (Under ∷ signs) (s ∷ segments) = joined_behind lines Under signs s segments (joined_bound lines signs segments)
joined_bound lines (Even ∷ signs) (s ∷ segments) = omega (
  arith,
  joined_bound lines signs segments,
  unders-parts signs,
  unders-cons Even signs,
  grown_first lines (filter parts signs) s (joined signs segments),
  grown_rest lines (filter parts signs) s (joined signs segments),
  mark_joined lines signs s segments,
)

-- what stands in front makes the bound no smaller
pub behind_bound : (lines : List Bool) (xs ys : List Sign) (ss ts : List (List ℕ)) → length xs ≡ length ss → bound lines ys ts ≤ bound lines (xs ++ ys) (ss
    ++ ts)
behind_bound lines [] ys [] ts e = omega arith
behind_bound lines [] ys (s ∷ ss) ts e = absurd (omega arith)
behind_bound lines (x ∷ xs) ys [] ts e = absurd (omega arith)
behind_bound lines (x ∷ xs) ys (s ∷ ss) ts e = omega (arith, behind_bound lines xs ys ss ts (omega arith))
