-- The bound with lines: a move lowers it by at most 1, and it is the greatest number of closings, with marks.
use Rattle.std.specs.List.{list_any}
use Rattle.std.proofs.Common.{Bool, List, [], ap, arith, cond, drop, false, inl, inr, length, slice_index_or, suc, take, true, zero, ℕ, ◌||◌, ◌++◌}
use Rattle.std.proofs.Common.{◌+◌, ◌<◌, ◌∷◌, ◌≡◌, ◌≤◌, ◌⊎◌}
use Rattle.std.proofs.lemmas.List.Sums.{sum_by-take-drop}
use Rattle.std.proofs.lemmas.Bool.{cases_lt}
use Rattle.bk_laws.proofs.TestsAsNumbers.{cond_count-le_of_implies, cond_count-le_one}
use Rattle.bk_laws.proofs.Truth.{or-monotone}
use Rattle.bk_word.specs.Signs.{is_above, is_under}
use Rattle.bk_word.specs.declared.Sign.{Sign}
use Rattle.bk_word.specs.declared.Sign.TheVariants.{Above}
use Rattle.bk_catalogue.proofs.HangingBounds.ClosingLaws.{unders, unders-append, unders-cons}
use Rattle.bk_catalogue.proofs.HangingBounds.MostClosings.{closings-first, closings-next}
use Rattle.bk_catalogue.specs.ClosingBound.{closings}
use Rattle.bk_catalogue.specs.VerticalCut.{IsMostMarked, TheLineBoundIsMost, begins_on_line, line_bound, next_on_line, on_line}
use Rattle.bk_catalogue.proofs.HangingBounds.JoinedLines.{behind_bound, bound, bound_unders}

-- ---- a move, on lists

module _ (lines later : List Bool) (keeps : (q : ℕ) → on_line lines q ≡ true → on_line later q ≡ true) where
  -- where each square on a line stays on one, so do segments: one with a square on a line, one that begins on one, the next one
  pub any_more : (s : List ℕ) → list_any (on_line lines) s ≡ true → list_any (on_line later) s ≡ true
  any_more [] e = absurd (cc)
  any_more (q ∷ s) e = or-monotone (on_line lines q) (list_any (on_line lines) s) (on_line later q) (list_any (on_line later) s) (keeps q) (any_more s) e

  -- a segment that begins on a line begins on one when more lines are said
  pub begins_more : (s : List ℕ) → begins_on_line lines s ≡ true → begins_on_line later s ≡ true
  begins_more [] e = absurd (cc)
  begins_more (q ∷ s) e = keeps q e

  -- a list whose first segment begins on a line does so when more lines are said
  pub next_more : (segments : List (List ℕ)) → next_on_line lines segments ≡ true → next_on_line later segments ≡ true
  next_more [] e = absurd (cc)
  next_more (s ∷ segments) e = begins_more s e

  mark_more : (s : List ℕ) (b d : Bool) → (b ≡ true → d ≡ true)
      → ◌≤◌ (cond {A = ℕ} (list_any (on_line lines) s || b) 1 0) (cond {A = ℕ} (list_any (on_line later) s || d) 1 0)
  mark_more s b d f = cond_count-le_of_implies (list_any (on_line lines) s || b) (list_any (on_line later) s || d)
      (or-monotone (list_any (on_line lines) s) b (list_any (on_line later) s) d (any_more s) f)

  -- the bound with lines doesn't fall when more lines are said
  pub bound_more : (signs : List Sign) (segments : List (List ℕ)) → bound lines signs segments ≤ bound later signs segments
  bound_more signs [] = omega arith
  bound_more [] (s ∷ segments) = mark_more s (next_on_line lines segments) (next_on_line later segments) (next_more segments)
  bound_more (g ∷ signs) (s ∷ segments) = omega
      (arith, mark_more s (next_on_line lines segments) (next_on_line later segments) (next_more segments), bound_more signs segments)

  -- from the valley on
  pub from_valley : (signs : List Sign) (v : List ℕ) (rest : List (List ℕ)) (ms back : List Sign) (news : List (List ℕ))
      → (signs ≡ []) ⊎ ((signs ≡ Above ∷ back) × (length ms ≡ length news) × (length rest ≡ suc (length back)))
      → bound lines signs (v ∷ rest) ≤ 1 + bound later (ms ++ back) (news ++ rest)
  from_valley signs v rest ms back news (inl e) =
      omega (arith, ap (λ (ss : List Sign). bound lines ss (v ∷ rest)) e, cond_count-le_one (list_any (on_line lines) v || next_on_line lines rest))
  from_valley signs v [] ms back news (inr h) = absurd (omega (arith, h.2))
  from_valley signs v (r ∷ rest) ms back news (inr h) = omega (
    arith,
    ap (λ (ss : List Sign). bound lines ss (v ∷ r ∷ rest)) h.0,
    cond_count-le_one (list_any (on_line lines) v || begins_on_line lines r),
    unders-cons Above back,
    bound_unders lines back r rest,
    bound_more back (r ∷ rest),
    behind_bound later ms back news (r ∷ rest) h.1,
  )

  -- from the last segment in front of it on
  pub from_last : (g : Sign) (signs : List Sign) (s v : List ℕ) (rest : List (List ℕ)) (ms back : List Sign) (news : List (List ℕ))
      → is_above g ≡ false → 0 < length ms
      → (begins_on_line lines v ≡ true → next_on_line later (news ++ rest) ≡ true)
      → ((signs ≡ []) × (back ≡ [])) ⊎ ((signs ≡ Above ∷ back) × (length ms ≡ suc (length news)) × (length rest ≡ suc (length back)))
      → (unders (g ∷ signs) ≤ 1 + unders (ms ++ back)) × (bound lines (g ∷ signs) (s ∷ v ∷ rest) ≤ 1 + bound later (ms ++ back) (s ∷ (news ++ rest)))
  from_last g signs s v rest [] back news low some first either = absurd (omega arith)
  from_last g signs s v rest (l ∷ ms) back news low some first either = (
    omega (arith, few),
    omega (
      arith,
      few,
      valley either,
      mark_more s (begins_on_line lines v) (next_on_line later (news ++ rest)) first,
      ap (λ (b : Bool). cond {A = ℕ} b 1 0) low,
    ),
  )
    where
      few_behind : ((signs ≡ []) × (back ≡ []))
          ⊎ ((signs ≡ Above ∷ back) × (length (l ∷ ms) ≡ suc (length news)) × (length rest ≡ suc (length back))) → unders signs ≤ unders back
      few_behind (inl h) = omega (arith, ap unders h.0)
      few_behind (inr h) = omega (arith, ap unders h.0, unders-cons Above back)

      few : unders (g ∷ signs) ≤ 1 + unders ((l ∷ ms) ++ back)
      few = omega (arith, few_behind either, unders-cons g signs, cond_count-le_one (is_under g), unders-append (l ∷ ms) back)

      valley : ((signs ≡ []) × (back ≡ [])) ⊎ ((signs ≡ Above ∷ back) × (length (l ∷ ms) ≡ suc (length news))
          × (length rest ≡ suc (length back))) → bound lines signs (v ∷ rest) ≤ 1 + bound later (ms ++ back) (news ++ rest)
      valley (inl h) = from_valley signs v rest ms back news (inl h.0)
      valley (inr h) = from_valley signs v rest ms back news (inr (h.0, omega (arith, h.1), h.2))

  next_in_front : (j : ℕ) (segments : List (List ℕ)) (rest : List (List ℕ)) → next_on_line lines segments ≡ true
      → next_on_line later (take j segments ++ slice_index_or segments j [] ∷ rest) ≡ true
  next_in_front j [] rest e = absurd (cc)
  next_in_front zero (s ∷ segments) rest e = begins_more s e
  next_in_front (suc j) (s ∷ segments) rest e = begins_more s e

  -- if the bound from a segment on is lowered by at most one, so is that from the first segment on
  pub from_first : (j : ℕ) (signs : List Sign) (segments : List (List ℕ)) (ns : List Sign) (rest : List (List ℕ)) → j < length signs
      → length segments ≡ length signs + 1
      → unders (drop j signs) ≤ 1 + unders ns → bound lines (drop j signs) (drop j segments) ≤ 1 + bound later ns (slice_index_or segments j [] ∷ rest)
      → bound lines signs segments ≤ 1 + bound later (take j signs ++ ns) (take j segments ++ slice_index_or segments j [] ∷ rest)
  from_first j [] segments ns rest h e few least = absurd (omega arith)
  from_first j (g ∷ signs) [] ns rest h e few least = absurd (omega arith)
  from_first zero (g ∷ signs) (s ∷ segments) ns rest h e few least = least
  from_first (suc j) (g ∷ signs) (s ∷ segments) ns rest h e few least = omega (
    arith,
    from_first j signs segments ns rest (omega arith) (omega arith) few least,
    few,
    sum_by-take-drop (λ (x : Sign). cond {A = ℕ} (is_under x) 1 0) signs j,
    unders-append (take j signs) ns,
    unders-cons g signs,
    unders-cons g (take j signs ++ ns),
    mark_more s (next_on_line lines segments) (next_on_line later (take j segments ++ slice_index_or segments j [] ∷ rest)) (next_in_front j segments rest),
  )

-- ---- it is the greatest number of closings, with marks

first_marked : (signs : List Sign) (mark : Bool) (marks : List Bool) → closings signs 0 + cond {A = ℕ} mark 1 0 ≤ line_bound signs (mark ∷ marks)
first_marked [] mark marks = omega (arith, closings-first [])
first_marked (g ∷ signs) mark marks = omega (arith, closings-first (g ∷ signs))

most_marked : (signs : List Sign) (marks : List Bool) → length marks ≡ length signs + 1 → (i : ℕ) → i < length marks
    → closings signs i + cond {A = ℕ} (slice_index_or marks i false) 1 0 ≤ line_bound signs marks
most_marked signs [] e i h = absurd (omega arith)
most_marked signs (mark ∷ marks) e zero h = first_marked signs mark marks
most_marked [] (mark ∷ marks) e (suc i) h = absurd (omega arith)
most_marked (g ∷ signs) (mark ∷ marks) e (suc i) h = omega (arith, closings-next g signs i, most_marked signs marks (omega arith) i (omega arith))

-- the law: by the segments from the second on
pub the_line_bound_is_most : TheLineBoundIsMost
the_line_bound_is_most signs [] e = absurd (omega arith)
the_line_bound_is_most [] (mark ∷ []) e = record {
  most = most_marked [] (mark ∷ []) e;
  place = 0;
  within = omega arith;
  met =
      omega (arith, closings-first []);
}
the_line_bound_is_most [] (mark ∷ next ∷ marks) e = absurd (omega arith)
the_line_bound_is_most (g ∷ signs) (mark ∷ marks) e =
    cases (the_line_bound_is_most signs marks (omega arith))
    (cases_lt (unders (g ∷ signs) + cond {A = ℕ} mark 1 0) (cond {A = ℕ} (is_above g) 1 0 + line_bound signs marks))
  where
    cases : IsMostMarked signs marks (line_bound signs marks)
        → (unders (g ∷ signs) + cond {A = ℕ} mark 1 0 < cond {A = ℕ} (is_above g) 1 0 + line_bound signs marks)
        ⊎ (cond {A = ℕ} (is_above g) 1 0 + line_bound signs marks ≤ unders (g ∷ signs) + cond {A = ℕ} mark 1 0)
        → IsMostMarked (g ∷ signs) (mark ∷ marks) (line_bound (g ∷ signs) (mark ∷ marks))
    cases m (inl h) = record {
      most = most_marked (g ∷ signs) (mark ∷ marks) e;
      place = suc m.place;
      within = omega (arith, m.within);
      met =
          omega (arith, h, closings-next g signs m.place, m.met);
    }
    cases m (inr h) = record {
      most = most_marked (g ∷ signs) (mark ∷ marks) e;
      place = 0;
      within = omega arith;
      met =
          omega (arith, h, closings-first (g ∷ signs));
    }
