-- Moves of both sweeps: the next one is the same in both, or its signs drop where it lays p.
use Rattle.std.proofs.Common.{List, ap, arith, length, map, refl, subst, sym, ℕ, ◌++◌, ◌+◌, ◌<◌, ◌∙◌, ◌∷◌, ◌≡◌}
use Rattle.bk_laws.proofs.ListPlaces.{head_same, tail_same}
use Rattle.bk_laws.proofs.Occurrences.{times, times-head_differs, times_in, times_in-append}
use Rattle.bk_laws.proofs.TestsAsNumbers.{cond_count-nat_eq_same}
use Rattle.bk_word_net.proofs.Outlines.ValleyCut.{AtValley}
use Rattle.bk_word.specs.Outline.{Outline}
use Rattle.bk_layout.proofs.Sweeps.Chains.{Chain, singles}
use Rattle.bk_layout.proofs.Lists.SquareLists.{lists_at, sq_of, times_singles}
use Rattle.bk_layout.proofs.Sweeps.Sweep.{State, ValleyAt, valley_at}
use Rattle.bk_layout.proofs.Sweeps.SweepSteps.{move}
use Rattle.bk_layout.proofs.Sweeps.WholeRuns.{Hung, hung_from}
use Rattle.bk_layout.proofs.Sweeps.MoveChain.{apart_of, many_marks, marks_chain}
use Rattle.bk_layout.proofs.Lists.Drops.{Drops, drops_before, drops_behind, same_before, same_behind}
use Rattle.bk_layout.specs.Layout.{Fits, Layout}
use Rattle.bk_layout.proofs.Lists.Pieces.{times_tail}
use Rattle.bk_layout.specs.Reversal.{CanReverse, reversed}
use Rattle.bk_layout.proofs.Reversals.ReversedLists.{around}
use Rattle.bk_layout.proofs.Reversals.ReversedFits.{dropped_signs, fits_then, same_signs}

-- how often a square stands among the open ones
module _ (l : Layout) (o : Outline) (st : State l o) (c : AtValley o) (at : ValleyAt l o st.laid c) where
  -- before the move, in parts
  open_then : (x : ℕ) → times_in x (lists_at st.laid o.segments)
      ≡ times_in x (lists_at st.laid c.before)
      + (times_in x (lists_at st.laid c.left)
      + (times x (at.q ∷ at.qs) + (times_in x (lists_at st.laid c.right) + times_in x (lists_at st.laid c.after))))
  open_then x = ap (times_in x) at.cut ∙ omega (
    arith,
    times_in-append x (lists_at st.laid c.before) (lists_at st.laid c.left ++ ((at.q ∷ at.qs) ∷ (lists_at st.laid c.right ++ lists_at st.laid c.after))),
    times_in-append x (lists_at st.laid c.left) ((at.q ∷ at.qs) ∷ (lists_at st.laid c.right ++ lists_at st.laid c.after)),
    times_in-append x (lists_at st.laid c.right) (lists_at st.laid c.after),
  )

  -- with the new squares in place of the valley, the times of a square, counted in parts
  apart_times : (first : ℕ) (more : List ℕ) (x : ℕ) → times_in x (apart_of st.laid o c first more)
      ≡ times_in x (lists_at st.laid c.before)
      + (times_in x (lists_at st.laid c.left)
      + (times x (first ∷ more) + (times_in x (lists_at st.laid c.right) + times_in x (lists_at st.laid c.after))))
  apart_times first more x = omega (
    arith,
    times_in-append x (lists_at st.laid c.before)
        (lists_at st.laid c.left ++ (singles (first ∷ more) ++ (lists_at st.laid c.right ++ lists_at st.laid c.after))),
    times_in-append x (lists_at st.laid c.left) (singles (first ∷ more) ++ (lists_at st.laid c.right ++ lists_at st.laid c.after)),
    times_in-append x (singles (first ∷ more)) (lists_at st.laid c.right ++ lists_at st.laid c.after),
    times_in-append x (lists_at st.laid c.right) (lists_at st.laid c.after),
    times_singles x (first ∷ more),
  )

module _ (l : Layout) (fits : Fits l) (q p r : ℕ) (can : CanReverse l q p r) where
  abbrev m : Layout
  m = reversed l q p r

  -- the next move of both sweeps
  pub record MovesBoth (o : Outline) (st : State l o) (both : State m o) (c : AtValley o) (at : ValleyAt l o st.laid c)
      (low : l.below at.q < l.bottom) (h : Hung l (l.below at.q)) : Type 0 where
    pub at_both : ValleyAt m o both.laid c
    pub low_both : m.below at_both.q < m.bottom
    pub hung_both : Hung m (m.below at_both.q)
    pub first_same : hung_both.first ≡ h.first
    pub more_same : hung_both.more ≡ h.more
    pub same : times p (h.first ∷ h.more) ≡ 0 → move m (fits_then l fits q p r can) o both c at_both low_both hung_both ≡ move l fits o st c at low h
    pub drops : 0 < times p (h.first ∷ h.more)
        → Drops (move m (fits_then l fits q p r can) o both c at_both low_both hung_both).signs (move l fits o st c at low h).signs
    pub counts : (move m (fits_then l fits q p r can) o both c at_both low_both hung_both).count ≡ (move l fits o st c at low h).count

  -- the next move, where it lays no q and does not close v, is the same in both sweeps, or its signs drop where it lays p
  pub moves_both : (o : Outline) (st : State l o) (both : State m o) → both.laid ≡ st.laid
      → (c : AtValley o) (at : ValleyAt l o st.laid c) (low : l.below at.q < l.bottom) (h : Hung l (l.below at.q))
      → times q st.laid ≡ 0 → times p st.laid ≡ 0 → times (l.below q) st.done ≡ 0 → times q (h.first ∷ h.more) ≡ 0 → (l.below at.q ≡ l.below q → ⊥)
      → MovesBoth o st both c at low h
  moves_both o st both laid c at low h no_q no_p no_v no_new no_close = record {
    at_both = at_both;
    low_both = low_both;
    hung_both = hung_both;
    first_same = first_same;
    more_same = more_same;
    same = λ t. λ i. record { count = counts i; signs = signs_same t i };
    drops = λ t. drops_before (move m (fits_then l fits q p r can) o both c at_both low_both hung_both).signs
        (move l fits o st c at low h).signs c.after_signs signs_many
        (drops_behind c.before_signs ((move m (fits_then l fits q p r can) o both c at_both low_both hung_both).signs ++ c.after_signs)
        ((move l fits o st c at low h).signs ++ c.after_signs)
        ((dropped_signs l fits q p r can) (c.before_signs ++ ((move l fits o st c at low h).signs ++ c.after_signs))
        (c.before_signs ++ ((move m (fits_then l fits q p r can) o both c at_both low_both hung_both).signs ++ c.after_signs))
        (apart_of st.laid o c h.first h.more) marks marks_both
        (omega (arith, apart_times l o st c at h.first h.more q, zero_parts, no_new)) (omega (arith, apart_times l o st c at h.first h.more p, t))));
    counts = counts;
  }
    where
      q_open : times_in q (lists_at st.laid o.segments) ≡ 0
      q_open = omega (arith, no_q, st.laid_times q can.known, st.open_times q can.known)

      p_open : times_in p (lists_at st.laid o.segments) ≡ 0
      p_open = omega (arith, no_p, st.laid_times p can.before, st.open_times p can.before)

      zero_parts : times_in q (lists_at st.laid c.before)
          + (times_in q (lists_at st.laid c.left)
          + (times q (at.q ∷ at.qs) + (times_in q (lists_at st.laid c.right) + times_in q (lists_at st.laid c.after)))) ≡ 0
      zero_parts = omega (arith, q_open, open_then l o st c at q)

      not_q : at.q ≡ q → ⊥
      not_q e = times-head_differs q at.q at.qs (omega (arith, zero_parts)) e

      at_both : ValleyAt m o both.laid c
      at_both = valley_at m (fits_then l fits q p r can) o both.laid c both.chain both.wall

      q_same : at_both.q ≡ at.q
      q_same = head_same at_both.q at.q at_both.qs at.qs (sym at_both.is ∙ ap (λ (xs : List ℕ). map (sq_of xs) c.valley) laid ∙ at.is)

      node_same : m.below at_both.q ≡ l.below at.q
      node_same = ap m.below q_same ∙ (around l fits q p r can).below_x at.q not_q

      low_both : m.below at_both.q < m.bottom
      low_both = omega (arith, node_same, low)

      not_u : l.below at.q ≡ l.above q → ⊥
      not_u e = omega (
        arith,
        no_new,
        ap (times q) (sym h.is),
        ap (λ (w : ℕ). times q (l.hanging w)) e,
        times_tail (l.hanging (l.above q)) q q can.first,
        cond_count-nat_eq_same q q refl,
      )

      hung_both : Hung m (m.below at_both.q)
      hung_both = hung_from m (fits_then l fits q p r can) (m.below at_both.q) low_both

      hung_same : ◌≡◌ {A = List ℕ} (hung_both.first ∷ hung_both.more) (h.first ∷ h.more)
      hung_same = sym hung_both.is ∙ ap m.hanging node_same ∙ (around l fits q p r can).hanging_w (l.below at.q) not_u no_close ∙ h.is

      first_same : hung_both.first ≡ h.first
      first_same = head_same hung_both.first h.first hung_both.more h.more hung_same

      more_same : hung_both.more ≡ h.more
      more_same = tail_same hung_both.first h.first hung_both.more h.more hung_same

      counts : ◌≡◌ {A = ℕ} (length (hung_both.first ∷ hung_both.more)) (length (h.first ∷ h.more))
      counts = ap (λ (xs : List ℕ). length xs) hung_same

      marks : Chain l (c.before_signs ++ ((move l fits o st c at low h).signs ++ c.after_signs)) (apart_of st.laid o c h.first h.more)
      marks = (marks_chain l fits o st c at low h).0

      marks_both : Chain m (c.before_signs ++ ((move m (fits_then l fits q p r can) o both c at_both low_both hung_both).signs ++ c.after_signs))
          (apart_of st.laid o c h.first h.more)
      marks_both = subst (λ (x : List (List ℕ)). Chain m
          (c.before_signs ++ ((move m (fits_then l fits q p r can) o both c at_both low_both hung_both).signs ++ c.after_signs)) x)
          (λ i. apart_of (laid i) o c (first_same i) (more_same i))
          (marks_chain m (fits_then l fits q p r can) o both c at_both low_both hung_both).0

      signs_many : length (move m (fits_then l fits q p r can) o both c at_both low_both hung_both).signs ≡ length (move l fits o st c at low h).signs
      signs_many = omega (arith, many_marks m (fits_then l fits q p r can) o both c at_both low_both hung_both, many_marks l fits o st c at low h, counts)

      signs_same : times p (h.first ∷ h.more) ≡ 0
          → (move m (fits_then l fits q p r can) o both c at_both low_both hung_both).signs ≡ (move l fits o st c at low h).signs
      signs_same t = same_before (move m (fits_then l fits q p r can) o both c at_both low_both hung_both).signs
          (move l fits o st c at low h).signs c.after_signs signs_many
          (same_behind c.before_signs ((move m (fits_then l fits q p r can) o both c at_both low_both hung_both).signs ++ c.after_signs)
          ((move l fits o st c at low h).signs ++ c.after_signs)
          ((same_signs l fits q p r can) (c.before_signs ++ ((move l fits o st c at low h).signs ++ c.after_signs))
          (c.before_signs ++ ((move m (fits_then l fits q p r can) o both c at_both low_both hung_both).signs ++ c.after_signs))
          (apart_of st.laid o c h.first h.more) marks marks_both (omega (arith, apart_times l o st c at h.first h.more q, zero_parts, no_new))
          (omega (arith, apart_times l o st c at h.first h.more p, open_then l o st c at p, p_open, t))))
