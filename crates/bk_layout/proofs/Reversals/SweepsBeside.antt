-- The sweep of the reversed layout beside that of the layout: from a common state on it has a lesser word.
use Rattle.std.proofs.Common.{List, Some, [], ap, arith, inl, inr, length, refl, slice_get, subst, suc, sym, ℕ, ◌++◌, ◌+◌, ◌<◌, ◌∙◌, ◌∷◌, ◌≡◌, ◌⊎◌}
use Rattle.bk_laws.proofs.ListPlaces.{get_some}
use Rattle.bk_laws.proofs.NumberOrder.{zero_or_positive}
use Rattle.bk_laws.proofs.Occurrences.{times, times-append}
use Rattle.bk_laws.proofs.TestsAsNumbers.{cond_count-nat_eq_same}
use Rattle.bk_word.specs.Outline.{Outline}
use Rattle.bk_word.specs.Play.{after_move}
use Rattle.bk_word.specs.Word.{Move, Word}
use Rattle.bk_layout.proofs.Sweeps.Trace.{IsStep, Trace, traced}
use Rattle.bk_layout.proofs.Sweeps.Sweep.{State}
use Rattle.bk_layout.proofs.Sweeps.SweepSteps.{move, state_then}
use Rattle.bk_layout.proofs.Lists.Drops.{Drops, IsLess}
use Rattle.bk_layout.specs.Layout.{Fits, Layout}
use Rattle.bk_layout.specs.Reversal.{CanReverse, reversed}
use Rattle.bk_layout.proofs.Reversals.ReversedLists.{places}
use Rattle.bk_layout.proofs.Reversals.ReversedFits.{fits_then, state_moved}
use Rattle.bk_layout.proofs.Reversals.MovesBoth.{MovesBoth, moves_both}

module _ (l : Layout) (fits : Fits l) (q p r : ℕ) (can : CanReverse l q p r) where
  abbrev m : Layout
  m = reversed l q p r

  abbrev v : ℕ
  v = l.below q

  -- along the trace p is laid while q isn't laid and v isn't closed
  abbrev pub Late : (o : Outline) → (st : State l o) → (w : Word) → Trace l fits o st w → Type 0
  Late o st [] tr = (times q st.laid ≡ 0) × (times v st.done ≡ 0) × ((0 < times p st.laid) ⊎ ⊥)
  Late o st (mv ∷ w) tr = (times q st.laid ≡ 0) × (times v st.done ≡ 0) × ((0 < times p st.laid) ⊎ Late (after_move o mv) tr.0 w tr.2)

  -- where a late trace begins, q isn't laid and v isn't closed
  pub late_out : (o : Outline) (st : State l o) (w : Word) (tr : Trace l fits o st w) → Late o st w tr → (times q st.laid ≡ 0) × (times v st.done ≡ 0)
  late_out o st [] tr late = (late.0, late.1)
  late_out o st (mv ∷ w) tr late = (late.0, late.1)

  -- where q isn't laid and v isn't closed after a step, it was so before
  pub later_out : (o : Outline) (st : State l o) (mv : Move) (next : State l (after_move o mv)) → IsStep l fits o st mv next
      → times q next.laid ≡ 0 → times v next.done ≡ 0 → (times q st.laid ≡ 0) × (times v st.done ≡ 0)
  later_out o st mv next step a b = (omega (arith, a, grown q), under (get_some (l.hanging v) 0 (places l fits q p r can).hv_some))
    where
      grown : (x : ℕ) → times x next.laid ≡ times x st.laid + times x (step.h.first ∷ step.h.more)
      grown x = ap (times x) step.grows ∙ times-append x st.laid (step.h.first ∷ step.h.more)

      under : (x : ℕ) × (slice_get (l.hanging v) 0 ≡ Some x) → times v st.done ≡ 0
      under (x, e) = omega (
        arith,
        grown x,
        b,
        ap (λ (w : ℕ). times w st.done) is.1,
        ap (λ (w : ℕ). times w next.done) is.1,
        st.laid_times x is.0,
        next.laid_times x is.0,
      )
        where
          is : (x < l.squares) × (l.above x ≡ v)
          is = fits.lists.hanging_is v 0 x e

  -- a lesser word of the reversed layout from a common state on
  pub record Beside (o : Outline) (both : State m o) (w : Word) : Type 0 where
    pub word : Word
    pub trace : Trace m (fits_then l fits q p r can) o both word
    pub less : IsLess word w

  -- from a common state on, the sweep of the reversed layout has a lesser word
  pub beside_it : (o : Outline) (st : State l o) (both : State m o) → both.laid ≡ st.laid → times p st.laid ≡ 0
      → (w : Word) (tr : Trace l fits o st w) → Late o st w tr → Beside o both w
  beside_it o st both laid no_p [] tr late = ends late.2
    where
      ends : (0 < times p st.laid) ⊎ ⊥ → Beside o both []
      ends (inl h) = absurd (omega (arith, h, no_p))
      ends (inr h) = absurd h
  beside_it o st both laid no_p (mv ∷ w) tr late = on late.2 (λ then same none h. beside_it (after_move o mv) tr.0 then same none w tr.2 h)
    where
      s : IsStep l fits o st mv tr.0
      s = tr.1

      grown : (x : ℕ) → times x tr.0.laid ≡ times x st.laid + times x (s.h.first ∷ s.h.more)
      grown x = ap (times x) s.grows ∙ times-append x st.laid (s.h.first ∷ s.h.more)

      on : (0 < times p st.laid) ⊎ Late (after_move o mv) tr.0 w tr.2
          → ((then : State m (after_move o mv)) → then.laid ≡ tr.0.laid → times p tr.0.laid ≡ 0 → Late (after_move o mv) tr.0 w tr.2
          → Beside (after_move o mv) then w) → Beside o both (mv ∷ w)
      on (inl h) further = absurd (omega (arith, h, no_p))
      on (inr h) further = go ((moves_both l fits q p r can) o st both laid s.c s.at s.low s.h late.0 no_p late.1 no_new no_close)
          (zero_or_positive (times p (s.h.first ∷ s.h.more)))
        where
          out : (times q tr.0.laid ≡ 0) × (times v tr.0.done ≡ 0)
          out = late_out (after_move o mv) tr.0 w tr.2 h

          no_new : times q (s.h.first ∷ s.h.more) ≡ 0
          no_new = omega (arith, out.0, grown q)

          first_is : (s.h.first < l.squares) × (l.above s.h.first ≡ l.below s.at.q)
          first_is = fits.lists.hanging_is (l.below s.at.q) 0 s.h.first (ap (λ (xs : List ℕ). slice_get xs 0) s.h.is)

          no_close : l.below s.at.q ≡ v → ⊥
          no_close e = omega (
            arith,
            out.1,
            grown s.h.first,
            cond_count-nat_eq_same s.h.first s.h.first refl,
            tr.0.laid_times s.h.first first_is.0,
            ap (λ (z : ℕ). times z tr.0.done) (first_is.1 ∙ e),
          )

          go : (MovesBoth l fits q p r can) o st both s.c s.at s.low s.h → (times p (s.h.first ∷ s.h.more) ≡ 0)
              ⊎ (0 < times p (s.h.first ∷ s.h.more)) → Beside o both (mv ∷ w)
          go b (inl none) = with ((state_moved l fits q p r can) (after_move o mv) tr.0 out.0 (omega (arith, none, no_p, grown p)) out.1)
            where
              with : (s : State m (after_move o mv)) × (s.laid ≡ tr.0.laid) × (s.done ≡ tr.0.done) → Beside o both (mv ∷ w)
              with (then, same, _) = rest (further then same (omega (arith, none, no_p, grown p)) h)
                where
                  rest : Beside (after_move o mv) then w → Beside o both (mv ∷ w)
                  rest r = record {
                    word = mv ∷ r.word;
                    trace = (
                      then,
                      record {
                        c = s.c;
                        at = b.at_both;
                        low = b.low_both;
                        h = b.hung_both;
                        is = s.is
                            ∙ sym (b.same none);
                        grows = same ∙ s.grows ∙ (λ i. sym laid i ++ (sym b.first_same i ∷ sym b.more_same i));
                      },
                      r.trace,
                    );
                    less = inr (refl, r.less);
                  }
          go b (inr some) = with (state_then m (fits_then l fits q p r can) o both s.c b.at_both b.low_both b.hung_both)
            where
              with : (then : State m (after_move o (move m (fits_then l fits q p r can) o both s.c b.at_both b.low_both b.hung_both)))
                  × (length then.done ≡ suc (length both.done)) × (then.laid ≡ both.laid ++ (b.hung_both.first ∷ b.hung_both.more)) → Beside o both (mv ∷ w)
              with (then, _, grows) = rest (traced m (fits_then l fits q p r can) m.bottom
                  (after_move o (move m (fits_then l fits q p r can) o both s.c b.at_both b.low_both b.hung_both)) then (omega arith))
                where
                  rest : (w : Word) × Trace m (fits_then l fits q p r can)
                      (after_move o (move m (fits_then l fits q p r can) o both s.c b.at_both b.low_both b.hung_both)) then w
                      → Beside o both (mv ∷ w)
                  rest (more, t) = record {
                    word = move m (fits_then l fits q p r can) o both s.c b.at_both b.low_both b.hung_both ∷ more;
                    trace = (then, record { c = s.c; at = b.at_both; low = b.low_both; h = b.hung_both; is = refl; grows = grows }, t);
                    less = inl (
                      b.counts ∙ ap (λ (z : Move). z.count) (sym s.is),
                      subst (λ (z : Move). Drops (move m (fits_then l fits q p r can) o both s.c b.at_both b.low_both b.hung_both).signs
                          z.signs) (sym s.is) (b.drops some),
                    );
                  }
