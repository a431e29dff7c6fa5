-- A word that breaks rule R gives a lesser word of the reversed layout.
use Rattle.std.proofs.Common.{List, [], ap, arith, inl, inr, length, refl, subst, sym, ℕ, ◌<◌, ◌∙◌, ◌∷◌, ◌≡◌, ◌⊎◌}
use Rattle.bk_laws.proofs.NumberOrder.{zero_or_positive}
use Rattle.bk_laws.proofs.Occurrences.{times, times_in}
use Rattle.bk_word.specs.Outline.{Outline, start}
use Rattle.bk_word.specs.Play.{after_move}
use Rattle.bk_word.specs.Word.{Move, Word}
use Rattle.bk_layout.proofs.Sweeps.Trace.{Trace, Whole, whole_from}
use Rattle.bk_layout.proofs.Sweeps.SweepStart.{first_move}
use Rattle.bk_layout.proofs.Sweeps.Chains.{Chain, last_from, signs_of, singles, singles_wall}
use Rattle.bk_layout.proofs.Lists.SquareLists.{times_singles}
use Rattle.bk_layout.proofs.Sweeps.Sweep.{State}
use Rattle.bk_layout.proofs.Sweeps.WholeRuns.{Hung, hung_from, is_last}
use Rattle.bk_layout.proofs.Lists.Drops.{Drops, IsLess}
use Rattle.bk_layout.specs.Layout.{Fits, IsLast, Layout}
use Rattle.bk_layout.specs.Reversal.{CanReverse, reversed}
use Rattle.bk_layout.proofs.Reversals.ReversedParts.{top_is}
use Rattle.bk_layout.proofs.Reversals.ReversedFits.{dropped_signs, fits_then, same_signs, state_moved}
use Rattle.bk_layout.proofs.Reversals.SweepsBeside.{Beside, beside_it, late_out}

module _ (l : Layout) (fits : Fits l) (q p r : ℕ) (can : CanReverse l q p r) where
  abbrev m : Layout
  m = reversed l q p r

  abbrev v : ℕ
  v = l.below q

  abbrev Late : (o : Outline) → (st : State l o) → (w : Word) → Trace l fits o st w → Type 0
  Late o st [] tr = (times q st.laid ≡ 0) × (times v st.done ≡ 0) × ((0 < times p st.laid) ⊎ ⊥)
  Late o st (mv ∷ w) tr = (times q st.laid ≡ 0) × (times v st.done ≡ 0) × ((0 < times p st.laid) ⊎ Late (after_move o mv) tr.0 w tr.2)

  -- ---- from the first move on

  -- a lesser word of the reversed layout
  pub record WholeBeside (mv : Move) (w : Word) : Type 0 where
    pub first : Move
    pub word : Word
    pub whole : Whole m (fits_then l fits q p r can) first word
    pub less : IsLess (first ∷ word) (mv ∷ w)

  -- a word that breaks the rule gives one
  pub whole_beside : (mv : Move) (w : Word) (whole : Whole l fits mv w) → Late (after_move start mv) whole.first w whole.trace → WholeBeside mv w
  whole_beside mv w whole late = on (zero_or_positive (times p (whole.h.first ∷ whole.h.more)))
    where
      out : (times q whole.first.laid ≡ 0) × (times v whole.first.done ≡ 0)
      out = late_out l fits q p r can (after_move start mv) whole.first w whole.trace late

      no_new : times q (whole.h.first ∷ whole.h.more) ≡ 0
      no_new = ap (times q) (sym whole.grows) ∙ out.0

      both : Hung m 0
      both = hung_from m (fits_then l fits q p r can) 0 fits.some

      hung_same : ◌≡◌ {A = List ℕ} (both.first ∷ both.more) (whole.h.first ∷ whole.h.more)
      hung_same = sym both.is ∙ (top_is l fits q p r can) ∙ whole.h.is

      wall_at : (k : Layout) → Fits k → (h : Hung k 0) → k.right (last_from h.first h.more) ≡ 1
      wall_at k fit h = fit.lines.top_right (last_from h.first h.more)
          (subst (λ (xs : List ℕ). IsLast xs (last_from h.first h.more)) (sym h.is) (is_last h.first h.more))

      marks : Chain l (signs_of l (whole.h.first ∷ whole.h.more)) (singles (whole.h.first ∷ whole.h.more))
      marks = singles_wall l whole.h.first whole.h.more whole.h.known whole.h.linked (wall_at l fits whole.h)

      marks_both : Chain m (signs_of m (both.first ∷ both.more)) (singles (whole.h.first ∷ whole.h.more))
      marks_both = subst (λ (xs : List ℕ). Chain m (signs_of m (both.first ∷ both.more)) (singles xs)) hung_same
          (singles_wall m both.first both.more both.known both.linked (wall_at m (fits_then l fits q p r can) both))

      counts : ◌≡◌ {A = ℕ} (length (both.first ∷ both.more)) (length (whole.h.first ∷ whole.h.more))
      counts = ap (λ (xs : List ℕ). length xs) hung_same

      q_in : times_in q (singles (whole.h.first ∷ whole.h.more)) ≡ 0
      q_in = times_singles q (whole.h.first ∷ whole.h.more) ∙ no_new

      on : (times p (whole.h.first ∷ whole.h.more) ≡ 0) ⊎ (0 < times p (whole.h.first ∷ whole.h.more)) → WholeBeside mv w
      on (inl none) = with ((state_moved l fits q p r can) (after_move start mv) whole.first out.0 (ap (times p) whole.grows ∙ none) out.1)
        where
          same_move : first_move m (fits_then l fits q p r can) both ≡ first_move l fits whole.h
          same_move = λ i. record {
            count = counts i;
            signs =
                (same_signs l fits q p r can) (signs_of l (whole.h.first ∷ whole.h.more)) (signs_of m (both.first ∷ both.more))
                (singles (whole.h.first ∷ whole.h.more)) marks marks_both q_in (times_singles p (whole.h.first ∷ whole.h.more) ∙ none) i;
          }

          with : (s : State m (after_move start mv)) × (s.laid ≡ whole.first.laid) × (s.done ≡ whole.first.done) → WholeBeside mv w
          with (then, same, _) = rest (beside_it l fits q p r can (after_move start mv) whole.first then same (ap (times p) whole.grows ∙ none) w
              whole.trace late)
            where
              rest : Beside l fits q p r can (after_move start mv) then w → WholeBeside mv w
              rest b = record {
                first = mv;
                word = b.word;
                whole =
                    record {
                      h = both;
                      is = whole.is ∙ sym same_move;
                      first = then;
                      grows = same ∙ whole.grows
                          ∙ sym hung_same;
                      trace = b.trace;
                    };
                less = inr (refl, b.less);
              }
      on (inr some) = rest (whole_from m (fits_then l fits q p r can) both)
        where
          drops : Drops (first_move m (fits_then l fits q p r can) both).signs (first_move l fits whole.h).signs
          drops = (dropped_signs l fits q p r can) (signs_of l (whole.h.first ∷ whole.h.more)) (signs_of m (both.first ∷ both.more))
              (singles (whole.h.first ∷ whole.h.more)) marks marks_both q_in (omega (arith, some, times_singles p (whole.h.first ∷ whole.h.more)))

          rest : (w : Word) × Whole m (fits_then l fits q p r can) (first_move m (fits_then l fits q p r can) both) w → WholeBeside mv w
          rest (word, t) = record {
            first = first_move m (fits_then l fits q p r can) both;
            word = word;
            whole = t;
            less = inl (
              counts ∙ ap (λ (z : Move). z.count) (sym whole.is),
              subst (λ (z : Move). Drops (first_move m (fits_then l fits q p r can) both).signs z.signs) (sym whole.is) drops,
            );
          }
