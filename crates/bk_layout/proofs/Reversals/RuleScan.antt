-- A trace keeps rule R, or has a move that doesn't; then a layout with one more square reversed has a lesser word.
use Rattle.std.specs.List.{AllByRecursion}
use Rattle.std.proofs.Common.{List, Some, [], ap, arith, false, inl, inr, length, refl, slice_get, subst, suc, sym, true, zero, ℕ, ◌+◌, ◌<◌}
use Rattle.std.proofs.Common.{◌∙◌, ◌∷◌, ◌≡◌, ◌⊎◌}
use Rattle.std.proofs.lemmas.Bool.{cases_Bool}
use Rattle.bk_laws.proofs.NumberOrder.{above_one_or_not}
use Rattle.bk_laws.proofs.Truth.{absurd-of_true_and_false}
use Rattle.bk_word.specs.Outline.{Outline, has_left_wall, open_side, start}
use Rattle.bk_word.specs.Play.{after_move}
use Rattle.bk_word.specs.Word.{Move, Word, order_of}
use Rattle.bk_word.specs.declared.Sign.{Sign}
use Rattle.bk_word.specs.declared.Sign.TheVariants.{Above, Even, Under}
use Rattle.bk_word_net.proofs.Outlines.OutlineParts.{left_open}
use Rattle.bk_word_net.proofs.Outlines.ValleyCut.{Beside}
use Rattle.bk_layout.proofs.Sweeps.LayoutNet.{word_of_sweep}
use Rattle.bk_layout.proofs.Sweeps.Sweep.{State}
use Rattle.bk_layout.proofs.Sweeps.SweepStart.{first_move}
use Rattle.bk_layout.proofs.Sweeps.WholeRuns.{hung_from}
use Rattle.bk_layout.specs.FreeWord.{HangNoTwinsFrom}
use Rattle.bk_layout.specs.Layout.{Fits, HasNoTwins, Layout}
use Rattle.bk_layout.specs.LayoutLaws.{IsWordOfLayout}
use Rattle.bk_layout.proofs.Reversals.EvenAbove.{Bad}
use Rattle.bk_layout.proofs.Reversals.BadMove.{bad_move}
use Rattle.bk_layout.proofs.Lists.Measure.{are_digits, code, code_less, digits, few_digits, less_digits}
use Rattle.bk_layout.proofs.Reversals.ReversedFits.{fits_then, no_twins_then, same_then}
use Rattle.bk_layout.proofs.Reversals.SweepsBeside.{Late, late_out, later_out}
use Rattle.bk_layout.proofs.Reversals.WholeBeside.{WholeBeside, whole_beside}
use Rattle.bk_layout.proofs.Sweeps.Trace.{IsStep, Trace, Whole, sweep_of, whole_from}
use Rattle.bk_layout.proofs.Reversals.UpTo.{up_to_both, up_to_itself}
use Rattle.bk_layout.specs.Reversal.{CanReverse, IsUpToReversals, reversed}
use Rattle.bk_layout.specs.RuleR.{BeginsNoEvenAbove, ALayoutHasAWordByRuleR, HasWordByRuleR, KeepRuleRFrom, KeepsRuleR}

-- a square of which the layout can be reversed, so that the word becomes less
pub record Broken (l : Layout) (fits : Fits l) (o : Outline) (st : State l o) (w : Word) (tr : Trace l fits o st w) : Type 0 where
  pub q : ℕ
  pub p : ℕ
  pub r : ℕ
  pub can : CanReverse l q p r
  pub late : Late l fits q p r can o st w tr

begins : (g : List Sign) → ((slice_get g 0 ≡ Some Even) × (slice_get g 1 ≡ Some Above)) ⊎ (slice_get g 0 ≡ Some Even → slice_get g 1 ≡ Some Above → ⊥)
begins [] = inr (λ e f. absurd (cc))
begins (g ∷ []) = inr (λ e f. absurd (cc))
begins (Above ∷ g ∷ h) = inr (λ e f. absurd (cc))
begins (Under ∷ g ∷ h) = inr (λ e f. absurd (cc))
begins (Even ∷ Above ∷ h) = inl (refl, refl)
begins (Even ∷ Even ∷ h) = inr (λ e f. absurd (cc))
begins (Even ∷ Under ∷ h) = inr (λ e f. absurd (cc))

scan : (l : Layout) (fits : Fits l) (o : Outline) (st : State l o) (w : Word) (tr : Trace l fits o st w) → KeepRuleRFrom o w ⊎ Broken l fits o st w tr
scan l fits o st [] tr = inl tt
scan l fits o st (mv ∷ w) tr = on (cases_Bool (has_left_wall o)) (above_one_or_not mv.count) (begins mv.signs) (scan l fits (after_move o mv) tr.0 w tr.2)
  where
    s : IsStep l fits o st mv tr.0
    s = tr.1

    further : KeepsRuleR o mv → KeepRuleRFrom (after_move o mv) w ⊎ Broken l fits (after_move o mv) tr.0 w tr.2 → KeepRuleRFrom o (mv ∷ w)
        ⊎ Broken l fits o st (mv ∷ w) tr
    further k (inl rest) = inl (k, rest)
    further k (inr b) = let out = late_out l fits b.q b.p b.r b.can (after_move o mv) tr.0 w tr.2 b.late in
        let before = later_out l fits b.q b.p b.r b.can o st mv tr.0 tr.1 out.0 out.1 in
        inr (record { q = b.q; p = b.p; r = b.r; can = b.can; late = (before.0, before.1, inr b.late) })

    here : has_left_wall o ≡ false → 1 < mv.count → slice_get mv.signs 0 ≡ Some Even → slice_get mv.signs 1 ≡ Some Above → Broken l fits o st (mv ∷ w) tr
    here no_wall two even over = at (s.c.left_beside)
      where
        found : (t : List ℕ) → s.c.left ≡ t ∷ [] → Bad l o st s.h.first s.at.q
        found t one = bad_move l fits o st s.c s.at s.low s.h (record {
          s = t;
          one = one;
          two = omega (arith, two, ap (λ (z : Move). z.count) s.is);
          even = ap (λ (z : Move). slice_get z.signs 0) (sym s.is) ∙ even;
          over = ap (λ (z : Move). slice_get z.signs 1) (sym s.is) ∙ over;
        })

        with : Bad l o st s.h.first s.at.q → Broken l fits o st (mv ∷ w) tr
        with b = record { q = s.h.first; p = b.p; r = s.at.q; can = b.can; late = (b.q_not, b.v_not, inl b.p_laid) }

        at : Beside Under s.c.left s.c.left_signs → Broken l fits o st (mv ∷ w) tr
        at (inl (none, no_signs)) = absurd (omega (arith, ap (λ (x : List (List ℕ)). length x) none, left_open o s.c, ap open_side no_wall))
        at (inr (t, one, one_sign)) = with (found t one)

    on : (has_left_wall o ≡ true) ⊎ (has_left_wall o ≡ false) → (1 < mv.count) ⊎ (1 < mv.count → ⊥)
        → ((slice_get mv.signs 0 ≡ Some Even) × (slice_get mv.signs 1 ≡ Some Above))
        ⊎ (slice_get mv.signs 0 ≡ Some Even → slice_get mv.signs 1 ≡ Some Above → ⊥)
        → KeepRuleRFrom (after_move o mv) w ⊎ Broken l fits (after_move o mv) tr.0 w tr.2 → KeepRuleRFrom o (mv ∷ w) ⊎ Broken l fits o st (mv ∷ w) tr
    on (inl wall) b c rest = further (λ no_wall two even over. absurd-of_true_and_false (has_left_wall o) wall no_wall) rest
    on (inr no_wall) (inr b) c rest = further (λ f two even over. b two) rest
    on (inr no_wall) (inl b) (inr c) rest = further (λ f two even over. c even over) rest
    on (inr no_wall) (inl b) (inl c) rest = inr (here no_wall b c.0 c.1)

-- ---- step by step to a word that keeps the rule

no_rule_at_start : (mv : Move) → KeepsRuleR start mv
no_rule_at_start mv no_wall two even over = absurd-of_true_and_false (has_left_wall start) refl no_wall

none_of : (o : Outline) (w : Word) → HangNoTwinsFrom o w → KeepRuleRFrom o w → AllByRecursion BeginsNoEvenAbove w
none_of o [] single keeps = tt
none_of o (mv ∷ w) single keeps = (here, none_of (after_move o mv) w single.1 keeps.1)
  where
    here : BeginsNoEvenAbove mv
    here two even over = on (cases_Bool (has_left_wall o))
      where
        at : has_left_wall o ≡ true → open_side (has_left_wall o) + 0 ≡ 0
        at wall = omega (arith, ap open_side wall)

        on : (has_left_wall o ≡ true) ⊎ (has_left_wall o ≡ false) → ⊥
        on (inl wall) = single.0 0 two (ap (slice_get mv.signs) (at wall) ∙ even)
        on (inr wall) = keeps.0 wall two even over

-- a word by rule R of a layout that is l up to reversals and has a property that each reversal keeps
pub record HasWordThatKeeps (P : Layout → Type 0) (l : Layout) : Type 0 where
  pub by_rule : HasWordByRuleR l
  pub kept : P by_rule.layout

module _ (P : Layout → Type 0) (keep : (l : Layout) → Fits l → P l → (q p r : ℕ) → CanReverse l q p r → P (reversed l q p r)) where
  ruled : (bound : ℕ) (of : Layout) (l : Layout) (fits : Fits l) → IsUpToReversals of l → (HasNoTwins of → HasNoTwins l) → P l
      → (mv : Move) (w : Word) (whole : Whole l fits mv w)
      → code (of.squares + 4) (of.squares + (of.squares + of.squares)) (digits (mv ∷ w)) < bound → HasWordThatKeeps P of
  ruled zero of l fits same single has mv w whole low = absurd (omega (arith, low))
  ruled (suc bound) of l fits same single has mv w whole low =
      on (scan l fits (after_move start mv) whole.first w whole.trace)
      (λ m fits_m same_m single_m has_m first word whole_m less. ruled bound of m fits_m same_m single_m has_m first word whole_m less)
    where
      word_is : IsWordOfLayout l (mv ∷ w)
      word_is = let s = sweep_of l fits mv w whole in subst (λ (z : Word). IsWordOfLayout l z) s.1 (word_of_sweep l fits s.0)

      on : KeepRuleRFrom (after_move start mv) w ⊎ Broken l fits (after_move start mv) whole.first w whole.trace
          → ((m : Layout) (fits_m : Fits m) → IsUpToReversals of m → (HasNoTwins of → HasNoTwins m) → P m
          → (first : Move) (word : Word) (whole_m : Whole m fits_m first word)
          → code (of.squares + 4) (of.squares + (of.squares + of.squares)) (digits (first ∷ word)) < bound → HasWordThatKeeps P of) → HasWordThatKeeps P of
      on (inl keeps) more = record {
        by_rule = record {
          layout = l;
          fits = fits;
          same = same;
          word = mv ∷ w;
          is_word = word_is;
          keeps = (no_rule_at_start mv, keeps);
          no_twins = single;
          none = λ n. none_of start (mv ∷ w) (word_is.no_twins (single n)) (no_rule_at_start mv, keeps);
        };
        kept = has;
      }
      on (inr b) more = with (whole_beside l fits b.q b.p b.r b.can mv w whole b.late)
        where
          m : Layout
          m = reversed l b.q b.p b.r

          with : WholeBeside l fits b.q b.p b.r b.can mv w → HasWordThatKeeps P of
          with x = more (reversed l b.q b.p b.r) (fits_then l fits b.q b.p b.r b.can)
              (up_to_both of l (reversed l b.q b.p b.r) same (same_then l fits b.q b.p b.r b.can))
              (λ n. no_twins_then l fits b.q b.p b.r b.can (single n)) (keep l fits has b.q b.p b.r b.can) x.first x.word x.whole (omega (arith, low, less))
            where
              word_m : IsWordOfLayout (reversed l b.q b.p b.r) (x.first ∷ x.word)
              word_m = let s = sweep_of (reversed l b.q b.p b.r) (fits_then l fits b.q b.p b.r b.can) x.first x.word x.whole in
                  subst (λ (z : Word). IsWordOfLayout (reversed l b.q b.p b.r) z) s.1
                  (word_of_sweep (reversed l b.q b.p b.r) (fits_then l fits b.q b.p b.r b.can) s.0)

              many : order_of (x.first ∷ x.word) ≡ of.squares
              many = word_m.order ∙ same.squares

              less : code (of.squares + 4) (of.squares + (of.squares + of.squares)) (digits (x.first ∷ x.word))
                  < code (of.squares + 4) (of.squares + (of.squares + of.squares)) (digits (mv ∷ w))
              less = code_less (of.squares + 4) (of.squares + (of.squares + of.squares)) (digits (x.first ∷ x.word)) (digits (mv ∷ w))
                  (omega arith) (are_digits (of.squares + 4) (x.first ∷ x.word) (omega arith) (omega (arith, many)))
                  (omega (arith, few_digits start (mv ∷ w) word_is.complete.legal, word_is.order, same.squares))
                  (less_digits (x.first ∷ x.word) (mv ∷ w) x.less)

  -- each broken word has a lesser one, so the descent ends at a word that keeps the rule
  pub a_word_that_keeps : (l : Layout) → Fits l → P l → HasWordThatKeeps P l
  a_word_that_keeps l fits has = let t = whole_from l fits (hung_from l fits 0 fits.some) in
      ruled (suc (code (l.squares + 4) (l.squares + (l.squares + l.squares))
      (digits (first_move l fits (hung_from l fits 0 fits.some) ∷ t.0)))) l l fits (up_to_itself l) (λ n. n) has
      (first_move l fits (hung_from l fits 0 fits.some)) t.0 t.1 (omega arith)

-- each layout that fits is, up to reversed squares, one that has a word which keeps rule R
pub a_layout_has_a_word_by_rule_r : ALayoutHasAWordByRuleR
a_layout_has_a_word_by_rule_r l fits = (a_word_that_keeps (λ m. Unit {0}) (λ m fits has q p r can. tt) l fits tt).by_rule
