-- The end of the sweep: one segment is left, all that ends on the bottom; then all nodes but the bottom are closed, and all
-- squares are laid.
use Rattle.std.proofs.Common.{List, Some, [], ap, arith, cond, inl, inr, length, map, nat_eq, refl, slice_get, suc, sym, zero, ℕ}
use Rattle.std.proofs.Common.{◌++◌, ◌<◌, ◌∙◌, ◌∷◌, ◌≡◌, ◌≤◌, ◌⊎◌}
use Rattle.std.proofs.lemmas.List.{length-map}
use Rattle.std.proofs.lemmas.Bool.{cases_eq}
use Rattle.bk_laws.proofs.Occurrences.{times, times_in}
use Rattle.bk_laws.proofs.ListPlaces.{get_some}
use Rattle.bk_laws.proofs.TestsAsNumbers.{cond_count-nat_eq_other}
use Rattle.bk_word.specs.Outline.{Outline, start}
use Rattle.bk_word.specs.Play.{IsLegal, outline_of}
use Rattle.bk_word.specs.Word.{Move, Word}
use Rattle.bk_word_net.proofs.Outlines.ValleyCut.{AtValley}
use Rattle.bk_layout.proofs.Lists.Counting.{at_most, just_as_many}
use Rattle.bk_layout.proofs.Lists.SquareLists.{lists_at, sq_of}
use Rattle.bk_layout.proofs.Sweeps.Sweep.{State, ValleyAt, ending_times}
use Rattle.bk_layout.specs.FreeWord.{IsFree, IsWithoutTwins}
use Rattle.bk_layout.specs.Layout.{Fits, HasNoTwins, Layout}
use Rattle.bk_layout.specs.LayoutLaws.{HangByLinesFrom, HangByNodesFrom}

-- the sweep has come to its end
pub record Ended (l : Layout) (o : Outline) (st : State l o) : Type 0 where
  pub one : lists_at st.laid o.segments ≡ l.ending l.bottom ∷ []

-- no further segment stands beside a valley that ends on the bottom
pub ended : (l : Layout) → (o : Outline) (st : State l o) (v : AtValley o) (at : ValleyAt l o st.laid v) → l.below at.q ≡ l.bottom → Ended l o st
ended l o st v at e = record {
  one = at.cut ∙ (λ i. before i ++ (at.left.bottom e i ++ (sym at.whole i ∷ (at.right.bottom e i ++ after i))))
      ∙ ap (λ (u : ℕ). l.ending u ∷ []) e;
}
  where
    none : (x y : List (List ℕ)) → (x ≡ [] → y ≡ []) → lists_at st.laid x ≡ [] → lists_at st.laid y ≡ []
    none [] y f h = ap (lists_at st.laid) (f refl)
    none (s ∷ x) y f h = absurd (omega (arith, ap length h))

    before : lists_at st.laid v.before ≡ []
    before = none v.left v.before v.no_before (at.left.bottom e)

    after : lists_at st.laid v.after ≡ []
    after = none v.right v.after v.no_after (at.right.bottom e)

-- at most as many nodes are closed as there are but the bottom
pub bounded : (l : Layout) (o : Outline) (st : State l o) → length st.done ≤ l.bottom
bounded l o st = at_most l.bottom st.done st.done_low (λ q h. st.done_once q)

-- ---- at the end

module _ (l : Layout) (fits : Fits l) (o : Outline) (st : State l o) (end : Ended l o st) where
  open_last : (q : ℕ) → q < l.squares → times_in q (lists_at st.laid o.segments) ≡ cond (nat_eq (l.below q) l.bottom) 1 0
  open_last q h = ap (times_in q) end.one ∙ omega (arith, ending_times l fits q l.bottom h)

  all_closed : (n v : ℕ) → fits.nodes.rank v < n → v < l.bottom → times v st.done ≡ 1
  all_closed zero v rank low = absurd (omega arith)
  all_closed (suc n) v rank low = cases (cases_eq v 0) (all_closed n)
    where
      from : (v ≡ 0 → ⊥) → (q : ℕ) × (slice_get (l.ending v) 0 ≡ Some q)
          → ((u : ℕ) → fits.nodes.rank u < n → u < l.bottom → times u st.done ≡ 1) → times v st.done ≡ 1
      from n (q, at) rest = omega (
        arith,
        ap (λ (u : ℕ). times u st.done) e.1,
        cond_count-nat_eq_other (l.below q) l.bottom (λ f. omega (arith, f, e.1, low)),
        open_last q e.0,
        st.open_times q e.0,
        rest (l.above q) (omega (arith, fits.nodes.rises q e.0, ap fits.nodes.rank e.1, rank)) (fits.nodes.hangs_above q e.0),
      )
        where
          e : (q < l.squares) × (l.below q ≡ v)
          e = fits.lists.ending_is v 0 q at

      positive : (v : ℕ) → (v ≡ 0 → ⊥) → 0 < v
      positive v n = grind arith

      cases : (v ≡ 0) ⊎ (v ≡ 0 → ⊥) → ((u : ℕ) → fits.nodes.rank u < n → u < l.bottom → times u st.done ≡ 1) → times v st.done ≡ 1
      cases (inl e) rest = ap (λ (u : ℕ). times u st.done) e ∙ st.begun
      cases (inr e) rest = from e (get_some (l.ending v) 0 (fits.nodes.ending_some v (positive v e) (omega (arith, low)))) rest

  -- at the end each node but the bottom is closed once
  pub is_closed : (v : ℕ) → v < l.bottom → times v st.done ≡ 1
  is_closed v low = all_closed (suc (fits.nodes.rank v)) v (omega arith) low

  -- at the end each square is laid once
  pub is_laid : (q : ℕ) → q < l.squares → times q st.laid ≡ 1
  is_laid q h = omega (arith, st.laid_times q h, is_closed (l.above q) (fits.nodes.hangs_above q h))

  -- at the end as many nodes are closed as there are but the bottom
  pub done_many : length st.done ≡ l.bottom
  done_many = just_as_many l.bottom st.done st.done_low is_closed

  -- at the end as many squares are laid as there are
  pub laid_many : length st.laid ≡ l.squares
  laid_many = just_as_many l.squares st.laid st.laid_low is_laid

  -- at the end one segment is left
  pub one_segment : length o.segments ≡ 1
  one_segment = sym (length-map o.segments (map (sq_of st.laid))) ∙ ap length end.one

-- ---- the whole sweep

-- a word that sweeps the layout to its end, move by move
pub record WholeSweep (l : Layout) : Type 0 where
  pub word : Word
  pub some : 0 < length word
  pub legal : IsLegal word
  pub free : IsFree word
  pub no_twins : HasNoTwins l → IsWithoutTwins word
  pub first_count : (m : Move) → slice_get word 0 ≡ Some m → m.count ≡ length (l.hanging 0)
  pub last : State l (outline_of word)
  pub end : Ended l (outline_of word) last
  pub wall : l.left (sq_of last.laid 1) ≡ 0
  pub lines : HangByLinesFrom l (sq_of last.laid) start word
  pub nodes : HangByNodesFrom l (sq_of last.laid) start word
