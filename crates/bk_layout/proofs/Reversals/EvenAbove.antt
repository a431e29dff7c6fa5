-- A later move that begins with even and above: what stands around its first square.
use Rattle.std.proofs.Common.{List, Some, [], ap, arith, length, map, refl, slice_get, subst, suc, sym, ℕ, ◌++◌, ◌+◌, ◌<◌, ◌∙◌, ◌∷◌, ◌≡◌}
use Rattle.std.proofs.lemmas.List.{length-map}
use Rattle.bk_laws.proofs.Occurrences.{times, times-append, times_in, times_in-append}
use Rattle.bk_laws.proofs.TestsAsNumbers.{cond_count-nat_eq_other, cond_count-nat_eq_same}
use Rattle.bk_word.specs.Outline.{Outline}
use Rattle.bk_word.specs.declared.Sign.TheVariants.{Above, Even}
use Rattle.bk_word_net.proofs.Outlines.ValleyCut.{AtValley}
use Rattle.bk_layout.proofs.Sweeps.Chains.{Chain, chain_behind, even_neighbours, known_last, last_append, last_from, singles}
use Rattle.bk_layout.proofs.Lists.SquareLists.{lists_at, sq_of}
use Rattle.bk_layout.proofs.Sweeps.Sweep.{State, ValleyAt, ending_times}
use Rattle.bk_layout.proofs.Sweeps.SweepSteps.{move}
use Rattle.bk_layout.proofs.Sweeps.ValleySides.{AtLeft}
use Rattle.bk_layout.proofs.Sweeps.WholeRuns.{Hung, run_below, whole_run}
use Rattle.bk_layout.specs.Layout.{AreNeighbours, Fits, IsFirst, IsLast, Layout}
use Rattle.bk_layout.proofs.Sweeps.MoveChain.{marks_chain}
use Rattle.bk_layout.specs.Reversal.{CanReverse}
use Rattle.bk_layout.proofs.Sweeps.NodeHeads.{at_head, first_there, TwoSigns, two_signs, run_end, last_once}

-- a square that may be reversed, and what the state says of the squares and nodes around it
pub record Bad (l : Layout) (o : Outline) (st : State l o) (q r : ℕ) : Type 0 where
  pub p : ℕ
  pub can : CanReverse l q p r
  pub p_laid : 0 < times p st.laid
  pub q_not : times q st.laid ≡ 0
  pub v_not : times (l.below q) st.done ≡ 0

module _ (l : Layout) (fits : Fits l) (o : Outline) (st : State l o) (c : AtValley o) (at : ValleyAt l o st.laid c)
    (low : l.below at.q < l.bottom) (h : Hung l (l.below at.q)) where
  -- a segment stands at the left, and the move hangs two squares or more and begins with even and above
  pub record BeginsEvenAbove : Type 0 where
    pub s : List ℕ
    pub one : c.left ≡ s ∷ []
    pub two : 0 < length h.more
    pub even : slice_get (move l fits o st c at low h).signs 0 ≡ Some Even
    pub over : slice_get (move l fits o st c at low h).signs 1 ≡ Some Above

module _ (l : Layout) (fits : Fits l) (o : Outline) (st : State l o) (c : AtValley o) (at : ValleyAt l o st.laid c)
    (low : l.below at.q < l.bottom) (h : Hung l (l.below at.q)) (begins : BeginsEvenAbove l fits o st c at low h) where
  open begins use {s, one, two, even, over}

  abbrev q : ℕ
  q = h.first

  abbrev list : List ℕ
  list = map (sq_of st.laid) s

  chain_here : Chain l ((move l fits o st c at low h).signs ++ c.after_signs)
      (list ∷ (h.first ∷ []) ∷ (singles h.more ++ (lists_at st.laid c.right ++ lists_at st.laid c.after)))
  chain_here = chain_behind l (lists_at st.laid c.before) c.before_signs ((move l fits o st c at low h).signs ++ c.after_signs) list
      ((h.first ∷ []) ∷ (singles h.more ++ (lists_at st.laid c.right ++ lists_at st.laid c.after)))
      (length-map c.before (map (sq_of st.laid)) ∙ c.before_many)
      (subst (λ (x : List (List ℕ)). Chain l (c.before_signs ++ ((move l fits o st c at low h).signs ++ c.after_signs))
      (lists_at st.laid c.before ++ (lists_at st.laid x
      ++ ((h.first ∷ []) ∷ (singles h.more ++ (lists_at st.laid c.right ++ lists_at st.laid c.after)))))) one
      (marks_chain l fits o st c at low h).0)

  -- the last two squares at the left of the valley
  pub t : TwoSigns l list q
  t = two_signs l list (move l fits o st c at low h).signs c.after_signs q h.more (lists_at st.laid c.right ++ lists_at st.laid c.after)
      chain_here even over two

  abbrev p : ℕ
  p = last_from t.x t.xs

  -- the first square of the move hangs from the valley's node
  pub q_is : (q < l.squares) × (l.above q ≡ l.below at.q)
  q_is = fits.lists.hanging_is (l.below at.q) 0 q (ap (λ (xs : List ℕ). slice_get xs 0) h.is)

  -- the square beside it is one of the layout
  pub p_low : p < l.squares
  p_low = known_last l t.x t.xs t.known

  beside : AreNeighbours (l.ending (l.below p)) p q
  beside = even_neighbours l fits.go_on p q p_low q_is.0 t.meet

  v_is : l.below q ≡ l.below p
  v_is = (fits.lists.ending_is (l.below p) (suc beside.0) q beside.2).1

  x_is : l.below p ≡ l.below t.x
  x_is = run_below l fits.lists t.x t.xs t.run

  cut_is : lists_at st.laid o.segments ≡ lists_at st.laid c.before ++ (t.x ∷ t.xs) ∷ ((at.q ∷ at.qs) ∷ (lists_at st.laid c.right ++ lists_at st.laid c.after))
  cut_is = at.cut ∙ ap (λ (x : List (List ℕ)). lists_at st.laid c.before
      ++ (lists_at st.laid x ++ ((at.q ∷ at.qs) ∷ (lists_at st.laid c.right ++ lists_at st.laid c.after)))) one
      ∙ ap (λ (x : List ℕ). lists_at st.laid c.before ++ (x ∷ ((at.q ∷ at.qs) ∷ (lists_at st.laid c.right ++ lists_at st.laid c.after)))) t.is

  x_first : IsFirst (l.ending (l.below t.x)) t.x
  x_first = first_there l fits (lists_at st.laid c.before) o.signs t.x t.xs
      ((at.q ∷ at.qs) ∷ (lists_at st.laid c.right ++ lists_at st.laid c.after)) st.shaped.parted
      (omega (arith, c.place, length-map c.before (map (sq_of st.laid))))
      (subst (λ (x : List (List ℕ)). Chain l o.signs x) cut_is st.chain)
      (at_head l fits o.signs (lists_at st.laid c.before
      ++ (t.x ∷ t.xs) ∷ ((at.q ∷ at.qs) ∷ (lists_at st.laid c.right ++ lists_at st.laid c.after)))
      (subst (λ (x : List (List ℕ)). Chain l o.signs x) cut_is st.chain) (subst (λ (x : List (List ℕ)). AtLeft l x) cut_is st.wall))

  q_end : last_from t.x (t.xs ++ (q ∷ [])) ≡ q
  q_end = last_append t.x t.xs q []

  whole : l.ending (l.below q) ≡ t.x ∷ (t.xs ++ (q ∷ []))
  whole = ap l.ending (v_is ∙ x_is) ∙ whole_run l fits.lists t.x (t.xs ++ (q ∷ [])) (run_end l t.x t.xs q t.run beside) x_first
      (subst (λ (z : ℕ). IsLast (l.ending (l.below z)) z) (sym q_end) (fits.go_on.on_right q q_is.0 t.goes_right).0)

  -- ---- counts

  open_is : (x : ℕ) → times_in x (lists_at st.laid o.segments)
      ≡ times_in x (lists_at st.laid c.before) + (times x (t.x ∷ t.xs)
      + (times x (at.q ∷ at.qs) + (times_in x (lists_at st.laid c.right) + times_in x (lists_at st.laid c.after))))
  open_is x = ap (times_in x) cut_is ∙ omega (
    arith,
    times_in-append x (lists_at st.laid c.before) ((t.x ∷ t.xs) ∷ ((at.q ∷ at.qs) ∷ (lists_at st.laid c.right ++ lists_at st.laid c.after))),
    times_in-append x (lists_at st.laid c.right) (lists_at st.laid c.after),
  )

  -- the square stands open
  pub p_open : 0 < times_in p (lists_at st.laid o.segments)
  p_open = omega (arith, open_is p, last_once t.x t.xs)

  -- the node on which the first square ends isn't closed
  pub v_out : times (l.below q) st.done ≡ 0
  v_out = ap (λ (w : ℕ). times w st.done) v_is ∙ omega (arith, st.open_times p p_low, p_open, st.done_once (l.above p))

  -- the node from which the first square hangs isn't closed
  pub u_out : times (l.above q) st.done ≡ 0
  u_out = ap (λ (w : ℕ). times w st.done) q_is.1 ∙ omega (
    arith,
    st.open_times at.q at.known,
    open_is at.q,
    cond_count-nat_eq_same at.q at.q refl,
    st.done_once (l.above at.q),
  )

  -- all that ends on u, and all but q that ends on v, hangs from closed nodes
  pub over_u : (x : ℕ) → x < l.squares → l.below x ≡ l.above q → 0 < times (l.above x) st.done
  over_u x k e = omega (
    arith,
    st.open_times x k,
    open_is x,
    ap (times x) at.whole,
    ending_times l fits x (l.below at.q) k,
    cond_count-nat_eq_same (l.below x) (l.below at.q) (e ∙ q_is.1),
  )

  -- all that ends on the one but the first square hangs from closed nodes
  pub over_v : (x : ℕ) → x < l.squares → (x ≡ q → ⊥) → l.below x ≡ l.below q → 0 < times (l.above x) st.done
  over_v x k n e = omega (
    arith,
    st.open_times x k,
    open_is x,
    ap (times x) whole,
    times-append x t.xs (q ∷ []),
    cond_count-nat_eq_other x q n,
    ending_times l fits x (l.below q) k,
    cond_count-nat_eq_same (l.below x) (l.below q) e,
  )

  -- what hangs from an open node ends on an open one
  pub up : (x : ℕ) → x < l.squares → times (l.above x) st.done ≡ 0 → times (l.below x) st.done ≡ 0
  up x k e = omega (arith, st.open_times x k, e)
