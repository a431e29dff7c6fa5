-- A later move that begins with even and above: its first square may be reversed, since the nodes have a rank that also rises
-- after that.
use Rattle.std.proofs.Common.{Bool, List, ap, arith, cond, inl, inr, length, nat_eq, refl, slice_get, suc, sym, ℕ, ◌+◌, ◌<◌, ◌∙◌, ◌≡◌}
use Rattle.std.proofs.Common.{◌≤◌, ◌⊎◌}
use Rattle.std.proofs.lemmas.Bool.{cases_eq, eq-eqb, ne_eqb}
use Rattle.bk_laws.proofs.Occurrences.{times}
use Rattle.bk_laws.proofs.NumberOrder.{zero_or_positive}
use Rattle.bk_word.specs.Outline.{Outline}
use Rattle.bk_word_net.proofs.Outlines.ValleyCut.{AtValley}
use Rattle.bk_layout.proofs.Sweeps.Chains.{last_from}
use Rattle.bk_layout.proofs.Sweeps.Sweep.{State, ValleyAt}
use Rattle.bk_layout.proofs.Sweeps.WholeRuns.{Hung}
use Rattle.bk_layout.specs.Layout.{Fits, Layout}
use Rattle.bk_layout.proofs.Lists.NodeLists.{same_as_one}
use Rattle.bk_layout.proofs.Lists.Pieces.{put_at, put_other}
use Rattle.bk_layout.specs.Reversal.{put}
use Rattle.bk_layout.proofs.Sweeps.NodeHeads.{total, in_total}
use Rattle.bk_layout.proofs.Reversals.EvenAbove.{Bad, BeginsEvenAbove, over_u, over_v, p_low, p_open, q_is, t, u_out, up, v_out}

module _ (l : Layout) (fits : Fits l) (o : Outline) (st : State l o) (c : AtValley o) (at : ValleyAt l o st.laid c)
    (low : l.below at.q < l.bottom) (h : Hung l (l.below at.q)) (begins : BeginsEvenAbove l fits o st c at low h) where
  abbrev q : ℕ
  q = h.first

  abbrev p : ℕ
  p = last_from (t l fits o st c at low h begins).x (t l fits o st c at low h begins).xs

  -- ---- the rank: closed nodes, u, v, the others

  abbrev old : ℕ → ℕ
  old = fits.nodes.rank

  abbrev top : ℕ
  top = suc (total fits.nodes.rank st.done)

  abbrev late : ℕ → ℕ
  late = put (l.above q) top (put (l.below q) (top + 1) (λ w. top + 2 + old w))

  abbrev rank : ℕ → ℕ
  rank w = cond (nat_eq (times w st.done) 0) (late w) (old w)

  u_not_v : l.above q ≡ l.below q → ⊥
  u_not_v e = omega (arith, fits.nodes.rises q (q_is l fits o st c at low h begins).0, ap old e)

  rank_out : (w : ℕ) → times w st.done ≡ 0 → rank w ≡ late w
  rank_out w e = ap (λ (b : Bool). cond {A = ℕ} b (late w) (old w)) (eq-eqb (times w st.done) 0 e)

  rank_in : (w : ℕ) → 0 < times w st.done → rank w ≡ old w
  rank_in w e = ap (λ (b : Bool). cond {A = ℕ} b (late w) (old w)) (ne_eqb (times w st.done) 0 (λ f. omega (arith, e, f)))

  old_low : (w : ℕ) → 0 < times w st.done → old w < top
  old_low w e = omega (arith, in_total fits.nodes.rank w st.done e)

  rank_u : rank (l.above q) ≡ top
  rank_u = rank_out (l.above q) (u_out l fits o st c at low h begins) ∙ put_at (l.above q) top (put (l.below q) (top + 1) (λ w. top + 2 + old
      w)) (l.above q) refl

  rank_v : rank (l.below q) ≡ top + 1
  rank_v = rank_out (l.below q) (v_out l fits o st c at low h begins) ∙ put_other (l.above q) top (put (l.below q) (top + 1) (λ w. top + 2 +
      old w)) (l.below q)
      (λ e. u_not_v (sym e)) ∙ put_at (l.below q) (top + 1) (λ w. top + 2 + old w) (l.below q) refl

  rank_w : (w : ℕ) → times w st.done ≡ 0 → (w ≡ l.above q → ⊥) → (w ≡ l.below q → ⊥) → rank w ≡ top + 2 + old w
  rank_w w e a b = rank_out w e ∙ put_other (l.above q) top (put (l.below q) (top + 1) (λ w. top + 2 + old w)) w a
      ∙ put_other (l.below q) (top + 1) (λ w. top + 2 + old w) w b

  which : (w : ℕ) → (w ≡ l.above q) ⊎ ((w ≡ l.below q) ⊎ ((w ≡ l.above q → ⊥) × (w ≡ l.below q → ⊥)))
  which = same_as_one (l.above q) (l.below q)

  out_high : (w : ℕ) → times w st.done ≡ 0 → top ≤ rank w
  out_high w e = on (which w)
    where
      on : (w ≡ l.above q) ⊎ ((w ≡ l.below q) ⊎ ((w ≡ l.above q → ⊥) × (w ≡ l.below q → ⊥))) → top ≤ rank w
      on (inl a) = omega (arith, ap rank a, rank_u)
      on (inr (inl a)) = omega (arith, ap rank a, rank_v)
      on (inr (inr (a, b))) = omega (arith, rank_w w e a b)

  rises : (x : ℕ) → x < l.squares → rank (l.above x) < rank (l.below x)
  rises x k = on (zero_or_positive (times (l.above x) st.done)) (zero_or_positive (times (l.below x) st.done))
    where
      ends : times (l.above x) st.done ≡ 0 → times (l.below x) st.done ≡ 0 → (l.above x ≡ l.above q)
          ⊎ ((l.above x ≡ l.below q) ⊎ ((l.above x ≡ l.above q → ⊥) × (l.above x ≡ l.below q → ⊥)))
          → (l.below x ≡ l.above q) ⊎ ((l.below x ≡ l.below q) ⊎ ((l.below x ≡ l.above q → ⊥) × (l.below x ≡ l.below q → ⊥))) → (x ≡ q)
          ⊎ (x ≡ q → ⊥) → rank (l.above x) < rank (l.below x)
      ends a b i j (inl e) = omega (arith, ap (λ (z : ℕ). rank (l.above z)) e, ap (λ (z : ℕ). rank (l.below z)) e, rank_u, rank_v)
      ends a b i (inl j) (inr e) = absurd (omega (arith, over_u l fits o st c at low h begins x k j, a))
      ends a b i (inr (inl j)) (inr e) = absurd (omega (arith, over_v l fits o st c at low h begins x k e j, a))
      ends a b (inl i) (inr (inr (j, m))) (inr e) = omega (arith, ap rank i, rank_u, rank_w (l.below x) b j m)
      ends a b (inr (inl i)) (inr (inr (j, m))) (inr e) = omega (arith, ap rank i, rank_v, rank_w (l.below x) b j m)
      ends a b (inr (inr (i, n))) (inr (inr (j, m))) (inr e) = omega (arith, rank_w (l.above x) a i n, rank_w (l.below x) b j m, fits.nodes.rises x k)

      on : (times (l.above x) st.done ≡ 0) ⊎ (0 < times (l.above x) st.done) → (times (l.below x) st.done ≡ 0)
          ⊎ (0 < times (l.below x) st.done) → rank (l.above x) < rank (l.below x)
      on (inl a) b = ends a (up l fits o st c at low h begins x k a) (which (l.above x)) (which (l.below x)) (cases_eq x q)
      on (inr a) (inl b) = omega (arith, rank_in (l.above x) a, old_low (l.above x) a, out_high (l.below x) b)
      on (inr a) (inr b) = omega (arith, rank_in (l.above x) a, rank_in (l.below x) b, fits.nodes.rises x k)

  hangs_beside : (x : ℕ) → x < l.squares → (x ≡ q → ⊥) → l.above x ≡ l.above q → rank (l.below q) < rank (l.below x)
  hangs_beside x k n e = on (which (l.below x))
    where
      out : times (l.above x) st.done ≡ 0
      out = ap (λ (w : ℕ). times w st.done) e ∙ u_out l fits o st c at low h begins

      on : (l.below x ≡ l.above q) ⊎ ((l.below x ≡ l.below q) ⊎ ((l.below x ≡ l.above q → ⊥) × (l.below x ≡ l.below q → ⊥)))
          → rank (l.below q) < rank (l.below x)
      on (inl j) = absurd (omega (arith, over_u l fits o st c at low h begins x k j, out))
      on (inr (inl j)) = absurd (omega (arith, over_v l fits o st c at low h begins x k n j, out))
      on (inr (inr (j, m))) = omega (arith, rank_v, rank_w (l.below x) (up l fits o st c at low h begins x k out) j m)

  ends_beside : (x : ℕ) → x < l.squares → (x ≡ q → ⊥) → l.below x ≡ l.below q → rank (l.above x) < rank (l.above q)
  ends_beside x k n e = omega (
    arith,
    rank_in (l.above x) (over_v l fits o st c at low h begins x k n e),
    old_low (l.above x) (over_v l fits o st c at low h begins x k n e),
    rank_u,
  )

  -- a move with a left neighbour that begins with even and above gives one: its first square
  pub bad_move : Bad l o st h.first at.q
  bad_move = record {
    p = p;
    can = record {
      known = (q_is l fits o st c at low h begins).0;
      before = p_low l fits o st c at low h begins;
      later = omega (arith, (q_is l fits o st c at low h begins).1, (fits.nodes.ends_below at.q at.known).0);
      first = ap (λ (w : ℕ). slice_get (l.hanging w) 0) (q_is l fits o st c at low h begins).1 ∙ ap (λ (xs : List ℕ). slice_get xs 0) h.is;
      two = omega (arith, ap (λ (w : ℕ). length (l.hanging w)) (q_is l fits o st c at low h begins).1, ap (λ (xs : List ℕ). length xs) h.is, begins.two);
      over = ap (λ (w : ℕ). slice_get (l.ending w) 0) (q_is l fits o st c at low h begins).1 ∙ at.left.first;
      beside = (t l fits o st c at low h begins).meet.0;
      even_at_left = (t l fits o st c at low h begins).goes_left;
      even_before = (t l fits o st c at low h begins).before_goes;
      above_at_right = (t l fits o st c at low h begins).goes_right;
      rank = rank;
      rises = λ x k. rises x k;
      hangs_beside = λ x k n e. hangs_beside x k n e;
      ends_beside = λ x k n e. ends_beside x k n e;
    };
    p_laid = omega (
      arith,
      st.laid_times p (p_low l fits o st c at low h begins),
      st.open_times p (p_low l fits o st c at low h begins),
      p_open l fits o st c at low h begins,
    );
    q_not = omega (arith, st.laid_times q (q_is l fits o st c at low h begins).0, u_out l fits o st c at low h begins);
    v_not = v_out l fits o st c at low h begins;
  }
