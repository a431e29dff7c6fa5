-- The moves of a sweep with the states between them.
use Rattle.std.proofs.Common.{List, Option, Some, [], ap, arith, inl, inr, length, refl, subst, suc, sym, zero, ℕ, ◌++◌, ◌+◌, ◌<◌, ◌∙◌, ◌∷◌, ◌≡◌, ◌≤◌, ◌⊎◌}
use Rattle.std.proofs.lemmas.List.{append-nil, append_assoc}
use Rattle.std.proofs.lemmas.Bool.{cases_eq}
use Rattle.bk_word.specs.Outline.{IsLegalMove, Outline, start}
use Rattle.bk_word.specs.Play.{AreLegalFrom, after_move, after_moves}
use Rattle.bk_word.specs.Word.{Move, Word}
use Rattle.bk_word_net.proofs.Outlines.Shape.{valley_in}
use Rattle.bk_word_net.proofs.Outlines.ValleyCut.{AtValley}
use Rattle.bk_layout.proofs.Lists.SquareLists.{sq_of}
use Rattle.bk_layout.proofs.Sweeps.Sweep.{State, ValleyAt, valley_at}
use Rattle.bk_layout.proofs.Sweeps.SweepEnd.{Ended, WholeSweep, bounded, ended}
use Rattle.bk_layout.proofs.Sweeps.SweepStart.{first_by_lines, first_by_node, first_free, first_legal, first_move, first_no_twins, first_state, left_wall}
use Rattle.bk_layout.proofs.Sweeps.SweepSteps.{by_lines, by_node, free, legal, move, no_twins, state_then}
use Rattle.bk_layout.proofs.Sweeps.WholeRuns.{Hung, hung_from}
use Rattle.bk_layout.specs.FreeWord.{AreFreeFrom, HangNoTwinsFrom, HangsNoTwins, IsFreeMove}
use Rattle.bk_layout.specs.Layout.{Fits, HasNoTwins, Layout}
use Rattle.bk_layout.specs.LayoutLaws.{HangByLinesFrom, HangByNodesFrom, HangsByLines, HangsNode}

-- the next state comes by the move that hangs all that hangs from the valley's node
pub record IsStep (l : Layout) (fits : Fits l) (o : Outline) (st : State l o) (mv : Move) (next : State l (after_move o mv)) : Type 0 where
  pub c : AtValley o
  pub at : ValleyAt l o st.laid c
  pub low : l.below at.q < l.bottom
  pub h : Hung l (l.below at.q)
  pub is : mv ≡ move l fits o st c at low h
  pub grows : next.laid ≡ st.laid ++ (h.first ∷ h.more)

-- the moves of a word as such steps, up to the end
abbrev pub Trace : (l : Layout) → Fits l → (o : Outline) → State l o → Word → Type 0
Trace l fits o st [] = Ended l o st
Trace l fits o st (mv ∷ w) = (next : State l (after_move o mv)) × IsStep l fits o st mv next × Trace l fits (after_move o mv) next w

-- ---- each state has a trace

onward : (l : Layout) (fits : Fits l) (o : Outline) (st : State l o)
    → ((then : Outline) (s : State l then) → length s.done ≡ suc (length st.done) → (w : Word) × Trace l fits then s w) → (w : Word) × Trace l fits o st w
onward l fits o st more = cases (cases_eq (l.below at.q) l.bottom)
  where
    c : AtValley o
    c = valley_in o st.shaped

    at : ValleyAt l o st.laid c
    at = valley_at l fits o st.laid c st.chain st.wall

    less : (a b : ℕ) → a ≤ b → (a ≡ b → ⊥) → a < b
    less a b h n = grind arith

    step : (low : l.below at.q < l.bottom) (h : Hung l (l.below at.q)) (then : State l (after_move o (move l fits o st c at low h)))
        → then.laid ≡ st.laid ++ (h.first ∷ h.more)
        → (w : Word) × Trace l fits (after_move o (move l fits o st c at low h)) then w → (w : Word) × Trace l fits o st w
    step low h then laid (w, tr) = (move l fits o st c at low h ∷ w, (then, record { c = c; at = at; low = low; h = h; is = refl; grows = laid }, tr))

    going : l.below at.q < l.bottom → (w : Word) × Trace l fits o st w
    going low = let h = hung_from l fits (l.below at.q) low in
        let s = state_then l fits o st c at low h in
        step low h s.0 s.2 (more (after_move o (move l fits o st c at low h)) s.0 s.1)

    cases : (l.below at.q ≡ l.bottom) ⊎ (l.below at.q ≡ l.bottom → ⊥) → (w : Word) × Trace l fits o st w
    cases (inl e) = ([], ended l o st c at e)
    cases (inr n) = going (less (l.below at.q) l.bottom (fits.nodes.ends_below at.q at.known).1 n)

-- from each state a trace leads to the end
pub traced : (l : Layout) (fits : Fits l) (steps : ℕ) (o : Outline) (st : State l o) → l.bottom ≤ length st.done + steps → (w : Word) × Trace l fits o st w
traced l fits zero o st enough = onward l fits o st (λ then s e. absurd (omega (arith, e, enough, bounded l then s)))
traced l fits (suc steps) o st enough = onward l fits o st (λ then s e. traced l fits steps then s (omega (arith, e, enough)))

-- ---- what a trace tells of its word

-- what the sweep of a layout gives of its word
pub record Facts (l : Layout) (o : Outline) (st : State l o) (w : Word) : Type 0 where
  pub legal : AreLegalFrom o w
  pub free : AreFreeFrom o w
  pub no_twins : HasNoTwins l → HangNoTwinsFrom o w
  pub last : State l (after_moves o w)
  pub end : Ended l (after_moves o w) last
  pub more : List ℕ
  pub grows : last.laid ≡ st.laid ++ more
  pub lines : HangByLinesFrom l (sq_of last.laid) o w
  pub nodes : HangByNodesFrom l (sq_of last.laid) o w

-- the word of a trace is legal and free, its squares hang along the layout's lines and nodes, and at its end all are laid
pub facts : (l : Layout) (fits : Fits l) (o : Outline) (st : State l o) (w : Word) → Trace l fits o st w → Facts l o st w
facts l fits o st [] end = record {
  legal = tt;
  free = tt;
  no_twins = λ n. tt;
  last = st;
  end = end;
  more = [];
  grows =
      sym (append-nil st.laid);
  lines = tt;
  nodes = tt;
}
facts l fits o st (mv ∷ w) tr = from (facts l fits (after_move o mv) tr.0 w tr.2)
  where
    s : IsStep l fits o st mv tr.0
    s = tr.1

    from : Facts l (after_move o mv) tr.0 w → Facts l o st (mv ∷ w)
    from f = record {
      legal = (subst (λ (z : Move). IsLegalMove o z) (sym s.is) (legal l fits o st s.c s.at s.low s.h), f.legal);
      free = (subst (λ (z : Move). IsFreeMove o z) (sym s.is) (free l fits o st s.c s.at s.low s.h), f.free);
      no_twins = λ n. (subst (λ (z : Move). HangsNoTwins o z) (sym s.is) (no_twins l fits o st s.c s.at s.low s.h n), f.no_twins n);
      last = f.last;
      end = f.end;
      more = (s.h.first ∷ s.h.more) ++ f.more;
      grows = all ∙ append_assoc st.laid (s.h.first ∷ s.h.more) f.more;
      lines = (
        subst (λ (z : Move). HangsByLines l (sq_of f.last.laid) o z) (sym s.is)
            (subst (λ (xs : List ℕ). HangsByLines l (sq_of xs) o (move l fits o st s.c s.at s.low s.h)) (sym all)
            (by_lines l fits o st s.c s.at s.low s.h f.more)),
        f.lines,
      );
      nodes = (
        subst (λ (z : Move). HangsNode l (sq_of f.last.laid) o z) (sym s.is)
            (subst (λ (xs : List ℕ). HangsNode l (sq_of xs) o (move l fits o st s.c s.at s.low s.h)) (sym all)
            (by_node l fits o st s.c s.at s.low s.h f.more)),
        f.nodes,
      );
    }
      where
        all : f.last.laid ≡ (st.laid ++ (s.h.first ∷ s.h.more)) ++ f.more
        all = f.grows ∙ ap (λ (xs : List ℕ). xs ++ f.more) s.grows

-- ---- whole traces

-- a first move with a trace behind it
pub record Whole (l : Layout) (fits : Fits l) (mv : Move) (w : Word) : Type 0 where
  pub h : Hung l 0
  pub is : mv ≡ first_move l fits h
  pub first : State l (after_move start mv)
  pub grows : first.laid ≡ h.first ∷ h.more
  pub trace : Trace l fits (after_move start mv) first w

-- each layout that fits has one
pub whole_from : (l : Layout) (fits : Fits l) (h : Hung l 0) → (w : Word) × Whole l fits (first_move l fits h) w
whole_from l fits h = let t = traced l fits l.bottom (after_move start (first_move l fits h)) (first_state l fits h).0 (omega arith) in
    (t.0, record { h = h; is = refl; first = (first_state l fits h).0; grows = (first_state l fits h).1; trace = t.1 })

-- a whole trace is a whole sweep of its word
pub sweep_of : (l : Layout) (fits : Fits l) (mv : Move) (w : Word) → Whole l fits mv w → (s : WholeSweep l) × (s.word ≡ mv ∷ w)
sweep_of l fits mv w whole = from (facts l fits (after_move start mv) whole.first w whole.trace)
  where
    from : Facts l (after_move start mv) whole.first w → (s : WholeSweep l) × (s.word ≡ mv ∷ w)
    from f = (
      record {
        word = mv ∷ w;
        some = omega arith;
        legal = (subst (λ (z : Move). IsLegalMove start z) (sym whole.is) (first_legal l fits whole.h), f.legal);
        free = (subst (λ (z : Move). IsFreeMove start z) (sym whole.is) (first_free l fits whole.h), f.free);
        no_twins = λ n. (subst (λ (z : Move). HangsNoTwins start z) (sym whole.is) (first_no_twins l fits whole.h n), f.no_twins n);
        first_count = λ z e. sym (ap (λ (z : Move). z.count) (same z e)) ∙ ap (λ (z : Move). z.count) whole.is
            ∙ sym (ap (λ (xs : List ℕ). length xs) whole.h.is);
        last = f.last;
        end = f.end;
        wall = ap (λ (xs : List ℕ). l.left (sq_of xs 1)) all ∙ left_wall l fits whole.h;
        lines = (
          subst (λ (z : Move). HangsByLines l (sq_of f.last.laid) start z) (sym whole.is)
              (subst (λ (xs : List ℕ). HangsByLines l (sq_of xs) start (first_move l fits whole.h)) (sym all) (first_by_lines l fits whole.h f.more)),
          f.lines,
        );
        nodes = (
          subst (λ (z : Move). HangsNode l (sq_of f.last.laid) start z) (sym whole.is)
              (subst (λ (xs : List ℕ). HangsNode l (sq_of xs) start (first_move l fits whole.h)) (sym all) (first_by_node l fits whole.h f.more)),
          f.nodes,
        );
      },
      refl,
    )
      where
        all : f.last.laid ≡ (whole.h.first ∷ whole.h.more) ++ f.more
        all = f.grows ∙ ap (λ (xs : List ℕ). xs ++ f.more) whole.grows

        same : (z : Move) → ◌≡◌ {A = Option Move} (Some mv) (Some z) → mv ≡ z
        same z e = cc

-- each layout that fits is swept to its end: each move closes one node more
pub sweep : (l : Layout) → Fits l → WholeSweep l
sweep l fits = let h = hung_from l fits 0 fits.some in
    let t = whole_from l fits h in
    (sweep_of l fits (first_move l fits h) t.0 t.1).0
