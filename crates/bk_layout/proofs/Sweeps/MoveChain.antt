-- The segments just after a move of the sweep, each still apart, and the signs between them.
use Rattle.std.proofs.Common.{List, [], ap, arith, length, map, slice_get, subst, suc, sym, ℕ, ◌++◌, ◌+◌, ◌<◌, ◌∙◌, ◌∷◌, ◌≡◌}
use Rattle.std.proofs.lemmas.List.{length-append, length-map}
use Rattle.bk_word.specs.Outline.{Outline}
use Rattle.bk_word_net.proofs.Outlines.ValleyCut.{AtValley}
use Rattle.bk_layout.proofs.Sweeps.Chains.{Chain, last_from, singles}
use Rattle.bk_layout.proofs.Lists.SquareLists.{lists_at, sq_of}
use Rattle.bk_layout.proofs.Sweeps.Sweep.{State, ValleyAt}
use Rattle.bk_layout.proofs.Sweeps.SweepSteps.{move}
use Rattle.bk_layout.proofs.Sweeps.ValleySides.{AtLeft, many_signs}
use Rattle.bk_layout.proofs.Sweeps.WholeRuns.{Hung, is_last}
use Rattle.bk_layout.specs.Layout.{Fits, IsLast, Layout}

-- the segments just after a move, each new square still apart
abbrev pub apart_of : List ℕ → (o : Outline) → AtValley o → ℕ → List ℕ → List (List ℕ)
apart_of laid o v first more = lists_at laid v.before
    ++ (lists_at laid v.left ++ ((first ∷ []) ∷ (singles more ++ (lists_at laid v.right ++ lists_at laid v.after))))

module _ (l : Layout) (fits : Fits l) (o : Outline) (st : State l o) (v : AtValley o) (at : ValleyAt l o st.laid v)
    (low : l.below at.q < l.bottom) (h : Hung l (l.below at.q)) where
  last_there : IsLast (l.ending (l.below at.q)) (last_from at.q at.qs)
  last_there = subst (λ (xs : List ℕ). IsLast xs (last_from at.q at.qs)) (sym at.whole) (is_last at.q at.qs)

  left_line : l.left h.first ≡ l.left at.q
  left_line = fits.lines.same_left (l.below at.q) at.q h.first at.left.first (ap (λ (xs : List ℕ). slice_get xs 0) h.is)

  right_line : l.right (last_from h.first h.more) ≡ l.right (last_from at.q at.qs)
  right_line = fits.lines.same_right (l.below at.q) (last_from at.q at.qs) (last_from h.first h.more) last_there
      (subst (λ (xs : List ℕ). IsLast xs (last_from h.first h.more)) (sym h.is) (is_last h.first h.more))

  -- the segments just after a move, each new square still apart, are a chain by the signs around the move
  pub marks_chain : Chain l (v.before_signs ++ ((move l fits o st v at low h).signs ++ v.after_signs)) (apart_of st.laid o v h.first h.more)
      × AtLeft l (apart_of st.laid o v h.first h.more)
  marks_chain = at.left.hang h.first [] (h.more ++ at.right.beyond)
      (singles h.more ++ (lists_at st.laid v.right ++ lists_at st.laid v.after)) v.after_signs left_line
      (at.right.hang h.first h.more h.known h.linked right_line)

  -- the move has a sign between each two squares that it sets side by side
  pub many_marks : length (move l fits o st v at low h).signs + 1 ≡ length v.left + (suc (length h.more) + length v.right)
  many_marks = omega (
    arith,
    at.left.beyond_many ∙ length-map v.left (map (sq_of st.laid)),
    at.right.beyond_many ∙ length-map v.right (map (sq_of st.laid)),
    many_signs l (at.left.beyond ++ (h.first ∷ (h.more ++ at.right.beyond)))
        (omega (arith, length-append at.left.beyond (h.first ∷ (h.more ++ at.right.beyond)))),
    length-append at.left.beyond (h.first ∷ (h.more ++ at.right.beyond)),
    length-append h.more at.right.beyond,
  )
