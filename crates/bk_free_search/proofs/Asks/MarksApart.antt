-- Marks of segments before they are joined: those that they have by themselves, and those of the segments that they are part of.
use Rattle.std.specs.List.{list_any}
use Rattle.std.proofs.Common.{Bool, List, [], arith, false, length, nat_le, refl, slice_index_or, subst, suc, sym, true, zero, ℕ}
use Rattle.std.proofs.Common.{◌||◌, ◌++◌, ◌+◌, ◌<◌, ◌∙◌, ◌∷◌, ◌≡◌, ◌≤◌}
use Rattle.std.proofs.lemmas.Bool.{le-leb, or_left, or_right}
use Rattle.std.proofs.lemmas.List.{length-append}
use Rattle.bk_laws.proofs.AllOfLists.{list_any-append_left, list_any-append_right}
use Rattle.bk_laws.proofs.NumberTests.{nat_le-weaken}
use Rattle.bk_laws.proofs.Truth.{or-elim, or-monotone}
use Rattle.bk_word.specs.Play.{before_first_list, joined}
use Rattle.bk_word.specs.declared.Sign.{Sign}
use Rattle.bk_word.specs.declared.Sign.TheVariants.{Above, Even, Under}
use Rattle.bk_catalogue.specs.VerticalCut.{begins_on_line, next_on_line, on_line}
use Rattle.bk_layout.specs.NormalCuts.{touched_or_wide}
use Rattle.bk_free_search.specs.Apart.{shared}
use Rattle.bk_free_search.proofs.Asks.SharedMarks.{mark_of, shared_first, shared_more, shared_none}

any_first : (lines : List Bool) (s : List ℕ) → begins_on_line lines s ≡ true → list_any (on_line lines) s ≡ true
any_first lines [] e = absurd (cc)
any_first lines (q ∷ s) e = or_left (on_line lines q) (list_any (on_line lines) s) e

-- ---- a segment that is joined to the next one

module _ (top : ℕ) (lines : List Bool) where
  next_joined : (signs : List Sign) (segments : List (List ℕ)) → next_on_line lines segments ≡ true
      → next_on_line lines (joined signs segments) ≡ true
  next_joined signs [] e = absurd (cc)
  next_joined [] (s ∷ segments) e = e
  next_joined (Above ∷ signs) (s ∷ segments) e = e
  next_joined (Under ∷ signs) (s ∷ segments) e = e
  next_joined (Even ∷ signs) (s ∷ segments) e = before s (joined signs segments) e
    where
      begins-append : (s t : List ℕ) → begins_on_line lines s ≡ true → begins_on_line lines (s ++ t) ≡ true
      begins-append [] t e = absurd (cc)
      begins-append (q ∷ s) t e = e

      before : (s : List ℕ) (rest : List (List ℕ)) → begins_on_line lines s ≡ true → next_on_line lines (before_first_list s rest) ≡ true
      before s [] e = e
      before s (t ∷ rest) e = begins-append s t e

  -- it keeps its mark where what stands behind it is joined
  mark_joined : (signs : List Sign) (s : List ℕ) (segments : List (List ℕ)) → mark_of top lines s segments ≡ true
      → mark_of top lines s (joined signs segments) ≡ true
  mark_joined signs s segments = or-monotone (list_any (on_line lines) s || next_on_line lines segments) (nat_le top (length s))
      (list_any (on_line lines) s || next_on_line lines (joined signs segments)) (nat_le top (length s))
      (or-monotone (list_any (on_line lines) s) (next_on_line lines segments) (list_any (on_line lines) s) (next_on_line lines (joined signs segments)) (λ e. e)
      (next_joined signs segments)) (λ e. e)

  -- a segment keeps its mark where it grows at its left
  mark_right : (s t : List ℕ) (rest : List (List ℕ)) → mark_of top lines t rest ≡ true → mark_of top lines (s ++ t) rest ≡ true
  mark_right s t rest = or-monotone (list_any (on_line lines) t || next_on_line lines rest) (nat_le top (length t))
      (list_any (on_line lines) (s ++ t) || next_on_line lines rest) (nat_le top (length (s ++ t)))
      (or-monotone (list_any (on_line lines) t) (next_on_line lines rest) (list_any (on_line lines) (s ++ t)) (next_on_line lines rest)
      (list_any-append_right (on_line lines) s t) (λ e. e)) (nat_le-weaken top (length t) (length (s ++ t)) (omega (arith, length-append s t)))

  mark_left : (s t : List ℕ) (rest : List (List ℕ)) → mark_of top lines s (t ∷ rest) ≡ true → mark_of top lines (s ++ t) rest ≡ true
  mark_left s t rest = or-monotone (list_any (on_line lines) s || begins_on_line lines t) (nat_le top (length s))
      (list_any (on_line lines) (s ++ t) || next_on_line lines rest) (nat_le top (length (s ++ t)))
      (λ e. or_left (list_any (on_line lines) (s ++ t)) (next_on_line lines rest) (or-elim (list_any (on_line lines) s) (begins_on_line lines t)
      (list_any-append_left (on_line lines) s t) (λ f. list_any-append_right (on_line lines) s t (any_first lines t f)) e))
      (nat_le-weaken top (length s) (length (s ++ t)) (omega (arith, length-append s t)))

  -- its own mark
  own : (signs : List Sign) (s : List ℕ) (rest : List (List ℕ)) (i : ℕ)
      → ((j : ℕ) → slice_index_or (touched_or_wide top lines rest) j false ≡ true
      → slice_index_or (shared signs (touched_or_wide top lines (joined signs rest))) j false ≡ true)
      → slice_index_or (touched_or_wide top lines (s ∷ rest)) i false ≡ true
      → (all : List (List ℕ)) → joined signs rest ≡ all → slice_index_or (shared (Even ∷ signs) (touched_or_wide top lines
      (before_first_list s all))) i false ≡ true
  own signs s rest zero each e [] is =
      subst (λ (l : List (List ℕ)). mark_of top lines s l ≡ true) is (mark_joined signs s rest e)
  own signs s rest (suc j) each e [] is = absurd (shared_none signs j
      (subst (λ (l : List (List ℕ)). slice_index_or (shared signs (touched_or_wide top lines l)) j false ≡ true) is (each j e)))
  own signs s rest zero each e (t ∷ all) is = mark_left s t all
      (subst (λ (l : List (List ℕ)). mark_of top lines s l ≡ true) is (mark_joined signs s rest e))
  own signs s rest (suc j) each e (t ∷ all) is = shared_more signs (mark_of top lines t all) (mark_of top lines (s ++ t) all) (touched_or_wide top lines all) j
      (mark_right s t all)
      (subst (λ (l : List (List ℕ)). slice_index_or (shared signs (touched_or_wide top lines l)) j false ≡ true) is (each j e))

  -- each segment has as its share the mark that it has apart
  pub kept_shared : (signs : List Sign) (segments : List (List ℕ)) (i : ℕ) → slice_index_or (touched_or_wide top lines segments) i false ≡ true
      → slice_index_or (shared signs (touched_or_wide top lines (joined signs segments))) i false ≡ true
  kept_shared signs [] i e = absurd (cc)
  kept_shared [] (s ∷ segments) i e = e
  kept_shared (Above ∷ signs) (s ∷ segments) zero e = mark_joined signs s segments e
  kept_shared (Above ∷ signs) (s ∷ segments) (suc i) e = kept_shared signs segments i e
  kept_shared (Under ∷ signs) (s ∷ segments) zero e = mark_joined signs s segments e
  kept_shared (Under ∷ signs) (s ∷ segments) (suc i) e = kept_shared signs segments i e
  kept_shared (Even ∷ signs) (s ∷ segments) i e = own signs s segments i (kept_shared signs segments) e (joined signs segments) refl

  -- ---- two segments with the sign even between them

  -- the first of joined segments
  abbrev HasFirst : ℕ → List (List ℕ) → Type 0
  HasFirst k segments = (t : List ℕ) × (rest : List (List ℕ)) × (segments ≡ t ∷ rest) × (k ≤ length t)

  first_of : (signs : List Sign) (u : List ℕ) (segments : List (List ℕ)) → HasFirst (length u) (joined signs (u ∷ segments))
  first_of [] u segments = (u, segments, refl, omega arith)
  first_of (Above ∷ signs) u segments = (u, joined signs segments, refl, omega arith)
  first_of (Under ∷ signs) u segments = (u, joined signs segments, refl, omega arith)
  first_of (Even ∷ signs) u segments = before (joined signs segments)
    where
      before : (rest : List (List ℕ)) → HasFirst (length u) (before_first_list u rest)
      before [] = (u, [], refl, omega arith)
      before (t ∷ rest) = (u ++ t, rest, refl, omega (arith, length-append u t))

  -- where both together have as many squares as the top, each shares a mark
  pub both_wide : (signs : List Sign) (segments : List (List ℕ)) (i : ℕ) → slice_index_or signs i Above ≡ Even → suc i < length segments
      → top ≤ length (slice_index_or segments i []) + length (slice_index_or segments (suc i) [])
      → (slice_index_or (shared signs (touched_or_wide top lines (joined signs segments))) i false ≡ true)
      × (slice_index_or (shared signs (touched_or_wide top lines (joined signs segments))) (suc i) false ≡ true)
  both_wide [] segments i e low wide = absurd (cc)
  both_wide signs [] i e low wide = absurd (omega (arith, low))
  both_wide signs (s ∷ []) i e low wide = absurd (omega (arith, low))
  both_wide (Above ∷ signs) (s ∷ u ∷ segments) zero e low wide = absurd (cc)
  both_wide (Under ∷ signs) (s ∷ u ∷ segments) zero e low wide = absurd (cc)
  both_wide (Even ∷ signs) (s ∷ u ∷ segments) zero e low wide = at (first_of signs u segments)
    where
      at : HasFirst (length u) (joined signs (u ∷ segments))
          → (slice_index_or (shared (Even ∷ signs) (touched_or_wide top lines (joined (Even ∷ signs) (s ∷ u ∷ segments)))) 0 false ≡ true)
          × (slice_index_or (shared (Even ∷ signs) (touched_or_wide top lines (joined (Even ∷ signs) (s ∷ u ∷ segments)))) 1 false ≡ true)
      at f = subst (λ (l : List (List ℕ)). (slice_index_or (shared (Even ∷ signs) (touched_or_wide top lines (before_first_list s l))) 0 false ≡ true)
          × (slice_index_or (shared (Even ∷ signs) (touched_or_wide top lines (before_first_list s l))) 1 false ≡ true)) (sym f.2)
          (mark, shared_first signs (mark_of top lines (s ++ f.0) f.1) (touched_or_wide top lines f.1) ∙ mark)
        where
          mark : mark_of top lines (s ++ f.0) f.1 ≡ true
          mark = or_right (list_any (on_line lines) (s ++ f.0) || next_on_line lines f.1) (nat_le top (length (s ++ f.0)))
              (le-leb top (length (s ++ f.0)) (omega (arith, wide, f.3, length-append s f.0)))
  both_wide (Above ∷ signs) (s ∷ u ∷ segments) (suc i) e low wide = both_wide signs (u ∷ segments) i e (omega (arith, low)) wide
  both_wide (Under ∷ signs) (s ∷ u ∷ segments) (suc i) e low wide = both_wide signs (u ∷ segments) i e (omega (arith, low)) wide
  both_wide (Even ∷ signs) (s ∷ u ∷ segments) (suc i) e low wide = at (first_of signs u segments) (both_wide signs (u ∷ segments) i e (omega (arith, low)) wide)
    where
      at : HasFirst (length u) (joined signs (u ∷ segments))
          → (slice_index_or (shared signs (touched_or_wide top lines (joined signs (u ∷ segments)))) i false ≡ true)
          × (slice_index_or (shared signs (touched_or_wide top lines (joined signs (u ∷ segments)))) (suc i) false ≡ true)
          → (slice_index_or (shared (Even ∷ signs) (touched_or_wide top lines (joined (Even ∷ signs) (s ∷ u ∷ segments)))) (suc i) false ≡ true)
          × (slice_index_or (shared (Even ∷ signs) (touched_or_wide top lines (joined (Even ∷ signs) (s ∷ u ∷ segments)))) (suc (suc i)) false ≡ true)
      at f r = subst (λ (l : List (List ℕ)). (slice_index_or (shared signs (touched_or_wide top lines l)) i false ≡ true)
          × (slice_index_or (shared signs (touched_or_wide top lines l)) (suc i) false ≡ true)
          → (slice_index_or (shared (Even ∷ signs) (touched_or_wide top lines (before_first_list s l))) (suc i) false ≡ true)
          × (slice_index_or (shared (Even ∷ signs) (touched_or_wide top lines (before_first_list s l))) (suc (suc i)) false ≡ true)) (sym f.2) grow r
        where
          grow : (slice_index_or (shared signs (touched_or_wide top lines (f.0 ∷ f.1))) i false ≡ true)
              × (slice_index_or (shared signs (touched_or_wide top lines (f.0 ∷ f.1))) (suc i) false ≡ true)
              → (slice_index_or (shared signs (touched_or_wide top lines ((s ++ f.0) ∷ f.1))) i false ≡ true)
              × (slice_index_or (shared signs (touched_or_wide top lines ((s ++ f.0) ∷ f.1))) (suc i) false ≡ true)
          grow g = (
            shared_more signs (mark_of top lines f.0 f.1) (mark_of top lines (s ++ f.0) f.1) (touched_or_wide top lines f.1) i
                (mark_right s f.0 f.1) g.0,
            shared_more signs (mark_of top lines f.0 f.1) (mark_of top lines (s ++ f.0) f.1) (touched_or_wide top lines f.1) (suc i)
                (mark_right s f.0 f.1) g.1,
          )
