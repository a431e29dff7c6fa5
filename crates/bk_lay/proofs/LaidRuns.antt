-- The squares under a valley, laid: how they are shown among the others, and the runs of columns after them.
use Rattle.std.specs.List.{AllZip}
use Rattle.std.proofs.Common.{List, None, Some, [], ap, arith, inl, inr, length, map, refl, slice_get, subst, suc, sym, zero, ℕ, ◌++◌, ◌+◌, ◌<◌, ◌∙◌, ◌∷◌}
use Rattle.std.proofs.Common.{◌≡◌, ◌≤◌, ◌⊎◌}
use Rattle.std.proofs.lemmas.List.{append_assoc, length-append}
use Rattle.bk_laws.proofs.ListPlaces.{get_append, get_last}
use Rattle.bk_tiling.proofs.Cells.{in_all}
use Rattle.bk_tiling.proofs.Rows.{Chain}
use Rattle.bk_tiling.specs.Column.{AreRuns, IsLevel}
use Rattle.bk_tiling.specs.declared.Segment.{Segment}
use Rattle.bk_tiling.specs.Tiling.{IsOneOf, IsTiling, Tiling}
use Rattle.bk_tiling.specs.declared.Square.{Square}
use Rattle.bk_word.specs.Play.{numbers_from}
use Rattle.bk_lay.proofs.Filling.{in_tiling, is_under}
use Rattle.bk_lay.proofs.Joining.{levels}
use Rattle.bk_lay.proofs.ValleySquares.{new_depth, same_depth, under_chain}
use Rattle.bk_lay.specs.Depiction.{FillsFromTop, Hangs, IsSegment, Span}
use Rattle.bk_lay.specs.TilingWord.{IsLeftmostValley, squares_under}

-- a square that is got at a place of a list is one of the list
pub one_of : (squares : List Square) (k : ℕ) (q : Square) → slice_get squares k ≡ Some q → IsOneOf q squares
one_of [] k q e = absurd (impossible e)
  where
    impossible : None ≡ Some q → ⊥
    impossible f = cc
one_of (r ∷ squares) zero q e = inl (inside r q e)
  where
    inside : (r q : Square) → Some r ≡ Some q → q ≡ r
    inside r q f = cc
one_of (r ∷ squares) (suc k) q e = inr (one_of squares k q e)

-- squares that stand side by side among those laid do so when more are laid
pub span_more : (laid more : List Square) (level x : ℕ) (numbers : List ℕ) (end : ℕ) → Span laid level x numbers end → Span (laid ++ more) level x numbers end
span_more laid more level x [] end s = s
span_more laid more level x (n ∷ numbers) end s =
    (s.0, ((s.1).0, (s.1).1, get_append laid more (s.1).0 s.0 (s.1).2), s.2, s.3, span_more laid more level (x + (s.0).s) numbers end s.4)

-- a segment is shown as before when more squares are laid
pub segment_more : (laid more : List Square) (v : Segment) (numbers : List ℕ) → IsSegment laid v numbers → IsSegment (laid ++ more) v numbers
segment_more laid more v numbers (inl s) = inl (span_more laid more v.level v.x numbers (v.x + v.width) s)
segment_more laid more v numbers (inr s) = inr s

-- what hangs from a node does so where there are more nodes
pub hangs_more : (nodes more : List Segment) (q : Square) (node : ℕ) → Hangs nodes q node → Hangs (nodes ++ more) q node
hangs_more nodes more q node h = (h.0, get_append nodes more node h.0 h.1, h.2, h.3, h.4)

-- the run of columns under a square
abbrev pub run_under_a_square : Square → Segment
run_under_a_square q = record { x = q.x; width = q.s; level = q.y + q.s }

-- each new square is a segment of its own
pub new_segments : (laid front : List Square) (squares : List Square) → laid ≡ front ++ squares → (n : ℕ) → n ≡ length front
    → AllZip (IsSegment laid) (map run_under_a_square squares) (map (λ q. q ∷ []) (numbers_from (n + 1) (length squares)))
new_segments laid front [] is n e = tt
new_segments laid front (q ∷ squares) is n e = (
  inl (q, (n, omega arith, at), refl, refl, refl),
  new_segments laid (front ++ q ∷ []) squares (is ∙ sym (append_assoc front (q ∷ []) squares)) (n + 1)
      (omega (arith, length-append front (q ∷ []))),
)
  where
    at : slice_get laid n ≡ Some q
    at = (λ i. slice_get (is i) (e i)) ∙ get_last front q squares

-- the levels of the runs under squares are the squares' bottoms
pub levels_of_runs_are_the_bottoms : (squares : List Square) → levels (map run_under_a_square squares) ≡ map (λ q. q.y + q.s) squares
levels_of_runs_are_the_bottoms [] = refl
levels_of_runs_are_the_bottoms (q ∷ squares) = ap (λ ls. (q.y + q.s) ∷ ls) (levels_of_runs_are_the_bottoms squares)

module _ (t : Tiling) (laid : List Square) (v : Segment) (tiling : IsTiling t) (fills : FillsFromTop t laid) (found : IsLeftmostValley t.width laid v)
    (low : v.level < t.height) where
  -- runs beside the valley stay level
  stays : (r : Segment) → IsLevel t.width laid r → (r.x + r.width ≤ v.x) ⊎ (v.x + v.width ≤ r.x) → IsLevel t.width (laid ++ squares_under t v) r
  stays r flat away = record {
    some = flat.some;
    within = flat.within;
    level = λ c lo hi. same_depth t laid v tiling fills found low c (beside c lo hi away) ∙ flat.level c lo hi;
  }
    where
      beside : (c : ℕ) → r.x ≤ c → c < r.x + r.width → (r.x + r.width ≤ v.x) ⊎ (v.x + v.width ≤ r.x) → (c < v.x) ⊎ (v.x + v.width ≤ c)
      beside c lo hi (inl a) = inl (omega arith)
      beside c lo hi (inr a) = inr (omega arith)

  runs_after : (x : ℕ) (runs : List Segment) → v.x + v.width ≤ x → AreRuns t.width laid x runs → AreRuns t.width (laid ++ squares_under t v) x runs
  runs_after x [] h cut = cut
  runs_after x (r ∷ runs) h cut = (cut.0, stays r cut.1 (inr (omega (arith, cut.0))), runs_after (x + r.width) runs (omega arith) cut.2)

  runs_new : (squares : List Square) → ((q : Square) → IsOneOf q squares → IsOneOf q (squares_under t v)) → (x end : ℕ) → Chain x squares end
      → (rest : List Segment) → AreRuns t.width (laid ++ squares_under t v) end rest
      → AreRuns t.width (laid ++ squares_under t v) x (map run_under_a_square squares ++ rest)
  runs_new [] f x end c rest cut = subst (λ (y : ℕ). AreRuns t.width (laid ++ squares_under t v) y rest) (sym c) cut
  runs_new (q ∷ squares) f x end c rest cut = (c.0, flat, runs_new squares (λ r h. f r (inr h)) (x + q.s) end c.1 rest cut)
    where
      here : IsOneOf q (squares_under t v)
      here = f q (inl refl)

      flat : IsLevel t.width (laid ++ squares_under t v) (run_under_a_square q)
      flat = record {
        some = in_all (λ q. 0 < q.s) t.squares (tiling.tiles).sides q (in_tiling t laid v tiling fills found low q here);
        within = let u = (is_under t laid v tiling fills found low q here).right in let w = ((found.valley).flat).within in omega arith;
        level = λ c lo hi. new_depth t laid v tiling fills found low q here c lo hi;
      }

  runs_end : (x : ℕ) (before after : List Segment) → AreRuns t.width laid x (before ++ v ∷ after) → x ≤ v.x
  runs_end x [] after cut = omega (arith, cut.0)
  runs_end x (r ∷ before) after cut = omega (arith, runs_end (x + r.width) before after cut.2)

  -- with the squares under a valley laid, their runs take the place of the valley among all runs
  pub runs_new_all : (x : ℕ) (before after : List Segment) → AreRuns t.width laid x (before ++ v ∷ after)
      → AreRuns t.width (laid ++ squares_under t v) x (before ++ map run_under_a_square (squares_under t v) ++ after)
  runs_new_all x [] after cut = subst (λ (y : ℕ). AreRuns t.width (laid ++ squares_under t v) y (map run_under_a_square (squares_under t v) ++ after)) cut.0
      (runs_new (squares_under t v) (λ q h. h) v.x (v.x + v.width) (under_chain t laid v tiling fills found low) after
      (subst (λ (y : ℕ). AreRuns t.width (laid ++ squares_under t v) y after) (omega (arith, cut.0))
      (runs_after (x + v.width) after (omega (arith, cut.0)) cut.2)))
  runs_new_all x (r ∷ before) after cut = (
    cut.0,
    stays r cut.1 (inl (omega (arith, cut.0, runs_end (x + r.width) before after cut.2))),
    runs_new_all (x + r.width) before after cut.2,
  )
