-- Traces of words: what a move asks, room for one more, and traces of words that begin alike.
use Rattle.std.specs.List.{AllZip}
use Rattle.std.proofs.Common.{List, Some, [], ap, arith, length, refl, slice_get, subst, suc, sym, take, zero, ℕ, ◌++◌, ◌+◌, ◌-◌, ◌<◌, ◌∙◌, ◌∷◌, ◌≡◌}
use Rattle.std.proofs.Common.{◌≤◌}
use Rattle.std.proofs.lemmas.List.{length-append, length-take, take-append-le, take-take, take_all}
use Rattle.bk_tiling.specs.declared.Square.{Square}
use Rattle.bk_tiling.specs.Tiling.{IsTiling, Tiling}
use Rattle.bk_word.specs.Play.{outline_of}
use Rattle.bk_word.specs.Word.{Move, Word, order_of}
use Rattle.bk_lay.specs.TilingWord.{squares_under}
use Rattle.bk_forms.specs.Form.{Form}
use Rattle.bk_walk_cuts.proofs.TilingForms.{fewer_sides, moves_hold}
use Rattle.bk_walk_cuts.specs.SideForms.{levels_along, new_bottoms}
use Rattle.bk_walk_cuts.specs.SidesOfTilings.{AreSidesOf, HoldAfter, HoldFor, IsBottomOf, LaidBy, MeetsMove, MoveHolds}
use Rattle.bk_walk_cuts.specs.Trace.{IsTraceOf, Trace}
use Rattle.bk_walk_cuts.specs.declared.tracing.Mark.{Mark}

-- moves lay what their first ones lay, and then what the last one lays
pub laid_split : (t : Tiling) (front back : Word) (laid laid_then : List Square) → LaidBy t laid (front ++ back) laid_then → (middle : List Square)
    × LaidBy t laid front middle × LaidBy t middle back laid_then
laid_split t [] back laid laid_then p = (laid, refl, p)
laid_split t (m ∷ front) back laid laid_then (v, found, low, is, p) = let r = laid_split t front back (laid ++ squares_under t v) laid_then p
    in (r.0, (v, found, low, is, r.1), r.2)

laid_more : (t : Tiling) (m : Move) (laid laid_then : List Square) → LaidBy t laid (m ∷ []) laid_then → (more : List Square) × (laid ++ more ≡ laid_then)
laid_more t m laid laid_then (v, found, low, is, e) = (squares_under t v, e)

-- what a move asks of sides that meet the equations before
abbrev pub Asked : Word → Move → List Form → List Form → List ℕ → Type 0
Asked w m kept bottoms sides = MeetsMove w m kept (levels_along (outline_of w) m bottoms) sides

-- what a tiling has whose word goes on by a move
pub record Asks (w : Word) (m : Move) (kept bottoms : List Form) (laid_then : List Square) (sides : List ℕ) : Type 0 where
  pub asked : Asked w m kept bottoms sides
  pub levels : AllZip (IsBottomOf sides) (bottoms ++ new_bottoms (outline_of w) m bottoms) laid_then

-- a tiling whose word goes on by a move has what the move asks
pub asks : (w : Word) (m : Move) (kept bottoms : List Form) → HoldAfter w kept bottoms → (t : Tiling) (laid_then : List Square) (sides : List ℕ)
    → IsTiling t → LaidBy t [] (w ++ m ∷ []) laid_then → AreSidesOf laid_then sides
    → Asks w m kept bottoms laid_then sides
asks w m kept bottoms hold t laid_then sides tiling p are = record {
  asked = record { meets = h.equations; widths = k.widths; signs = k.signs };
  levels = k.bottoms_then;
}
  where
    s : (middle : List Square) × LaidBy t [] w middle × LaidBy t middle (m ∷ []) laid_then
    s = laid_split t w (m ∷ []) [] laid_then p

    more : (more : List Square) × (s.0 ++ more ≡ laid_then)
    more = laid_more t m s.0 laid_then s.2

    h : HoldFor s.0 sides kept bottoms
    h = hold t s.0 sides tiling s.1 (fewer_sides s.0 more.0 sides (subst (λ (l : List Square). AreSidesOf l sides) (sym more.1) are))

    k : MoveHolds (outline_of w) m bottoms laid_then sides
    k = moves_hold w m bottoms t s.0 laid_then sides tiling s.1 s.2 are h.levels

-- a trace that follows all moves
pub hold_all : (w : Word) (trace : Trace) → IsTraceOf w trace → length trace.marks ≡ length w → HoldAfter w trace.kept trace.bottoms
hold_all w trace is all = subst (λ (u : Word). HoldAfter u trace.kept trace.bottoms) (take_all (length trace.marks) w (omega (arith, all))) is.hold

-- there is room for one mark more
pub mark_room : (w : Word) (trace : Trace) (count : ℕ) → IsTraceOf w trace → length trace.marks ≡ length w → order_of w + count ≤ 5 → 0 < count
    → length trace.marks < 5
mark_room w trace count is all few some = let a = is.some in omega (
  arith,
  few,
  some,
  is.count,
  ap order_of (take_all (length trace.marks) w (omega (arith, all))),
)

-- there is room for the bottoms of one move more
pub bottoms_room : (w : Word) (trace : Trace) → IsTraceOf w trace → length trace.marks ≡ length w → length trace.bottoms ≡ order_of w
bottoms_room w trace is all = is.count ∙ ap order_of (take_all (length trace.marks) w (omega (arith, all)))

-- ---- words that begin alike

module _ (v w : Word) (trace : Trace) (is : IsTraceOf w trace) (long : length trace.marks ≤ length v)
    (same : (j : ℕ) → j ≤ length trace.marks → take j w ≡ take j v) where
  marked_at : (marks : List Mark) (j : ℕ) (mark : Mark) → slice_get marks j ≡ Some mark → j < length marks
  marked_at [] j mark e = absurd (cc)
  marked_at (k ∷ marks) zero mark e = omega arith
  marked_at (k ∷ marks) (suc j) mark e = omega (arith, marked_at marks j mark e)

  -- words that begin alike have one trace
  pub trace_alike : IsTraceOf v trace
  trace_alike = record {
    followed = long;
    count = is.count ∙ ap order_of (same (length trace.marks) (omega arith));
    few = is.few;
    some = is.some;
    small = is.small;
    hold = subst (λ (u : Word). HoldAfter u trace.kept trace.bottoms) (same (length trace.marks) (omega arith)) is.hold;
    marked = λ j mark e. let k = is.marked j mark e in let at = same j (omega (arith, marked_at trace.marks j mark e)) in record {
      squares_are = k.squares_are ∙ ap order_of at;
      some = k.some;
      equations_within = k.equations_within;
      squares_within = k.squares_within;
      later = k.later;
      hold = subst (λ (u : Word). HoldAfter u (take mark.equations trace.kept) (take mark.squares trace.bottoms)) at k.hold;
    };
  }

-- a move that is not followed
pub trace_on : (w : Word) (m : Move) (trace : Trace) → IsTraceOf w trace → IsTraceOf (w ++ m ∷ []) trace
trace_on w m trace is = trace_alike (w ++ m ∷ []) w trace is (let f = is.followed in omega (arith, length-append w (m ∷ [])))
    (λ j h. let f = is.followed in sym (take-append-le j w (m ∷ []) (omega arith)))

-- one that was not is taken back
pub trace_less : (w : Word) (trace : Trace) → IsTraceOf w trace → length trace.marks < length w → IsTraceOf (take (length w - 1) w) trace
trace_less w trace is fewer = trace_alike (take (length w - 1) w) w trace is (omega (arith, length-take (length w - 1) w))
    (λ j h. sym (take-take j (length w - 1) w (omega arith)))
