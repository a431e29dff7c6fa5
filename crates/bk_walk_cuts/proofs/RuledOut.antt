-- Where no sides can meet what a move asks, no tiling has a word that begins with these moves and it.
use Rattle.std.specs.List.{AllByRecursion}
use Rattle.std.proofs.Common.{List, Some, [], ap, arith, get_or, inl, inr, length, map, refl, replicate, slice_get, subst, suc, sym}
use Rattle.std.proofs.Common.{zero, ℕ, ◌++◌, ◌+◌, ◌-◌, ◌<◌, ◌∙◌, ◌∷◌, ◌≡◌, ◌≤◌}
use Rattle.std.proofs.lemmas.List.{length-append, length-replicate}
use Rattle.bk_tiling.proofs.Cells.{in_all}
use Rattle.bk_tiling.proofs.TilingLaws.{side_of}
use Rattle.bk_tiling.specs.declared.Segment.{Segment}
use Rattle.bk_tiling.specs.declared.Square.{Square}
use Rattle.bk_tiling.specs.Tiling.{IsOneOf, Tiling}
use Rattle.bk_simple.specs.Simple.{IsPerfect}
use Rattle.bk_word.specs.Outline.{start}
use Rattle.bk_word.specs.Play.{outline_of}
use Rattle.bk_word.specs.Word.{Move, Word, order_of}
use Rattle.bk_word.specs.declared.Class.{Class}
use Rattle.bk_word.specs.declared.Class.TheVariants.{Perfect}
use Rattle.bk_word.proofs.StoredBytes.{order_append, order_more}
use Rattle.bk_lay.specs.TilingWord.{IsWordOf, MovesFollow, squares_under}
use Rattle.bk_word_net.proofs.TilingWords.AlongWord.{Along, along_start}
use Rattle.bk_forms.specs.Form.{Form}
use Rattle.bk_walk_cuts.proofs.Traces.{Asked, asks}
use Rattle.bk_walk_cuts.proofs.TilingForms.{laid_along}
use Rattle.bk_walk_cuts.specs.KnownSides.{AreSidesApart}
use Rattle.bk_walk_cuts.specs.SidesOfTilings.{AreSidesOf, HoldAfter, LaidBy}
use Rattle.bk_walk_cuts.specs.RuledOutCut.{RuledOutIsBarren}
use Rattle.bk_walk_cuts.specs.Trace.{IsRuledOut}
use Rattle.bk_catalogue.proofs.Members.PerfectSides.{sides_apart}
use Rattle.bk_catalogue.specs.Catalogue.{IsOfClass}

-- the moves lay as many squares as they hang
laid_many : (t : Tiling) (laid laid_then : List Square) (front : Word) → LaidBy t laid front laid_then → length laid_then ≡ length laid + order_of front
laid_many t laid laid_then [] e = sym (ap length e) ∙ omega arith
laid_many t laid laid_then (m ∷ front) (v, found, low, is, p) = laid_many t (laid ++ squares_under t v) laid_then front p
    ∙ omega (arith, length-append laid (squares_under t v), order_more m front, ap (λ (n : Move). n.count) is)

-- ---- sides of laid squares

sides_read : (laid : List Square) (more : List ℕ) (k : ℕ) (q : Square) → slice_get laid k ≡ Some q → get_or (map (λ q. q.s) laid ++ more) k 0 ≡ q.s
sides_read [] more k q e = absurd (cc)
sides_read (r ∷ laid) more zero q e = ap (λ (s : Square). s.s) same
  where
    same : r ≡ q
    same = cc
sides_read (r ∷ laid) more (suc k) q e = sides_read laid more k q e

sides_long : (laid : List Square) (more : List ℕ) → length (map (λ q. q.s) laid ++ more) ≡ length laid + length more
sides_long [] more = omega arith
sides_long (q ∷ laid) more = omega (arith, sides_long laid more)

sides_some : (laid : List Square) (n : ℕ) → ((q : Square) → IsOneOf q laid → 0 < q.s) → AllByRecursion (λ s. 0 < s) (map (λ q. q.s) laid ++ replicate n 1)
sides_some [] zero some = tt
sides_some [] (suc n) some = (omega arith, sides_some [] n some)
sides_some (q ∷ laid) n some = (some q (inl refl), sides_some laid n (λ r h. some r (inr h)))

-- they are filled up with ones
filled_up : (laid : List Square) → length laid ≤ 16 → ((q : Square) → IsOneOf q laid → 0 < q.s)
    → AreSidesOf laid (map (λ q. q.s) laid ++ replicate (16 - length laid) 1)
filled_up laid few some = record {
  few = few;
  long = sides_long laid (replicate (16 - length laid) 1) ∙ omega (arith, length-replicate {A = ℕ} (16 - length laid) 1);
  positive = sides_some laid (16 - length laid) some;
  each = sides_read laid (replicate (16 - length laid) 1);
}

-- the square that is laid at a place
square_at : (squares : List Square) (k : ℕ) → k < length squares → (q : Square) × (slice_get squares k ≡ Some q)
square_at [] k h = absurd (omega arith)
square_at (r ∷ squares) zero h = (r, refl)
square_at (r ∷ squares) (suc k) h = square_at squares k (omega arith)

-- moves are ruled out if a last one of them asks what no sides meet, in a perfect class with sides apart
pub ruled_out : (w : Word) (m : Move) (class : Class) (kept bottoms : List Form) → HoldAfter w kept bottoms → order_of w + m.count ≤ 5
    → ((sides : List ℕ) → Asked w m kept bottoms sides → (class ≡ Perfect → AreSidesApart (order_of w + m.count) sides) → ⊥) → IsRuledOut class (w ++ m ∷ [])
ruled_out w m class kept bottoms hold few none t laid tiling perfect p = none sides (asks w m kept bottoms hold t laid sides tiling p are).asked
    (λ is. apart (perfect is))
  where
    a : (nodes : List Segment) × Along t laid nodes (outline_of (w ++ m ∷ []))
    a = laid_along t tiling [] laid [] start (w ++ m ∷ []) (along_start t tiling) p

    many : length laid ≡ order_of w + m.count
    many = laid_many t [] laid (w ++ m ∷ []) p ∙ omega (arith, order_append w (m ∷ []), order_more m [])

    laid_in : (q : Square) → IsOneOf q laid → IsOneOf q t.squares
    laid_in q h = in_all (λ s. IsOneOf s t.squares) laid ((a.1).fills).squares q h

    sides : List ℕ
    sides = map (λ q. q.s) laid ++ replicate (16 - length laid) 1

    are : AreSidesOf laid (map (λ q. q.s) laid ++ replicate (16 - length laid) 1)
    are = filled_up laid (omega (arith, many, few)) (λ q h. side_of t tiling q (laid_in q h))

    apart : IsPerfect t → AreSidesApart (order_of w + m.count) (map (λ q. q.s) laid ++ replicate (16 - length laid) 1)
    apart is i j low high e = sides_apart t tiling is laid (a.1).fills i j one.0 other.0 low one.1 other.1
        (sym (sides_read laid (replicate (16 - length laid) 1) i one.0 one.1) ∙ e ∙ sides_read laid (replicate (16 - length laid) 1) j other.0 other.1)
      where
        one : (q : Square) × (slice_get laid i ≡ Some q)
        one = square_at laid i (omega (arith, many))

        other : (q : Square) × (slice_get laid j ≡ Some q)
        other = square_at laid j (omega (arith, many))

-- the moves that a word begins with lay squares
laid_by_word : (t : Tiling) (front rest : Word) (laid : List Square) → MovesFollow t laid (front ++ rest) → (laid_then : List Square)
    × LaidBy t laid front laid_then
laid_by_word t [] rest laid p = (laid, refl)
laid_by_word t (m ∷ front) rest laid (v, found, low, is, p) = let r = laid_by_word t front rest (laid ++ squares_under t v) p in (r.0, (v, found, low, is, r.1))

-- no member's word begins with moves that are ruled out in its class
pub ruled_out_is_barren : RuledOutIsBarren
ruled_out_is_barren n class front ruled e rest entry word = ruled e.tiling laid.0 (entry.member).tiling
    (λ is. subst (λ (c : Class). IsOfClass c e.tiling) is (entry.member).class) laid.1
  where
    laid : (laid_then : List Square) × LaidBy e.tiling [] front laid_then
    laid = laid_by_word e.tiling front rest [] (subst (IsWordOf e.tiling) word entry.word)
