-- The word of a tiling is legal and complete, and hangs as many squares as the tiling has.
use Rattle.std.specs.List.{AllByRecursion}
use Rattle.std.proofs.Common.{Bool, List, [], ap, arith, cond, count_by, inl, inr, length, map, refl, subst, sym, true, ℕ, ◌++◌, ◌+◌, ◌<◌}
use Rattle.std.proofs.Common.{◌∙◌, ◌∷◌, ◌≡◌, ◌≤◌}
use Rattle.std.proofs.lemmas.Bool.{false≢true}
use Rattle.std.proofs.lemmas.Bool.Decides.{nat_tests}
use Rattle.std.proofs.lemmas.List.{length-append}
use Rattle.bk_laws.proofs.ZippedLists.{zip_length}
use Rattle.bk_laws.proofs.NoneRepeated.{IsIn, NoneRepeated, no_longer}
use Rattle.bk_tiling.proofs.Cells.{column_from, count-cons, counted_one, covers_from, depth_reaches, in_all, no_two, one_counted}
use Rattle.bk_tiling.proofs.TilingLaws.{wide_enough, within_of}
use Rattle.bk_tiling.specs.Column.{AreRuns, IsLevel, depth}
use Rattle.bk_tiling.specs.declared.Segment.{Segment}
use Rattle.bk_tiling.specs.Tiling.{IsOneOf, IsTiling, Tiling, covers}
use Rattle.bk_tiling.specs.declared.Square.{Square}
use Rattle.bk_word.proofs.StoredBytes.{order_more}
use Rattle.bk_word.specs.Outline.{IsLegalMove, Outline, start}
use Rattle.bk_word.specs.Play.{AreLegalFrom, IsComplete, after_move, after_moves, parts}
use Rattle.bk_word.specs.Word.{Move, Word, order_of}
use Rattle.bk_word.specs.declared.Sign.{Sign}
use Rattle.bk_word.specs.declared.Sign.TheVariants.{Even}
use Rattle.bk_lay.proofs.Filling.{valley_is_filled}
use Rattle.bk_lay.proofs.Steps.{move_depicts, start_depicts_nothing}
use Rattle.bk_lay.proofs.Words.{nothing_laid}
use Rattle.bk_lay.specs.Depiction.{Depicts, FillsFromTop, IsSegment}
use Rattle.bk_lay.specs.TilingWord.{IsWordOf, MovesFollow, sign_between, signs_between, squares_under}
use Rattle.bk_lay.specs.WordLaws.{TilingWordIsComplete}

-- no square stands in the list behind itself
abbrev pub NoneTwice : List Square → Type 0
NoneTwice [] = Unit {0}
NoneTwice (q ∷ squares) = (IsOneOf q squares → ⊥) × NoneTwice squares

to_in : (q : Square) (squares : List Square) → IsOneOf q squares → IsIn q squares
to_in q [] h = h
to_in q (r ∷ squares) (inl same) = inl same
to_in q (r ∷ squares) (inr h) = inr (to_in q squares h)

from_in : (q : Square) (squares : List Square) → IsIn q squares → IsOneOf q squares
from_in q [] h = h
from_in q (r ∷ squares) (inl same) = inl same
from_in q (r ∷ squares) (inr h) = inr (from_in q squares h)

none_repeated : (squares : List Square) → NoneTwice squares → NoneRepeated squares
none_repeated [] none = tt
none_repeated (q ∷ squares) none = ((λ h. none.0 (from_in q squares h)), none_repeated squares none.1)

-- squares of which none stands twice are no more than those among which they all are
pub fewer : (squares more : List Square) → NoneTwice squares → ((q : Square) → IsOneOf q squares → IsOneOf q more) → length squares ≤ length more
fewer squares more none f = no_longer squares more (none_repeated squares none) (λ q h. to_in q more (f q (from_in q squares h)))

-- no square stands twice in a list where each covers its own first cell, and no two of the list do
pub none_twice : (squares : List Square) → ((q : Square) → IsOneOf q squares → count_by (covers q.x q.y) squares ≤ 1)
    → ((q : Square) → IsOneOf q squares → covers q.x q.y q ≡ true) → NoneTwice squares
none_twice [] f g = tt
none_twice (q ∷ squares) f g =
    (apart, none_twice squares (λ r h. omega (arith, count-cons (covers r.x r.y) r squares, less r, f r (inr h))) (λ r h. g r (inr h)))
  where
    less : (r : Square) → count_by (covers r.x r.y) squares ≤ count_by (covers r.x r.y) (q ∷ squares)
    less r = omega (arith, count-cons (covers r.x r.y) q squares)

    apart : IsOneOf q squares → ⊥
    apart h = omega (
      arith,
      f q (inl refl),
      count-cons (covers q.x q.y) q squares,
      ap (λ (b : Bool). cond {A = ℕ} b 1 0) (g q (inl refl)),
      one_counted (covers q.x q.y) squares q h (g q (inl refl)),
    )

record Ends (t : Tiling) (before : ℕ) (o : Outline) (w : Word) : Type 0 where
  legal : AreLegalFrom o w
  laid : List Square
  fills : FillsFromTop t laid
  full : (c : ℕ) → c < t.width → depth laid c ≡ t.height
  nodes : List Segment
  depicts : Depicts t laid nodes (after_moves o w)
  long : length laid ≡ before + order_of w

ends : (t : Tiling) → IsTiling t → (laid : List Square) (nodes : List Segment) (o : Outline) (w : Word) → FillsFromTop t laid → Depicts t laid nodes o
    → MovesFollow t laid w → Ends t (length laid) o w
ends t tiling laid nodes o [] fills depicts p = record {
  legal = tt;
  laid = laid;
  fills = fills;
  full = p;
  nodes = nodes;
  depicts = depicts;
  long = omega arith;
}
ends t tiling laid nodes o (m ∷ w) fills depicts p =
    onto (ends t tiling (laid ++ squares_under t p.0) (nodes ++ p.0 ∷ []) (after_move o m) w (valley_is_filled t laid p.0 tiling fills p.1 p.2).1
    there.1 p.4)
  where
    there : IsLegalMove o m × Depicts t (laid ++ squares_under t p.0) (nodes ++ p.0 ∷ []) (after_move o m)
    there = subst (λ (n : Move). IsLegalMove o n × Depicts t (laid ++ squares_under t p.0) (nodes ++ p.0 ∷ []) (after_move o n)) (sym p.3)
        (move_depicts t laid nodes o p.0 tiling fills depicts p.1 p.2)

    count : m.count ≡ length (squares_under t p.0)
    count = ap (λ (n : Move). n.count) p.3

    onto : Ends t (length (laid ++ squares_under t p.0)) (after_move o m) w → Ends t (length laid) o (m ∷ w)
    onto e = record {
      legal = (there.0, e.legal);
      laid = e.laid;
      fills = e.fills;
      full = e.full;
      nodes = e.nodes;
      depicts = e.depicts;
      long = omega (arith, e.long, length-append laid (squares_under t p.0), order_more m w, count);
    }

even_of : (m n : ℕ) → m ≡ n → sign_between m n ≡ Even
even_of m n e = grind (arith, nat_tests)

-- where all columns are full and neighbouring runs differ in level, there is one run
pub one_run : (t : Tiling) (laid : List Square) → ((c : ℕ) → c < t.width → depth laid c ≡ t.height) → (x : ℕ) → x < t.width → (runs : List Segment)
    → AreRuns t.width laid x runs
    → AllByRecursion (λ sign. parts sign ≡ true) (signs_between (map (λ v. v.level) runs)) → length runs ≡ 1
one_run t laid full x h [] cut parted = absurd (omega (arith, cut))
one_run t laid full x h (v ∷ []) cut parted = refl
one_run t laid full x h (v ∷ u ∷ runs) cut parted = absurd (false≢true (subst (λ (s : Sign). parts s ≡ true) even parted.0))
  where
    level_at : (r : Segment) → IsLevel t.width laid r → r.level ≡ t.height
    level_at r flat = let some = flat.some in let within = flat.within in sym (flat.level r.x (omega arith) (omega arith)) ∙ full r.x (omega arith)

    even : sign_between v.level u.level ≡ Even
    even = even_of v.level u.level (level_at v cut.1 ∙ sym (level_at u cut.2.1))

module _ (t : Tiling) (w : Word) (tiling : IsTiling t) (p : IsWordOf t w) where
  e : Ends t 0 start w
  e = ends t tiling [] [] start w (nothing_laid t tiling) (start_depicts_nothing t tiling) p

  side : (q : Square) → IsOneOf q t.squares → 0 < q.s
  side q h = in_all (λ q. 0 < q.s) t.squares (tiling.tiles).sides q h

  own_cell : (q : Square) → IsOneOf q t.squares → covers q.x q.y q ≡ true
  own_cell q h = covers_from q.x q.y q (omega arith) (omega (arith, side q h)) (omega arith) (omega (arith, side q h))

  own_count : (q : Square) → IsOneOf q t.squares → count_by (covers q.x q.y) t.squares ≡ 1
  own_count q h = let w = within_of t tiling q h in let a = w.right in let b = w.bottom in
      (tiling.tiles).once q.x q.y (omega arith) (omega (arith, side q h)) (omega arith) (omega (arith, side q h))

  in_tiling : (q : Square) → IsOneOf q e.laid → IsOneOf q t.squares
  in_tiling q h = in_all (λ p. IsOneOf p t.squares) e.laid (e.fills).squares q h

  laid_count : (q : Square) → IsOneOf q e.laid → count_by (covers q.x q.y) e.laid ≡ 1
  laid_count q h = let w = within_of t tiling q (in_tiling q h) in let a = w.right in
      (e.fills).filled q.x q.y (omega (arith, side q (in_tiling q h))) (omega (
        arith,
        side q (in_tiling q h),
        depth_reaches e.laid q.x q h (column_from q.x q (omega arith) (omega (arith, side q (in_tiling q h)))),
      ))

  -- a square of the tiling is the one laid square over its first cell
  all_laid : (q : Square) → IsOneOf q t.squares → IsOneOf q e.laid
  all_laid q h = subst (λ (p : Square). IsOneOf p e.laid) (sym same) there.1
    where
      wide : q.x < t.width
      wide = let a = (within_of t tiling q h).right in omega (arith, side q h)

      deep : q.y < depth e.laid q.x
      deep = let b = (within_of t tiling q h).bottom in omega (arith, side q h, e.full q.x wide)

      there : (p : Square) × IsOneOf p e.laid × (covers q.x q.y p ≡ true)
      there = counted_one (covers q.x q.y) e.laid (omega (arith, (e.fills).filled q.x q.y wide deep))

      same : q ≡ there.0
      same = no_two (covers q.x q.y) t.squares (omega (arith, own_count q h)) q there.0 h (own_cell q h) (in_tiling there.0 there.1) there.2

  as_many : length e.laid ≡ length t.squares
  as_many = omega (
    arith,
    fewer e.laid t.squares (none_twice e.laid (λ q h. omega (arith, laid_count q h)) (λ q h. own_cell q (in_tiling q h))) in_tiling,
    fewer t.squares e.laid (none_twice t.squares (λ q h. omega (arith, own_count q h)) own_cell) all_laid,
  )

  some_move : (w : Word) → 0 < order_of w → 0 < length w
  some_move [] h = absurd (omega arith)
  some_move (m ∷ w) h = omega arith

  one_left : length (after_moves start w).segments ≡ 1
  one_left = sym (zip_length (IsSegment e.laid) (e.depicts).runs (after_moves start w).segments (e.depicts).segments)
      ∙ one_run t e.laid e.full 0 (wide_enough t tiling) (e.depicts).runs (e.depicts).cut
      (subst (λ (signs : List Sign). AllByRecursion (λ sign. parts sign ≡ true) signs) (e.depicts).signs (e.depicts).parted)

  order : order_of w ≡ length t.squares
  order = omega (arith, e.long, as_many)

  complete : IsComplete w
  complete = record { legal = e.legal; some = some_move w (omega (arith, order, (tiling.tiles).some)); one = one_left }

-- a word of a tiling is complete and hangs as many squares as the tiling has
pub tiling_word_is_complete : TilingWordIsComplete
tiling_word_is_complete t w tiling p = (complete t w tiling p, order t w tiling p)
