-- A rectangle within a tiling makes it compound where the squares that reach into it lie within it, at least two and
-- not all. And where the play of a word stands after its first moves.
use Rattle.std.proofs.Common.{Bool, List, [], ap, arith, cond, count_by, false, filter, inl, inr, length, nat_le, refl, subst, sym, true, ℕ, ◌&&◌}
use Rattle.std.proofs.Common.{◌++◌, ◌+◌, ◌<◌, ◌∙◌, ◌∷◌, ◌≡◌, ◌≤◌}
use Rattle.std.proofs.lemmas.Bool.Decides.{nat_tests}
use Rattle.std.proofs.lemmas.Bool.{both_ways}
use Rattle.std.proofs.lemmas.List.{length-append}
use Rattle.bk_tiling.proofs.Cells.{all_from, count-cons, from_filter, in_filter}
use Rattle.bk_tiling.proofs.TilingLaws.{cell_once, side_of}
use Rattle.bk_tiling.specs.declared.Segment.{Segment}
use Rattle.bk_tiling.specs.Tiling.{IsOneOf, IsTiling, IsWithin, Rectangle, Tiling, covers}
use Rattle.bk_tiling.specs.declared.Square.{Square}
use Rattle.bk_simple.specs.Simple.{IsCompound}
use Rattle.bk_word.specs.Outline.{Outline, start}
use Rattle.bk_word.specs.Play.{after_move, after_moves, outline_of}
use Rattle.bk_word.specs.Word.{Move, Word, order_of}
use Rattle.bk_word.proofs.StoredBytes.{order_more}
use Rattle.bk_lay.proofs.SquaresOnce.{squares_once}
use Rattle.bk_lay.proofs.WordPlay.{NoneTwice, fewer}
use Rattle.bk_lay.specs.TilingWord.{IsWordOf, MovesFollow, squares_under}
use Rattle.bk_word_net.proofs.TilingWords.AlongWord.{Along, along_move, along_start}

-- where the play of a tiling's word stands after its first moves
pub record Reached (t : Tiling) (o : Outline) (rest : Word) (count : ℕ) : Type 0 where
  pub laid : List Square
  pub nodes : List Segment
  pub along : Along t laid nodes o
  pub moves : MovesFollow t laid rest
  pub long : length laid ≡ count

reach : (t : Tiling) → IsTiling t → (laid : List Square) (nodes : List Segment) (o : Outline) (front rest : Word) → Along t laid nodes o
    → MovesFollow t laid (front ++ rest) → Reached t (after_moves o front) rest (length laid + order_of front)
reach t tiling laid nodes o [] rest a p = record { laid = laid; nodes = nodes; along = a; moves = p; long = omega arith }
reach t tiling laid nodes o (m ∷ front) rest a p = onto (reach t tiling (laid ++ squares_under t p.0) (nodes ++ p.0 ∷ []) (after_move o m) front rest
    (subst (λ (n : Move). Along t (laid ++ squares_under t p.0) (nodes ++ p.0 ∷ []) (after_move o n)) (sym p.3)
    (along_move t laid nodes o p.0 tiling a p.1 p.2)) p.4)
  where
    onto : Reached t (after_moves (after_move o m) front) rest (length (laid ++ squares_under t p.0) + order_of front)
        → Reached t (after_moves (after_move o m) front) rest (length laid + order_of (m ∷ front))
    onto r = record {
      laid = r.laid;
      nodes = r.nodes;
      along = r.along;
      moves = r.moves;
      long =
          omega (arith, r.long, length-append laid (squares_under t p.0), order_more m front, ap (λ (n : Move). n.count) p.3);
    }

-- each beginning of the word leads there
pub reached : (t : Tiling) (front rest : Word) → IsTiling t → IsWordOf t (front ++ rest) → Reached t (outline_of front) rest (order_of front)
reached t front rest tiling p = onto (reach t tiling [] [] start front rest (along_start t tiling) p)
  where
    onto : Reached t (outline_of front) rest (0 + order_of front) → Reached t (outline_of front) rest (order_of front)
    onto r = record { laid = r.laid; nodes = r.nodes; along = r.along; moves = r.moves; long = omega (arith, r.long) }

-- the square lies within the rectangle, as a test
abbrev pub lies_within : Rectangle → Square → Bool
lies_within r q = (nat_le r.x q.x && nat_le (q.x + q.s) (r.x + r.width)) && (nat_le r.y q.y && nat_le (q.y + q.s) (r.y + r.height))

-- from the test
pub within_from : (r : Rectangle) (q : Square) → lies_within r q ≡ true → IsWithin r q
within_from r q e = record {
  left = grind (arith, nat_tests);
  right = grind (arith, nat_tests);
  top = grind (arith, nat_tests);
  bottom =
      grind (arith, nat_tests);
}

-- what lies within a rectangle passes the test
pub within_to : (r : Rectangle) (q : Square) → IsWithin r q → lies_within r q ≡ true
within_to r q w = let a = w.left in let b = w.right in let c = w.top in let d = w.bottom in grind (arith, nat_tests)

-- squares that do not pass are not counted
count_chosen : (p test : Square → Bool) (squares : List Square) → ((q : Square) → IsOneOf q squares → p q ≡ true → test q ≡ true)
    → count_by p (filter test squares) ≡ count_by p squares
count_chosen p test [] f = refl
count_chosen p test (q ∷ squares) f = cases (test q) refl (count_chosen p test squares (λ r h. f r (inr h)))
  where
    none : (b : Bool) → p q ≡ b → test q ≡ false → ◌≡◌ {A = ℕ} (cond b 1 0) 0
    none true e g = absurd (both_ways (test q) g (f q (inl refl) e))
    none false e g = refl

    cases : (b : Bool) → test q ≡ b → count_by p (filter test squares) ≡ count_by p squares
        → count_by p (cond b (q ∷ filter test squares) (filter test squares)) ≡ count_by p (q ∷ squares)
    cases true e rest = omega (arith, rest, count-cons p q (filter test squares), count-cons p q squares)
    cases false e rest = omega (arith, rest, count-cons p q squares, none (p q) refl e)

none_twice_filter : (test : Square → Bool) (squares : List Square) → NoneTwice squares → NoneTwice (filter test squares)
none_twice_filter test [] n = tt
none_twice_filter test (q ∷ squares) n = cases (test q) (none_twice_filter test squares n.1)
  where
    cases : (b : Bool) → NoneTwice (filter test squares) → NoneTwice (cond b (q ∷ filter test squares) (filter test squares))
    cases true rest = ((λ h. n.0 (from_filter test squares q h).0), rest)
    cases false rest = rest

-- the rectangle lies in that of the tiling
pub record IsWithinWhole (t : Tiling) (r : Rectangle) : Type 0 where
  pub right : r.x + r.width ≤ t.width
  pub bottom : r.y + r.height ≤ t.height

module _ (t : Tiling) (tiling : IsTiling t) where
  module _ (r : Rectangle) where
    -- the squares within the rectangle are among these, if each is that has a cell in it
    pub few_within : (some : List Square) → ((q : Square) → IsOneOf q t.squares → IsWithin r q → IsOneOf q some)
        → length (filter (lies_within r) t.squares) ≤ length some
    few_within some f = fewer (filter (lies_within r) t.squares) some (none_twice_filter (lies_within r) t.squares (squares_once t tiling))
        (λ q h. let k = from_filter (lies_within r) t.squares q h in f q k.0 (within_from r q k.1))

    -- as many squares lie within as are known to
    pub many_within : (some : List Square) → NoneTwice some → ((q : Square) → IsOneOf q some → IsOneOf q t.squares × IsWithin r q)
        → length some ≤ length (filter (lies_within r) t.squares)
    many_within some once f = fewer some (filter (lies_within r) t.squares) once
        (λ q h. let k = f q h in in_filter (lies_within r) t.squares q k.0 (within_to r q k.1))

    -- a rectangle that cuts no square, with two squares or more but not all, is a part
    pub compound : IsWithinWhole t r → ((q : Square) → IsOneOf q t.squares → (i j : ℕ) → r.x ≤ i → i < r.x + r.width → r.y ≤ j
        → j < r.y + r.height → covers i j q ≡ true → IsWithin r q)
        → 2 ≤ length (filter (lies_within r) t.squares) → length (filter (lies_within r) t.squares) < length t.squares → IsCompound t
    compound inside reach_in two not_all = (
      r,
      record {
        pick = lies_within r;
        several = two;
        not_all = not_all;
        tiled = record {
          some = omega (arith, two);
          sides = all_from (λ q. 0 < q.s) (filter (lies_within r) t.squares) (λ q h. side_of t tiling q (from_filter (lies_within r) t.squares q h).0);
          within = all_from (IsWithin r) (filter (lies_within r) t.squares) (λ q h. within_from r q (from_filter (lies_within r) t.squares q h).1);
          once = λ i j a b c d. count_chosen (covers i j) (lies_within r) t.squares (λ q h e. within_to r q (reach_in q h i j a b c d e))
              ∙ cell_once t tiling i j (omega (arith, inside.right)) (omega (arith, inside.bottom));
        };
      },
    )
