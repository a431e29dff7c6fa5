-- The moves at the walls in two parts of a word, and how many moves a word of a normal layout has at most.
use Rattle.std.proofs.Common.{Bool, [], ap, arith, cond, false, inl, inr, length, max, nat_lt, refl, slice_get, subst, ℕ, ◌*◌, ◌++◌, ◌+◌, ◌<◌}
use Rattle.std.proofs.Common.{◌∙◌, ◌∷◌, ◌≡◌, ◌≤◌, ◌⊎◌}
use Rattle.std.proofs.lemmas.Bool.{lt-ltb}
use Rattle.std.specs.Prelude.{◌/◌}
use Rattle.std.proofs.lemmas.Bool.Decides.{nat_tests}
use Rattle.bk_laws.proofs.NumberOrder.{le_or_gt}
use Rattle.bk_word.specs.Outline.{Outline, start}
use Rattle.bk_word.specs.Play.{AreLegalFrom, after_move, after_moves, outline_of}
use Rattle.bk_word.specs.Word.{Word}
use Rattle.bk_word.proofs.PlayLaws.{legal_front}
use Rattle.bk_layout.specs.Layout.{Layout}
use Rattle.bk_layout.specs.LayoutLaws.{IsWordOfLayout}
use Rattle.bk_layout.specs.LayoutCounts.{counts_of_layout}
use Rattle.bk_layout.specs.FreeCuts.{IsSound}
use Rattle.bk_layout.proofs.NormalCuts.NumbersShown.{left_is, moves_is, right_is}
use Rattle.bk_layout.proofs.FreeCuts.RunsOfLines.{wall_moves_hang_one}
use Rattle.bk_layout.specs.NormalCuts.{AreMostMoves, MostMovesAreMost}
use Rattle.bk_layout.specs.NormalLayout.{IsNormalLayout}
use Rattle.bk_layout.specs.WordNumbers.{AMoveHangsAtWalls, HasOneForEachWallMove, first_count, left_moves_from, left_squares, right_moves_from, right_squares}

-- the moves at a wall in two parts
pub left_moves_append : (o : Outline) (front rest : Word) → left_moves_from o (front ++ rest)
    ≡ left_moves_from o front + left_moves_from (after_moves o front) rest
left_moves_append o [] rest = omega arith
left_moves_append o (m ∷ front) rest = omega (arith, left_moves_append (after_move o m) front rest)

-- the moves at the right wall of two parts of a word are as many as in one and in the other
pub right_moves_append : (o : Outline) (front rest : Word) → right_moves_from o (front ++ rest)
    ≡ right_moves_from o front + right_moves_from (after_moves o front) rest
right_moves_append o [] rest = omega arith
right_moves_append o (m ∷ front) rest = omega (arith, right_moves_append (after_move o m) front rest)

-- the first move stays where more go on
pub first_kept : (front rest : Word) → 0 < length front → first_count (front ++ rest) ≡ first_count front
first_kept [] rest some = absurd (omega (arith, some))
first_kept (m ∷ front) rest some = refl

-- at least as many moves at the right wall come as more squares stand at the left wall now
module _ (n : ℕ) (l : Layout) (w : Word) (sound : IsSound n l) (normal : IsNormalLayout l) (word : IsWordOfLayout l w) where
  -- the squares at the walls are the moves there, of the beginning and of the rest
  walls_at : (front rest : Word) → w ≡ front ++ rest
      → ((counts_of_layout l).left ≡ left_moves_from start front + left_moves_from (outline_of front) rest)
      × ((counts_of_layout l).right ≡ right_moves_from start front + right_moves_from (outline_of front) rest)
  walls_at front rest is = (
    in_parts left_moves_from (left_moves_append start front rest) (omega (arith, left_is l w sound.fits sound.walls word, hung.left)),
    in_parts right_moves_from (right_moves_append start front rest) (omega (arith, right_is l w sound.fits sound.walls word, hung.right)),
  )
    where
      hung : HasOneForEachWallMove w
      hung = wall_moves_hang_one w (word.complete).legal

      in_parts : (moves : Outline → Word → ℕ) {total : ℕ} → moves start (front ++ rest) ≡ moves start front + moves (outline_of front) rest
          → total ≡ moves start w → total ≡ moves start front + moves (outline_of front) rest
      in_parts moves parts e = e ∙ ap (moves start) is ∙ parts

  -- in a word of a normal layout at most as many moves are at the left wall as at the right
  pub walls_left : (front rest : Word) → w ≡ front ++ rest
      → left_moves_from start front + left_moves_from (outline_of front) rest ≤ right_moves_from start front + right_moves_from (outline_of front) rest
  walls_left front rest is = omega (arith, normal.across, (walls_at front rest is).0, (walls_at front rest is).1)

  module _ (front rest : Word) (is : w ≡ front ++ rest) where
    legal_then : AreLegalFrom start front
    legal_then = legal_front start front rest (subst (AreLegalFrom start) is (word.complete).legal)

    -- at the right wall stand at least as many squares as at either wall now
    right_more : max (left_squares front) (right_squares front) ≤ (counts_of_layout l).right
    right_more = omega (
      arith,
      normal.across,
      (walls_at front rest is).0,
      (walls_at front rest is).1,
      (wall_moves_hang_one front legal_then).left,
      (wall_moves_hang_one front legal_then).right,
    )

    -- so many squares hang from the top
    top_is : 0 < max (left_squares front) (right_squares front) → length (l.hanging 0) ≡ first_count front
    top_is some = at front is some
      where
        at : (front : Word) → w ≡ front ++ rest → 0 < max (left_squares front) (right_squares front) → length (l.hanging 0) ≡ first_count front
        at [] e h = absurd (omega (arith, h))
        at (m ∷ front) e h = omega (arith, word.first_count m (ap (λ (v : Word). slice_get v 0) e))

    -- the word has few moves
    pub few_moves : (most : ℕ) → AreMostMoves n front most → length w ≤ most
    few_moves most (inl few) = omega (arith, few, normal.few, sound.squares, moves_is l w word)
    few_moves most (inr (few, wide)) = cases (le_or_gt (length w) most)
      where
        cases : (length w ≤ most) ⊎ (most < length w) → length w ≤ most
        cases (inl h) = h
        cases (inr h) = absurd (omega (
          arith,
          normal.half (omega (arith, h, few, normal.few, sound.squares, moves_is l w word)),
          right_more,
          wide,
          top_is (omega (arith, wide)),
        ))

-- ---- which number it is

-- a normal word that begins with moves has at most as many moves as is computed from them
pub most_moves_are_most : MostMovesAreMost
most_moves_are_most n front = of (first_count front) (max (left_squares front) (right_squares front))
  where
    of : (a b : ℕ) → (n ≤ 2 * cond (nat_lt a b) (n / 2) ((n + 1) / 2)) ⊎ ((n ≤ 2 * cond (nat_lt a b) (n / 2) ((n + 1) / 2) + 1) × (a < b))
    of a b = cases (le_or_gt b a)
      where
        not : (a b : ℕ) → b ≤ a → nat_lt a b ≡ false
        not a b h = grind (arith, nat_tests)

        cases : (b ≤ a) ⊎ (a < b)
            → (n ≤ 2 * cond (nat_lt a b) (n / 2) ((n + 1) / 2)) ⊎ ((n ≤ 2 * cond (nat_lt a b) (n / 2) ((n + 1) / 2) + 1) × (a < b))
        cases (inl h) = inl (omega (arith, ap (λ (x : Bool). cond {A = ℕ} x (n / 2) ((n + 1) / 2)) (not a b h)))
        cases (inr h) = inr (omega (arith, ap (λ (x : Bool). cond {A = ℕ} x (n / 2) ((n + 1) / 2)) (lt-ltb a b h)), h)

-- a move at a wall hangs one square there
pub a_move_hangs_at_walls : AMoveHangsAtWalls
a_move_hangs_at_walls front m legal = record {
  left = omega (
    arith,
    (wall_moves_hang_one (front ++ m ∷ []) legal).left,
    (wall_moves_hang_one front (legal_front start front (m ∷ []) legal)).left,
    left_moves_append start front (m ∷ []),
  );
  right = omega (
    arith,
    (wall_moves_hang_one (front ++ m ∷ []) legal).right,
    (wall_moves_hang_one front (legal_front start front (m ∷ []) legal)).right,
    right_moves_append start front (m ∷ []),
  );
}
