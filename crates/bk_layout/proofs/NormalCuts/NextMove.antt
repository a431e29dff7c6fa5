-- What is known of the next move before it is chosen.
use Rattle.std.proofs.Common.{[], ap, arith, inl, inr, subst, sym, ◌++◌, ◌∙◌, ◌∷◌, ◌≡◌}
use Rattle.std.proofs.lemmas.List.{append_assoc, append-nil, length-append}
use Rattle.bk_word.specs.Outline.{start}
use Rattle.bk_word.specs.Play.{AreLegalFrom, IsLegal}
use Rattle.bk_word.specs.Word.{Word, order_of}
use Rattle.bk_word.proofs.PlayLaws.{legal_front}
use Rattle.bk_word.proofs.StoredBytes.{order_append, order_more}
use Rattle.bk_layout.proofs.NormalCuts.FewMoves.{a_move_hangs_at_walls, few_moves, first_kept}
use Rattle.bk_layout.proofs.NormalCuts.LastMoves.{a_move_leaves_segments, one_left}
use Rattle.bk_layout.proofs.FreeCuts.SquaresLeft.{too_many_squares_is_normal_barren}
use Rattle.bk_layout.specs.BeforeNextMove.{MostMovesHoldThen, NextIsLastIsNormalBarren, TooFewEvensIsNormalBarren}

-- a bound on the number of moves that allows for the next move holds after it
pub most_moves_hold_then : MostMovesHoldThen
most_moves_hold_then n most front m legal (inl h) = inl h
most_moves_hold_then n most front m legal (inr (h, some, wide)) = inr (
  h,
  omega (
    arith,
    wide,
    first_kept front (m ∷ []) some,
    (a_move_hangs_at_walls front m legal).left,
    (a_move_hangs_at_walls front m legal).right,
  ),
)

-- moves that end with one of too few even signs for the squares that they leave are normal barren
pub too_few_evens_is_normal_barren : TooFewEvensIsNormalBarren
too_few_evens_is_normal_barren n most front m few over l w rest sound normal word keeps is =
    too_many_squares_is_normal_barren n most (front ++ m ∷ []) (most_moves_hold_then n most front m legal few) (omega (
      arith,
      over,
      order_append front (m ∷ []),
      order_more m [],
      length-append front (m ∷ []),
      a_move_leaves_segments front m legal,
      (a_move_hangs_at_walls front m legal).left,
      (a_move_hangs_at_walls front m legal).right,
    )) l w rest sound normal word keeps is
  where
    legal : IsLegal (front ++ m ∷ [])
    legal = legal_front start (front ++ m ∷ []) rest (subst (AreLegalFrom start) is (word.complete).legal)

-- moves after which the next move is the last one, and two squares are left, are normal barren
pub next_is_last_is_normal_barren : NextIsLastIsNormalBarren
next_is_last_is_normal_barren n most front few last over l w rest sound normal word keeps is = at rest is
  where
    at : (rest : Word) → w ≡ front ++ rest → ⊥
    at [] e = omega (arith, over, sound.squares, word.order, ap order_of (e ∙ append-nil front))
    at (m ∷ more) e = omega (
      arith,
      over,
      one_left n l w front (m ∷ more) sound word e (omega (
        arith,
        last,
        few_moves n l w sound normal word (front ++ m ∷ []) more parted most (most_moves_hold_then n most front m legal few),
      )),
    )
      where
        parted : w ≡ (front ++ m ∷ []) ++ more
        parted = e ∙ sym (append_assoc front (m ∷ []) more)

        legal : IsLegal (front ++ m ∷ [])
        legal = legal_front start (front ++ m ∷ []) more (subst (AreLegalFrom start) parted (word.complete).legal)
