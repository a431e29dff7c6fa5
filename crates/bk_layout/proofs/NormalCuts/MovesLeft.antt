-- Each closing that is still to come is a move, and a word of a normal layout has few moves.
use Rattle.std.proofs.Common.{Bool, List, [], ap, arith, length, refl, subst, sym, ℕ, ◌++◌, ◌+◌, ◌∙◌, ◌∷◌, ◌≡◌, ◌≤◌}
use Rattle.std.proofs.lemmas.List.{append-nil, length-append}
use Rattle.bk_word.specs.Outline.{Outline, start}
use Rattle.bk_word.specs.Play.{AreLegalFrom, after_move, after_moves, outline_of}
use Rattle.bk_word.specs.Word.{Word}
use Rattle.bk_word.proofs.PlayLaws.{after_moves-append, legal_front, legal_rest}
use Rattle.bk_word_net.proofs.Outlines.Shape.{Shaped, shaped_move, shaped_moves, shaped_start}
use Rattle.bk_layout.specs.Layout.{Layout}
use Rattle.bk_layout.specs.LayoutLaws.{IsWordOfLayout}
use Rattle.bk_catalogue.proofs.HangingBounds.JoinedLines.{bound}
use Rattle.bk_catalogue.proofs.HangingBounds.LineMoves.{line_bound_after, lines-append, lines_long}
use Rattle.bk_catalogue.specs.VerticalCut.{edges_on_lines, line_bound_of, lines_after, lines_along}
use Rattle.bk_layout.proofs.FreeCuts.CutsOfLayouts.{lines_fit}
use Rattle.bk_layout.specs.FreeCuts.{IsSound}
use Rattle.bk_layout.proofs.NormalCuts.FewMoves.{few_moves}
use Rattle.bk_layout.specs.NormalCuts.{TooFewMovesIsNormalBarren}

-- with each move the bound with lines falls by at most 1
pub lines_moves : (o : Outline) (lines : List Bool) (rest : Word) → AreLegalFrom o rest → Shaped o → length lines ≡ length o.hung
    → bound lines o.signs o.segments ≤ length rest + bound (lines_along o lines rest) (after_moves o rest).signs (after_moves o rest).segments
lines_moves o lines [] legal shaped long = omega arith
lines_moves o lines (m ∷ rest) legal shaped long = omega (
  arith,
  line_bound_after o lines m legal.0 shaped long,
  lines_moves (after_move o m) (lines_after o lines m) rest legal.1 (shaped_move o m legal.0 shaped) (lines_long o lines (m ∷ []) (legal.0, tt) long),
)

module _ (n : ℕ) (l : Layout) (w : Word) (sound : IsSound n l) (word : IsWordOfLayout l w) (front rest : Word) (is : w ≡ front ++ rest) where
  -- the moves after the first ones are legal, and what they begin with is shaped
  pub legal : AreLegalFrom (outline_of front) rest
  legal = legal_rest start front rest (subst (AreLegalFrom start) is (word.complete).legal)

  -- the outline after the first moves of a word of a normal layout is shaped
  pub shaped : Shaped (outline_of front)
  shaped = shaped_moves start front (legal_front start front rest (subst (AreLegalFrom start) is (word.complete).legal)) shaped_start

  -- the outline at the end
  pub at_end : outline_of w ≡ after_moves (outline_of front) rest
  at_end = ap outline_of is ∙ after_moves-append start front rest

  -- the lines from the top at the end of a word are those along its rest
  pub lines_end : edges_on_lines w ≡ lines_along (outline_of front) (edges_on_lines front) rest
  lines_end = ap edges_on_lines is ∙ lines-append start [] front rest

  -- of each square that the first moves hang it is kept whether its left edge is on a line
  pub lines_front : length (edges_on_lines front) ≡ length (outline_of front).hung
  lines_front = lines_long start [] front (legal_front start front rest (subst (AreLegalFrom start) is (word.complete).legal)) refl

  -- at the end no line comes down from the top
  pub none_at_end : 3 ≤ n → line_bound_of w ≡ 0
  none_at_end many = omega (
    arith,
    sound.squares,
    word.order,
    lines_fit l sound.fits w word sound.simple sound.walls w [] (sym (append-nil w)) (omega (arith, many, sound.squares)),
  )

  -- the moves that are left are at least the closings, with marks of lines
  pub closings_left : 3 ≤ n → line_bound_of front ≤ length rest
  closings_left many = omega (arith, lines_moves (outline_of front) (edges_on_lines front) rest legal shaped lines_front, same, none_at_end many)
    where
      same : line_bound_of w ≡ bound (lines_along (outline_of front) (edges_on_lines front) rest) (after_moves (outline_of front) rest).signs
          (after_moves (outline_of front) rest).segments
      same = λ i. bound (lines_end i) (at_end i).signs (at_end i).segments

-- the law
pub too_few_moves_is_normal_barren : TooFewMovesIsNormalBarren
too_few_moves_is_normal_barren n most front many few over l w rest sound normal word keeps is = omega (
  arith,
  over,
  few_moves n l w sound normal word front rest is most few,
  ap length is,
  length-append front rest,
  closings_left n l w sound word front rest is many,
)
