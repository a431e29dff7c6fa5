-- The last moves of a word of a normal layout, and whole words.
use Rattle.std.specs.List.{AllByRecursion}
use Rattle.std.proofs.Common.{List, [], ap, arith, cond, count_by, length, refl, replicate, slice_index_or, subst}
use Rattle.std.proofs.Common.{sym, ℕ, ◌++◌, ◌+◌, ◌∙◌, ◌∷◌, ◌≡◌, ◌≤◌}
use Rattle.std.proofs.lemmas.List.{append-nil, append_assoc, length-append}
use Rattle.bk_laws.proofs.TestsAsNumbers.{cond_count-le_one}
use Rattle.bk_word.specs.Outline.{IsLegalMove, Outline, has_left_wall, has_right_wall, open_side, start}
use Rattle.bk_word.specs.Play.{AreLegalFrom, after_move, after_moves, outline_of}
use Rattle.bk_word.specs.Signs.{is_even}
use Rattle.bk_word.specs.Word.{Move, Word, order_of}
use Rattle.bk_word.specs.declared.Sign.{Sign}
use Rattle.bk_word.specs.declared.Sign.TheVariants.{Above, Even, Under}
use Rattle.bk_word.proofs.PlayLaws.{after-snoc, legal-last, legal_front}
use Rattle.bk_word.proofs.StoredBytes.{order_append, order_more}
use Rattle.bk_word_net.proofs.Outlines.OutlineParts.{left_open, many_segments, right_open}
use Rattle.bk_word_net.proofs.Outlines.Shape.{Shaped, shaped_moves, shaped_start, valley_in}
use Rattle.bk_word_net.proofs.Outlines.ValleyCut.{AtValley}
use Rattle.bk_layout.specs.FreeWord.{HangNoTwinsFrom}
use Rattle.bk_layout.specs.Layout.{Layout}
use Rattle.bk_layout.specs.LayoutLaws.{IsWordOfLayout}
use Rattle.bk_layout.specs.FreeCuts.{IsSound}
use Rattle.bk_layout.specs.RuleR.{BeginsNoEvenAbove}
use Rattle.bk_layout.proofs.NormalCuts.AllUnder.{AreOnes, ones_left}
use Rattle.bk_layout.proofs.NormalCuts.MovesLeft.{at_end, legal, shaped}
use Rattle.bk_layout.proofs.NormalCuts.FewMoves.{few_moves, first_kept, right_moves_append, walls_left}
use Rattle.bk_layout.proofs.NormalCuts.NumbersShown.{bottom_is, left_is, moves_is, right_is, top_is}
use Rattle.bk_layout.proofs.FreeCuts.RunsOfLines.{wall_moves_hang_one}
use Rattle.bk_layout.proofs.FreeCuts.SquaresLeft.{evens-cons, evens_most, segments_after, segments_then, wall_or_side}
use Rattle.bk_layout.proofs.NormalCuts.StrongWords.{ends, none_of, rules}
use Rattle.bk_layout.specs.LastMoves.{AMoveLeavesSegments, AllUnderAtLeftIsNormalBarren, AllUnderAtRightIsNormalBarren, AllUnderIsNormalBarren}
use Rattle.bk_layout.specs.LastMoves.{AreAllUnder, OneSquareGoesOnEven, even_square}
use Rattle.bk_layout.specs.LastMoves.{TooManyAtLeftIsNormalBarren, TooManyAtRightIsNormalBarren, TooWideBottomIsNormalBarren}
use Rattle.bk_layout.specs.NormalCuts.{IsNormalBarren}
use Rattle.bk_layout.specs.NormalLayout.{IsNormalLayout}
use Rattle.bk_layout.specs.WordNumbers.{first_count, left_squares, right_moves_from, right_squares}
use Rattle.bk_layout.proofs.FreeCuts.CutsOfLayouts.{twins_then}

-- how many segments a move leaves
pub a_move_leaves_segments : AMoveLeavesSegments
a_move_leaves_segments front m legal = subst (λ (o : Outline). length o.segments + count_by is_even m.signs + 1 ≡ length (outline_of front).segments + m.count)
    (sym (after-snoc start front m))
    (segments_then (outline_of front) m (legal-last start front m legal) (shaped_moves start front (legal_front start front (m ∷ []) legal) shaped_start))

-- ---- one move

-- a valley without walls stands between two segments
sides_many : (o : Outline) → Shaped o → 3 ≤ length o.segments + cond {A = ℕ} (has_left_wall o) 1 0 + cond {A = ℕ} (has_right_wall o) 1 0
sides_many o shaped = omega (
  arith,
  many_segments o v,
  left_open o v,
  right_open o v,
  wall_or_side (has_left_wall o),
  wall_or_side (has_right_wall o),
)
  where
    v : AtValley o
    v = valley_in o shaped

-- the last move hangs one square
one_last : (o : Outline) (rest : Word) → AreLegalFrom o rest → Shaped o → HangNoTwinsFrom o rest → length (after_moves o rest).segments ≡ 1 → length rest ≤ 1
    → order_of rest ≤ 1
one_last o [] legal shaped twins one few = omega arith
one_last o (m ∷ k ∷ rest) legal shaped twins one few = absurd (omega arith)
one_last o (m ∷ []) legal shaped twins one few = omega (arith, order_more m [], segments_after o m legal.0 shaped twins.0, sides_many o shaped, one)

-- no word has two squares left where it has one move at most
pub one_left : (n : ℕ) (l : Layout) (w front rest : Word) → IsSound n l → IsWordOfLayout l w → w ≡ front ++ rest → length w ≤ length front + 1
    → n ≤ order_of front + 1
one_left n l w front rest sound word is few = omega (
  arith,
  sound.squares,
  word.order,
  ap order_of is,
  order_append front rest,
  one_last (outline_of front) rest (legal n l w sound word front rest is) (shaped n l w sound word front rest is)
      (twins_then start front rest (subst (HangNoTwinsFrom start) is (word.no_twins sound.simple.twins)))
      (ap (λ (o : Outline). length o.segments) (sym (at_end n l w sound word front rest is)) ∙ (word.complete).one)
      (omega (arith, few, ap length is, length-append front rest)),
)

-- ---- the walls

right_few : (o : Outline) (rest : Word) → right_moves_from o rest ≤ length rest
right_few o [] = omega arith
right_few o (m ∷ rest) = omega (arith, cond_count-le_one (has_right_wall o), right_few (after_move o m) rest)

module _ (n : ℕ) (l : Layout) (w : Word) (sound : IsSound n l) (normal : IsNormalLayout l) (word : IsWordOfLayout l w) (front rest : Word)
    (is : w ≡ front ++ rest) where
  legal_then : AreLegalFrom start front
  legal_then = legal_front start front rest (subst (AreLegalFrom start) is (word.complete).legal)

  -- as many moves come as squares must still stand at the right wall
  walls_then : left_squares front ≤ right_squares front + length rest
  walls_then = omega (
    arith,
    walls_left n l w sound normal word front rest is,
    (wall_moves_hang_one front legal_then).left,
    (wall_moves_hang_one front legal_then).right,
    right_few (outline_of front) rest,
  )

-- ---- all signs under

module _ (n most : ℕ) (front : Word) (all : AreAllUnder n most front) (l : Layout) (w rest : Word) (sound : IsSound n l) (normal : IsNormalLayout l)
    (word : IsWordOfLayout l w) (keeps : AllByRecursion BeginsNoEvenAbove w) (is : w ≡ front ++ rest) where
  ones : AreOnes (outline_of front) rest
  ones = ones_left (outline_of front) rest (rules n l w sound normal word all.many keeps front rest is) (shaped n l w sound word front rest is) all.under
      (omega (arith, all.few, few_moves n l w sound normal word front rest is most all.most_moves, ap length is, length-append front rest))
      (ap (λ (o : Outline). length o.segments) (sym (at_end n l w sound word front rest is)) ∙ (word.complete).one)
      (ends n l w sound normal word all.many keeps front rest is none_of (λ s t e. e) (λ s t e. e) refl).0

-- moves after which all signs are under are normal barren if not just as many squares are left as signs
pub all_under_is_normal_barren : AllUnderIsNormalBarren
all_under_is_normal_barren n most front all other l w rest sound normal word keeps is = other (omega (
  arith,
  (ones n most front all l w rest sound normal word keeps is).squares,
  sound.squares,
  word.order,
  ap order_of is,
  order_append front rest,
))

-- all signs under, with more squares at the left than right squares and signs, is normal barren
pub all_under_at_left_is_normal_barren : AllUnderAtLeftIsNormalBarren
all_under_at_left_is_normal_barren n most front all over l w rest sound normal word keeps is = omega (
  arith,
  over,
  (ones n most front all l w rest sound normal word keeps is).moves,
  walls_then n l w sound normal word front rest is,
)

-- each of which stands at the right wall
pub all_under_at_right_is_normal_barren : AllUnderAtRightIsNormalBarren
all_under_at_right_is_normal_barren n most front all half over l w rest sound normal word keeps is = omega (
  arith,
  over,
  normal.half (omega (
    arith,
    half,
    sound.squares,
    moves_is l w word,
    ap length is,
    length-append front rest,
    (ones n most front all l w rest sound normal word keeps is).moves,
  )),
  top_is l w word,
  first_kept front rest all.some,
  ap first_count is,
  right_is l w sound.fits sound.walls word,
  (wall_moves_hang_one w (word.complete).legal).right,
  (wall_moves_hang_one front (legal_then n l w sound normal word front rest is)).right,
  ap (right_moves_from start) is,
  right_moves_append start front rest,
  (ones n most front all l w rest sound normal word keeps is).right,
)

-- ---- one square, even at both sides

-- signs as many of which are even as there are signs are even throughout
pub even_throughout : (signs : List Sign) → count_by is_even signs ≡ length signs → signs ≡ replicate (length signs) Even
even_throughout [] e = refl
even_throughout (Above ∷ signs) e = absurd (omega (arith, e, evens-cons Above signs, evens_most signs))
even_throughout (Under ∷ signs) e = absurd (omega (arith, e, evens-cons Under signs, evens_most signs))
even_throughout (Even ∷ signs) e = ap (λ (ss : List Sign). Even ∷ ss) (even_throughout signs (omega (arith, e, evens-cons Even signs)))

-- a legal move of one square with even signs alone is that one
is_even_square : (o : Outline) (m : Move) → IsLegalMove o m → m.count ≡ 1 → count_by is_even m.signs ≡ length m.signs → m ≡ even_square o
is_even_square o m legal one even = λ i. record { count = one i; signs = signs i }
  where
    signs : m.signs ≡ replicate (open_side (has_left_wall o) + open_side (has_right_wall o)) Even
    signs = even_throughout m.signs even ∙ ap (λ (k : ℕ). replicate k Even) (omega (arith, legal.signs, one))

-- the first move behind some moves
goes_on : (n : ℕ) (l : Layout) (w front rest : Word) (m : Move) → IsSound n l → IsNormalLayout l → IsWordOfLayout l w → AllByRecursion BeginsNoEvenAbove w
    → w ≡ front ++ m ∷ rest → m ≡ even_square (outline_of front) → IsNormalBarren n (front ++ even_square (outline_of front) ∷ []) → ⊥
goes_on n l w front rest m sound normal word keeps is same barren = barren l w rest sound normal word keeps
    (is ∙ ap (λ (k : Move). front ++ k ∷ rest) same ∙ sym (append_assoc front (even_square (outline_of front) ∷ []) rest))

-- where one square is left, one move is
pub one_square_goes_on_even : OneSquareGoesOnEven
one_square_goes_on_even n front one barren l w rest sound normal word keeps is = at rest is (legal n l w sound word front rest is)
    (omega (arith, one, sound.squares, word.order, ap order_of is, order_append front rest))
    (ap (λ (o : Outline). length o.segments) (sym (at_end n l w sound word front rest is)) ∙ (word.complete).one)
  where
    o : Outline
    o = outline_of front

    shape : Shaped (outline_of front)
    shape = shaped n l w sound word front rest is

    at : (rest : Word) → w ≡ front ++ rest → AreLegalFrom (outline_of front) rest → order_of rest ≡ 1
        → length (after_moves (outline_of front) rest).segments ≡ 1 → ⊥
    at [] e by_rule count end = omega (arith, count)
    at (m ∷ k ∷ rest) e by_rule count end = omega
        (arith, count, order_more m (k ∷ rest), order_more k rest, (by_rule.0).some, ((by_rule.1).0).some)
    at (m ∷ []) e by_rule count end = goes_on n l w front [] m sound normal word keeps e
        (is_even_square (outline_of front) m by_rule.0 (omega (arith, count, order_more m [])) even) barren
      where
        v : AtValley (outline_of front)
        v = valley_in (outline_of front) shape

        even : count_by is_even m.signs ≡ length m.signs
        even = omega (
          arith,
          segments_then (outline_of front) m by_rule.0 shape,
          end,
          count,
          order_more m [],
          (by_rule.0).signs,
          many_segments (outline_of front) v,
          left_open (outline_of front) v,
          right_open (outline_of front) v,
          evens_most m.signs,
        )

-- ---- whole words

-- nothing is left behind a whole word
nothing_left : (n : ℕ) (l : Layout) (v w rest : Word) → IsSound n l → IsWordOfLayout l w → w ≡ v ++ rest → order_of v ≡ n → w ≡ v
nothing_left n l v w rest sound word is whole = at rest is (legal n l w sound word v rest is)
    (omega (arith, sound.squares, word.order, ap order_of is, order_append v rest, whole))
  where
    at : (rest : Word) → w ≡ v ++ rest → AreLegalFrom (outline_of v) rest → order_of rest ≡ 0 → w ≡ v
    at [] e legal none = e ∙ append-nil v
    at (m ∷ rest) e legal none = absurd (omega (arith, none, order_more m rest, (legal.0).some))

-- a word that ends with more squares in its last segment than its first move hangs is normal barren
pub too_wide_bottom_is_normal_barren : TooWideBottomIsNormalBarren
too_wide_bottom_is_normal_barren n v whole over l w rest sound normal word keeps is = let same = nothing_left n l v w rest sound word is whole in omega (
  arith,
  over,
  ap first_count same,
  top_is l w word,
  normal.level,
  bottom_is l w word,
  ap (λ (u : Word). length (slice_index_or (outline_of u).segments 0 [])) same,
)

-- a word with more squares at the left wall than at the right is normal barren
pub too_many_at_left_is_normal_barren : TooManyAtLeftIsNormalBarren
too_many_at_left_is_normal_barren n v whole over l w rest sound normal word keeps is = let same = nothing_left n l v w rest sound word is whole in omega (
  arith,
  over,
  normal.across,
  left_is l w sound.fits sound.walls word,
  right_is l w sound.fits sound.walls word,
  ap left_squares same,
  ap right_squares same,
)

-- a word with half of n + 3 nodes and more squares at the right wall than at the top is normal barren
pub too_many_at_right_is_normal_barren : TooManyAtRightIsNormalBarren
too_many_at_right_is_normal_barren n v whole half over l w rest sound normal word keeps is = let same = nothing_left n l v w rest sound word is whole in omega (
  arith,
  over,
  normal.half (omega (arith, half, sound.squares, moves_is l w word, ap length same)),
  top_is l w word,
  right_is l w sound.fits sound.walls word,
  ap first_count same,
  ap right_squares same,
)
