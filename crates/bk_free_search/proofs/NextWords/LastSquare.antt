-- The last square of a word: what stands then, and what bars the word.
use Rattle.std.specs.List.{concat}
use Rattle.std.proofs.Common.{List, [], ap, append-nil, append_assoc, arith, count_by, inl, inr, length, length-append, not, refl}
use Rattle.std.proofs.Common.{replicate, subst, suc, sym, zero, ℕ, ◌*◌, ◌++◌, ◌+◌, ◌<◌, ◌∙◌, ◌∷◌, ◌≡◌, ◌≤◌, ◌⊎◌}
use Rattle.std.proofs.lemmas.List.{length-replicate}
use Rattle.std.proofs.lemmas.List.Folds.{concat-append}
use Rattle.std.proofs.lemmas.Bool.{cases_eq}
use Rattle.bk_laws.proofs.ListItems.{length-only_list}
use Rattle.bk_word.specs.Outline.{IsLegalMove, Outline, has_left_wall, has_right_wall, open_side, open_sides, start, valley_of}
use Rattle.bk_word.specs.Play.{AreLegalFrom, IsLegal, outline_of}
use Rattle.bk_word.specs.Signs.{is_even}
use Rattle.bk_word.specs.Word.{Move, Word, order_of}
use Rattle.bk_word.specs.declared.Sign.{Sign}
use Rattle.bk_word.specs.declared.Sign.TheVariants.{Even}
use Rattle.bk_word.proofs.PlayLaws.{after-snoc, legal_front, side_has_one_sign_at_most}
use Rattle.bk_word.proofs.StoredBytes.{order_append, order_more}
use Rattle.bk_word_net.proofs.Outlines.OutlineParts.{left_open, many_segments, right_open}
use Rattle.bk_word_net.proofs.Outlines.Shape.{valley_in}
use Rattle.bk_word_net.proofs.Outlines.ValleyCut.{AtValley}
use Rattle.bk_catalogue.proofs.HangingBounds.BoundsOfWords.{shape_of_word}
use Rattle.bk_layout.specs.NodeCut.{ShareANode}
use Rattle.bk_layout.proofs.NormalCuts.FewMoves.{a_move_hangs_at_walls, first_kept}
use Rattle.bk_layout.proofs.NormalCuts.LastMoves.{a_move_leaves_segments, even_throughout, one_square_goes_on_even, too_many_at_left_is_normal_barren}
use Rattle.bk_layout.proofs.NormalCuts.LastMoves.{too_many_at_right_is_normal_barren, too_wide_bottom_is_normal_barren}
use Rattle.bk_layout.proofs.NormalCuts.MovesLeft.{legal}
use Rattle.bk_layout.proofs.FreeCuts.SquaresLeft.{evens-cons, evens_most}
use Rattle.bk_layout.specs.LastMoves.{even_square}
use Rattle.bk_layout.specs.BeforeNextMove.{left_squares_then, right_squares_then}
use Rattle.bk_layout.specs.NormalCuts.{IsNormalBarren}
use Rattle.bk_layout.specs.NormalImage.{IsNormalSought}
use Rattle.bk_layout.specs.WordNumbers.{first_count}
use Rattle.bk_free_search.proofs.NextWords.Cutting.{by_legal, lone_is_barren, normal, shared_is_barren}
use Rattle.bk_free_search.proofs.Asks.EvenSigns.{apart_from_own, evens_ends}
use Rattle.bk_free_search.proofs.NextWords.NextMoves.{HasNextMove, is_whole, next_fits, next_move}
use Rattle.bk_free_search.specs.LastSquare.{with_last}
use Rattle.bk_free_search.specs.Sought.{GoesOn}

-- ---- what stands after a move

-- its squares stand in place of the valley's
open_then : (front : Word) (m : Move) → IsLegal (front ++ m ∷ [])
    → length (concat (outline_of (front ++ m ∷ [])).segments) + length (valley_of (outline_of front)) ≡ length (concat (outline_of front).segments) + m.count
open_then front m by_rule = omega (
  arith,
  (shape_of_word (front ++ m ∷ []) by_rule).counted,
  (shape_of_word front (legal_front start front (m ∷ []) by_rule)).counted,
  ap (λ (o : Outline). length (concat o.closed)) (after-snoc start front m),
  ap (λ (o : Outline). length o.hung) (after-snoc start front m),
  ap length (concat-append (outline_of front).closed (valley_of (outline_of front) ∷ [])),
  length-append (concat (outline_of front).closed) (valley_of (outline_of front) ++ []),
  length-append (valley_of (outline_of front)) [],
  length-append (outline_of front).hung (replicate m.count (length (outline_of front).closed)),
  length-replicate m.count (length (outline_of front).closed),
)

-- the valley has its neighbours
sides_within : (w : Word) → IsLegal w → open_sides (outline_of w) + 1 ≤ length (outline_of w).segments
sides_within w by_rule = omega (arith, many_segments (outline_of w) v, left_open (outline_of w) v, right_open (outline_of w) v)
  where
    v : AtValley (outline_of w)
    v = valley_in (outline_of w) (shape_of_word w by_rule)

-- ---- whole words

-- one that doesn't leave one segment
open_is_barren : (n : ℕ) (v : Word) → order_of v ≡ n → (length (outline_of v).segments ≡ 1 → ⊥) → IsNormalBarren n v
open_is_barren n v whole parted l w rest sound is_normal word keeps is =
    parted (ap (λ (u : Word). length (outline_of u).segments) (sym same) ∙ (word.complete).one)
  where
    at : (rest : Word) → w ≡ v ++ rest → AreLegalFrom (outline_of v) rest → order_of rest ≡ 0 → w ≡ v
    at [] e by_rule none = e ∙ append-nil v
    at (m ∷ rest) e by_rule none = absurd (omega (arith, none, order_more m rest, (by_rule.0).some))

    same : w ≡ v
    same = at rest is (legal n l w sound word v rest is)
        (omega (arith, sound.squares, word.order, ap order_of is, order_append v rest, whole))

-- a last move of two squares or more is barren: its own signs would part segments
pub all_at_once_is_barren : (n : ℕ) (front : Word) (m : Move) → 2 ≤ m.count → order_of front + m.count ≡ n → IsNormalBarren n (front ++ m ∷ [])
all_at_once_is_barren n front m two all = apart_from_own n front m (λ move not. by_legal n (front ++ m ∷ []) (λ by_rule.
    open_is_barren n (front ++ m ∷ []) (omega (arith, all, order_append front (m ∷ []), order_more m [])) (λ one. omega (
      arith,
      one,
      two,
      a_move_leaves_segments front m by_rule,
      sides_within front (legal_front start front (m ∷ []) by_rule),
      evens_ends m.signs (open_side (has_left_wall (outline_of front))) (open_side (has_right_wall (outline_of front)))
          (side_has_one_sign_at_most (has_left_wall (outline_of front))) (λ i from to even. not i from (omega (arith, to, move.signs, move.some)) even),
    ))))

-- ---- the word with the last square

evens_all : (k : ℕ) → count_by is_even (replicate k Even) ≡ k
evens_all zero = refl
evens_all (suc k) = omega (arith, evens-cons Even (replicate k Even), evens_all k)

module _ (n : ℕ) (front : Word) (least : 3 ≤ n) (one : order_of front + 1 ≡ n) where
  by_last : (IsLegal (with_last front) → IsNormalBarren n (with_last front)) → IsNormalBarren n front
  by_last barren = one_square_goes_on_even n front one (by_legal n (with_last front) barren)

  whole : order_of (with_last front) ≡ n
  whole = omega (
    arith,
    one,
    order_append front (even_square (outline_of front) ∷ []),
    order_more (even_square (outline_of front)) [],
  )

  some : 0 < length front
  some = at front one
    where
      at : (v : Word) → order_of v + 1 ≡ n → 0 < length v
      at [] e = absurd (omega (arith, e, least))
      at (m ∷ v) e = omega arith

  top_kept : first_count (with_last front) ≡ first_count front
  top_kept = first_kept front (even_square (outline_of front) ∷ []) some

  segments_left : IsLegal (with_last front)
      → length (outline_of (with_last front)).segments + open_sides (outline_of front) ≡ length (outline_of front).signs + 1
  segments_left by_rule = omega (
    arith,
    a_move_leaves_segments front (even_square (outline_of front)) by_rule,
    evens_all (open_sides (outline_of front)),
    (shape_of_word front (legal_front start front (even_square (outline_of front) ∷ []) by_rule)).many,
  )

  -- where the last square would hang under a segment of one square, no word goes on
  pub lone_is_barred : (valley : ℕ) → valley ≡ length (valley_of (outline_of front)) → valley ≡ 1 → IsNormalBarren n front
  lone_is_barred valley is e = one_square_goes_on_even n front one (normal n (with_last front)
      (lone_is_barren front valley 2 is e n (even_square (outline_of front)) (omega arith) (omega arith)))

  -- where other segments stand than those beside the valley, no word goes on by the last square
  pub others_are_barred : (length (outline_of front).signs ≡ open_sides (outline_of front) → ⊥) → IsNormalBarren n front
  others_are_barred not = by_last (λ by_rule. open_is_barren n (with_last front) whole (λ e. not (omega (arith, e, segments_left by_rule))))

  -- where with the last square too many squares stand at the bottom, no word goes on
  pub wide_is_barred : first_count front + length (valley_of (outline_of front)) < length (concat (outline_of front).segments) + 1 → IsNormalBarren n front
  wide_is_barred over = by_last (λ by_rule. cases by_rule (cases_eq (length (outline_of (with_last front)).segments) 1))
    where
      cases : IsLegal (with_last front)
          → (length (outline_of (with_last front)).segments ≡ 1) ⊎ (length (outline_of (with_last front)).segments ≡ 1 → ⊥)
          → IsNormalBarren n (with_last front)
      cases by_rule (inr not) = open_is_barren n (with_last front) whole not
      cases by_rule (inl e) = too_wide_bottom_is_normal_barren n (with_last front) whole (omega (
        arith,
        over,
        top_kept,
        open_then front (even_square (outline_of front)) by_rule,
        length-only_list (outline_of (with_last front)).segments e,
      ))

  -- where with the last square too many squares stand at the left wall, no word goes on
  pub left_is_barred : right_squares_then front < left_squares_then front → IsNormalBarren n front
  left_is_barred over = by_last (λ by_rule. too_many_at_left_is_normal_barren n (with_last front) whole (omega (
    arith,
    over,
    (a_move_hangs_at_walls front (even_square (outline_of front)) by_rule).left,
    (a_move_hangs_at_walls front (even_square (outline_of front)) by_rule).right,
  )))

  -- where with the last square too many squares stand at the right wall, in a word of as many moves as can be, no word goes on
  pub right_is_barred : 2 * (length front + 2) ≡ n + 3 → first_count front < right_squares_then front → IsNormalBarren n front
  right_is_barred half over = by_last (λ by_rule. too_many_at_right_is_normal_barren n (with_last front) whole
      (omega (arith, half, length-append front (even_square (outline_of front) ∷ [])))
      (omega (arith, over, top_kept, (a_move_hangs_at_walls front (even_square (outline_of front)) by_rule).right)))

  -- two lines at the segment that it joins share a closed node
  pub shared_is_barred : ShareANode (with_last front) → IsNormalBarren n front
  shared_is_barred share = one_square_goes_on_even n front one (normal n (with_last front) (shared_is_barren (with_last front) share n))

-- ---- the move of the last square

-- an even sign put behind k even signs makes k + 1 even signs
pub more_evens : (k : ℕ) → replicate k Even ++ Even ∷ [] ≡ replicate (k + 1) Even
more_evens zero = refl
more_evens (suc k) = let e : suc (k + 1) ≡ suc k + 1 = omega arith in ap (λ (l : List Sign). Even ∷ l) (more_evens k) ∙ ap (λ (j : ℕ). replicate j Even) e

-- one square, and a sign even for each neighbour
pub made_last : (o : Outline) (m : Move) (sides : ℕ) → m.count ≡ 1 → m.signs ≡ replicate sides Even → sides ≡ open_sides o → m ≡ even_square o
made_last o m sides one even is = let signs = even ∙ ap (λ (k : ℕ). replicate k Even) is in λ i. record { count = one i; signs = signs i }

-- a move of one square with an even sign for each neighbour of the valley is legal
pub last_legal : (o : Outline) (m : Move) (sides : ℕ) → m.count ≡ 1 → m.signs ≡ replicate sides Even → sides ≡ open_sides o → IsLegalMove o m
last_legal o m sides one even is = record {
  some = omega (arith, one);
  signs = omega (arith, one, ap length even, length-replicate sides Even, is);
}

-- ---- the words that are sought

-- a legal move of one square is even with all neighbours of the valley
pub is_even_square : (o : Outline) (m : Move) → IsLegalMove o m → m.count ≡ 1 → m.signs ≡ replicate (length m.signs) Even → m ≡ even_square o
is_even_square o m move one even = λ i. record { count = one i; signs = signs i }
  where
    signs : m.signs ≡ replicate (open_sides o) Even
    signs = even ∙ ap (λ (k : ℕ). replicate k Even) (omega (arith, move.signs, one))

-- a sought word that goes on from moves after which one square is left is these moves with the last square
pub last_is_whole : (n : ℕ) (front w : Word) → IsNormalSought n w → order_of front + 1 ≡ n → GoesOn front w → w ≡ with_last front
last_is_whole n front w sought one on = same ∙ ap (λ (k : Move). front ++ k ∷ []) square
  where
    h : HasNextMove front w
    h = next_move n front w sought (omega (arith, one)) on

    count : (h).move.count ≡ 1
    count = omega (arith, one, next_fits n front w sought h, (h).legal.some)

    same : w ≡ front ++ (h).move ∷ []
    same = is_whole n (front ++ (h).move ∷ []) w sought
        (omega (arith, one, count, order_append front ((h).move ∷ []), order_more (h).move []))
        (record { rest = (h).rest; is = (h).is ∙ sym (append_assoc front ((h).move ∷ []) (h).rest) })

    by_rule : IsLegal (front ++ (h).move ∷ [])
    by_rule = subst IsLegal same (sought.complete).legal

    even : count_by is_even (h).move.signs ≡ length (h).move.signs
    even = omega (
      arith,
      a_move_leaves_segments front (h).move by_rule,
      ap (λ (u : Word). length (outline_of u).segments) same,
      (sought.complete).one,
      count,
      (h).legal.signs,
      sides_within front (legal_front start front ((h).move ∷ []) by_rule),
      evens_most (h).move.signs,
    )

    square : (h).move ≡ even_square (outline_of front)
    square = is_even_square (outline_of front) (h).move (h).legal count (even_throughout (h).move.signs even)
