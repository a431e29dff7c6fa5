-- Moves after which all signs are under, and what stands then.
use Rattle.std.specs.List.{AllByRecursion, list_any}
use Rattle.std.specs.Prelude.{◌/◌}
use Rattle.std.proofs.Common.{List, [], ap, arith, cond, count_by, drop, false, length, max, nat_lt, refl, subst, suc, sym, take, true, zero}
use Rattle.std.proofs.Common.{ℕ, filter, ◌++◌, ◌+◌, ◌-◌, ◌<◌, ◌∙◌, ◌∷◌, ◌≡◌, ◌≤◌}
use Rattle.std.proofs.lemmas.Bool.{both_ways}
use Rattle.bk_word.specs.Outline.{IsLegalMove, has_left_wall, has_right_wall, start, valley_place}
use Rattle.bk_word.specs.Play.{IsLegal, outline_of, parts, signs_apart}
use Rattle.bk_word.specs.Signs.{is_above, is_even}
use Rattle.bk_word.specs.Word.{Move, Word, order_of}
use Rattle.bk_word.specs.declared.Sign.{Sign}
use Rattle.bk_word.specs.declared.Sign.TheVariants.{Above, Even, Under}
use Rattle.std.proofs.lemmas.List.{length-append}
use Rattle.bk_word.proofs.PlayLaws.{after-snoc, legal-snoc, moves_many}
use Rattle.bk_word.proofs.StoredBytes.{order_append, order_more}
use Rattle.bk_catalogue.proofs.HangingBounds.BoundsOfWords.{shape_of_word}
use Rattle.bk_layout.proofs.NormalCuts.FewMoves.{a_move_hangs_at_walls, most_moves_are_most}
use Rattle.bk_layout.proofs.NormalCuts.LastMoves.{a_move_leaves_segments}
use Rattle.bk_layout.specs.LastMoves.{AreAllUnder}
use Rattle.bk_layout.specs.NormalCuts.{AreMostMoves}
use Rattle.bk_layout.specs.WordNumbers.{first_count, left_squares, right_squares}
use Rattle.bk_free_search.specs.AllUnder.{StandsAfter}
use Rattle.bk_free_search.specs.Sought.{IsNextMove}
use Rattle.bk_free_search.specs.declared.all_under.After.{After}

-- ---- the signs

-- of signs of which none is above those that part are under
under_left : (signs : List Sign) → list_any is_above signs ≡ false → AllByRecursion (λ s. s ≡ Under) (filter parts signs)
under_left [] e = tt
under_left (Above ∷ signs) e = absurd (both_ways true e refl)
under_left (Even ∷ signs) e = under_left signs e
under_left (Under ∷ signs) e = (refl, under_left signs e)

none_in_both : (xs ys : List Sign) → list_any is_above xs ≡ false → list_any is_above ys ≡ false → list_any is_above (xs ++ ys) ≡ false
none_in_both [] ys e f = f
none_in_both (Above ∷ xs) ys e f = absurd (both_ways true e refl)
none_in_both (Even ∷ xs) ys e f = none_in_both xs ys e f
none_in_both (Under ∷ xs) ys e f = none_in_both xs ys e f

-- none before the leftmost valley is above
none_before : (k : ℕ) (signs : List Sign) → k ≤ valley_place signs → list_any is_above (take k signs) ≡ false
none_before zero signs few = refl
none_before (suc k) [] few = refl
none_before (suc k) (Above ∷ signs) few = absurd (omega (arith, few))
none_before (suc k) (Even ∷ signs) few = none_before k signs (omega (arith, few))
none_before (suc k) (Under ∷ signs) few = none_before k signs (omega (arith, few))

-- all signs are under after a move where none of its own is above, nor one behind the valley
pub under_then : (front : Word) (m : Move) → list_any is_above m.signs ≡ false
    → list_any is_above (drop (valley_place (outline_of front).signs + 1) (outline_of front).signs) ≡ false
    → AllByRecursion (λ s. s ≡ Under) (outline_of (front ++ m ∷ [])).signs
under_then front m own after = subst (λ (signs : List Sign). AllByRecursion (λ s. s ≡ Under) signs)
    (sym (ap (λ o. o.signs) (after-snoc start front m)))
    (under_left (signs_apart (outline_of front) m)
    (none_in_both (take (valley_place (outline_of front).signs - 1) (outline_of front).signs ++ m.signs)
    (drop (valley_place (outline_of front).signs + 1) (outline_of front).signs)
    (none_in_both (take (valley_place (outline_of front).signs - 1) (outline_of front).signs) m.signs
    (none_before (valley_place (outline_of front).signs - 1) (outline_of front).signs (omega arith)) own) after))

-- the signs behind the valley, as a skeleton shows them
pub behind_are : (front skel : Word) (signs : List Sign) (place : ℕ) → skel ≡ front → signs ≡ (outline_of skel).signs
    → place ≡ valley_place (outline_of skel).signs
    → drop (place + 1) signs ≡ drop (valley_place (outline_of front).signs + 1) (outline_of front).signs
behind_are front skel signs place same are is = let e : signs ≡ (outline_of front).signs = are ∙ ap (λ (w : Word). (outline_of w).signs) same in
    (λ i. drop ((is ∙ ap (λ (w : Word). valley_place (outline_of w).signs) same) i + 1) (e i))

-- ---- the numbers

module _ (front : Word) (m : Move) (legal : IsLegal front) (move : IsLegalMove (outline_of front) m) where
  -- a legal word with a legal move behind it is legal
  pub then_legal : IsLegal (front ++ m ∷ [])
  then_legal = legal-snoc start front m legal move

  -- the top keeps its count where moves were played before, and has the first move's count where none were
  pub top_then : (moves top after : ℕ) → moves ≡ length front → top ≡ first_count front → (moves ≡ 0 → after ≡ m.count) → (0 < moves → after ≡ top)
      → after ≡ first_count (front ++ m ∷ [])
  top_then moves top after many is none some = at front many is
    where
      at : (v : Word) → moves ≡ length v → top ≡ first_count v → after ≡ first_count (v ++ m ∷ [])
      at [] e f = none e
      at (k ∷ v) e f = some (omega (arith, e)) ∙ f

  -- after a move one square more is at the left wall if the valley is there, and else as many
  pub left_then : left_squares front + cond {A = ℕ} (has_left_wall (outline_of front)) 1 0 ≡ left_squares (front ++ m ∷ [])
  left_then = sym (a_move_hangs_at_walls front m then_legal).left

  -- after a move one square more is at the right wall if the valley is there, and else as many
  pub right_then : right_squares front + cond {A = ℕ} (has_right_wall (outline_of front)) 1 0 ≡ right_squares (front ++ m ∷ [])
  right_then = sym (a_move_hangs_at_walls front m then_legal).right

  -- the signs after a move, its even ones and one more are as many as the signs before and its squares
  pub signs_then : length (outline_of (front ++ m ∷ [])).signs + count_by is_even m.signs + 1 ≡ length (outline_of front).signs + m.count
  signs_then = omega (
    arith,
    a_move_leaves_segments front m then_legal,
    (shape_of_word (front ++ m ∷ []) then_legal).many,
    (shape_of_word front legal).many,
  )

-- the most moves, by the numbers that stand then
pub most_after : (n : ℕ) (front : Word) (m : Move) (after : After) (most : ℕ) → StandsAfter front m after
    → most ≡ cond (nat_lt after.top (max after.left after.right)) (n / 2) ((n + 1) / 2) → AreMostMoves n (front ++ m ∷ []) most
most_after n front m after most stand is = subst (λ (k : ℕ). AreMostMoves n (front ++ m ∷ []) k)
    (sym (is ∙ (λ i. cond {A = ℕ} (nat_lt (stand.top_is i) (max (stand.left_is i) (stand.right_is i))) (n / 2) ((n + 1) / 2))))
    (most_moves_are_most n (front ++ m ∷ []))

-- all signs are under after the move, and no more moves are left than segments
pub all_under : (n : ℕ) (front : Word) (m : Move) (after : After) (most : ℕ) → IsNextMove n front m → StandsAfter front m after
    → IsLegal front → AllByRecursion (λ s. s ≡ Under) (outline_of (front ++ m ∷ [])).signs
    → most ≡ cond (nat_lt after.top (max after.left after.right)) (n / 2) ((n + 1) / 2) → most ≤ length front + 1 + after.signs + 1
    → AreAllUnder n most (front ++ m ∷ [])
all_under n front m after most next stand legal under is few = record {
  many = next.least;
  some = omega (arith, length-append front (m ∷ []));
  left = omega (arith, next.few, order_append front (m ∷ []), order_more m []);
  most_moves = most_after n front m after most stand is;
  few = omega (
    arith,
    few,
    stand.signs_are,
    length-append front (m ∷ []),
    (shape_of_word (front ++ m ∷ []) (then_legal front m legal next.legal)).many,
  );
  under = under;
}

-- the moves are no more than the squares
pub moves_few : {n : ℕ} {front skel : Word} {m : Move} {moves : ℕ} → IsNextMove n front m → IsLegal skel → skel ≡ front → moves ≡ length skel → moves < 16
moves_few {skel = skel} next legal same many =
    omega (arith, many, moves_many start skel legal, ap order_of same, next.few, next.most)

-- after a next move fewer than 16 squares hang
pub squares_few : {n : ℕ} {front skel : Word} {m : Move} {order count : ℕ} → IsNextMove n front m → skel ≡ front → order ≡ order_of skel → count ≡ m.count
    → order + count < 16
squares_few next same order_is count_is = omega (arith, order_is, ap order_of same, count_is, next.few, next.most)

-- how many signs are left after a move, by numbers that are read
pub signs_shown : (front : Word) (m : Move) (signs evens count : ℕ) → IsLegal front → IsLegalMove (outline_of front) m
    → signs ≡ length (outline_of front).signs → evens ≡ count_by is_even m.signs → count ≡ m.count
    → length (outline_of (front ++ m ∷ [])).signs + evens + 1 ≡ signs + count
signs_shown front m signs evens count legal move are evens_are count_is = omega (arith, signs_then front m legal move, evens_are, count_is, are)
