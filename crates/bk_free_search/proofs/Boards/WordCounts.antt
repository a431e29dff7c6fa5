-- The counts of a word, by the lines at the sides of its squares and by the open segments.
use Rattle.std.proofs.Common.{List, [], ap, arith, cond, count_by, false, nat_eq, refl, suc, zero}
use Rattle.std.proofs.Common.{ℕ, ◌++◌, ◌+◌, ◌<◌, ◌∷◌, ◌≡◌, ◌≤◌}
use Rattle.std.proofs.lemmas.Bool.Decides.{nat_tests}
use Rattle.std.proofs.lemmas.List.Sums.{count_by-le-length, sum_by-append, sum_by-cons}
use Rattle.bk_laws.proofs.Counts.{count_by-map}
use Rattle.bk_word.specs.Play.{numbers_from}
use Rattle.bk_word.specs.Word.{Word, order_of}
use Rattle.bk_layout.specs.LineNumbers.{lefts_of, square_lines}
use Rattle.bk_layout.specs.WordNumbers.{left_squares, right_squares}
use Rattle.bk_layout.proofs.FreeCuts.CutByNodes.{as_many_lefts}
use Rattle.bk_free_search.proofs.Boards.RightLines.{as_many_rights}
use Rattle.bk_free_search.specs.Rights.{rights_of}

-- as many left lines are the left wall as squares stand there
pub left_walls : (w : Word) → count_by (λ l. nat_eq l 0) (lefts_of w) ≡ left_squares w
left_walls w = count_by-map (λ l. nat_eq l 0) (λ s. s.0) (square_lines w)

-- as many right lines are the right wall as squares stand there
pub right_walls : (w : Word) → count_by (λ l. nat_eq l 1) (rights_of w) ≡ right_squares w
right_walls w = count_by-map (λ l. nat_eq l 1) (λ s. s.1) (square_lines w)

-- no more than the word has
pub few_left : (w : Word) → left_squares w ≤ order_of w
few_left w = omega (arith, left_walls w, count_by-le-length (λ l. nat_eq l 0) (lefts_of w), as_many_lefts w)

-- at most as many squares of a word are at the right wall as it has
pub few_right : (w : Word) → right_squares w ≤ order_of w
few_right w = omega (arith, right_walls w, count_by-le-length (λ l. nat_eq l 1) (rights_of w), as_many_rights w)

-- ---- a move's lines behind others

-- lines with greater numbers are no wall
no_walls : (wall n k : ℕ) → wall < n → count_by (λ l. nat_eq l wall) (numbers_from n k) ≡ 0
no_walls wall n zero above = refl
no_walls wall n (suc k) above = omega (
  arith,
  sum_by-cons (λ l. cond {A = ℕ} (nat_eq l wall) 1 0) n (numbers_from (n + 1) k),
  ap (λ b. cond {A = ℕ} b 1 0) (other n wall above),
  no_walls wall (n + 1) k (omega (arith, above)),
)
  where
    other : (a b : ℕ) → b < a → nat_eq a b ≡ false
    other a b h = grind (arith, nat_tests)

-- a move's first line is a wall or not, and its others are none
pub lefts_then : (lefts : List ℕ) (left n k : ℕ) → 0 < n
    → count_by (λ l. nat_eq l 0) (lefts ++ left ∷ numbers_from n k) ≡ count_by (λ l. nat_eq l 0) lefts + cond {A = ℕ} (nat_eq left 0) 1 0
lefts_then lefts left n k above = omega (
  arith,
  sum_by-append (λ l. cond {A = ℕ} (nat_eq l 0) 1 0) lefts (left ∷ numbers_from n k),
  sum_by-cons (λ l. cond {A = ℕ} (nat_eq l 0) 1 0) left (numbers_from n k),
  no_walls 0 n k above,
)

-- a move's last line is a wall or not, and its others are none
pub rights_then : (rights : List ℕ) (right n k : ℕ) → 1 < n
    → count_by (λ l. nat_eq l 1) (rights ++ numbers_from n k ++ right ∷ []) ≡ count_by (λ l. nat_eq l 1) rights + cond {A = ℕ} (nat_eq right 1) 1 0
rights_then rights right n k above = omega (
  arith,
  sum_by-append (λ l. cond {A = ℕ} (nat_eq l 1) 1 0) (rights ++ numbers_from n k) (right ∷ []),
  sum_by-append (λ l. cond {A = ℕ} (nat_eq l 1) 1 0) rights (numbers_from n k),
  sum_by-cons (λ l. cond {A = ℕ} (nat_eq l 1) 1 0) right [],
  no_walls 1 n k above,
)
