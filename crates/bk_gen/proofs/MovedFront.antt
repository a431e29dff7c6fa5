-- Squares are moved one after another.
use Rattle.std.specs.List.{AllByRecursion}
use Rattle.std.proofs.Common.{List, [], ap, arith, get_or, length, map, refl, set, subst, suc, sym, zero, ℕ, ◌+◌, ◌<◌, ◌^◌, ◌∙◌, ◌∷◌, ◌≡◌, ◌≤◌}
use Rattle.std.proofs.lemmas.List.{length-map}
use Rattle.bk_tiling.proofs.Cells.{in_all}
use Rattle.bk_tiling.proofs.Members.{one_at}
use Rattle.bk_tiling.specs.Scale.{moved_square}
use Rattle.bk_tiling.specs.declared.Square.{Square}

-- the squares, the first n of them moved
abbrev pub front_moved : ℕ → ℕ → ℕ → List Square → List Square
front_moved right down zero squares = squares
front_moved right down (suc n) [] = []
front_moved right down (suc n) (q ∷ squares) = moved_square right down q ∷ front_moved right down n squares

-- the next square stands as it did
pub next_unmoved : (right down i : ℕ) (squares : List Square) (d : Square) → i < length squares
    → get_or (front_moved right down i squares) i d ≡ get_or squares i d
next_unmoved right down i [] d lt = absurd (omega arith)
next_unmoved right down zero (q ∷ squares) d lt = refl
next_unmoved right down (suc i) (q ∷ squares) d lt = next_unmoved right down i squares d (omega arith)

-- once it is moved, one more of the squares is moved
pub next_moved : (right down i : ℕ) (squares : List Square) (d : Square) → i < length squares
    → set (front_moved right down i squares) i (moved_square right down (get_or squares i d)) ≡ front_moved right down (suc i) squares
next_moved right down i [] d lt = absurd (omega arith)
next_moved right down zero (q ∷ squares) d lt = refl
next_moved right down (suc i) (q ∷ squares) d lt = ap (λ (rest : List Square). moved_square right down q ∷ rest)
    (next_moved right down i squares d (omega arith))

-- in the end all squares are moved
pub all_moved_front : (right down i : ℕ) (squares : List Square) → length squares ≤ i → front_moved right down i squares ≡ map (moved_square right down) squares
all_moved_front right down zero [] all = refl
all_moved_front right down (suc i) [] all = refl
all_moved_front right down zero (q ∷ squares) all = absurd (omega arith)
all_moved_front right down (suc i) (q ∷ squares) all = ap (λ (rest : List Square). moved_square right down q ∷ rest)
    (all_moved_front right down i squares (omega arith))

-- the next square keeps within the types of the code
pub next_fits : (right down i : ℕ) (first now : List Square) (d : Square) → now ≡ front_moved right down i first → i < length first
    → AllByRecursion (λ q. (q.x + right < 2 ^ 64) × (q.y + down < 2 ^ 64)) first → ((get_or now i d).x + right < 2 ^ 64) × ((get_or now i d).y + down < 2 ^ 64)
next_fits right down i first now d same lt fits =
    let at : get_or now i d ≡ get_or first i d = ap (λ (l : List Square). get_or l i d) same ∙ next_unmoved right down i first d lt in
    subst (λ (q : Square). (q.x + right < 2 ^ 64) × (q.y + down < 2 ^ 64)) (sym at)
    (in_all (λ q. (q.x + right < 2 ^ 64) × (q.y + down < 2 ^ 64)) first fits (get_or first i d) (one_at first i d lt))

-- one step of the loop moves one more of the squares
pub one_more_moved : (right down i : ℕ) (first now : List Square) (d : Square) → now ≡ front_moved right down i first → i < length first
    → set now i (moved_square right down (get_or now i d)) ≡ front_moved right down (i + 1) first
one_more_moved right down i first now d same lt =
    let at : get_or now i d ≡ get_or first i d = ap (λ (l : List Square). get_or l i d) same ∙ next_unmoved right down i first d lt in
    let more : suc i ≡ i + 1 = omega arith in
    (λ z. set (same z) i (moved_square right down (at z))) ∙ next_moved right down i first d lt ∙ ap (λ (n : ℕ). front_moved right down n first) more

-- as many squares are moved as there were
pub as_many_moved : (right down : ℕ) (items shown now : List Square) → shown ≡ items → now ≡ map (moved_square right down) shown → length now ≡ length items
as_many_moved right down items shown now same moved = ap length moved ∙ length-map shown (moved_square right down) ∙ ap length same
