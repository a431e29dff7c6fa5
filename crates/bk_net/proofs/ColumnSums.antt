-- Columns counted by the squares over them.
use Rattle.std.proofs.Common.{Bool, List, [], arith, cond, count_by, false, inl, inr, nat_eq, refl}
use Rattle.std.proofs.Common.{suc, true, zero, ℕ, ◌+◌, ◌<◌, ◌∷◌, ◌≡◌, ◌≤◌, ◌⊎◌}
use Rattle.std.proofs.lemmas.Bool.{cases_lt}
use Rattle.bk_tiling.proofs.Cells.{count-cons, covers_from, over_from}
use Rattle.bk_tiling.proofs.Group.{covers_one}
use Rattle.bk_tiling.specs.Tiling.{IsOneOf, covers}
use Rattle.bk_tiling.specs.declared.Square.{Square}
use Rattle.bk_net.proofs.SmithLists.{in_total}

-- ---- columns, counted by squares

-- over how many of n columns from a on the square lies at level j
abbrev pub cols : ℕ → ℕ → ℕ → Square → ℕ
cols zero a j q = 0
cols (suc n) a j q = cond (covers a j q) 1 0 + cols n (a + 1) j q

-- over how many of n columns from a on squares lie at level j, all together
abbrev pub all_cols : ℕ → ℕ → ℕ → List Square → ℕ
all_cols n a j [] = 0
all_cols n a j (q ∷ squares) = cols n a j q + all_cols n a j squares

all_cols-none : (a j : ℕ) (squares : List Square) → all_cols 0 a j squares ≡ 0
all_cols-none a j [] = refl
all_cols-none a j (q ∷ squares) = omega (arith, all_cols-none a j squares)

all_cols-one : (n a j : ℕ) (squares : List Square) → all_cols (suc n) a j squares ≡ count_by (covers a j) squares + all_cols n (a + 1) j squares
all_cols-one n a j [] = refl
all_cols-one n a j (q ∷ squares) = omega (arith, count-cons (covers a j) q squares, all_cols-one n a j squares)

-- where one square lies over each of these columns, they are n
pub all_cols-are : (n a j : ℕ) (squares : List Square) → ((c : ℕ) → a ≤ c → c < a + n → count_by (covers c j) squares ≡ 1) → all_cols n a j squares ≡ n
all_cols-are zero a j squares once = all_cols-none a j squares
all_cols-are (suc n) a j squares once =
    omega (
      arith,
      all_cols-one n a j squares,
      once a (omega arith) (omega arith),
      all_cols-are n (a + 1) j squares (λ c lo hi. once c (omega arith) (omega arith)),
    )

no_cell : (c j : ℕ) (q : Square) → (covers c j q ≡ true → ⊥) → ◌≡◌ {A = ℕ} (cond (covers c j q) 1 0) 0
no_cell c j q h = by (covers c j q) refl
  where
    by : (b : Bool) → covers c j q ≡ b → ◌≡◌ {A = ℕ} (cond b 1 0) 0
    by true e = absurd (h e)
    by false e = refl

-- a square that covers none of the columns counts for none
pub cols_none : (n a j : ℕ) (q : Square) → ((c : ℕ) → a ≤ c → c < a + n → covers c j q ≡ true → ⊥) → cols n a j q ≡ 0
cols_none zero a j q none = refl
cols_none (suc n) a j q none =
    omega (arith, no_cell a j q (none a (omega arith) (omega arith)), cols_none n (a + 1) j q (λ c lo hi. none c (omega arith) (omega arith)))

cols_from : (n a j : ℕ) (q : Square) → q.y ≤ j → j < q.y + q.s → q.x ≤ a → a ≤ q.x + q.s → q.x + q.s ≤ a + n → a + cols n a j q ≡ q.x + q.s
cols_from zero a j q top low lo mid hi = omega arith
cols_from (suc n) a j q top low lo mid hi = cases (cases_lt a (q.x + q.s)) (cols_from n (a + 1) j q top low)
  where
    cases : (a < q.x + q.s) ⊎ (q.x + q.s ≤ a) → (q.x ≤ a + 1 → a + 1 ≤ q.x + q.s → q.x + q.s ≤ a + 1 + n → a + 1 + cols n (a + 1) j q ≡ q.x + q.s)
        → a + (cond (covers a j q) 1 0 + cols n (a + 1) j q) ≡ q.x + q.s
    cases (inl h) rest = omega (arith, covers_one a j q (covers_from a j q lo h top low), rest (omega arith) (omega arith) (omega arith))
    cases (inr h) rest = omega (
      arith,
      no_cell a j q (λ e. omega (arith, (over_from a j q e).right)),
      cols_none n (a + 1) j q (λ c l k e. omega (arith, (over_from c j q e).right)),
    )

-- a square that lies within the columns at the level counts for its side
pub cols_all : (n a j : ℕ) (q : Square) → q.y ≤ j → j < q.y + q.s → a ≤ q.x → q.x + q.s ≤ a + n → cols n a j q ≡ q.s
cols_all zero a j q top low lo hi = omega arith
cols_all (suc n) a j q top low lo hi = cases (cases_lt a q.x) (cols_all n (a + 1) j q top low)
  where
    cases : (a < q.x) ⊎ (q.x ≤ a) → (a + 1 ≤ q.x → q.x + q.s ≤ a + 1 + n → cols n (a + 1) j q ≡ q.s) → cond (covers a j q) 1 0 + cols n (a + 1) j q ≡ q.s
    cases (inl h) rest = omega (arith, no_cell a j q (λ e. omega (arith, (over_from a j q e).left)), rest (omega arith) (omega arith))
    cases (inr h) rest = omega (arith, cols_from (suc n) a j q top low (omega arith) (omega arith) hi)

-- where each square's side counts at a node as its columns do, the sides there are the columns
pub in_is_cols : (below : Square → ℕ) (v n a j : ℕ) (squares : List Square)
    → ((q : Square) → IsOneOf q squares → cond (nat_eq (below q) v) q.s 0 ≡ cols n a j q) → in_total below v squares ≡ all_cols n a j squares
in_is_cols below v n a j [] each = refl
in_is_cols below v n a j (q ∷ squares) each = omega (arith, each q (inl refl), in_is_cols below v n a j squares (λ r h. each r (inr h)))

-- where no square's side counts at a node, the sides there are 0
pub in_is_none : (below : Square → ℕ) (v : ℕ) (squares : List Square) → ((q : Square) → IsOneOf q squares → cond (nat_eq (below q) v) q.s 0 ≡ 0)
    → in_total below v squares ≡ 0
in_is_none below v [] each = refl
in_is_none below v (q ∷ squares) each = omega (arith, each q (inl refl), in_is_none below v squares (λ r h. each r (inr h)))
