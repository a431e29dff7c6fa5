-- Tilings enlarged: twice, by one, and the tiling that was enlarged.
use Rattle.std.proofs.Common.{List, [], ap, map, refl, ℕ, ◌*◌, ◌<◌, ◌∷◌, ◌≡◌}
use Rattle.bk_laws.proofs.Products.{mul_one}
use Rattle.bk_laws.proofs.Multiples.{mul-regroup, one_times_number}
use Rattle.bk_tiling.specs.Scale.{enlarged, enlarged_square}
use Rattle.bk_tiling.specs.Tiling.{Tiling}
use Rattle.bk_tiling.specs.declared.Square.{Square}

list_twice : (m n : ℕ) (squares : List Square) → map (enlarged_square m) (map (enlarged_square n) squares) ≡ map (enlarged_square (m * n)) squares
list_twice m n [] = refl
list_twice m n (q ∷ squares) = λ i. record { x = mul-regroup m n q.x i; y = mul-regroup m n q.y i; s = mul-regroup m n q.s i } ∷ list_twice m n squares i

-- enlarging by n and then by m is enlarging by their product
pub enlarged-enlarged : (m n : ℕ) (t : Tiling) → enlarged m (enlarged n t) ≡ enlarged (m * n) t
enlarged-enlarged m n t = λ i. record { width = mul-regroup m n t.width i; height = mul-regroup m n t.height i; squares = list_twice m n t.squares i }

-- squares enlarged by 1 are the same squares
pub list_once : (squares : List Square) → map (enlarged_square 1) squares ≡ squares
list_once [] = refl
list_once (q ∷ squares) = λ i. record { x = one_times_number q.x i; y = one_times_number q.y i; s = one_times_number q.s i } ∷ list_once squares i

-- a tiling enlarged by 1 is the same tiling
pub enlarged-once : (t : Tiling) → enlarged 1 t ≡ t
enlarged-once t = λ i. record { width = one_times_number t.width i; height = one_times_number t.height i; squares = list_once t.squares i }

-- equal multiples are those of equal tilings
pub list_back : (k : ℕ) (qs rs : List Square) → 0 < k → map (enlarged_square k) qs ≡ map (enlarged_square k) rs → qs ≡ rs
list_back k [] [] some e = refl
list_back k [] (r ∷ rs) some e = absurd (cc)
list_back k (q ∷ qs) [] some e = absurd (cc)
list_back k (q ∷ qs) (r ∷ rs) some e = λ i. record { x = x i; y = y i; s = s i } ∷ list_back k qs rs some rest i
  where
    first : enlarged_square k q ≡ enlarged_square k r
    first = cc

    rest : map (enlarged_square k) qs ≡ map (enlarged_square k) rs
    rest = cc

    x : q.x ≡ r.x
    x = mul_one k q.x r.x some (ap (λ (p : Square). p.x) first)

    y : q.y ≡ r.y
    y = mul_one k q.y r.y some (ap (λ (p : Square). p.y) first)

    s : q.s ≡ r.s
    s = mul_one k q.s r.s some (ap (λ (p : Square). p.s) first)

-- tilings that are one when enlarged by one factor are one
pub enlarged-back : (k : ℕ) (t u : Tiling) → 0 < k → enlarged k t ≡ enlarged k u → t ≡ u
enlarged-back k t u some e =
    λ i. record { width = width i; height = height i; squares = list_back k t.squares u.squares some (ap (λ (v : Tiling). v.squares) e) i }
  where
    width : t.width ≡ u.width
    width = mul_one k t.width u.width some (ap (λ (v : Tiling). v.width) e)

    height : t.height ≡ u.height
    height = mul_one k t.height u.height some (ap (λ (v : Tiling). v.height) e)
