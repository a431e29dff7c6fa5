-- A part of a tiling is carried to another tiling by a map of the squares.
use Rattle.std.proofs.Common.{Bool, List, [], ap, arith, cond, count_by, false, filter, length, map, refl, subst, sym, true, ℕ, ◌&&◌, ◌+◌, ◌<◌, ◌∙◌}
use Rattle.std.proofs.Common.{◌∷◌, ◌≡◌, ◌≤◌, inl, inr}
use Rattle.std.proofs.lemmas.List.Sums.{length-filter}
use Rattle.bk_tiling.proofs.Cells.{all_from, count-cons, from_filter, in_all, in_filter}
use Rattle.bk_tiling.proofs.TilingLaws.{side_of}
use Rattle.bk_tiling.specs.Tiling.{IsOneOf, IsTiling, IsWithin, Rectangle, Tiling, covers}
use Rattle.bk_tiling.specs.declared.Square.{Square}
use Rattle.bk_sym.proofs.Images.{from_map}
use Rattle.bk_simple.specs.Simple.{IsPart}

-- the squares of u are those of t, each moved by f, which g undoes
pub record Carries (t u : Tiling) (f g : Square → Square) : Type 0 where
  pub counts : (p : Square → Bool) → count_by p u.squares ≡ count_by p (map f t.squares)
  pub each : (p : Square) → IsOneOf p u.squares → IsOneOf p (map f t.squares)
  pub back : (q : Square) → IsOneOf q t.squares → g (f q) ≡ q
  pub side : (q : Square) → 0 < q.s → 0 < (f q).s

-- the cell in column i at level j lies in the rectangle r
pub record IsCellOf (r : Rectangle) (i j : ℕ) : Type 0 where
  pub left : r.x ≤ i
  pub right : i < r.x + r.width
  pub top : r.y ≤ j
  pub bottom : j < r.y + r.height

-- the rectangle r comes to r' with its squares, and each cell of r' from one of r
pub record CarriesTo (t : Tiling) (f : Square → Square) (r r' : Rectangle) : Type 0 where
  pub within : (q : Square) → IsOneOf q t.squares → IsWithin r q → IsWithin r' (f q)
  pub column : ℕ → ℕ → ℕ
  pub level : ℕ → ℕ → ℕ
  pub cell : (i j : ℕ) → IsCellOf r' i j → IsCellOf r (column i j) (level i j)
  pub same : (i j : ℕ) → IsCellOf r' i j → (q : Square) → IsOneOf q t.squares → covers i j (f q) ≡ covers (column i j) (level i j) q

-- counted among mapped squares
pub count_mapped : (f : Square → Square) (p c : Square → Bool) (squares : List Square) → ((q : Square) → IsOneOf q squares → p (f q) ≡ c q)
    → count_by p (map f squares) ≡ count_by c squares
count_mapped f p c [] each = refl
count_mapped f p c (q ∷ squares) each = omega (
  arith,
  count-cons p (f q) (map f squares),
  count-cons c q squares,
  ap (λ (b : Bool). cond {A = ℕ} b 1 0) (each q (inl refl)),
  count_mapped f p c squares (λ r h. each r (inr h)),
)

-- all squares, counted
pub count_all : (squares : List Square) → count_by (λ _. true) squares ≡ length squares
count_all [] = refl
count_all (q ∷ squares) = omega (arith, count-cons (λ _. true) q squares, count_all squares)

count_filtered : (p c : Square → Bool) (squares : List Square) → count_by c (filter p squares) ≡ count_by (λ q. p q && c q) squares
count_filtered p c [] = refl
count_filtered p c (q ∷ squares) = cases (p q) refl (count_filtered p c squares)
  where
    cases : (b : Bool) → p q ≡ b → count_by c (filter p squares) ≡ count_by (λ q. p q && c q) squares
        → count_by c (cond b (q ∷ filter p squares) (filter p squares)) ≡ count_by (λ q. p q && c q) (q ∷ squares)
    cases true e rest = let here : ◌≡◌ {A = ℕ} (cond (p q && c q) 1 0) (cond (c q) 1 0) = ap (λ (b : Bool). cond {A = ℕ} (b && c q) 1 0) e in
        omega (arith, count-cons c q (filter p squares), count-cons (λ q. p q && c q) q squares, here, rest)
    cases false e rest = let here : ◌≡◌ {A = ℕ} (cond (p q && c q) 1 0) 0 = ap (λ (b : Bool). cond {A = ℕ} (b && c q) 1 0) e in
        omega (arith, count-cons (λ q. p q && c q) q squares, here, rest)

module _ (t u : Tiling) (f g : Square → Square) (carries : Carries t u f g) where
  -- tests that agree count as many
  pub kept : (p c : Square → Bool) → ((q : Square) → IsOneOf q t.squares → p (f q) ≡ c q) → count_by p u.squares ≡ count_by c t.squares
  kept p c each = carries.counts p ∙ count_mapped f p c t.squares each

  -- a tiling carried to another has as many squares
  pub as_many : length u.squares ≡ length t.squares
  as_many = sym (count_all u.squares) ∙ kept (λ _. true) (λ _. true) (λ q h. refl) ∙ count_all t.squares

  module _ (tiling : IsTiling t) (r r' : Rectangle) (to : CarriesTo t f r r') (part : IsPart t r) where
    abbrev picked : Square → Bool
    picked p = part.pick (g p)

    agrees : (q : Square) → IsOneOf q t.squares → picked (f q) ≡ part.pick q
    agrees q h = ap part.pick (carries.back q h)

    long : length (filter picked u.squares) ≡ length (filter part.pick t.squares)
    long = length-filter picked u.squares ∙ kept picked part.pick agrees ∙ sym (length-filter part.pick t.squares)

    -- each square picked is one of r, moved
    within : (p : Square) → IsOneOf p (filter picked u.squares) → IsWithin r' p
    within p h = of (from_filter picked u.squares p h)
      where
        of : IsOneOf p u.squares × (picked p ≡ true) → IsWithin r' p
        of (k, e) = let found = from_map f t.squares p (carries.each p k) in
            subst (IsWithin r') (sym found.2) (to.within found.0 found.1
            (in_all (IsWithin r) (filter part.pick t.squares) (part.tiled).within found.0
            (in_filter part.pick t.squares found.0 found.1 (sym (agrees found.0 found.1) ∙ ap picked (sym found.2) ∙ e))))

    some_side : (p : Square) → IsOneOf p (filter picked u.squares) → 0 < p.s
    some_side p h = let found = from_map f t.squares p (carries.each p (from_filter picked u.squares p h).0) in
        subst (λ (s : Square). 0 < s.s) (sym found.2) (carries.side found.0 (side_of t tiling found.0 found.1))

    once : (i j : ℕ) → IsCellOf r' i j → count_by (covers i j) (filter picked u.squares) ≡ 1
    once i j c = let k : IsCellOf r (to.column i j) (to.level i j) = to.cell i j c in
        count_filtered picked (covers i j) u.squares
        ∙ kept (λ p. picked p && covers i j p) (λ q. part.pick q && covers (to.column i j) (to.level i j) q) (λ q h. λ m. agrees q h m && to.same i j c q h m)
        ∙ sym (count_filtered part.pick (covers (to.column i j) (to.level i j)) t.squares)
        ∙ (part.tiled).once (to.column i j) (to.level i j) k.left k.right k.top k.bottom

    -- a part is carried to a part
    pub carried : IsPart u r'
    carried = record {
      pick = picked;
      several = omega (arith, part.several, long);
      not_all = omega (arith, part.not_all, long, as_many);
      tiled = record {
        some = omega (arith, (part.tiled).some, long);
        sides = all_from (λ q. 0 < q.s) (filter picked u.squares) some_side;
        within = all_from (IsWithin r') (filter picked u.squares) within;
        once = λ i j a b c d. once i j (record { left = a; right = b; top = c; bottom = d });
      };
    }
