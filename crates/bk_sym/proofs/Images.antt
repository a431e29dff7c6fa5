-- Each image of a tiling is a tiling.
use Rattle.std.specs.Cmp.{both_ways}
use Rattle.std.proofs.Common.{Bool, List, [], ap, arith, cond, count_by, inl, inr, length, map, refl, subst, sym, ℕ, ◌+◌, ◌-◌, ◌<◌, ◌∙◌, ◌∷◌, ◌≡◌, ◌≤◌}
use Rattle.bk_tiling.proofs.Cells.{IsOver, all_from, count-cons, covers_from, over_from}
use Rattle.bk_tiling.proofs.OrderLaws.{in_code_order-count}
use Rattle.bk_tiling.proofs.TilingLaws.{cell_once, side_of, within_of}
use Rattle.bk_tiling.specs.CodeOrder.{in_code_order}
use Rattle.bk_tiling.specs.Tiling.{IsOneOf, IsTiling, IsWithin, Tiling, covers}
use Rattle.bk_tiling.specs.declared.Square.{Square}
use Rattle.bk_tiling.proofs.PuttingInOrder.{from_order, in_order, ordered}
use Rattle.bk_sym.specs.Image.{image_square}
use Rattle.bk_sym.specs.ImageLaws.{ImagesAreTilings}
use Rattle.bk_sym.specs.declared.Turn.{Turn}
use Rattle.bk_sym.specs.declared.Turn.TheVariants.{FlipX, FlipY, Half, Same, Swap, SwapFlipX, SwapFlipY, SwapHalf}

-- a square of the moved ones is one of the squares, moved
pub from_map : (f : Square → Square) (squares : List Square) (p : Square) → IsOneOf p (map f squares) → (q : Square) × IsOneOf q squares × (p ≡ f q)
from_map f [] p h = absurd h
from_map f (r ∷ squares) p (inl e) = (r, inl refl, e)
from_map f (r ∷ squares) p (inr h) = let found = from_map f squares p h in (found.0, inr found.1, found.2)

-- each square of a list, moved, is one of the moved ones
pub in_map : (f : Square → Square) (squares : List Square) (q : Square) → IsOneOf q squares → IsOneOf (f q) (map f squares)
in_map f [] q h = absurd h
in_map f (r ∷ squares) q (inl e) = inl (ap f e)
in_map f (r ∷ squares) q (inr h) = inr (in_map f squares q h)

-- a square over one cell where another is over another cell
pub same_cover : (i j k l : ℕ) (p q : Square) → (IsOver i j p → IsOver k l q) → (IsOver k l q → IsOver i j p) → covers i j p ≡ covers k l q
same_cover i j k l p q f g = both_ways (covers i j p) (covers k l q)
    (λ e. let o = f (over_from i j p e) in covers_from k l q o.left o.right o.top o.bottom) (λ e. let o = g (over_from k l q e) in
    covers_from i j p o.left o.right o.top o.bottom)

-- as many moved squares lie over a cell as squares over the cell that it comes from
pub count_same : (f : Square → Square) (i j k l : ℕ) (squares : List Square) → ((q : Square) → IsOneOf q squares → covers i j (f q) ≡ covers k l q)
    → count_by (covers i j) (map f squares) ≡ count_by (covers k l) squares
count_same f i j k l [] each = refl
count_same f i j k l (q ∷ squares) each = omega (
  arith,
  count-cons (covers i j) (f q) (map f squares),
  count-cons (covers k l) q squares,
  ap (λ (b : Bool). cond {A = ℕ} b 1 0) (each q (inl refl)),
  count_same f i j k l squares (λ r h. each r (inr h)),
)

-- the squares moved by f, which keeps their sides, with the cells they then cover
pub record Moves (t : Tiling) (f : Square → Square) (width height : ℕ) : Type 0 where
  pub side : (q : Square) → (f q).s ≡ q.s
  pub within : (q : Square) → IsOneOf q t.squares → IsWithin (record { x = 0; y = 0; width = width; height = height }) (f q)
  pub column : ℕ → ℕ → ℕ
  pub level : ℕ → ℕ → ℕ
  pub cell : (i j : ℕ) → i < width → j < height → (column i j < t.width) × (level i j < t.height)
  pub same : (i j : ℕ) → i < width → j < height → (q : Square) → IsOneOf q t.squares → covers i j (f q) ≡ covers (column i j) (level i j) q

-- squares moved so that each cell comes from a cell tile the rectangle that they are moved to
pub moved_squares_tile : (t : Tiling) (f : Square → Square) (width height : ℕ) → IsTiling t → Moves t f width height
    → IsTiling (record { width = width; height = height; squares = in_code_order (map f t.squares) })
moved_squares_tile t f width height tiling m = record {
  tiles = record {
    some = some t.squares (tiling.tiles).some (λ q h. in_order (map f t.squares) (f q) (in_map f t.squares q h));
    sides = all_from (λ q. 0 < q.s) (in_code_order (map f t.squares)) (λ q h. side q (from_order (map f t.squares) q h));
    within = all_from (IsWithin (record { x = 0; y = 0; width = width; height = height })) (in_code_order (map f t.squares))
        (λ q h. within q (from_order (map f t.squares) q h));
    once = λ i j a b c d. in_code_order-count (covers i j) (map f t.squares) ∙ once i j (omega arith) (omega arith);
  };
  ordered = ordered (map f t.squares) side (λ q h. let w = within q h in let a = w.right in let b = w.bottom in
      omega (arith, once q.x q.y (omega (arith, side q h)) (omega (arith, side q h))));
}
  where
    long : (q : Square) (squares : List Square) → IsOneOf q squares → 0 < length squares
    long q [] h = absurd h
    long q (r ∷ squares) h = omega arith

    some : (squares : List Square) → 0 < length squares → ((q : Square) → IsOneOf q t.squares → IsOneOf (f q) (in_code_order (map f t.squares)))
        → 0 < length (in_code_order (map f t.squares))
    some squares h g = from t.squares refl
      where
        from : (squares : List Square) → t.squares ≡ squares → 0 < length (in_code_order (map f t.squares))
        from [] e = absurd (omega (arith, (tiling.tiles).some, ap length e))
        from (q ∷ squares) e = long (f q) (in_code_order (map f t.squares)) (g q (subst (IsOneOf q) (sym e) (inl refl)))

    side : (q : Square) → IsOneOf q (map f t.squares) → 0 < q.s
    side q h = let k = from_map f t.squares q h in omega (arith, ap (λ (s : Square). s.s) k.2, m.side k.0, side_of t tiling k.0 k.1)

    within : (q : Square) → IsOneOf q (map f t.squares) → IsWithin (record { x = 0; y = 0; width = width; height = height }) q
    within q h = let k = from_map f t.squares q h in subst (IsWithin (record { x = 0; y = 0; width = width; height = height })) (sym k.2) (m.within k.0 k.1)

    once : (i j : ℕ) → i < width → j < height → count_by (covers i j) (map f t.squares) ≡ 1
    once i j a b = count_same f i j (m.column i j) (m.level i j) t.squares (m.same i j a b)
        ∙ cell_once t tiling (m.column i j) (m.level i j) (m.cell i j a b).0 (m.cell i j a b).1

-- a square lies over one cell exactly where another lies over another cell
record BothOver (i j k l : ℕ) (p q : Square) : Type 0 where
  forth : p.x ≤ i → i < p.x + p.s → p.y ≤ j → j < p.y + p.s → IsOver k l q
  back : q.x ≤ k → k < q.x + q.s → q.y ≤ l → l < q.y + q.s → IsOver i j p

-- a turn by which each square and each of its cells comes from the rectangle
turned : (t : Tiling) → IsTiling t → (turn : Turn) (width height : ℕ) (column level : ℕ → ℕ → ℕ)
    → ((q : Square) → (image_square turn t.width t.height q).s ≡ q.s)
    → ((i j : ℕ) → i < width → j < height → (column i j < t.width) × (level i j < t.height))
    → ((q : Square) → q.x + q.s ≤ 0 + t.width → q.y + q.s ≤ 0 + t.height
    → IsWithin (record { x = 0; y = 0; width = width; height = height }) (image_square turn t.width t.height q))
    → ((i j : ℕ) → i < width → j < height → (q : Square) → q.x + q.s ≤ 0 + t.width → q.y + q.s ≤ 0 + t.height
    → BothOver i j (column i j) (level i j) (image_square turn t.width t.height q) q)
    → IsTiling (record { width = width; height = height; squares = in_code_order (map (image_square turn t.width t.height) t.squares) })
turned t tiling turn width height column level side cell within over = moved_squares_tile t (image_square turn t.width t.height) width height tiling (record {
  side = side;
  within = λ q h. within q (within_of t tiling q h).right (within_of t tiling q h).bottom;
  column = column;
  level = level;
  cell = cell;
  same = λ i j a b q h. let o = over i j a b q (within_of t tiling q h).right (within_of t tiling q h).bottom in
      same_cover i j (column i j) (level i j) (image_square turn t.width t.height q) q (λ p. o.forth p.left p.right p.top p.bottom)
      (λ p. o.back p.left p.right p.top p.bottom);
})

-- each image of a tiling is a tiling
pub images_are_tilings : ImagesAreTilings
images_are_tilings t Same tiling = turned t tiling Same t.width t.height (λ i j. i) (λ i j. j)
    (λ q. refl) (λ i j a b. (omega arith, omega arith))
    (λ q c e. record { left = omega arith; right = omega arith; top = omega arith; bottom = omega arith })
    (λ i j a b q c e. record {
      forth = λ l r u v. record { left = omega arith; right = omega arith; top = omega arith; bottom = omega arith };
      back = λ l r u v. record { left = omega arith; right = omega arith; top = omega arith; bottom = omega arith };
    })
images_are_tilings t FlipX tiling = turned t tiling FlipX t.width t.height (λ i j. t.width - 1 - i) (λ i j. j)
    (λ q. refl) (λ i j a b. (omega arith, omega arith))
    (λ q c e. record { left = omega arith; right = omega arith; top = omega arith; bottom = omega arith })
    (λ i j a b q c e. record {
      forth = λ l r u v. record { left = omega arith; right = omega arith; top = omega arith; bottom = omega arith };
      back = λ l r u v. record { left = omega arith; right = omega arith; top = omega arith; bottom = omega arith };
    })
images_are_tilings t FlipY tiling = turned t tiling FlipY t.width t.height (λ i j. i) (λ i j. t.height - 1 - j)
    (λ q. refl) (λ i j a b. (omega arith, omega arith))
    (λ q c e. record { left = omega arith; right = omega arith; top = omega arith; bottom = omega arith })
    (λ i j a b q c e. record {
      forth = λ l r u v. record { left = omega arith; right = omega arith; top = omega arith; bottom = omega arith };
      back = λ l r u v. record { left = omega arith; right = omega arith; top = omega arith; bottom = omega arith };
    })
images_are_tilings t Half tiling = turned t tiling Half t.width t.height (λ i j. t.width - 1 - i) (λ i j. t.height - 1 - j)
    (λ q. refl) (λ i j a b. (omega arith, omega arith))
    (λ q c e. record { left = omega arith; right = omega arith; top = omega arith; bottom = omega arith })
    (λ i j a b q c e. record {
      forth = λ l r u v. record { left = omega arith; right = omega arith; top = omega arith; bottom = omega arith };
      back = λ l r u v. record { left = omega arith; right = omega arith; top = omega arith; bottom = omega arith };
    })
images_are_tilings t Swap tiling = turned t tiling Swap t.height t.width (λ i j. j) (λ i j. i)
    (λ q. refl) (λ i j a b. (omega arith, omega arith))
    (λ q c e. record { left = omega arith; right = omega arith; top = omega arith; bottom = omega arith })
    (λ i j a b q c e. record {
      forth = λ l r u v. record { left = omega arith; right = omega arith; top = omega arith; bottom = omega arith };
      back = λ l r u v. record { left = omega arith; right = omega arith; top = omega arith; bottom = omega arith };
    })
images_are_tilings t SwapFlipX tiling = turned t tiling SwapFlipX t.height t.width (λ i j. j) (λ i j. t.height - 1 - i)
    (λ q. refl) (λ i j a b. (omega arith, omega arith))
    (λ q c e. record { left = omega arith; right = omega arith; top = omega arith; bottom = omega arith })
    (λ i j a b q c e. record {
      forth = λ l r u v. record { left = omega arith; right = omega arith; top = omega arith; bottom = omega arith };
      back = λ l r u v. record { left = omega arith; right = omega arith; top = omega arith; bottom = omega arith };
    })
images_are_tilings t SwapFlipY tiling = turned t tiling SwapFlipY t.height t.width (λ i j. t.width - 1 - j) (λ i j. i)
    (λ q. refl) (λ i j a b. (omega arith, omega arith))
    (λ q c e. record { left = omega arith; right = omega arith; top = omega arith; bottom = omega arith })
    (λ i j a b q c e. record {
      forth = λ l r u v. record { left = omega arith; right = omega arith; top = omega arith; bottom = omega arith };
      back = λ l r u v. record { left = omega arith; right = omega arith; top = omega arith; bottom = omega arith };
    })
images_are_tilings t SwapHalf tiling = turned t tiling SwapHalf t.height t.width (λ i j. t.width - 1 - j) (λ i j. t.height - 1 - i)
    (λ q. refl) (λ i j a b. (omega arith, omega arith))
    (λ q c e. record { left = omega arith; right = omega arith; top = omega arith; bottom = omega arith })
    (λ i j a b q c e. record {
      forth = λ l r u v. record { left = omega arith; right = omega arith; top = omega arith; bottom = omega arith };
      back = λ l r u v. record { left = omega arith; right = omega arith; top = omega arith; bottom = omega arith };
    })
