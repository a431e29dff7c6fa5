-- Images and tilings in lowest terms are no larger than a `Tiling` of the code can be.
use Rattle.std.specs.List.{AllByRecursion}
use Rattle.std.specs.Prelude.{◌/◌, ◌^◌}
use Rattle.std.proofs.Common.{List, [], ap, arith, length, map, refl, subst, sym, take, ℕ, ◌<◌, ◌∙◌, ◌∷◌, ◌≡◌, ◌≤◌}
use Rattle.std.proofs.Math.Nat.{div-le_self}
use Rattle.std.proofs.lemmas.List.{length-map, take_all}
use Rattle.std.proofs.lemmas.List.Elements.{All-from_recursion}
use Rattle.bk_tiling.proofs.Cells.{all_from, in_all}
use Rattle.bk_tiling.proofs.OneRefusal.{tiles_apart}
use Rattle.bk_tiling.proofs.OrderLaws.{in_code_order-count, in_code_order-length}
use Rattle.bk_tiling.proofs.PuttingInOrder.{from_order, in_order}
use Rattle.bk_tiling.specs.CodeOrder.{in_code_order}
use Rattle.bk_tiling.specs.KeptTiling.{IsKept, IsSide}
use Rattle.bk_tiling.specs.Refusal.{HaveSides, ShareNoCell, sized}
use Rattle.bk_tiling.specs.Tiling.{IsOneOf, IsWithin, Rectangle, Tiles, Tiling, covers}
use Rattle.bk_tiling.specs.declared.Square.{Square}
use Rattle.bk_tiling.specs.declared.TheConstants.{MOST_SQUARES}
use Rattle.bk_sym.proofs.Images.{from_map, images_are_tilings}
use Rattle.bk_sym.proofs.ScaledDown.{scaled_is_tiling, side_divisor}
use Rattle.bk_sym.specs.Canonical.{scaled_down_tiling}
use Rattle.bk_sym.specs.Image.{image, image_size, image_square}
use Rattle.bk_sym.specs.declared.Turn.{Turn}
use Rattle.bk_sym.specs.declared.Turn.TheVariants.{FlipX, FlipY, Half, Same, Swap, SwapFlipX, SwapFlipY, SwapHalf}

-- a turn keeps the side of a square
pub side-image_square : (turn : Turn) (w h : ℕ) (q : Square) → (image_square turn w h q).s ≡ q.s
side-image_square Same w h q = refl
side-image_square FlipX w h q = refl
side-image_square FlipY w h q = refl
side-image_square Half w h q = refl
side-image_square Swap w h q = refl
side-image_square SwapFlipX w h q = refl
side-image_square SwapFlipY w h q = refl
side-image_square SwapHalf w h q = refl

-- each square of an image has the side of a square of the tiling
pub side_from_image : (turn : Turn) (t : Tiling) (p : Square) → IsOneOf p (image turn t).squares → (q : Square) × IsOneOf q t.squares × (p.s ≡ q.s)
side_from_image turn t p h =
    let found = from_map (image_square turn t.width t.height) t.squares p (from_order (map (image_square turn t.width t.height) t.squares) p h) in
    (found.0, found.1, ap (λ (r : Square). r.s) found.2 ∙ side-image_square turn t.width t.height found.0)

size_fits : (turn : Turn) (w h most : ℕ) → w < most → h < most → ((image_size turn w h).0 < most) × ((image_size turn w h).1 < most)
size_fits Same w h most a b = (a, b)
size_fits FlipX w h most a b = (a, b)
size_fits FlipY w h most a b = (a, b)
size_fits Half w h most a b = (a, b)
size_fits Swap w h most a b = (b, a)
size_fits SwapFlipX w h most a b = (b, a)
size_fits SwapFlipY w h most a b = (b, a)
size_fits SwapHalf w h most a b = (b, a)

-- an image of a tiling that a `Tiling` can be is one too
pub kept_image : (turn : Turn) (t : Tiling) → IsKept t → IsKept (image turn t)
kept_image turn t kept = record {
  tiling = images_are_tilings t turn kept.tiling;
  few = omega (
    arith,
    kept.few,
    in_code_order-length (map (image_square turn t.width t.height) t.squares),
    length-map t.squares (image_square turn t.width t.height),
  );
  sides = all_from (λ q. IsSide q.s) (image turn t).squares (λ p h. let found = side_from_image turn t p h in
      subst IsSide (sym found.2) (in_all (λ q. IsSide q.s) t.squares kept.sides found.0 found.1));
  width_fits = (size_fits turn t.width t.height (2 ^ 64) kept.width_fits kept.height_fits).0;
  height_fits = (size_fits turn t.width t.height (2 ^ 64) kept.width_fits kept.height_fits).1;
}

-- squares that tile a rectangle in code order tile it in any order
tiles_in_any_order : (r : Rectangle) (squares : List Square) → Tiles r (in_code_order squares) → Tiles r squares
tiles_in_any_order r squares tiles = record {
  some = omega (arith, tiles.some, in_code_order-length squares);
  sides = all_from (λ q. 0 < q.s) squares (λ q h. in_all (λ q. 0 < q.s) (in_code_order squares) tiles.sides q (in_order squares q h));
  within = all_from (IsWithin r) squares (λ q h. in_all (IsWithin r) (in_code_order squares) tiles.within q (in_order squares q h));
  once = λ i j a b c d. sym (in_code_order-count (covers i j) squares) ∙ tiles.once i j a b c d;
}

-- the turned squares of a tiling, before they are put in order, have sides that squares may have
pub turned_sides : (turn : Turn) (t : Tiling) → IsKept t → HaveSides (map (image_square turn t.width t.height) t.squares)
turned_sides turn t kept =
    let turned : List Square = map (image_square turn t.width t.height) t.squares in
    All-from_recursion (λ (q : Square). IsSide q.s) turned (all_from (λ q. IsSide q.s) turned
    (λ q h. in_all (λ q. IsSide q.s) (in_code_order turned) (kept_image turn t kept).sides q (in_order turned q h)))

-- the turned squares of a tiling, before they are put in order, share no cell
pub turned_apart : (turn : Turn) (t : Tiling) → IsKept t → ShareNoCell (map (image_square turn t.width t.height) t.squares)
turned_apart turn t kept =
    let size : ℕ × ℕ = image_size turn t.width t.height in
    let turned : List Square = map (image_square turn t.width t.height) t.squares in
    tiles_apart size.0 size.1 turned (tiles_in_any_order (sized size.0 size.1) turned (kept_image turn t kept).tiling.tiles)

sides_divided : (g : ℕ) (squares : List Square) → AllByRecursion (λ q. IsSide q.s) squares
    → AllByRecursion (λ (q : Square). 0 < q.s) (map (λ q. record { x = q.x / g; y = q.y / g; s = q.s / g }) squares)
    → AllByRecursion (λ (q : Square). IsSide q.s) (map (λ q. record { x = q.x / g; y = q.y / g; s = q.s / g }) squares)
sides_divided g [] sides some = tt
sides_divided g (q ∷ squares) sides some = ((some.0, omega (arith, sides.0.1, div-le_self q.s g)), sides_divided g squares sides.1 some.1)

-- a tiling in lowest terms can be a `Tiling` where the tiling is one
pub kept_scaled : (t : Tiling) → IsKept t → IsKept (scaled_down_tiling t)
kept_scaled t kept = record {
  tiling = scaled_is_tiling t kept.tiling;
  few = subst (λ n. n ≤ MOST_SQUARES)
      (sym (length-map t.squares (λ q. record { x = q.x / side_divisor t; y = q.y / side_divisor t; s = q.s / side_divisor t }))) kept.few;
  sides = sides_divided (side_divisor t) t.squares kept.sides (scaled_is_tiling t kept.tiling).tiles.sides;
  width_fits = omega (arith, kept.width_fits, div-le_self t.width (side_divisor t));
  height_fits = omega (arith, kept.height_fits, div-le_self t.height (side_divisor t));
}

-- squares made of all squares of a list
pub all_taken : (f : Square → Square) (k : ℕ) (xs ys made : List Square) → xs ≡ ys → length xs ≤ k → made ≡ map f (take k xs) → made ≡ map f ys
all_taken f k xs ys made same all e = e ∙ ap (map f) (take_all k xs all ∙ same)

-- once all squares are turned, they are those of the image
pub all_turned : (turn : Turn) (t : Tiling) (w h k : ℕ) (xs made : List Square) → w ≡ t.width → h ≡ t.height → xs ≡ t.squares → length xs ≤ k
    → made ≡ map (image_square turn w h) (take k xs) → made ≡ map (image_square turn t.width t.height) t.squares
all_turned turn t w h k xs made ew eh same all e =
    all_taken (image_square turn w h) k xs t.squares made same all e
    ∙ ap (λ (n : ℕ). map (image_square turn n h) t.squares) ew ∙ ap (λ (n : ℕ). map (image_square turn t.width n) t.squares) eh

-- the tiling that these numbers and squares make
pub made : (w h : ℕ) (squares : List Square) (t : Tiling) → w ≡ t.width → h ≡ t.height → squares ≡ t.squares
    → record { width = w; height = h; squares = squares } ≡ t
made w h squares t ew eh es = λ i. record { width = ew i; height = eh i; squares = es i }

-- a square with its place and its side divided
abbrev pub divided_square : ℕ → Square → Square
divided_square g q = record { x = q.x / g; y = q.y / g; s = q.s / g }

-- the tiling scaled down, of the numbers and squares of a tiling divided by the divisor of its sides
pub scaled_made : (t : Tiling) (g w h k : ℕ) (xs items : List Square) → g ≡ side_divisor t → w ≡ t.width → h ≡ t.height → xs ≡ t.squares
    → length xs ≤ k → items ≡ map (divided_square g) (take k xs) → record { width = w / g; height = h / g; squares = items } ≡ scaled_down_tiling t
scaled_made t g w h k xs items eg ew eh same all is = made (w / g) (h / g) items (scaled_down_tiling t)
    (ap (λ n. n / g) ew ∙ ap (λ n. t.width / n) eg) (ap (λ n. n / g) eh ∙ ap (λ n. t.height / n) eg)
    (all_taken (divided_square g) k xs t.squares items same all is ∙ ap (λ n. map (divided_square n) t.squares) eg)
