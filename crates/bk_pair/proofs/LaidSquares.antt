-- Two tilings of one size and two squares tile a square.
use Rattle.std.specs.List.{AllByRecursion}
use Rattle.std.specs.Prelude.{map, slice_index_or}
use Rattle.std.proofs.Common.{List, [], ap, arith, length, refl, subst, sym, zero-add, ℕ, ◌++◌, ◌+◌, ◌<◌, ◌∙◌, ◌∷◌, ◌≡◌, ◌≤◌}
use Rattle.std.proofs.lemmas.List.{append_assoc, length-append, length-map}
use Rattle.std.proofs.lemmas.List.Elements.{All-from_recursion}
use Rattle.bk_laws.proofs.AllOfLists.{all_append}
use Rattle.bk_tiling.proofs.Cells.{in_all}
use Rattle.bk_tiling.proofs.JoinedParts.{tiles_alone, tiles_joined}
use Rattle.bk_tiling.proofs.Members.{one_at}
use Rattle.bk_tiling.proofs.MovedSquares.{all_moved, moved_rectangle, tiles_moved}
use Rattle.bk_tiling.proofs.OneRefusal.{kept_from, tiles_apart, tiles_cells}
use Rattle.bk_tiling.proofs.OrderLaws.{in_code_order-length}
use Rattle.bk_tiling.proofs.Sizes.{most_height, most_width}
use Rattle.bk_tiling.specs.CodeOrder.{in_code_order}
use Rattle.bk_tiling.specs.KeptTiling.{IsKept, IsSide}
use Rattle.bk_tiling.specs.Refusal.{HaveSides, ShareNoCell, sized}
use Rattle.bk_tiling.specs.Scale.{moved_square}
use Rattle.bk_tiling.specs.Tiling.{IsWithin, Rectangle, Tiles, Tiling, order, whole}
use Rattle.bk_tiling.specs.declared.Square.{Square}
use Rattle.bk_sym.specs.Image.{image, image_square}
use Rattle.bk_sym.specs.declared.Turn.TheVariants.{Swap}
use Rattle.bk_pair.specs.Pair.{CanBeLaid, corner_squares, joined_square, laid_squares}
use Rattle.bk_tiling.proofs.CutRectangles.{left_part, lower_part, rectangle, right_part, split_beside, split_stacked, upper_part}

abbrev square_at : ℕ → ℕ → ℕ → Square
square_at x y s = record { x = x; y = y; s = s }

-- a tiling and the square at its right tile the upper part
upper_tiles : (w h : ℕ) (squares : List Square) → 0 < h → Tiles (sized w h) squares → Tiles (rectangle 0 0 (w + h) h) (squares ++ square_at w 0 h ∷ [])
upper_tiles w h squares some tiles =
    tiles_joined (rectangle 0 0 (w + h) h) (rectangle 0 0 w h) (rectangle w 0 h h) squares (square_at w 0 h ∷ [])
    (left_part 0 w 0 (w + h) w h h (omega arith) refl) (right_part 0 w 0 (w + h) w h h (omega arith) refl) (split_beside 0 w 0 (w + h) w h h (omega arith) refl)
    tiles (tiles_alone (square_at w 0 h) some)

-- the square below and a tiling with columns and levels exchanged tile the lower part
lower_tiles : (w h : ℕ) (squares : List Square) → 0 < w → Tiles (sized h w) squares
    → Tiles (rectangle 0 h (w + h) w) (square_at 0 h w ∷ map (moved_square w h) squares)
lower_tiles w h squares some tiles =
    let at : moved_rectangle w h (sized h w) ≡ rectangle w h h w = λ z. rectangle (zero-add w z) (zero-add h z) h w in
    tiles_joined (rectangle 0 h (w + h) w) (rectangle 0 h w w) (rectangle w h h w) (square_at 0 h w ∷ []) (map (moved_square w h) squares)
    (left_part 0 w h (w + h) w h w (omega arith) refl) (right_part 0 w h (w + h) w h w (omega arith) refl) (split_beside 0 w h (w + h) w h w (omega arith) refl)
    (tiles_alone (square_at 0 h w) some)
    (subst (λ (r : Rectangle). Tiles r (map (moved_square w h) squares)) at (tiles_moved w h (sized h w) squares tiles))

-- both parts tile the square
square_tiles : (w h : ℕ) (first second : List Square) → 0 < w → 0 < h → Tiles (sized w h) first → Tiles (sized h w) second
    → Tiles (sized (w + h) (w + h)) (first ++ (square_at w 0 h ∷ square_at 0 h w ∷ [] ++ map (moved_square w h) second))
square_tiles w h first second wide high one two =
    subst (λ (l : List Square). Tiles (sized (w + h) (w + h)) l) (append_assoc first (square_at w 0 h ∷ []) (square_at 0 h w ∷ map (moved_square w h) second))
    (tiles_joined (sized (w + h) (w + h)) (rectangle 0 0 (w + h) h) (rectangle 0 h (w + h) w) (first ++ square_at w 0 h ∷ [])
    (square_at 0 h w ∷ map (moved_square w h) second)
    (upper_part 0 0 h (w + h) (w + h) h w (omega arith) (omega arith)) (lower_part 0 0 h (w + h) (w + h) h w (omega arith) (omega arith))
    (split_stacked 0 0 h (w + h) (w + h) h w (omega arith) (omega arith))
    (upper_tiles w h first high one) (lower_tiles w h second wide two))

-- a tiling has as many squares with columns and levels exchanged
pub exchanged_order : (t : Tiling) → order (image Swap t) ≡ order t
exchanged_order t =
    in_code_order-length (map (image_square Swap t.width t.height) t.squares) ∙ length-map t.squares (image_square Swap t.width t.height)

module _ (a b : Tiling) (kept : IsKept a) (turned : IsKept (image Swap b)) (can : CanBeLaid a b) where
  some_cells : (0 < a.width) × (0 < a.height)
  some_cells = let cells = tiles_cells a.width a.height a.squares kept.tiling.tiles in (cells.0, cells.1)

  turned_tiles : Tiles (sized a.height a.width) (image Swap b).squares
  turned_tiles =
      subst (λ (h : ℕ). Tiles (sized h a.width) (image Swap b).squares) (sym can.size.height)
      (subst (λ (w : ℕ). Tiles (sized b.height w) (image Swap b).squares) (sym can.size.width) turned.tiling.tiles)

  few : length (laid_squares a b) ≡ order a + order b + 2
  few = omega (
    arith,
    length-append a.squares (corner_squares a ++ map (moved_square a.width a.height) (image Swap b).squares),
    length-append (corner_squares a) (map (moved_square a.width a.height) (image Swap b).squares),
    length-map (image Swap b).squares (moved_square a.width a.height),
    exchanged_order b,
  )

  -- each square that is laid has a side that a square may have
  pub sides_kept : AllByRecursion (λ q. IsSide q.s) (laid_squares a b)
  sides_kept =
      all_append (λ q. IsSide q.s) a.squares (corner_squares a ++ map (moved_square a.width a.height) (image Swap b).squares) kept.sides (
        (some_cells.1, can.high),
        (
          (some_cells.0, can.wide),
          all_moved (λ q. IsSide q.s) (λ q. IsSide q.s) a.width a.height (λ q side. side)
              (image Swap b).squares turned.sides,
        ),
      )

  -- the squares of two tilings that are laid together tile the square
  pub squares_tile_square : Tiles (sized (a.width + a.height) (a.width + a.height)) (laid_squares a b)
  squares_tile_square = square_tiles a.width a.height a.squares (image Swap b).squares some_cells.0 some_cells.1 kept.tiling.tiles turned_tiles

  -- no two squares of two tilings that are laid together share a cell
  pub squares_stand_apart : ShareNoCell (laid_squares a b)
  squares_stand_apart = tiles_apart (a.width + a.height) (a.width + a.height) (laid_squares a b) squares_tile_square

  -- what they make is a tiling
  pub kept_square : IsKept (joined_square a b)
  kept_square =
      kept_from (a.width + a.height) (a.width + a.height) (laid_squares a b) (in_code_order (laid_squares a b))
      (omega (arith, most_width a kept, most_height a kept)) (omega (arith, most_width a kept, most_height a kept))
      (record { few = omega (arith, few, can.few); sides = sides_kept; tiles = squares_tile_square }) refl

-- squares that are moved by nothing
moved_none : (squares : List Square) → map (moved_square 0 0) squares ≡ squares
moved_none [] = refl
moved_none (q ∷ squares) =
    let x : q.x + 0 ≡ q.x = omega arith in
    let y : q.y + 0 ≡ q.y = omega arith in
    λ i. record { x = x i; y = y i; s = q.s } ∷ moved_none squares i

-- the squares that are put one after another
pub around_items : (a turned : Tiling) (w h : ℕ) (none first second third last : List Square) → w ≡ a.width → h ≡ a.height → none ≡ []
    → first ≡ none ++ map (moved_square 0 0) a.squares → second ≡ first ++ square_at w 0 h ∷ [] → third ≡ second ++ square_at 0 h w ∷ []
    → last ≡ third ++ map (moved_square w h) turned.squares
    → last ≡ a.squares ++ (corner_squares a ++ map (moved_square a.width a.height) turned.squares)
around_items a turned w h none first second third last wide high empty one two three all =
    all
    ∙ ap (λ (l : List Square). l ++ map (moved_square w h) turned.squares)
    (three ∙ ap (λ (l : List Square). l ++ square_at 0 h w ∷ []) (two ∙ ap (λ (l : List Square). l ++ square_at w 0 h ∷ [])
    (one ∙ ap (λ (l : List Square). l ++ map (moved_square 0 0) a.squares) empty ∙ moved_none a.squares)))
    ∙ append_assoc (a.squares ++ square_at w 0 h ∷ []) (square_at 0 h w ∷ []) (map (moved_square w h) turned.squares)
    ∙ append_assoc a.squares (square_at w 0 h ∷ []) (square_at 0 h w ∷ map (moved_square w h) turned.squares)
    ∙ (λ i. a.squares ++ (square_at (wide i) 0 (high i) ∷ square_at 0 (high i) (wide i) ∷ map (moved_square (wide i) (high i)) turned.squares))

-- with the second tiling turned these are the squares of the two laid together
pub around_turned : (a b turned : Tiling) (squares : List Square) → turned ≡ image Swap b
    → squares ≡ a.squares ++ (corner_squares a ++ map (moved_square a.width a.height) turned.squares) → squares ≡ laid_squares a b
around_turned a b turned squares is all =
    all ∙ (λ i. a.squares ++ (corner_squares a ++ map (moved_square a.width a.height) (is i).squares))

-- a square of a kept tiling stands at small numbers
pub small_place : (t : Tiling) (k : ℕ) (d : Square) → IsKept t → k < length t.squares → ((slice_index_or t.squares k d).x ≤ 199999999999999800)
    × ((slice_index_or t.squares k d).y ≤ 199999999999999800)
small_place t k d kept below =
    let within = in_all (IsWithin (whole t)) t.squares kept.tiling.tiles.within (slice_index_or t.squares k d) (one_at t.squares k d below) in
    (omega (arith, within.right, most_width t kept), omega (arith, within.bottom, most_height t kept))

-- the parts of the square make it
pub parts_make_square : (a b : Tiling) (w h : ℕ) (squares : List Square) → w ≡ a.width → h ≡ a.height → squares ≡ in_code_order (laid_squares a b)
    → ◌≡◌ {A = Tiling} (record { width = w + h; height = w + h; squares = squares }) (joined_square a b)
parts_make_square a b w h squares wide high same = λ i. record { width = wide i + high i; height = wide i + high i; squares = same i }

-- each of them has a side, told square by square
pub have_sides : (a b : Tiling) → IsKept a → IsKept (image Swap b) → CanBeLaid a b → HaveSides (laid_squares a b)
have_sides a b kept turned can = All-from_recursion (λ (q : Square). IsSide q.s) (laid_squares a b) (sides_kept a b kept turned can)
