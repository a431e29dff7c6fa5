-- Placed squares of a tiling, turned with their rectangle, are placed squares of the tiling's image.
use Rattle.std.proofs.Common.{Bool, List, ap, arith, count_by, length, map, refl, subst, sym, ℕ, ◌<◌, ◌∙◌, ◌≡◌, ◌≤◌}
use Rattle.std.proofs.lemmas.List.{length-map}
use Rattle.bk_tiling.proofs.Cells.{all_from, in_all}
use Rattle.bk_tiling.proofs.OrderLaws.{in_code_order-count, in_code_order-length}
use Rattle.bk_tiling.proofs.PuttingInOrder.{from_order, in_order, ordered}
use Rattle.bk_tiling.proofs.Scaling.{same_members}
use Rattle.bk_tiling.proofs.TilingLaws.{cell_once, side_of, within_of}
use Rattle.bk_tiling.specs.CodeOrder.{in_code_order}
use Rattle.bk_tiling.specs.KeptTiling.{IsSide}
use Rattle.bk_tiling.specs.Refusal.{IsAccepted}
use Rattle.bk_tiling.specs.Tiling.{IsOneOf, IsTiling, IsWithin, Tiles, Tiling, covers, whole}
use Rattle.bk_tiling.specs.declared.Square.{Square}
use Rattle.bk_sym.proofs.Composing.{images_of_images}
use Rattle.bk_sym.proofs.Images.{from_map, images_are_tilings, in_map}
use Rattle.bk_sym.proofs.KeptImages.{made, side-image_square}
use Rattle.bk_sym.specs.Image.{image, image_size, image_square}
use Rattle.bk_sym.specs.Turns.{after}
use Rattle.bk_sym.specs.declared.Turn.{Turn}
use Rattle.bk_catalogue.proofs.Members.Carrying.{count_mapped}
use Rattle.bk_found.specs.Found.{IsPlacementOf}
use Rattle.bk_found.specs.declared.placing.Placed.{Placed}

-- the squares of a tiling in some order, turned
module _ (u : Tiling) (tiling : IsTiling u) (xs : List Square) (same : in_code_order xs ≡ u.squares) (turn : Turn) where
  abbrev move : Square → Square
  move = image_square turn u.width u.height

  is_image : IsTiling (image turn u)
  is_image = images_are_tilings u turn tiling

  forth : (q : Square) → IsOneOf q (map (image_square turn u.width u.height) xs) → IsOneOf q (image turn u).squares
  forth q h =
      let r = from_map move xs q h in
      subst (λ (p : Square). IsOneOf p (image turn u).squares) (sym r.2)
      (in_order (map move u.squares) (move r.0) (in_map move u.squares r.0 (subst (IsOneOf r.0) same (in_order xs r.0 r.1))))

  back : (q : Square) → IsOneOf q (image turn u).squares → IsOneOf q (map (image_square turn u.width u.height) xs)
  back q h =
      let r = from_map move u.squares q (from_order (map move u.squares) q h) in
      subst (λ (p : Square). IsOneOf p (map (image_square turn u.width u.height) xs)) (sym r.2)
      (in_map move xs r.0 (from_order xs r.0 (subst (IsOneOf r.0) (sym same) r.1)))

  counts : (c : Square → Bool) → count_by c (map (image_square turn u.width u.height) xs) ≡ count_by c (image turn u).squares
  counts c = count_mapped move c (λ q. c (move q)) xs (λ q h. refl)
      ∙ sym (in_code_order-count (λ q. c (move q)) xs)
      ∙ ap (count_by (λ q. c (move q))) same
      ∙ sym (count_mapped move c (λ q. c (move q)) u.squares (λ q h. refl))
      ∙ sym (in_code_order-count c (map move u.squares))

  once : (q : Square) → IsOneOf q (map (image_square turn u.width u.height) xs)
      → count_by (covers q.x q.y) (map (image_square turn u.width u.height) xs) ≤ 1
  once q h = omega (
    arith,
    counts (covers q.x q.y),
    cell_once (image turn u) is_image q.x q.y
        (omega (arith, (within_of (image turn u) is_image q (forth q h)).right, side_of (image turn u) is_image q (forth q h)))
        (omega (arith, (within_of (image turn u) is_image q (forth q h)).bottom, side_of (image turn u) is_image q (forth q h))),
  )

  -- put in the order of a code they are the image's
  in_the_order : in_code_order (map (image_square turn u.width u.height) xs) ≡ (image turn u).squares
  in_the_order = same_members (in_code_order (map (image_square turn u.width u.height) xs)) (image turn u).squares
      (ordered (map (image_square turn u.width u.height) xs) (λ q h. side_of (image turn u) is_image q (forth q h)) once)
      is_image.ordered (λ q h. forth q (from_order (map (image_square turn u.width u.height) xs) q h))
      (λ q h. in_order (map (image_square turn u.width u.height) xs) q (back q h))

  as_many : length (map (image_square turn u.width u.height) xs) ≡ length xs
  as_many = length-map xs (image_square turn u.width u.height)

  -- the turned squares tile the rectangle of the image
  they_tile : Tiles (whole (image turn u)) (map (image_square turn u.width u.height) xs)
  they_tile = record {
    some = omega (arith, as_many, in_code_order-length xs, ap length same, tiling.tiles.some);
    sides = all_from (λ q. 0 < q.s) (map (image_square turn u.width u.height) xs) (λ q h. side_of (image turn u) is_image q (forth q h));
    within = all_from (λ q. IsWithin (whole (image turn u)) q) (map (image_square turn u.width u.height) xs)
        (λ q h. within_of (image turn u) is_image q (forth q h));
    once = λ i j a b c d. counts (covers i j) ∙ is_image.tiles.once i j a b c d;
  }

  accepted_turned : length xs ≤ 200 → ((q : Square) → IsOneOf q xs → IsSide q.s)
      → IsAccepted (image turn u).width (image turn u).height (map (image_square turn u.width u.height) xs)
  accepted_turned few sides = record {
    few = omega (arith, as_many, few);
    sides = all_from (λ q. IsSide q.s) (map (image_square turn u.width u.height) xs) (λ q h. let r = from_map move xs q h in
        subst IsSide (sym (ap (λ (p : Square). p.s) r.2 ∙ side-image_square turn u.width u.height r.0)) (sides r.0 r.1));
    tiles = they_tile;
  }

-- what is made of the squares of a placement, turned with the rectangle: they are accepted, and their tiling is the image
pub turned_placement : (u : Tiling) (p : Placed) (turn : Turn) (w h : ℕ) (squares : List Square) → IsTiling u → IsPlacementOf u p
    → (w, h) ≡ image_size turn p.width p.height → squares ≡ map (image_square turn p.width p.height) p.squares.items
    → IsAccepted w h squares × (record { width = w; height = h; squares = in_code_order squares } ≡ image turn u)
turned_placement u p turn w h squares tiling place size is = (
  subst (λ n. IsAccepted n h squares) (sym width) (subst (λ n. IsAccepted (image turn u).width n squares) (sym height)
      (subst (λ (qs : List Square). IsAccepted (image turn u).width (image turn u).height qs) (sym moved)
      (accepted_turned u tiling p.squares.items place.squares turn place.accepted.few
      (in_all (λ q. IsSide q.s) p.squares.items place.accepted.sides)))),
  made w h (in_code_order squares) (image turn u) width height
      (ap in_code_order moved ∙ in_the_order u tiling p.squares.items place.squares turn),
)
  where
    sized : (w, h) ≡ image_size turn u.width u.height
    sized = size ∙ ap (λ n. image_size turn n p.height) place.width ∙ ap (λ n. image_size turn u.width n) place.height

    width : w ≡ (image turn u).width
    width = ap (λ (s : ℕ × ℕ). s.0) sized

    height : h ≡ (image turn u).height
    height = ap (λ (s : ℕ × ℕ). s.1) sized

    moved : squares ≡ map (image_square turn u.width u.height) p.squares.items
    moved = is ∙ ap (λ n. map (image_square turn n p.height) p.squares.items) place.width
        ∙ ap (λ n. map (image_square turn u.width n) p.squares.items) place.height

-- turned squares of a placement of an image of a tiling make an image of this tiling
pub turned_image : (t : Tiling) (turn : Turn) (p : Placed) (which : Turn) (w h : ℕ) (squares : List Square) → IsTiling t → IsPlacementOf (image turn t) p
    → (w, h) ≡ image_size which p.width p.height → squares ≡ map (image_square which p.width p.height) p.squares.items
    → IsAccepted w h squares × (record { width = w; height = h; squares = in_code_order squares } ≡ image (after which turn) t)
turned_image t turn p which w h squares tiling place size is =
    let made_image = turned_placement (image turn t) p which w h squares (images_are_tilings t turn tiling) place size is in
    (made_image.0, made_image.1 ∙ images_of_images t which turn tiling)
