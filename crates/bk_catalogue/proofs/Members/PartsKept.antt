-- An image or a multiple of a compound tiling is compound.
use Rattle.std.specs.Prelude.{◌/◌}
use Rattle.std.proofs.Common.{ap, arith, count_by, filter, map, refl, subst, sym, true, ℕ, ◌*◌, ◌+◌, ◌-◌, ◌<◌, ◌∙◌, ◌≡◌, ◌≤◌}
use Rattle.std.proofs.Math.Nat.{div-lt_iff_lt-mul, le-div_iff_mul-le, mul-div_cancel, mul-le-mul_left}
use Rattle.bk_laws.proofs.Products.{mul_below}
use Rattle.bk_tiling.proofs.Cells.{counted_one, from_filter, over_from}
use Rattle.bk_tiling.proofs.OrderLaws.{in_code_order-count}
use Rattle.bk_tiling.proofs.PuttingInOrder.{from_order}
use Rattle.bk_tiling.proofs.TilingLaws.{within_of}
use Rattle.bk_tiling.specs.Scale.{enlarged, enlarged_square}
use Rattle.bk_tiling.specs.Tiling.{IsOneOf, IsTiling, Rectangle, Tiling, covers}
use Rattle.bk_tiling.specs.declared.Square.{Square}
use Rattle.bk_simple.proofs.SimpleTest.{has_cell}
use Rattle.bk_simple.specs.Simple.{IsCompound, IsPart}
use Rattle.bk_sym.proofs.Composing.{image-Same, images_of_images, square_same}
use Rattle.bk_sym.proofs.Images.{images_are_tilings, same_cover}
use Rattle.bk_sym.specs.Image.{image, image_square}
use Rattle.bk_sym.specs.Turns.{after}
use Rattle.bk_sym.specs.declared.Turn.{Turn}
use Rattle.bk_sym.specs.declared.Turn.TheVariants.{FlipX, FlipY, Half, Same, Swap, SwapFlipX, SwapFlipY, SwapHalf}
use Rattle.bk_catalogue.proofs.Members.Carrying.{carried}

module _ (t : Tiling) (r : Rectangle) (tiling : IsTiling t) (part : IsPart t r) where
  -- the rectangle of a part lies in that of the tiling
  part_inside : (r.x + r.width ≤ t.width) × (r.y + r.height ≤ t.height)
  part_inside = from (counted_one (covers (r.x + r.width - 1) (r.y + r.height - 1)) (filter part.pick t.squares) (omega (arith, last)))
    where
      last : count_by (covers (r.x + r.width - 1) (r.y + r.height - 1)) (filter part.pick t.squares) ≡ 1
      last = let cell = has_cell t r tiling part in
          (part.tiled).once (r.x + r.width - 1) (r.y + r.height - 1) (omega (arith, cell.0)) (omega (arith, cell.0)) (omega (arith, cell.1))
          (omega (arith, cell.1))

      from : (q : Square) × IsOneOf q (filter part.pick t.squares) × (covers (r.x + r.width - 1) (r.y + r.height - 1) q ≡ true)
          → (r.x + r.width ≤ t.width) × (r.y + r.height ≤ t.height)
      from (q, h, e) =
          let o = over_from (r.x + r.width - 1) (r.y + r.height - 1) q e in
          let w = within_of t tiling q (from_filter part.pick t.squares q h).0 in
          (omega (arith, o.right, w.right), omega (arith, o.bottom, w.bottom))

  abbrev flipped : Rectangle
  flipped = record { x = t.width - r.x - r.width; y = r.y; width = r.width; height = r.height }

  part_flipped : IsPart (image FlipX t) flipped
  part_flipped = carried t (image FlipX t) (image_square FlipX t.width t.height) (image_square FlipX t.width t.height)
      (record {
        counts = λ p. in_code_order-count p (map (image_square FlipX t.width t.height) t.squares);
        each = λ p h. from_order (map (image_square FlipX t.width t.height) t.squares) p h;
        back = λ q h. let w = within_of t tiling q h in let a = w.right in square_same _ _ (omega arith) refl refl;
        side = λ q h. h;
      })
      tiling r flipped
      (record {
        within = λ q h w. let v = within_of t tiling q h in let f = v.right in let a = w.left in let b = w.right in let c = w.top in let d = w.bottom in
            record { left = omega (arith, part_inside.0); right = omega (arith, part_inside.0); top = omega arith; bottom = omega arith };
        column = λ i j. t.width - 1 - i;
        level = λ i j. j;
        cell = λ i j c. let a = c.left in let b = c.right in let d = c.top in let e = c.bottom in
            record { left = omega (arith, part_inside.0); right = omega (arith, part_inside.0); top = omega arith; bottom = omega arith };
        same = λ i j c q h. let w = within_of t tiling q h in let a = w.right in let b = c.right in let d = c.left in
            same_cover i j (t.width - 1 - i) j (image_square FlipX t.width t.height q) q
            (λ o. let l = o.left in let m = o.right in let u = o.top in let v = o.bottom in
            record { left = omega (arith, part_inside.0); right = omega (arith, part_inside.0); top = omega arith; bottom = omega arith })
            (λ o. let l = o.left in let m = o.right in let u = o.top in let v = o.bottom in
            record { left = omega (arith, part_inside.0); right = omega (arith, part_inside.0); top = omega arith; bottom = omega arith });
      })
      part

  abbrev swapped : Rectangle
  swapped = record { x = r.y; y = r.x; width = r.height; height = r.width }

  part_swapped : IsPart (image Swap t) swapped
  part_swapped = carried t (image Swap t) (image_square Swap t.width t.height) (image_square Swap t.width t.height)
      (record {
        counts = λ p. in_code_order-count p (map (image_square Swap t.width t.height) t.squares);
        each = λ p h. from_order (map (image_square Swap t.width t.height) t.squares) p h;
        back = λ q h. refl;
        side = λ q h. h;
      })
      tiling r swapped
      (record {
        within = λ q h w. record { left = w.top; right = w.bottom; top = w.left; bottom = w.right };
        column = λ i j. j;
        level = λ i j. i;
        cell = λ i j c. record { left = c.top; right = c.bottom; top = c.left; bottom = c.right };
        same = λ i j c q h. same_cover i j j i (image_square Swap t.width t.height q) q
            (λ o. record { left = o.top; right = o.bottom; top = o.left; bottom = o.right })
            (λ o. record { left = o.top; right = o.bottom; top = o.left; bottom = o.right });
      })
      part

-- what is said of whole numbers times k is said of quotients
module _ (k : ℕ) (some : 0 < k) where
  times_at_most : (a i : ℕ) → k * a ≤ i → a ≤ i / k
  times_at_most a i h = (le-div_iff_mul-le some).1 (omega arith)

  at_most_times : (a i : ℕ) → a ≤ i / k → k * a ≤ i
  at_most_times a i h = omega (arith, (le-div_iff_mul-le some).0 h)

  below_times : (i b : ℕ) → i / k < b → i < k * b
  below_times i b h = omega (arith, (div-lt_iff_lt-mul some).0 h)

  times_below : (i b : ℕ) → i < k * b → i / k < b
  times_below i b h = (div-lt_iff_lt-mul some).1 (omega arith)

  divided : (a : ℕ) → (k * a) / k ≡ a
  divided a = ap (λ (n : ℕ). n / k) exchanged ∙ mul-div_cancel a some
    where
      exchanged : k * a ≡ a * k
      exchanged = omega arith

  module _ (t : Tiling) (r : Rectangle) (tiling : IsTiling t) (part : IsPart t r) where
    abbrev larger : Rectangle
    larger = record { x = k * r.x; y = k * r.y; width = k * r.width; height = k * r.height }

    part_enlarged : IsPart (enlarged k t) larger
    part_enlarged = carried t (enlarged k t) (enlarged_square k) (λ q. record { x = q.x / k; y = q.y / k; s = q.s / k })
        (record {
          counts = λ p. refl;
          each = λ p h. h;
          back = λ q h. square_same _ _ (divided q.x) (divided q.y) (divided q.s);
          side = λ q h. omega (arith, mul_below k 0 q.s some h);
        })
        tiling r larger
        (record {
          within = λ q h w. record {
            left = mul-le-mul_left k w.left;
            right = let m : k * (q.x + q.s) ≤ k * (r.x + r.width) = mul-le-mul_left k w.right in omega (arith, m);
            top = mul-le-mul_left k w.top;
            bottom = let m : k * (q.y + q.s) ≤ k * (r.y + r.height) = mul-le-mul_left k w.bottom in omega (arith, m);
          };
          column = λ i j. i / k;
          level = λ i j. j / k;
          cell = λ i j c. record {
            left = times_at_most r.x i c.left;
            right = times_below i (r.x + r.width) (omega (arith, c.right));
            top = times_at_most r.y j c.top;
            bottom = times_below j (r.y + r.height) (omega (arith, c.bottom));
          };
          same = λ i j c q h. same_cover i j (i / k) (j / k) (enlarged_square k q) q
              (λ o. record {
                left = times_at_most q.x i o.left;
                right = times_below i (q.x + q.s) (omega (arith, o.right));
                top = times_at_most q.y j o.top;
                bottom = times_below j (q.y + q.s) (omega (arith, o.bottom));
              })
              (λ o. record {
                left = at_most_times q.x i o.left;
                right = omega (arith, below_times i (q.x + q.s) o.right);
                top = at_most_times q.y j o.top;
                bottom = omega (arith, below_times j (q.y + q.s) o.bottom);
              });
        })
        part

-- an enlarged compound tiling is compound
pub enlarged_compound : (k : ℕ) (t : Tiling) → 0 < k → IsTiling t → IsCompound t → IsCompound (enlarged k t)
enlarged_compound k t some tiling (r, part) = (larger k some t r tiling part, part_enlarged k some t r tiling part)

-- each turn is made of two
module _ (t : Tiling) (tiling : IsTiling t) (compound : IsCompound t) where
  abbrev TurnsCompound : Turn → Type 0
  TurnsCompound turn = IsCompound (image turn t)

  then_flipped : (turn : Turn) → TurnsCompound turn → TurnsCompound (after FlipX turn)
  then_flipped turn (r, part) = subst IsCompound (images_of_images t FlipX turn tiling)
      (flipped (image turn t) r (images_are_tilings t turn tiling) part, part_flipped (image turn t) r (images_are_tilings t turn tiling) part)

  then_swapped : (turn : Turn) → TurnsCompound turn → TurnsCompound (after Swap turn)
  then_swapped turn (r, part) = subst IsCompound (images_of_images t Swap turn tiling)
      (swapped (image turn t) r (images_are_tilings t turn tiling) part, part_swapped (image turn t) r (images_are_tilings t turn tiling) part)

  by_same : TurnsCompound Same
  by_same = subst IsCompound (sym (image-Same t tiling)) compound

  by_flip_y : TurnsCompound FlipY
  by_flip_y = then_swapped SwapFlipX (then_flipped Swap (then_swapped Same by_same))

  -- each image of a compound tiling is compound
  pub image_compound : (turn : Turn) → IsCompound (image turn t)
  image_compound Same = by_same
  image_compound FlipX = then_flipped Same by_same
  image_compound FlipY = by_flip_y
  image_compound Half = then_flipped FlipY by_flip_y
  image_compound Swap = then_swapped Same by_same
  image_compound SwapFlipX = then_flipped Swap (then_swapped Same by_same)
  image_compound SwapFlipY = then_swapped FlipX (then_flipped Same by_same)
  image_compound SwapHalf = then_swapped Half (then_flipped FlipY by_flip_y)
