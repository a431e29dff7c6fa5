-- Tilings that are images of each other, up to scale, have one canonical tiling.
use Rattle.std.specs.List.{AllByRecursion}
use Prim.Native.Nat.{◌∣◌}
use Rattle.std.proofs.Common.{List, [], ap, arith, inl, inr, map, refl, subst, sym, ℕ, ◌*◌, ◌∙◌, ◌∷◌, ◌≡◌}
use Rattle.std.proofs.lemmas.Nat.Gcd.{dvd_antisymm}
use Rattle.std.proofs.Math.Nat.{mul-pos}
use Rattle.bk_tiling.proofs.EnlargedTilings.{enlarged-back, enlarged-enlarged, enlarged-once}
use Rattle.bk_frac.proofs.DivisorLaws.{gcd_of-greatest}
use Rattle.bk_tiling.specs.Scale.{AreAlike, enlarged}
use Rattle.bk_tiling.specs.Tiling.{IsOneOf, IsTiling, Tiling}
use Rattle.bk_tiling.specs.declared.Square.{Square}
use Rattle.bk_sym.proofs.CanonicalLaws.{a_canonical_tiling_is_one}
use Rattle.bk_sym.proofs.Composing.{images_are_undone, images_of_images}
use Rattle.bk_sym.proofs.Images.{images_are_tilings}
use Rattle.bk_sym.proofs.KeptImages.{side_from_image}
use Rattle.bk_sym.proofs.Multiples.{divisor_of_multiple, image-enlarged}
use Rattle.bk_sym.proofs.ScaledDown.{scaled_is_tiling, side_divides, side_divisor, some_divisor, whole_again}
use Rattle.bk_sym.specs.Canonical.{IsAtMost, IsCanonicalOf, Lies, scaled_down_tiling}
use Rattle.bk_sym.specs.Image.{image}
use Rattle.bk_sym.specs.ImageLaws.{ACanonicalTilingIsItsOwn, AlikeTilingsHaveOneCanonical, OneCanonicalMeansAlike}
use Rattle.bk_sym.specs.Turns.{after, undoing}
use Rattle.bk_sym.specs.declared.Turn.{Turn}

-- alike tilings are one in lowest terms
alike_scaled : (t u : Tiling) → IsTiling t → IsTiling u → AreAlike t u → scaled_down_tiling t ≡ scaled_down_tiling u
alike_scaled t u tiling other (m, n, some_m, some_n, same) =
    enlarged-back (m * side_divisor t) (scaled_down_tiling t) (scaled_down_tiling u) (mul-pos some_m (some_divisor t tiling))
    (sym (enlarged-enlarged m (side_divisor t) (scaled_down_tiling t)) ∙ ap (enlarged m) (sym (whole_again t tiling)) ∙ same
    ∙ ap (enlarged n) (whole_again u other) ∙ enlarged-enlarged n (side_divisor u) (scaled_down_tiling u)
    ∙ ap (λ (k : ℕ). enlarged k (scaled_down_tiling u)) (sym factors))
  where
    factors : m * side_divisor t ≡ n * side_divisor u
    factors = sym (divisor_of_multiple m t some_m) ∙ ap side_divisor same ∙ divisor_of_multiple n u some_n

-- a tiling has the divisor of its images
all_divided : (d : ℕ) (squares : List Square) → ((q : Square) → IsOneOf q squares → d ∣ q.s) → AllByRecursion (λ n. d ∣ n) (map (λ q. q.s) squares)
all_divided d [] each = tt
all_divided d (q ∷ squares) each = (each q (inl refl), all_divided d squares (λ r h. each r (inr h)))

divisor_divides : (turn : Turn) (t : Tiling) → IsTiling t → side_divisor t ∣ side_divisor (image turn t)
divisor_divides turn t tiling =
    gcd_of-greatest (side_divisor t) (map (λ q. q.s) (image turn t).squares) (all_divided (side_divisor t) (image turn t).squares each)
  where
    each : (p : Square) → IsOneOf p (image turn t).squares → side_divisor t ∣ p.s
    each p h = let found = side_from_image turn t p h in subst (λ (n : ℕ). side_divisor t ∣ n) (sym found.2) (side_divides t tiling found.0 found.1)

divisor-image : (turn : Turn) (t : Tiling) → IsTiling t → side_divisor (image turn t) ≡ side_divisor t
divisor-image turn t tiling = dvd_antisymm back (divisor_divides turn t tiling)
  where
    back : side_divisor (image turn t) ∣ side_divisor t
    back = subst (λ (u : Tiling). side_divisor (image turn t) ∣ side_divisor u) (images_are_undone t turn tiling)
        (divisor_divides (undoing turn) (image turn t) (images_are_tilings t turn tiling))

-- an image in lowest terms is the image of the tiling in lowest terms
scaled-image : (turn : Turn) (t : Tiling) → IsTiling t → scaled_down_tiling (image turn t) ≡ image turn (scaled_down_tiling t)
scaled-image turn t tiling =
    enlarged-back (side_divisor t) (scaled_down_tiling (image turn t)) (image turn (scaled_down_tiling t)) (some_divisor t tiling)
    (ap (λ (k : ℕ). enlarged k (scaled_down_tiling (image turn t))) (sym (divisor-image turn t tiling))
    ∙ sym (whole_again (image turn t) (images_are_tilings t turn tiling))
    ∙ ap (image turn) (whole_again t tiling)
    ∙ image-enlarged turn (side_divisor t) (scaled_down_tiling t) (some_divisor t tiling) (scaled_is_tiling t tiling))

-- what is canonical for a tiling is so for each tiling of which it is an image, in lowest terms
turned_canonical : (t u d : Tiling) (turn : Turn) → IsTiling t → scaled_down_tiling u ≡ image turn (scaled_down_tiling t) → IsCanonicalOf u d
    → IsCanonicalOf t d
turned_canonical t u d turn tiling same canonical = record {
  turn = after canonical.turn turn;
  image_of = canonical.image_of ∙ ap (image canonical.turn) same ∙ images_of_images s canonical.turn turn s_is;
  lying = canonical.lying;
  greatest = λ other lies. subst (λ (v : Tiling). IsAtMost v d) (found other)
      (canonical.greatest (after other (undoing turn)) (subst Lies (sym (found other)) lies));
}
  where
    s : Tiling
    s = scaled_down_tiling t

    s_is : IsTiling s
    s_is = scaled_is_tiling t tiling

    found : (other : Turn) → image (after other (undoing turn)) (scaled_down_tiling u) ≡ image other s
    found other = ap (image (after other (undoing turn))) same
        ∙ sym (images_of_images (image turn s) other (undoing turn) (images_are_tilings s turn s_is))
        ∙ ap (image other) (images_are_undone s turn s_is)

-- tilings that are images of each other, up to scale, have one canonical tiling
pub alike_tilings_have_one_canonical : AlikeTilingsHaveOneCanonical
alike_tilings_have_one_canonical t u c d turn tiling other alike of_t of_u =
    (a_canonical_tiling_is_one t c d tiling of_t (turned_canonical t u d turn tiling same of_u)).1
  where
    same : scaled_down_tiling u ≡ image turn (scaled_down_tiling t)
    same = sym (alike_scaled (image turn t) u (images_are_tilings t turn tiling) other alike) ∙ scaled-image turn t tiling

-- a tiling in lowest terms stays as it is
pub scaled_twice : (t : Tiling) → IsTiling t → scaled_down_tiling (scaled_down_tiling t) ≡ scaled_down_tiling t
scaled_twice t tiling = alike_scaled (scaled_down_tiling t) t (scaled_is_tiling t tiling) tiling
    (side_divisor t, 1, some_divisor t tiling, omega arith, sym (whole_again t tiling) ∙ sym (enlarged-once t))

-- a canonical tiling is its own
pub a_canonical_tiling_is_its_own : ACanonicalTilingIsItsOwn
a_canonical_tiling_is_its_own t c tiling of_t = turned_canonical c t c (undoing of_t.turn) c_is same of_t
  where
    s_is : IsTiling (scaled_down_tiling t)
    s_is = scaled_is_tiling t tiling

    c_is : IsTiling c
    c_is = subst IsTiling (sym of_t.image_of) (images_are_tilings (scaled_down_tiling t) of_t.turn s_is)

    lowest : scaled_down_tiling c ≡ c
    lowest = ap scaled_down_tiling of_t.image_of ∙ scaled-image of_t.turn (scaled_down_tiling t) s_is ∙ ap (image of_t.turn) (scaled_twice t tiling)
        ∙ sym of_t.image_of

    same : scaled_down_tiling t ≡ image (undoing of_t.turn) (scaled_down_tiling c)
    same = sym (images_are_undone (scaled_down_tiling t) of_t.turn s_is) ∙ ap (image (undoing of_t.turn)) (sym of_t.image_of ∙ sym lowest)

-- tilings with one canonical tiling are images of each other, up to scale
pub one_canonical_means_alike : OneCanonicalMeansAlike
one_canonical_means_alike t u c tiling other of_t of_u = (
  after (undoing of_u.turn) of_t.turn,
  (
    side_divisor u,
    side_divisor t,
    some_divisor u other,
    some_divisor t tiling,
    ap (enlarged (side_divisor u)) turned ∙ enlarged-enlarged (side_divisor u) (side_divisor t) (scaled_down_tiling u)
        ∙ ap (λ (k : ℕ). enlarged k (scaled_down_tiling u)) swapped
        ∙ sym (enlarged-enlarged (side_divisor t) (side_divisor u) (scaled_down_tiling u)) ∙ ap (enlarged (side_divisor t)) (sym (whole_again u other)),
  ),
)
  where
    s_is : IsTiling (scaled_down_tiling t)
    s_is = scaled_is_tiling t tiling

    swapped : side_divisor u * side_divisor t ≡ side_divisor t * side_divisor u
    swapped = omega arith

    same : image (after (undoing of_u.turn) of_t.turn) (scaled_down_tiling t) ≡ scaled_down_tiling u
    same = sym (images_of_images (scaled_down_tiling t) (undoing of_u.turn) of_t.turn s_is) ∙ ap (image (undoing of_u.turn)) (sym of_t.image_of ∙ of_u.image_of)
        ∙ images_are_undone (scaled_down_tiling u) of_u.turn (scaled_is_tiling u other)

    turned : image (after (undoing of_u.turn) of_t.turn) t ≡ enlarged (side_divisor t) (scaled_down_tiling u)
    turned = ap (image (after (undoing of_u.turn) of_t.turn)) (whole_again t tiling)
        ∙ image-enlarged (after (undoing of_u.turn) of_t.turn) (side_divisor t) (scaled_down_tiling t) (some_divisor t tiling) s_is
        ∙ ap (enlarged (side_divisor t)) same
