-- An image or a multiple of a tiling has as many squares, and is of the same class.
use Rattle.std.specs.Prelude.{Bool, get_or, ◌==◌}
use Rattle.std.proofs.Common.{List, ap, arith, length, map, refl, subst, sym, true, ℕ, ◌*◌, ◌<◌, ◌∙◌, ◌≡◌, count_by}
use Rattle.std.proofs.lemmas.Bool.{eq-eqb, eqb-true}
use Rattle.bk_laws.proofs.Counts.{count_two}
use Rattle.bk_laws.proofs.Products.{eq_test-of_multiples}
use Rattle.bk_tiling.proofs.Cells.{counted_one}
use Rattle.bk_tiling.proofs.OrderLaws.{in_code_order-count}
use Rattle.bk_tiling.specs.Scale.{enlarged, enlarged_square}
use Rattle.bk_tiling.specs.Tiling.{IsOneOf, IsTiling, Tiling}
use Rattle.bk_tiling.specs.declared.Square.{Square}
use Rattle.bk_simple.proofs.Repeats.{imperfect}
use Rattle.bk_simple.specs.Simple.{IsCompound, IsPerfect, IsRepeated, IsSimple}
use Rattle.bk_sym.proofs.Composing.{images_are_undone}
use Rattle.bk_sym.proofs.Images.{from_map, images_are_tilings}
use Rattle.bk_sym.proofs.KeptImages.{side-image_square}
use Rattle.bk_sym.proofs.ScaledDown.{scaled_is_tiling, side_divisor, some_divisor, whole_again}
use Rattle.bk_sym.specs.Canonical.{IsCanonicalOf, scaled_down_tiling}
use Rattle.bk_sym.specs.Image.{image, image_square}
use Rattle.bk_sym.specs.Turns.{undoing}
use Rattle.bk_sym.specs.declared.Turn.{Turn}
use Rattle.bk_word.specs.declared.Class.{Class}
use Rattle.bk_word.specs.declared.Class.TheVariants.{Imperfect, Perfect, Simple}
use Rattle.bk_catalogue.proofs.Members.Carrying.{count_all, count_mapped}
use Rattle.bk_catalogue.proofs.Members.PartsKept.{enlarged_compound, image_compound}
use Rattle.bk_catalogue.specs.Catalogue.{IsOfClass}

-- the squares of u are as many, of each side k times as long
record HasSidesTimes (k : ℕ) (t u : Tiling) : Type 0 where
  pub counts : (side : ℕ) → count_by (λ q. q.s == k * side) u.squares ≡ count_by (λ q. q.s == side) t.squares
  pub long : length u.squares ≡ length t.squares

-- where no side is repeated, the tiling is perfect
perfect_from : (t : Tiling) → ((side : ℕ) → IsRepeated t side → ⊥) → IsPerfect t
perfect_from t none i j d before below e = none (get_or t.squares i d).s
    (count_two (λ q. q.s == (get_or t.squares i d).s) t.squares i j d before below (eq-eqb (get_or t.squares i d).s (get_or t.squares i d).s refl)
    (eq-eqb (get_or t.squares j d).s (get_or t.squares i d).s (sym e)))

perfect_back : (k : ℕ) (t u : Tiling) → HasSidesTimes k t u → IsPerfect u → IsPerfect t
perfect_back k t u sides perfect = perfect_from t (λ side twice. imperfect u (k * side) (omega (arith, twice, sides.counts side)) perfect)

count_sides : (f : Square → Square) (p c : ℕ → Bool) (squares : List Square) → ((q : Square) → p (f q).s ≡ c q.s)
    → count_by (λ q. p q.s) (map f squares) ≡ count_by (λ q. c q.s) squares
count_sides f p c squares each = count_mapped f (λ q. p q.s) (λ q. c q.s) squares (λ q h. each q)

sides_of_image : (turn : Turn) (t : Tiling) → HasSidesTimes 1 t (image turn t)
sides_of_image turn t = record {
  counts = λ side. in_code_order-count (λ q. q.s == 1 * side) (map (image_square turn t.width t.height) t.squares)
      ∙ count_sides (image_square turn t.width t.height) (λ n. n == 1 * side) (λ n. n == side) t.squares
      (λ q. ap (λ (n : ℕ). n == 1 * side) (side-image_square turn t.width t.height q) ∙ ap (λ (n : ℕ). q.s == n) (once side));
  long = sym (count_all (image turn t).squares) ∙ in_code_order-count (λ _. true) (map (image_square turn t.width t.height) t.squares)
      ∙ count_mapped (image_square turn t.width t.height) (λ _. true) (λ _. true) t.squares (λ q h. refl) ∙ count_all t.squares;
}
  where
    once : (side : ℕ) → 1 * side ≡ side
    once side = omega arith

sides_of_multiple : (k : ℕ) (t : Tiling) → 0 < k → HasSidesTimes k t (enlarged k t)
sides_of_multiple k t some = record {
  counts = λ side. count_sides (enlarged_square k) (λ n. n == k * side) (λ n. n == side) t.squares (λ q. eq_test-of_multiples k q.s side some);
  long = sym (count_all (enlarged k t).squares) ∙ count_mapped (enlarged_square k) (λ _. true) (λ _. true) t.squares (λ q h. refl) ∙ count_all t.squares;
}

-- each side of a multiple is a multiple
perfect_enlarged : (k : ℕ) (t : Tiling) → 0 < k → IsPerfect t → IsPerfect (enlarged k t)
perfect_enlarged k t some perfect = perfect_from (enlarged k t)
    (λ side twice. none side twice (counted_one (λ q. q.s == side) (enlarged k t).squares (omega (arith, twice))))
  where
    none : (side : ℕ) → IsRepeated (enlarged k t) side → (q : Square) × IsOneOf q (enlarged k t).squares × ((q.s == side) ≡ true) → ⊥
    none side twice (q, h, e) = of (from_map (enlarged_square k) t.squares q h)
      where
        of : (p : Square) × IsOneOf p t.squares × (q ≡ enlarged_square k p) → ⊥
        of (p, is, f) =
            let same : side ≡ k * p.s = sym (eqb-true q.s side e) ∙ ap (λ (s : Square). s.s) f in
            let more : IsRepeated (enlarged k t) (k * p.s) = subst (IsRepeated (enlarged k t)) same twice in
            imperfect t p.s (omega (arith, more, (sides_of_multiple k t some).counts p.s)) perfect

-- c is canonical for t
module _ (t c : Tiling) (tiling : IsTiling t) (of : IsCanonicalOf t c) where
  small_is : IsTiling (scaled_down_tiling t)
  small_is = scaled_is_tiling t tiling

  -- the canonical tiling is a tiling
  pub canonical_is : IsTiling c
  canonical_is = subst IsTiling (sym of.image_of) (images_are_tilings (scaled_down_tiling t) of.turn small_is)

  turned_back : image (undoing of.turn) c ≡ scaled_down_tiling t
  turned_back = ap (image (undoing of.turn)) of.image_of ∙ images_are_undone (scaled_down_tiling t) of.turn small_is

  sides_of_whole : HasSidesTimes (side_divisor t) (scaled_down_tiling t) t
  sides_of_whole = subst (HasSidesTimes (side_divisor t) (scaled_down_tiling t)) (sym (whole_again t tiling))
      (sides_of_multiple (side_divisor t) (scaled_down_tiling t) (some_divisor t tiling))

  sides_of_canonical : HasSidesTimes 1 (scaled_down_tiling t) c
  sides_of_canonical = subst (HasSidesTimes 1 (scaled_down_tiling t)) (sym of.image_of) (sides_of_image of.turn (scaled_down_tiling t))

  sides_turned_back : HasSidesTimes 1 c (scaled_down_tiling t)
  sides_turned_back = subst (HasSidesTimes 1 c) turned_back (sides_of_image (undoing of.turn) c)

  -- of as many squares
  pub canonical_order : length c.squares ≡ length t.squares
  canonical_order = sides_of_canonical.long ∙ sym sides_of_whole.long

  -- simple where the tiling is
  pub canonical_simple : IsSimple t → IsSimple c
  canonical_simple simple compound = simple (subst IsCompound (sym (whole_again t tiling))
      (enlarged_compound (side_divisor t) (scaled_down_tiling t) (some_divisor t tiling) small_is
      (subst IsCompound turned_back (image_compound c canonical_is compound (undoing of.turn)))))

  perfect_kept : IsPerfect t → IsPerfect c
  perfect_kept perfect = perfect_back 1 c (scaled_down_tiling t) sides_turned_back
      (perfect_back (side_divisor t) (scaled_down_tiling t) t sides_of_whole perfect)

  perfect_shown : IsPerfect c → IsPerfect t
  perfect_shown perfect = subst IsPerfect (sym (whole_again t tiling))
      (perfect_enlarged (side_divisor t) (scaled_down_tiling t) (some_divisor t tiling) (perfect_back 1 (scaled_down_tiling t) c sides_of_canonical perfect))

  -- the canonical tiling is of the tiling's class
  pub canonical_class : (class : Class) → IsOfClass class t → IsOfClass class c
  canonical_class Perfect perfect = perfect_kept perfect
  canonical_class Imperfect not = λ perfect. not (perfect_shown perfect)
  canonical_class Simple any = tt
