-- A tiling is canonical exactly where it lies, is in lowest terms, and is the greatest of its images.
use Rattle.std.proofs.Common.{ap, arith, subst, sym, ℕ, ◌*◌, ◌∙◌, ◌≡◌}
use Rattle.bk_laws.proofs.Products.{mul_one}
use Rattle.bk_tiling.proofs.EnlargedTilings.{enlarged-once}
use Rattle.bk_tiling.specs.Scale.{enlarged}
use Rattle.bk_tiling.specs.Tiling.{IsTiling, Tiling}
use Rattle.bk_sym.proofs.CanonicalLaws.{own_canonical}
use Rattle.bk_sym.proofs.Composing.{image-Same}
use Rattle.bk_sym.proofs.Multiples.{divisor_of_multiple}
use Rattle.bk_sym.proofs.ScaledDown.{scaled_is_tiling, side_divisor, some_divisor, whole_again}
use Rattle.bk_sym.specs.Canonical.{IsCanonical, IsGreatestImage, Lies, scaled_down_tiling}
use Rattle.bk_sym.specs.declared.Turn.TheVariants.{Same}

-- a tiling whose sides have no common divisor is in lowest terms
pub scaled-one : (t : Tiling) → IsTiling t → side_divisor t ≡ 1 → scaled_down_tiling t ≡ t
scaled-one t tiling one =
    sym (enlarged-once (scaled_down_tiling t)) ∙ ap (λ (k : ℕ). enlarged k (scaled_down_tiling t)) (sym one) ∙ sym (whole_again t tiling)

-- a tiling that is itself in lowest terms has sides without a common divisor above 1
pub one-scaled : (t : Tiling) → IsTiling t → scaled_down_tiling t ≡ t → side_divisor t ≡ 1
one-scaled t tiling same = mul_one (side_divisor t) (side_divisor t) 1 (some_divisor t tiling) (sym twice ∙ once)
  where
    once : side_divisor t ≡ side_divisor t * 1
    once = omega arith

    twice : side_divisor t ≡ side_divisor t * side_divisor t
    twice = ap side_divisor (whole_again t tiling) ∙ divisor_of_multiple (side_divisor t) (scaled_down_tiling t) (some_divisor t tiling)
        ∙ ap (λ (u : Tiling). side_divisor t * side_divisor u) same

-- a tiling that lies, is in lowest terms, and is its greatest image is canonical
pub own_from : (t : Tiling) → IsTiling t → Lies t → side_divisor t ≡ 1 → IsGreatestImage t t → IsCanonical t
own_from t tiling lies one greatest = record {
  turn = Same;
  image_of = sym same ∙ sym (image-Same (scaled_down_tiling t) (scaled_is_tiling t tiling));
  lying = lies;
  greatest = subst (λ (u : Tiling). IsGreatestImage u t) (sym same) greatest;
}
  where
    same : scaled_down_tiling t ≡ t
    same = scaled-one t tiling one

-- a canonical tiling has sides without a common divisor above 1
pub own_one : (t : Tiling) → IsTiling t → IsCanonical t → side_divisor t ≡ 1
own_one t tiling own = one-scaled t tiling (own_canonical t tiling own)

-- a canonical tiling is its own greatest image
pub own_greatest : (t : Tiling) → IsTiling t → IsCanonical t → IsGreatestImage t t
own_greatest t tiling own = subst (λ (u : Tiling). IsGreatestImage u t) (own_canonical t tiling own) own.greatest
