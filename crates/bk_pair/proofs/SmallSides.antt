-- Sides as the bits of a number.
use Rattle.std.specs.Int.{bit_at, trailing_zeros}
use Rattle.std.specs.Prelude.{min, refl}
use Rattle.std.proofs.Common.{List, arith, bit_and, inl, inr, length, subst, sym, w64, ℕ, ◌<◌, ◌==◌, ◌^◌, ◌∙◌, ◌≡◌, ◌≢◌, ◌⊎◌}
use Rattle.std.proofs.lemmas.Bool.{eq-eqb}
use Rattle.std.proofs.lemmas.Nat.{and_le_l}
use Rattle.std.proofs.lemmas.Nat.Bits.{bit_at-lt, bit_at-trailing_zeros, bit_at-zero, bit_at_and}
use Rattle.bk_laws.proofs.Counts.{count_one}
use Rattle.bk_tiling.specs.declared.Square.{Square}
use Rattle.bk_pair.proofs.SideLoops.{side_at}
use Rattle.bk_pair.specs.SquaresBySide.{AreSideBitsOf}
use Rattle.bk_pair.specs.OwnSides.{HasSide, HaveCommonSide}

-- no bit is 1 in 0
pub no_sides : (squares : List Square) → AreSideBitsOf 0 squares
no_sides squares side one = absurd (omega (arith, one, bit_at-zero side))

-- the square at a place has its side
has_side : (squares : List Square) (k : ℕ) → k < length squares → HasSide squares (side_at squares k)
has_side squares k below =
    count_one (λ q. q.s == side_at squares k) squares k (record { x = 0; y = 0; s = 0 }) below (eq-eqb (side_at squares k) (side_at squares k) refl)

-- with the bit of one more square
pub side_bits_with_one_square_more : (squares : List Square) (i n m : ℕ) → i < length squares → AreSideBitsOf n squares
    → ((k : ℕ) → bit_at m k ≡ 1 → (k ≡ side_at squares i) ⊎ (bit_at n k ≡ 1)) → AreSideBitsOf m squares
side_bits_with_one_square_more squares i n m below sides only k one = cases (only k one)
  where
    cases : (k ≡ side_at squares i) ⊎ (bit_at n k ≡ 1) → HasSide squares k
    cases (inl e) = subst (HasSide squares) (sym e) (has_side squares i below)
    cases (inr h) = sides k h

-- two numbers with a bit in common tell of a common side
pub bits_common : (n m : ℕ) (ps qs : List Square) → n < 2 ^ 64 → AreSideBitsOf n ps → AreSideBitsOf m qs → bit_and n m ≢ 0 → HaveCommonSide ps qs
bits_common n m ps qs fits first second some =
    let found = bit_at-trailing_zeros w64 (bit_and n m) (omega (arith, some)) (omega (arith, fits, and_le_l n m)) in
    let least : min (bit_at n (trailing_zeros w64 (bit_and n m))) (bit_at m (trailing_zeros w64 (bit_and n m))) ≡ 1 =
    sym (bit_at_and n m (trailing_zeros w64 (bit_and n m))) ∙ found.1 in
    record {
      side = trailing_zeros w64 (bit_and n m);
      in_first = first (trailing_zeros w64 (bit_and n m)) (omega (arith, least, bit_at-lt n (trailing_zeros w64 (bit_and n m))));
      in_second = second (trailing_zeros w64 (bit_and n m)) (omega (arith, least, bit_at-lt m (trailing_zeros w64 (bit_and n m))));
    }
