-- Two kept tilings: whether they can be laid together, and whether they join.
use Rattle.std.specs.Prelude.{Bool, count_by, false, max, nat_le, not, true}
use Rattle.std.proofs.Common.{List, ap, arith, inl, inr, length, sym, ℕ, ◌&&◌, ◌+◌, ◌<◌, ◌==◌, ◌∙◌, ◌≡◌, ◌≢◌, ◌≤◌, ◌⊎◌, ◌↔◌}
use Rattle.std.proofs.lemmas.Bool.{and_parts, cases_Bool, le-leb, leb-true, true≢false}
use Rattle.bk_laws.proofs.Truth.{false-of_refuted, same_test-of_implications}
use Rattle.bk_tiling.proofs.OrderLaws.{in_code_order-count, in_code_order-length}
use Rattle.bk_tiling.specs.Tiling.{Tiling, order}
use Rattle.bk_tiling.specs.declared.Square.{Square}
use Rattle.bk_pair.proofs.OwnSides.{first_apart, joined_apart, no_common_side_where_none_occurs_twice, second_apart}
use Rattle.bk_pair.proofs.PairTests.{laid_from, laid_to}
use Rattle.bk_pair.specs.SquaresBySide.{tiling_of}
use Rattle.bk_pair.specs.OwnSides.{HaveCommonSide, stands_apart}
use Rattle.bk_pair.specs.Pair.{AreOneSize, CanBeLaid, pair_sides}
use Rattle.bk_pair.specs.PairTest.{are_pair, can_be_laid, no_twice}

-- the numbers that are stored are those of the tilings
pub record AreStored (a : Tiling) (width height : ℕ) (squares : List Square) : Type 0 where
  pub width_is : width ≡ a.width
  pub height_is : height ≡ a.height
  pub many : length squares ≡ order a
  pub counts : (side : ℕ) → count_by (λ q. q.s == side) squares ≡ count_by (λ q. q.s == side) a.squares

-- a width, a height and squares that make a tiling are stored as those of that tiling
pub stored_of_tiling : (a : Tiling) (width height : ℕ) (squares : List Square) → tiling_of width height squares ≡ a → AreStored a width height squares
stored_of_tiling a width height squares is = record {
  width_is = ap (λ (t : Tiling). t.width) is;
  height_is = ap (λ (t : Tiling). t.height) is;
  many = sym (in_code_order-length squares) ∙ ap (λ (t : Tiling). order t) is;
  counts = λ side. sym (in_code_order-count (λ q. q.s == side) squares) ∙ ap (λ (t : Tiling). count_by (λ q. q.s == side) t.squares) is;
}

module _ (a b : Tiling) (width height : ℕ) (squares : List Square) (width' height' : ℕ) (squares' : List Square)
    (one : AreStored a width height squares) (other : AreStored b width' height' squares') where
  -- two tilings with too many squares can't be laid together
  pub too_many : 200 < length squares + length squares' + 2 → false ≡ can_be_laid a b
  too_many many = sym (false-of_refuted (can_be_laid a b) (CanBeLaid a b) (laid_to a b) (λ can. omega (arith, many, can.few, one.many, other.many)))

  -- if the squares are few enough, the longer of width and height decides whether two tilings can be laid together
  pub length_decides : width ≡ width' → height ≡ height' → width ≢ height → length squares + length squares' + 2 ≤ 200 → (m : ℕ) → m ≡ max width height
      → nat_le m 999_999_999_999_999 ≡ can_be_laid a b
  length_decides wide high oblong few m is = same_test-of_implications (nat_le m 999_999_999_999_999) (can_be_laid a b)
      (λ e. laid_from a b (record {
        size = record { width = sym one.width_is ∙ wide ∙ other.width_is; height = sym one.height_is ∙ high ∙ other.height_is };
        oblong = λ same. oblong (one.width_is ∙ same ∙ sym one.height_is);
        few = omega (arith, few, one.many, other.many);
        wide = omega (arith, leb-true m 999_999_999_999_999 e, is, one.width_is);
        high = omega (arith, leb-true m 999_999_999_999_999 e, is, one.height_is);
      }))
      (λ e. let can = laid_to a b e in le-leb m 999_999_999_999_999 (omega (arith, is, can.wide, can.high, one.width_is, one.height_is)))

  common_to : HaveCommonSide squares squares' → HaveCommonSide a.squares b.squares
  common_to c = record { side = c.side; in_first = omega (arith, c.in_first, one.counts c.side); in_second = omega (arith, c.in_second, other.counts c.side) }

  common_from : HaveCommonSide a.squares b.squares → HaveCommonSide squares squares'
  common_from c = record { side = c.side; in_first = omega (arith, c.in_first, one.counts c.side); in_second = omega (arith, c.in_second, other.counts c.side) }

  -- where each stands apart and they can be laid together, they join unless they have a side in common
  pub join_decided : stands_apart a ≡ true → stands_apart b ≡ true → can_be_laid a b ≡ true → (r : Bool) → (r ≡ true) ↔ HaveCommonSide squares squares'
      → not r ≡ are_pair a b
  join_decided first second can r common = same_test-of_implications (not r) (are_pair a b) to from
    where
      size : AreOneSize a b
      size = (laid_to a b can).size

      to : not r ≡ true → are_pair a b ≡ true
      to e = ap (λ (v : Bool). v && no_twice (pair_sides a b)) can
          ∙ joined_apart a b size first second (λ c. absurd (true≢false (sym e ∙ ap not (common.1 (common_from c)))))

      from : are_pair a b ≡ true → not r ≡ true
      from e = elim (cases_Bool r) [
        | inl t ↦ absurd (no_common_side_where_none_occurs_twice a b size (and_parts (can_be_laid a b) (no_twice (pair_sides a b)) e).1
            (common_to (common.0 t)))
        | inr f ↦ ap not f
      ]

  -- with a side in common they don't join
  pub common_refused : HaveCommonSide squares squares' → false ≡ are_pair a b
  common_refused common = sym (false-of_refuted (are_pair a b) (are_pair a b ≡ true) (λ e. e) never)
    where
      never : are_pair a b ≡ true → ⊥
      never e =
          let parts = and_parts (can_be_laid a b) (no_twice (pair_sides a b)) e in
          no_common_side_where_none_occurs_twice a b (laid_to a b parts.0).size parts.1 (common_to common)

-- where one of two doesn't stand apart, or they can't be laid together, they don't join
pub not_joined : (a b : Tiling) → (stands_apart a ≡ false) ⊎ ((stands_apart b ≡ false) ⊎ (can_be_laid a b ≡ false)) → false ≡ are_pair a b
not_joined a b why = sym (false-of_refuted (are_pair a b) (are_pair a b ≡ true) (λ e. e) (never why))
  where
    never : (stands_apart a ≡ false) ⊎ ((stands_apart b ≡ false) ⊎ (can_be_laid a b ≡ false)) → are_pair a b ≡ true → ⊥
    never why e =
        let parts = and_parts (can_be_laid a b) (no_twice (pair_sides a b)) e in
        let size : AreOneSize a b = (laid_to a b parts.0).size in
        elim why [
          | inl f ↦ true≢false (sym (first_apart a b size parts.1) ∙ f)
          | inr (inl f) ↦ true≢false (sym (second_apart a b size parts.1) ∙ f)
          | inr (inr f) ↦ true≢false (sym parts.0 ∙ f)
        ]
