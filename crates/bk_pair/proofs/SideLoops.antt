-- The loop that asks whether a tiling stands apart, and the one that looks for a common side.
use Rattle.std.specs.Prelude.{Bool, count_by, false, get_or, nat_eq, not, true}
use Rattle.std.proofs.Common.{List, [], ap, arith, cond, inl, inr, length, refl, suc, sym, ℕ, ◌+◌, ◌-◌, ◌<◌, ◌==◌, ◌∙◌, ◌∷◌, ◌≡◌, ◌≢◌, ◌≤◌, ◌⊎◌}
use Rattle.std.proofs.lemmas.Bool.{cases_Bool, cases_lt, eq-eqb, eqb-true, true≢false}
use Rattle.std.proofs.lemmas.List.Sums.{sum_by-cons}
use Rattle.bk_laws.proofs.Counts.{count_one, count_two}
use Rattle.bk_laws.proofs.NumberOrder.{lt_add_one-less_or_same}
use Rattle.bk_simple.proofs.Repeats.{IsTwice, twice_from_count}
use Rattle.bk_tiling.proofs.OrderLaws.{in_code_order-count}
use Rattle.bk_tiling.specs.declared.Square.{Square}
use Rattle.bk_pair.proofs.OwnSides.{count_own, here_cases, is_here, side_count}
use Rattle.bk_pair.proofs.PairTests.{apart_from_counts, once_each}
use Rattle.bk_pair.specs.SquaresBySide.{AreSidesAscending, tiling_of}
use Rattle.bk_pair.specs.OwnSides.{HaveCommonSide, own_sides, stands_apart}

-- the side of the square at a place
abbrev pub side_at : List Square → ℕ → ℕ
side_at squares k = (get_or squares k (record { x = 0; y = 0; s = 0 })).s

abbrev none : Square
none = record { x = 0; y = 0; s = 0 }

-- a place of a square with a side
record IsPlace (side : ℕ) (squares : List Square) : Type 0 where
  pub place : ℕ
  pub below : place < length squares
  pub one : side_at squares place ≡ side

place_from_count : (side : ℕ) (squares : List Square) → 1 ≤ side_count side squares → IsPlace side squares
place_from_count side [] some = absurd (omega arith)
place_from_count side (q ∷ squares) some = step (cases_Bool (q.s == side)) (place_from_count side squares)
  where
    step : (q.s == side ≡ true) ⊎ (q.s == side ≡ false) → (1 ≤ side_count side squares → IsPlace side squares) → IsPlace side (q ∷ squares)
    step (inl e) rest = record { place = 0; below = omega arith; one = eqb-true q.s side e }
    step (inr e) rest =
        let absent : ◌≡◌ {A = ℕ} (cond (q.s == side) 1 0) 0 = ap (λ b. cond {A = ℕ} b 1 0) e in
        let r : IsPlace side squares = rest (omega (arith, some, absent, sum_by-cons (λ (p : Square). cond {A = ℕ} (p.s == side) 1 0) q squares)) in
        record { place = suc r.place; below = omega (arith, r.below); one = r.one }

-- among the first n squares none has the width or the height for its side, and none has the side of the one before it
pub record NoneSoFar (width height : ℕ) (squares : List Square) (n : ℕ) : Type 0 where
  pub no_width : (k : ℕ) → k < n → side_at squares k ≢ width
  pub no_height : (k : ℕ) → k < n → side_at squares k ≢ height
  pub no_step : (k : ℕ) → k + 1 < n → side_at squares k ≢ side_at squares (k + 1)

-- one more square is none of these
pub none_so_far_with_one_square_more : (width height : ℕ) (squares : List Square) (n : ℕ) → NoneSoFar width height squares n → side_at squares n ≢ width
    → side_at squares n ≢ height → (0 < n → side_at squares (n - 1) ≢ side_at squares n) → NoneSoFar width height squares (n + 1)
none_so_far_with_one_square_more width height squares n so wide high step = record {
  no_width = λ k h. elim (lt_add_one-less_or_same k n h) [ inl l ↦ so.no_width k l | inr e ↦ λ is. wide (ap (side_at squares) (sym e) ∙ is) ];
  no_height = λ k h. elim (lt_add_one-less_or_same k n h) [ inl l ↦ so.no_height k l | inr e ↦ λ is. high (ap (side_at squares) (sym e) ∙ is) ];
  no_step = λ k h. elim (lt_add_one-less_or_same (k + 1) n h) [
    | inl l ↦ so.no_step k l
    | inr e ↦ λ is.
        let before : n - 1 ≡ k = omega (arith, e) in
        step (omega (arith, e)) (ap (side_at squares) before ∙ is ∙ ap (side_at squares) e)
  ];
}

module _ (width height : ℕ) (squares : List Square) where
  counted : (side : ℕ) → count_by (λ s. s == side) (own_sides (tiling_of width height squares))
      ≡ side_count side squares + (is_here side width + is_here side height)
  counted side = omega (arith, count_own (tiling_of width height squares) side, in_code_order-count (λ q. q.s == side) squares)

  -- a side that is counted twice leaves the tiling not apart
  not_apart : (side : ℕ) → 2 ≤ side_count side squares + (is_here side width + is_here side height) → (b : Bool)
      → stands_apart (tiling_of width height squares) ≡ b → false ≡ b
  not_apart side twice true e = absurd (omega (arith, twice, counted side, once_each (own_sides (tiling_of width height squares)) e side))
  not_apart side twice false e = refl

  here_one : (n : ℕ) → is_here n n ≡ 1
  here_one n = ap (λ b. cond {A = ℕ} b 1 0) (eq-eqb n n refl)

  -- a square whose side is the width or the height
  pub size_found : (k : ℕ) → k < length squares → (side_at squares k ≡ width) ⊎ (side_at squares k ≡ height)
      → false ≡ stands_apart (tiling_of width height squares)
  size_found k below (inl e) = not_apart width (omega (
    arith,
    count_one (λ q. q.s == width) squares k none below (eq-eqb (side_at squares k) width e),
    here_one width,
  )) (stands_apart (tiling_of width height squares)) refl
  size_found k below (inr e) = not_apart height (omega (
    arith,
    count_one (λ q. q.s == height) squares k none below (eq-eqb (side_at squares k) height e),
    here_one height,
  )) (stands_apart (tiling_of width height squares)) refl

  -- two squares of one side
  pub step_found : (k : ℕ) → 0 < k → k < length squares → side_at squares (k - 1) ≡ side_at squares k
      → false ≡ stands_apart (tiling_of width height squares)
  step_found k some below e = not_apart (side_at squares k) (omega (
    arith,
    count_two (λ q. q.s == side_at squares k) squares (k - 1) k none (omega arith) below (eq-eqb (side_at squares (k - 1)) (side_at squares k) e)
        (eq-eqb (side_at squares k) (side_at squares k) refl),
  )) (stands_apart (tiling_of width height squares)) refl

  -- where none is found, the tiling stands apart unless it is a square's
  pub none_found : AreSidesAscending squares → NoneSoFar width height squares (length squares)
      → not (nat_eq width height) ≡ stands_apart (tiling_of width height squares)
  none_found ascending so = elim (cases_Bool (nat_eq width height)) [
    | inl same ↦
        let e : width ≡ height = eqb-true width height same in
        ap not same ∙ not_apart width (omega (arith, here_one width, ap (is_here width) (sym e)))
        (stands_apart (tiling_of width height squares)) refl
    | inr other ↦ ap not other ∙ sym (apart_from_counts (own_sides (tiling_of width height squares)) (never other))
  ]
    where
      never : nat_eq width height ≡ false → (side : ℕ) → ¬ (2 ≤ count_by (λ s. s == side) (own_sides (tiling_of width height squares)))
      never other side h = elim (cases_lt 1 (side_count side squares)) [
        | inl twice ↦
            let w : IsTwice (λ q. q.s == side) squares none = twice_from_count (λ q. q.s == side) squares none (omega (arith, twice)) in
            let one : side_at squares w.first ≡ side = eqb-true (side_at squares w.first) side w.one in
            let last : side_at squares w.second ≡ side = eqb-true (side_at squares w.second) side w.other in
            let up : side_at squares w.first ≤ side_at squares (w.first + 1)
            = ascending w.first (w.first + 1) none (omega arith) (omega (arith, w.apart, w.below)) in
            let on : side_at squares (w.first + 1) ≤ side_at squares w.second = ascending (w.first + 1) w.second none (omega (arith, w.apart)) w.below in
            so.no_step w.first (omega (arith, w.apart, w.below)) (omega (arith, one, last, up, on))
        | inr few ↦ elim (here_cases side width) [
          | inl wide ↦ elim (here_cases side height) [
            | inl high ↦ true≢false (sym (eq-eqb width height (wide.0 ∙ sym high.0)) ∙ other)
            | inr low ↦ sized width so.no_width wide.0 (omega (arith, h, counted side, few, wide.1, low))
          ]
          | inr narrow ↦ elim (here_cases side height) [
            | inl high ↦ sized height so.no_height high.0 (omega (arith, h, counted side, few, narrow, high.1))
            | inr low ↦ omega (arith, h, counted side, few, narrow, low)
          ]
        ]
      ]
        where
          sized : (n : ℕ) → ((k : ℕ) → k < length squares → side_at squares k ≢ n) → n ≡ side → 1 ≤ side_count side squares → ⊥
          sized n never_at e some =
              let w : IsPlace side squares = place_from_count side squares some in
              never_at w.place w.below (w.one ∙ sym e)

-- ---- a common side

-- no square before the place i among the first, or before j among the second, has a side in common with the others
abbrev pub NoneCommon : List Square → List Square → ℕ → ℕ → Type 0
NoneCommon ps qs i j = (a b : ℕ) → a < length ps → b < length qs → (a < i) ⊎ (b < j) → side_at ps a ≢ side_at qs b

module _ (ps qs : List Square) (i j : ℕ) (so : NoneCommon ps qs i j) where
  -- a first side that is less than the second is common to none of the second's sides
  pub first_passed : AreSidesAscending qs → side_at ps i < side_at qs j → NoneCommon ps qs (i + 1) j
  first_passed up less a b in_first in_second (inr late) = so a b in_first in_second (inr late)
  first_passed up less a b in_first in_second (inl early) = elim (lt_add_one-less_or_same a i early) [
    | inl h ↦ so a b in_first in_second (inl h)
    | inr e ↦ elim (cases_lt b j) [
      | inl h ↦ so a b in_first in_second (inr h)
      | inr h ↦ λ same. omega (arith, less, up j b none h in_second, same, ap (side_at ps) e)
    ]
  ]

  -- a second side that is less than the first is common to none of the first's sides
  pub second_passed : AreSidesAscending ps → side_at qs j < side_at ps i → NoneCommon ps qs i (j + 1)
  second_passed up less a b in_first in_second (inl early) = so a b in_first in_second (inl early)
  second_passed up less a b in_first in_second (inr late) = elim (lt_add_one-less_or_same b j late) [
    | inl h ↦ so a b in_first in_second (inr h)
    | inr e ↦ elim (cases_lt a i) [
      | inl h ↦ so a b in_first in_second (inl h)
      | inr h ↦ λ same. omega (arith, less, up i a none h in_first, same, ap (side_at qs) e)
    ]
  ]

  -- where one of both is gone through, they have none in common
  pub no_common_side_where_one_is_gone_through : (length ps ≤ i) ⊎ (length qs ≤ j) → HaveCommonSide ps qs → ⊥
  no_common_side_where_one_is_gone_through end c =
      let v : IsPlace c.side ps = place_from_count c.side ps c.in_first in
      let w : IsPlace c.side qs = place_from_count c.side qs c.in_second in
      so v.place w.place v.below w.below (within end v.place w.place v.below w.below) (v.one ∙ sym w.one)
    where
      within : (length ps ≤ i) ⊎ (length qs ≤ j) → (a b : ℕ) → a < length ps → b < length qs → (a < i) ⊎ (b < j)
      within (inl e) a b x y = inl (omega (arith, e, x))
      within (inr e) a b x y = inr (omega (arith, e, y))

-- two equal sides of two tilings are a side in common
pub common_found : (ps qs : List Square) (i j : ℕ) → i < length ps → j < length qs → side_at ps i ≡ side_at qs j → HaveCommonSide ps qs
common_found ps qs i j in_first in_second e = record {
  side = side_at ps i;
  in_first = count_one (λ q. q.s == side_at ps i) ps i none in_first (eq-eqb (side_at ps i) (side_at ps i) refl);
  in_second = count_one (λ q. q.s == side_at ps i) qs j none in_second (eq-eqb (side_at qs j) (side_at ps i) (sym e));
}
