-- Two tilings of one size join to a perfect square exactly where each stands apart and they have no side in common; and by the conditions of a pair.
use Rattle.std.specs.Prelude.{count_by, get_or, true}
use Rattle.std.proofs.Common.{List, [], ap, arith, cond, inl, inr, refl, subst, sym, ℕ, ◌++◌, ◌+◌, ◌<◌, ◌==◌, ◌∙◌, ◌∷◌, ◌≡◌, ◌≤◌, ◌⊎◌}
use Rattle.std.proofs.lemmas.Bool.{cases_Bool, cases_lt, eq-eqb, eqb-true}
use Rattle.std.proofs.lemmas.List.Sums.{sum_by-append, sum_by-cons}
use Rattle.bk_laws.proofs.Counts.{count_two}
use Rattle.bk_laws.proofs.NumberOrder.{one_of_four-at_most_one}
use Rattle.bk_tiling.specs.Tiling.{Tiling, sides_of}
use Rattle.bk_tiling.specs.declared.Square.{Square}
use Rattle.bk_simple.proofs.Repeats.{imperfect}
use Rattle.bk_simple.specs.Simple.{IsPerfect}
use Rattle.bk_pair.proofs.PairTests.{apart_from_counts, once_each}
use Rattle.bk_pair.proofs.SharedSides.{count_sides}
use Rattle.bk_pair.specs.OwnSides.{HasSide, HaveCommonSide, MeetConditions, PairsByConditions, own_sides, stands_apart}
use Rattle.bk_pair.specs.Pair.{AreOneSize, ArePair, pair_sides}
use Rattle.bk_pair.specs.PairTest.{no_twice}

-- how often a side is a number: once or never
abbrev pub is_here : ℕ → ℕ → ℕ
is_here side n = cond {A = ℕ} (n == side) 1 0

-- a number is a side, or it is not
pub here_cases : (side n : ℕ) → ((n ≡ side) × (is_here side n ≡ 1)) ⊎ (is_here side n ≡ 0)
here_cases side n = elim (cases_Bool (n == side)) [
  | inl t ↦ inl (eqb-true n side t, ap (λ b. cond {A = ℕ} b 1 0) t)
  | inr f ↦ inr (ap (λ b. cond {A = ℕ} b 1 0) f)
]

here_same : (n : ℕ) → is_here n n ≡ 1
here_same n = ap (λ b. cond {A = ℕ} b 1 0) (eq-eqb n n refl)

-- how many squares have a side of that length
abbrev pub side_count : ℕ → List Square → ℕ
side_count side squares = count_by (λ q. q.s == side) squares

-- the sides of a tiling, its width and its height, counted
pub count_own : (t : Tiling) (side : ℕ)
    → count_by (λ s. s == side) (own_sides t) ≡ side_count side t.squares + (is_here side t.width + is_here side t.height)
count_own t side = omega (
  arith,
  sum_by-append (λ (n : ℕ). cond {A = ℕ} (n == side) 1 0) (sides_of t) (t.width ∷ t.height ∷ []),
  sum_by-cons (λ (n : ℕ). cond {A = ℕ} (n == side) 1 0) t.width (t.height ∷ []),
  sum_by-cons (λ (n : ℕ). cond {A = ℕ} (n == side) 1 0) t.height [],
  count_sides side t.squares,
)

-- all sides of what two tilings make, counted
pub count_pair : (a b : Tiling) (side : ℕ) → count_by (λ s. s == side) (pair_sides a b)
    ≡ (side_count side a.squares + side_count side b.squares) + (is_here side a.width + is_here side a.height)
count_pair a b side = omega (
  arith,
  sum_by-append (λ (n : ℕ). cond {A = ℕ} (n == side) 1 0) (sides_of a) (sides_of b ++ a.width ∷ a.height ∷ []),
  sum_by-append (λ (n : ℕ). cond {A = ℕ} (n == side) 1 0) (sides_of b) (a.width ∷ a.height ∷ []),
  sum_by-cons (λ (n : ℕ). cond {A = ℕ} (n == side) 1 0) a.width (a.height ∷ []),
  sum_by-cons (λ (n : ℕ). cond {A = ℕ} (n == side) 1 0) a.height [],
  count_sides side a.squares,
  count_sides side b.squares,
)

module _ (a b : Tiling) (size : AreOneSize a b) where
  here_width : (side : ℕ) → is_here side a.width ≡ is_here side b.width
  here_width side = ap (is_here side) size.width

  here_height : (side : ℕ) → is_here side a.height ≡ is_here side b.height
  here_height side = ap (is_here side) size.height

  -- each of two that join stands apart, and they have no side in common
  pub first_apart : no_twice (pair_sides a b) ≡ true → stands_apart a ≡ true
  first_apart e = apart_from_counts (own_sides a) (λ side h. omega (arith, h, count_own a side, count_pair a b side, once_each (pair_sides a b) e side))

  -- where no side of a pair occurs twice, none of the second tiling's own does
  pub second_apart : no_twice (pair_sides a b) ≡ true → stands_apart b ≡ true
  second_apart e = apart_from_counts (own_sides b) (λ side h. omega (
    arith,
    h,
    count_own b side,
    count_pair a b side,
    here_width side,
    here_height side,
    once_each (pair_sides a b) e side,
  ))

  -- where no side of a pair occurs twice, the two tilings have no side in common
  pub no_common_side_where_none_occurs_twice : no_twice (pair_sides a b) ≡ true → HaveCommonSide a.squares b.squares → ⊥
  no_common_side_where_none_occurs_twice e common = omega (
    arith,
    common.in_first,
    common.in_second,
    count_pair a b common.side,
    once_each (pair_sides a b) e common.side,
  )

  -- two tilings that stand apart and have no side in common have no side twice
  pub joined_apart : stands_apart a ≡ true → stands_apart b ≡ true → (HaveCommonSide a.squares b.squares → ⊥) → no_twice (pair_sides a b) ≡ true
  joined_apart one other none = apart_from_counts (pair_sides a b) never
    where
      never : (side : ℕ) → ¬ (2 ≤ count_by (λ s. s == side) (pair_sides a b))
      never side h = elim (cases_lt 0 (side_count side a.squares)) [
        | inl some ↦ elim (cases_lt 0 (side_count side b.squares)) [
          | inl also ↦ none (record { side = side; in_first = omega (arith, some); in_second = omega (arith, also) })
          | inr none_in ↦ omega (arith, h, none_in, count_pair a b side, count_own a side, once_each (own_sides a) one side)
        ]
        | inr none_in ↦ omega (
          arith,
          h,
          none_in,
          count_pair a b side,
          count_own b side,
          here_width side,
          here_height side,
          once_each (own_sides b) other side,
        )
      ]

-- a tiling of which no side is counted twice is perfect
perfect_from_counts : (t : Tiling) → ((side : ℕ) → side_count side t.squares ≤ 1) → IsPerfect t
perfect_from_counts t once i j d before below e =
    let side : ℕ = (get_or t.squares i d).s in
    omega (
      arith,
      once side,
      count_two (λ q. q.s == side) t.squares i j d before below (eq-eqb side side refl) (eq-eqb (get_or t.squares j d).s side (sym e)),
    )

counts_from_perfect : (t : Tiling) → IsPerfect t → (side : ℕ) → side_count side t.squares ≤ 1
counts_from_perfect t perfect side = elim (cases_lt 1 (side_count side t.squares)) [
  | inl h ↦ absurd (imperfect t side (omega (arith, h)) perfect)
  | inr h ↦ h
]

-- a pair meets the conditions
met : (a b : Tiling) → ArePair a b → MeetConditions a b
met a b pair =
    let once : (side : ℕ) → count_by (λ s. s == side) (pair_sides a b) ≤ 1 = λ side. once_of side in
    record {
      size = pair.laid.size;
      oblong = pair.laid.oblong;
      first_perfect = perfect_from_counts a (λ side. omega (arith, once side, count_pair a b side));
      second_perfect = perfect_from_counts b (λ side. omega (arith, once side, count_pair a b side));
      no_common = λ c. omega (arith, c.in_first, c.in_second, once c.side, count_pair a b c.side);
      first_not_width = λ h. omega (arith, h, once a.width, count_pair a b a.width, here_same a.width);
      first_not_height = λ h. omega (arith, h, once a.height, count_pair a b a.height, here_same a.height);
      second_not_width = λ h. omega (arith, h, once a.width, count_pair a b a.width, here_same a.width);
      second_not_height = λ h. omega (arith, h, once a.height, count_pair a b a.height, here_same a.height);
      few = omega (arith, pair.laid.few);
      short = omega (arith, pair.laid.wide, pair.laid.high);
    }
  where
    once_of : (side : ℕ) → count_by (λ s. s == side) (pair_sides a b) ≤ 1
    once_of side = elim (cases_lt 1 (count_by (λ s. s == side) (pair_sides a b))) [
      | inl h ↦ absurd (pair.differ side (omega (arith, h)))
      | inr h ↦ h
    ]

-- two tilings that meet the conditions are a pair
joined : (a b : Tiling) → MeetConditions a b → ArePair a b
joined a b m = record {
  laid = record {
    size = m.size;
    oblong = m.oblong;
    few = omega (arith, m.few);
    wide = omega (arith, m.short);
    high = omega (arith, m.short);
  };
  differ = λ side twice. omega (arith, twice, count_pair a b side, once side);
}
  where
    sizes : (side : ℕ) → is_here side a.width + is_here side a.height ≤ 1
    sizes side = elim (here_cases side a.width) [
      | inl w ↦ elim (here_cases side a.height) [
        | inl h ↦ absurd (m.oblong (w.0 ∙ sym h.0))
        | inr h ↦ omega (arith, w.1, h)
      ]
      | inr w ↦ elim (here_cases side a.height) [
        | inl h ↦ omega (arith, w, h.1)
        | inr h ↦ omega (arith, w, h)
      ]
    ]

    inside : (squares : List Square) → ¬ (HasSide squares a.width) → ¬ (HasSide squares a.height) → (side : ℕ) → 0 < side_count side squares
        → 0 < is_here side a.width + is_here side a.height → ⊥
    inside squares no_width no_height side some size = elim (here_cases side a.width) [
      | inl w ↦ no_width (subst (λ (n : ℕ). 1 ≤ side_count n squares) (sym w.0) (omega (arith, some)))
      | inr w ↦ elim (here_cases side a.height) [
        | inl h ↦ no_height (subst (λ (n : ℕ). 1 ≤ side_count n squares) (sym h.0) (omega (arith, some)))
        | inr h ↦ omega (arith, w, h, size)
      ]
    ]

    once : (side : ℕ) → (side_count side a.squares + side_count side b.squares) + (is_here side a.width + is_here side a.height) ≤ 1
    once side = one_of_four-at_most_one (side_count side a.squares) (side_count side b.squares) (is_here side a.width) (is_here side a.height)
        (counts_from_perfect a m.first_perfect side) (counts_from_perfect b m.second_perfect side) (sizes side)
        (λ p q. m.no_common (record { side = side; in_first = omega (arith, p); in_second = omega (arith, q) }))
        (inside a.squares m.first_not_width m.first_not_height side) (inside b.squares m.second_not_width m.second_not_height side)

-- two tilings join to a perfect square exactly where they meet the conditions of a pair
pub pairs_by_conditions : PairsByConditions
pairs_by_conditions a b = (met a b, joined a b)
