-- Tilings of few nodes: that no flip changes what is asked of them, and when they are found.
use Rattle.std.proofs.Common.{arith, inl, inr, max, min, refl, sym, ℕ, ◌*◌, ◌+◌, ◌<◌, ◌≡◌, ◌≤◌, ◌⊎◌}
use Rattle.bk_laws.proofs.NumberOrder.{le_or_ge, lt_or_gt_or_eq, max-of_equal, max-of_swapped, min-of_equal, min-of_swapped}
use Rattle.bk_tiling.specs.Tiling.{IsTiling, Tiling, order}
use Rattle.bk_sym.specs.Image.{image}
use Rattle.bk_sym.specs.declared.Turn.TheVariants.{FlipX, FlipY}
use Rattle.bk_layout.proofs.NormalImages.ImageCounts.{flip_x_sides, flip_y_sides, image_order}
use Rattle.bk_layout.proofs.NormalImages.MirroredGroups.{flip_x_groups}
use Rattle.bk_layout.proofs.NormalImages.UpendedGroups.{flip_y_groups, groups_of}
use Rattle.bk_layout.specs.Normal.{IsHalf, counts_of}

-- how many squares lie at the left or at the right, whichever are more
abbrev pub more_across : Tiling → ℕ
more_across t = max (counts_of t).left (counts_of t).right

-- how many squares lie at the left or at the right, whichever are fewer
abbrev pub fewer_across : Tiling → ℕ
fewer_across t = min (counts_of t).left (counts_of t).right

-- how many lie at the top or at the bottom, whichever are more
abbrev pub more_level : Tiling → ℕ
more_level t = max (counts_of t).top (counts_of t).bottom

-- how many squares lie at the top or at the bottom, whichever are fewer
abbrev pub fewer_level : Tiling → ℕ
fewer_level t = min (counts_of t).top (counts_of t).bottom

-- few nodes; where they are just so many, no more squares lie at the left or right than at the top or bottom: what no flip changes
pub record AreFew (t : Tiling) : Type 0 where
  pub few : 2 * (groups_of t + 1) ≤ order t + 3
  pub more : IsHalf (counts_of t) → more_across t ≤ more_level t
  pub fewer : IsHalf (counts_of t) → more_across t ≡ more_level t → fewer_across t ≤ fewer_level t
  pub size : IsHalf (counts_of t) → more_across t ≡ more_level t → fewer_across t ≡ fewer_level t → t.height ≤ t.width

-- one has as many squares and nodes as the other, and as many squares at these sides
pub record AreAsMany (t u : Tiling) : Type 0 where
  pub squares : order u ≡ order t
  pub moves : groups_of u ≡ groups_of t
  pub more_across_same : more_across u ≡ more_across t
  pub fewer_across_same : fewer_across u ≡ fewer_across t
  pub more_level_same : more_level u ≡ more_level t
  pub fewer_level_same : fewer_level u ≡ fewer_level t
  pub height : u.height ≡ t.height
  pub width : u.width ≡ t.width

-- where a tiling has few nodes, one of as many squares and nodes does
pub few_kept : (t u : Tiling) → AreAsMany t u → AreFew t → AreFew u
few_kept t u s f = record {
  few = omega (arith, f.few, s.squares, s.moves);
  more = λ h. omega (arith, f.more (half h), s.more_across_same, s.more_level_same);
  fewer = λ h e. omega (arith, f.fewer (half h) (level e), s.fewer_across_same, s.fewer_level_same);
  size = λ h e g. omega (arith, f.size (half h) (level e) (omega (arith, g, s.fewer_across_same, s.fewer_level_same)), s.height, s.width);
}
  where
    half : IsHalf (counts_of u) → IsHalf (counts_of t)
    half h = omega (arith, h, s.squares, s.moves)

    level : more_across u ≡ more_level u → more_across t ≡ more_level t
    level e = omega (arith, e, s.more_across_same, s.more_level_same)

-- ---- what a flip keeps

-- two numbers are these, in one order or the other
abbrev pub AreThese : ℕ → ℕ → ℕ → ℕ → Type 0
AreThese a b c d = ((c ≡ a) × (d ≡ b)) ⊎ ((c ≡ b) × (d ≡ a))

-- where two numbers are these, in one order or the other, the greater of them is the same, and so is the smaller
pub max_min-of_these : (a b c d : ℕ) → AreThese a b c d → (max c d ≡ max a b) × (min c d ≡ min a b)
max_min-of_these a b c d (inl (e, f)) = (max-of_equal a b c d e f, min-of_equal a b c d e f)
max_min-of_these a b c d (inr (e, f)) = (max-of_swapped a b c d e f, min-of_swapped a b c d e f)

-- with as many squares at the left and the right, in one order or the other, and at the top and the bottom, all these are as many
as_many : (t u : Tiling) → order u ≡ order t → groups_of u ≡ groups_of t
    → AreThese (counts_of t).left (counts_of t).right (counts_of u).left (counts_of u).right
    → AreThese (counts_of t).top (counts_of t).bottom (counts_of u).top (counts_of u).bottom → u.height ≡ t.height → u.width ≡ t.width → AreAsMany t u
as_many t u squares moves across level high wide = record {
  squares = squares;
  moves = moves;
  more_across_same = sides.0;
  fewer_across_same = sides.1;
  more_level_same = ends.0;
  fewer_level_same = ends.1;
  height = high;
  width = wide;
}
  where
    sides : (more_across u ≡ more_across t) × (fewer_across u ≡ fewer_across t)
    sides = max_min-of_these (counts_of t).left (counts_of t).right (counts_of u).left (counts_of u).right across

    ends : (more_level u ≡ more_level t) × (fewer_level u ≡ fewer_level t)
    ends = max_min-of_these (counts_of t).top (counts_of t).bottom (counts_of u).top (counts_of u).bottom level

-- with left and right exchanged
pub as_many_x : (t : Tiling) → IsTiling t → AreAsMany t (image FlipX t)
as_many_x t tiling = let s = flip_x_sides t tiling in
    as_many t (image FlipX t) (image_order t FlipX) (flip_x_groups t tiling) (inr (s.at_left, s.at_right)) (inl (s.at_top, s.at_bottom)) refl refl

-- with top and bottom exchanged
pub as_many_y : (t : Tiling) → IsTiling t → AreAsMany t (image FlipY t)
as_many_y t tiling = let s = flip_y_sides t tiling in
    as_many t (image FlipY t) (image_order t FlipY) (flip_y_groups t tiling) (inl (s.at_left, s.at_right)) (inr (s.at_top, s.at_bottom)) refl refl

-- numbers by which one is no greater, or the other, the first that differ deciding
pub data IsNoGreater (a b c d e f : ℕ) : Type 0 where
  first : a < d → IsNoGreater a b c d e f
  second : a ≡ d → b < e → IsNoGreater a b c d e f
  third : a ≡ d → b ≡ e → c ≤ f → IsNoGreater a b c d e f

-- one way round or the other they are so
pub no_greater : (a b c d e f : ℕ) → IsNoGreater a b c d e f ⊎ IsNoGreater d e f a b c
no_greater a b c d e f = by_first (lt_or_gt_or_eq a d)
  where
    by_third : a ≡ d → b ≡ e → (c ≤ f) ⊎ (f ≤ c) → IsNoGreater a b c d e f ⊎ IsNoGreater d e f a b c
    by_third g h (inl k) = inl (third g h k)
    by_third g h (inr k) = inr (third (sym g) (sym h) k)

    by_second : a ≡ d → (b < e) ⊎ ((e < b) ⊎ (b ≡ e)) → IsNoGreater a b c d e f ⊎ IsNoGreater d e f a b c
    by_second g (inl h) = inl (second g h)
    by_second g (inr (inl h)) = inr (second (sym g) h)
    by_second g (inr (inr h)) = by_third g h (le_or_ge c f)

    by_first : (a < d) ⊎ ((d < a) ⊎ (a ≡ d)) → IsNoGreater a b c d e f ⊎ IsNoGreater d e f a b c
    by_first (inl h) = inl (first h)
    by_first (inr (inl h)) = inr (first h)
    by_first (inr (inr h)) = by_second h (lt_or_gt_or_eq b e)

-- with the squares at the sides, and then the size, no greater across than from top to bottom, half are few enough
pub few_from : (t : Tiling) → 2 * (groups_of t + 1) ≤ order t + 3
    → IsNoGreater (more_across t) (fewer_across t) t.height (more_level t) (fewer_level t) t.width → AreFew t
few_from t few (first h) = record {
  few = few;
  more = λ k. omega (arith, h);
  fewer = λ k e. absurd (omega (arith, h, e));
  size = λ k e g. absurd (omega (arith, h, e));
}
few_from t few (second g h) = record {
  few = few;
  more = λ k. omega (arith, g);
  fewer = λ k e. omega (arith, h);
  size = λ k e d. absurd (omega (arith, h, d));
}
few_from t few (third g h l) = record { few = few; more = λ k. omega (arith, g); fewer = λ k e. omega (arith, h); size = λ k e d. l }
