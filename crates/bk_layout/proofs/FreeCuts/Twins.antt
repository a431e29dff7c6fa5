-- In a simple tiling of three squares or more no two squares make up a rectangle.
use Rattle.std.proofs.Common.{ap, arith, inl, inr, length, subst, sym, ℕ, ◌+◌, ◌-◌, ◌<◌, ◌∙◌, ◌≡◌, ◌≤◌, ◌⊎◌}
use Rattle.std.proofs.lemmas.Bool.{cases_lt}
use Rattle.bk_laws.proofs.NumberOrder.{meeting_intervals-common}
use Rattle.bk_tiling.specs.Tiling.{IsOneOf, IsTiling, Tiling, order, square_of}
use Rattle.bk_tiling.specs.declared.Square.{Square}
use Rattle.bk_simple.specs.Simple.{IsSimple}
use Rattle.bk_layout.proofs.TilingLayouts.Edges.{IsOn, bottom_within, meet, right_within, side}
use Rattle.bk_layout.proofs.FreeCuts.Frames.{IsAll, IsFrame, IsInside, IsOne, one_or_all}
use Rattle.bk_layout.proofs.TilingLayouts.TilingSquares.{in_square, one_number}

module _ (t : Tiling) (tiling : IsTiling t) (simple : IsSimple t) (many : 3 ≤ order t) where
  -- two squares that cover a rectangle
  record Cover (q r : Square) (left right top bottom : ℕ) : Type 0 where
    q_in : IsOneOf q t.squares
    r_in : IsOneOf r t.squares
    wide : left < right
    high : top < bottom
    q_inside : IsInside left right top bottom q
    r_inside : IsInside left right top bottom r
    over : (c l : ℕ) → left ≤ c → c < right → top ≤ l → l < bottom → IsOn c l q ⊎ IsOn c l r
    differ : q ≡ r → ⊥

  module _ (q r : Square) (left right top bottom : ℕ) (cover : Cover q r left right top bottom) where
    either : (z : Square) → IsOneOf z t.squares → z.x < right → left < z.x + z.s → z.y < bottom → top < z.y + z.s → (z ≡ q) ⊎ (z ≡ r)
    either z h a b c d = from (meeting_intervals-common z.x (z.x + z.s) left right (omega (arith, side t tiling z h)) cover.wide a b)
        (meeting_intervals-common z.y (z.y + z.s) top bottom (omega (arith, side t tiling z h)) cover.high c d)
      where
        from : (l : ℕ) × (z.x ≤ l) × (l < z.x + z.s) × (left ≤ l) × (l < right) → (m : ℕ) × (z.y ≤ m) × (m < z.y + z.s) × (top ≤ m)
            × (m < bottom) → (z ≡ q) ⊎ (z ≡ r)
        from (i, i1, i2, i3, i4) (j, j1, j2, j3, j4) = cases (cover.over i j i3 i4 j3 j4)
          where
            own : IsOn i j z
            own = record { left = i1; right = i2; top = j1; bottom = j2 }

            cases : IsOn i j q ⊎ IsOn i j r → (z ≡ q) ⊎ (z ≡ r)
            cases (inl on) = inl (meet t tiling i j z q h cover.q_in own on)
            cases (inr on) = inr (meet t tiling i j z r h cover.r_in own on)

    inside : (z : Square) → IsOneOf z t.squares → z.x < right → left < z.x + z.s → z.y < bottom → top < z.y + z.s → IsInside left right top bottom z
    inside z h a b c d = cases (either z h a b c d)
      where
        cases : (z ≡ q) ⊎ (z ≡ r) → IsInside left right top bottom z
        cases (inl e) = subst (IsInside left right top bottom) (sym e) cover.q_inside
        cases (inr e) = subst (IsInside left right top bottom) (sym e) cover.r_inside

    within_right : right ≤ t.width
    within_right = cases (cover.over (right - 1) top (omega (arith, cover.wide)) (omega (arith, cover.wide)) (omega arith) cover.high)
      where
        cases : IsOn (right - 1) top q ⊎ IsOn (right - 1) top r → right ≤ t.width
        cases (inl on) = omega (arith, on.right, right_within t tiling q cover.q_in)
        cases (inr on) = omega (arith, on.right, right_within t tiling r cover.r_in)

    within_bottom : bottom ≤ t.height
    within_bottom = cases (cover.over left (bottom - 1) (omega arith) cover.wide (omega (arith, cover.high)) (omega (arith, cover.high)))
      where
        cases : IsOn left (bottom - 1) q ⊎ IsOn left (bottom - 1) r → bottom ≤ t.height
        cases (inl on) = omega (arith, on.bottom, bottom_within t tiling q cover.q_in)
        cases (inr on) = omega (arith, on.bottom, bottom_within t tiling r cover.r_in)

    frame : IsFrame t left right top bottom
    frame = record {
      wide = cover.wide;
      high = cover.high;
      within_width = within_right;
      within_height = within_bottom;
      at_left = λ z h a b c d. let i = inside z h (omega (arith, a, cover.wide)) b c d in omega (arith, i.left_in, a);
      at_right = λ z h a b c d. let i = inside z h a (omega (arith, b, cover.wide)) c d in omega (arith, i.right_in, b);
      at_top = λ z h a b c d. let i = inside z h c d (omega (arith, a, cover.high)) b in omega (arith, i.top_in, a);
      at_bottom = λ z h a b c d. let i = inside z h c d a (omega (arith, b, cover.high)) in omega (arith, i.bottom_in, b);
    }

    -- they would be all squares
    not_all : IsAll t tiling simple left right top bottom frame → ⊥
    not_all all = three (which 0 (omega (arith, many))) (which 1 (omega (arith, many))) (which 2 (omega (arith, many)))
      where
        which : (k : ℕ) → k < length t.squares → (square_of t k ≡ q) ⊎ (square_of t k ≡ r)
        which k h = let i = in_square t tiling k h in
            either (square_of t k) i (omega (arith, all.right_is, side t tiling (square_of t k) i, right_within t tiling (square_of t k) i))
            (omega (arith, all.left_is, side t tiling (square_of t k) i))
            (omega (arith, all.bottom_is, side t tiling (square_of t k) i, bottom_within t tiling (square_of t k) i))
            (omega (arith, all.top_is, side t tiling (square_of t k) i))

        same : (j k : ℕ) → j < k → k < length t.squares → square_of t j ≡ square_of t k → ⊥
        same j k a b e = omega (arith, a, one_number t tiling j k (omega (arith, a, b)) b e)

        three : (square_of t 0 ≡ q) ⊎ (square_of t 0 ≡ r) → (square_of t 1 ≡ q) ⊎ (square_of t 1 ≡ r) → (square_of t 2 ≡ q) ⊎ (square_of t 2 ≡ r) → ⊥
        three (inl a) (inl b) c = same 0 1 (omega arith) (omega (arith, many)) (a ∙ sym b)
        three (inr a) (inr b) c = same 0 1 (omega arith) (omega (arith, many)) (a ∙ sym b)
        three (inl a) (inr b) (inl c) = same 0 2 (omega arith) (omega (arith, many)) (a ∙ sym c)
        three (inl a) (inr b) (inr c) = same 1 2 (omega arith) (omega (arith, many)) (b ∙ sym c)
        three (inr a) (inl b) (inl c) = same 1 2 (omega arith) (omega (arith, many)) (b ∙ sym c)
        three (inr a) (inl b) (inr c) = same 0 2 (omega arith) (omega (arith, many)) (a ∙ sym c)

    none : ⊥
    none = cases (one_or_all t tiling simple left right top bottom frame)
      where
        cases : IsOne t tiling simple left right top bottom frame ⊎ IsAll t tiling simple left right top bottom frame → ⊥
        cases (inl one) = cover.differ (one.only q cover.q_in cover.q_inside ∙ sym (one.only r cover.r_in cover.r_inside))
        cases (inr all) = not_all all

  -- two squares side by side, of one level above and one below
  pub none_beside : (q r : Square) → IsOneOf q t.squares → IsOneOf r t.squares → q.x + q.s ≡ r.x → q.y ≡ r.y → q.y + q.s ≡ r.y + r.s → ⊥
  none_beside q r h k edge top bottom = none q r q.x (r.x + r.s) q.y (q.y + q.s) (record {
    q_in = h;
    r_in = k;
    wide = omega (arith, edge, side t tiling q h);
    high = omega (arith, side t tiling q h);
    q_inside = record { left_in = omega arith; right_in = omega (arith, edge); top_in = omega arith; bottom_in = omega arith };
    r_inside = record { left_in = omega (arith, edge); right_in = omega arith; top_in = omega (arith, top); bottom_in = omega (arith, bottom) };
    over = λ c l a b d e. over c l a b d e (cases_lt c r.x);
    differ = λ same. omega (arith, edge, side t tiling q h, ap (λ (s : Square). s.x) same);
  })
    where
      over : (c l : ℕ) → q.x ≤ c → c < r.x + r.s → q.y ≤ l → l < q.y + q.s → (c < r.x) ⊎ (r.x ≤ c) → IsOn c l q ⊎ IsOn c l r
      over c l a b d e (inl m) = inl (record { left = a; right = omega (arith, m, edge); top = d; bottom = e })
      over c l a b d e (inr m) = inr (record { left = m; right = b; top = omega (arith, d, top); bottom = omega (arith, e, bottom) })

  -- one above the other, between the same columns
  pub none_below : (q r : Square) → IsOneOf q t.squares → IsOneOf r t.squares → q.y + q.s ≡ r.y → q.x ≡ r.x → q.x + q.s ≡ r.x + r.s → ⊥
  none_below q r h k edge left right = none q r q.x (q.x + q.s) q.y (r.y + r.s) (record {
    q_in = h;
    r_in = k;
    wide = omega (arith, side t tiling q h);
    high = omega (arith, edge, side t tiling q h);
    q_inside = record { left_in = omega arith; right_in = omega arith; top_in = omega arith; bottom_in = omega (arith, edge) };
    r_inside = record { left_in = omega (arith, left); right_in = omega (arith, right); top_in = omega (arith, edge); bottom_in = omega arith };
    over = λ c l a b d e. over c l a b d e (cases_lt l r.y);
    differ = λ same. omega (arith, edge, side t tiling q h, ap (λ (s : Square). s.y) same);
  })
    where
      over : (c l : ℕ) → q.x ≤ c → c < q.x + q.s → q.y ≤ l → l < r.y + r.s → (l < r.y) ⊎ (r.y ≤ l) → IsOn c l q ⊎ IsOn c l r
      over c l a b d e (inl m) = inl (record { left = a; right = b; top = d; bottom = omega (arith, m, edge) })
      over c l a b d e (inr m) = inr (record { left = omega (arith, a, left); right = omega (arith, b, right); top = m; bottom = e })
