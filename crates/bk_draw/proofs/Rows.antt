-- Rows drawn square by square and point by point.
use Rattle.std.specs.List.{list_any}
use Rattle.std.specs.Prelude.{if◌then◌else◌, slice_index}
use Rattle.std.proofs.Common.{Bool, List, ap, arith, false, get_or, inl, inr, length, nat_le, nat_lt, refl, set, subst, sym, take, true, ℕ, ◌&&◌}
use Rattle.std.proofs.Common.{◌+◌, ◌<◌, ◌==◌, ◌||◌, ◌∙◌, ◌≡◌, ◌≤◌, ◌⊎◌, ◌≢◌}
use Rattle.std.proofs.lemmas.Bool.{and_from, and_left, and_parts, and_right, cond-false, cond-true, eqb-false, le-leb, leb-true, le-ltb, lt-leb}
use Rattle.std.proofs.lemmas.Bool.{lt-ltb, ne_eqb, or_from, or_parts}
use Rattle.std.proofs.lemmas.Bool.Decides.{nat_tests}
use Rattle.std.proofs.lemmas.List.{get_or-set_other, get_or-set_same}
use Rattle.std.proofs.lemmas.List.Folds.{list_any_more}
use Rattle.bk_laws.proofs.NumberOrder.{lt_or_eq_or_gt}
use Rattle.bk_tiling.specs.Point.{is_at_edge, is_at_side, is_corner}
use Rattle.bk_tiling.specs.declared.Square.{Square}
use Rattle.bk_draw.specs.Drawing.{drawn, is_across, is_along}
use Rattle.bk_draw.specs.Mark.{IsDrawnBetween, IsDrawnOver, mark_of, seen}

-- the row has n points, and all are spaces
pub record IsBlank (points : List ℕ) (n : ℕ) : Type 0 where
  pub long : length points ≡ n
  pub blank : (x : ℕ) → x < n → slice_index points x ≡ 32

-- the points are those that the squares draw
abbrev pub AreDrawn : List ℕ → List Square → ℕ → Type 0
AreDrawn points squares y = (x : ℕ) → x < length points → slice_index points x ≡ drawn squares x y

-- the character of three tests: for a corner, for a point of an edge, and for one of a side
abbrev pub glyph : Bool → Bool → Bool → ℕ
glyph corner edge side = if corner then 43 else if edge then 45 else if side then 124 else 32

-- drawing over joins the tests
seen-glyph : (a b c d e f : Bool) → seen (glyph a b c) (glyph d e f) ≡ glyph (a || d) (b || e) (c || f)
seen-glyph true b c true e f = refl
seen-glyph true b c false true f = refl
seen-glyph true b c false false true = refl
seen-glyph true b c false false false = refl
seen-glyph false true c true e f = refl
seen-glyph false true c false true f = refl
seen-glyph false true c false false true = refl
seen-glyph false true c false false false = refl
seen-glyph false false true true e f = refl
seen-glyph false false true false true f = refl
seen-glyph false false true false false true = refl
seen-glyph false false true false false false = refl
seen-glyph false false false true e f = refl
seen-glyph false false false false true f = refl
seen-glyph false false false false false true = refl
seen-glyph false false false false false false = refl

-- one more square is drawn over those before it
pub drawn-more : (squares : List Square) (k : ℕ) (d : Square) (x y : ℕ) → k < length squares
    → drawn (take (k + 1) squares) x y ≡ seen (drawn (take k squares) x y) (mark_of (get_or squares k d) x y)
drawn-more squares k d x y below =
    (λ i. glyph (list_any_more (is_corner x y) squares k d below i) (list_any_more (λ q. is_across q x && is_at_edge q y) squares k d below i)
    (list_any_more (λ q. is_at_side q x && is_along q y) squares k d below i))
    ∙ sym (seen-glyph (list_any (is_corner x y) (take k squares)) (list_any (λ q. is_across q x && is_at_edge q y) (take k squares))
    (list_any (λ q. is_at_side q x && is_along q y) (take k squares))
    (is_corner x y (get_or squares k d)) (is_across (get_or squares k d) x && is_at_edge (get_or squares k d) y)
    (is_at_side (get_or squares k d) x && is_along (get_or squares k d) y))

-- a space changes nothing
pub seen-space : (under : ℕ) → seen under 32 ≡ under
seen-space under = grind (arith, nat_tests)

-- points that a square does not draw
mark-none : (q : Square) (x y : ℕ) → is_corner x y q ≡ false → (is_across q x && is_at_edge q y) ≡ false → (is_at_side q x && is_along q y) ≡ false
    → mark_of q x y ≡ 32
mark-none q x y a b c = λ i. glyph (a i) (b i) (c i)

-- a square draws nothing at columns beside it
pub mark-beside : (q : Square) (x y : ℕ) → (x < q.x) ⊎ (q.x + q.s < x) → mark_of q x y ≡ 32
mark-beside q x y beside = mark-none q x y (and_left _ _ (side beside)) (and_left _ _ (across beside)) (and_left _ _ (side beside))
  where
    side : (x < q.x) ⊎ (q.x + q.s < x) → is_at_side q x ≡ false
    side (inl h) = or_from _ _ (ne_eqb x q.x (λ e. omega arith)) (ne_eqb x (q.x + q.s) (λ e. omega arith))
    side (inr h) = or_from _ _ (ne_eqb x q.x (λ e. omega arith)) (ne_eqb x (q.x + q.s) (λ e. omega arith))

    across : (x < q.x) ⊎ (q.x + q.s < x) → is_across q x ≡ false
    across (inl h) = and_left _ _ (lt-leb q.x x h)
    across (inr h) = and_right _ _ (lt-leb x (q.x + q.s) h)

-- a square draws nothing at levels apart from it
pub mark-apart : (q : Square) (x y : ℕ) → is_at_edge q y ≡ false → is_along q y ≡ false → mark_of q x y ≡ 32
mark-apart q x y a b = mark-none q x y (and_right _ _ a) (and_right _ _ a) (and_right _ _ b)

-- between its sides it draws nothing but its edges
pub mark-within : (q : Square) (x y : ℕ) → is_at_edge q y ≡ false → x ≢ q.x → x ≢ q.x + q.s → mark_of q x y ≡ 32
mark-within q x y a b c = mark-none q x y (and_right _ _ a) (and_right _ _ a) (and_left _ _ (or_from _ _ (ne_eqb x q.x b) (ne_eqb x (q.x + q.s) c)))

-- what was drawn between two columns, at a point between them and at another
pub at_between : (q : Square) (y from to : ℕ) (before after : List ℕ) → IsDrawnBetween (λ x. mark_of q x y) from to before after → (x : ℕ) → x < length before
    → from ≤ x → x < to
    → slice_index after x ≡ seen (slice_index before x) (mark_of q x y)
at_between q y from to before after drawn x below low high = drawn x below ∙ cond-true _ _ _ (and_from _ _ (le-leb from x low) (lt-ltb x to high))

-- after a square was drawn between two columns, at any other point stands what stood there
pub at_other : (q : Square) (y from to : ℕ) (before after : List ℕ) → IsDrawnBetween (λ x. mark_of q x y) from to before after → (x : ℕ) → x < length before
    → (x < from) ⊎ (to ≤ x)
    → slice_index after x ≡ slice_index before x
at_other q y from to before after drawn x below (inl h) = drawn x below ∙ cond-false _ _ _ (and_left _ _ (lt-leb from x h))
at_other q y from to before after drawn x below (inr h) = drawn x below ∙ cond-false _ _ _ (and_right _ _ (le-ltb x to h))

-- one more point was drawn
pub between-more : (q : Square) (y from k : ℕ) (before now : List ℕ) (v : ℕ) → IsDrawnBetween (λ x. mark_of q x y) from k before now → from ≤ k
    → k < length before
    → length now ≡ length before
    → v ≡ seen (slice_index now k) (mark_of q k y) → IsDrawnBetween (λ x. mark_of q x y) from (k + 1) before (set now k v)
between-more q y from k before now v drawn order within same is x below = cases (lt_or_eq_or_gt x k)
  where
    unchanged : (b : Bool) → nat_lt x k ≡ b → nat_lt x (k + 1) ≡ b
        → (if nat_le from x && nat_lt x k then seen (slice_index before x) (mark_of q x y) else slice_index before x)
        ≡ (if nat_le from x && nat_lt x (k + 1) then seen (slice_index before x) (mark_of q x y) else slice_index before x)
    unchanged b e f = ap (λ c. if nat_le from x && c then seen (slice_index before x) (mark_of q x y) else slice_index before x) (e ∙ sym f)

    cases : (x < k) ⊎ ((x ≡ k) ⊎ (k < x))
        → slice_index (set now k v) x ≡ (if nat_le from x && nat_lt x (k + 1) then seen (slice_index before x) (mark_of q x y) else slice_index before x)
    cases (inl h) = let apart : x ≢ k = omega arith in rw get_or-set_other (drawn x below ∙ unchanged true (lt-ltb x k h) (lt-ltb x (k + 1) (omega arith)))
    cases (inr (inr h)) = let apart : x ≢ k = omega arith in
        rw get_or-set_other (drawn x below ∙ unchanged false (le-ltb x k (omega arith)) (le-ltb x (k + 1) (omega arith)))
    cases (inr (inl e)) =
        let fits : k < length now = omega arith in
        let here : slice_index (set now k v) k ≡ seen (slice_index before k) (mark_of q k y) =
        get_or-set_same now k v 0 fits ∙ is ∙ ap (λ n. seen n (mark_of q k y)) (at_other q y from k before now drawn k within (inr (omega arith))) in
        let yes : (nat_le from k && nat_lt k (k + 1)) ≡ true =
        and_from (nat_le from k) (nat_lt k (k + 1)) (le-leb from k order) (lt-ltb k (k + 1) (omega arith)) in
        let all : slice_index (set now k v) k ≡ (if nat_le from k && nat_lt k (k + 1) then seen (slice_index before k) (mark_of q k y)
        else slice_index before k) =
        here ∙ sym (cond-true (nat_le from k && nat_lt k (k + 1)) (seen (slice_index before k) (mark_of q k y)) (slice_index before k) yes) in
        subst (λ n. slice_index (set now k v) n ≡ (if nat_le from n && nat_lt n (k + 1) then seen (slice_index before n) (mark_of q n y)
        else slice_index before n)) (sym e) all

-- one more square was drawn
pub drawn_over-more : (squares : List Square) (k : ℕ) (d : Square) (y : ℕ) (before after : List ℕ) → k < length squares → length after ≡ length before
    → AreDrawn before (take k squares) y → IsDrawnOver (get_or squares k d) y before after → AreDrawn after (take (k + 1) squares) y
drawn_over-more squares k d y before after below same drawn over x within =
    let fits : x < length before = omega arith in
    over x fits ∙ ap (λ n. seen n (mark_of (get_or squares k d) x y)) (drawn x fits) ∙ sym (drawn-more squares k d x y below)

-- all points from the left to the right side were drawn: so the square was
pub over_from_edge : (q : Square) (y : ℕ) (before after : List ℕ) → IsDrawnBetween (λ x. mark_of q x y) q.x (q.x + q.s + 1) before after
    → IsDrawnOver q y before after
over_from_edge q y before after drawn x below = cases (lt_or_eq_or_gt x q.x) (lt_or_eq_or_gt x (q.x + q.s))
  where
    outside : (x < q.x) ⊎ (q.x + q.s < x) → (x < q.x) ⊎ (q.x + q.s + 1 ≤ x) → slice_index after x ≡ seen (slice_index before x) (mark_of q x y)
    outside a b = at_other q y q.x (q.x + q.s + 1) before after drawn x below b
        ∙ sym (ap (seen (slice_index before x)) (mark-beside q x y a) ∙ seen-space (slice_index before x))

    inside : q.x ≤ x → x ≤ q.x + q.s → slice_index after x ≡ seen (slice_index before x) (mark_of q x y)
    inside a b = at_between q y q.x (q.x + q.s + 1) before after drawn x below a (omega arith)

    cases : (x < q.x) ⊎ ((x ≡ q.x) ⊎ (q.x < x)) → (x < q.x + q.s) ⊎ ((x ≡ q.x + q.s) ⊎ (q.x + q.s < x))
        → slice_index after x ≡ seen (slice_index before x) (mark_of q x y)
    cases (inl a) c = outside (inl a) (inl a)
    cases (inr a) (inr (inr c)) = outside (inr c) (inr (omega arith))
    cases (inr (inl a)) (inl c) = inside (omega arith) (omega arith)
    cases (inr (inl a)) (inr (inl c)) = inside (omega arith) (omega arith)
    cases (inr (inr a)) (inl c) = inside (omega arith) (omega arith)
    cases (inr (inr a)) (inr (inl c)) = inside (omega arith) (omega arith)

-- a square that the row meets between its edges is drawn by the points of its two sides
pub over_from_sides : (q : Square) (y : ℕ) (before mid after : List ℕ) → is_along q y ≡ true → is_at_edge q y ≡ false → length mid ≡ length before
    → IsDrawnBetween (λ x. mark_of q x y) q.x (q.x + 1) before mid → IsDrawnBetween (λ x. mark_of q x y) (q.x + q.s) (q.x + q.s + 1) mid after
    → IsDrawnOver q y before after
over_from_sides q y before mid after along edge same left right x below = cases (lt_or_eq_or_gt x q.x) (lt_or_eq_or_gt x (q.x + q.s))
  where
    some : 0 < q.s
    some =
        let in_reach = and_parts (nat_le q.y y) (nat_le y (q.y + q.s)) along in
        let apart = or_parts (y == q.y) (y == q.y + q.s) edge in
        let below_top : y ≢ q.y = eqb-false y q.y apart.0 in
        omega (arith, leb-true q.y y in_reach.0, leb-true y (q.y + q.s) in_reach.1, below_top)

    fits : x < length mid
    fits = omega arith

    -- a point that neither changes
    elsewhere : (x < q.x) ⊎ (q.x + 1 ≤ x) → (x < q.x + q.s) ⊎ (q.x + q.s + 1 ≤ x) → x ≢ q.x → x ≢ q.x + q.s
        → slice_index after x ≡ seen (slice_index before x) (mark_of q x y)
    elsewhere a b c d =
        at_other q y (q.x + q.s) (q.x + q.s + 1) mid after right x fits b ∙ at_other q y q.x (q.x + 1) before mid left x below a
        ∙ sym (ap (seen (slice_index before x)) (mark-within q x y edge c d) ∙ seen-space (slice_index before x))

    cases : (x < q.x) ⊎ ((x ≡ q.x) ⊎ (q.x < x)) → (x < q.x + q.s) ⊎ ((x ≡ q.x + q.s) ⊎ (q.x + q.s < x))
        → slice_index after x ≡ seen (slice_index before x) (mark_of q x y)
    cases (inl a) c = elsewhere (inl a) (inl (omega arith)) (λ e. omega arith) (λ e. omega arith)
    cases (inr (inl a)) c =
        at_other q y (q.x + q.s) (q.x + q.s + 1) mid after right x fits (inl (omega (arith, some)))
        ∙ at_between q y q.x (q.x + 1) before mid left x below (omega arith) (omega arith)
    cases (inr (inr a)) (inl c) = elsewhere (inr (omega arith)) (inl c) (λ e. omega arith) (λ e. omega arith)
    cases (inr (inr a)) (inr (inl c)) =
        at_between q y (q.x + q.s) (q.x + q.s + 1) mid after right x fits (omega arith) (omega arith)
        ∙ ap (λ n. seen n (mark_of q x y)) (at_other q y q.x (q.x + 1) before mid left x below (inr (omega arith)))
    cases (inr (inr a)) (inr (inr c)) = elsewhere (inr (omega arith)) (inr (omega arith)) (λ e. omega arith) (λ e. omega arith)

-- a square that the row does not meet is not drawn
pub over_from_none : (q : Square) (y : ℕ) (before : List ℕ) → is_at_edge q y ≡ false → is_along q y ≡ false → IsDrawnOver q y before before
over_from_none q y before edge along x below = sym (ap (seen (slice_index before x)) (mark-apart q x y edge along) ∙ seen-space (slice_index before x))
