-- The walk down both sides of a rectangle from a run of squares at its top: where the squares at its left and those at its right never end at one
-- level, no part has this top.
use Rattle.std.specs.Prelude.{Bool, List, [], cond, count_by, get_or, length, refl, suc, true, ℕ, ◌+◌, ◌∷◌, ◌-◌, ◌<◌, ◌≡◌, ◌≢◌, ◌≤◌, ◌⊎◌}
use Rattle.std.proofs.Common.{ap, arith, inl, inr, subst, sym, ◌∙◌}
use Rattle.std.proofs.lemmas.Bool.{cases_eq, cases_lt, true_from_ne_false}
use Rattle.std.proofs.lemmas.Bool.Decides.{nat_tests}
use Rattle.std.proofs.lemmas.List.Sums.{sum_by-cons}
use Rattle.bk_tiling.proofs.Cells.{IsOver, covers_from, over_from}
use Rattle.bk_tiling.proofs.OrderLaws.{before_level}
use Rattle.bk_tiling.proofs.Places.{later_place}
use Rattle.bk_tiling.specs.CodeOrder.{comes_before}
use Rattle.bk_tiling.specs.Tiling.{IsTiling, IsWithin, Rectangle, Tiling, whole}
use Rattle.bk_tiling.specs.declared.Square.{Square}
use Rattle.bk_simple.specs.Border.{is_inside}
use Rattle.bk_simple.specs.CornerSquares.{IsBetween}
use Rattle.bk_simple.specs.Simple.{IsPart, bottom_right, top_left}
use Rattle.bk_simple.proofs.Parts.{between_corners, bottom_right_below, count_of_part, no_square_across_part, top_left_below}
use Rattle.bk_simple.proofs.Seams.{IsRunTo}
use Rattle.bk_simple.proofs.UncutParts.{IsAt, Meets, inside_from, inside_means, no_two_squares_over_a_cell, square_at_a_place_has_a_side, square_over}
use Rattle.bk_simple.proofs.UncutParts.{within_at}

-- all are counted where each is
counts_all : (p : Square → Bool) (squares : List Square) (d : Square) → ((k : ℕ) → k < length squares → p (get_or squares k d) ≡ true)
    → count_by p squares ≡ length squares
counts_all p [] d all = refl
counts_all p (q ∷ squares) d all =
    let one : ◌≡◌ {A = ℕ} (cond (p q) 1 0) 1 = ap (λ b. cond {A = ℕ} b 1 0) (all 0 (omega arith)) in
    omega (arith, one, sum_by-cons (λ y. cond {A = ℕ} (p y) 1 0) q squares, counts_all p squares d (λ k few. all (suc k) (omega (arith, few))))

module _ (t : Tiling) (tiling : IsTiling t) (d : Square) where
  abbrev at : ℕ → Square
  at k = get_or t.squares k d

  -- the lower edge of a square
  abbrev pub end_of : ℕ → ℕ
  end_of k = (at k).y + (at k).s

  -- of two squares over one column the later one begins where the earlier one has ended
  column_order : (c m k : ℕ) → m < k → k < length t.squares → (at m).x ≤ c → c < (at m).x + (at m).s → (at k).x ≤ c → c < (at k).x + (at k).s
      → end_of m ≤ (at k).y
  column_order c m k before few ml mr kl kr = cases (cases_lt (at k).y (end_of m))
    where
      low : (at m).y ≤ (at k).y
      low = before_level (at m) (at k) (later_place t.squares tiling.ordered m k d before few)

      w : IsWithin (whole t) (at k)
      w = within_at t tiling k d few

      side : 0 < (at k).s
      side = square_at_a_place_has_a_side t tiling k d few

      cases : ((at k).y < end_of m) ⊎ (end_of m ≤ (at k).y) → end_of m ≤ (at k).y
      cases (inr h) = h
      cases (inl h) = absurd (no_two_squares_over_a_cell t tiling c (at k).y m k d (omega (arith, w.right)) (omega (arith, w.bottom, side)) before few
          (covers_from c (at k).y (at m) ml mr low h) (covers_from c (at k).y (at k) kl kr (omega arith) (omega (arith, side))))

  -- a part that begins with square i and ends at a column
  pub record IsUnder (i right : ℕ) (p : Rectangle) : Type 0 where
    pub part : IsPart t p
    pub first : top_left t p ≡ i
    pub ends : p.x + p.width ≡ right

  module _ (i right : ℕ) (p : Rectangle) (u : IsUnder i right p) where
    abbrev bottom : ℕ
    bottom = p.y + p.height

    -- how it lies in the tiling
    pub record IsPlaced : Type 0 where
      pub below : i < length t.squares
      pub left : p.x ≡ (at i).x
      pub top : p.y ≡ (at i).y
      pub wide : 0 < p.width
      pub high : 0 < p.height
      pub last : right ≤ t.width
      pub lowest : bottom ≤ t.height

    pub placed : IsPlaced
    placed =
        let c : IsBetween (at i) (at (bottom_right t p)) p =
        subst (λ (k : ℕ). IsBetween (at k) (at (bottom_right t p)) p) u.first (between_corners t p tiling u.part d) in
        let w = within_at t tiling (bottom_right t p) d (bottom_right_below t p tiling u.part) in
        record {
          below = subst (λ (k : ℕ). k < length t.squares) u.first (top_left_below t p tiling u.part);
          left = c.left;
          top = c.top;
          wide = c.wide;
          high = c.high;
          last = omega (arith, u.ends, c.right, w.right);
          lowest = omega (arith, c.bottom, w.bottom);
        }

    -- a square that meets it lies in it
    pub lies : (k : ℕ) → k < length t.squares → Meets p (at k) → IsWithin p (at k)
    lies k few meets = inside_means p (at k) (true_from_ne_false (is_inside p (at k)) (λ cut. no_square_across_part t p tiling u.part k d few cut meets))

    -- and stands no earlier than the first
    no_earlier : (m : ℕ) → m < length t.squares → IsWithin p (at m) → i ≤ m
    no_earlier m few w = cases (cases_lt m i)
      where
        cases : (m < i) ⊎ (i ≤ m) → i ≤ m
        cases (inr h) = h
        cases (inl h) =
            let before : comes_before (at m) (at i) ≡ true = later_place t.squares tiling.ordered m i d h placed.below in
            absurd (grind (arith, nat_tests, before, w.left, w.top, placed.left, placed.top))

    -- a square of it that begins at its left edge ends below a level, or one that ends at its right edge
    record IsOn (c j : ℕ) : Type 0 where
      pub place : ℕ
      pub few : place < length t.squares
      pub from : i ≤ place
      pub within : IsWithin p (at place)
      pub over : IsOver c j (at place)

    on_cell : (c j : ℕ) → p.x ≤ c → c < right → p.y ≤ j → j < bottom → IsOn c j
    on_cell c j left r top low =
        let a : IsAt t tiling d c j = square_over t tiling d c j (omega (arith, placed.last)) (omega (arith, placed.lowest)) in
        let o : IsOver c j (at a.place) = over_from c j (at a.place) a.over in
        let w : IsWithin p (at a.place) = lies a.place a.below (record {
          left = omega (arith, o.right, left);
          right = omega (arith, o.left, r, u.ends);
          top = omega (arith, o.bottom, top);
          bottom = omega (arith, o.top, low);
        }) in
        record { place = a.place; few = a.below; from = no_earlier a.place a.below w; within = w; over = o }

  -- the squares from place i up to k, with their ends at both sides: of a part with these sides one side isn't ended
  pub record IsWalk (i edge k left_end right_end : ℕ) : Type 0 where
    pub some : i < k
    pub from_left : (at i).y ≤ left_end
    pub from_right : (at i).y ≤ right_end
    pub left : (m : ℕ) → i ≤ m → m < k → m < length t.squares → (at m).x ≡ (at i).x → end_of m ≤ left_end
    pub right : (m : ℕ) → i ≤ m → m < k → m < length t.squares → (at m).x + (at m).s ≡ edge → end_of m ≤ right_end
    pub parts : (p : Rectangle) → IsUnder i edge p → (left_end ≤ p.y + p.height) × (right_end ≤ p.y + p.height)
        × ((left_end < p.y + p.height) ⊎ (right_end < p.y + p.height))

  -- so a later square of the part stands above its lower end
  record IsLater (k : ℕ) (p : Rectangle) : Type 0 where
    pub place : ℕ
    pub few : place < length t.squares
    pub from : k ≤ place
    pub high : (at place).y < p.y + p.height

  -- a square at a side whose squares before place k end above it is such a one
  later_at : (i right k end c : ℕ) (p : Rectangle) (u : IsUnder i right p) → end < p.y + p.height → (o : IsOn i right p u c end)
      → (o.place < k → end_of o.place ≤ end) → IsLater k p
  later_at i right k end c p u high o ended = record {
    place = o.place;
    few = o.few;
    high = omega (arith, o.over.top, high);
    from = elim (cases_lt o.place k) [ inl early ↦ absurd (omega (arith, o.over.bottom, ended early)) | inr late ↦ late ];
  }

  later : (i right k l r : ℕ) → IsWalk i right k l r → (p : Rectangle) → IsUnder i right p → IsLater k p
  later i right k l r walk p u = cases (walk.parts p u).2
    where
      here : IsPlaced i right p u
      here = placed i right p u

      cases : (l < p.y + p.height) ⊎ (r < p.y + p.height) → IsLater k p
      cases (inl h) =
          let o : IsOn i right p u p.x l = on_cell i right p u p.x l (omega arith) (omega (arith, u.ends, here.wide))
          (omega (arith, here.top, walk.from_left)) h in
          later_at i right k l p.x p u h o
          (λ early. walk.left o.place o.from early o.few (omega (arith, here.left, o.over.left, o.within.left)))
      cases (inr h) =
          let o : IsOn i right p u (right - 1) r = on_cell i right p u (right - 1) r (omega (arith, u.ends, here.wide)) (omega (arith, u.ends, here.wide))
          (omega (arith, here.top, walk.from_right)) h in
          later_at i right k r (right - 1) p u h o
          (λ early. walk.right o.place o.from early o.few (omega (arith, u.ends, here.wide, o.over.right, o.within.right)))

  -- the squares from place i to place last stand side by side
  module _ (i last right : ℕ) (run : IsRunTo t.squares i d (last + 1) right) where
    last_is : last + 1 - 1 ≡ last
    last_is = omega arith

    level : (at last).y ≡ (at i).y
    level = subst (λ (k : ℕ). (at k).y ≡ (at i).y) last_is run.level

    ends : (at last).x + (at last).s ≡ right
    ends = subst (λ (k : ℕ). (at k).x + (at k).s ≡ right) last_is run.ends

    few : last < length t.squares
    few = omega (arith, run.within)

    -- each of them at the level of the first, and none at its column
    level_between : (m : ℕ) → i ≤ m → m < last + 1 → (at m).y ≡ (at i).y
    level_between m from below = cases (cases_eq m i) (cases_eq m last)
      where
        cases : (m ≡ i) ⊎ (m ≡ i → ⊥) → (m ≡ last) ⊎ (m ≡ last → ⊥) → (at m).y ≡ (at i).y
        cases (inl e) other = ap (λ (k : ℕ). (at k).y) e
        cases (inr e) (inl f) = ap (λ (k : ℕ). (at k).y) f ∙ level
        cases (inr e) (inr f) = omega (
          arith,
          level,
          before_level (at i) (at m) (later_place t.squares tiling.ordered i m d (omega (arith, from, e)) (omega (arith, few, below))),
          before_level (at m) (at last) (later_place t.squares tiling.ordered m last d (omega (arith, below, f)) few),
        )

    lefts_start : (m : ℕ) → i ≤ m → m < last + 1 → (at m).x ≡ (at i).x → end_of m ≤ end_of i
    lefts_start m from below same = cases (cases_eq m i)
      where
        cases : (m ≡ i) ⊎ (m ≡ i → ⊥) → end_of m ≤ end_of i
        cases (inl e) = omega (arith, ap end_of e)
        cases (inr e) =
            let before : comes_before (at i) (at m) ≡ true = later_place t.squares tiling.ordered i m d (omega (arith, from, e)) (omega (arith, few, below)) in
            absurd (grind (arith, nat_tests, before, same, level_between m from below))

    rights_start : (m : ℕ) → i ≤ m → m < last + 1 → (at m).x + (at m).s ≡ right → end_of m ≤ end_of last
    rights_start m from below same = cases (cases_eq m last)
      where
        cases : (m ≡ last) ⊎ (m ≡ last → ⊥) → end_of m ≤ end_of last
        cases (inl e) = omega (arith, ap end_of e)
        cases (inr e) =
            let inside : m < length t.squares = omega (arith, few, below) in
            let own = square_at_a_place_has_a_side t tiling m d inside in
            let other = square_at_a_place_has_a_side t tiling last d few in
            absurd (omega (
              arith,
              other,
              level,
              level_between m from below,
              column_order (right - 1) m last (omega (arith, below, e)) few (omega (arith, same, own)) (omega (arith, same, own)) (omega (arith, ends, other))
                  (omega (arith, ends, other)),
              own,
            ))

    -- a part under them holds the first and the last
    first_in : (p : Rectangle) → IsUnder i right p → IsWithin p (at i)
    first_in p u =
        let here : IsPlaced i right p u = placed i right p u in
        let s = square_at_a_place_has_a_side t tiling i d here.below in
        lies i right p u i here.below (record {
          left = omega (arith, here.left, s);
          right = omega (arith, here.left, here.wide);
          top = omega (arith, here.top, s);
          bottom = omega (arith, here.top, here.high);
        })

    last_in : (p : Rectangle) → IsUnder i right p → IsWithin p (at last)
    last_in p u =
        let here : IsPlaced i right p u = placed i right p u in
        let s = square_at_a_place_has_a_side t tiling last d few in
        lies i right p u last few (record {
          left = omega (arith, ends, u.ends, here.wide);
          right = omega (arith, ends, u.ends, s);
          top = omega (arith, here.top, level, s);
          bottom = omega (arith, here.top, level, here.high);
        })

    -- the walk begins below them, where they are two at least and the sides of the first and the last differ
    pub walk_start : (at i).s ≢ (at last).s → IsWalk i right (last + 1) (end_of i) (end_of last)
    walk_start apart = record {
      some = run.some;
      from_left = omega arith;
      from_right = omega (arith, level);
      left = λ m from below inside same. lefts_start m from below same;
      right = λ m from below inside same. rights_start m from below same;
      parts = λ p u. let a = (first_in p u).bottom in let b = (last_in p u).bottom in (a, b, lower (p.y + p.height) a b);
    }
      where
        lower : (y : ℕ) → end_of i ≤ y → end_of last ≤ y → (end_of i < y) ⊎ (end_of last < y)
        lower y a b = elim (cases_lt (end_of i) y) [ inl h ↦ inl h | inr h ↦ inr (omega (arith, apart, level, a, b, h)) ]

  -- where all squares were passed, there is no such part
  pub walk_all : (i right k l r : ℕ) → IsWalk i right k l r → length t.squares ≤ k → (p : Rectangle) → IsUnder i right p → ⊥
  walk_all i right k l r walk all p u = let next = later i right k l r walk p u in omega (arith, next.few, next.from, all)

  -- else the next square stands above its lower end
  next_high : (i right k l r : ℕ) → IsWalk i right k l r → k < length t.squares → (p : Rectangle) → IsUnder i right p → (at k).y < p.y + p.height
  next_high i right k l r walk few p u = cases (later i right k l r walk p u)
    where
      cases : IsLater k p → (at k).y < p.y + p.height
      cases n = elim (cases_eq k n.place) [
        | inl e ↦ subst (λ (m : ℕ). (at m).y < p.y + p.height) (sym e) n.high
        | inr other ↦ omega (
          arith,
          n.high,
          before_level (at k) (at n.place) (later_place t.squares tiling.ordered k n.place d (omega (arith, n.from, other)) n.few),
        )
      ]

  next_low : (i k : ℕ) → i < k → k < length t.squares → (at i).y ≤ (at k).y
  next_low i k before few = before_level (at i) (at k) (later_place t.squares tiling.ordered i k d before few)

  -- a square that reaches across a side ends the walk
  pub walk_crossed : (i right k l r : ℕ) → IsWalk i right k l r → k < length t.squares
      → (((at k).x < (at i).x) × ((at i).x < (at k).x + (at k).s)) ⊎ (((at k).x < right) × (right < (at k).x + (at k).s))
      → (p : Rectangle) → IsUnder i right p → ⊥
  walk_crossed i right k l r walk few crossed p u = cases crossed
    where
      here : IsPlaced i right p u
      here = placed i right p u

      side : 0 < (at k).s
      side = square_at_a_place_has_a_side t tiling k d few

      high : (at k).y < p.y + p.height
      high = next_high i right k l r walk few p u

      low : (at i).y ≤ (at k).y
      low = next_low i k walk.some few

      within : p.x < (at k).x + (at k).s → (at k).x < p.x + p.width → IsWithin p (at k)
      within ends begins = lies i right p u k few (record { left = ends; right = begins; top = omega (arith, here.top, low, side); bottom = high })

      cases : (((at k).x < (at i).x) × ((at i).x < (at k).x + (at k).s)) ⊎ (((at k).x < right) × (right < (at k).x + (at k).s)) → ⊥
      cases (inl h) =
          omega (arith, h.0, here.left, (within (omega (arith, h.1, here.left)) (omega (arith, h.0, here.left, here.wide))).left)
      cases (inr h) = omega (arith, h.1, u.ends, (within (omega (arith, h.1, u.ends)) (omega (arith, h.0, u.ends))).right)

  -- the ends with one square more
  pub record AreNext (i edge k l r new_l new_r : ℕ) : Type 0 where
    pub left : (at k).x ≡ (at i).x → new_l ≡ end_of k
    pub not_left : (at k).x ≢ (at i).x → new_l ≡ l
    pub right : (at k).x + (at k).s ≡ edge → new_r ≡ end_of k
    pub not_right : (at k).x + (at k).s ≢ edge → new_r ≡ r

  module _ (i right k l r m n : ℕ) (walk : IsWalk i right k l r) (few : k < length t.squares) (next : AreNext i right k l r m n) where
    side : 0 < (at k).s
    side = square_at_a_place_has_a_side t tiling k d few

    -- the one at the left stands no higher than the first square
    pub left_low : (at i).y ≤ m
    left_low = elim (cases_eq (at k).x (at i).x) [
      | inl e ↦ omega (arith, next.left e, next_low i k walk.some few)
      | inr e ↦ omega (arith, next.not_left e, walk.from_left)
    ]

    -- neither goes past the lower end of a part
    pub next_in_part : (p : Rectangle) → IsUnder i right p → (m ≤ p.y + p.height) × (n ≤ p.y + p.height)
    next_in_part p u = (at_left (cases_eq (at k).x (at i).x), at_right (cases_eq ((at k).x + (at k).s) right))
      where
        here : IsPlaced i right p u
        here = placed i right p u

        high : (at k).y < p.y + p.height
        high = next_high i right k l r walk few p u

        low : (at i).y ≤ (at k).y
        low = next_low i k walk.some few

        at_left : ((at k).x ≡ (at i).x) ⊎ ((at k).x ≡ (at i).x → ⊥) → m ≤ p.y + p.height
        at_left (inl e) = omega (
          arith,
          next.left e,
          (lies i right p u k few (record {
            left = omega (arith, here.left, e, side);
            right = omega (arith, here.left, e, here.wide);
            top = omega (arith, here.top, low, side);
            bottom = high;
          })).bottom,
        )
        at_left (inr e) = omega (arith, next.not_left e, (walk.parts p u).0)

        at_right : ((at k).x + (at k).s ≡ right) ⊎ ((at k).x + (at k).s ≡ right → ⊥) → n ≤ p.y + p.height
        at_right (inl e) = omega (
          arith,
          next.right e,
          (lies i right p u k few (record {
            left = omega (arith, e, u.ends, here.wide);
            right = omega (arith, e, u.ends, side);
            top = omega (arith, here.top, low, side);
            bottom = high;
          })).bottom,
        )
        at_right (inr e) = omega (arith, next.not_right e, (walk.parts p u).1)

    -- where the two sides of a walk don't end at one level, it goes on
    pub walk_more : m ≢ n → IsWalk i right (k + 1) m n
    walk_more apart = record {
      some = omega (arith, walk.some);
      from_left = left_low;
      from_right = elim (cases_eq ((at k).x + (at k).s) right) [
        | inl e ↦ omega (arith, next.right e, next_low i k walk.some few)
        | inr e ↦ omega (arith, next.not_right e, walk.from_right)
      ];
      left = λ j from below inside same. lefts j from inside same (cases_eq j k) (cases_eq (at k).x (at i).x) below;
      right = λ j from below inside same. rights j from inside same (cases_eq j k) (cases_eq ((at k).x + (at k).s) right) below;
      parts = λ p u. let both = next_in_part p u in (both.0, both.1, lower (p.y + p.height) both.0 both.1);
    }
      where
        lower : (y : ℕ) → m ≤ y → n ≤ y → (m < y) ⊎ (n < y)
        lower y a b = elim (cases_lt m y) [ inl h ↦ inl h | inr h ↦ inr (omega (arith, apart, a, b, h)) ]

        lefts : (j : ℕ) → i ≤ j → j < length t.squares → (at j).x ≡ (at i).x → (j ≡ k) ⊎ (j ≡ k → ⊥)
            → ((at k).x ≡ (at i).x) ⊎ ((at k).x ≡ (at i).x → ⊥) → j < k + 1 → end_of j ≤ m
        lefts j from inside same (inl e) (inl here) below = omega (arith, next.left here, ap end_of e)
        lefts j from inside same (inl e) (inr here) below = absurd (here (sym (ap (λ (n : ℕ). (at n).x) e) ∙ same))
        lefts j from inside same (inr e) (inl here) below =
            omega (
              arith,
              next.left here,
              column_order (at i).x j k (omega (arith, e, below)) few (omega (arith, same))
                  (omega (arith, same, square_at_a_place_has_a_side t tiling j d inside)) (omega (arith, here)) (omega (arith, here, side)),
            )
        lefts j from inside same (inr e) (inr here) below = omega (arith, next.not_left here, walk.left j from (omega (arith, e, below)) inside same)

        rights : (j : ℕ) → i ≤ j → j < length t.squares → (at j).x + (at j).s ≡ right → (j ≡ k) ⊎ (j ≡ k → ⊥)
            → ((at k).x + (at k).s ≡ right) ⊎ ((at k).x + (at k).s ≡ right → ⊥) → j < k + 1 → end_of j ≤ n
        rights j from inside same (inl e) (inl here) below = omega (arith, next.right here, ap end_of e)
        rights j from inside same (inl e) (inr here) below = absurd (here (sym (ap (λ (n : ℕ). (at n).x + (at n).s) e) ∙ same))
        rights j from inside same (inr e) (inl here) below =
            omega (
              arith,
              next.right here,
              column_order (right - 1) j k (omega (arith, e, below)) few
                  (omega (arith, same, square_at_a_place_has_a_side t tiling j d inside))
                  (omega (arith, same, square_at_a_place_has_a_side t tiling j d inside)) (omega (arith, here, side))
                  (omega (arith, here, side)),
            )
        rights j from inside same (inr e) (inr here) below = omega (arith, next.not_right here, walk.right j from (omega (arith, e, below)) inside same)

    -- where the two sides of a walk end at the lower end of the whole, no part is left: it would be the whole
    pub none_but_whole : m ≡ n → right - (at i).x ≡ t.width → m - (at i).y ≡ t.height → (p : Rectangle) → IsUnder i right p → ⊥
    none_but_whole same wide high p u =
        omega (arith, (u.part).not_all, count_of_part t p tiling u.part, counts_all (is_inside p) t.squares d all_in)
      where
        here : IsPlaced i right p u
        here = placed i right p u

        all_in : (j : ℕ) → j < length t.squares → is_inside p (at j) ≡ true
        all_in j low =
            let w : IsWithin (whole t) (at j) = within_at t tiling j d low in
            let s = square_at_a_place_has_a_side t tiling j d low in
            inside_from p (at j) (record {
              left = omega (arith, wide, u.ends, here.last, here.left, here.wide);
              right = omega (arith, wide, u.ends, here.last, here.left, here.wide, w.right);
              top = omega (arith, high, (next_in_part p u).0, here.lowest, here.top, w.bottom, s);
              bottom = omega (arith, high, (next_in_part p u).0, here.lowest, here.top, w.bottom, s);
            })
