-- The squares of the open segments stand in a row from wall to wall, each at the line at which the one before it ends. So a move hangs
-- one square at a wall where its valley stands there, and else none.
use Rattle.std.specs.List.{concat}
use Rattle.std.proofs.Common.{Bool, List, Some, [], ap, arith, cond, count_by, drop, inl, inr, length, map, nat_eq, refl, slice_get, slice_index_or, subst, suc}
use Rattle.std.proofs.Common.{sym, take, zero, ℕ, ◌++◌, ◌+◌, ◌-◌, ◌<◌, ◌∙◌, ◌∷◌, ◌↔◌, ◌≡◌, ◌≤◌, ◌⊎◌}
use Rattle.std.proofs.lemmas.Bool.{cases_eq}
use Rattle.std.proofs.lemmas.Bool.Decides.{nat_tests}
use Rattle.std.proofs.lemmas.List.{append_assoc, length-append}
use Rattle.std.proofs.lemmas.List.Folds.{concat-append}
use Rattle.std.proofs.lemmas.List.Sums.{sum_by-append, sum_by-cons}
use Rattle.std.proofs.lemmas.Option.{same_Some}
use Rattle.bk_laws.proofs.ListPlaces.{get_front}
use Rattle.bk_laws.proofs.Occurrences.{times-concat, times-positive_of_slice_get, times_in-append}
use Rattle.bk_laws.proofs.ListItems.{concat-cut_at, slice_index_or-append_at_length}
use Rattle.bk_laws.proofs.ListsOfLists.{concat-drop_all, concat-singletons, concat-take_none}
use Rattle.bk_laws.proofs.NumberTests.{nat_eq-same_of_iff}
use Rattle.bk_word.specs.Outline.{IsLegalMove, Outline, has_left_wall, has_right_wall, start, valley_of, valley_place}
use Rattle.bk_word.specs.Play.{AreLegalFrom, after_move, after_moves, new_squares, numbers_from, segments_apart, signs_apart}
use Rattle.bk_word.specs.Word.{Move, Word}
use Rattle.bk_word.proofs.PlayLists.{place_within}
use Rattle.bk_word_net.proofs.Outlines.BottomChain.{concat-joined}
use Rattle.bk_word_net.proofs.WordFlows.NoLoose.{hung_number}
use Rattle.bk_word_net.proofs.Outlines.Numbering.{Numbered, numbered_move, numbered_start}
use Rattle.bk_word_net.proofs.Outlines.Shape.{AllFilled, Shaped, filled_move, shaped_move, shaped_start}
use Rattle.bk_layout.proofs.FreeCuts.NumberedLines.{after_long}
use Rattle.bk_layout.specs.LineNumbers.{left_end, new_sides, right_end, sides_after, sides_along, sides_at}
use Rattle.bk_layout.proofs.FreeCuts.LineGaps.{AreLineNumbers, IsLine, left_line, lines_after, right_line}
use Rattle.bk_layout.specs.WordNumbers.{WallMovesHangOne, left_moves_from, right_moves_from}

-- ---- squares in a row

-- squares of these numbers stand in a row from one line to another
abbrev pub Runs : List (ℕ × ℕ) → ℕ → List ℕ → ℕ → Type 0
Runs sides a [] b = a ≡ b
Runs sides a (x ∷ row) b = ((sides_at sides x).0 ≡ a) × Runs sides (sides_at sides x).1 row b

runs_split : (sides : List (ℕ × ℕ)) (a : ℕ) (front back : List ℕ) (b : ℕ) → Runs sides a (front ++ back) b → (c : ℕ) × Runs sides a front c
    × Runs sides c back b
runs_split sides a [] back b r = (a, refl, r)
runs_split sides a (x ∷ front) back b r = let s = runs_split sides (sides_at sides x).1 front back b r.1 in (s.0, (r.0, s.1), s.2)

runs_join : (sides : List (ℕ × ℕ)) (a : ℕ) (front : List ℕ) (c : ℕ) (back : List ℕ) (b : ℕ) → Runs sides a front c → Runs sides c back b
    → Runs sides a (front ++ back) b
runs_join sides a [] c back b r s = subst (λ (y : ℕ). Runs sides y back b) (sym r) s
runs_join sides a (x ∷ front) c back b r s = (r.0, runs_join sides (sides_at sides x).1 front c back b r.1 s)

-- more squares elsewhere
runs_more : (sides more : List (ℕ × ℕ)) (a : ℕ) (row : List ℕ) (b : ℕ) → ((k x : ℕ) → slice_get row k ≡ Some x → x - 1 < length sides)
    → Runs sides a row b → Runs (sides ++ more) a row b
runs_more sides more a [] b low r = r
runs_more sides more a (x ∷ row) b low r = (
  ap (λ (p : ℕ × ℕ). p.0) same ∙ r.0,
  subst (λ (y : ℕ). Runs (sides ++ more) y row b) (sym (ap (λ (p : ℕ × ℕ). p.1) same))
      (runs_more sides more (sides_at sides x).1 row b (λ k y e. low (suc k) y e) r.1),
)
  where
    same : sides_at (sides ++ more) x ≡ sides_at sides x
    same = get_front sides more (x - 1) (0, 1) (low 0 x refl)

-- the lines at its ends
run_left : (sides : List (ℕ × ℕ)) (a : ℕ) (row : List ℕ) (b : ℕ) → Runs sides a row b → 0 < length row → left_end sides row ≡ a
run_left sides a [] b r some = absurd (omega arith)
run_left sides a (x ∷ row) b r some = r.0

run_right : (sides : List (ℕ × ℕ)) (a : ℕ) (row : List ℕ) (b : ℕ) → Runs sides a row b → 0 < length row → right_end sides row ≡ b
run_right sides a [] b r some = absurd (omega arith)
run_right sides a (x ∷ []) b r some = r.1
run_right sides a (x ∷ y ∷ row) b r some = run_right sides (sides_at sides x).1 (y ∷ row) b r.1 (omega arith)

-- a row that isn't empty ends at no left wall, and begins at no right wall
not_zero : (sides : List (ℕ × ℕ)) (f : ℕ) → IsLine 1 sides f → f ≡ 0 → ⊥
not_zero sides f (inl e) z = omega (arith, e, z)
not_zero sides f (inr g) z = omega (arith, g.is, z)

-- a line that is the left wall or a gap isn't the right wall
pub not_one : (sides : List (ℕ × ℕ)) (f : ℕ) → IsLine 0 sides f → f ≡ 1 → ⊥
not_one sides f (inl e) z = omega (arith, e, z)
not_one sides f (inr g) z = omega (arith, g.is, z)

number_at : (base : List (ℕ × ℕ)) (p : ℕ × ℕ) (more : List (ℕ × ℕ)) (h : ℕ) → length base ≡ h → sides_at (base ++ p ∷ more) (h + 1) ≡ p
number_at base p more h e = ap (λ (k : ℕ). slice_index_or (base ++ p ∷ more) k (0, 1)) (omega arith) ∙ slice_index_or-append_at_length base p more h e

new_runs : (base : List (ℕ × ℕ)) (hung count left right : ℕ) → length base ≡ hung → 0 < count
    → Runs (base ++ new_sides hung count left right) left (numbers_from (hung + 1) count) right
new_runs base hung zero left right long some = absurd (omega arith)
new_runs base hung (suc zero) left right long some =
    (ap (λ (p : ℕ × ℕ). p.0) (number_at base (left, right) [] hung long), ap (λ (p : ℕ × ℕ). p.1) (number_at base (left, right) [] hung long))
new_runs base hung (suc (suc more)) left right long some = (
  ap (λ (p : ℕ × ℕ). p.0) here,
  subst (λ (y : ℕ). Runs (base ++ (left, suc (suc hung)) ∷ new_sides (suc hung) (suc more) (suc (suc hung)) right) y (numbers_from (hung + 1 + 1)
      (suc more)) right) (sym (ap (λ (p : ℕ × ℕ). p.1) here))
      (subst (λ (y : ℕ). Runs (base ++ (left, suc (suc hung)) ∷ new_sides (suc hung) (suc more) (suc (suc hung)) right) (suc (suc hung))
      (numbers_from y (suc more)) right) next
      (subst (λ (xs : List (ℕ × ℕ)). Runs xs (suc (suc hung)) (numbers_from (suc hung + 1) (suc more)) right) same
      (new_runs (base ++ (left, suc (suc hung)) ∷ []) (suc hung) (suc more) (suc (suc hung)) right
      (omega (arith, length-append base ((left, suc (suc hung)) ∷ []), long)) (omega arith)))),
)
  where
    here : sides_at (base ++ (left, suc (suc hung)) ∷ new_sides (suc hung) (suc more) (suc (suc hung)) right) (hung + 1) ≡ (left, suc (suc hung))
    here = number_at base (left, suc (suc hung)) (new_sides (suc hung) (suc more) (suc (suc hung)) right) hung long

    next : suc hung + 1 ≡ hung + 1 + 1
    next = omega arith

    same : (base ++ (left, suc (suc hung)) ∷ []) ++ new_sides (suc hung) (suc more) (suc (suc hung)) right
        ≡ base ++ (left, suc (suc hung)) ∷ new_sides (suc hung) (suc more) (suc (suc hung)) right
    same = append_assoc base ((left, suc (suc hung)) ∷ []) (new_sides (suc hung) (suc more) (suc (suc hung)) right)

-- ---- the row around the valley

-- what stands before the valley and behind it runs from wall to wall
pub record IsCut (sides : List (ℕ × ℕ)) (o : Outline) : Type 0 where
  pub before : Runs sides 0 (concat (take (valley_place o.signs) o.segments)) (left_end sides (valley_of o))
  pub behind : Runs sides (right_end sides (valley_of o)) (concat (drop (valley_place o.signs + 1) o.segments)) 1
  pub at_left : (left_end sides (valley_of o) ≡ 0) ↔ (valley_place o.signs ≡ 0)
  pub at_right : (right_end sides (valley_of o) ≡ 1) ↔ (valley_place o.signs ≡ length o.signs)

-- all squares stand in a row, or there are none
abbrev pub IsRow : List (ℕ × ℕ) → Outline → Type 0
IsRow sides o = (o ≡ start) ⊎ (AllFilled o.segments × Runs sides 0 (concat o.segments) 1)

filled_at : (segments : List (List ℕ)) (p : ℕ) → AllFilled segments → p < length segments → 0 < length (slice_index_or segments p [])
filled_at [] p all h = absurd (omega arith)
filled_at (s ∷ segments) zero all h = all.0
filled_at (s ∷ segments) (suc p) all h = filled_at segments p all.1 (omega arith)

front_some : (segments : List (List ℕ)) (p : ℕ) → AllFilled segments → 0 < p → p < length segments → 0 < length (concat (take p segments))
front_some segments zero all some h = absurd (omega arith)
front_some [] (suc p) all some h = absurd (omega arith)
front_some (s ∷ segments) (suc p) all some h = omega (arith, all.0, length-append s (concat (take p segments)))

back_some : (segments : List (List ℕ)) (p : ℕ) → AllFilled segments → p < length segments → 0 < length (concat (drop p segments))
back_some [] p all h = absurd (omega arith)
back_some (s ∷ segments) zero all h = omega (arith, all.0, length-append s (concat segments))
back_some (s ∷ segments) (suc p) all h = back_some segments p all.1 (omega arith)

module _ (sides : List (ℕ × ℕ)) (all : AreLineNumbers sides) where
  run_line : (a : ℕ) (row : List ℕ) (b : ℕ) → Runs sides a row b → 0 < length row → IsLine 1 sides b
  run_line a row b r some = subst (IsLine 1 sides) (run_right sides a row b r some) (right_line sides all row)

  line_run : (a : ℕ) (row : List ℕ) (b : ℕ) → Runs sides a row b → 0 < length row → IsLine 0 sides a
  line_run a row b r some = subst (IsLine 0 sides) (run_left sides a row b r some) (left_line sides all row)

  start_cut : IsCut sides start
  start_cut = record { before = refl; behind = refl; at_left = ((λ e. refl), (λ e. refl)); at_right = ((λ e. refl), (λ e. refl)) }

  module _ (o : Outline) (shaped : Shaped o) (filled : AllFilled o.segments) (row : Runs sides 0 (concat o.segments) 1) where
    abbrev p : ℕ
    p = valley_place o.signs

    within : valley_place o.signs < length o.segments
    within = omega (arith, place_within o.signs, shaped.many)

    parts : (c : ℕ) × Runs sides 0 (concat (take (valley_place o.signs) o.segments)) c
        × Runs sides c (valley_of o ++ concat (drop (suc (valley_place o.signs)) o.segments)) 1
    parts = runs_split sides 0 (concat (take (valley_place o.signs) o.segments)) (valley_of o ++ concat (drop (suc (valley_place o.signs)) o.segments)) 1
        (subst (λ (xs : List ℕ). Runs sides 0 xs 1) (concat-cut_at (valley_place o.signs) o.segments) row)

    ends : (d : ℕ) × Runs sides parts.0 (valley_of o) d × Runs sides d (concat (drop (suc (valley_place o.signs)) o.segments)) 1
    ends = runs_split sides parts.0 (valley_of o) (concat (drop (suc (valley_place o.signs)) o.segments)) 1 parts.2

    some : 0 < length (valley_of o)
    some = filled_at o.segments (valley_place o.signs) filled within

    left_is : left_end sides (valley_of o) ≡ parts.0
    left_is = run_left sides parts.0 (valley_of o) ends.0 ends.1 some

    right_is : right_end sides (valley_of o) ≡ ends.0
    right_is = run_right sides parts.0 (valley_of o) ends.0 ends.1 some

    next : suc (valley_place o.signs) ≡ valley_place o.signs + 1
    next = omega arith

    before : Runs sides 0 (concat (take (valley_place o.signs) o.segments)) (left_end sides (valley_of o))
    before = subst (λ (c : ℕ). Runs sides 0 (concat (take (valley_place o.signs) o.segments)) c) (sym left_is) parts.1

    behind : Runs sides (right_end sides (valley_of o)) (concat (drop (valley_place o.signs + 1) o.segments)) 1
    behind = subst (λ (c : ℕ). Runs sides c (concat (drop (valley_place o.signs + 1) o.segments)) 1) (sym right_is)
        (subst (λ (k : ℕ). Runs sides ends.0 (concat (drop k o.segments)) 1) next ends.2)

    two : (n : ℕ) → (n ≡ 0) ⊎ (0 < n)
    two n = grind arith

    less : (m n : ℕ) → m ≤ n → (m ≡ n) ⊎ (m < n)
    less m n h = grind arith

    left_wall : left_end sides (valley_of o) ≡ 0 → (valley_place o.signs ≡ 0) ⊎ (0 < valley_place o.signs) → valley_place o.signs ≡ 0
    left_wall e (inl z) = z
    left_wall e (inr h) = absurd (not_zero sides (left_end sides (valley_of o))
        (run_line 0 (concat (take (valley_place o.signs) o.segments)) (left_end sides (valley_of o)) before
        (front_some o.segments (valley_place o.signs) filled h within)) e)

    right_wall : right_end sides (valley_of o) ≡ 1 → (valley_place o.signs ≡ length o.signs) ⊎ (valley_place o.signs < length o.signs)
        → valley_place o.signs ≡ length o.signs
    right_wall e (inl z) = z
    right_wall e (inr h) = absurd (not_one sides (right_end sides (valley_of o))
        (line_run (right_end sides (valley_of o)) (concat (drop (valley_place o.signs + 1) o.segments)) 1 behind
        (back_some o.segments (valley_place o.signs + 1) filled (omega (arith, h, shaped.many)))) e)

    filled_cut : IsCut sides o
    filled_cut = record {
      before = before;
      behind = behind;
      at_left = (
        λ e. left_wall e (two (valley_place o.signs)),
        λ e. sym (subst (λ (xs : List ℕ). Runs sides 0 xs (left_end sides (valley_of o))) (concat-take_none o.segments (valley_place o.signs) e) before),
      );
      at_right = (
        λ e. right_wall e (less (valley_place o.signs) (length o.signs) (place_within o.signs)),
        λ e. subst (λ (xs : List ℕ). Runs sides (right_end sides (valley_of o)) xs 1)
            (concat-drop_all o.segments (valley_place o.signs + 1) (omega (arith, e, shaped.many))) behind,
      );
    }

  -- each shaped outline is cut at its leftmost valley, where its squares stand in a row or there are none
  pub cut : (o : Outline) → Shaped o → IsRow sides o → IsCut sides o
  cut o shaped (inl e) = subst (IsCut sides) (sym e) start_cut
  cut o shaped (inr r) = filled_cut o shaped r.0 r.1

-- ---- a move

-- all squares of the open segments after a move, in a row
pub row_is : (o : Outline) (m : Move) → concat (after_move o m).segments ≡ concat (take (valley_place o.signs) o.segments) ++ (new_squares o m
    ++ concat (drop (valley_place o.signs + 1) o.segments))
row_is o m = concat-joined (signs_apart o m) (segments_apart o m)
    ∙ concat-append (take (valley_place o.signs) o.segments ++ map (λ q. q ∷ []) (new_squares o m)) (drop (valley_place o.signs + 1) o.segments)
    ∙ ap (λ (xs : List ℕ). xs ++ concat (drop (valley_place o.signs + 1) o.segments))
    (concat-append (take (valley_place o.signs) o.segments) (map (λ q. q ∷ []) (new_squares o m))
    ∙ ap (λ (xs : List ℕ). concat (take (valley_place o.signs) o.segments) ++ xs) (concat-singletons (new_squares o m)))
    ∙ append_assoc (concat (take (valley_place o.signs) o.segments)) (new_squares o m) (concat (drop (valley_place o.signs + 1) o.segments))

module _ (o : Outline) (sides : List (ℕ × ℕ)) (m : Move) (legal : IsLegalMove o m) (shaped : Shaped o) (numbered : Numbered o)
    (long : length sides ≡ length o.hung) (c : IsCut sides o) where
  abbrev news : List (ℕ × ℕ)
  news = new_sides (length o.hung) m.count (left_end sides (valley_of o)) (right_end sides (valley_of o))

  low : (k x : ℕ) → slice_get (concat o.segments) k ≡ Some x → x - 1 < length sides
  low k x e = let h = hung_number o numbered x (omega (
    arith,
    times-positive_of_slice_get (concat o.segments) k x e,
    times-concat x o.segments,
    times_in-append x o.closed o.segments,
  )) in omega (arith, h.0, h.1, long)

  in_front : (xs ys : List ℕ) → ((k x : ℕ) → slice_get (xs ++ ys) k ≡ Some x → x - 1 < length sides) → (k x : ℕ) → slice_get xs k ≡ Some x
      → x - 1 < length sides
  in_front [] ys f k x e = absurd (cc)
  in_front (y ∷ xs) ys f zero x e = f 0 x e
  in_front (y ∷ xs) ys f (suc k) x e = in_front xs ys (λ j z g. f (suc j) z g) k x e

  in_back : (xs ys : List ℕ) → ((k x : ℕ) → slice_get (xs ++ ys) k ≡ Some x → x - 1 < length sides) → (k x : ℕ) → slice_get ys k ≡ Some x → x - 1 < length sides
  in_back [] ys f k x e = f k x e
  in_back (y ∷ xs) ys f k x e = in_back xs ys (λ j z g. f (suc j) z g) k x e

  whole : (k x : ℕ) → slice_get (concat (take (valley_place o.signs) o.segments) ++ (valley_of o ++ concat (drop (suc
      (valley_place o.signs)) o.segments))) k ≡ Some x
      → x - 1 < length sides
  whole k x e = low k x (ap (λ (xs : List ℕ). slice_get xs k) (concat-cut_at (valley_place o.signs) o.segments) ∙ e)

  next_place : suc (valley_place o.signs) ≡ valley_place o.signs + 1
  next_place = omega arith

  front_low : (k x : ℕ) → slice_get (concat (take (valley_place o.signs) o.segments)) k ≡ Some x → x - 1 < length sides
  front_low = in_front (concat (take (valley_place o.signs) o.segments)) (valley_of o ++ concat (drop (suc (valley_place o.signs)) o.segments)) whole

  back_low : (k x : ℕ) → slice_get (concat (drop (valley_place o.signs + 1) o.segments)) k ≡ Some x → x - 1 < length sides
  back_low k x e = in_back (valley_of o) (concat (drop (suc (valley_place o.signs)) o.segments))
      (in_back (concat (take (valley_place o.signs) o.segments)) (valley_of o ++ concat (drop (suc (valley_place o.signs)) o.segments)) whole)
      k x (ap (λ (j : ℕ). slice_get (concat (drop j o.segments)) k) next_place ∙ e)

  -- the squares stand in a row after it
  pub row_after : IsRow (sides_after o sides m) (after_move o m)
  row_after = inr (
    filled_move o m legal shaped,
    subst (λ (xs : List ℕ). Runs (sides_after o sides m) 0 xs 1) (sym (row_is o m))
        (runs_join (sides_after o sides m) 0 (concat (take (valley_place o.signs) o.segments)) (left_end sides (valley_of o))
        (new_squares o m ++ concat (drop (valley_place o.signs + 1) o.segments)) 1
        (runs_more sides news 0 (concat (take (valley_place o.signs) o.segments)) (left_end sides (valley_of o)) front_low c.before)
        (runs_join (sides_after o sides m) (left_end sides (valley_of o)) (new_squares o m) (right_end sides (valley_of o))
        (concat (drop (valley_place o.signs + 1) o.segments)) 1
        (new_runs sides (length o.hung) m.count (left_end sides (valley_of o)) (right_end sides (valley_of o)) long legal.some)
        (runs_more sides news (right_end sides (valley_of o)) (concat (drop (valley_place o.signs + 1) o.segments)) 1 back_low c.behind))),
  )

-- ---- counts

-- of new sides only the first can begin at the left wall, and only the last end at the right wall
new_walls : (hung count left right : ℕ) → 0 < count
    → (count_by (λ (s : ℕ × ℕ). nat_eq s.0 0) (new_sides hung count left right) ≡ cond (nat_eq left 0) 1 0)
    × (count_by (λ (s : ℕ × ℕ). nat_eq s.1 1) (new_sides hung count left right) ≡ cond (nat_eq right 1) 1 0)
new_walls hung zero left right some = absurd (omega arith)
new_walls hung (suc zero) left right some = (
  sum_by-cons (λ (s : ℕ × ℕ). cond {A = ℕ} (nat_eq s.0 0) 1 0) (left, right) [] ∙ omega arith,
  sum_by-cons (λ (s : ℕ × ℕ). cond {A = ℕ} (nat_eq s.1 1) 1 0) (left, right) [] ∙ omega arith,
)
new_walls hung (suc (suc more)) left right some = let rest = new_walls (suc hung) (suc more) (suc (suc hung)) right (omega arith) in (
  omega (
    arith,
    sum_by-cons (λ (s : ℕ × ℕ). cond {A = ℕ} (nat_eq s.0 0) 1 0) (left, suc (suc hung)) (new_sides (suc hung) (suc more) (suc (suc hung)) right),
    rest.0,
    none 0 (omega arith),
  ),
  omega (
    arith,
    sum_by-cons (λ (s : ℕ × ℕ). cond {A = ℕ} (nat_eq s.1 1) 1 0) (left, suc (suc hung)) (new_sides (suc hung) (suc more) (suc (suc hung)) right),
    rest.1,
    none 1 (omega arith),
  ),
)
  where
    none : (wall : ℕ) → wall < 2 → ◌≡◌ {A = ℕ} (cond (nat_eq (suc (suc hung)) wall) 1 0) 0
    none wall low = grind (arith, nat_tests)

module _ (o : Outline) (sides : List (ℕ × ℕ)) (m : Move) (some : 0 < m.count) (c : IsCut sides o) where
  left_more : count_by (λ s. nat_eq s.0 0) (sides_after o sides m) ≡ count_by (λ s. nat_eq s.0 0) sides + cond (has_left_wall o) 1 0
  left_more = sum_by-append (λ (s : ℕ × ℕ). cond {A = ℕ} (nat_eq s.0 0) 1 0) sides
      (new_sides (length o.hung) m.count (left_end sides (valley_of o)) (right_end sides (valley_of o)))
      ∙ ap (λ (n : ℕ). count_by (λ s. nat_eq s.0 0) sides + n)
      ((new_walls (length o.hung) m.count (left_end sides (valley_of o)) (right_end sides (valley_of o)) some).0
      ∙ ap (λ (b : Bool). cond {A = ℕ} b 1 0) (nat_eq-same_of_iff (left_end sides (valley_of o)) (valley_place o.signs) 0 c.at_left))

  right_more : count_by (λ s. nat_eq s.1 1) (sides_after o sides m) ≡ count_by (λ s. nat_eq s.1 1) sides + cond (has_right_wall o) 1 0
  right_more = sum_by-append (λ (s : ℕ × ℕ). cond {A = ℕ} (nat_eq s.1 1) 1 0) sides
      (new_sides (length o.hung) m.count (left_end sides (valley_of o)) (right_end sides (valley_of o)))
      ∙ ap (λ (n : ℕ). count_by (λ s. nat_eq s.1 1) sides + n)
      ((new_walls (length o.hung) m.count (left_end sides (valley_of o)) (right_end sides (valley_of o)) some).1
      ∙ ap (λ (b : Bool). cond {A = ℕ} b 1 0) wall)
    where
      cases : (right_end sides (valley_of o) ≡ 1) ⊎ (right_end sides (valley_of o) ≡ 1 → ⊥) → nat_eq (right_end sides (valley_of o)) 1 ≡ has_right_wall o
      cases (inl e) = let f = (c.at_right).0 e in both e f
        where
          both : right_end sides (valley_of o) ≡ 1 → valley_place o.signs ≡ length o.signs
              → nat_eq (right_end sides (valley_of o)) 1 ≡ nat_eq (valley_place o.signs) (length o.signs)
          both e f = grind (arith, nat_tests)
      cases (inr e) = none e (λ f. e ((c.at_right).1 f))
        where
          none : (right_end sides (valley_of o) ≡ 1 → ⊥) → (valley_place o.signs ≡ length o.signs → ⊥)
              → nat_eq (right_end sides (valley_of o)) 1 ≡ nat_eq (valley_place o.signs) (length o.signs)
          none e f = grind (arith, nat_tests)

      wall : nat_eq (right_end sides (valley_of o)) 1 ≡ has_right_wall o
      wall = cases (cases_eq (right_end sides (valley_of o)) 1)

-- the squares at the walls are counted along moves
walls_along : (o : Outline) (sides : List (ℕ × ℕ)) (w : Word) → AreLegalFrom o w → Shaped o → Numbered o → length sides ≡ length o.hung → AreLineNumbers sides
    → IsRow sides o
    → (count_by (λ s. nat_eq s.0 0) (sides_along o sides w) ≡ count_by (λ s. nat_eq s.0 0) sides + left_moves_from o w)
    × (count_by (λ s. nat_eq s.1 1) (sides_along o sides w) ≡ count_by (λ s. nat_eq s.1 1) sides + right_moves_from o w)
walls_along o sides [] legal shaped numbered long all row = (omega arith, omega arith)
walls_along o sides (m ∷ w) legal shaped numbered long all row =
    let c = cut sides all o shaped row in
    let r = walls_along (after_move o m) (sides_after o sides m) w legal.1 (shaped_move o m legal.0 shaped) (numbered_move o m numbered)
    (after_long o sides m long) (lines_after o sides m long all) (row_after o sides m legal.0 shaped numbered long c) in
    (omega (arith, r.0, left_more o sides m (legal.0).some c), omega (arith, r.1, right_more o sides m (legal.0).some c))

-- the squares stand in a row after moves
pub rows_along : (o : Outline) (sides : List (ℕ × ℕ)) (w : Word) → AreLegalFrom o w → Shaped o → Numbered o → length sides ≡ length o.hung
    → AreLineNumbers sides
    → IsRow sides o → IsRow (sides_along o sides w) (after_moves o w)
rows_along o sides [] legal shaped numbered long all row = row
rows_along o sides (m ∷ w) legal shaped numbered long all row = rows_along (after_move o m) (sides_after o sides m) w legal.1 (shaped_move o m legal.0 shaped)
    (numbered_move o m numbered) (after_long o sides m long) (lines_after o sides m long all)
    (row_after o sides m legal.0 shaped numbered long (cut sides all o shaped row))

-- neighbours in a row share a line, and the last stands at its end
pub run_next : (sides : List (ℕ × ℕ)) (a : ℕ) (row : List ℕ) (b : ℕ) → Runs sides a row b → (k x y : ℕ) → slice_get row k ≡ Some x
    → slice_get row (suc k) ≡ Some y
    → (sides_at sides y).0 ≡ (sides_at sides x).1
run_next sides a [] b r k x y e f = absurd (cc)
run_next sides a (z ∷ []) b r k x y e f = absurd (cc)
run_next sides a (z ∷ u ∷ row) b r (suc k) x y e f = run_next sides (sides_at sides z).1 (u ∷ row) b r.1 k x y e f
run_next sides a (z ∷ u ∷ row) b r zero x y e f =
    ap (λ (n : ℕ). (sides_at sides n).0) (sym (same_Some u y f)) ∙ (r.1).0 ∙ ap (λ (n : ℕ). (sides_at sides n).1) (same_Some z x e)

-- the last square of a row ends at the line at which the row ends
pub run_end : (sides : List (ℕ × ℕ)) (a : ℕ) (row : List ℕ) (b : ℕ) → Runs sides a row b → (k x : ℕ) → slice_get row k ≡ Some x → suc k ≡ length row
    → (sides_at sides x).1 ≡ b
run_end sides a [] b r k x e f = absurd (omega (arith, f))
run_end sides a (z ∷ row) b r (suc k) x e f = run_end sides (sides_at sides z).1 row b r.1 k x e (omega (arith, f))
run_end sides a (z ∷ []) b r zero x e f = ap (λ (n : ℕ). (sides_at sides n).1) (sym (same_Some z x e)) ∙ r.1
run_end sides a (z ∷ u ∷ row) b r zero x e f = absurd (omega (arith, f))

-- the law
pub wall_moves_hang_one : WallMovesHangOne
wall_moves_hang_one w legal = record { left = both.0; right = both.1 }
  where
    none : (k : ℕ) (p : ℕ × ℕ) → slice_get [] k ≡ Some p → ⊥
    none k p e = cc

    both : (count_by (λ s. nat_eq s.0 0) (sides_along start [] w) ≡ left_moves_from start w)
        × (count_by (λ s. nat_eq s.1 1) (sides_along start [] w) ≡ right_moves_from start w)
    both = let r = walls_along start [] w legal shaped_start numbered_start refl (λ k p e. absurd (none k p e)) (inl refl) in (
      r.0 ∙ omega arith,
      r.1
          ∙ omega arith,
    )
