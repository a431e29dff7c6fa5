-- The marks that the segments around a next move share, of those that a board has before it.
use Rattle.std.proofs.Common.{Bool, List, [], ap, append_assoc, arith, cond, drop, false, inl, inr, length, map, refl}
use Rattle.std.proofs.Common.{slice_index_or, subst, suc, sym, take, true, zero, ℕ, ◌++◌, ◌+◌, ◌-◌, ◌<◌, ◌∙◌, ◌∷◌, ◌≡◌, ◌≤◌, ◌⊎◌}
use Rattle.std.proofs.lemmas.Bool.{eqb-true, leb-true}
use Rattle.std.proofs.lemmas.List.{drop_all, drop_at, drop_more, length-append, length-take}
use Rattle.bk_laws.proofs.ListPlaces.{get_back, get_front}
use Rattle.bk_laws.proofs.NumberTests.{lt-from_le_and_nat_eq}
use Rattle.bk_word.specs.Outline.{has_right_wall, start, valley_of, valley_place}
use Rattle.bk_word.specs.Play.{IsLegal, joined, new_squares, outline_of, segments_apart, signs_apart}
use Rattle.bk_word.specs.Word.{Move, Word}
use Rattle.bk_word.specs.declared.Sign.TheVariants.{Above, Even}
use Rattle.bk_word.proofs.PlayLaws.{after-snoc, legal_front}
use Rattle.bk_word.proofs.PlayLists.{place_within}
use Rattle.bk_catalogue.proofs.HangingBounds.LineMoves.{first_new, keeps, lines-append, lines_long}
use Rattle.bk_catalogue.specs.VerticalCut.{begins_on_line, edges_on_lines, lines_after, next_on_line, on_line}
use Rattle.bk_layout.specs.NormalCuts.{touched_or_wide}
use Rattle.bk_layout.specs.WordNumbers.{first_count}
use Rattle.bk_free_search.proofs.Asks.CountedSigns.{legal_move, move_long, new_long, one_at, segments_long, shape, sign_at, signs_long, size_at, sizes_long}
use Rattle.bk_free_search.proofs.Asks.MarksApart.{both_wide, kept_shared}
use Rattle.bk_free_search.proofs.Asks.MarksAround.{begins_marked, marks_before, marks_behind, marks_more}
use Rattle.bk_free_search.specs.Apart.{behind_marks, behind_signs, behind_sizes, joined_marks, marks_apart, marks_of_word, shared, sizes_apart, wide_first}

-- the first move hangs as many squares from the top before and after another one
pub top_kept : (front : Word) (m : Move) → 0 < length (outline_of front).signs → first_count (front ++ m ∷ []) ≡ first_count front
top_kept [] m some = absurd (omega (arith, some))
top_kept (k ∷ front) m some = refl

module _ (front : Word) (m : Move) (legal : IsLegal (front ++ m ∷ [])) where
  abbrev news : List (List ℕ)
  news = map (λ q. q ∷ []) (new_squares (outline_of front) m)

  abbrev back : List (List ℕ)
  back = drop (valley_place (outline_of front).signs + 1) (outline_of front).segments

  long : length (edges_on_lines front) ≡ length (outline_of front).hung
  long = lines_long start [] front (legal_front start front (m ∷ []) legal) refl

  kept : (q : ℕ) → on_line (edges_on_lines front) q ≡ true → on_line (lines_after (outline_of front) (edges_on_lines front) m) q ≡ true
  kept = keeps (outline_of front) (edges_on_lines front) m (legal_move front m legal) (shape front m legal) long

  first : begins_on_line (edges_on_lines front) (valley_of (outline_of front)) ≡ true
      → next_on_line (lines_after (outline_of front) (edges_on_lines front) m) (news ++ back) ≡ true
  first = first_new (outline_of front) (edges_on_lines front) m (legal_move front m legal) (shape front m legal) long m.count (legal_move front m legal).some

  -- the marks after it
  marks_are : marks_apart front m ≡ shared (signs_apart (outline_of front) m) (touched_or_wide (first_count (front ++ m ∷ []))
      (lines_after (outline_of front) (edges_on_lines front) m) (joined (signs_apart (outline_of front) m) (segments_apart (outline_of front) m)))
  marks_are = λ i. shared (signs_apart (outline_of front) m) (touched_or_wide (first_count (front ++ m ∷ []))
      (lines-append start [] front (m ∷ []) i) (after-snoc start front m i).segments)

  -- each segment shares its own
  share : (i : ℕ) → slice_index_or (touched_or_wide (first_count (front ++ m ∷ [])) (lines_after (outline_of front) (edges_on_lines front) m)
      (segments_apart (outline_of front) m)) i false ≡ true → slice_index_or (marks_apart front m) i false ≡ true
  share i e = ap (λ l. slice_index_or l i false) marks_are
      ∙ kept_shared (first_count (front ++ m ∷ [])) (lines_after (outline_of front) (edges_on_lines front) m) (signs_apart (outline_of front) m)
      (segments_apart (outline_of front) m) i e

  -- a mark of a segment before the valley is shared there
  pub mark_before_valley : (i : ℕ) → i < valley_place (outline_of front).signs → slice_index_or (marks_of_word front) i false ≡ true
      → slice_index_or (marks_apart front m) i false ≡ true
  mark_before_valley i low e = share i (subst (λ (top : ℕ). slice_index_or (touched_or_wide top (lines_after (outline_of front) (edges_on_lines front) m)
      (segments_apart (outline_of front) m)) i false ≡ true) (sym (top_kept front m (omega (arith, low, place_within (outline_of front).signs))))
      (marks_before (first_count front) (edges_on_lines front) (lines_after (outline_of front) (edges_on_lines front) m) kept
      (valley_place (outline_of front).signs) (outline_of front).segments news back i low first e))

  -- the first new square, where a line from the top stands at the left of the valley
  pub mark_of_first : begins_on_line (edges_on_lines front) (valley_of (outline_of front)) ≡ true
      → slice_index_or (marks_apart front m) (valley_place (outline_of front).signs) false ≡ true
  mark_of_first e = share (valley_place (outline_of front).signs)
      ((λ i. slice_index_or (touched_or_wide (first_count (front ++ m ∷ [])) (lines_after (outline_of front) (edges_on_lines front) m) (apart i)) (at i) false)
      ∙ marks_behind (first_count (front ++ m ∷ [])) (lines_after (outline_of front) (edges_on_lines front) m)
      (take (valley_place (outline_of front).signs) (outline_of front).segments) (news ++ back) 0
      ∙ begins_marked (first_count (front ++ m ∷ [])) (lines_after (outline_of front) (edges_on_lines front) m) (news ++ back) (first e))
    where
      apart : segments_apart (outline_of front) m ≡ take (valley_place (outline_of front).signs) (outline_of front).segments ++ (news ++ back)
      apart = append_assoc (take (valley_place (outline_of front).signs) (outline_of front).segments) news back

      at : valley_place (outline_of front).signs ≡ length (take (valley_place (outline_of front).signs) (outline_of front).segments) + 0
      at = omega (
        arith,
        place_within (outline_of front).signs,
        (shape front m legal).many,
        length-take (valley_place (outline_of front).signs) (outline_of front).segments,
      )

  -- behind the valley, where a segment stands there
  pub end_at : valley_place (outline_of front).signs < length (outline_of front).signs
      → valley_place (outline_of front).signs - 1 + length m.signs ≡ valley_place (outline_of front).signs + m.count
  end_at h = omega (arith, h, move_long front m legal, (legal_move front m legal).some)

  mark_behind : (t : ℕ) → valley_place (outline_of front).signs < length (outline_of front).signs
      → slice_index_or (touched_or_wide (first_count front) (edges_on_lines front) back) t false ≡ true
      → slice_index_or (marks_apart front m) (valley_place (outline_of front).signs - 1 + length m.signs + t) false ≡ true
  mark_behind t h e = share (valley_place (outline_of front).signs - 1 + length m.signs + t)
      (ap (λ i. slice_index_or (touched_or_wide (first_count (front ++ m ∷ [])) (lines_after (outline_of front) (edges_on_lines front) m)
      (segments_apart (outline_of front) m)) i false) at
      ∙ marks_behind (first_count (front ++ m ∷ [])) (lines_after (outline_of front) (edges_on_lines front) m)
      (take (valley_place (outline_of front).signs) (outline_of front).segments ++ news) back t
      ∙ ap (λ top. slice_index_or (touched_or_wide top (lines_after (outline_of front) (edges_on_lines front) m) back) t false)
      (top_kept front m (omega (arith, h)))
      ∙ marks_more (first_count front) (edges_on_lines front) (lines_after (outline_of front) (edges_on_lines front) m) kept back t e)
    where
      at : valley_place (outline_of front).signs - 1 + length m.signs + t
          ≡ length (take (valley_place (outline_of front).signs) (outline_of front).segments ++ news) + t
      at = omega (arith, end_at h, new_long front m legal)

  -- the segment before the valley, where with a square more it is wide
  pub mark_of_left : 0 < valley_place (outline_of front).signs → slice_index_or m.signs 0 Above ≡ Even
      → first_count front ≤ length (slice_index_or (outline_of front).segments (valley_place (outline_of front).signs - 1) []) + 1
      → slice_index_or (marks_apart front m) (valley_place (outline_of front).signs - 1) false ≡ true
  mark_of_left h even wide = ap (λ l. slice_index_or l (valley_place (outline_of front).signs - 1) false) marks_are
      ∙ (both_wide (first_count (front ++ m ∷ [])) (lines_after (outline_of front) (edges_on_lines front) m) (signs_apart (outline_of front) m)
      (segments_apart (outline_of front) m) (valley_place (outline_of front).signs - 1)
      (ap (λ i. slice_index_or (signs_apart (outline_of front) m) i Above) zeroth
      ∙ sign_at front m legal 0 (omega (arith, h, move_long front m legal, (legal_move front m legal).some)) ∙ even)
      (omega (arith, h, segments_long front m legal, signs_long front m legal, move_long front m legal, (legal_move front m legal).some))
      (omega (
        arith,
        wide,
        top_kept front m (omega (arith, h, place_within (outline_of front).signs)),
        ap (λ (s : List ℕ). length s) before,
        ap (λ i. length (slice_index_or (segments_apart (outline_of front) m) i [])) next,
        one_at front m legal 0 (legal_move front m legal).some,
      ))).0
    where
      zeroth : valley_place (outline_of front).signs - 1 ≡ valley_place (outline_of front).signs - 1 + 0
      zeroth = omega arith

      next : suc (valley_place (outline_of front).signs - 1) ≡ valley_place (outline_of front).signs + 0
      next = omega (arith, h)

      taken : (n : ℕ) (xs : List (List ℕ)) (i : ℕ) → i < n → slice_index_or (take n xs) i [] ≡ slice_index_or xs i []
      taken zero xs i h = absurd (omega (arith, h))
      taken (suc n) [] i h = refl
      taken (suc n) (x ∷ xs) zero h = refl
      taken (suc n) (x ∷ xs) (suc i) h = taken n xs i (omega (arith, h))

      before : slice_index_or (segments_apart (outline_of front) m) (valley_place (outline_of front).signs - 1) []
          ≡ slice_index_or (outline_of front).segments (valley_place (outline_of front).signs - 1) []
      before = get_front (take (valley_place (outline_of front).signs) (outline_of front).segments ++ news) back
          (valley_place (outline_of front).signs - 1) [] (omega (arith, h, new_long front m legal))
          ∙ get_front (take (valley_place (outline_of front).signs) (outline_of front).segments) news (valley_place (outline_of front).signs - 1) []
          (omega (
            arith,
            h,
            place_within (outline_of front).signs,
            (shape front m legal).many,
            length-take (valley_place (outline_of front).signs) (outline_of front).segments,
          ))
          ∙ taken (valley_place (outline_of front).signs) (outline_of front).segments (valley_place (outline_of front).signs - 1) (omega (arith, h))

  -- ---- what stands behind

  -- behind the signs of a next move stand those behind the valley
  pub signs_behind : drop (valley_place (outline_of front).signs - 1 + length m.signs) (signs_apart (outline_of front) m) ≡ behind_signs (outline_of front)
  signs_behind = drop_at (take (valley_place (outline_of front).signs - 1) (outline_of front).signs ++ m.signs)
      (drop (valley_place (outline_of front).signs + 1) (outline_of front).signs) (valley_place (outline_of front).signs - 1 + length m.signs)
      (omega (
        arith,
        place_within (outline_of front).signs,
        length-append (take (valley_place (outline_of front).signs - 1) (outline_of front).signs) m.signs,
        length-take (valley_place (outline_of front).signs - 1) (outline_of front).signs,
      ))

  segments_behind : valley_place (outline_of front).signs < length (outline_of front).signs
      → drop (valley_place (outline_of front).signs - 1 + length m.signs) (segments_apart (outline_of front) m) ≡ back
  segments_behind h = drop_at (take (valley_place (outline_of front).signs) (outline_of front).segments ++ news) back
      (valley_place (outline_of front).signs - 1 + length m.signs) (omega (arith, end_at h, new_long front m legal))

  -- behind the signs of a next move stand the sizes behind the valley
  pub sizes_behind : drop (valley_place (outline_of front).signs - 1 + length m.signs) (sizes_apart front m) ≡ behind_sizes (outline_of front)
  sizes_behind = cases (has_right_wall (outline_of front)) refl
    where
      cases : (b : Bool) → has_right_wall (outline_of front) ≡ b
          → drop (valley_place (outline_of front).signs - 1 + length m.signs) (sizes_apart front m) ≡ behind_sizes (outline_of front)
      cases false e = drop_map (valley_place (outline_of front).signs - 1 + length m.signs) (segments_apart (outline_of front) m)
          ∙ ap (map (λ (s : List ℕ). length s)) (segments_behind (lt-from_le_and_nat_eq (valley_place (outline_of front).signs)
          (length (outline_of front).signs)
          (place_within (outline_of front).signs) e))
          ∙ sym (ap (λ (b : Bool). cond b (1 ∷ []) (map (λ (s : List ℕ). length s) back)) e)
        where
          drop_map : (n : ℕ) (xs : List (List ℕ)) → drop n (map (λ (s : List ℕ). length s) xs) ≡ map (λ (s : List ℕ). length s) (drop n xs)
          drop_map zero xs = refl
          drop_map (suc n) [] = refl
          drop_map (suc n) (x ∷ xs) = drop_map n xs
      cases true e = drop_more (sizes_apart front m) (valley_place (outline_of front).signs - 1 + length m.signs) 0
          (omega (arith, sizes_long front m legal, signs_long front m legal))
          ∙ (λ i. one i ∷ none i) ∙ sym (ap (λ (b : Bool). cond b (1 ∷ []) (map (λ (s : List ℕ). length s) back)) e)
        where
          wall : valley_place (outline_of front).signs ≡ length (outline_of front).signs
          wall = eqb-true (valley_place (outline_of front).signs) (length (outline_of front).signs) e

          last : valley_place (outline_of front).signs - 1 + length m.signs ≡ valley_place (outline_of front).signs + (m.count - 1)
          last = omega (arith, wall, move_long front m legal, (legal_move front m legal).some)

          one : slice_index_or (sizes_apart front m) (valley_place (outline_of front).signs - 1 + length m.signs) 0 ≡ 1
          one = ap (λ i. slice_index_or (sizes_apart front m) i 0) last
              ∙ size_at front m legal (m.count - 1) (omega (arith, (legal_move front m legal).some))

          none : drop (valley_place (outline_of front).signs - 1 + length m.signs + 1) (sizes_apart front m) ≡ []
          none = drop_all (valley_place (outline_of front).signs - 1 + length m.signs + 1) (sizes_apart front m)
              (omega (arith, wall, sizes_long front m legal, signs_long front m legal))

  -- marks behind the valley are shared
  pub marks_behind_shared : (t : ℕ) → slice_index_or (behind_marks front) t false ≡ true
      → slice_index_or (marks_apart front m) (valley_place (outline_of front).signs - 1 + length m.signs + t) false ≡ true
  marks_behind_shared t e = cases (has_right_wall (outline_of front)) refl
    where
      none : (t : ℕ) → slice_index_or (false ∷ []) t false ≡ true → ⊥
      none zero e = absurd (cc)
      none (suc t) e = absurd (cc)

      cases : (b : Bool) → has_right_wall (outline_of front) ≡ b
          → slice_index_or (marks_apart front m) (valley_place (outline_of front).signs - 1 + length m.signs + t) false ≡ true
      cases true w = absurd (none t (sym (ap (λ (b : Bool). slice_index_or (cond b (false ∷ []) (touched_or_wide (first_count front)
          (edges_on_lines front) back))
          t false) w) ∙ e))
      cases false w = mark_behind t (lt-from_le_and_nat_eq (valley_place (outline_of front).signs) (length (outline_of front).signs)
          (place_within (outline_of front).signs) w)
          (sym (ap (λ (b : Bool). slice_index_or (cond b (false ∷ []) (touched_or_wide (first_count front) (edges_on_lines front) back)) t false) w) ∙ e)

  -- with a square more the first of them may be wide
  wide_at : (top : ℕ) (segments : List (List ℕ)) (marks : List Bool) (t : ℕ) → slice_index_or (wide_first top segments marks) t false ≡ true
      → (slice_index_or marks t false ≡ true) ⊎ ((t ≡ 0) × (top ≤ length (slice_index_or segments 0 []) + 1) × (0 < length segments))
  wide_at top [] marks t e = inl e
  wide_at top (s ∷ segments) [] t e = absurd (cc)
  wide_at top (s ∷ segments) (true ∷ marks) zero e = inl refl
  wide_at top (s ∷ segments) (false ∷ marks) zero e = inr (refl, leb-true top (length s + 1) e, omega arith)
  wide_at top (s ∷ segments) (mark ∷ marks) (suc t) e = inl e

  -- where a move's last sign is even, a mark behind the valley, with a square more, is shared there
  pub joined_marks_shared : slice_index_or m.signs (length m.signs - 1) Above ≡ Even → 0 < length m.signs → (t : ℕ)
      → slice_index_or (joined_marks front) t false ≡ true
      → slice_index_or (marks_apart front m) (valley_place (outline_of front).signs - 1 + length m.signs + t) false ≡ true
  joined_marks_shared even some t e = cases (has_right_wall (outline_of front)) refl
    where
      none : (t : ℕ) → slice_index_or (false ∷ []) t false ≡ true → ⊥
      none zero e = absurd (cc)
      none (suc t) e = absurd (cc)

      wide : valley_place (outline_of front).signs < length (outline_of front).signs → first_count front ≤ length (slice_index_or back 0 []) + 1
          → slice_index_or (marks_apart front m) (valley_place (outline_of front).signs - 1 + length m.signs + 0) false ≡ true
      wide h w = ap (λ l. slice_index_or l (valley_place (outline_of front).signs - 1 + length m.signs + 0) false) marks_are
          ∙ ap (λ i. slice_index_or (shared (signs_apart (outline_of front) m) (touched_or_wide (first_count (front ++ m ∷ []))
          (lines_after (outline_of front) (edges_on_lines front) m) (joined (signs_apart (outline_of front) m) (segments_apart
          (outline_of front) m)))) i false) at
          ∙ (both_wide (first_count (front ++ m ∷ [])) (lines_after (outline_of front) (edges_on_lines front) m) (signs_apart (outline_of front) m)
          (segments_apart (outline_of front) m) (valley_place (outline_of front).signs - 1 + (length m.signs - 1))
          (sign_at front m legal (length m.signs - 1) (omega (arith, some)) ∙ even)
          (omega (arith, h, some, segments_long front m legal, signs_long front m legal))
          (omega (
            arith,
            w,
            top_kept front m (omega (arith, h)),
            ap (λ i. length (slice_index_or (segments_apart (outline_of front) m) i [])) own,
            one_at front m legal (m.count - 1) (omega (arith, (legal_move front m legal).some)),
            ap (λ (s : List ℕ). length s) behind,
          ))).1
        where
          at : valley_place (outline_of front).signs - 1 + length m.signs + 0 ≡ suc (valley_place (outline_of front).signs - 1 + (length m.signs - 1))
          at = omega (arith, some)

          own : valley_place (outline_of front).signs - 1 + (length m.signs - 1) ≡ valley_place (outline_of front).signs + (m.count - 1)
          own = omega (arith, h, some, end_at h, (legal_move front m legal).some)

          behind : slice_index_or (segments_apart (outline_of front) m) (suc (valley_place (outline_of front).signs - 1 + (length m.signs - 1))) []
              ≡ slice_index_or back 0 []
          behind = get_back (take (valley_place (outline_of front).signs) (outline_of front).segments ++ news) back 0
              (suc (valley_place (outline_of front).signs - 1 + (length m.signs - 1))) [] (omega (arith, some, end_at h, new_long front m legal))

      apart : valley_place (outline_of front).signs < length (outline_of front).signs → (t : ℕ)
          → (slice_index_or (touched_or_wide (first_count front) (edges_on_lines front) back) t false ≡ true)
          ⊎ ((t ≡ 0) × (first_count front ≤ length (slice_index_or back 0 []) + 1) × (0 < length back))
          → slice_index_or (marks_apart front m) (valley_place (outline_of front).signs - 1 + length m.signs + t) false ≡ true
      apart h t (inl f) = mark_behind t h f
      apart h t (inr (z, w, some)) = ap (λ k. slice_index_or (marks_apart front m) (valley_place (outline_of front).signs - 1 + length m.signs + k) false) z
          ∙ wide h w

      cases : (b : Bool) → has_right_wall (outline_of front) ≡ b
          → slice_index_or (marks_apart front m) (valley_place (outline_of front).signs - 1 + length m.signs + t) false ≡ true
      cases true w = absurd (none t (sym (ap (λ (b : Bool). slice_index_or (cond b (false ∷ []) (wide_first (first_count front) back
          (touched_or_wide (first_count front) (edges_on_lines front) back))) t false) w) ∙ e))
      cases false w =
          apart (lt-from_le_and_nat_eq (valley_place (outline_of front).signs) (length (outline_of front).signs) (place_within (outline_of front).signs) w) t
          (wide_at (first_count front) back (touched_or_wide (first_count front) (edges_on_lines front) back) t
          (sym (ap (λ (b : Bool). slice_index_or (cond b (false ∷ []) (wide_first (first_count front) back
          (touched_or_wide (first_count front) (edges_on_lines front) back))) t false) w) ∙ e))
