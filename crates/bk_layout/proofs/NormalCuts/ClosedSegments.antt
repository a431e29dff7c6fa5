-- A segment that a line from the top touches, or that has as many squares as the top, is closed later: one of its squares isn't in the
-- last segment.
use Rattle.std.specs.List.{concat, list_any}
use Rattle.std.proofs.Common.{Bool, List, Some, [], ap, arith, cond, false, inl, inr, length, refl, slice_get, slice_index_or, subst, suc, sym, take}
use Rattle.std.proofs.Common.{true, zero, ℕ, ◌||◌, ◌++◌, ◌+◌, ◌-◌, ◌<◌, ◌∙◌, ◌∷◌, ◌≡◌, ◌≤◌, ◌⊎◌}
use Rattle.std.proofs.lemmas.Option.{same_Some, slice_get_within}
use Rattle.bk_laws.proofs.ListPlaces.{get_front, get_map, get_some, length-concat_take_next, slice_get-concat}
use Rattle.bk_laws.proofs.Occurrences.{times-positive_of_slice_get, times_at, times_in-append, times_in-positive_of_slice_get}
use Rattle.bk_laws.proofs.AllOfLists.{list_any-slice_get}
use Rattle.bk_laws.proofs.ListItems.{concat-only_list}
use Rattle.bk_word.specs.Outline.{Outline, start}
use Rattle.bk_word.specs.Play.{AreLegalFrom, after_move, outline_of}
use Rattle.bk_word.specs.Word.{Word, order_of}
use Rattle.bk_word.proofs.PlayLaws.{legal_front}
use Rattle.bk_word_net.proofs.WordFlows.NoLoose.{closed_count, hung_number}
use Rattle.bk_word_net.proofs.Outlines.Numbering.{Numbered, numbered_moves, numbered_start}
use Rattle.bk_word_net.proofs.Outlines.Shape.{AllFilled, Shaped, hung_many, shaped_move, shaped_start}
use Rattle.bk_layout.specs.Layout.{Layout}
use Rattle.bk_layout.specs.LayoutLaws.{IsWordOfLayout}
use Rattle.bk_catalogue.proofs.HangingBounds.LineMoves.{keeps, lines_long}
use Rattle.bk_catalogue.specs.VerticalCut.{begins_on_line, edges_on_lines, line_bound, lines_after, lines_along, next_on_line, on_line, touched}
use Rattle.bk_layout.proofs.NormalCuts.MarkedSquares.{IsTopLine, some_marked, tops_of_word}
use Rattle.bk_layout.proofs.FreeCuts.NumberedLines.{line_numbers_are_lines}
use Rattle.bk_layout.proofs.FreeCuts.SharedLines.{hung_w}
use Rattle.bk_layout.proofs.FreeCuts.TopLines.{no_line_down}
use Rattle.bk_layout.proofs.FreeCuts.TouchingWalls.{ends_left, ends_right}
use Rattle.bk_layout.specs.FreeCuts.{IsSound}
use Rattle.bk_layout.specs.LineNumbers.{numbered_line, sides_along, sides_at, square_lines}
use Rattle.bk_layout.proofs.FreeCuts.LineGaps.{along_long, lines_append, lines_at, lines_grow, lines_of_word}
use Rattle.bk_layout.proofs.NormalCuts.MovesLeft.{legal, lines_end, lines_front, none_at_end, shaped}
use Rattle.bk_layout.proofs.FreeCuts.RunsOfLines.{IsRow, Runs, not_one, rows_along, run_end, run_next}
use Rattle.bk_layout.proofs.NormalCuts.WideSegments.{no_sign, wide_at, wide_gone}
use Rattle.bk_layout.specs.NormalCuts.{touched_or_wide}
use Rattle.bk_layout.specs.WordNumbers.{first_count}
use Rattle.bk_layout.specs.NormalLayout.{IsNormalLayout}

-- ---- on lists

-- a segment with the mark of a line has a square on one, or the next one begins on one
touched_at : (lines : List Bool) (segments : List (List ℕ)) (i : ℕ) (s : List ℕ) → slice_get segments i ≡ Some s
    → slice_index_or (touched lines segments) i false ≡ true
    → (list_any (on_line lines) s ≡ true) ⊎ ((t : List ℕ) × (slice_get segments (suc i) ≡ Some t) × (begins_on_line lines t ≡ true))
touched_at lines [] i s e f = absurd (cc)
touched_at lines (u ∷ segments) (suc i) s e f = touched_at lines segments i s e f
touched_at lines (u ∷ segments) zero s e f = cases (list_any (on_line lines) u) refl f
  where
    next : (segments : List (List ℕ)) → next_on_line lines segments ≡ true
        → (t : List ℕ) × (slice_get (u ∷ segments) 1 ≡ Some t) × (begins_on_line lines t ≡ true)
    next [] g = absurd (cc)
    next (t ∷ segments) g = (t, refl, g)

    cases : (b : Bool) → list_any (on_line lines) u ≡ b → (b || next_on_line lines segments) ≡ true → (list_any (on_line lines) s ≡ true)
        ⊎ ((t : List ℕ) × (slice_get (u ∷ segments) 1 ≡ Some t) × (begins_on_line lines t ≡ true))
    cases true g h = inl (subst (λ (x : List ℕ). list_any (on_line lines) x ≡ true) (same_Some u s e) g)
    cases false g h = inr (next segments h)

begins_at : (lines : List Bool) (t : List ℕ) → begins_on_line lines t ≡ true → (y : ℕ) × (slice_get t 0 ≡ Some y) × (on_line lines y ≡ true)
begins_at lines [] e = absurd (cc)
begins_at lines (y ∷ t) e = (y, refl, e)

filled_got : (segments : List (List ℕ)) (i : ℕ) (s : List ℕ) → AllFilled segments → slice_get segments i ≡ Some s → 0 < length s
filled_got [] i s all e = absurd (cc)
filled_got (t ∷ segments) zero s all e = omega (arith, all.0, ap length (same_Some t s e))
filled_got (t ∷ segments) (suc i) s all e = filled_got segments i s all.1 e

-- one segment without marks has no square on a line
none_on : (lines : List Bool) (segments : List (List ℕ)) → length segments ≡ 1 → line_bound [] (touched lines segments) ≡ 0 → (j q : ℕ)
    → slice_get (slice_index_or segments 0 []) j ≡ Some q → on_line lines q ≡ true → ⊥
none_on lines [] one e j q f on = omega (arith, one)
none_on lines (s ∷ t ∷ segments) one e j q f on = omega (arith, one)
none_on lines (s ∷ []) one e j q f on = clash (list_any (on_line lines) s) (list_any-slice_get (on_line lines) s j q f on) e
  where
    clash : (b : Bool) → b ≡ true → ◌≡◌ {A = ℕ} (cond (b || false) 1 0) 0 → ⊥
    clash true g h = omega (arith, h)
    clash false g h = cc

-- squares stay on lines from the top
on_along : (o : Outline) (lines : List Bool) (rest : Word) → AreLegalFrom o rest → Shaped o → length lines ≡ length o.hung → (q : ℕ)
    → on_line lines q ≡ true → on_line (lines_along o lines rest) q ≡ true
on_along o lines [] by_rule shape long q e = e
on_along o lines (m ∷ rest) by_rule shape long q e = on_along (after_move o m) (lines_after o lines m) rest by_rule.1 (shaped_move o m by_rule.0 shape)
    (lines_long o lines (m ∷ []) (by_rule.0, tt) long) q (keeps o lines m by_rule.0 shape long q e)

-- ---- a word of a normal layout

module _ (n : ℕ) (l : Layout) (w : Word) (sound : IsSound n l) (normal : IsNormalLayout l) (word : IsWordOfLayout l w) (many : 3 ≤ n)
    (front rest : Word) (is : w ≡ front ++ rest) (some : 0 < length front) (few : order_of front < n) where
  abbrev square : ℕ → ℕ
  square = λ number. word.square (number - 1)

  abbrev segments : List (List ℕ)
  segments = (outline_of front).segments

  abbrev last : List ℕ
  last = slice_index_or (outline_of w).segments 0 []

  -- a square on a line from the top stays on it
  on_then : (q : ℕ) → on_line (edges_on_lines front) q ≡ true → on_line (edges_on_lines w) q ≡ true
  on_then q e = subst (λ (lines : List Bool). on_line lines q ≡ true) (sym (lines_end n l w sound word front rest is))
      (on_along (outline_of front) (edges_on_lines front) rest (legal n l w sound word front rest is) (shaped n l w sound word front rest is)
      (lines_front n l w sound word front rest is) q e)

  -- no square of the last segment is on one
  not_on : (j q : ℕ) → slice_get last j ≡ Some q → on_line (edges_on_lines w) q ≡ true → ⊥
  not_on = none_on (edges_on_lines w) (outline_of w).segments (word.complete).one
      ((λ i. line_bound (sym (no_sign n l w sound normal word many) i) (touched (edges_on_lines w) (outline_of w).segments))
      ∙ none_at_end n l w sound word front rest is many)

  -- ---- the lines around a segment

  legal_then : AreLegalFrom start front
  legal_then = legal_front start front rest (subst (AreLegalFrom start) is (word.complete).legal)

  row_front : Runs (square_lines front) 0 (concat (outline_of front).segments) 1
  row_front = at (rows_along start [] front legal_then shaped_start numbered_start refl (lines_of_word []) (inl refl))
    where
      at : IsRow (square_lines front) (outline_of front) → Runs (square_lines front) 0 (concat (outline_of front).segments) 1
      at (inl e) = absurd (omega (arith, some, closed_count start front, ap (λ (o : Outline). length o.closed) e))
      at (inr r) = r.1

  filled_front : AllFilled (outline_of front).segments
  filled_front = at (rows_along start [] front legal_then shaped_start numbered_start refl (lines_of_word []) (inl refl))
    where
      at : IsRow (square_lines front) (outline_of front) → AllFilled (outline_of front).segments
      at (inl e) = absurd (omega (arith, some, closed_count start front, ap (λ (o : Outline). length o.closed) e))
      at (inr r) = r.0

  row_end : Runs (square_lines w) 0 last 1
  row_end = at (rows_along start [] w (word.complete).legal shaped_start numbered_start refl (lines_of_word []) (inl refl))
    where
      at : IsRow (square_lines w) (outline_of w) → Runs (square_lines w) 0 (slice_index_or (outline_of w).segments 0 []) 1
      at (inl e) = absurd (omega (arith, (word.complete).some, closed_count start w, ap (λ (o : Outline). length o.closed) e))
      at (inr r) = subst (λ (xs : List ℕ). Runs (square_lines w) 0 xs 1) (concat-only_list (outline_of w).segments (word.complete).one) r.1

  numbered : Numbered (outline_of front)
  numbered = numbered_moves start front numbered_start

  number : (i : ℕ) (s : List ℕ) (k x : ℕ) → slice_get (outline_of front).segments i ≡ Some s → slice_get s k ≡ Some x
      → (1 ≤ x) × (x ≤ length (outline_of front).hung)
  number i s k x e f = hung_number (outline_of front) numbered x (omega (
    arith,
    times_in-positive_of_slice_get x (outline_of front).segments i k s e f,
    times_in-append x (outline_of front).closed (outline_of front).segments,
  ))

  -- the lines of a square that is there stay
  same_lines : (x : ℕ) → (1 ≤ x) × (x ≤ length (outline_of front).hung) → sides_at (square_lines w) x ≡ sides_at (square_lines front) x
  same_lines x h = ap (λ (v : Word). sides_at (square_lines v) x) is ∙ ap (λ (sides : List (ℕ × ℕ)). sides_at sides x)
      (lines_append start [] front rest ∙ grown.1)
      ∙ get_front (square_lines front) grown.0 (x - 1) (0, 1) (omega (arith, h.0, h.1, along_long start [] front refl))
    where
      grown : (more : List (ℕ × ℕ)) × (sides_along (outline_of front) (square_lines front) rest ≡ square_lines front ++ more)
      grown = lines_grow (outline_of front) (square_lines front) rest

  -- the line of the layout at the left of a square of the word
  left_is : (x : ℕ) → 1 ≤ x → x ≤ length (outline_of w).hung → l.left (square x) ≡ numbered_line l word.square (sides_at (square_lines w) x).0
  left_is x a b = (line_numbers_are_lines l w sound.fits word (x - 1) (sides_at (square_lines w) x).0 (sides_at (square_lines w) x).1
      (got (square_lines w) (x - 1) (omega (arith, a, b, along_long start [] w refl)))).0
    where
      got : (xs : List (ℕ × ℕ)) (k : ℕ) → k < length xs → slice_get xs k ≡ Some (slice_index_or xs k (0, 1))
      got [] k h = absurd (omega arith)
      got (y ∷ xs) zero h = refl
      got (y ∷ xs) (suc k) h = got xs k (omega arith)

  hung_less : length (outline_of front).hung ≤ length (outline_of w).hung
  hung_less = omega (arith, hung_many start front, hung_w l sound.fits w word, sound.squares, few)

  ending_bottom : 0 < length (l.ending l.bottom)
  ending_bottom = sound.fits.nodes.ending_some l.bottom sound.fits.some (omega arith)

  -- beside a segment that begins on a line from the top stands one that is closed
  before_line : (i : ℕ) (s t : List ℕ) → slice_get (outline_of front).segments i ≡ Some s → slice_get (outline_of front).segments (suc i) ≡ Some t
      → (y : ℕ) → slice_get t 0 ≡ Some y → on_line (edges_on_lines front) y ≡ true → (k z : ℕ) → suc k ≡ length s → slice_get s k ≡ Some z
      → (j : ℕ) → slice_get last j ≡ Some z → ⊥
  before_line i s t at next y first on k z end in_s j in_last = cases (two j (length last) (slice_get_within last j z in_last))
    where
      two : (a b : ℕ) → a < b → (suc a ≡ b) ⊎ (suc a < b)
      two a b h = grind arith

      y_number : (1 ≤ y) × (y ≤ length (outline_of front).hung)
      y_number = number (suc i) t 0 y next first

      z_number : (1 ≤ z) × (z ≤ length (outline_of front).hung)
      z_number = number i s k z at in_s

      place : length (concat (take (suc i) (outline_of front).segments)) + 0 ≡ suc (length (concat (take i (outline_of front).segments)) + k)
      place = omega (arith, length-concat_take_next (outline_of front).segments i s at, end)

      -- its right line is the left line of the next one
      shared : (sides_at (square_lines w) y).0 ≡ (sides_at (square_lines w) z).1
      shared = ap (λ (p : ℕ × ℕ). p.0) (same_lines y y_number)
          ∙ run_next (square_lines front) 0 (concat (outline_of front).segments) 1 row_front (length (concat (take i (outline_of front).segments)) + k) z y
          (slice_get-concat (outline_of front).segments i s k z at in_s)
          (ap (slice_get (concat (outline_of front).segments)) (sym place) ∙ slice_get-concat (outline_of front).segments (suc i) t 0 y next first)
          ∙ ap (λ (p : ℕ × ℕ). p.1) (sym (same_lines z z_number))

      line : IsTopLine l (l.left (square y))
      line = tops_of_word l sound.fits word.square w (word.complete).legal word.lines word.nodes (y - 1) (on_then y on)

      cases : (suc j ≡ length last) ⊎ (suc j < length last) → ⊥
      cases (inl e) = not_one (square_lines w) (sides_at (square_lines w) y).0 (lines_at (square_lines w) (lines_of_word w) (y - 1)).0
          (shared ∙ run_end (square_lines w) 0 last 1 row_end j z in_last e)
      cases (inr h) = down (get_some last (suc j) h)
        where
          down : (u : ℕ) × (slice_get last (suc j) ≡ Some u) → ⊥
          down (u, f) = no_line_down l sound.fits sound.simple sound.walls (omega (arith, many, sound.squares))
              (ends_left l sound.fits l.bottom ending_bottom word.end_from word.end_to)
              (ends_right l sound.fits l.bottom ending_bottom word.end_from word.end_to) line.p line.q (square u) line.side_by_side there.0 there.1
              (left_is u u_number.0 u_number.1 ∙ ap (numbered_line l word.square) (run_next (square_lines w) 0 last 1 row_end j z u in_last f ∙ sym shared)
              ∙ sym (left_is y y_number.0 (omega (arith, y_number.1, hung_less))) ∙ line.is)
            where
              there : (square u < l.squares) × (l.below (square u) ≡ l.bottom)
              there = sound.fits.lists.ending_is l.bottom (suc j) (square u)
                  (ap (λ (xs : List ℕ). slice_get xs (suc j)) (sym word.end) ∙ get_map square last (suc j) u f)

              u_number : (1 ≤ u) × (u ≤ length (outline_of w).hung)
              u_number = hung_number (outline_of w) (numbered_moves start w numbered_start) u (omega (
                arith,
                times-positive_of_slice_get last (suc j) u f,
                times_at u 0 (outline_of w).segments,
                times_in-append u (outline_of w).closed (outline_of w).segments,
              ))

  -- a marked segment has a square that isn't in the last one
  pub closed_square : (i : ℕ) (s : List ℕ) → slice_get (outline_of front).segments i ≡ Some s
      → slice_index_or (touched_or_wide (first_count front) (edges_on_lines front) (outline_of front).segments) i false ≡ true
      → (z k : ℕ) × (slice_get s k ≡ Some z) × ((j : ℕ) → slice_get (slice_index_or (outline_of w).segments 0 []) j ≡ Some z → ⊥)
  closed_square i s at e = cases (wide_at (first_count front) (edges_on_lines front) (outline_of front).segments i e)
    where
      some_s : 0 < length s
      some_s = filled_got (outline_of front).segments i s filled_front at

      by_line : (list_any (on_line (edges_on_lines front)) s ≡ true)
          ⊎ ((t : List ℕ) × (slice_get (outline_of front).segments (suc i) ≡ Some t) × (begins_on_line (edges_on_lines front) t ≡ true))
          → (z k : ℕ) × (slice_get s k ≡ Some z) × ((j : ℕ) → slice_get (slice_index_or (outline_of w).segments 0 []) j ≡ Some z → ⊥)
      by_line (inl any) = let r = some_marked (edges_on_lines front) s any in (r.1, r.0, r.2, λ j f. not_on j r.1 f (on_then r.1 r.3))
      by_line (inr (t, next, begins)) =
          let y = begins_at (edges_on_lines front) t begins in
          let z = get_some s (length s - 1) (omega (arith, some_s)) in
          (z.0, length s - 1, z.1, before_line i s t at next y.0 y.1 y.2 (length s - 1) z.0 (omega (arith, some_s)) z.1)

      cases : (slice_index_or (touched (edges_on_lines front) (outline_of front).segments) i false ≡ true)
          ⊎ ((u : List ℕ) × (slice_get (outline_of front).segments i ≡ Some u) × (first_count front ≤ length u))
          → (z k : ℕ) × (slice_get s k ≡ Some z) × ((j : ℕ) → slice_get (slice_index_or (outline_of w).segments 0 []) j ≡ Some z → ⊥)
      cases (inl f) = by_line (touched_at (edges_on_lines front) (outline_of front).segments i s at f)
      cases (inr (u, f, wide)) =
          let z = get_some s 0 some_s in
          let same : u ≡ s = same_Some u s (sym f ∙ at) in (
            z.0,
            0,
            z.1,
            wide_gone n l w sound normal word many front rest is some few i s at
                (subst (λ (x : List ℕ). first_count front ≤ length x) same wide) 0 z.0 z.1,
          )
