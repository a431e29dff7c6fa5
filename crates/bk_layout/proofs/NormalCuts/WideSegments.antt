-- A segment with as many squares as the top is closed, while squares are left: at the end it would have one more, and be wider than the top.
use Rattle.std.specs.List.{concat}
use Rattle.std.proofs.Common.{Bool, List, Some, [], ap, arith, drop, false, inl, inr, length, map, nat_le, refl, slice_get, slice_index_or}
use Rattle.std.proofs.Common.{subst, suc, sym, take, true, zero, ℕ, ◌||◌, ◌++◌, ◌+◌, ◌-◌, ◌<◌, ◌∙◌, ◌∷◌, ◌≡◌, ◌≤◌, ◌⊎◌}
use Rattle.std.proofs.lemmas.Bool.{false≢true}
use Rattle.std.proofs.lemmas.Bool.Decides.{nat_tests}
use Rattle.std.proofs.lemmas.List.{append-nil, append_assoc, nil_from_length}
use Rattle.std.proofs.lemmas.Option.{same_Some, slice_get_within}
use Rattle.bk_laws.proofs.ListPlaces.{get_map, get_some, slice_index_or-of_slice_get}
use Rattle.bk_laws.proofs.Occurrences.{slice_get-of_times_positive, times, times-append, times-concat, times-positive_of_slice_get, times_at, times_in-append}
use Rattle.bk_laws.proofs.Occurrences.{times_in-only_list}
use Rattle.bk_word.specs.Outline.{Outline, sizes_of, start, valley_place}
use Rattle.bk_word.specs.Play.{AreLegalFrom, after_move, after_moves, new_squares, outline_of}
use Rattle.bk_word.specs.Word.{Word, order_of}
use Rattle.bk_word.proofs.PlayLaws.{after-snoc}
use Rattle.bk_word.proofs.StoredBytes.{order_append, order_more}
use Rattle.bk_word_net.proofs.WordFlows.NoLoose.{hung_number}
use Rattle.bk_word_net.proofs.Outlines.Numbering.{Numbered, numbered_moves, numbered_start, times_one}
use Rattle.bk_word_net.proofs.Outlines.Shape.{Shaped, hung_many, shaped_moves, shaped_start}
use Rattle.bk_layout.specs.Layout.{Layout}
use Rattle.bk_layout.specs.LayoutLaws.{IsWordOfLayout}
use Rattle.bk_catalogue.specs.SingleValleys.{single_valley, single_valleys}
use Rattle.bk_catalogue.specs.VerticalCut.{touched}
use Rattle.bk_catalogue.specs.WordBounds.{HangNoPairsFrom}
use Rattle.bk_layout.proofs.FreeCuts.CutsOfLayouts.{pairs_fit, singles_fit}
use Rattle.bk_layout.proofs.Sweeps.OpenRuns.{open_segments_end_together}
use Rattle.bk_layout.proofs.FreeCuts.SharedLines.{hung_w, square_apart}
use Rattle.bk_layout.specs.FreeCuts.{IsSound}
use Rattle.bk_layout.specs.OpenSegments.{EndsTogether}
use Rattle.bk_layout.proofs.NormalCuts.MovesLeft.{at_end, legal}
use Rattle.bk_layout.proofs.NormalCuts.NumbersShown.{bottom_is}
use Rattle.bk_layout.proofs.FreeCuts.RunsOfLines.{row_is}
use Rattle.bk_layout.specs.NormalCuts.{touched_or_wide}
use Rattle.bk_layout.specs.WordNumbers.{first_count}
use Rattle.bk_layout.specs.NormalLayout.{IsNormalLayout}

-- ---- on lists

-- there are as many marks as segments
pub wide_long : (top : ℕ) (lines : List Bool) (segments : List (List ℕ)) → length (touched_or_wide top lines segments) ≡ length segments
wide_long top lines [] = refl
wide_long top lines (s ∷ segments) = ap suc (wide_long top lines segments)

-- a mark is that of a line, or of squares
pub wide_at : (top : ℕ) (lines : List Bool) (segments : List (List ℕ)) (i : ℕ) → slice_index_or (touched_or_wide top lines segments) i false ≡ true
    → (slice_index_or (touched lines segments) i false ≡ true) ⊎ ((s : List ℕ) × (slice_get segments i ≡ Some s) × (top ≤ length s))
wide_at top lines [] i e = absurd (false≢true e)
wide_at top lines (s ∷ segments) (suc i) e = wide_at top lines segments i e
wide_at top lines (s ∷ segments) zero e = cases (slice_index_or (touched lines (s ∷ segments)) 0 false) refl e
  where
    many : nat_le top (length s) ≡ true → top ≤ length s
    many f = grind (arith, nat_tests)

    cases : (b : Bool) → slice_index_or (touched lines (s ∷ segments)) 0 false ≡ b → (b || nat_le top (length s)) ≡ true
        → (slice_index_or (touched lines (s ∷ segments)) 0 false ≡ true) ⊎ ((t : List ℕ) × (slice_get (s ∷ segments) 0 ≡ Some t) × (top ≤ length t))
    cases true f g = inl f
    cases false f g = inr (s, refl, many g)

-- the square that was hung last is open
last_open : (o : Outline) (rest : Word) → AreLegalFrom o rest → 0 < length rest
    → 0 < times (length (after_moves o rest).hung) (concat (after_moves o rest).segments)
last_open o [] legal some = absurd (omega arith)
last_open o (m ∷ k ∷ rest) legal some = last_open (after_move o m) (k ∷ rest) legal.1 (omega arith)
last_open o (m ∷ []) legal some = omega (
  arith,
  ap (times (length (after_move o m).hung)) (row_is o m),
  times-append (length (after_move o m).hung) (concat (take (valley_place o.signs) o.segments))
      (new_squares o m ++ concat (drop (valley_place o.signs + 1) o.segments)),
  times-append (length (after_move o m).hung) (new_squares o m) (concat (drop (valley_place o.signs + 1) o.segments)),
  times_one (length (after_move o m).hung) (length o.hung + 1) m.count (omega (arith, long, (legal.0).some)) (omega (arith, long)),
)
  where
    long : length (after_move o m).hung ≡ length o.hung + m.count
    long = omega (arith, hung_many o (m ∷ []), order_more m [])

-- one segment that isn't a valley of one square has not just one square
not_single : (signs : List _) (segments : List (List ℕ)) → signs ≡ [] → length segments ≡ 1 → single_valleys signs (map length segments) ≡ 0
    → length (slice_index_or segments 0 []) ≡ 1 → ⊥
not_single signs [] none one e long = omega (arith, one)
not_single signs (s ∷ t ∷ segments) none one e long = omega (arith, one)
not_single signs (s ∷ []) none one e long = at (sym (λ i. single_valleys (none i) (length s ∷ [])) ∙ e)
  where
    single : (size : ℕ) → size ≡ 1 → single_valley true size ≡ 1
    single size f = grind (arith, nat_tests)

    at : single_valley true (length s) ≡ 0 → ⊥
    at f = omega (arith, f, single (length s) long)

-- ---- a word of a normal layout

module _ (n : ℕ) (l : Layout) (w : Word) (sound : IsSound n l) (normal : IsNormalLayout l) (word : IsWordOfLayout l w) (many : 3 ≤ n) where
  abbrev square : ℕ → ℕ
  square = λ number. word.square (number - 1)

  abbrev last : List ℕ
  last = slice_index_or (outline_of w).segments 0 []

  last_long : length (slice_index_or (outline_of w).segments 0 []) ≡ length (l.ending l.bottom)
  last_long = bottom_is l w word

  shaped_w : Shaped (outline_of w)
  shaped_w = shaped_moves start w (word.complete).legal shaped_start

  -- a whole word of a sound and normal layout has no open signs
  pub no_sign : (outline_of w).signs ≡ []
  no_sign = nil_from_length (outline_of w).signs (omega (arith, (word.complete).one, shaped_w.many))

  -- at the end no valley of one square is left
  no_singles : single_valleys (outline_of w).signs (sizes_of (outline_of w)) ≡ 0
  no_singles = omega (
    arith,
    word.order,
    singles_fit l sound.fits w word sound.simple sound.walls w [] (sym (append-nil w)) (omega (arith, many, sound.squares)),
  )

  -- the last segment has two squares or more
  pub last_two : 2 ≤ length (slice_index_or (outline_of w).segments 0 [])
  last_two = not_one (length (slice_index_or (outline_of w).segments 0 [])) refl
    where
      some : 0 < length (l.ending l.bottom)
      some = sound.fits.nodes.ending_some l.bottom sound.fits.some (omega arith)

      not_one : (k : ℕ) → length (slice_index_or (outline_of w).segments 0 []) ≡ k → 2 ≤ length (slice_index_or (outline_of w).segments 0 [])
      not_one zero e = absurd (omega (arith, e, last_long, some))
      not_one (suc zero) e = absurd (not_single (outline_of w).signs (outline_of w).segments no_sign (word.complete).one no_singles e)
      not_one (suc (suc k)) e = omega (arith, e)

  -- the rest of a word of a sound and normal layout hangs no pairs
  pub pairs_from : (front rest : Word) → w ≡ front ++ rest → HangNoPairsFrom (outline_of front) rest
  pairs_from front [] is = tt
  pairs_from front (m ∷ rest) is = (
    pairs_fit l sound.fits w word sound.simple front m rest is,
    subst (λ (o : Outline). HangNoPairsFrom o rest) (after-snoc start front m)
        (pairs_from (front ++ m ∷ []) rest (is ∙ sym (append_assoc front (m ∷ []) rest))),
  )

  module _ (front rest : Word) (is : w ≡ front ++ rest) (some : 0 < length front) (few : order_of front < n) where
    pub orders : order_of front + order_of rest ≡ n
    orders = omega (arith, sound.squares, word.order, ap order_of is, order_append front rest)

    rest_some : 0 < length rest
    rest_some = at rest (omega (arith, orders, few))
      where
        at : (rest : Word) → 0 < order_of rest → 0 < length rest
        at [] h = absurd (omega arith)
        at (m ∷ rest) h = omega arith

    -- the last segment has at most as many squares as the top
    top_wide : length (slice_index_or (outline_of w).segments 0 []) ≤ first_count front
    top_wide = at front some is
      where
        at : (front : Word) → 0 < length front → w ≡ front ++ rest → length (slice_index_or (outline_of w).segments 0 []) ≤ first_count front
        at [] h e = absurd (omega arith)
        at (m ∷ front) h e = omega (arith, last_long, normal.level, word.first_count m (ap (λ (v : Word). slice_get v 0) e))

    numbered : Numbered (outline_of front)
    numbered = numbered_moves start front numbered_start

    -- the last square is in the last segment
    last_square : (a : ℕ) × (slice_get (slice_index_or (outline_of w).segments 0 []) a ≡ Some (length (outline_of w).hung))
    last_square = slice_get-of_times_positive (slice_index_or (outline_of w).segments 0 []) (length (outline_of w).hung) (omega (
      arith,
      subst (λ (o : Outline). 0 < times (length o.hung) (concat o.segments)) (sym (at_end n l w sound word front rest is))
          (last_open (outline_of front) rest (legal n l w sound word front rest is) rest_some),
      times-concat (length (outline_of w).hung) (outline_of w).segments,
      times_in-only_list (length (outline_of w).hung) (outline_of w).segments (word.complete).one,
    ))

    -- no square of a segment as wide as the top is in it
    pub wide_gone : (i : ℕ) (s : List ℕ) → slice_get (outline_of front).segments i ≡ Some s → first_count front ≤ length s → (k z : ℕ) → slice_get s k ≡ Some z
        → (j : ℕ) → slice_get (slice_index_or (outline_of w).segments 0 []) j ≡ Some z → ⊥
    wide_gone i s at wide k z in_s j in_last = clash (get_some s last_square.0 (omega (arith, low_a, s_long)))
      where
        e : EndsTogether l square s
        e = open_segments_end_together l w front rest word is i s at

        got_last : (a x : ℕ) → slice_get (slice_index_or (outline_of w).segments 0 []) a ≡ Some x → slice_get (l.ending l.bottom) a ≡ Some (square x)
        got_last a x f = ap (λ (xs : List ℕ). slice_get xs a) (sym word.end) ∙ get_map square last a x f

        node_is : e.node ≡ l.bottom
        node_is = sym (sound.fits.lists.ending_is e.node (e.from + k) (square z) (e.stands k z in_s)).1
            ∙ (sound.fits.lists.ending_is l.bottom j (square z) (got_last j z in_last)).1

        stands : (a x : ℕ) → slice_get s a ≡ Some x → slice_get (l.ending l.bottom) (e.from + a) ≡ Some (square x)
        stands a x f = subst (λ (v : ℕ). slice_get (l.ending v) (e.from + a) ≡ Some (square x)) node_is (e.stands a x f)

        many_s : 0 < length s
        many_s = omega (arith, last_two, top_wide, wide)

        end_of_s : (y : ℕ) × (slice_get s (length s - 1) ≡ Some y)
        end_of_s = get_some s (length s - 1) (omega (arith, many_s))

        fits_in : e.from + (length s - 1) < length (l.ending l.bottom)
        fits_in = slice_get_within (l.ending l.bottom) (e.from + (length s - 1)) (square end_of_s.0) (stands (length s - 1) end_of_s.0 end_of_s.1)

        s_long : length s ≡ length (slice_index_or (outline_of w).segments 0 [])
        s_long = omega (arith, fits_in, last_long, top_wide, wide, many_s)

        from_none : e.from ≡ 0
        from_none = omega (arith, fits_in, last_long, top_wide, wide, many_s)

        low_a : last_square.0 < length (slice_index_or (outline_of w).segments 0 [])
        low_a = slice_get_within last last_square.0 (length (outline_of w).hung) last_square.1

        clash : (y : ℕ) × (slice_get s last_square.0 ≡ Some y) → ⊥
        clash (y, f) = omega (
          arith,
          square_apart l sound.fits w word (y - 1) (length (outline_of w).hung - 1)
              (omega (arith, number.1, fewer)) (omega (arith, fewer)) same,
          number.0,
          number.1,
          fewer,
        )
          where
            number : (1 ≤ y) × (y ≤ length (outline_of front).hung)
            number = hung_number (outline_of front) numbered y (omega (
              arith,
              times-positive_of_slice_get s last_square.0 y f,
              ap (times y) (slice_index_or-of_slice_get (outline_of front).segments i s at),
              times_at y i (outline_of front).segments,
              times_in-append y (outline_of front).closed (outline_of front).segments,
            ))

            fewer : length (outline_of front).hung < length (outline_of w).hung
            fewer = omega (arith, hung_many start front, hung_w l sound.fits w word, sound.squares, few)

            same : word.square (y - 1) ≡ word.square (length (outline_of w).hung - 1)
            same = same_Some (square y) (square (length (outline_of w).hung))
                (sym (stands last_square.0 y f) ∙ ap (slice_get (l.ending l.bottom)) place ∙ got_last last_square.0 (length (outline_of w).hung) last_square.1)
              where
                place : e.from + last_square.0 ≡ last_square.0
                place = omega (arith, from_none)
