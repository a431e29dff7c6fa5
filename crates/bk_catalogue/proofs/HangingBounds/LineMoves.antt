-- A move lowers the bound with lines by at most 1: the lists of LineLaws are those of the outline.
use Rattle.std.proofs.Common.{Bool, List, [], ap, arith, drop, false, inl, inr, length, map, nat_eq, refl, replicate, slice_index_or, suc, sym, take}
use Rattle.std.proofs.Common.{true, zero, ℕ, ◌++◌, ◌+◌, ◌-◌, ◌<◌, ◌∙◌, ◌∷◌, ◌≡◌, ◌≤◌, ◌⊎◌}
use Rattle.std.proofs.Math.Seq.{drop-cons, take-suc}
use Rattle.std.proofs.lemmas.List.{append_assoc, length-append, length-drop, length-replicate, length-take-le}
use Rattle.bk_laws.proofs.ListPlaces.{get_back, get_front}
use Rattle.bk_laws.proofs.ListItems.{slice_index_or-true_within}
use Rattle.bk_word.specs.Outline.{IsLegalMove, Outline, valley_of, valley_place}
use Rattle.bk_word.specs.Play.{AreLegalFrom, after_move, after_moves, new_squares, numbers_from, segments_apart, signs_apart}
use Rattle.bk_word.specs.Signs.{is_above}
use Rattle.bk_word.specs.Word.{Move, Word}
use Rattle.bk_word.specs.declared.Sign.{Sign}
use Rattle.bk_word.specs.declared.Sign.TheVariants.{Above, Even, Under}
use Rattle.bk_word.proofs.PlayLists.{place_within}
use Rattle.bk_word_net.proofs.Outlines.Shape.{Shaped}
use Rattle.bk_catalogue.proofs.HangingBounds.ClosingLaws.{AroundValley, around_valley, unders}
use Rattle.bk_catalogue.proofs.HangingBounds.JoinedLines.{bound, joined_bound}
use Rattle.bk_catalogue.proofs.HangingBounds.LineLaws.{from_first, from_last, from_valley}
use Rattle.bk_catalogue.proofs.HangingBounds.SingleLaws.{same_length, wall_test}
use Rattle.bk_catalogue.specs.VerticalCut.{begins_on_line, lines_after, lines_along, next_on_line, on_line}

-- what a move needs on the lists
record Fits (lines later : List Bool) (p : ℕ) (signs : List Sign) (segments : List (List ℕ)) (ms : List Sign) (news : List (List ℕ)) : Type 0 where
  long : length segments ≡ length signs + 1
  within : p ≤ length signs
  behind : ((drop p signs ≡ []) × (drop (p + 1) signs ≡ [])) ⊎ (drop p signs ≡ Above ∷ drop (p + 1) signs)
  low : (j : ℕ) → suc j ≡ p → is_above (slice_index_or signs j Even) ≡ false
  some : 0 < p → 0 < length ms
  fit : p < length signs → length (take (p - 1) signs ++ ms) ≡ length (take p segments ++ news)
  first : begins_on_line lines (slice_index_or segments p []) ≡ true → next_on_line later (news ++ drop (p + 1) segments) ≡ true

module _ (lines later : List Bool) (keeps : (q : ℕ) → on_line lines q ≡ true → on_line later q ≡ true) where
  at_first : (signs : List Sign) (segments : List (List ℕ)) (ms : List Sign) (news : List (List ℕ)) → Fits lines later 0 signs segments ms news
      → bound lines signs segments ≤ 1 + bound later ((take (0 - 1) signs ++ ms) ++ drop (0 + 1) signs) ((take 0 segments ++ news) ++ drop (0 + 1) segments)
  at_first signs [] ms news f = absurd (omega (arith, f.long))
  at_first signs (v ∷ rest) ms news f = omega (arith, from_valley lines later keeps signs v rest ms (drop 1 signs) news (either f.behind), same)
    where
      none : take (0 - 1) signs ≡ []
      none = λ i. take (zeroth i) signs
        where
          zeroth : 0 - 1 ≡ 0
          zeroth = omega arith

      same : bound later ((take (0 - 1) signs ++ ms) ++ drop 1 signs) (news ++ drop 1 (v ∷ rest)) ≡ bound later (ms ++ drop 1 signs) (news ++ rest)
      same = λ i. bound later ((none i ++ ms) ++ drop 1 signs) (news ++ rest)

      either : ((drop 0 signs ≡ []) × (drop (0 + 1) signs ≡ [])) ⊎ (drop 0 signs ≡ Above ∷ drop (0 + 1) signs)
          → (signs ≡ []) ⊎ ((signs ≡ Above ∷ drop 1 signs) × (length ms ≡ length news) × (length rest ≡ suc (length (drop 1 signs))))
      either (inl h) = inl h.0
      either (inr h) = inr (
        is,
        omega (arith, f.fit (omega (arith, ap length is)), ap (λ (ss : List Sign). length (ss ++ ms)) none),
        omega (arith, f.long, ap length is),
      )
        where
          is : signs ≡ Above ∷ drop 1 signs
          is = h

  at_next : (j : ℕ) (signs : List Sign) (segments : List (List ℕ)) (ms : List Sign) (news : List (List ℕ)) → Fits lines later (suc j) signs segments ms news
      → bound lines signs segments ≤ 1 + bound later ((take (suc j - 1) signs ++ ms) ++ drop (suc j + 1) signs)
      ((take (suc j) segments ++ news) ++ drop (suc j + 1) segments)
  at_next j signs segments ms news f = omega (
    arith,
    from_first lines later keeps j signs segments (ms ++ drop (suc j + 1) signs) (news ++ drop (suc j + 1) segments) few f.long
        (omega (arith, last.0, ap unders signs_are)) least,
    same,
  )
    where
      few : j < length signs
      few = omega (arith, f.within)

      next : suc j + 1 ≡ suc (suc j)
      next = omega arith

      signs_are : drop j signs ≡ slice_index_or signs j Even ∷ drop (suc j) signs
      signs_are = drop-cons signs j Even few

      segments_are : drop j segments ≡ slice_index_or segments j [] ∷ slice_index_or segments (suc j) [] ∷ drop (suc j + 1) segments
      segments_are = drop-cons segments j [] (omega (arith, few, f.long))
          ∙ ap (λ ss. slice_index_or segments j [] ∷ ss) (drop-cons segments (suc j) [] (omega (arith, few, f.long))
          ∙ (λ i. slice_index_or segments (suc j) [] ∷ drop (sym next i) segments))

      either : ((drop (suc j) signs ≡ []) × (drop (suc j + 1) signs ≡ [])) ⊎ (drop (suc j) signs ≡ Above ∷ drop (suc j + 1) signs)
          → ((drop (suc j) signs ≡ []) × (drop (suc j + 1) signs ≡ []))
          ⊎ ((drop (suc j) signs ≡ Above ∷ drop (suc j + 1) signs) × (length ms ≡ suc (length news))
          × (length (drop (suc j + 1) segments) ≡ suc (length (drop (suc j + 1) signs))))
      either (inl h) = inl h
      either (inr h) = inr (
        h,
        omega (
          arith,
          f.fit right,
          ap (λ (ss : List Sign). length (ss ++ ms)) (λ i. take (back i) signs),
          length-append (take j signs) ms,
          length-append (take (suc j) segments) news,
          length-append (take j segments) (slice_index_or segments j [] ∷ []),
          ap length (take-suc segments j [] (omega (arith, few, f.long))),
          length-take-le j signs (omega (arith, few)),
          length-take-le j segments (omega (arith, few, f.long)),
        ),
        omega (arith, f.long, right, length-drop (suc j + 1) signs, length-drop (suc j + 1) segments),
      )
        where
          back : suc j - 1 ≡ j
          back = omega arith

          right : suc j < length signs
          right = omega (arith, ap length h, length-drop (suc j) signs)

      last : (unders (slice_index_or signs j Even ∷ drop (suc j) signs) ≤ 1 + unders (ms ++ drop (suc j + 1) signs))
          × (bound lines (slice_index_or signs j Even ∷ drop (suc j) signs)
          (slice_index_or segments j [] ∷ slice_index_or segments (suc j) [] ∷ drop (suc j + 1) segments)
          ≤ 1 + bound later (ms ++ drop (suc j + 1) signs) (slice_index_or segments j [] ∷ (news ++ drop (suc j + 1) segments)))
      last = from_last lines later keeps (slice_index_or signs j Even) (drop (suc j) signs) (slice_index_or segments j [])
          (slice_index_or segments (suc j) []) (drop (suc j + 1) segments) ms (drop (suc j + 1) signs) news
          (f.low j refl) (f.some (omega arith)) f.first (either f.behind)

      least : bound lines (drop j signs) (drop j segments)
          ≤ 1 + bound later (ms ++ drop (suc j + 1) signs) (slice_index_or segments j [] ∷ (news ++ drop (suc j + 1) segments))
      least = omega (arith, last.1, here)
        where
          here : bound lines (drop j signs) (drop j segments)
              ≡ bound lines (slice_index_or signs j Even ∷ drop (suc j) signs)
              (slice_index_or segments j [] ∷ slice_index_or segments (suc j) [] ∷ drop (suc j + 1) segments)
          here = λ i. bound lines (signs_are i) (segments_are i)

      same : bound later ((take (suc j - 1) signs ++ ms) ++ drop (suc j + 1) signs) ((take (suc j) segments ++ news) ++ drop (suc j + 1) segments)
          ≡ bound later (take j signs ++ (ms ++ drop (suc j + 1) signs)) (take j segments ++ slice_index_or segments j [] ∷ (news ++ drop (suc j + 1) segments))
      same = λ i. bound later (left i) (right i)
        where
          back : suc j - 1 ≡ j
          back = omega arith

          left : (take (suc j - 1) signs ++ ms) ++ drop (suc j + 1) signs ≡ take j signs ++ (ms ++ drop (suc j + 1) signs)
          left = (λ i. (take (back i) signs ++ ms) ++ drop (suc j + 1) signs) ∙ append_assoc (take j signs) ms (drop (suc j + 1) signs)

          right : (take (suc j) segments ++ news) ++ drop (suc j + 1) segments ≡ take j segments
              ++ slice_index_or segments j [] ∷ (news ++ drop (suc j + 1) segments)
          right = (λ i. (take-suc segments j [] (omega (arith, few, f.long)) i ++ news) ++ drop (suc j + 1) segments)
              ∙ append_assoc (take j segments ++ slice_index_or segments j [] ∷ []) news (drop (suc j + 1) segments)
              ∙ append_assoc (take j segments) (slice_index_or segments j [] ∷ []) (news ++ drop (suc j + 1) segments)

  apart_bound : (p : ℕ) (signs : List Sign) (segments : List (List ℕ)) (ms : List Sign) (news : List (List ℕ)) → Fits lines later p signs segments ms news
      → bound lines signs segments ≤ 1 + bound later ((take (p - 1) signs ++ ms) ++ drop (p + 1) signs) ((take p segments ++ news) ++ drop (p + 1) segments)
  apart_bound zero signs segments ms news f = at_first signs segments ms news f
  apart_bound (suc j) signs segments ms news f = at_next j signs segments ms news f

-- ---- an outline

low_before : (signs : List Sign) (j : ℕ) → j < valley_place signs → is_above (slice_index_or signs j Even) ≡ false
low_before [] j h = absurd (omega arith)
low_before (Above ∷ signs) j h = absurd (omega arith)
low_before (Even ∷ signs) zero h = refl
low_before (Even ∷ signs) (suc j) h = low_before signs j (omega arith)
low_before (Under ∷ signs) zero h = refl
low_before (Under ∷ signs) (suc j) h = low_before signs j (omega arith)

module _ (o : Outline) (lines : List Bool) (m : Move) (legal : IsLegalMove o m) (shape : Shaped o) (long : length lines ≡ length o.hung) where
  later : List Bool
  later = lines ++ begins_on_line lines (valley_of o) ∷ replicate (m.count - 1) (nat_eq (length o.closed) 0)

  -- a square on a line stays on it
  pub keeps : (q : ℕ) → on_line lines q ≡ true → on_line (lines_after o lines m) q ≡ true
  keeps q e = get_front lines (begins_on_line lines (valley_of o) ∷ replicate (m.count - 1) (nat_eq (length o.closed) 0)) (q - 1) false
      (slice_index_or-true_within lines (q - 1) e) ∙ e

  -- the first new square goes on with the line at the left of the valley
  first_is : on_line (lines_after o lines m) (length o.hung + 1) ≡ begins_on_line lines (valley_of o)
  first_is = get_back lines (begins_on_line lines (valley_of o) ∷ replicate (m.count - 1) (nat_eq (length o.closed) 0)) 0
      (length o.hung + 1 - 1) false (omega (arith, long))

  -- where the valley begins on a line, so do the new squares
  pub first_new : (k : ℕ) → 0 < k → begins_on_line lines (valley_of o) ≡ true
      → next_on_line (lines_after o lines m) (map (λ q. q ∷ []) (numbers_from (length o.hung + 1) k) ++ drop (valley_place o.signs + 1) o.segments) ≡ true
  first_new zero h e = absurd (omega arith)
  first_new (suc k) h e = first_is ∙ e

  a : AroundValley o.signs
  a = around_valley o.signs

  fits : Fits lines (lines_after o lines m) (valley_place o.signs) o.signs o.segments m.signs (map (λ q. q ∷ []) (new_squares o m))
  fits = record {
    long = shape.many;
    within = place_within o.signs;
    behind = a.behind;
    low = λ j e. low_before o.signs j (omega (arith, e));
    some = λ h. omega (arith, legal.signs, legal.some, (wall_test o m legal shape (valley_place o.signs) 0).1 (λ e. absurd (omega (arith, e, h))));
    fit = λ h. same_length o m legal shape h;
    first = λ e. first_new m.count legal.some e;
  }

  -- a legal move lowers it by at most 1
  pub line_bound_after : bound lines o.signs o.segments ≤ 1 + bound (lines_after o lines m) (after_move o m).signs (after_move o m).segments
  line_bound_after = omega (
    arith,
    apart_bound lines (lines_after o lines m) keeps (valley_place o.signs) o.signs o.segments m.signs (map (λ q. q ∷ []) (new_squares o m)) fits,
    joined_bound (lines_after o lines m) (signs_apart o m) (segments_apart o m),
  )

-- ---- along a word

-- lines are told of each square
pub lines_long : (o : Outline) (lines : List Bool) (w : Word) → AreLegalFrom o w → length lines ≡ length o.hung
    → length (lines_along o lines w) ≡ length (after_moves o w).hung
lines_long o lines [] legal e = e
lines_long o lines (m ∷ w) legal e = lines_long (after_move o m) (lines_after o lines m) w legal.1 (omega (
  arith,
  e,
  (legal.0).some,
  length-append lines (begins_on_line lines (valley_of o) ∷ replicate (m.count - 1) (nat_eq (length o.closed) 0)),
  length-replicate (m.count - 1) (nat_eq (length o.closed) 0),
  length-append o.hung (replicate m.count (length o.closed)),
  length-replicate m.count (length o.closed),
))

-- the lines of two parts, one after the other
pub lines-append : (o : Outline) (lines : List Bool) (front rest : Word)
    → lines_along o lines (front ++ rest) ≡ lines_along (after_moves o front) (lines_along o lines front) rest
lines-append o lines [] rest = refl
lines-append o lines (m ∷ front) rest = lines-append (after_move o m) (lines_after o lines m) front rest
