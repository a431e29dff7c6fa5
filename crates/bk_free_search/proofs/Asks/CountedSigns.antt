-- A pass over the segments after a next move, still apart: how it begins and goes on, sign by sign.
use Rattle.std.proofs.Common.{Bool, List, [], ap, arith, drop, false, filter, length, map, min, nat_eq, refl, slice_index_or, subst, suc, sym, take}
use Rattle.std.proofs.Common.{true, zero, ℕ, ◌++◌, ◌+◌, ◌-◌, ◌<◌, ◌∙◌, ◌∷◌, ◌≡◌, ◌≤◌, ◌⊎◌, inl, inr}
use Rattle.std.proofs.lemmas.Bool.Decides.{nat_tests}
use Rattle.std.proofs.lemmas.List.{drop_more, get_or-drop, get_or-map, length-append, length-drop, length-map, length-take}
use Rattle.bk_laws.proofs.ListPlaces.{get_back, get_front}
use Rattle.bk_word.specs.Outline.{IsLegalMove, Outline, open_side, sizes_of, start, valley_place}
use Rattle.bk_word.specs.Play.{IsLegal, joined, new_squares, outline_of, parts, segments_apart, signs_apart}
use Rattle.bk_word.specs.Word.{Move, Word}
use Rattle.bk_word.specs.declared.Sign.{Sign}
use Rattle.bk_word.specs.declared.Sign.TheVariants.{Above}
use Rattle.bk_word.proofs.PlayLaws.{after-snoc, legal_front, legal_rest}
use Rattle.bk_word.proofs.PlayLists.{numbers-length, place_within}
use Rattle.bk_word_net.proofs.Outlines.Shape.{Shaped}
use Rattle.bk_catalogue.proofs.HangingBounds.BoundsOfWords.{shape_of_word}
use Rattle.bk_catalogue.specs.VerticalCut.{edges_on_lines}
use Rattle.bk_layout.proofs.NormalCuts.PassCounts.{the_pass_counts_the_bound}
use Rattle.bk_layout.proofs.NormalCuts.StrongParts.{weight_joined}
use Rattle.bk_layout.proofs.NormalCuts.WideSegments.{wide_long}
use Rattle.bk_layout.specs.StrongBound.{strong_bound_of, strong_from, weight_from, weight_of}
use Rattle.bk_layout.specs.StrongPass.{IsBoundCounted, IsNoMore, Passed, none_passed, pass, pass_along}
use Rattle.bk_layout.specs.WordNumbers.{first_count}
use Rattle.bk_free_search.proofs.Asks.PassesOn.{Segments, fewer_marks, goes_on, mark_before}
use Rattle.bk_free_search.specs.Strong.{with_mark}
use Rattle.bk_free_search.proofs.Asks.SharedMarks.{shared_long, strong_shared}
use Rattle.bk_free_search.specs.Apart.{IsCountedTo, marks_apart, marks_of_word, sizes_apart}
use Rattle.bk_laws.proofs.NumberOrder.{le-same_or_less, zero_or_positive}

wall_side : (a b : ℕ) → a ≡ b → open_side (nat_eq a b) ≡ 0
wall_side a b e = grind (arith, nat_tests)

no_wall : (a b : ℕ) → (a ≡ b → ⊥) → open_side (nat_eq a b) ≡ 1
no_wall a b e = grind (arith, nat_tests)

-- how many sides are open
pub left_open : (p : ℕ) → open_side (nat_eq p 0) ≡ min p 1
left_open p = cases (zero_or_positive p)
  where
    cases : (p ≡ 0) ⊎ (0 < p) → open_side (nat_eq p 0) ≡ min p 1
    cases (inl e) = omega (arith, e, wall_side p 0 e)
    cases (inr h) = omega (arith, h, no_wall p 0 (λ e. absurd (omega (arith, e, h))))

-- behind place p of n signs the valley has as many open sides as signs are left, at most one
pub right_open : (p n : ℕ) → p ≤ n → open_side (nat_eq p n) ≡ min (n - p) 1
right_open p n within = cases (le-same_or_less p n within)
  where
    cases : (p ≡ n) ⊎ (p < n) → open_side (nat_eq p n) ≡ min (n - p) 1
    cases (inl e) = omega (arith, e, wall_side p n e)
    cases (inr h) = omega (arith, h, no_wall p n (λ e. absurd (omega (arith, e, h))))

-- one segment on
one_on : (all : Segments) (i : ℕ) (p : Passed) (sign : Sign) (size : ℕ) (mark : Bool)
    → length all.sizes ≡ length all.signs + 1 → length all.marks ≡ length all.signs + 1 → i < length all.signs → slice_index_or all.signs i Above ≡ sign
    → slice_index_or all.sizes i 0 ≡ size → (mark ≡ true → slice_index_or all.marks i false ≡ true)
    → IsNoMore (pass_along (pass p sign size mark) (drop (i + 1) all.signs) (drop (i + 1) all.sizes) (drop (i + 1) all.marks))
    (pass_along p (drop i all.signs) (drop i all.sizes) (drop i all.marks))
one_on all i p sign size mark many long low s z k = subst
    (IsNoMore (pass_along (pass p sign size mark) (drop (i + 1) all.signs) (drop (i + 1) all.sizes) (drop (i + 1) all.marks))) (sym same)
    (goes_on (pass p sign size mark) (pass p sign size (slice_index_or all.marks i false)) (drop (i + 1) all.signs) (drop (i + 1) all.sizes)
    (drop (i + 1) all.marks)
    (omega (arith, low, many, length-drop (i + 1) all.signs, length-drop (i + 1) all.sizes))
    (omega (arith, low, many, long, length-drop (i + 1) all.sizes, length-drop (i + 1) all.marks))
    (fewer_marks p sign size mark (slice_index_or all.marks i false) k))
  where
    same : pass_along p (drop i all.signs) (drop i all.sizes) (drop i all.marks)
        ≡ pass_along (pass p sign size (slice_index_or all.marks i false)) (drop (i + 1) all.signs) (drop (i + 1) all.sizes) (drop (i + 1) all.marks)
    same = (λ j. pass_along p (drop_more all.signs i Above low j) (drop_more all.sizes i 0 (omega (arith, low, many)) j)
        (drop_more all.marks i false (omega (arith, low, long)) j))
        ∙ (λ j. pass_along (pass p (s j) (z j) (slice_index_or all.marks i false)) (drop (i + 1) all.signs) (drop (i + 1) all.sizes)
        (drop (i + 1) all.marks))

module _ (front : Word) (m : Move) (legal : IsLegal (front ++ m ∷ [])) where
  -- the last move of a legal word is legal after the moves before it
  pub legal_move : IsLegalMove (outline_of front) m
  legal_move = (legal_rest start front (m ∷ []) legal).0

  -- the outline before the last move of a legal word is shaped
  pub shape : Shaped (outline_of front)
  shape = shape_of_word front (legal_front start front (m ∷ []) legal)

  -- how many signs the move has
  pub move_long : length m.signs + 1 ≡ m.count + min (valley_place (outline_of front).signs) 1
      + min (length (outline_of front).signs - valley_place (outline_of front).signs) 1
  move_long = omega (
    arith,
    (legal_move).signs,
    left_open (valley_place (outline_of front).signs),
    right_open (valley_place (outline_of front).signs) (length (outline_of front).signs) (place_within (outline_of front).signs),
  )

  -- how many signs and segments there are
  pub signs_long : length (signs_apart (outline_of front) m) ≡ (valley_place (outline_of front).signs - 1) + length m.signs
      + (length (outline_of front).signs - (valley_place (outline_of front).signs + 1))
  signs_long = omega (
    arith,
    place_within (outline_of front).signs,
    length-append (take (valley_place (outline_of front).signs - 1) (outline_of front).signs ++ m.signs)
        (drop (valley_place (outline_of front).signs + 1) (outline_of front).signs),
    length-append (take (valley_place (outline_of front).signs - 1) (outline_of front).signs) m.signs,
    length-take (valley_place (outline_of front).signs - 1) (outline_of front).signs,
    length-drop (valley_place (outline_of front).signs + 1) (outline_of front).signs,
  )

  -- the segments before the valley, with the new squares behind, are as many as its place and the move's count
  pub new_long : length (take (valley_place (outline_of front).signs) (outline_of front).segments ++ map (λ q. q ∷ []) (new_squares (outline_of front) m))
      ≡ valley_place (outline_of front).signs + m.count
  new_long = omega (
    arith,
    place_within (outline_of front).signs,
    (shape).many,
    length-append (take (valley_place (outline_of front).signs) (outline_of front).segments) (map (λ q. q ∷ []) (new_squares (outline_of front) m)),
    length-take (valley_place (outline_of front).signs) (outline_of front).segments,
    length-map (new_squares (outline_of front) m) (λ (q : ℕ). q ∷ []),
    numbers-length (length (outline_of front).hung + 1) m.count,
  )

  -- after a move, all still apart, there is one segment more than signs
  pub segments_long : length (segments_apart (outline_of front) m) ≡ length (signs_apart (outline_of front) m) + 1
  segments_long = omega (
    arith,
    place_within (outline_of front).signs,
    (shape).many,
    (legal_move).some,
    move_long,
    signs_long,
    new_long,
    length-append (take (valley_place (outline_of front).signs) (outline_of front).segments ++ map (λ q. q ∷ []) (new_squares (outline_of front) m))
        (drop (valley_place (outline_of front).signs + 1) (outline_of front).segments),
    length-drop (valley_place (outline_of front).signs + 1) (outline_of front).segments,
  )

  -- after a move, all still apart, there is one size more than signs
  pub sizes_long : length (sizes_apart front m) ≡ length (signs_apart (outline_of front) m) + 1
  sizes_long = omega (arith, segments_long, length-map (segments_apart (outline_of front) m) (λ (s : List ℕ). length s))

  marks_then : length (marks_of_word (front ++ m ∷ [])) ≡ length (filter parts (signs_apart (outline_of front) m)) + 1
  marks_then = omega (
    arith,
    wide_long (first_count (front ++ m ∷ [])) (edges_on_lines (front ++ m ∷ [])) (outline_of (front ++ m ∷ [])).segments,
    (shape_of_word (front ++ m ∷ []) legal).many,
    ap (λ (o : Outline). length o.signs) (after-snoc start front m),
  )

  -- after a move, all still apart, there is one mark more than signs
  pub marks_long : length (marks_apart front m) ≡ length (signs_apart (outline_of front) m) + 1
  marks_long = shared_long (signs_apart (outline_of front) m) (marks_of_word (front ++ m ∷ [])) marks_then

  -- before the first segment nothing is counted
  pub counted_none : IsCountedTo front m 0 none_passed
  counted_none = onto (the_pass_counts_the_bound (signs_apart (outline_of front) m) (sizes_apart front m) (marks_apart front m) sizes_long
      (omega (arith, sizes_long, marks_long)))
    where
      bound : strong_bound_of (front ++ m ∷ []) ≡ strong_from true (filter parts (signs_apart (outline_of front) m))
          (map length (joined (signs_apart (outline_of front) m) (segments_apart (outline_of front) m))) (marks_of_word (front ++ m ∷ []))
      bound = ap (λ (o : Outline). strong_from true o.signs (sizes_of o) (marks_of_word (front ++ m ∷ []))) (after-snoc start front m)

      weight : weight_of (front ++ m ∷ []) ≡ weight_from true (filter parts (signs_apart (outline_of front) m))
          (map length (joined (signs_apart (outline_of front) m) (segments_apart (outline_of front) m)))
      weight = ap (λ (o : Outline). weight_from true o.signs (sizes_of o)) (after-snoc start front m)

      onto : IsBoundCounted (signs_apart (outline_of front) m) (sizes_apart front m) (marks_apart front m) → IsCountedTo front m 0 none_passed
      onto c = record {
        most = omega (
          arith,
          c.bound,
          bound,
          strong_shared true (signs_apart (outline_of front) m) (segments_apart (outline_of front) m) (marks_of_word (front ++ m ∷ [])),
        );
        more = omega (arith, c.weight, weight, weight_joined true (signs_apart (outline_of front) m) (segments_apart (outline_of front) m));
      }

  -- behind a segment with a sign behind it, which has at most the mark that it shares
  pub counted_more : (i : ℕ) (p : Passed) (sign : Sign) (size : ℕ) (mark : Bool) → i < length (signs_apart (outline_of front) m) → IsCountedTo front m i p
      → slice_index_or (signs_apart (outline_of front) m) i Above ≡ sign → slice_index_or (sizes_apart front m) i 0 ≡ size
      → (mark ≡ true → slice_index_or (marks_apart front m) i false ≡ true) → IsCountedTo front m (i + 1) (pass p sign size mark)
  counted_more i p sign size mark low h s z k = onto (one_on
      (record { signs = signs_apart (outline_of front) m; sizes = sizes_apart front m; marks = marks_apart front m }) i p sign size mark
      sizes_long marks_long low s z k)
    where
      onto : IsNoMore (pass_along (pass p sign size mark) (drop (i + 1) (signs_apart (outline_of front) m)) (drop (i + 1) (sizes_apart front m))
          (drop (i + 1) (marks_apart front m)))
          (pass_along p (drop i (signs_apart (outline_of front) m)) (drop i (sizes_apart front m)) (drop i (marks_apart front m)))
          → IsCountedTo front m (i + 1) (pass p sign size mark)
      onto l = record { most = omega (arith, l.most, h.most); more = omega (arith, l.more, h.more) }

  -- the mark of the segment at the place may be counted before it
  pub counted_mark : (i : ℕ) (p : Passed) → i ≤ length (signs_apart (outline_of front) m) → IsCountedTo front m i p
      → slice_index_or (marks_apart front m) i false ≡ true → IsCountedTo front m i (with_mark p)
  counted_mark i p low h k = onto (mark_before p (drop i (signs_apart (outline_of front) m)) (drop i (sizes_apart front m)) (drop i (marks_apart front m))
      (omega (
        arith,
        low,
        sizes_long,
        length-drop i (signs_apart (outline_of front) m),
        length-drop i (sizes_apart front m),
      ))
      (omega (
        arith,
        sizes_long,
        marks_long,
        length-drop i (sizes_apart front m),
        length-drop i (marks_apart front m),
      ))
      (get_or-drop i (marks_apart front m) 0 false ∙ ap (λ j. slice_index_or (marks_apart front m) j false) zeroth ∙ k))
    where
      zeroth : i + 0 ≡ i
      zeroth = omega arith

      onto : IsNoMore (pass_along (with_mark p) (drop i (signs_apart (outline_of front) m)) (drop i (sizes_apart front m)) (drop i (marks_apart front m)))
          (pass_along p (drop i (signs_apart (outline_of front) m)) (drop i (sizes_apart front m)) (drop i (marks_apart front m)))
          → IsCountedTo front m i (with_mark p)
      onto l = record { most = omega (arith, l.most, h.most); more = omega (arith, l.more, h.more) }

  -- ---- the signs and the new squares at their places

  -- a sign that lies before the one at the valley's left stays when a move is played
  pub sign_before : (i : ℕ) → i + 1 < valley_place (outline_of front).signs
      → slice_index_or (signs_apart (outline_of front) m) i Above ≡ slice_index_or (outline_of front).signs i Above
  sign_before i low = get_front (take (valley_place (outline_of front).signs - 1) (outline_of front).signs ++ m.signs)
      (drop (valley_place (outline_of front).signs + 1) (outline_of front).signs) i Above (omega (arith, within, long))
      ∙ get_front (take (valley_place (outline_of front).signs - 1) (outline_of front).signs) m.signs i Above within
      ∙ taken (valley_place (outline_of front).signs - 1) (outline_of front).signs i (omega (arith, low))
    where
      taken : (n : ℕ) (xs : List Sign) (i : ℕ) → i < n → slice_index_or (take n xs) i Above ≡ slice_index_or xs i Above
      taken zero xs i h = absurd (omega (arith, h))
      taken (suc n) [] i h = refl
      taken (suc n) (x ∷ xs) zero h = refl
      taken (suc n) (x ∷ xs) (suc i) h = taken n xs i (omega (arith, h))

      within : i < length (take (valley_place (outline_of front).signs - 1) (outline_of front).signs)
      within = omega (arith, low, place_within (outline_of front).signs, length-take (valley_place (outline_of front).signs - 1) (outline_of front).signs)

      long : length (take (valley_place (outline_of front).signs - 1) (outline_of front).signs ++ m.signs)
          ≡ length (take (valley_place (outline_of front).signs - 1) (outline_of front).signs) + length m.signs
      long = length-append (take (valley_place (outline_of front).signs - 1) (outline_of front).signs) m.signs

  -- a move's own signs stand from the sign at the valley's left on
  pub sign_at : (t : ℕ) → t < length m.signs
      → slice_index_or (signs_apart (outline_of front) m) (valley_place (outline_of front).signs - 1 + t) Above ≡ slice_index_or m.signs t Above
  sign_at t low = get_front (take (valley_place (outline_of front).signs - 1) (outline_of front).signs ++ m.signs)
      (drop (valley_place (outline_of front).signs + 1) (outline_of front).signs) (valley_place (outline_of front).signs - 1 + t) Above
      (omega (arith, low, long, length-append (take (valley_place (outline_of front).signs - 1) (outline_of front).signs) m.signs))
      ∙ get_back (take (valley_place (outline_of front).signs - 1) (outline_of front).signs) m.signs t (valley_place (outline_of front).signs - 1 + t) Above
      (omega (arith, long))
    where
      long : length (take (valley_place (outline_of front).signs - 1) (outline_of front).signs) ≡ valley_place (outline_of front).signs - 1
      long = omega (arith, place_within (outline_of front).signs, length-take (valley_place (outline_of front).signs - 1) (outline_of front).signs)

  -- each new square is one
  pub one_at : (j : ℕ) → j < m.count → length (slice_index_or (segments_apart (outline_of front) m) (valley_place (outline_of front).signs + j) []) ≡ 1
  one_at j low = ap (λ (s : List ℕ). length s) (get_front
      (take (valley_place (outline_of front).signs) (outline_of front).segments ++ map (λ q. q ∷ []) (new_squares (outline_of front) m))
      (drop (valley_place (outline_of front).signs + 1) (outline_of front).segments) (valley_place (outline_of front).signs + j) []
      (omega (arith, low, new_long))
      ∙ get_back (take (valley_place (outline_of front).signs) (outline_of front).segments) (map (λ q. q ∷ []) (new_squares (outline_of front) m)) j
      (valley_place (outline_of front).signs + j) [] (omega (
        arith,
        place_within (outline_of front).signs,
        (shape).many,
        length-take (valley_place (outline_of front).signs) (outline_of front).segments,
      ))
      ∙ get_or-map (λ q. q ∷ []) (new_squares (outline_of front) m) j 0 [] (omega (arith, low, numbers-length (length (outline_of front).hung + 1) m.count)))

  -- each new square is a segment of one square, from the valley's place on
  pub size_at : (j : ℕ) → j < m.count → slice_index_or (sizes_apart front m) (valley_place (outline_of front).signs + j) 0 ≡ 1
  size_at j low = get_or-map length (segments_apart (outline_of front) m) (valley_place (outline_of front).signs + j) [] 0
      (omega (arith, low, segments_long, signs_long, move_long, place_within (outline_of front).signs)) ∙ one_at j low
