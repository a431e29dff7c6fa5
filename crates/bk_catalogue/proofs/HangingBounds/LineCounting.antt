-- What a pass over the open segments has counted up to a place, with the lines that touch them.
use Rattle.std.specs.List.{list_any, sum}
use Rattle.std.proofs.Common.{Bool, List, [], ap, arith, cond, drop, false, length, max, refl, slice_index_or, sym, take, ℕ, ◌||◌, ◌+◌, ◌<◌, ◌∙◌, ◌∷◌, ◌≡◌, ◌≤◌}
use Rattle.std.proofs.lemmas.List.{drop-drop, drop_all, drop_more}
use Rattle.bk_laws.proofs.Sums.{sum-cons_first}
use Rattle.bk_laws.proofs.TestsAsNumbers.{cond_count-le_one}
use Rattle.bk_word.specs.Signs.{is_above, is_under}
use Rattle.bk_word.specs.declared.Sign.{Sign}
use Rattle.bk_word.specs.declared.Sign.TheVariants.{Above, Even, Under}
use Rattle.bk_catalogue.proofs.HangingBounds.ClosingLaws.{unders, unders-cons}
use Rattle.bk_catalogue.proofs.HangingBounds.JoinedLines.{bound_unders}
use Rattle.bk_catalogue.specs.VerticalCut.{begins_on_line, line_bound, next_on_line, on_line, segments_of, touched}

-- the greatest number of closings of the segments up to a place by the signs up to it, and how many of these are above
pub record IsLined (signs : List Sign) (sizes ends : List ℕ) (lines : List Bool) (i start most aboves : ℕ) : Type 0 where
  pub split : line_bound signs (touched lines (segments_of sizes ends))
      ≡ max (most + unders (drop i signs)) (aboves + line_bound (drop i signs) (touched lines (segments_of (drop i sizes) (drop start ends))))
  pub within : start + sum (drop i sizes) ≤ length ends
  pub few : aboves ≤ i
  pub low : most ≤ i + 1

module _ (signs : List Sign) (sizes ends : List ℕ) (lines : List Bool) (long : length sizes ≡ length signs + 1) where
  -- before the first segment nothing is counted
  pub lined_start : sum sizes ≤ length ends → IsLined signs sizes ends lines 0 0 0 0
  lined_start enough = record {
    split = omega (arith, few sizes long);
    within = omega (arith, enough);
    few = omega arith;
    low = omega arith;
  }
    where
      few : (sizes : List ℕ) → length sizes ≡ length signs + 1 → unders signs ≤ line_bound signs (touched lines (segments_of sizes ends))
      few [] e = absurd (omega arith)
      few (n ∷ sizes) e = bound_unders lines signs (take n ends) (segments_of sizes (drop n ends))

  module _ (i start : ℕ) (h : i < length signs) where
    sizes_here : drop i sizes ≡ slice_index_or sizes i 0 ∷ drop (i + 1) sizes
    sizes_here = drop_more sizes i 0 (omega (arith, h, long))

    sizes_next : drop (i + 1) sizes ≡ slice_index_or sizes (i + 1) 0 ∷ drop (i + 1 + 1) sizes
    sizes_next = drop_more sizes (i + 1) 0 (omega (arith, h, long))

    -- both segments lie within the squares
    pub two_within : (most aboves : ℕ) → IsLined signs sizes ends lines i start most aboves
        → start + slice_index_or sizes i 0 + slice_index_or sizes (i + 1) 0 ≤ length ends
    two_within most aboves c = omega (
      arith,
      c.within,
      ap sum sizes_here,
      ap sum sizes_next,
      sum-cons_first (slice_index_or sizes i 0) (drop (i + 1) sizes),
      sum-cons_first (slice_index_or sizes (i + 1) 0) (drop (i + 1 + 1) sizes),
    )

    abbrev mark : Bool
    mark = list_any (on_line lines) (take (slice_index_or sizes i 0) (drop start ends)) || begins_on_line lines
        (take (slice_index_or sizes (i + 1) 0) (drop (start + slice_index_or sizes i 0) ends))

    first_behind : next_on_line lines (segments_of (drop (i + 1) sizes) (drop (slice_index_or sizes i 0) (drop start ends)))
        ≡ begins_on_line lines (take (slice_index_or sizes (i + 1) 0) (drop (start + slice_index_or sizes i 0) ends))
    first_behind = λ j. next_on_line lines (segments_of (sizes_next j) (drop-drop (slice_index_or sizes i 0) start ends j))

    marks_here : touched lines (segments_of (drop i sizes) (drop start ends))
        ≡ mark ∷ touched lines (segments_of (drop (i + 1) sizes) (drop (start + slice_index_or sizes i 0) ends))
    marks_here = (λ j. touched lines (segments_of (sizes_here j) (drop start ends)))
        ∙ (λ j. (list_any (on_line lines) (take (slice_index_or sizes i 0) (drop start ends)) || first_behind j)
        ∷ touched lines (segments_of (drop (i + 1) sizes) (drop-drop (slice_index_or sizes i 0) start ends j)))

    split_here : (g : Sign) → slice_index_or signs i Above ≡ g → line_bound (drop i signs) (touched lines (segments_of (drop i sizes) (drop start ends)))
        ≡ max (unders (g ∷ drop (i + 1) signs) + cond {A = ℕ} mark 1 0)
        (cond {A = ℕ} (is_above g) 1 0 + line_bound (drop (i + 1) signs)
        (touched lines (segments_of (drop (i + 1) sizes) (drop (start + slice_index_or sizes i 0) ends))))
    split_here g e = λ j. line_bound ((drop_more signs i Above h ∙ ap (λ (s : Sign). s ∷ drop (i + 1) signs) e) j) (marks_here j)

    unders_here : (g : Sign) → slice_index_or signs i Above ≡ g → unders (drop i signs) ≡ unders (g ∷ drop (i + 1) signs)
    unders_here g e = ap unders (drop_more signs i Above h ∙ ap (λ (s : Sign). s ∷ drop (i + 1) signs) e)

    one : cond {A = ℕ} mark 1 0 ≤ 1
    one = cond_count-le_one mark

    -- the greatest number so far with this segment, and what is counted behind it
    module _ (most aboves m here a s : ℕ) (c : IsLined signs sizes ends lines i start most aboves)
        (more : here ≡ max most (aboves + cond {A = ℕ} mark 1 0)) (next : s ≡ start + slice_index_or sizes i 0) where
      after : (g : Sign) → slice_index_or signs i Above ≡ g → m ≡ here + cond {A = ℕ} (is_under g) 1 0
          → a ≡ aboves + cond {A = ℕ} (is_above g) 1 0 → a ≤ i + 1 → m ≤ i + 2 → IsLined signs sizes ends lines (i + 1) s m a
      after g e f k few low = record {
        split = omega (arith, c.split, more, f, k, split_here g e, unders_here g e, unders-cons g (drop (i + 1) signs), place);
        within = omega (arith, c.within, next, ap sum sizes_here, sum-cons_first (slice_index_or sizes i 0) (drop (i + 1) sizes));
        few = few;
        low = omega (arith, low);
      }
        where
          place : line_bound (drop (i + 1) signs) (touched lines (segments_of (drop (i + 1) sizes) (drop s ends)))
              ≡ line_bound (drop (i + 1) signs) (touched lines (segments_of (drop (i + 1) sizes) (drop (start + slice_index_or sizes i 0) ends)))
          place = λ j. line_bound (drop (i + 1) signs) (touched lines (segments_of (drop (i + 1) sizes) (drop (next j) ends)))

      -- one segment further, where the sign behind it is above
      pub lined_above : slice_index_or signs i Above ≡ Above → m ≡ here → a ≡ aboves + 1 → IsLined signs sizes ends lines (i + 1) s m a
      lined_above e f k = after Above e (omega (arith, f)) (omega (arith, k)) (omega (arith, k, c.few)) (omega (arith, f, more, one, c.few, c.low))

      -- one segment further, where the sign behind it is even
      pub lined_even : slice_index_or signs i Above ≡ Even → m ≡ here → a ≡ aboves → IsLined signs sizes ends lines (i + 1) s m a
      lined_even e f k = after Even e (omega (arith, f)) (omega (arith, k)) (omega (arith, k, c.few)) (omega (arith, f, more, one, c.few, c.low))

      -- a sign under adds one to what is counted here
      pub lined_under : slice_index_or signs i Above ≡ Under → m ≡ here + 1 → a ≡ aboves → IsLined signs sizes ends lines (i + 1) s m a
      lined_under e f k = after Under e (omega (arith, f)) (omega (arith, k)) (omega (arith, k, c.few)) (omega (arith, f, more, one, c.few, c.low))

  module _ (i start most aboves : ℕ) (e : i ≡ length signs) (c : IsLined signs sizes ends lines i start most aboves) where
    last : drop i sizes ≡ slice_index_or sizes i 0 ∷ []
    last = drop_more sizes i 0 (omega (arith, e, long)) ∙ ap (λ (ns : List ℕ). slice_index_or sizes i 0 ∷ ns) (drop_all (i + 1) sizes (omega (arith, e, long)))

    size_is : slice_index_or sizes i 0 ≡ slice_index_or sizes (length signs) 0
    size_is = λ j. slice_index_or sizes (e j) 0

    -- the last segment's squares are open squares
    pub last_within : start + slice_index_or sizes (length signs) 0 ≤ length ends
    last_within = omega (arith, c.within, ap sum last, sum-cons_first (slice_index_or sizes i 0) [], size_is)

    none_next : (ys : List ℕ) → begins_on_line lines (take 0 ys) ≡ false
    none_next [] = refl
    none_next (y ∷ ys) = refl

    -- with the last segment the bound is counted
    pub lined_end : (result one : ℕ) → one ≡ cond
        (list_any (on_line lines) (take (slice_index_or sizes (length signs) 0) (drop start ends)) || begins_on_line lines
        (take 0 (drop (start + slice_index_or sizes (length signs) 0) ends))) 1 0
        → result ≡ max most (aboves + one) → result ≡ line_bound signs (touched lines (segments_of sizes ends))
    lined_end result one is at = omega (arith, at, is, c.split, ap unders (drop_all i signs (omega (arith, e))), same, place)
      where
        same : line_bound (drop i signs) (touched lines (segments_of (drop i sizes) (drop start ends)))
            ≡ cond {A = ℕ} (list_any (on_line lines) (take (slice_index_or sizes i 0) (drop start ends)) || false) 1 0
        same = λ j. line_bound (drop_all i signs (omega (arith, e)) j) (touched lines (segments_of (last j) (drop start ends)))

        place : ◌≡◌ {A = ℕ} (cond {A = ℕ} (list_any (on_line lines) (take (slice_index_or sizes i 0) (drop start ends)) || false) 1 0)
            (cond {A = ℕ} (list_any (on_line lines) (take (slice_index_or sizes (length signs) 0) (drop start ends)) || begins_on_line lines
            (take 0 (drop (start + slice_index_or sizes (length signs) 0) ends))) 1 0)
        place = λ j. cond {A = ℕ} (list_any (on_line lines) (take (size_is j) (drop start ends)) || sym
            (none_next (drop (start + slice_index_or sizes (length signs) 0) ends)) j) 1 0
