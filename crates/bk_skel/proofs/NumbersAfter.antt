-- The numbers that stand after a move of the placing: they are few, those of the outline, and those of squares that end low.
use Rattle.std.specs.List.{AllByRecursion, concat}
use Rattle.std.proofs.Common.{List, Some, [], ap, arith, drop, inl, inr, length, slice_get, subst, sym, take, ℕ, ◌*◌, ◌++◌, ◌+◌, ◌-◌, ◌<◌, ◌^◌, ◌∙◌, ◌∷◌, ◌≡◌}
use Rattle.std.proofs.Common.{◌≤◌, ◌⊎◌}
use Rattle.std.proofs.lemmas.List.{length-append}
use Rattle.bk_laws.proofs.AllOfLists.{all_append, all_left, all_right}
use Rattle.bk_laws.proofs.ListPlaces.{get_some}
use Rattle.bk_tiling.proofs.Cells.{from_append}
use Rattle.bk_tiling.proofs.Group.{group_top, length_group}
use Rattle.bk_tiling.specs.KeptTiling.{IsSide}
use Rattle.bk_tiling.specs.SquareGroups.{laid_group}
use Rattle.bk_tiling.specs.Tiling.{IsOneOf}
use Rattle.bk_tiling.specs.declared.Segment.{Segment}
use Rattle.bk_tiling.specs.declared.Square.{Square}
use Rattle.bk_word.proofs.PlayLists.{numbers-length}
use Rattle.bk_word.specs.Outline.{Outline, valley_of}
use Rattle.bk_word.specs.Play.{after_move, numbers_from}
use Rattle.bk_word.specs.declared.Sign.{Sign}
use Rattle.bk_lay.proofs.LaidRuns.{one_of}
use Rattle.bk_word_net.proofs.Outlines.NumberedSquares.{numbered_square}
use Rattle.bk_word_net.proofs.Outlines.NumberedValley.{open_after, sees}
use Rattle.bk_skel.specs.PartlyLaid.{CanLay}
use Rattle.bk_skel.proofs.PlacingNumbers.{all_known_more, known_new}
use Rattle.bk_word_net.specs.LaidOutline.{IsNumber, back_of, bottom_at, front_of}
use Rattle.bk_skel.proofs.PlacingGap.{parts, known_numbers, front_is, back_is, low_level}

module _ (width : ℕ) (laid : List Square) (numbers : List ℕ) (first end : ℕ) (signs : List Sign) (new : List ℕ) (o : Outline)
    (c : CanLay (record { width = width; laid = laid; numbers = numbers }) (record { first = first; end = end; signs = signs; sides = new }) o) where
  abbrev gap : Segment
  gap = (sees width laid o ((c.partly).shows) ((c.partly).some)).valley

  front : take first numbers ≡ front_of o
  front = front_is width laid numbers first end signs new o c

  back : drop end numbers ≡ back_of o
  back = back_is width laid numbers first end signs new o c

  all_known : AllByRecursion (IsNumber laid) (front_of o ++ (valley_of o ++ back_of o))
  all_known = known_numbers width laid numbers first end signs new o c

  -- there is room for the numbers after the move
  pub room : length numbers + length new ≤ 200
  room = omega (arith, (c.partly).few, c.room)

  -- the numbers after the move are few
  pub few_after : length ((take first numbers ++ numbers_from (length laid + 1) (length new)) ++ drop end numbers) ≤ length laid + length new
  few_after = omega (
    arith,
    (c.partly).few,
    length-append (take first numbers ++ numbers_from (length laid + 1) (length new)) (drop end numbers),
    length-append (take first numbers) (numbers_from (length laid + 1) (length new)),
    numbers-length (length laid + 1) (length new),
    ap length front,
    ap length back,
    ap length (parts width laid numbers first end signs new o c),
    length-append (front_of o) (valley_of o ++ back_of o),
    length-append (valley_of o) (back_of o),
  )

  -- the numbers after the move are those of the outline then
  pub numbers_after : (take first numbers ++ numbers_from (length laid + 1) (length new)) ++ drop end numbers
      ≡ concat (after_move o (record { count = length new; signs = signs })).segments
  numbers_after = (λ i. (front i ++ numbers_from (((c.partly).shows).count i + 1) (length new)) ++ back i)
      ∙ sym (open_after o (record { count = length new; signs = signs }))

  -- a square is laid for each side
  pub group_long : length (laid_group gap.x gap.level new) ≡ length new
  group_long = length_group gap.x gap.level new

  -- how many squares are laid after the move
  pub long : length (laid ++ laid_group gap.x gap.level new) ≡ length laid + length new
  long = omega (arith, length-append laid (laid_group gap.x gap.level new), group_long)

  -- the numbers after the move are those of squares
  pub known_after : AllByRecursion (IsNumber (laid ++ laid_group gap.x gap.level new))
      ((take first numbers ++ numbers_from (length laid + 1) (length new)) ++ drop end numbers)
  known_after = all_append (IsNumber (laid ++ laid_group gap.x gap.level new))
      (take first numbers ++ numbers_from (length laid + 1) (length new)) (drop end numbers)
      (all_append (IsNumber (laid ++ laid_group gap.x gap.level new)) (take first numbers) (numbers_from (length laid + 1) (length new))
      (all_known_more laid (laid_group gap.x gap.level new) (take first numbers)
      (subst (AllByRecursion (IsNumber laid)) (sym front) (all_left (IsNumber laid) (front_of o) (valley_of o ++ back_of o) all_known)))
      (known_new (laid ++ laid_group gap.x gap.level new) (length laid + 1) (length new) (omega arith) (omega (arith, long))))
      (all_known_more laid (laid_group gap.x gap.level new) (drop end numbers)
      (subst (AllByRecursion (IsNumber laid)) (sym back)
      (all_right (IsNumber laid) (valley_of o) (back_of o) (all_right (IsNumber laid) (front_of o) (valley_of o ++ back_of o) all_known))))

  sides_low : (x : ℕ) (sides : List ℕ) → AllByRecursion IsSide sides → (q : Square) → IsOneOf q (laid_group x gap.level sides) → q.s ≤ 999_999_999_999_999
  sides_low x [] a q h = absurd h
  sides_low x (s ∷ sides) a q (inl e) = omega (arith, (a.0).1, ap (λ (r : Square). r.s) e)
  sides_low x (s ∷ sides) a q (inr h) = sides_low (x + s) sides a.1 q h

  low_gap : gap.level ≤ 999_999_999_999_999 * length laid
  low_gap = low_level width laid numbers first end signs new o c (valley_of o) (sees width laid o ((c.partly).shows) ((c.partly).some)).gap

  -- no square ends deeper than so many squares reach
  pub low_after : (q : Square) → IsOneOf q (laid ++ laid_group gap.x gap.level new)
      → q.y + q.s ≤ 999_999_999_999_999 * length (laid ++ laid_group gap.x gap.level new)
  low_after q h = cases (from_append laid (laid_group gap.x gap.level new) q h)
    where
      cases : IsOneOf q laid ⊎ IsOneOf q (laid_group gap.x gap.level new) → q.y + q.s ≤ 999_999_999_999_999 * length (laid ++ laid_group gap.x gap.level new)
      cases (inl k) = omega (arith, (c.partly).low q k, long)
      cases (inr k) = omega (arith, long, (c.legal).some, group_top gap.x gap.level new q k, sides_low gap.x new c.sides q k, low_gap)

  -- each bottom after the move is a number that the code can hold
  pub bottom_low : (n : ℕ) → IsNumber (laid ++ laid_group gap.x gap.level new) n → bottom_at (laid ++ laid_group gap.x gap.level new) n < 2 ^ 63
  bottom_low n h = from (get_some (laid ++ laid_group gap.x gap.level new) (n - 1) (omega (arith, h.0, h.1)))
    where
      from : (q : Square) × (slice_get (laid ++ laid_group gap.x gap.level new) (n - 1) ≡ Some q)
          → bottom_at (laid ++ laid_group gap.x gap.level new) n < 2 ^ 63
      from (q, e) = omega (
        arith,
        low_after q (one_of (laid ++ laid_group gap.x gap.level new) (n - 1) q e),
        long,
        c.room,
        ap (λ (r : Square). r.y + r.s) (numbered_square (laid ++ laid_group gap.x gap.level new) n q (n - 1, omega (arith, h.0), e)),
      )

  -- each bottom is a number that the code can hold, for the list as the code names it
  pub low_as : (new_laid : List Square) → new_laid ≡ laid ++ laid_group gap.x gap.level new → (n : ℕ) → IsNumber new_laid n → bottom_at new_laid n < 2 ^ 63
  low_as new_laid e n h = subst (λ (ls : List Square). bottom_at ls n < 2 ^ 63) (sym e) (bottom_low n (subst (λ (ls : List Square). IsNumber ls n) e h))
