-- The window of numbers whose bottoms the signs of a move of the placing compare.
use Rattle.std.specs.List.{AllByRecursion}
use Rattle.std.proofs.Common.{List, ap, arith, drop, length, map, refl, subst, sym, take, ℕ, ◌++◌, ◌+◌, ◌-◌, ◌∙◌, ◌≡◌, ◌≤◌}
use Rattle.std.proofs.lemmas.List.{append_assoc, length-append, length-map, map-append}
use Rattle.bk_laws.proofs.AllOfLists.{all_append, all_left, all_right}
use Rattle.bk_laws.proofs.ListParts.{take-drop_middle}
use Rattle.bk_tiling.specs.SquareGroups.{laid_group}
use Rattle.bk_tiling.specs.declared.Segment.{Segment}
use Rattle.bk_tiling.specs.declared.Square.{Square}
use Rattle.bk_word.proofs.PlayLists.{numbers-length}
use Rattle.bk_word.specs.Outline.{Outline, valley_of}
use Rattle.bk_word.specs.Play.{numbers_from}
use Rattle.bk_word.specs.declared.Sign.{Sign}
use Rattle.bk_lay.specs.TilingWord.{depth_before, depth_from}
use Rattle.bk_word_net.proofs.Outlines.NumberedValley.{Sees, sees}
use Rattle.bk_skel.specs.PartlyLaid.{CanLay}
use Rattle.bk_skel.proofs.PlacingNumbers.{bottoms_more, bottoms_new, all_known_more, known_new, CutLeft, cut_left, CutRight, cut_right, Window}
use Rattle.bk_word_net.specs.LaidOutline.{IsNumber, back_of, bottom_at, front_of}
use Rattle.bk_skel.proofs.PlacingGap.{known_numbers, front_is, back_is}
use Rattle.bk_skel.proofs.NumbersAfter.{group_long, long}

module _ (width : ℕ) (laid : List Square) (numbers : List ℕ) (first end : ℕ) (signs : List Sign) (new : List ℕ) (o : Outline)
    (c : CanLay (record { width = width; laid = laid; numbers = numbers }) (record { first = first; end = end; signs = signs; sides = new }) o) where
  abbrev seen : Sees width laid o
  seen = sees width laid o ((c.partly).shows) ((c.partly).some)

  abbrev gap : Segment
  gap = (sees width laid o ((c.partly).shows) ((c.partly).some)).valley

  front : take first numbers ≡ front_of o
  front = front_is width laid numbers first end signs new o c

  back : drop end numbers ≡ back_of o
  back = back_is width laid numbers first end signs new o c

  all_known : AllByRecursion (IsNumber laid) (front_of o ++ (valley_of o ++ back_of o))
  all_known = known_numbers width laid numbers first end signs new o c

  new_long : length (laid_group gap.x gap.level new) ≡ length new
  new_long = group_long width laid numbers first end signs new o c

  laid_long : length (laid ++ laid_group gap.x gap.level new) ≡ length laid + length new
  laid_long = long width laid numbers first end signs new o c

  module _ (l : CutLeft laid (front_of o) (depth_before laid gap.x)) (r : CutRight laid (back_of o) (depth_from width laid (gap.x + gap.width))) where
    row : (take first numbers ++ numbers_from (length laid + 1) (length new)) ++ drop end numbers ≡ l.others
        ++ (((l.beside ++ numbers_from (length laid + 1) (length new)) ++ r.beside) ++ r.others)
    row = (λ i. ((front ∙ l.is) i ++ numbers_from (length laid + 1) (length new)) ++ (back ∙ r.is) i)
        ∙ ap (λ (ns : List ℕ). ns ++ (r.beside ++ r.others)) (append_assoc l.others l.beside (numbers_from (length laid + 1) (length new)))
        ∙ append_assoc l.others (l.beside ++ numbers_from (length laid + 1) (length new)) (r.beside ++ r.others)
        ∙ ap (λ (ns : List ℕ). l.others ++ ns) (sym (append_assoc (l.beside ++ numbers_from (length laid + 1) (length new)) r.beside r.others))

    left_long : length (depth_before laid gap.x) ≡ length l.beside
    left_long = ap length l.depths_are ∙ length-map l.beside (bottom_at laid)

    right_long : length (depth_from width laid (gap.x + gap.width)) ≡ length r.beside
    right_long = ap length r.depths_are ∙ length-map r.beside (bottom_at laid)

    count : length signs + 1 ≡ length ((l.beside ++ numbers_from (length laid + 1) (length new)) ++ r.beside)
    count = omega (
      arith,
      seen.signs (record { count = length new; signs = signs }) c.legal,
      left_long,
      right_long,
      length-append (l.beside ++ numbers_from (length laid + 1) (length new)) r.beside,
      length-append l.beside (numbers_from (length laid + 1) (length new)),
      numbers-length (length laid + 1) (length new),
    )

    window_is : take (length signs + 1) (drop (first - 1)
        ((take first numbers ++ numbers_from (length laid + 1) (length new)) ++ drop end numbers))
        ≡ (l.beside ++ numbers_from (length laid + 1) (length new)) ++ r.beside
    window_is = ap (λ (ns : List ℕ). take (length signs + 1) (drop (first - 1) ns)) row
        ∙ take-drop_middle l.others ((l.beside ++ numbers_from (length laid + 1) (length new)) ++ r.beside) r.others (first - 1) (length signs + 1)
        (omega (arith, l.place, c.first_is)) count

    left_known : AllByRecursion (IsNumber laid) l.beside
    left_known = all_right (IsNumber laid) l.others l.beside
        (subst (AllByRecursion (IsNumber laid)) l.is (all_left (IsNumber laid) (front_of o) (valley_of o ++ back_of o) all_known))

    right_known : AllByRecursion (IsNumber laid) r.beside
    right_known = all_left (IsNumber laid) r.beside r.others
        (subst (AllByRecursion (IsNumber laid)) r.is
        (all_right (IsNumber laid) (valley_of o) (back_of o) (all_right (IsNumber laid) (front_of o) (valley_of o ++ back_of o) all_known)))

    new_bottoms : map (bottom_at (laid ++ laid_group gap.x gap.level new)) (numbers_from (length laid + 1) (length new))
        ≡ map (λ q. q.y + q.s) (laid_group gap.x gap.level new)
    new_bottoms = ap (λ (k : ℕ). map (bottom_at (laid ++ laid_group gap.x gap.level new)) (numbers_from (length laid + 1) k)) (sym new_long)
        ∙ bottoms_new laid (laid_group gap.x gap.level new) (length laid + 1) refl

    bottoms : map (bottom_at (laid ++ laid_group gap.x gap.level new)) ((l.beside ++ numbers_from (length laid + 1) (length new)) ++ r.beside)
        ≡ depth_before laid gap.x ++ map (λ q. q.y + q.s) (laid_group gap.x gap.level new) ++ depth_from width laid (gap.x + gap.width)
    bottoms = map-append (bottom_at (laid ++ laid_group gap.x gap.level new)) (l.beside ++ numbers_from (length laid + 1) (length new)) r.beside
        ∙ ap (λ (ns : List ℕ). ns ++ map (bottom_at (laid ++ laid_group gap.x gap.level new)) r.beside)
        (map-append (bottom_at (laid ++ laid_group gap.x gap.level new)) l.beside (numbers_from (length laid + 1) (length new)))
        ∙ (λ i. ((bottoms_more laid (laid_group gap.x gap.level new) l.beside left_known ∙ sym l.depths_are) i ++ new_bottoms i)
        ++ (bottoms_more laid (laid_group gap.x gap.level new) r.beside right_known ∙ sym r.depths_are) i)

    shown : Window (laid ++ laid_group gap.x gap.level new)
        (take (length signs + 1) (drop (first - 1) ((take first numbers ++ numbers_from (length laid + 1) (length new)) ++ drop end numbers))) signs
        (depth_before laid gap.x ++ map (λ q. q.y + q.s) (laid_group gap.x gap.level new) ++ depth_from width laid (gap.x + gap.width))
    shown = subst (λ (ns : List ℕ). Window (laid ++ laid_group gap.x gap.level new) ns signs
        (depth_before laid gap.x ++ map (λ q. q.y + q.s) (laid_group gap.x gap.level new) ++ depth_from width laid (gap.x + gap.width)))
        (sym window_is) (record {
          known = all_append (IsNumber (laid ++ laid_group gap.x gap.level new)) (l.beside ++ numbers_from (length laid + 1) (length new)) r.beside
              (all_append (IsNumber (laid ++ laid_group gap.x gap.level new)) l.beside (numbers_from (length laid + 1) (length new))
              (all_known_more laid (laid_group gap.x gap.level new) l.beside left_known)
              (known_new (laid ++ laid_group gap.x gap.level new) (length laid + 1) (length new) (omega arith) (omega (arith, laid_long))))
              (all_known_more laid (laid_group gap.x gap.level new) r.beside right_known);
          count = count;
          bottoms = bottoms;
        })

    inside : first - 1 + (length signs + 1) ≤ length ((take first numbers ++ numbers_from (length laid + 1) (length new)) ++ drop end numbers)
    inside = omega (
      arith,
      count,
      l.place,
      c.first_is,
      ap length row,
      length-append l.others (((l.beside ++ numbers_from (length laid + 1) (length new)) ++ r.beside) ++ r.others),
      length-append ((l.beside ++ numbers_from (length laid + 1) (length new)) ++ r.beside) r.others,
    )

  -- the window shows the bottoms that the signs compare
  pub window : Window (laid ++ laid_group gap.x gap.level new)
      (take (length signs + 1) (drop (first - 1) ((take first numbers ++ numbers_from (length laid + 1) (length new)) ++ drop end numbers))) signs
      (depth_before laid gap.x ++ map (λ q. q.y + q.s) (laid_group gap.x gap.level new) ++ depth_from width laid (gap.x + gap.width))
  window = shown (cut_left laid (front_of o) (depth_before laid gap.x) seen.left)
      (cut_right laid (back_of o) (depth_from width laid (gap.x + gap.width)) seen.right)

  -- the window lies within the numbers
  pub window_inside : first - 1 + (length signs + 1) ≤ length ((take first numbers ++ numbers_from (length laid + 1) (length new)) ++ drop end numbers)
  window_inside = inside (cut_left laid (front_of o) (depth_before laid gap.x) seen.left)
      (cut_right laid (back_of o) (depth_from width laid (gap.x + gap.width)) seen.right)

  -- the window lies within the numbers, for lists as the code names them
  pub window_as : (new_laid : List Square) (new_numbers : List ℕ) (left many : ℕ) → new_laid ≡ laid ++ laid_group gap.x gap.level new
      → new_numbers ≡ (take first numbers ++ numbers_from (length laid + 1) (length new)) ++ drop end numbers → left ≡ first - 1 → many ≡ length signs + 1
      → Window new_laid (take many (drop left new_numbers)) signs
      (depth_before laid gap.x ++ map (λ q. q.y + q.s) (laid_group gap.x gap.level new) ++ depth_from width laid (gap.x + gap.width))
  window_as new_laid new_numbers left many a b l m =
      subst (λ (ls : List Square). Window ls (take many (drop left new_numbers)) signs
      (depth_before laid gap.x ++ map (λ q. q.y + q.s) (laid_group gap.x gap.level new) ++ depth_from width laid (gap.x + gap.width))) (sym a)
      (subst (λ (ns : List ℕ). Window (laid ++ laid_group gap.x gap.level new) ns signs
      (depth_before laid gap.x ++ map (λ q. q.y + q.s) (laid_group gap.x gap.level new) ++ depth_from width laid (gap.x + gap.width)))
      (sym (λ i. take (m i) (drop (l i) (b i)))) window)
