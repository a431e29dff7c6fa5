-- What a move of the placing comes to, for the lists that the code keeps.
use Rattle.std.specs.List.{splice}
use Rattle.std.proofs.Common.{List, ap, drop, length, map, sum, sym}
use Rattle.std.proofs.Common.{take, ℕ, ◌++◌, ◌+◌, ◌-◌, ◌<◌, ◌^◌, ◌∙◌, ◌≡◌, ◌≤◌}
use Rattle.std.proofs.lemmas.List.{append_assoc}
use Rattle.bk_tiling.specs.SquareGroups.{laid_group}
use Rattle.bk_tiling.specs.declared.Segment.{Segment}
use Rattle.bk_tiling.specs.declared.Square.{Square}
use Rattle.bk_word.specs.Outline.{Outline}
use Rattle.bk_word.specs.Play.{numbers_from}
use Rattle.bk_word.specs.declared.Sign.{Sign}
use Rattle.bk_lay.specs.TilingWord.{depth_before, depth_from, signs_between}
use Rattle.bk_skel.specs.PartlyLaid.{CanLay, IsFittingGap}
use Rattle.bk_skel.proofs.PlacingNumbers.{Window}
use Rattle.bk_skel.proofs.PlacingGap.{valley_gap, order, within, new_sides_fit, only, fills_gap, signs_as, fitting_as}
use Rattle.bk_skel.proofs.NumbersAfter.{room, few_after, low_as}
use Rattle.bk_skel.proofs.PlacingWindow.{window_inside, window_as}
use Rattle.bk_word_net.specs.LaidOutline.{FillsValley, IsNumber, bottom_at}

-- what a move that can be laid has: the gap that it fills, and what stands there after it, under the names that the code has
-- for the lists
pub record LaysMove (width : ℕ) (laid : List Square) (numbers : List ℕ) (first end : ℕ) (signs : List Sign) (new : List ℕ) : Type 0 where
  pub valley : Segment
  pub order : first ≤ end
  pub within : end ≤ length numbers
  pub room : length numbers + length new ≤ 200
  pub fits : sum new ≡ valley.width → valley.x + sum new < 2 ^ 63
  pub fitting : (seen_laid : List Square) (seen_numbers : List ℕ) → seen_laid ≡ laid → seen_numbers ≡ numbers
      → IsFittingGap width seen_laid (take (end - first) (drop first seen_numbers)) valley
  pub only : (v : Segment) → FillsValley width laid (record { count = length new; signs = signs }) new v → v ≡ valley
  pub fills : sum new ≡ valley.width
      → signs ≡ signs_between (depth_before laid valley.x ++ map (λ q. q.y + q.s) (laid_group valley.x valley.level new)
      ++ depth_from width laid (valley.x + valley.width))
      → FillsValley width laid (record { count = length new; signs = signs }) new valley
  pub signs_are : (v : Segment) → FillsValley width laid (record { count = length new; signs = signs }) new v
      → signs ≡ signs_between (depth_before laid valley.x ++ map (λ q. q.y + q.s) (laid_group valley.x valley.level new)
      ++ depth_from width laid (valley.x + valley.width))
  pub few : length ((take first numbers ++ numbers_from (length laid + 1) (length new)) ++ drop end numbers) ≤ length laid + length new
  pub inside : first - 1 + (length signs + 1)
      ≤ length ((take first numbers ++ numbers_from (length laid + 1) (length new)) ++ drop end numbers)
  pub low : (new_laid : List Square) → new_laid ≡ laid ++ laid_group valley.x valley.level new
      → (n : ℕ) → IsNumber new_laid n → bottom_at new_laid n < 2 ^ 63
  pub window : (new_laid : List Square) (new_numbers : List ℕ) (left many : ℕ)
      → new_laid ≡ laid ++ laid_group valley.x valley.level new
      → new_numbers ≡ (take first numbers ++ numbers_from (length laid + 1) (length new)) ++ drop end numbers
      → left ≡ first - 1 → many ≡ length signs + 1
      → Window new_laid (take many (drop left new_numbers)) signs
      (depth_before laid valley.x ++ map (λ q. q.y + q.s) (laid_group valley.x valley.level new)
      ++ depth_from width laid (valley.x + valley.width))

-- where the move can be laid, it has that
pub lays_move : {width : ℕ} {laid : List Square} {numbers : List ℕ} {first end : ℕ} {signs : List Sign} {new : List ℕ}
    → (o : Outline) × CanLay (record { width = width; laid = laid; numbers = numbers })
    (record { first = first; end = end; signs = signs; sides = new }) o → LaysMove width laid numbers first end signs new
lays_move {width} {laid} {numbers} {first} {end} {signs} {new} (o, c) = record {
  valley = valley_gap width laid numbers first end signs new o c;
  order = order width laid numbers first end signs new o c;
  within = within width laid numbers first end signs new o c;
  room = room width laid numbers first end signs new o c;
  fits = new_sides_fit width laid numbers first end signs new o c;
  fitting = fitting_as width laid numbers first end signs new o c;
  only = only width laid numbers first end signs new o c;
  fills = fills_gap width laid numbers first end signs new o c;
  signs_are = signs_as width laid numbers first end signs new o c;
  few = few_after width laid numbers first end signs new o c;
  inside = window_inside width laid numbers first end signs new o c;
  low = low_as width laid numbers first end signs new o c;
  window = window_as width laid numbers first end signs new o c;
}

-- what is laid in the gap that the code found
pub laid_as : (g v : Segment) (laid next given : List Square) (new : List ℕ) → g ≡ v → next ≡ laid ++ laid_group g.x g.level new
    → given ≡ next → given ≡ laid ++ laid_group v.x v.level new
laid_as g v laid next given new e f h = h ∙ f ∙ ap (λ (u : Segment). laid ++ laid_group u.x u.level new) e

-- the numbers after the code has put the new ones between
pub numbers_as : (numbers next given : List ℕ) (laid : List Square) (first end from count : ℕ) → from ≡ length laid + 1
    → next ≡ splice numbers first end (numbers_from from count) → given ≡ next
    → given ≡ (take first numbers ++ numbers_from (length laid + 1) count) ++ drop end numbers
numbers_as numbers next given laid first end from count e f h = h ∙ f ∙ sym (append_assoc (take first numbers) (numbers_from from count) (drop end numbers))
    ∙ (λ i. (take first numbers ++ numbers_from (e i) count) ++ drop end numbers)

-- the code's lists after a move, from what its steps say: the gap that it found, the squares that it laid, the numbers that it
-- put between
pub record IsAfterMove (laid : List Square) (numbers : List ℕ) (first end : ℕ) (signs : List Sign) (new : List ℕ) (valley : Segment)
    (laid_then : List Square) (numbers_then : List ℕ) (left many : ℕ) : Type 0 where
  pub laid_is : laid_then ≡ laid ++ laid_group valley.x valley.level new
  pub numbers_are : numbers_then ≡ (take first numbers ++ numbers_from (length laid + 1) (length new)) ++ drop end numbers
  pub left_is : left ≡ first - 1
  pub many_is : many ≡ length signs + 1

-- the window of numbers is that of the move
pub window_then : {width : ℕ} {laid : List Square} {numbers : List ℕ} {first end : ℕ} {signs : List Sign} {new : List ℕ}
    {laid_then : List Square} {numbers_then : List ℕ} {left many : ℕ} → (m : LaysMove width laid numbers first end signs new)
    → IsAfterMove laid numbers first end signs new m.valley laid_then numbers_then left many
    → Window laid_then (take many (drop left numbers_then)) signs
    (depth_before laid (m.valley).x ++ map (λ q. q.y + q.s) (laid_group (m.valley).x (m.valley).level new)
    ++ depth_from width laid ((m.valley).x + (m.valley).width))
window_then {laid_then = ls} {numbers_then = ns} {left = left} {many = many} m s = m.window ls ns left many s.laid_is s.numbers_are s.left_is s.many_is

-- what the code's steps say together
pub after_steps : {laid next_laid laid_then : List Square} {numbers next_numbers numbers_then : List ℕ} {first end from left : ℕ}
    {signs : List Sign} {new : List ℕ} {found valley : Segment} (many : ℕ) → found ≡ valley
    → next_laid ≡ laid ++ laid_group found.x found.level new → laid_then ≡ next_laid → from ≡ length laid + 1
    → next_numbers ≡ splice numbers first end (numbers_from from (length new)) → numbers_then ≡ next_numbers
    → left ≡ first - 1 → many ≡ length signs + 1
    → IsAfterMove laid numbers first end signs new valley laid_then numbers_then left many
after_steps {laid} {next_laid} {laid_then} {numbers} {next_numbers} {numbers_then} {first} {end} {from} {left} {signs} {new} {found} {valley} many e
    pushed given at put put_given l m = record {
      laid_is = laid_as found valley laid next_laid laid_then new e pushed given;
      numbers_are = numbers_as numbers next_numbers numbers_then laid first end from (length new) at put put_given;
      left_is = l;
      many_is = m;
    }
