-- After a move of one square two lines that touch one closed node stand at one segment: those at the left of one of its squares and at
-- the right of a later one, where the new square's lines are those of the valley.
use Rattle.std.proofs.Common.{List, Some, [], ap, arith, inl, inr, length, refl, slice_get, slice_index_or, subst}
use Rattle.std.proofs.Common.{suc, sym, ℕ, ◌++◌}
use Rattle.std.proofs.Common.{◌+◌, ◌-◌, ◌<◌, ◌∙◌, ◌∷◌, ◌≡◌, ◌⊎◌}
use Rattle.std.proofs.lemmas.Option.{get_or_from_slice_get, slice_get_within}
use Rattle.bk_laws.proofs.ListPlaces.{get_after, get_append, get_back, get_front, get_last, slice_get-of_empty_or_same}
use Rattle.bk_laws.proofs.Occurrences.{times, times-positive_of_slice_get, times_at, times_in-append}
use Rattle.bk_word.specs.Outline.{IsLegalMove, Outline, start, valley_of, valley_place}
use Rattle.bk_word.specs.Play.{IsLegal, after_move, outline_of}
use Rattle.bk_word.specs.Word.{Move, Word}
use Rattle.bk_word.proofs.PlayLaws.{after-snoc}
use Rattle.bk_word_net.proofs.WordFlows.NoLoose.{hung_number}
use Rattle.bk_word_net.proofs.Outlines.Numbering.{numbered_moves, numbered_start}
use Rattle.bk_word_net.proofs.Outlines.Shape.{shaped_moves, shaped_start, valley_in}
use Rattle.bk_layout.specs.LineNumbers.{left_end, lefts_of, new_sides, right_end, sides_at, square_lines}
use Rattle.bk_layout.specs.NodeCut.{ShareANode, TouchesClosed}
use Rattle.bk_free_search.proofs.Boards.TouchedLines.{sides_many, sides_snoc, touch_more}
use Rattle.bk_free_search.specs.Joining.{JoinsLeft, JoinsRight, ShareBefore, ShareBehind, TouchOneNode, TouchOneOf}
use Rattle.bk_free_search.specs.NodeLines.{Has, IsLineOfOne}
use Rattle.bk_free_search.specs.Rights.{rights_of}
use Rattle.bk_free_search.specs.declared.line_set.LineSet.{LineSet}
use Rattle.bk_free_search.proofs.Asks.JoinedSegments.{IsJoined, is_joined}
use Rattle.bk_free_search.proofs.Boards.LeftLines.{index_side}

-- a square that stands open was hung
open_low : (w : Word) (k i a : ℕ) (s : List ℕ) → slice_get (outline_of w).segments k ≡ Some s → slice_get s i ≡ Some a → a - 1 < length (square_lines w)
open_low w k i a s e f = let o = outline_of w in
    let within = hung_number o (numbered_moves start w numbered_start) a (omega (
      arith,
      times-positive_of_slice_get s i a f,
      times_at a k o.segments,
      ap (λ (l : List ℕ). times a l) (get_or_from_slice_get o.segments k s [] e),
      times_in-append a o.closed o.segments,
    )) in
    omega (arith, within.0, within.1, sides_many w)

-- its lines stay
same_sides : (w : Word) (m : Move) (a : ℕ) → a - 1 < length (square_lines w) → sides_at (square_lines (w ++ m ∷ [])) a ≡ sides_at (square_lines w) a
same_sides w m a low = ap (λ (l : List (ℕ × ℕ)). sides_at l a) (sides_snoc w m)
    ∙ get_front (square_lines w) (new_sides (length (outline_of w).hung) m.count (left_end (square_lines w) (valley_of (outline_of w)))
    (right_end (square_lines w) (valley_of (outline_of w)))) (a - 1) (0, 1) low

-- the new square's lines are the valley's ends
new_square : (w : Word) (m : Move) → m.count ≡ 1 → sides_at (square_lines (w ++ m ∷ [])) (length (outline_of w).hung + 1)
    ≡ (left_end (square_lines w) (valley_of (outline_of w)), right_end (square_lines w) (valley_of (outline_of w)))
new_square w m one = ap (λ (l : List (ℕ × ℕ)). sides_at l (length (outline_of w).hung + 1)) (sides_snoc w m)
    ∙ get_back (square_lines w) (new_sides (length (outline_of w).hung) m.count (left_end (square_lines w) (valley_of (outline_of w)))
    (right_end (square_lines w) (valley_of (outline_of w)))) 0 (length (outline_of w).hung + 1 - 1) (0, 1) (omega (arith, sides_many w))
    ∙ ap (λ k. slice_index_or (new_sides (length (outline_of w).hung) k (left_end (square_lines w) (valley_of (outline_of w)))
    (right_end (square_lines w) (valley_of (outline_of w)))) 0 (0, 1)) one

-- two squares stand one after the other at one segment after a move, and these lines are at the left of the first and at the right of the second
record AreSidesOfOne (w : Word) (m : Move) (left right : ℕ) : Type 0 where
  place : ℕ
  numbers : List ℕ
  at : slice_get (after_move (outline_of w) m).segments place ≡ Some numbers
  i : ℕ
  j : ℕ
  order : i < j
  a : ℕ
  b : ℕ
  first : slice_get numbers i ≡ Some a
  second : slice_get numbers j ≡ Some b
  left_is : left ≡ (sides_at (square_lines (w ++ m ∷ [])) a).0
  right_is : right ≡ (sides_at (square_lines (w ++ m ∷ [])) b).1

-- two lines that touch one closed node, at the sides of two squares that stand at one segment after the move
share_after : (w : Word) (m : Move) (left right : ℕ) → AreSidesOfOne w m left right → TouchOneNode w left right → ShareANode (w ++ m ∷ [])
share_after w m left right s touch = record {
  segment = s.place;
  numbers = s.numbers;
  is = ap (λ (o : Outline). slice_get o.segments s.place) (after-snoc start w m) ∙ s.at;
  i = s.i;
  j = s.j;
  a = s.a;
  b = s.b;
  first = s.first;
  second = s.second;
  order = omega (arith, s.order);
  node = touch.node;
  left = subst (λ (line : ℕ). TouchesClosed (outline_of (w ++ m ∷ [])) (square_lines (w ++ m ∷ [])) line touch.node) s.left_is
      (touch_more w m left touch.node touch.at_left);
  right = subst (λ (line : ℕ). TouchesClosed (outline_of (w ++ m ∷ [])) (square_lines (w ++ m ∷ [])) line touch.node) s.right_is
      (touch_more w m right touch.node touch.at_right);
  not_own = λ e f. absurd (omega (arith, e, s.order));
  not_walls = λ e f. touch.not_walls (s.left_is ∙ e) (s.right_is ∙ f);
}

module _ (w : Word) (m : Move) (word : IsLegal w) (legal : IsLegalMove (outline_of w) m) (one : m.count ≡ 1) (left right : List ℕ)
    (l : JoinsLeft (outline_of w) m left) (r : JoinsRight (outline_of w) m right) where
  abbrev number : ℕ
  number = length (outline_of w).hung + 1

  here : IsJoined (outline_of w) m left right
  here = is_joined (outline_of w) (valley_in (outline_of w) (shaped_moves start w word shaped_start)) m legal one left right l r

  left_low : JoinsLeft (outline_of w) m left → (i a : ℕ) → slice_get left i ≡ Some a → a - 1 < length (square_lines w)
  left_low (inl e) i a f = absurd (let g : slice_get [] i ≡ Some a = ap (λ (x : List ℕ). slice_get x i) (sym e) ∙ f in cc)
  left_low (inr (some, e, even)) i a f = open_low w (valley_place (outline_of w).signs - 1) i a left e f

  right_low : JoinsRight (outline_of w) m right → (i a : ℕ) → slice_get right i ≡ Some a → a - 1 < length (square_lines w)
  right_low (inl e) i a f = absurd (let g : slice_get [] i ≡ Some a = ap (λ (x : List ℕ). slice_get x i) (sym e) ∙ f in cc)
  right_low (inr (e, even)) i a f = open_low w (valley_place (outline_of w).signs + 1) i a right e f

  -- places among the squares of the joined segment
  at_before : (i a : ℕ) → slice_get left i ≡ Some a → (slice_get (here.before ++ number ∷ here.behind) i ≡ Some a) × (i < length here.before)
  at_before i a f = let g = slice_get-of_empty_or_same left here.before here.left_is i a f in
      (get_append here.before (number ∷ here.behind) i a g, slice_get_within here.before i a g)

  at_behind : (k b : ℕ) → slice_get right k ≡ Some b → slice_get (here.before ++ number ∷ here.behind) (length here.before + suc k) ≡ Some b
  at_behind k b f =
      get_after here.before (number ∷ here.behind) (suc k) (length here.before + suc k) refl ∙ slice_get-of_empty_or_same right here.behind here.right_is k b f

  -- the line at the left of an earlier square, and that at the right of the new one
  shared_before : (line : ℕ) → line ≡ right_end (square_lines w) (valley_of (outline_of w)) → ShareBefore w left line → ShareANode (w ++ m ∷ [])
  shared_before line is s = let f = at_before s.place s.number s.at in share_after w m (sides_at (square_lines w) s.number).0 line (record {
    place = here.place;
    numbers = here.before ++ number ∷ here.behind;
    at = here.at;
    i = s.place;
    j = length here.before;
    order = f.1;
    a = s.number;
    b = number;
    first = f.0;
    second = get_last here.before number here.behind;
    left_is = ap (λ (p : ℕ × ℕ). p.0) (sym (same_sides w m s.number (left_low l s.place s.number s.at)));
    right_is = is ∙ ap (λ (p : ℕ × ℕ). p.1) (sym (new_square w m one));
  }) s.touch

  -- the line at the right of a later square, and that at the left of the new one or of an earlier one
  shared_behind : (line : ℕ) → line ≡ left_end (square_lines w) (valley_of (outline_of w)) → ShareBehind w line left right → ShareANode (w ++ m ∷ [])
  shared_behind line is s = cases s.touch
    where
      right_line : (sides_at (square_lines w) s.number).1 ≡ (sides_at (square_lines (w ++ m ∷ [])) s.number).1
      right_line = ap (λ (p : ℕ × ℕ). p.1) (sym (same_sides w m s.number (right_low r s.place s.number s.at)))

      cases : TouchOneNode w line (sides_at (square_lines w) s.number).1 ⊎ ShareBefore w left (sides_at (square_lines w) s.number).1 → ShareANode (w ++ m ∷ [])
      cases (inl touch) = share_after w m line (sides_at (square_lines w) s.number).1 (record {
        place = here.place;
        numbers = here.before ++ number ∷ here.behind;
        at = here.at;
        i = length here.before;
        j = length here.before + suc s.place;
        order = omega arith;
        a = number;
        b = s.number;
        first = get_last here.before number here.behind;
        second = at_behind s.place s.number s.at;
        left_is = is ∙ ap (λ (p : ℕ × ℕ). p.0) (sym (new_square w m one));
        right_is = right_line;
      }) touch
      cases (inr b) = let f = at_before b.place b.number b.at in
          share_after w m (sides_at (square_lines w) b.number).0 (sides_at (square_lines w) s.number).1 (record {
            place = here.place;
            numbers = here.before ++ number ∷ here.behind;
            at = here.at;
            i = b.place;
            j = length here.before + suc s.place;
            order = omega (arith, f.1);
            a = b.number;
            b = s.number;
            first = f.0;
            second = at_behind s.place s.number s.at;
            left_is = ap (λ (p : ℕ × ℕ). p.0) (sym (same_sides w m b.number (left_low l b.place b.number b.at)));
            right_is = right_line;
          }) b.touch

  -- ---- by sets of lines

  left_line : (number line : ℕ) → slice_index_or (lefts_of w) (number - 1) 0 ≡ line → line ≡ (sides_at (square_lines w) number).0
  left_line number line e = sym (index_side (λ s. s.0) (square_lines w) (number - 1) ∙ e)

  right_line : (number line : ℕ) → slice_index_or (rights_of w) (number - 1) 1 ≡ line → line ≡ (sides_at (square_lines w) number).1
  right_line number line e = sym (index_side (λ s. s.1) (square_lines w) (number - 1) ∙ e)

  before_share : (first second : ℕ) → IsLineOfOne (lefts_of w) left 0 first → TouchOneNode w first second → ShareBefore w left second
  before_share first second a touch = record {
    place = a.place;
    number = a.number;
    at = a.at;
    touch = subst (λ (k : ℕ). TouchOneNode w k second) (left_line a.number first a.is) touch;
  }

  -- a line at the left of an earlier square, and one at the right of the new one or of a later one
  pub parted_before : (lefts rights ends : LineSet) (line : ℕ) → line ≡ right_end (square_lines w) (valley_of (outline_of w))
      → ((k : ℕ) → Has lefts k → IsLineOfOne (lefts_of w) left 0 k) → ((k : ℕ) → Has rights k → IsLineOfOne (rights_of w) right 1 k)
      → ((k : ℕ) → Has ends k → (k ≡ line) ⊎ Has rights k) → TouchOneOf w lefts ends → ShareANode (w ++ m ∷ [])
  parted_before lefts rights ends line is at_left at_right at_end t = cases (at_end t.right t.in_rights)
    where
      cases : (t.right ≡ line) ⊎ Has rights t.right → ShareANode (w ++ m ∷ [])
      cases (inl e) = shared_before line is (before_share t.left line (at_left t.left t.in_lefts) (subst (λ (k : ℕ). TouchOneNode w t.left k) e t.touch))
      cases (inr has) = let b = at_right t.right has in
          shared_behind (left_end (square_lines w) (valley_of (outline_of w))) refl (record {
            place = b.place;
            number = b.number;
            at = b.at;
            touch = inr (before_share t.left (sides_at (square_lines w) b.number).1 (at_left t.left t.in_lefts)
                (subst (λ (k : ℕ). TouchOneNode w t.left k) (right_line b.number t.right b.is) t.touch));
          })

  -- the line at the left of the new square, and one at the right of a later one
  pub parted_behind : (begins rights : LineSet) (line : ℕ) → line ≡ left_end (square_lines w) (valley_of (outline_of w))
      → ((k : ℕ) → Has rights k → IsLineOfOne (rights_of w) right 1 k) → ((k : ℕ) → Has begins k → k ≡ line)
      → TouchOneOf w begins rights → ShareANode (w ++ m ∷ [])
  parted_behind begins rights line is at_right at_begin t = let b = at_right t.right t.in_rights in
      shared_behind line is (record {
        place = b.place;
        number = b.number;
        at = b.at;
        touch = inl (subst (λ (k : ℕ). TouchOneNode w line k) (right_line b.number t.right b.is)
            (subst (λ (k : ℕ). TouchOneNode w k t.right) (at_begin t.left t.in_lefts) t.touch));
      })
