-- A segment's squares among all open squares; and numbers in a row.
use Rattle.std.specs.List.{concat}
use Rattle.std.proofs.Common.{Bool, List, [], ap, arith, cond, false, get_or, length, map, nat_eq, slice_range, sum, suc, sym, take, true, zero, ℕ}
use Rattle.std.proofs.Common.{◌++◌, ◌+◌, ◌-◌, ◌<◌, ◌∙◌, ◌∷◌, ◌≡◌, ◌≤◌}
use Rattle.std.proofs.lemmas.List.{length-map}
use Rattle.bk_laws.proofs.ListItems.{get_or-append_at_length}
use Rattle.bk_laws.proofs.Sums.{sum-map_length, sum-take_suc}
use Rattle.bk_play.proofs.EndNodes.{CutAt, cut_at, here_is}
use Rattle.std.proofs.lemmas.List.Sums.{sum_by-cons}
use Rattle.bk_word.specs.Outline.{Outline, start, valley_of, valley_place}
use Rattle.bk_word.specs.Play.{new_squares, numbers_from, outline_of}
use Rattle.bk_word.specs.Word.{Move, Word, order_of}
use Rattle.bk_word_net.proofs.Outlines.Shape.{hung_many}
use Rattle.bk_forms.specs.Form.{Form, with_column}
use Rattle.bk_walk_cuts.specs.SideForms.{level_of, levels_along}

module _ (segments : List (List ℕ)) (i : ℕ) (h : i < length segments) where
  c : CutAt segments i
  c = cut_at segments i h

  many : i < length (map length segments)
  many = omega (arith, h, length-map segments (length {A = ℕ}))

  next : sum (take (suc i) (map length segments)) ≡ sum (take i (map length segments)) + get_or (map length segments) i 0
  next = sum-take_suc (map length segments) i many

  -- the squares of a segment
  pub segment_is : slice_range (concat segments) (sum (take i (map length segments)))
      (sum (take i (map length segments)) + get_or (map length segments) i 0) ≡ get_or segments i []
  segment_is = ap (slice_range (concat segments) (sum (take i (map length segments)))) (sym next) ∙ here_is segments i c
      ∙ sym (ap (λ (l : List (List ℕ)). get_or l i []) c.whole ∙ ap (λ (k : ℕ). get_or (c.front ++ c.here ∷ c.back) k []) (sym c.long)
      ∙ get_or-append_at_length c.front c.here c.back)

  -- a segment's squares end within all open squares
  pub segment_room : sum (take i (map length segments)) + get_or (map length segments) i 0 ≤ length (concat segments)
  segment_room = omega (arith, next, sum-map_length segments, below (suc i) (map length segments))
    where
      below : (n : ℕ) (xs : List ℕ) → sum (take n xs) ≤ sum xs
      below zero [] = omega arith
      below zero (x ∷ xs) = omega arith
      below (suc n) [] = omega arith
      below (suc n) (x ∷ xs) = omega (arith, below n xs, sum_by-cons (λ (m : ℕ). m) x (take n xs), sum_by-cons (λ (m : ℕ). m) x xs)

-- a segment's squares as the code reads them
module _ (segments : List (List ℕ)) (sizes ends : List ℕ) (start i : ℕ) (sizes_are : sizes ≡ map length segments) (ends_are : ends ≡ concat segments)
    (start_is : start ≡ sum (take i sizes)) (h : i < length sizes) where
  within : i < length segments
  within = omega (arith, h, ap length sizes_are, length-map segments (length {A = ℕ}))

  -- a segment's squares are the slice at their place
  pub part_is : slice_range ends start (start + get_or sizes i 0) ≡ get_or segments i []
  part_is = (λ j. slice_range (ends_are j) ((start_is ∙ ap (λ (l : List ℕ). sum (take i l)) sizes_are) j)
      ((start_is ∙ ap (λ (l : List ℕ). sum (take i l)) sizes_are) j + get_or (sizes_are j) i 0)) ∙ segment_is segments i within

  -- the slice of a segment's squares lies within all open squares
  pub part_room : start + get_or sizes i 0 ≤ length ends
  part_room = omega (
    arith,
    start_is,
    ap (λ (l : List ℕ). sum (take i l)) sizes_are,
    ap (λ (l : List ℕ). get_or l i 0) sizes_are,
    ap length ends_are,
    segment_room segments i within,
  )

-- the levels along a move, as they are pushed one after another
pub levels_are : (o : Outline) (m : Move) (bottoms : List Form) (place last : ℕ) (level : Form) (numbers : List ℕ) → place ≡ valley_place o.signs
    → last ≡ length o.signs → level ≡ level_of bottoms (valley_of o) → numbers ≡ new_squares o m
    → (cond (nat_eq place 0) [] (level_of bottoms (get_or o.segments (place - 1) []) ∷ []) ++ map (λ n. with_column level (n - 1)) numbers)
    ++ cond (nat_eq place last) [] (level_of bottoms (get_or o.segments (place + 1) []) ∷ []) ≡ levels_along o m bottoms
levels_are o m bottoms place last level numbers p l v ns = λ i. (cond (nat_eq (p i) 0) [] (level_of bottoms (get_or o.segments (p i - 1) []) ∷ [])
    ++ map (λ n. with_column (v i) (n - 1)) (ns i))
    ++ cond (nat_eq (p i) (l i)) [] (level_of bottoms (get_or o.segments (p i + 1) []) ∷ [])

-- the numbers of new squares
pub numbers_are : (w : Word) (m : Move) (numbers : List ℕ) (hung count : ℕ) → numbers ≡ numbers_from (hung + 1) count → hung ≡ order_of w
    → count ≡ m.count → numbers ≡ new_squares (outline_of w) m
numbers_are w m numbers hung count is h c = is ∙ (λ i. numbers_from ((h ∙ sym many) i + 1) (c i))
  where
    many : length (outline_of w).hung ≡ order_of w
    many = omega (arith, hung_many start w)

-- at most one level is known at a side
pub beside_short : (b : Bool) (f : Form) → length (cond {A = List Form} b [] (f ∷ [])) ≤ 1
beside_short true f = omega arith
beside_short false f = omega arith
