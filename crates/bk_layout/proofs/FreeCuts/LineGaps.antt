-- The numbers of lines in a word: 0 at the left of a square, 1 at the right of one, or the number of a gap, which stands at the
-- left of the square behind it.
use Rattle.std.proofs.Common.{List, Some, [], ap, arith, inl, inr, length, refl, slice_get, slice_index_or, subst, suc, sym, zero, ℕ, ◌++◌, ◌+◌, ◌-◌}
use Rattle.std.proofs.Common.{◌∙◌, ◌∷◌, ◌≡◌, ◌⊎◌}
use Rattle.std.proofs.lemmas.List.{append-nil, append_assoc, length-append}
use Rattle.std.proofs.lemmas.Option.{same_Some}
use Rattle.bk_laws.proofs.ListPlaces.{get_append, get_either}
use Rattle.bk_word.specs.Outline.{Outline, start, valley_of}
use Rattle.bk_word.specs.Play.{after_move, after_moves}
use Rattle.bk_word.specs.Word.{Move, Word}
use Rattle.bk_layout.proofs.FreeCuts.NumberedLines.{after_long}
use Rattle.bk_layout.specs.LineNumbers.{left_end, new_sides, right_end, sides_after, sides_along}

-- the number of a gap, with the square behind it
pub record IsGap (sides : List (ℕ × ℕ)) (f : ℕ) : Type 0 where
  pub place : ℕ
  pub is : f ≡ suc (suc place)
  pub right : ℕ
  pub behind : slice_get sides (suc place) ≡ Some (f, right)

-- the number of a wall or of a gap
abbrev pub IsLine : ℕ → List (ℕ × ℕ) → ℕ → Type 0
IsLine wall sides f = (f ≡ wall) ⊎ IsGap sides f

-- at the left of each square stands the left wall or a gap, at its right the right wall or a gap
abbrev pub AreLineNumbers : List (ℕ × ℕ) → Type 0
AreLineNumbers sides = (k : ℕ) (p : ℕ × ℕ) → slice_get sides k ≡ Some p → IsLine 0 sides p.0 × IsLine 1 sides p.1

-- a number of a line stays one when more squares come
pub line_more : (wall : ℕ) (sides more : List (ℕ × ℕ)) (f : ℕ) → IsLine wall sides f → IsLine wall (sides ++ more) f
line_more wall sides more f (inl e) = inl e
line_more wall sides more f (inr g) = inr (record {
  place = g.place;
  is = g.is;
  right = g.right;
  behind = get_append sides more (suc g.place) (f, g.right) g.behind;
})

-- the lines of the square at a place, or the walls
pub lines_at : (sides : List (ℕ × ℕ)) → AreLineNumbers sides → (k : ℕ) → IsLine 0 sides (slice_index_or sides k (0, 1)).0
    × IsLine 1 sides (slice_index_or sides k (0, 1)).1
lines_at sides all k = at (got sides k)
  where
    got : (xs : List (ℕ × ℕ)) (k : ℕ) → (slice_get xs k ≡ Some (slice_index_or xs k (0, 1))) ⊎ (slice_index_or xs k (0, 1) ≡ (0, 1))
    got [] k = inr refl
    got (y ∷ xs) zero = inl refl
    got (y ∷ xs) (suc k) = got xs k

    at : (slice_get sides k ≡ Some (slice_index_or sides k (0, 1))) ⊎ (slice_index_or sides k (0, 1) ≡ (0, 1))
        → IsLine 0 sides (slice_index_or sides k (0, 1)).0 × IsLine 1 sides (slice_index_or sides k (0, 1)).1
    at (inl e) = all k (slice_index_or sides k (0, 1)) e
    at (inr e) = (inl (ap (λ (p : ℕ × ℕ). p.0) e), inl (ap (λ (p : ℕ × ℕ). p.1) e))

-- the lines at the ends of squares in a row
pub left_line : (sides : List (ℕ × ℕ)) → AreLineNumbers sides → (numbers : List ℕ) → IsLine 0 sides (left_end sides numbers)
left_line sides all [] = inl refl
left_line sides all (number ∷ numbers) = (lines_at sides all (number - 1)).0

-- the right end of squares is the right wall or a gap
pub right_line : (sides : List (ℕ × ℕ)) → AreLineNumbers sides → (numbers : List ℕ) → IsLine 1 sides (right_end sides numbers)
right_line sides all [] = inl refl
right_line sides all (number ∷ []) = (lines_at sides all (number - 1)).1
right_line sides all (number ∷ next ∷ numbers) = right_line sides all (next ∷ numbers)

-- the first of some new squares
first_new : (hung more left right : ℕ) → (g : ℕ) × (slice_get (new_sides hung (suc more) left right) 0 ≡ Some (left, g))
first_new hung zero left right = (right, refl)
first_new hung (suc more) left right = (suc (suc hung), refl)

-- a gap between new squares is one
gap_line : (wall : ℕ) (base : List (ℕ × ℕ)) (hung more left right : ℕ) → length base ≡ hung
    → IsLine wall (base ++ (left, suc (suc hung)) ∷ new_sides (suc hung) (suc more) (suc (suc hung)) right) (suc (suc hung))
gap_line wall base hung more left right long = inr (record { place = hung; is = refl; right = first.0; behind = behind base hung long })
  where
    first : (g : ℕ) × (slice_get (new_sides (suc hung) (suc more) (suc (suc hung)) right) 0 ≡ Some (suc (suc hung), g))
    first = first_new (suc hung) more (suc (suc hung)) right

    behind : (xs : List (ℕ × ℕ)) (h : ℕ) → length xs ≡ h
        → slice_get (xs ++ (left, suc (suc hung)) ∷ new_sides (suc hung) (suc more) (suc (suc hung)) right) (suc h) ≡ Some (suc (suc hung), first.0)
    behind [] zero l = first.1
    behind [] (suc h) l = absurd (omega arith)
    behind (x ∷ xs) zero l = absurd (omega arith)
    behind (x ∷ xs) (suc h) l = behind xs h (omega arith)

-- the lines of new squares behind those before
new_lines : (base : List (ℕ × ℕ)) (hung count left right : ℕ) → length base ≡ hung → IsLine 0 (base ++ new_sides hung count left right) left
    → IsLine 1 (base ++ new_sides hung count left right) right → (j : ℕ) (p : ℕ × ℕ) → slice_get (new_sides hung count left right) j ≡ Some p
    → IsLine 0 (base ++ new_sides hung count left right) p.0 × IsLine 1 (base ++ new_sides hung count left right) p.1
new_lines base hung zero left right long a b j p e = absurd (cc)
new_lines base hung (suc zero) left right long a b zero p e =
    subst (λ (q : ℕ × ℕ). IsLine 0 (base ++ (left, right) ∷ []) q.0 × IsLine 1 (base ++ (left, right) ∷ []) q.1) (same_Some (left, right) p e) (a, b)
new_lines base hung (suc zero) left right long a b (suc j) p e = absurd (cc)
new_lines base hung (suc (suc more)) left right long a b zero p e =
    subst (λ (q : ℕ × ℕ). IsLine 0 (base ++ (left, suc (suc hung)) ∷ new_sides (suc hung) (suc more) (suc (suc hung)) right) q.0
    × IsLine 1 (base ++ (left, suc (suc hung)) ∷ new_sides (suc hung) (suc more) (suc (suc hung)) right) q.1)
    (same_Some (left, suc (suc hung)) p e) (a, gap_line 1 base hung more left right long)
new_lines base hung (suc (suc more)) left right long a b (suc j) p e = subst (λ (xs : List (ℕ × ℕ)). IsLine 0 xs p.0 × IsLine 1 xs p.1) (sym same)
    (new_lines (base ++ (left, suc (suc hung)) ∷ []) (suc hung) (suc more) (suc (suc hung)) right
    (omega (arith, length-append base ((left, suc (suc hung)) ∷ []), long))
    (subst (λ (xs : List (ℕ × ℕ)). IsLine 0 xs (suc (suc hung))) same (gap_line 0 base hung more left right long))
    (subst (λ (xs : List (ℕ × ℕ)). IsLine 1 xs right) same b) j p e)
  where
    same : base ++ (left, suc (suc hung)) ∷ new_sides (suc hung) (suc more) (suc (suc hung)) right
        ≡ (base ++ (left, suc (suc hung)) ∷ []) ++ new_sides (suc hung) (suc more) (suc (suc hung)) right
    same = sym (append_assoc base ((left, suc (suc hung)) ∷ []) (new_sides (suc hung) (suc more) (suc (suc hung)) right))

-- a move keeps this
pub lines_after : (o : Outline) (sides : List (ℕ × ℕ)) (m : Move) → length sides ≡ length o.hung → AreLineNumbers sides → AreLineNumbers (sides_after o sides m)
lines_after o sides m long all k p e = cases (get_either sides
    (new_sides (length o.hung) m.count (left_end sides (valley_of o)) (right_end sides (valley_of o))) k p e)
  where
    news : List (ℕ × ℕ)
    news = new_sides (length o.hung) m.count (left_end sides (valley_of o)) (right_end sides (valley_of o))

    cases : (slice_get sides k ≡ Some p) ⊎ ((j : ℕ) × (k ≡ length sides + j)
        × (slice_get (new_sides (length o.hung) m.count (left_end sides (valley_of o)) (right_end sides (valley_of o))) j ≡ Some p))
        → IsLine 0 (sides_after o sides m) p.0 × IsLine 1 (sides_after o sides m) p.1
    cases (inl f) = let r = all k p f in (
      line_more 0 sides (new_sides (length o.hung) m.count (left_end sides (valley_of o)) (right_end sides (valley_of o))) p.0 r.0,
      line_more 1 sides (new_sides (length o.hung) m.count (left_end sides (valley_of o)) (right_end sides (valley_of o))) p.1 r.1,
    )
    cases (inr (j, f, g)) = new_lines sides (length o.hung) m.count (left_end sides (valley_of o)) (right_end sides (valley_of o)) long
        (line_more 0 sides (new_sides (length o.hung) m.count (left_end sides (valley_of o)) (right_end sides (valley_of o)))
        (left_end sides (valley_of o)) (left_line sides all (valley_of o)))
        (line_more 1 sides (new_sides (length o.hung) m.count (left_end sides (valley_of o)) (right_end sides (valley_of o)))
        (right_end sides (valley_of o)) (right_line sides all (valley_of o))) j p g

-- moves keep the numbers of lines: each is a wall or a gap
pub lines_along : (o : Outline) (sides : List (ℕ × ℕ)) (w : Word) → length sides ≡ length o.hung → AreLineNumbers sides → AreLineNumbers (sides_along o sides w)
lines_along o sides [] long all = all
lines_along o sides (m ∷ w) long all = lines_along (after_move o m) (sides_after o sides m) w (after_long o sides m long) (lines_after o sides m long all)

-- there are as many pairs of lines as squares
pub along_long : (o : Outline) (sides : List (ℕ × ℕ)) (w : Word) → length sides ≡ length o.hung
    → length (sides_along o sides w) ≡ length (after_moves o w).hung
along_long o sides [] long = long
along_long o sides (m ∷ w) long = along_long (after_move o m) (sides_after o sides m) w (after_long o sides m long)

-- later moves leave the lines of squares
pub lines_grow : (o : Outline) (sides : List (ℕ × ℕ)) (w : Word) → (more : List (ℕ × ℕ)) × (sides_along o sides w ≡ sides ++ more)
lines_grow o sides [] = ([], sym (append-nil sides))
lines_grow o sides (m ∷ w) =
    let r = lines_grow (after_move o m) (sides_after o sides m) w in
    let news = new_sides (length o.hung) m.count (left_end sides (valley_of o)) (right_end sides (valley_of o)) in
    (news ++ r.0, r.1 ∙ append_assoc sides news r.0)

-- the lines after two words played one after the other are those after the second, begun from those after the first
pub lines_append : (o : Outline) (sides : List (ℕ × ℕ)) (front rest : Word)
    → sides_along o sides (front ++ rest) ≡ sides_along (after_moves o front) (sides_along o sides front) rest
lines_append o sides [] rest = refl
lines_append o sides (m ∷ front) rest = lines_append (after_move o m) (sides_after o sides m) front rest

-- the lines of a word's squares
pub lines_of_word : (w : Word) → AreLineNumbers (sides_along start [] w)
lines_of_word w = lines_along start [] w refl (λ k p e. absurd (none k p e))
  where
    none : (k : ℕ) (p : ℕ × ℕ) → slice_get [] k ≡ Some p → ⊥
    none k p e = cc
