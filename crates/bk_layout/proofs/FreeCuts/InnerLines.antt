-- The number of a line in a word is 0 or 1, or its line is no wall.
use Rattle.std.proofs.Common.{List, Some, [], arith, inl, inr, length, refl, slice_get, slice_index_or, subst, suc, sym, zero, ℕ, ◌+◌, ◌-◌, ◌<◌, ◌∙◌}
use Rattle.std.proofs.Common.{◌∷◌, ◌≡◌, ◌⊎◌}
use Rattle.std.proofs.lemmas.Option.{same_Some}
use Rattle.bk_word.specs.Outline.{Outline, valley_of}
use Rattle.bk_word.specs.Play.{after_move}
use Rattle.bk_word.specs.Word.{Word}
use Rattle.bk_layout.specs.Layout.{Fits, Layout}
use Rattle.bk_layout.specs.LayoutLaws.{HangByNodesFrom, HangsNode}
use Rattle.bk_laws.proofs.ListPlaces.{get_either}
use Rattle.bk_layout.proofs.FreeCuts.NumberedLines.{hung_at}
use Rattle.bk_layout.specs.FreeCuts.{AreOuterWalls}
use Rattle.bk_layout.specs.LineNumbers.{left_end, new_sides, numbered_line, right_end, sides_after, sides_along}

module _ (l : Layout) (square : ℕ → ℕ) where
  abbrev NoWall : ℕ → Type 0
  NoWall line = (line ≡ 0 → ⊥) × (line ≡ 1 → ⊥)

  -- the number is that of a wall, or of a line that is none
  abbrev pub IsKnown : ℕ → Type 0
  IsKnown n = (n ≡ 0) ⊎ (n ≡ 1) ⊎ NoWall (numbered_line l square n)

  -- both numbers of each pair are those of walls, or of lines that are none
  abbrev pub AllKnown : List (ℕ × ℕ) → Type 0
  AllKnown sides = (k : ℕ) (p : ℕ × ℕ) → slice_get sides k ≡ Some p → IsKnown p.0 × IsKnown p.1

  new_known : (hung count left right : ℕ) → IsKnown left → IsKnown right → ((k : ℕ) → suc k < count → NoWall (l.right (square (hung + k))))
      → AllKnown (new_sides hung count left right)
  new_known hung zero left right a b inner j p e = absurd (cc)
  new_known hung (suc zero) left right a b inner zero p e = subst (λ (q : ℕ × ℕ). IsKnown q.0 × IsKnown q.1) (same_Some (left, right) p e) (a, b)
  new_known hung (suc zero) left right a b inner (suc j) p e = absurd (cc)
  new_known hung (suc (suc more)) left right a b inner zero p e = subst (λ (q : ℕ × ℕ). IsKnown q.0 × IsKnown q.1) (same_Some (left, suc (suc hung)) p e)
      (a, inr (inr (subst (λ (n : ℕ). NoWall (l.right (square n))) (omega arith) (inner 0 (omega arith)))))
  new_known hung (suc (suc more)) left right a b inner (suc j) p e = new_known (suc hung) (suc more) (suc (suc hung)) right
      (inr (inr (subst (λ (n : ℕ). NoWall (l.right (square n))) (omega arith) (inner 0 (omega arith))))) b
      (λ k h. subst (λ (n : ℕ). NoWall (l.right (square n))) (omega arith) (inner (suc k) (omega (arith, h)))) j p e

  -- both numbers of the pair at a place are known
  pub known_at : (sides : List (ℕ × ℕ)) → AllKnown sides → (k : ℕ) → IsKnown (slice_index_or sides k (0, 1)).0 × IsKnown (slice_index_or sides k (0, 1)).1
  known_at [] all zero = (inl refl, inr (inl refl))
  known_at [] all (suc k) = (inl refl, inr (inl refl))
  known_at (p ∷ sides) all zero = all 0 p refl
  known_at (p ∷ sides) all (suc k) = known_at sides (λ j q e. all (suc j) q e) k

  left_known : (sides : List (ℕ × ℕ)) → AllKnown sides → (numbers : List ℕ) → IsKnown (left_end sides numbers)
  left_known sides all [] = inl refl
  left_known sides all (n ∷ numbers) = (known_at sides all (n - 1)).0

  right_known : (sides : List (ℕ × ℕ)) → AllKnown sides → (numbers : List ℕ) → IsKnown (right_end sides numbers)
  right_known sides all [] = inr (inl refl)
  right_known sides all (n ∷ []) = (known_at sides all (n - 1)).1
  right_known sides all (n ∷ k ∷ numbers) = right_known sides all (k ∷ numbers)

  -- the numbers that a word gives are all so
  pub known_along : Fits l → AreOuterWalls l → (o : Outline) (sides : List (ℕ × ℕ)) (w : Word)
      → HangByNodesFrom l (λ number. square (number - 1)) o w → AllKnown sides → AllKnown (sides_along o sides w)
  known_along fits walls o sides [] nodes all = all
  known_along fits walls o sides (m ∷ w) nodes all = known_along fits walls (after_move o m) (sides_after o sides m) w nodes.1 after
    where
      h : HangsNode l (λ number. square (number - 1)) o m
      h = nodes.0

      inner : (k : ℕ) → suc k < m.count → NoWall (l.right (square (length o.hung + k)))
      inner k low = (
        walls.not_before (square (length o.hung + k)) (fits.lists.hanging_is h.node k (square (length o.hung + k)) here).0,
        λ e. walls.not_beyond (square (length o.hung + suc k)) (fits.lists.hanging_is h.node (suc k) (square (length o.hung + suc k)) next).0
            (sym (fits.lines.between h.node (square (length o.hung + k)) (square (length o.hung + suc k)) (k, here, next)) ∙ e),
      )
        where
          here : slice_get (l.hanging h.node) k ≡ Some (square (length o.hung + k))
          here = hung_at l square o m h k (omega (arith, low))

          next : slice_get (l.hanging h.node) (suc k) ≡ Some (square (length o.hung + suc k))
          next = hung_at l square o m h (suc k) low

      after : AllKnown (sides_after o sides m)
      after k p e = cases (get_either sides (new_sides (length o.hung) m.count (left_end sides (valley_of o)) (right_end sides (valley_of o))) k p e)
        where
          cases : (slice_get sides k ≡ Some p) ⊎ ((j : ℕ) × (k ≡ length sides + j)
              × (slice_get (new_sides (length o.hung) m.count (left_end sides (valley_of o)) (right_end sides (valley_of o))) j ≡ Some p))
              → IsKnown p.0 × IsKnown p.1
          cases (inl f) = all k p f
          cases (inr (j, f, g)) = new_known (length o.hung) m.count (left_end sides (valley_of o)) (right_end sides (valley_of o))
              (left_known sides all (valley_of o)) (right_known sides all (valley_of o)) inner j p g
