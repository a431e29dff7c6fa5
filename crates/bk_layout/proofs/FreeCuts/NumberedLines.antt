-- The numbers of lines in a word stand for the layout's lines.
use Rattle.std.proofs.Common.{List, Some, [], ap, arith, inl, inr, length, map, refl, replicate, slice_get, slice_index_or, subst, suc, sym, zero, ℕ, ◌+◌, ◌-◌}
use Rattle.std.proofs.Common.{◌<◌, ◌∙◌, ◌∷◌, ◌≡◌, ◌⊎◌}
use Rattle.std.proofs.lemmas.List.{length-append, length-map, length-replicate}
use Rattle.std.proofs.lemmas.Option.{same_Some}
use Rattle.bk_laws.proofs.ListPlaces.{get_either, get_map}
use Rattle.bk_laws.proofs.NumberOrder.{zero_or_positive}
use Rattle.bk_laws.proofs.Occurrences.{times-positive_of_slice_get, times_at, times_in-append}
use Rattle.bk_word.specs.Outline.{Outline, start, valley_of, valley_place}
use Rattle.bk_word.specs.Play.{AreLegalFrom, after_move, new_squares, numbers_from}
use Rattle.bk_word.specs.Word.{Move, Word}
use Rattle.bk_word.proofs.PlayLists.{numbers-length}
use Rattle.bk_word_net.proofs.WordFlows.NoLoose.{hung_number}
use Rattle.bk_word_net.proofs.Outlines.Numbering.{Numbered, numbered_move, numbered_start}
use Rattle.bk_layout.specs.Layout.{Fits, IsLast, Layout}
use Rattle.bk_layout.specs.LayoutLaws.{HangByNodesFrom, HangsNode}
use Rattle.bk_layout.proofs.NormalCuts.MarkedSquares.{numbers_at}
use Rattle.bk_layout.specs.LineNumbers.{LineNumbersAreLines, left_end, new_sides, numbered_line, right_end, sides_after, sides_along, sides_at}

-- a move gives as many pairs as it hangs squares
pub sides_long : (hung count left right : ℕ) → length (new_sides hung count left right) ≡ count
sides_long hung zero left right = refl
sides_long hung (suc zero) left right = refl
sides_long hung (suc (suc more)) left right = ap suc (sides_long (suc hung) (suc more) (suc (suc hung)) right)

-- after a move there are as many pairs of lines as squares
pub after_long : (o : Outline) (sides : List (ℕ × ℕ)) (m : Move) → length sides ≡ length o.hung → length (sides_after o sides m) ≡ length (after_move o m).hung
after_long o sides m long = omega (
  arith,
  long,
  length-append sides (new_sides (length o.hung) m.count (left_end sides (valley_of o)) (right_end sides (valley_of o))),
  sides_long (length o.hung) m.count (left_end sides (valley_of o)) (right_end sides (valley_of o)),
  length-append o.hung (replicate m.count (length o.closed)),
  length-replicate m.count (length o.closed),
)

module _ (l : Layout) (square : ℕ → ℕ) where
  -- the two numbers of the square at place k stand for the lines at its left and right
  abbrev pub Stand : ℕ → ℕ → ℕ → Type 0
  Stand k f g = (l.left (square k) ≡ numbered_line l square f) × (l.right (square k) ≡ numbered_line l square g)

  -- each pair of numbers stands for the lines of its square
  abbrev pub AllStand : List (ℕ × ℕ) → Type 0
  AllStand sides = (k : ℕ) (p : ℕ × ℕ) → slice_get sides k ≡ Some p → Stand k p.0 p.1

  new_stand : (hung count left right : ℕ) → l.left (square hung) ≡ numbered_line l square left
      → ((k : ℕ) → suc k ≡ count → l.right (square (hung + k)) ≡ numbered_line l square right)
      → ((k : ℕ) → suc k < count → l.right (square (hung + k)) ≡ l.left (square (hung + suc k)))
      → (j : ℕ) (p : ℕ × ℕ) → slice_get (new_sides hung count left right) j ≡ Some p → Stand (hung + j) p.0 p.1
  new_stand hung zero left right first last next j p e = absurd (cc)
  new_stand hung (suc zero) left right first last next zero p e =
      subst (λ (q : ℕ × ℕ). Stand (hung + 0) q.0 q.1) (same_Some (left, right) p e) (ap (λ (n : ℕ). l.left (square n)) (omega arith) ∙ first, last 0 refl)
  new_stand hung (suc zero) left right first last next (suc j) p e = absurd (cc)
  new_stand hung (suc (suc more)) left right first last next zero p e =
      subst (λ (q : ℕ × ℕ). Stand (hung + 0) q.0 q.1) (same_Some (left, suc (suc hung)) p e)
      (ap (λ (n : ℕ). l.left (square n)) (omega arith) ∙ first, ap (λ (n : ℕ). l.right (square n)) (omega arith))
  new_stand hung (suc (suc more)) left right first last next (suc j) p e = subst (λ (n : ℕ). Stand n p.0 p.1) (shift j)
      (new_stand (suc hung) (suc more) (suc (suc hung)) right
      (sym (ap (λ (n : ℕ). l.right (square n)) (omega arith) ∙ next 0 (omega arith) ∙ ap (λ (n : ℕ). l.left (square n)) (omega arith)))
      (λ k h. ap (λ (n : ℕ). l.right (square n)) (shift k) ∙ last (suc k) (omega (arith, h)))
      (λ k h. ap (λ (n : ℕ). l.right (square n)) (shift k) ∙ next (suc k) (omega (arith, h)) ∙ ap (λ (n : ℕ). l.left (square n)) (sym (shift (suc k))))
      j p e)
    where
      shift : (k : ℕ) → suc hung + k ≡ hung + suc k
      shift k = omega arith

  -- the pair at a place stands for the lines of its square
  pub index_stand : (sides : List (ℕ × ℕ)) → AllStand sides → (k : ℕ) → k < length sides
      → Stand k (slice_index_or sides k (0, 1)).0 (slice_index_or sides k (0, 1)).1
  index_stand sides all k h = all k (slice_index_or sides k (0, 1)) (got sides k h)
    where
      got : (xs : List (ℕ × ℕ)) (k : ℕ) → k < length xs → slice_get xs k ≡ Some (slice_index_or xs k (0, 1))
      got [] k h = absurd (omega arith)
      got (y ∷ xs) zero h = refl
      got (y ∷ xs) (suc k) h = got xs k (omega arith)

  -- the squares that a move hangs, by their places on the node
  pub hung_at : (o : Outline) (m : Move) (h : HangsNode l (λ number. square (number - 1)) o m) (k : ℕ) → k < m.count
      → slice_get (l.hanging h.node) k ≡ Some (square (length o.hung + k))
  hung_at o m h k low = ap (λ (xs : List ℕ). slice_get xs k) (sym h.hangs)
      ∙ get_map (λ number. square (number - 1)) (numbers_from (length o.hung + 1) m.count) k (length o.hung + 1 + k)
      (numbers_at (length o.hung + 1) m.count k low) ∙ ap (λ (n : ℕ). Some (square n)) (omega arith)

  module _ (fits : Fits l) (o : Outline) (sides : List (ℕ × ℕ)) (m : Move) (h : HangsNode l (λ number. square (number - 1)) o m) (all : AllStand sides) where
    many : length (l.hanging h.node) ≡ m.count
    many = ap length (sym h.hangs) ∙ length-map (new_squares o m) (λ number. square (number - 1)) ∙ numbers-length (length o.hung + 1) m.count

    -- the last of some numbers
    last_of : (a : ℕ) (more : List ℕ) → (z : ℕ) × (slice_get (a ∷ more) (length more) ≡ Some z) × (right_end sides (a ∷ more) ≡ (sides_at sides z).1)
    last_of a [] = (a, refl, refl)
    last_of a (b ∷ more) = let r = last_of b more in (r.0, r.1, r.2)

    ends : 0 < m.count → (valley : List ℕ) → map (λ number. square (number - 1)) valley ≡ l.ending h.node
        → ((k a : ℕ) → slice_get valley k ≡ Some a → a - 1 < length sides)
        → (l.left (square (length o.hung)) ≡ numbered_line l square (left_end sides valley))
        × ((k : ℕ) → suc k ≡ m.count → l.right (square (length o.hung + k)) ≡ numbered_line l square (right_end sides valley))
    ends some [] is low = (
      ap (λ (n : ℕ). l.left (square n)) (omega arith)
          ∙ fits.lines.top_left (square (length o.hung + 0))
          (subst (λ (v : ℕ). slice_get (l.hanging v) 0 ≡ Some (square (length o.hung + 0))) top (hung_at o m h 0 some)),
      λ k e. fits.lines.top_right (square (length o.hung + k))
          (subst (λ (v : ℕ). IsLast (l.hanging v) (square (length o.hung + k))) top (k, omega (arith, e, many), hung_at o m h k (omega (arith, e)))),
    )
      where
        cases : (h.node ≡ 0) ⊎ (0 < h.node) → h.node ≡ 0
        cases (inl e) = e
        cases (inr k) = absurd (omega (arith, fits.nodes.ending_some h.node k (omega (arith, h.low)), ap length (sym is)))

        top : h.node ≡ 0
        top = cases (zero_or_positive h.node)
    ends some (a ∷ more) is low = (
      ap (λ (n : ℕ). l.left (square n)) (omega arith)
          ∙ fits.lines.same_left h.node (square (a - 1)) (square (length o.hung + 0)) (ap (λ (xs : List ℕ). slice_get xs 0) (sym is)) (hung_at o m h 0 some)
          ∙ (index_stand sides all (a - 1) (low 0 a refl)).0,
      λ k e. fits.lines.same_right h.node (square ((last_of a more).0 - 1)) (square (length o.hung + k))
          (subst (λ (xs : List ℕ). IsLast xs (square ((last_of a more).0 - 1))) is (
            length more,
            ap suc (sym (length-map more (λ number. square (number - 1)))),
            get_map (λ number. square (number - 1)) (a ∷ more) (length more) (last_of a more).0 (last_of a more).1,
          ))
          (k, omega (arith, e, many), hung_at o m h k (omega (arith, e)))
          ∙ (index_stand sides all ((last_of a more).0 - 1) (low (length more) (last_of a more).0 (last_of a more).1)).1
          ∙ ap (numbered_line l square) (sym (last_of a more).2),
    )

    all_after : 0 < m.count → length sides ≡ length o.hung → ((k a : ℕ) → slice_get (valley_of o) k ≡ Some a → a - 1 < length sides)
        → AllStand (sides_after o sides m)
    all_after some long low k p e = cases (get_either sides
        (new_sides (length o.hung) m.count (left_end sides (valley_of o)) (right_end sides (valley_of o))) k p e)
      where
        here : (l.left (square (length o.hung)) ≡ numbered_line l square (left_end sides (valley_of o)))
            × ((k : ℕ) → suc k ≡ m.count → l.right (square (length o.hung + k)) ≡ numbered_line l square (right_end sides (valley_of o)))
        here = ends some (valley_of o) h.ends low

        cases : (slice_get sides k ≡ Some p) ⊎ ((j : ℕ) × (k ≡ length sides + j)
            × (slice_get (new_sides (length o.hung) m.count (left_end sides (valley_of o)) (right_end sides (valley_of o))) j ≡ Some p)) → Stand k p.0 p.1
        cases (inl f) = all k p f
        cases (inr (j, f, g)) = subst (λ (n : ℕ). Stand n p.0 p.1) (omega (arith, f, long))
            (new_stand (length o.hung) m.count (left_end sides (valley_of o)) (right_end sides (valley_of o)) here.0 here.1
            (λ i low. fits.lines.between h.node (square (length o.hung + i)) (square (length o.hung + suc i))
            (i, hung_at o m h i (omega (arith, low)), hung_at o m h (suc i) low)) j p g)

  -- moves keep this
  pub all_along : Fits l → (o : Outline) (sides : List (ℕ × ℕ)) (w : Word) → AreLegalFrom o w → Numbered o → length sides ≡ length o.hung
      → HangByNodesFrom l (λ number. square (number - 1)) o w → AllStand sides → AllStand (sides_along o sides w)
  all_along fits o sides [] legal numbered long nodes all = all
  all_along fits o sides (m ∷ w) legal numbered long nodes all =
      all_along fits (after_move o m) (sides_after o sides m) w legal.1 (numbered_move o m numbered) (after_long o sides m long) nodes.1
      (all_after fits o sides m nodes.0 all (legal.0).some long low)
    where
      low : (k a : ℕ) → slice_get (valley_of o) k ≡ Some a → a - 1 < length sides
      low k a e = let r = hung_number o numbered a
          (omega (
            arith,
            times-positive_of_slice_get (valley_of o) k a e,
            times_at a (valley_place o.signs) o.segments,
            times_in-append a o.closed o.segments,
          )) in omega (arith, r.0, r.1, long)

-- the law: from the start on
pub line_numbers_are_lines : LineNumbersAreLines
line_numbers_are_lines l w fits word k f g e =
    all_along l word.square fits start [] w (word.complete).legal numbered_start refl word.nodes (λ j p h. absurd (none j p h)) k (f, g) e
  where
    none : (j : ℕ) (p : ℕ × ℕ) → slice_get [] j ≡ Some p → ⊥
    none j p h = cc
