-- The squares of a word that are said to stand on a line from the top stand on a line between two squares that hang there.
use Rattle.std.specs.List.{list_any}
use Rattle.std.proofs.Common.{Bool, List, Some, [], ap, arith, false, inl, inr, length, nat_eq, refl, slice_get, slice_index_or, subst}
use Rattle.std.proofs.Common.{suc, sym, true, zero, ℕ, ◌||◌, ◌+◌, ◌-◌, ◌<◌, ◌∙◌, ◌∷◌, ◌≡◌, ◌⊎◌}
use Rattle.std.proofs.lemmas.Bool.Decides.{nat_tests}
use Rattle.std.proofs.lemmas.List.{length-append}
use Rattle.bk_laws.proofs.ListPlaces.{get_map}
use Rattle.bk_laws.proofs.ListItems.{slice_index_or-appended_true, slice_index_or-replicate_true}
use Rattle.bk_word.specs.Outline.{Outline, start, valley_of}
use Rattle.bk_word.specs.Play.{AreLegalFrom, after_move, numbers_from}
use Rattle.bk_word.specs.Word.{Move, Word}
use Rattle.bk_layout.specs.Layout.{AreNeighbours, Fits, Layout}
use Rattle.bk_layout.specs.LayoutLaws.{HangByLinesFrom, HangByNodesFrom, HangsByLines, HangsNode}
use Rattle.bk_catalogue.proofs.HangingBounds.LineMoves.{lines_long}
use Rattle.bk_catalogue.specs.VerticalCut.{begins_on_line, lines_after, lines_along, on_line}
use Rattle.bk_laws.proofs.NumberOrder.{zero_or_positive}

-- the line stands between two squares that hang from the top
pub record IsTopLine (l : Layout) (line : ℕ) : Type 0 where
  pub p : ℕ
  pub q : ℕ
  pub side_by_side : AreNeighbours (l.hanging 0) p q
  pub is : line ≡ l.left q

-- the numbers from one on, by their places
pub numbers_at : (from n k : ℕ) → k < n → slice_get (numbers_from from n) k ≡ Some (from + k)
numbers_at from zero k h = absurd (omega arith)
numbers_at from (suc n) zero h = ap (λ (x : ℕ). Some x) (omega arith)
numbers_at from (suc n) (suc k) h = numbers_at (from + 1) n k (omega arith) ∙ ap (λ (x : ℕ). Some x) (omega arith)

module _ (l : Layout) (fits : Fits l) (f : ℕ → ℕ) where
  -- f gives the square at a place, the places from 0
  abbrev square : ℕ → ℕ
  square = λ number. f (number - 1)

  -- each square that is marked has a line from the top at its left
  abbrev pub AreOnTopLines : List Bool → Type 0
  AreOnTopLines lines = (k : ℕ) → slice_index_or lines k false ≡ true → IsTopLine l (l.left (f k))

  same_line : (j k : ℕ) → j ≡ k → IsTopLine l (l.left (f j)) → IsTopLine l (l.left (f k))
  same_line j k e t = subst (λ (i : ℕ). IsTopLine l (l.left (f i))) e t

  module _ (o : Outline) (lines : List Bool) (m : Move) (long : length lines ≡ length o.hung) (by_lines : HangsByLines l square o m)
      (tops : AreOnTopLines lines) where
    -- the first square of the move goes on with the line
    first_goes_on : (valley : List ℕ) → valley_of o ≡ valley → begins_on_line lines valley ≡ true → IsTopLine l (l.left (f (length lines)))
    first_goes_on [] is e = absurd (cc)
    first_goes_on (a ∷ valley) is e = subst (λ (line : ℕ). IsTopLine l line)
        (sym (ap (λ (i : ℕ). l.left (f i)) (omega (arith, long)) ∙ by_lines.first a (ap (λ (x : List ℕ). slice_get x 0) is))) (tops (a - 1) e)

    -- a later move
    tops_later : 0 < length o.closed → AreOnTopLines (lines_after o lines m)
    tops_later closed k e = cases (slice_index_or-appended_true lines (begins_on_line lines (valley_of o)) (m.count - 1) (nat_eq (length o.closed) 0) k e)
      where
        never : (n : ℕ) → 0 < n → nat_eq n 0 ≡ true → ⊥
        never n h g = grind (arith, nat_tests)

        cases : (slice_index_or lines k false ≡ true) ⊎ ((k ≡ length lines) × (begins_on_line lines (valley_of o) ≡ true))
            ⊎ ((j : ℕ) × (k ≡ length lines + suc j) × (j < m.count - 1) × (nat_eq (length o.closed) 0 ≡ true)) → IsTopLine l (l.left (f k))
        cases (inl g) = tops k g
        cases (inr (inl (g, h))) = same_line (length lines) k (sym g) (first_goes_on (valley_of o) refl h)
        cases (inr (inr (j, g, h, z))) = absurd (never (length o.closed) closed z)

  -- marks that are right after some moves are right after all
  pub tops_along : (o : Outline) (lines : List Bool) (w : Word) → AreLegalFrom o w → length lines ≡ length o.hung → 0 < length o.closed
      → HangByLinesFrom l square o w → AreOnTopLines lines → AreOnTopLines (lines_along o lines w)
  tops_along o lines [] legal long closed by_lines tops = tops
  tops_along o lines (m ∷ w) legal long closed by_lines tops =
      tops_along (after_move o m) (lines_after o lines m) w legal.1 as_long (omega (arith, length-append o.closed (valley_of o ∷ [])))
      by_lines.1 (tops_later o lines m long by_lines.0 tops closed)
    where
      as_long : length (lines_after o lines m) ≡ length (after_move o m).hung
      as_long = lines_long o lines (m ∷ []) (legal.0, tt) long

  -- the first move
  module _ (m : Move) (by_node : HangsNode l square start m) where
    at_top : by_node.node ≡ 0
    at_top = cases (zero_or_positive by_node.node)
      where
        cases : (by_node.node ≡ 0) ⊎ (0 < by_node.node) → by_node.node ≡ 0
        cases (inl e) = e
        cases (inr h) = absurd (omega (arith, fits.nodes.ending_some by_node.node h (omega (arith, by_node.low)), ap length (sym by_node.ends)))

    hung_at : (k : ℕ) → k < m.count → slice_get (l.hanging 0) k ≡ Some (f k)
    hung_at k h = ap (λ (v : ℕ). slice_get (l.hanging v) k) (sym at_top) ∙ ap (λ (xs : List ℕ). slice_get xs k) (sym by_node.hangs)
        ∙ get_map square (numbers_from 1 m.count) k (1 + k) (numbers_at 1 m.count k h) ∙ ap (λ (i : ℕ). Some (f i)) (omega arith)

    tops_first : AreOnTopLines (lines_after start [] m)
    tops_first zero e = absurd (cc)
    tops_first (suc k) e = record {
      p = f k;
      q = f (suc k);
      side_by_side =
          (k, hung_at k (omega (arith, h.0)), hung_at (suc k) (omega (arith, h.0)));
      is = refl;
    }
      where
        h : (k < m.count - 1) × (nat_eq 0 0 ≡ true)
        h = slice_index_or-replicate_true (m.count - 1) (nat_eq 0 0) k e

  -- each marked square of a word stands at a line from the top that is no wall
  pub tops_of_word : (w : Word) → AreLegalFrom start w → HangByLinesFrom l square start w → HangByNodesFrom l square start w
      → AreOnTopLines (lines_along start [] w)
  tops_of_word [] legal by_lines by_nodes = λ k e. absurd (none k e)
    where
      none : (k : ℕ) → slice_index_or [] k false ≡ true → ⊥
      none k e = cc
  tops_of_word (m ∷ w) legal by_lines by_nodes =
      tops_along (after_move start m) (lines_after start [] m) w legal.1 (lines_long start [] (m ∷ []) (legal.0, tt) refl) (omega arith)
      by_lines.1 (tops_first m by_nodes.0)

-- a marked square in a segment
pub some_marked : (lines : List Bool) (s : List ℕ) → list_any (on_line lines) s ≡ true → (j n : ℕ) × (slice_get s j ≡ Some n) × (on_line lines n ≡ true)
some_marked lines [] e = absurd (cc)
some_marked lines (n ∷ s) e = cases (on_line lines n) refl e (some_marked lines s)
  where
    cases : (b : Bool) → on_line lines n ≡ b → (b || list_any (on_line lines) s) ≡ true
        → (list_any (on_line lines) s ≡ true → (j n : ℕ) × (slice_get s j ≡ Some n) × (on_line lines n ≡ true))
        → (j k : ℕ) × (slice_get (n ∷ s) j ≡ Some k) × (on_line lines k ≡ true)
    cases true f g rest = (0, n, refl, f)
    cases false f g rest = let r = rest g in (suc r.0, r.1, r.2, r.3)
