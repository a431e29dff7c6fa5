-- The cut by lines that share a node, from the numbers of lines that a word gives.
use Rattle.std.proofs.Common.{Some, [], ap, arith, inl, inr, length, refl, slice_get, subst, suc, sym, ℕ, ◌++◌, ◌-◌, ◌<◌, ◌∙◌, ◌∷◌}
use Rattle.std.proofs.Common.{◌≡◌, ◌≤◌, ◌⊎◌}
use Rattle.std.proofs.lemmas.List.{length-map}
use Rattle.bk_word.specs.Outline.{Outline, start}
use Rattle.bk_word.specs.Play.{AreLegalFrom, after_move, outline_of}
use Rattle.bk_word.specs.Word.{Word, order_of}
use Rattle.bk_word_net.proofs.Outlines.Numbering.{numbered_start}
use Rattle.bk_word_net.proofs.Outlines.Shape.{hung_many}
use Rattle.bk_layout.specs.Layout.{Layout}
use Rattle.bk_layout.specs.LayoutLaws.{HangByNodesFrom, IsWordOfLayout}
use Rattle.bk_word.proofs.PlayLaws.{legal_front}
use Rattle.bk_layout.proofs.FreeCuts.InnerLines.{AllKnown, IsKnown, known_along, known_at}
use Rattle.bk_layout.proofs.FreeCuts.NumberedLines.{AllStand, all_along, index_stand}
use Rattle.bk_layout.proofs.FreeCuts.SharedLines.{hung_less, open_low, square_low}
use Rattle.bk_layout.proofs.FreeCuts.SharedPairs.{lines_share_the_node_above}
use Rattle.bk_layout.specs.FreeCuts.{IsSound}
use Rattle.bk_layout.specs.LineNumbers.{lefts_of, numbered_line, sides_at, square_lines}
use Rattle.bk_layout.specs.NodeCut.{ShareANode, SharedNodeIsFreeBarren, TouchesClosed}
use Rattle.bk_layout.proofs.FreeCuts.LineGaps.{along_long}

nodes_front : (l : Layout) (f : ℕ → ℕ) (o : Outline) (front rest : Word) → HangByNodesFrom l f o (front ++ rest) → HangByNodesFrom l f o front
nodes_front l f o [] rest p = tt
nodes_front l f o (m ∷ front) rest p = (p.0, nodes_front l f (after_move o m) front rest p.1)

-- each square of a word has its lines
pub as_many_sides : (w : Word) → length (square_lines w) ≡ order_of w
as_many_sides w = omega (arith, along_long start [] w refl, hung_many start w)

-- each square of a word has a line at its left
pub as_many_lefts : (w : Word) → length (lefts_of w) ≡ order_of w
as_many_lefts w = length-map (square_lines w) (λ s. s.0) ∙ as_many_sides w

module _ (n : ℕ) (front : Word) (s : ShareANode front) (l : Layout) (w rest : Word) (sound : IsSound n l) (word : IsWordOfLayout l w)
    (is : w ≡ front ++ rest) where
  nodes : HangByNodesFrom l (λ number. word.square (number - 1)) start front
  nodes = nodes_front l (λ number. word.square (number - 1)) start front rest
      (subst (HangByNodesFrom l (λ number. word.square (number - 1)) start) is word.nodes)

  stand : AllStand l word.square (square_lines front)
  stand = all_along l word.square sound.fits start [] front
      (legal_front start front rest (subst (AreLegalFrom start) is (word.complete).legal)) numbered_start refl nodes (λ k p e. absurd (none k p e))
    where
      none : (k : ℕ) (p : ℕ × ℕ) → slice_get [] k ≡ Some p → ⊥
      none k p e = cc

  known : AllKnown l word.square (square_lines front)
  known = known_along l word.square sound.fits sound.walls start [] front nodes (λ k p e. absurd (none k p e))
    where
      none : (k : ℕ) (p : ℕ × ℕ) → slice_get [] k ≡ Some p → ⊥
      none k p e = cc

  long : length (square_lines front) ≡ length (outline_of front).hung
  long = along_long start [] front refl

  lines_at : (number : ℕ) → number - 1 < length (outline_of front).hung
      → (l.left (word.square (number - 1)) ≡ numbered_line l word.square (sides_at (square_lines front) number).0)
      × (l.right (word.square (number - 1)) ≡ numbered_line l word.square (sides_at (square_lines front) number).1)
  lines_at number h = index_stand l word.square (square_lines front) stand (number - 1) (omega (arith, h, long))

  a_low : (1 ≤ s.a) × (s.a ≤ length (outline_of front).hung)
  a_low = open_low l sound.fits w word front rest is s.segment s.i s.a s.numbers s.is s.first

  b_low : (1 ≤ s.b) × (s.b ≤ length (outline_of front).hung)
  b_low = open_low l sound.fits w word front rest is s.segment s.j s.b s.numbers s.is s.second

  left_is : l.left (word.square (s.a - 1)) ≡ numbered_line l word.square (sides_at (square_lines front) s.a).0
  left_is = (lines_at s.a (omega (arith, a_low.0, a_low.1))).0

  right_is : l.right (word.square (s.b - 1)) ≡ numbered_line l word.square (sides_at (square_lines front) s.b).1
  right_is = (lines_at s.b (omega (arith, b_low.0, b_low.1))).1

  -- a square that touches a closed node beside a line has the line that the number stands for
  beside : (line m : ℕ) (t : TouchesClosed (outline_of front) (square_lines front) line s.node) → m ≡ numbered_line l word.square line
      → (l.left (word.square t.place) ≡ m) ⊎ (l.right (word.square t.place) ≡ m)
  beside line m t is_m = cases t.beside
    where
      place : suc t.place - 1 ≡ t.place
      place = omega arith

      at : (l.left (word.square (suc t.place - 1)) ≡ numbered_line l word.square (sides_at (square_lines front) (suc t.place)).0)
          × (l.right (word.square (suc t.place - 1)) ≡ numbered_line l word.square (sides_at (square_lines front) (suc t.place)).1)
      at = lines_at (suc t.place) (omega (arith, (t.at).within))

      cases : ((sides_at (square_lines front) (suc t.place)).0 ≡ line) ⊎ ((sides_at (square_lines front) (suc t.place)).1 ≡ line)
          → (l.left (word.square t.place) ≡ m) ⊎ (l.right (word.square t.place) ≡ m)
      cases (inl e) = inl (ap (λ (k : ℕ). l.left (word.square k)) (sym place) ∙ at.0 ∙ ap (numbered_line l word.square) e ∙ sym is_m)
      cases (inr e) = inr (ap (λ (k : ℕ). l.right (word.square k)) (sym place) ∙ at.1 ∙ ap (numbered_line l word.square) e ∙ sym is_m)

  beside_left : (l.left (word.square (s.left).place) ≡ l.left (word.square (s.a - 1))) ⊎ (l.right (word.square (s.left).place) ≡ l.left (word.square (s.a - 1)))
  beside_left = beside (sides_at (square_lines front) s.a).0 (l.left (word.square (s.a - 1))) s.left left_is

  beside_right : (l.left (word.square (s.right).place) ≡ l.right (word.square (s.b - 1)))
      ⊎ (l.right (word.square (s.right).place) ≡ l.right (word.square (s.b - 1)))
  beside_right = beside (sides_at (square_lines front) s.b).1 (l.right (word.square (s.b - 1))) s.right right_is

  -- two lines that are the walls have their numbers
  no_walls : l.left (word.square (s.a - 1)) ≡ 0 → l.right (word.square (s.b - 1)) ≡ 1
      → IsKnown l word.square (sides_at (square_lines front) s.a).0 → IsKnown l word.square (sides_at (square_lines front) s.b).1 → ⊥
  no_walls e f (inl p) (inr (inl q)) = s.not_walls p q
  no_walls e f (inl p) (inl q) = omega (arith, f, right_is, ap (numbered_line l word.square) q)
  no_walls e f (inl p) (inr (inr q)) = q.1 (sym right_is ∙ f)
  no_walls e f (inr (inl p)) k = omega (arith, e, left_is, ap (numbered_line l word.square) p)
  no_walls e f (inr (inr p)) k = p.0 (sym left_is ∙ e)

  cut : ⊥
  cut = cases (lines_share_the_node_above l w front rest sound.fits sound.simple sound.lines word is s.segment s.i s.j s.a s.b s.node
      (s.left).place (s.right).place s.numbers s.is s.first s.second s.order (s.left).at beside_left (s.right).at beside_right)
    where
      cases : ((s.i ≡ s.j) × (slice_get (outline_of front).hung (s.a - 1) ≡ Some s.node))
          ⊎ ((l.left (word.square (s.a - 1)) ≡ 0) × (l.right (word.square (s.b - 1)) ≡ 1))
          ⊎ ((l.left (word.square (s.a - 1)) ≡ 1) × (l.right (word.square (s.b - 1)) ≡ 0)) → ⊥
      cases (inl h) = s.not_own h.0 h.1
      cases (inr (inl h)) = no_walls h.0 h.1 (known_at l word.square (square_lines front) known (s.a - 1)).0
          (known_at l word.square (square_lines front) known (s.b - 1)).1
      cases (inr (inr h)) = (sound.walls).not_beyond (word.square (s.a - 1))
          (square_low l sound.fits w word (s.a - 1) (omega (arith, a_low.0, a_low.1, hung_less l sound.fits w word front rest is))) h.0

-- the law: the numbers of lines stand for lines, which share no such node
pub shared_node_is_free_barren : SharedNodeIsFreeBarren
shared_node_is_free_barren n front s l w rest sound word is = cut n front s l w rest sound word is
