-- Words of a tiling in which squares may be reversed, top with bottom and left with right, which changes the sign of a
-- square's current and nothing else in Kirchhoff's laws. Statements alone; they are proved apart.
-- Example (SignedWordExamples): in the rectangle 3x2 of the squares 2, 1, 1 with the first reversed, its edges are
-- taken as 2 and 0.
use Rattle.std.specs.Prelude.{Bool, List, Some, [], cond, slice_get, suc, zero, ℕ, ◌+◌, ◌∷◌, ◌≡◌}
use Rattle.bk_tiling.specs.Tiling.{IsTiling, Tiling, order, square_of}
use Rattle.bk_net.specs.Diagram.{smith_diagram}
use Rattle.bk_net.specs.Net.{Net}
use Rattle.bk_word.specs.Play.{IsComplete}
use Rattle.bk_word.specs.Word.{Move, Word, order_of}
use Rattle.bk_lay.specs.TilingWord.{IsWordOf}
use Rattle.bk_word_net.specs.Renumbering.{IsRenumbering}
use Rattle.bk_word_net.specs.WordNet.{net_of_word}
use Rattle.bk_layout.specs.FreeWord.{IsFree}
use Rattle.bk_layout.specs.Layout.{Fits, Layout}
use Rattle.bk_layout.specs.LayoutLaws.{IsWordOfLayout}
use Rattle.bk_layout.specs.TilingLayout.{layout_of}
use Rattle.bk_layout.specs.LineNumbers.{square_lines}
use Rattle.bk_layout.specs.Reversal.{IsUpToReversals}

-- wires, numbered from here on, of which the reversed ones lead the other way
abbrev pub with_reversed : (ℕ → Bool) → ℕ → List (ℕ × ℕ) → List (ℕ × ℕ)
with_reversed is_reversed k [] = []
with_reversed is_reversed k (w ∷ wires) = cond (is_reversed k) (w.1, w.0) w ∷ with_reversed is_reversed (k + 1) wires

-- the net with these wires reversed
abbrev pub reversed_net : (ℕ → Bool) → Net → Net
reversed_net is_reversed net = record { nodes = net.nodes; wires = with_reversed is_reversed 0 net.wires }

-- the columns of a square's edges, as its word takes them: a reversed square has its right edge at its left
abbrev pub left_edge : Tiling → (ℕ → Bool) → ℕ → ℕ
left_edge t is_reversed q = cond (is_reversed q) ((square_of t q).x + (square_of t q).s) (square_of t q).x

abbrev pub right_edge : Tiling → (ℕ → Bool) → ℕ → ℕ
right_edge t is_reversed q = cond (is_reversed q) (square_of t q).x ((square_of t q).x + (square_of t q).s)

-- the column of a line of the word by its number: 0 is the left wall, 1 the right wall, k + 2 the gap behind the square
-- at place k
abbrev pub line_column : Tiling → (ℕ → Bool) → (ℕ → ℕ) → ℕ → ℕ
line_column t is_reversed square zero = 0
line_column t is_reversed square (suc zero) = t.width
line_column t is_reversed square (suc (suc k)) = right_edge t is_reversed (square k)

-- a free word of as many squares, and of as many in its first move as the tiling's word, whose net is the tiling's
-- Smith diagram with other numbers and the wires of reversed squares reversed, and whose squares stand along its lines
pub record IsSignedWordOf (t : Tiling) (w : Word) : Type 0 where
  pub complete : IsComplete w
  pub order_is : order_of w ≡ order t
  pub free : IsFree w
  pub first_count : (word : Word) (m n : Move) → IsWordOf t word → slice_get word 0 ≡ Some n → slice_get w 0 ≡ Some m
      → m.count ≡ n.count
  -- which squares of the tiling are reversed, by their numbers in the code from 0
  pub is_reversed : ℕ → Bool
  -- the node and the square of the tiling for each of the word
  pub node : ℕ → ℕ
  pub square : ℕ → ℕ
  pub net : IsRenumbering (net_of_word w) (reversed_net is_reversed (smith_diagram t)) node square
  pub lines : (k f g : ℕ) → slice_get (square_lines w) k ≡ Some (f, g)
      → (left_edge t is_reversed (square k) ≡ line_column t is_reversed square f)
      × (right_edge t is_reversed (square k) ≡ line_column t is_reversed square g)

-- each word of a layout that is the tiling's up to reversed squares is a signed word of the tiling
abbrev pub AWordUpToReversalsIsSigned : Type 0
AWordUpToReversalsIsSigned = (t : Tiling) (m : Layout) (w : Word) → IsTiling t → Fits m
    → (same : IsUpToReversals (layout_of t) m) → IsWordOfLayout m w
    → (s : IsSignedWordOf t w) × (s.is_reversed ≡ same.is_reversed)
