-- Each layout that fits has a free word, whose net is the layout's. A statement alone; it is proved apart.
-- Example (WordOfLayoutExamples): 2u.1e is the word of the layout of the rectangle 3x2 of the squares 2, 1, 1.
use Rattle.std.specs.Prelude.{Some, [], length, map, slice_get, slice_index_or, suc, ℕ, ⊤, ◌+◌, ◌-◌, ◌<◌, ◌∷◌, ◌≡◌}
use Rattle.bk_word.specs.Outline.{Outline, start, valley_of}
use Rattle.bk_word.specs.Play.{IsComplete, after_move, new_squares, outline_of}
use Rattle.bk_word.specs.Word.{Move, Word, order_of}
use Rattle.bk_word_net.specs.Renumbering.{IsRenumbering}
use Rattle.bk_word_net.specs.WordNet.{net_of_word}
use Rattle.bk_layout.specs.FreeWord.{IsFree, IsWithoutTwins}
use Rattle.bk_layout.specs.Layout.{Fits, HasNoTwins, IsFirst, IsLast, Layout, net_of_layout}

-- the squares of a move, each of which has the square of its number, stand side by side, the first at the line at which
-- the valley's first square stands
pub record HangsByLines (l : Layout) (square : ℕ → ℕ) (o : Outline) (m : Move) : Type 0 where
  pub first : (a : ℕ) → slice_get (valley_of o) 0 ≡ Some a → l.left (square (length o.hung + 1)) ≡ l.left (square a)
  pub next : (k : ℕ) → suc k < m.count
      → l.right (square (length o.hung + 1 + k)) ≡ l.left (square (length o.hung + 2 + k))

abbrev pub HangByLinesFrom : Layout → (ℕ → ℕ) → Outline → Word → Type 0
HangByLinesFrom l square o [] = ⊤
HangByLinesFrom l square o (m ∷ moves) = HangsByLines l square o m × HangByLinesFrom l square (after_move o m) moves

-- the valley's squares are all that end on one node, and those of the move all that hang from it; where it is the one
-- open segment, it reaches from wall to wall
pub record HangsNode (l : Layout) (square : ℕ → ℕ) (o : Outline) (m : Move) : Type 0 where
  pub node : ℕ
  pub low : node < l.bottom
  pub ends : map square (valley_of o) ≡ l.ending node
  pub hangs : map square (new_squares o m) ≡ l.hanging node
  pub from_wall : length o.segments ≡ 1 → (q : ℕ) → IsFirst (l.ending node) q → l.left q ≡ 0
  pub to_wall : length o.segments ≡ 1 → (q : ℕ) → IsLast (l.ending node) q → l.right q ≡ 1

abbrev pub HangByNodesFrom : Layout → (ℕ → ℕ) → Outline → Word → Type 0
HangByNodesFrom l square o [] = ⊤
HangByNodesFrom l square o (m ∷ moves) = HangsNode l square o m × HangByNodesFrom l square (after_move o m) moves

-- a complete word of as many squares, with the sign rule of free words; its squares, in the order of hanging, and its
-- nodes, in the order of closing, are those of the layout
pub record IsWordOfLayout (l : Layout) (w : Word) : Type 0 where
  pub complete : IsComplete w
  pub order : order_of w ≡ l.squares
  pub free : IsFree w
  pub no_twins : HasNoTwins l → IsWithoutTwins w
  pub first_count : (m : Move) → slice_get w 0 ≡ Some m → m.count ≡ length (l.hanging 0)
  pub node : ℕ → ℕ
  pub square : ℕ → ℕ
  pub net : IsRenumbering (net_of_word w) (net_of_layout l) node square
  -- numbers of squares begin at 1 in a word
  pub wall : l.left (square 0) ≡ 0
  pub lines : HangByLinesFrom l (λ number. square (number - 1)) start w
  pub nodes : HangByNodesFrom l (λ number. square (number - 1)) start w
  -- the last segment is all that ends on the bottom, from wall to wall
  pub end : map (λ number. square (number - 1)) (slice_index_or (outline_of w).segments 0 []) ≡ l.ending l.bottom
  pub end_from : (q : ℕ) → IsFirst (l.ending l.bottom) q → l.left q ≡ 0
  pub end_to : (q : ℕ) → IsLast (l.ending l.bottom) q → l.right q ≡ 1

abbrev pub ALayoutHasAFreeWord : Type 0
ALayoutHasAFreeWord = (l : Layout) → Fits l → (w : Word) × IsWordOfLayout l w
