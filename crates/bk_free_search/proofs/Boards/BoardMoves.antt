-- What a board keeps, as a move is played and taken back.
use Rattle.std.proofs.Common.{List, [], ap, arith, cond, count_by, length, nat_eq, subst, sym, take, ℕ, ◌++◌}
use Rattle.std.proofs.Common.{◌+◌, ◌-◌, ◌<◌, ◌∙◌, ◌∷◌, ◌≡◌, ◌⊎◌}
use Rattle.bk_word.specs.Outline.{IsLegalMove, valley_of}
use Rattle.bk_word.specs.Play.{numbers_from, outline_of}
use Rattle.bk_word.specs.Word.{Move, Word, order_of}
use Rattle.bk_free_search.proofs.Boards.LeftLines.{end_left, left_less, left_more}
use Rattle.bk_free_search.proofs.Boards.RightLines.{end_right, right_less, right_more}
use Rattle.bk_free_search.proofs.Boards.TopLineMarks.{first_more}
use Rattle.bk_free_search.proofs.Boards.TouchedLines.{AreNextLines, nodes_less, nodes_more}
use Rattle.bk_free_search.proofs.Boards.WordCounts.{left_walls, lefts_then, right_walls, rights_then}
use Rattle.bk_layout.specs.LineNumbers.{left_end, lefts_of, right_end, square_lines}
use Rattle.bk_free_search.specs.BoardOutlines.{IsBoardOutline}
use Rattle.bk_free_search.specs.Boards.{BoardLists, IsBoardOf}
use Rattle.bk_free_search.specs.Lefts.{IsLeftWord, first_left}
use Rattle.bk_free_search.specs.Joining.{TouchOneOf}
use Rattle.bk_free_search.specs.NodeLines.{AreNodeLines, Has, HasPair, IsBesideNew, IsBesideOneOf}
use Rattle.bk_free_search.specs.Rights.{last_right, rights_of}
use Rattle.bk_free_search.specs.declared.board.Board.TheInside.{Inside}
use Rattle.bk_free_search.specs.declared.board.BoardOutline.{BoardOutline}
use Rattle.bk_free_search.specs.declared.line_set.LineSet.{LineSet}

-- what a board keeps, by its fields
abbrev pub lists_of : Inside → BoardLists
lists_of b = record {
  lefts = b.lefts.items;
  rights = b.rights.items;
  nodes = b.nodes.items;
  first = b.first;
  left = b.left;
  right = b.right;
}

-- what is known of a move that is played, by what the board keeps before and after it
pub record IsPlayed (w : Word) (m : Move) (b after : BoardLists) : Type 0 where
  pub hung : ℕ
  pub hung_is : hung ≡ order_of w
  pub count : ℕ
  pub count_is : count ≡ m.count
  pub squares : List ℕ
  pub squares_are : squares ≡ valley_of (outline_of w)
  pub left : ℕ
  pub left_is : left ≡ first_left b.lefts squares
  pub right : ℕ
  pub right_is : right ≡ last_right b.rights squares
  pub lefts_are : after.lefts ≡ b.lefts ++ left ∷ numbers_from (hung + 2) (count - 1)
  pub rights_are : after.rights ≡ b.rights ++ numbers_from (hung + 2) (count - 1) ++ right ∷ []
  pub lines : LineSet
  pub only : (line : ℕ) → Has lines line → IsBesideOneOf after.lefts after.rights squares line ⊎ IsBesideNew after.lefts after.rights hung count line
  pub all : (line : ℕ) → line < 32 → IsBesideOneOf after.lefts after.rights squares line ⊎ IsBesideNew after.lefts after.rights hung count line
      → Has lines line
  pub nodes_are : after.nodes ≡ b.nodes ++ lines ∷ []
  pub first_is : after.first ≡ cond (nat_eq hung 0) count b.first
  pub left_then_is : after.left ≡ b.left + cond (nat_eq left 0) 1 0
  pub right_then_is : after.right ≡ b.right + cond (nat_eq right 1) 1 0

-- squares, and the new ones of a move: the left and the right lines of all squares, the numbers of some of them, how many were hung before the move, and
-- how many it hangs
pub record WithNew : Type 0 where
  pub lefts : List ℕ
  pub rights : List ℕ
  pub squares : List ℕ
  pub hung : ℕ
  pub count : ℕ

-- the line is at a side of one of the numbered squares, or of a new one
abbrev pub beside : WithNew → ℕ → Type 0
beside q line = IsBesideOneOf q.lefts q.rights q.squares line ⊎ IsBesideNew q.lefts q.rights q.hung q.count line

-- a line that is beside squares is beside equal ones
pub beside_same : (q r : WithNew) (line : ℕ) → q ≡ r → beside q line → beside r line
beside_same q r line same near = subst (λ (x : WithNew). beside x line) same near

-- the valley's squares and the new ones of a move that is played, by what the board keeps
abbrev played_squares : (w : Word) (m : Move) (b after : BoardLists) → IsPlayed w m b after → WithNew
played_squares w m b after p = record { lefts = after.lefts; rights = after.rights; squares = p.squares; hung = p.hung; count = p.count }

-- the valley's squares and the new ones of a move, by the word before it
abbrev word_squares : Word → Move → WithNew
word_squares w m = record {
  lefts = lefts_of (w ++ m ∷ []);
  rights = rights_of (w ++ m ∷ []);
  squares = valley_of (outline_of w);
  hung = order_of w;
  count = m.count;
}

-- after a legal move a board keeps the lines, nodes and counts of the word with that move
pub board_more : (w more : Word) (m : Move) (b after : BoardLists) → IsBoardOf w b → IsLegalMove (outline_of w) m → more ≡ w ++ m ∷ []
    → IsPlayed w m b after → IsBoardOf more after
board_more w more m b after board legal e p = record {
  left_word = left;
  rights_are = right ∙ ap rights_of (sym e);
  node_lines = subst (λ (v : Word). AreNodeLines v after.nodes) (sym e)
      (subst (λ (l : List LineSet). AreNodeLines (w ++ m ∷ []) l) (sym p.nodes_are)
      (nodes_more w m b.nodes p.lines board.left_word.legal board.node_lines next));
  first_is = first_more w more m e p.hung b.first after.first board.left_word.legal p.hung_is board.first_is
      (p.first_is ∙ ap (λ k. cond (nat_eq p.hung 0) k b.first) p.count_is);
  left_is = p.left_then_is ∙ ap (λ k. k + cond {A = ℕ} (nat_eq p.left 0) 1 0) left_before
      ∙ sym (lefts_then b.lefts p.left (p.hung + 2) (p.count - 1) (omega arith))
      ∙ ap (count_by (λ l. nat_eq l 0)) (sym p.lefts_are ∙ left.lefts_are) ∙ left_walls more;
  right_is = p.right_then_is ∙ ap (λ k. k + cond {A = ℕ} (nat_eq p.right 1) 1 0) right_before
      ∙ sym (rights_then b.rights p.right (p.hung + 2) (p.count - 1) (omega arith))
      ∙ ap (count_by (λ l. nat_eq l 1)) (sym p.rights_are ∙ right ∙ ap rights_of (sym e)) ∙ right_walls more;
}
  where
    left : IsLeftWord more after.lefts
    left = left_more w more m b.lefts after.lefts board.left_word legal e (record {
      hung = p.hung;
      hung_is = p.hung_is;
      count = p.count;
      count_is = p.count_is;
      first = p.left;
      first_is = p.left_is ∙ ap (first_left b.lefts) p.squares_are;
      are = p.lefts_are;
    })

    lefts_are : after.lefts ≡ lefts_of (w ++ m ∷ [])
    lefts_are = left.lefts_are ∙ ap lefts_of e

    right : after.rights ≡ rights_of (w ++ m ∷ [])
    right = right_more w m b.rights after.rights legal board.rights_are (record {
      hung = p.hung;
      hung_is = p.hung_is;
      count = p.count;
      count_is = p.count_is;
      last = p.right;
      last_is = p.right_is ∙ ap (last_right b.rights) p.squares_are;
      are = p.rights_are;
    })

    left_before : b.left ≡ count_by (λ l. nat_eq l 0) b.lefts
    left_before = board.left_is ∙ sym (left_walls w) ∙ ap (count_by (λ l. nat_eq l 0)) (sym board.left_word.lefts_are)

    right_before : b.right ≡ count_by (λ l. nat_eq l 1) b.rights
    right_before = board.right_is ∙ sym (right_walls w) ∙ ap (count_by (λ l. nat_eq l 1)) (sym board.rights_are)

    same : played_squares w m b after p ≡ word_squares w m
    same = λ i. record {
      lefts = lefts_are i;
      rights = right i;
      squares = p.squares_are i;
      hung = p.hung_is i;
      count = p.count_is i;
    }

    next : AreNextLines w m p.lines
    next = record {
      only = λ line has. beside_same (played_squares w m b after p) (word_squares w m) line same (p.only line has);
      all = λ line low near. p.all line low (beside_same (word_squares w m) (played_squares w m b after p) line (sym same) near);
    }

-- what is known of a move that is taken back, by how the board stood before that move, and what it keeps with the move and then
pub record IsTakenBack (w front : Word) (before : BoardOutline) (b after : BoardLists) : Type 0 where
  pub some : 0 < length w
  pub front_is : front ≡ take (length w - 1) w
  pub order : ℕ
  pub order_is : order ≡ order_of front
  pub moves : ℕ
  pub moves_are : moves ≡ length front
  pub lefts_are : after.lefts ≡ take order b.lefts
  pub rights_are : after.rights ≡ take order b.rights
  pub nodes_are : after.nodes ≡ take moves b.nodes
  pub first_is : after.first ≡ before.first
  pub left_is : after.left ≡ before.left
  pub right_is : after.right ≡ before.right

-- when the last move is taken back, a board keeps the lines, nodes and counts of the word before it
pub board_less : (w front : Word) (before : BoardOutline) (b after : BoardLists) → IsBoardOf w b → IsBoardOutline front before
    → IsTakenBack w front before b after → IsBoardOf front after
board_less w front before b after board outline t = record {
  left_word = left_less w front b.lefts after.lefts t.order board.left_word t.front_is t.order_is t.lefts_are;
  rights_are = right_less w front b.rights after.rights t.order board.rights_are t.front_is t.order_is t.rights_are;
  node_lines = nodes_less w front b.nodes after.nodes t.some board.node_lines t.front_is (t.nodes_are ∙ ap (λ k. take k b.nodes) t.moves_are);
  first_is = t.first_is ∙ outline.first_is;
  left_is = t.left_is ∙ outline.left_is;
  right_is = t.right_is ∙ outline.right_is;
}

-- ---- two lines at one node

-- lines that touch one of the nodes that a board keeps touch a closed node of the word
pub touch_lines : (w : Word) (nodes : List LineSet) (lefts rights : LineSet) → AreNodeLines w nodes → HasPair nodes lefts rights → TouchOneOf w lefts rights
touch_lines w nodes lefts rights are p = record {
  left = p.left;
  right = p.right;
  in_lefts = p.in_lefts;
  in_rights = p.in_rights;
  touch = record {
    node = p.node;
    at_left = are.touch p.node p.left p.lines p.at p.has_left;
    at_right = are.touch p.node p.right p.lines p.at p.has_right;
    not_walls = p.not_walls;
  };
}

-- the left line of the first of some squares is found in the list of all left lines of a word
pub left_end_on_board : (w : Word) (lefts squares : List ℕ) → lefts ≡ lefts_of w → first_left lefts squares ≡ left_end (square_lines w) squares
left_end_on_board w lefts squares are = ap (λ (ls : List ℕ). first_left ls squares) are ∙ sym (end_left (square_lines w) squares)

-- the right line of the last of some squares is found in the list of all right lines of a word
pub right_end_on_board : (w : Word) (rights squares : List ℕ) → rights ≡ rights_of w → last_right rights squares ≡ right_end (square_lines w) squares
right_end_on_board w rights squares are = ap (λ (rs : List ℕ). last_right rs squares) are ∙ sym (end_right (square_lines w) squares)
