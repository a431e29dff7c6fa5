-- What joins the word of a tiling to the play of words. Statements alone; each is proved apart.
-- Example (DepictionExamples): under the squares 2 and 1 the columns never get deeper before the valley in column 2;
-- under 1, 2 and 1 they do before the valley in column 3.
use Rattle.std.specs.Prelude.{List, [], length, suc, ℕ, ◌++◌, ◌<◌, ◌∷◌, ◌≡◌, ◌≤◌}
use Rattle.bk_tiling.specs.Column.{depth}
use Rattle.bk_tiling.specs.declared.Segment.{Segment}
use Rattle.bk_tiling.specs.Tiling.{IsTiling, Tiling}
use Rattle.bk_tiling.specs.declared.Square.{Square}
use Rattle.bk_word.specs.Outline.{IsLegalMove, Outline, start}
use Rattle.bk_word.specs.Play.{IsComplete, after_move}
use Rattle.bk_word.specs.Word.{Word, order_of}
use Rattle.bk_lay.specs.Depiction.{Depicts, FillsFromTop}
use Rattle.bk_lay.specs.TilingWord.{IsLeftmostValley, IsValley, IsWordOf, move_under, squares_under}

-- from the left wall to the valley the columns never get deeper
abbrev pub NeverDeeperBefore : List Square → Segment → Type 0
NeverDeeperBefore laid v = (c : ℕ) → suc c ≤ v.x → depth laid (suc c) ≤ depth laid c

-- a valley before which the columns never get deeper is the leftmost one, and no other is
abbrev pub LeftmostIsFirstRise : Type 0
LeftmostIsFirstRise = (width : ℕ) (laid : List Square) (v : Segment) → IsValley width laid v
    → (NeverDeeperBefore laid v → IsLeftmostValley width laid v)
    × (IsLeftmostValley width laid v → NeverDeeperBefore laid v)

-- the squares under the leftmost valley fill it, and what is laid then fills the tiling from the top again
abbrev pub ValleyIsFilled : Type 0
ValleyIsFilled = (t : Tiling) (laid : List Square) (v : Segment) → IsTiling t → FillsFromTop t laid
    → IsLeftmostValley t.width laid v → v.level < t.height
    → (0 < length (squares_under t v)) × FillsFromTop t (laid ++ squares_under t v)

-- at the start the outline is that of nothing laid
abbrev pub StartDepictsNothing : Type 0
StartDepictsNothing = (t : Tiling) → IsTiling t → Depicts t [] [] start

-- the one step of the induction: the move under the leftmost valley is legal, and playing it is laying its squares
abbrev pub MoveDepicts : Type 0
MoveDepicts = (t : Tiling) (laid : List Square) (nodes : List Segment) (o : Outline) (v : Segment) → IsTiling t
    → FillsFromTop t laid → Depicts t laid nodes o → IsLeftmostValley t.width laid v → v.level < t.height
    → IsLegalMove o (move_under t laid v)
    × Depicts t (laid ++ squares_under t v) (nodes ++ v ∷ []) (after_move o (move_under t laid v))

-- every tiling has a word
abbrev pub EveryTilingHasAWord : Type 0
EveryTilingHasAWord = (t : Tiling) → IsTiling t → (w : Word) × IsWordOf t w

-- no tiling has two words
abbrev pub ATilingHasOneWord : Type 0
ATilingHasOneWord = (t : Tiling) (v w : Word) → IsWordOf t v → IsWordOf t w → v ≡ w

-- the word of a tiling is legal and complete, and hangs as many squares as the tiling has
abbrev pub TilingWordIsComplete : Type 0
TilingWordIsComplete =
    (t : Tiling) (w : Word) → IsTiling t → IsWordOf t w → IsComplete w × (order_of w ≡ length t.squares)
