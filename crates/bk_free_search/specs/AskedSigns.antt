-- What a search knows of a next move: what stands beside the leftmost valley, and what the move's first signs ask for.
-- Example (AskedSignsExamples): after 2u the segment of square 1 stands before the valley. With a first sign even it
-- asks for one move, and with a first sign under for two, though one is left in a word of five squares. No word of a
-- normal layout has a first sign above there, and in one of four squares at least two signs of the move are even.
use Rattle.std.specs.Prelude.{Bool, List, [], cond, count_by, false, length, max, slice_index_or, true, ℕ, ◌++◌, ◌+◌}
use Rattle.std.specs.Prelude.{◌-◌, ◌<◌, ◌∷◌, ◌≡◌, ◌≤◌, ◌⊎◌}
use Rattle.bk_word.specs.Outline.{has_left_wall, has_right_wall, open_side, valley_place}
use Rattle.bk_word.specs.Play.{IsLegal, outline_of}
use Rattle.bk_word.specs.Signs.{is_even, is_under}
use Rattle.bk_word.specs.Word.{Move, Word, order_of}
use Rattle.bk_word.specs.declared.Sign.{Sign}
use Rattle.bk_word.specs.declared.Sign.TheVariants.{Above, Even, Under}
use Rattle.bk_layout.specs.BeforeNextMove.{AreMostMovesThen}
use Rattle.bk_layout.specs.NormalCuts.{IsNormalBarren}
use Rattle.bk_free_search.specs.Apart.{AreAskedBehind, IsCountedTo, behind_marks, joined_marks, marks_of_word}
use Rattle.bk_free_search.specs.NodeLines.{Has}
use Rattle.bk_free_search.specs.Strong.{IsFewPassed, seen_passed}
use Rattle.bk_play.specs.SmallSkeleton.{IsValleyPlace}
use Rattle.bk_free_search.specs.declared.asking.Asked.{Asked}
use Rattle.bk_free_search.specs.declared.asking.Before.{Before}
use Rattle.bk_free_search.specs.declared.asking.Beside.{Beside}
use Rattle.bk_free_search.specs.declared.asking.Needs.{Needs}
use Rattle.bk_free_search.specs.declared.asking.Next.{Next}
use Rattle.bk_free_search.specs.declared.behind.Asks.{Asks}
use Rattle.bk_free_search.specs.declared.behind.Behind.{Behind}
use Rattle.bk_free_search.specs.declared.counts.TheConstants.{FEW, MANY}
use Rattle.bk_free_search.specs.declared.line_set.LineSet.{LineSet}
use Rattle.bk_free_search.specs.declared.state.Begun.{Begun}
use Rattle.bk_free_search.specs.declared.state.Search.{Search}
use Rattle.bk_free_search.specs.declared.strong.Passed.{Passed}
use Rattle.bk_word.specs.declared.TheConstants.{LARGEST_LISTED_ORDER}

-- all places in the set are places of marked segments of the word
abbrev pub AreMarks : Word → LineSet → Type 0
AreMarks w marks = (i : ℕ) → Has marks i → slice_index_or (marks_of_word w) i false ≡ true

-- what the segments before the valley ask for with a next move's first signs: whatever move goes on by these, a pass
-- goes on from here to no more than the strong bound; and how many of the signs are even
pub record IsAsked (front : Word) (signs : List Sign) (asked : Asked) : Type 0 where
  pub counted : (m : Move) (more : List Sign) → IsLegal (front ++ m ∷ []) → m.signs ≡ signs ++ more
      → IsCountedTo front m (valley_place (outline_of front).signs - 1 + length signs) (seen_passed asked.passed)
  pub low_is : 0 < length signs → asked.passed.low ≡ is_under (slice_index_or signs (length signs - 1) Above)
  pub evens_are : asked.evens ≡ count_by is_even signs
  pub few : IsFewPassed asked.passed (FEW + length signs)

-- what is asked for before a next move's first sign, and with the sign even or under at a left neighbour
pub record AreAskedBefore (front : Word) (b : Before) : Type 0 where
  pub none : IsAsked front [] b.none
  pub even : has_left_wall (outline_of front) ≡ false → IsAsked front (Even ∷ []) b.even
  pub under : has_left_wall (outline_of front) ≡ false → IsAsked front (Under ∷ []) b.under

-- the numbers of what is asked for before the valley are small
pub record AreFewBefore (b : Before) : Type 0 where
  pub none : IsFewPassed b.none.passed (FEW + 1)
  pub even : IsFewPassed b.even.passed (FEW + 1)
  pub under : IsFewPassed b.under.passed (FEW + 1)

-- the numbers that segments ask for are small
pub record AreFewAsks (asks : Asks) (k : ℕ) : Type 0 where
  pub add : asks.add ≤ k + 1
  pub most : asks.most ≤ k + 2
  pub more : asks.more ≤ k + 1

-- what the segments behind the valley ask for, by the sign before the first of them, where even joins it to the last
-- new square
pub record AreBehind (front : Word) (b : Behind) : Type 0 where
  pub above : AreAskedBehind false (behind_marks front) front b.above
  pub even : AreAskedBehind false (joined_marks front) front b.even
  pub under : AreAskedBehind true (behind_marks front) front b.under
  pub few_above : AreFewAsks b.above (FEW + 1)
  pub few_even : AreFewAsks b.even (FEW + 1)
  pub few_under : AreFewAsks b.under (FEW + 1)

-- how many moves are left after the next one, of the most that a word has that goes on so
pub record AreMovesLeft (n : ℕ) (front : Word) (left : ℕ) : Type 0 where
  pub most : ℕ
  pub most_is : AreMostMovesThen n front most
  pub left_is : left ≡ most - (length front + 1)

-- no word of a normal layout goes on by a move of which fewer signs than so many are even
abbrev pub AreEvensNeeded : ℕ → Word → ℕ → Type 0
AreEvensNeeded n front evens = (m : Move) → count_by is_even m.signs < evens → IsNormalBarren n (front ++ m ∷ [])

-- more moves are asked for than are left, or more squares, by the segments up to a place and those behind
abbrev pub IsOver : Passed → Asks → ℕ → ℕ → Type 0
IsOver passed asks moves left = (moves < max (passed.most + asks.add) (passed.aboves + asks.most))
    ⊎ (left < max (passed.most + asks.add) (passed.aboves + asks.most) + passed.more + asks.more)

-- with fewer squares left than this number, and no more than there ever are, more moves or squares are asked for than
-- are left
abbrev pub NeedsLeft : Passed → Asks → ℕ → ℕ → Type 0
NeedsLeft passed asks moves need = (left : ℕ) → left < need → left < MANY → IsOver passed asks moves left

-- how many squares must be left, by what is asked for before a next move's first sign, and with the sign even or under
-- at a left neighbour
pub record AreNeeds (before : Before) (behind : Behind) (moves : ℕ) (needs : Needs) : Type 0 where
  pub none : NeedsLeft before.none.passed behind.even moves needs.none
  pub even : NeedsLeft before.even.passed behind.even moves needs.even
  pub under : NeedsLeft before.under.passed behind.even moves needs.under

-- what stands beside the leftmost valley: the walls, what the segments before it and behind it ask for, what is asked
-- of next moves, and the valley's places
pub record StandBeside (n : ℕ) (front : Word) (b : Beside) : Type 0 where
  pub left_is : b.left_wall ≡ has_left_wall (outline_of front)
  pub right_is : b.right_wall ≡ has_right_wall (outline_of front)
  pub before_is : AreAskedBefore front b.before
  pub few_before : AreFewBefore b.before
  pub behind_is : AreBehind front b.behind
  pub moves_are : AreMovesLeft n front b.ahead.moves
  pub evens_are : AreEvensNeeded n front b.ahead.evens
  pub needs_are : AreNeeds b.before b.behind b.ahead.moves b.needs
  pub valley_is : IsValleyPlace front b.valley

-- how many signs a next move of the count has, with that at a right neighbour and without, and how many squares are
-- left after it
pub record IsNextCount (n : ℕ) (front : Word) (count : ℕ) (next : Next) : Type 0 where
  pub own_is : next.own + 1 ≡ count + open_side (has_left_wall (outline_of front))
  pub wanted_is : next.wanted + 1
      ≡ count + open_side (has_left_wall (outline_of front)) + open_side (has_right_wall (outline_of front))
  pub left_is : next.left ≡ n - order_of front - count

-- what is asked for behind a last sign that is under, or above
abbrev pub asks_then : Behind → Bool → Asks
asks_then b low = cond low b.under b.above

-- a next move of a search is begun, after which squares are left, and this stands beside the valley
pub record IsMoveBegun (s : Search) (b : Begun) (around : Beside) : Type 0 where
  pub least : 3 ≤ s.order
  pub most : s.order ≤ LARGEST_LISTED_ORDER
  pub some : 0 < b.m.count
  pub fits : order_of s.board + b.m.count < s.order
  pub signs : length b.m.signs ≤ b.next.wanted
  pub next_is : IsNextCount s.order s.board b.m.count b.next
  pub around_is : StandBeside s.order s.board around

-- the signs so far of a begun move are followed by those between its own squares, or by one at a right neighbour, and
-- this is asked for with them
pub record IsWithOwn (s : Search) (b : Begun) (around : Beside) (asked : Asked) : Type 0 where
  pub begun : IsMoveBegun s b around
  pub asked_is : IsAsked s.board b.m.signs asked
  pub from : open_side (has_left_wall (outline_of s.board)) ≤ length b.m.signs
  pub own : length b.m.signs ≤ b.next.own

-- this may be the next sign of a begun move: behind it stands one of the move's own squares, and this is asked for with
-- it
pub record IsOwnSign (s : Search) (b : Begun) (around : Beside) (asked : Asked) (sign : Sign) : Type 0 where
  pub begun : IsMoveBegun s b around
  pub asked_is : IsAsked s.board (b.m.signs ++ sign ∷ []) asked
  pub own : length b.m.signs + 1 ≤ b.next.own

-- no word of a normal layout goes on by a move of this count whose signs begin with these
pub record BarsSigns (n : ℕ) (front : Word) (count : ℕ) (signs : List Sign) : Type 0 where
  pub barren : (other : Move) (more : List Sign) → other.count ≡ count → other.signs ≡ signs ++ more
      → IsNormalBarren n (front ++ other ∷ [])

-- no word of a normal layout goes on by the move that is begun with this sign next
abbrev pub BarsNext : Search → Begun → Sign → Type 0
BarsNext s b sign = BarsSigns s.order s.board b.m.count (b.m.signs ++ sign ∷ [])
