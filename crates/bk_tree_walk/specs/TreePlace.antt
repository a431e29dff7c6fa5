-- How far a walk through the tree of legal words has come. Its place is a word, which need not be legal: what is
-- before it is passed. What it meets are the words that it pushes, and each is one step.
-- Examples (TreePlaceExamples): of order 2 and the class imperfect the one member has the word 2e. At the place 2e a
-- walk has met 1, 1.1 and 2a and passed no member's word; the place 2u would be too far. So it meets 2e as the fourth
-- word. Then no square is left to hang: it takes 2e back, goes on to 2u, and finds no other member.
use Rattle.std.specs.List.{AllByRecursion}
use Rattle.std.specs.Prelude.{Bool, List, None, Option, Some, [], false, length, true, ℕ, ◌++◌, ◌+◌, ◌<◌, ◌^◌, ◌∷◌, ◌≡◌}
use Rattle.std.specs.Prelude.{◌≤◌}
use Rattle.bk_word.specs.Outline.{IsLegalMove}
use Rattle.bk_word.specs.Play.{IsLegal, outline_of}
use Rattle.bk_word.specs.Word.{Follows, Move, Word, order_of}
use Rattle.bk_word.specs.declared.Class.{Class}
use Rattle.bk_word.specs.declared.TheConstants.{LARGEST_LISTED_ORDER, LEAST_LISTED_ORDER}
use Rattle.bk_catalogue.specs.NextMove.{move_after}
use Rattle.bk_tree_walk.specs.declared.Went.{Went}
use Rattle.bk_tree_walk.specs.declared.Went.TheVariants.{End, Met, On}
use Rattle.bk_catalogue.specs.Following.{HasNoneAfter, HasNoneBetween}
use Rattle.bk_catalogue.specs.Tree.{AreAscendingWords, HasAtLeast, IsInTree, PushesGrow}

-- a legal word of at most so many squares
pub record IsTreeWord (n : ℕ) (w : Word) : Type 0 where
  pub legal : IsLegal w
  pub small : order_of w ≤ n

-- no member's word is after the cursor and before the place; each word of the tree that is not before the place is
-- after the cursor; and so many words of the tree were met, each after the cursor and before the place, each once
pub record HasPassed (n : ℕ) (class : Class) (cursor place : Word) (met : ℕ) : Type 0 where
  pub passed : HasNoneBetween n class cursor place
  pub after : (w : Word) → IsTreeWord n w → (Follows place w → ⊥) → Follows w cursor
  pub words : List Word
  pub each : AllByRecursion (λ w. IsInTree n cursor None w × Follows place w) words
  pub ascending : AreAscendingWords words
  pub count : met ≤ length words

-- the word is after the cursor, no member's word is between, and so many words of the tree were met up to it
pub record IsMet (n : ℕ) (class : Class) (cursor word : Word) (met : ℕ) : Type 0 where
  pub after : Follows word cursor
  pub passed : HasNoneBetween n class cursor word
  pub count : HasAtLeast n cursor (Some word) met

-- from one place to a later one, with so many words met on the way
pub record Advances (n : ℕ) (class : Class) (place next : Word) (met : ℕ) : Type 0 where
  pub up : Follows next place
  pub on : (cursor : Word) (before : ℕ) → HasPassed n class cursor place before
      → HasPassed n class cursor next (before + met)

-- no member's word is after the cursor, and so many words of the tree were met
pub record IsEnd (n : ℕ) (class : Class) (cursor : Word) (met : ℕ) : Type 0 where
  pub passed : HasNoneAfter n class cursor
  pub count : HasAtLeast n cursor None met

-- from a place to the end
abbrev pub Ends : ℕ → Class → Word → ℕ → Type 0
Ends n class place met = (cursor : Word) (before : ℕ) → HasPassed n class cursor place before
    → IsEnd n class cursor (before + met)

-- a place where a walk stands: the moves that it has played are a word of the tree, and the move is one from which it
-- looks for the next legal one
pub record IsTreeWalkState (n : ℕ) (front : Word) (x : Move) : Type 0 where
  pub legal : IsLegal front
  pub small : order_of front ≤ n
  pub some : 0 < x.count
  pub count : x.count ≤ LARGEST_LISTED_ORDER + 1
  pub signs : length x.signs ≤ LARGEST_LISTED_ORDER + 2

-- from a place the walk meets the word, and so many words up to it, itself the last
abbrev pub Meets : ℕ → Class → Word → Word → ℕ → Type 0
Meets n class place word met = (cursor : Word) (before : ℕ) → HasPassed n class cursor place before
    → IsMet n class cursor word (before + met)

-- a walk: its order and class, the moves that it has played, the move from which it looks for the next legal one, and
-- how many moves it has pushed, up to the last number of 64 bits
pub record TreeWalkState : Type 0 where
  pub order : ℕ
  pub class : Class
  pub front : Word
  pub next : Move
  pub pushes : ℕ

-- the place where it stands
abbrev pub place_of : TreeWalkState → Word
place_of s = s.front ++ s.next ∷ []

-- where a step of a walk leads: on to a later place, to the word of a member, or to the end
abbrev pub StepLeadsTo : TreeWalkState → TreeWalkState → ℕ → Went → Type 0
StepLeadsTo s then met On = Advances s.order s.class (place_of s) (place_of then) met
    × IsTreeWalkState s.order then.front then.next
StepLeadsTo s then met Met = Meets s.order s.class (place_of s) then.front met
StepLeadsTo s then met End = Ends s.order s.class (place_of s) met × (then.front ≡ [])

-- from the one place a step leads wherever it leads from the other
abbrev pub GoesOnFrom : TreeWalkState → TreeWalkState → Type 0
GoesOnFrom s then = (last : TreeWalkState) (met : ℕ) (went : Went) → StepLeadsTo then last met went
    → StepLeadsTo s last met went

-- the last move was taken back, and the other is the next after it
pub record IsClimbed (before front : Word) (x : Move) : Type 0 where
  pub last : Move
  pub was : before ≡ front ++ last ∷ []
  pub next : x ≡ move_after last

-- what holds of each walk
pub record IsKeptTreeWalk (s : TreeWalkState) : Type 0 where
  pub least : LEAST_LISTED_ORDER ≤ s.order
  pub most : s.order ≤ LARGEST_LISTED_ORDER
  pub stand : IsTreeWalkState s.order s.front s.next
  pub known : s.pushes < 2 ^ 64

-- the next move is legal, and hangs no more squares than are left
pub record IsReady (s : TreeWalkState) : Type 0 where
  pub legal : IsLegalMove (outline_of s.front) s.next
  pub few : order_of s.front + s.next.count ≤ s.order

-- where a walk is, that makes its next move legal: ready to go on from there as from where it was, or back from moves
-- after which none is left, or at the end
abbrev pub SettlesTo : TreeWalkState → TreeWalkState → Option Went → Type 0
SettlesTo s then None = IsReady then × GoesOnFrom s then
SettlesTo s then (Some On) = StepLeadsTo s then 0 On
SettlesTo s then (Some Met) = ⊥
SettlesTo s then (Some End) = StepLeadsTo s then 0 End

-- a step changes neither the order nor the class, and counts its pushes
pub record StaysOf (s then : TreeWalkState) (steps steps_then : ℕ) : Type 0 where
  pub order : then.order ≡ s.order
  pub class : then.class ≡ s.class
  pub counts : PushesGrow s.pushes then.pushes steps steps_then

-- what a walk finds: the word of a member, or there is none, and it is at the end
abbrev pub Finds : TreeWalkState → TreeWalkState → ℕ → Bool → Type 0
Finds s then met true = Meets s.order s.class (place_of s) then.front met
Finds s then met false = Ends s.order s.class (place_of s) met × (then.front ≡ [])
