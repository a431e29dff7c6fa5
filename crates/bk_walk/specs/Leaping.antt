-- How a walk goes on where a table of members stands: to the word of the least number that isn't before its place.
-- Examples (LeapingExamples): of order 2 and the class imperfect the one member has the word 2e. Its number is the
-- least from 0 on, and its word the next from the place 2a on; behind its number, and from the place 2u on, there is no
-- more. The number of 2u.1e leads on from 2u. From the start one step may lead to 2e, and then it meets a member.
use Rattle.std.specs.Prelude.{ℕ, ⊤, ◌++◌, ◌-◌, ◌≡◌, ◌≤◌}
use Rattle.bk_tiling.specs.Tiling.{Tiling}
use Rattle.bk_word.specs.Play.{IsLegal}
use Rattle.bk_word.specs.Word.{Follows, Word, order_of}
use Rattle.bk_word.specs.declared.Class.{Class}
use Rattle.bk_catalogue.specs.Catalogue.{Entry, IsEntry}
use Rattle.bk_packed.specs.Packed.{packed}
use Rattle.bk_tree_walk.specs.TreePlace.{TreeWalkState, StaysOf, StepLeadsTo}
use Rattle.bk_tree_walk.specs.declared.Went.{Went}
use Rattle.bk_tree_walk.specs.declared.Went.TheVariants.{Met}
use Rattle.bk_walk.specs.declared.table_answer.TableAnswer.{TableAnswer}
use Rattle.bk_walk.specs.declared.table_answer.TableAnswer.TheVariants.{Next, NoMore, Unknown}

-- the least number of a member's word that isn't below a number
pub record IsLeastNumber (n : ℕ) (class : Class) (bound number : ℕ) : Type 0 where
  pub entry : Entry
  pub is : IsEntry n class entry
  pub number_is : packed entry.word ≡ number
  pub from : bound ≤ number
  pub least : (other : Entry) → IsEntry n class other → bound ≤ packed other.word → number ≤ packed other.word

-- what is told of the members whose numbers aren't below a number
abbrev pub Tells : ℕ → Class → ℕ → TableAnswer → Type 0
Tells n class bound (Next number) = IsLeastNumber n class bound number
Tells n class bound NoMore = (e : Entry) → IsEntry n class e → bound ≤ packed e.word → ⊥
Tells n class bound Unknown = ⊤

-- the least word of a member that isn't before a place, by its number
pub record IsNextFrom (n : ℕ) (class : Class) (place : Word) (number : ℕ) : Type 0 where
  pub entry : Entry
  pub is : IsEntry n class entry
  pub number_is : packed entry.word ≡ number
  pub from : Follows place entry.word → ⊥
  pub least : (other : Entry) → IsEntry n class other → (Follows place other.word → ⊥) → Follows entry.word other.word
      → ⊥

-- what is told of the words of members that aren't before a place
abbrev pub TellsOfPlace : ℕ → Class → Word → TableAnswer → Type 0
TellsOfPlace n class place (Next number) = IsNextFrom n class place number
TellsOfPlace n class place NoMore = (e : Entry) → IsEntry n class e → (Follows place e.word → ⊥) → ⊥
TellsOfPlace n class place Unknown = ⊤

-- the number is that of a legal word of the order that begins with these moves
pub record GoesToWord (n : ℕ) (front : Word) (number : ℕ) : Type 0 where
  pub word : Word
  pub rest : Word
  pub is : word ≡ front ++ rest
  pub legal : IsLegal word
  pub order : order_of word ≡ n
  pub number_is : packed word ≡ number

-- the number is that of these moves, a legal word of the order
pub record IsAtNumber (n : ℕ) (front : Word) (number : ℕ) : Type 0 where
  pub legal : IsLegal front
  pub order : order_of front ≡ n
  pub number_is : packed front ≡ number

-- where a walk stands after a step: the walk, the steps counted so far, and the room for a tiling
pub record Reached : Type 0 where
  pub tree : TreeWalkState
  pub steps : ℕ
  pub tiling : Tiling

-- a step of a walk: where it leads, that the tiling is then the member's if it met one, and what it leaves as it is
pub record IsStep (tree : TreeWalkState) (steps : ℕ) (after : Reached) (went : Went) : Type 0 where
  pub leads : StepLeadsTo tree after.tree (after.steps - steps) went
  pub member : went ≡ Met → IsEntry tree.order tree.class (record { tiling = after.tiling; word = after.tree.front })
  pub stays : StaysOf tree after.tree steps after.steps
