-- When a table of members is whole, and what it tells of the numbers from a bound on.
-- Examples (MemberTablesExamples): of order 2 and the class imperfect the one member has the word 2e. The table that
-- keeps its number is whole, and one that keeps nothing is not. The one with its number keeps only members, and one
-- with the number 0 doesn't. The least number from 0 on is that of 2e, and behind it there is none.
use Rattle.std.specs.List.{AllByRecursion}
use Rattle.std.specs.Prelude.{None, ℕ, ◌<◌, ◌≡◌, ◌≤◌}
use Rattle.bk_word.specs.declared.TheConstants.{LARGEST_LISTED_ORDER}
use Rattle.bk_catalogue.specs.Catalogue.{Entry, IsEntry}
use Rattle.bk_packed.specs.KeptNumbers.{AreAscendingNumbers, IsFirstFrom}
use Rattle.bk_packed.specs.Packed.{packed}
use Rattle.bk_walk.specs.Finding.{Finding, HoldsEntry, IsMembersNumber}

-- the theorem of a table of one order, class and number to begin at: each member of the order and the class whose
-- number isn't below that from which words are kept is held. Its number is in the table, or the table was cut and it is
-- above the greatest that is kept.
abbrev pub IsWhole : Finding → Type 0
IsWhole t = (e : Entry) → IsEntry t.order t.class e → HoldsEntry t e

-- what holds of each table
pub record IsMemberTable (t : Finding) : Type 0 where
  pub few : t.order ≤ LARGEST_LISTED_ORDER
  pub whole : IsWhole t
  pub ascending : AreAscendingNumbers t.numbers.kept

-- the least number that is kept and isn't below a bound: that of a member's word, and no member's word has a number
-- from the bound on that is less
pub record IsNextNumber (t : Finding) (bound x : ℕ) : Type 0 where
  pub member : IsMembersNumber t x
  pub first : IsFirstFrom t.numbers.kept bound x
  pub least : t.from ≤ bound → (e : Entry) → IsEntry t.order t.class e → bound ≤ packed e.word → x ≤ packed e.word

-- all numbers that are kept are below a bound; so where none was dropped no member's word has a number from the bound
-- on
pub record HasNoneFrom (t : Finding) (bound : ℕ) : Type 0 where
  pub kept : AllByRecursion (λ y. y < bound) t.numbers.kept
  pub none : t.from ≤ bound → t.numbers.limit ≡ None → (e : Entry) → IsEntry t.order t.class e → bound ≤ packed e.word
      → ⊥
