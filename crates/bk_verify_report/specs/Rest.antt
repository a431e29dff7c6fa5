-- What is seen of what a verifier leaves.
-- Example (RestExamples): what a verifier of order 9 leaves that keeps the rectangle 33x32 is that pair, and a walk at
-- the word of no moves.
use Rattle.std.specs.Prelude.{List, [], false, ℕ, ◌≡◌, ◌≤◌}
use Rattle.bk_word.specs.declared.Class.TheVariants.{Perfect}
use Rattle.bk_word.specs.declared.TheConstants.{LARGEST_LISTED_ORDER}
use Rattle.bk_verify_report.specs.KeptEntries.{CountsMembers, IsUpTo, Kept, EntriesState}
use Rattle.bk_members.specs.NextMember.{MembersState}

-- what is seen of what a verifier leaves: the kept pairs, and a walk
pub record RestState : Type 0 where
  pub pairs : List Kept
  pub walk : MembersState

-- what a verifier leaves: its pairs, with a walk through the perfect catalogue of the order from the word of no moves
abbrev pub rest_of : EntriesState → RestState
rest_of s = record {
  pairs = s.pairs;
  walk = record { order = s.order; class = Perfect; cursor = []; ended = false; pushes = 0 };
}

-- what holds of what a verifier leaves
pub record IsKeptRest (walk : MembersState) (members : ℕ) : Type 0 where
  pub most : walk.order ≤ LARGEST_LISTED_ORDER
  pub class : walk.class ≡ Perfect
  pub reached : CountsMembers walk.order (IsUpTo walk.cursor) members
