-- What holds of a walk between its calls.
use Rattle.std.specs.Prelude.{length, take, true, ◌<◌, ◌^◌, ◌≡◌, ◌≤◌}
use Rattle.bk_word.specs.Word.{Word, order_of}
use Rattle.bk_word.specs.declared.TheConstants.{LARGEST_LISTED_ORDER}
use Rattle.bk_catalogue.specs.Following.{HasNoneAfter}
use Rattle.bk_members.specs.NextMember.{MembersState}

-- what a walk keeps: its order is 2 to 16, its cursor hangs at most 16 squares, the moves that it has played begin the
-- cursor and hang at most as many squares as the order, and where it has ended no member is left
pub record IsKeptWalk (w : MembersState) (played : Word) : Type 0 where
  pub least : 2 ≤ w.order
  pub most : w.order ≤ LARGEST_LISTED_ORDER
  pub few : order_of w.cursor ≤ LARGEST_LISTED_ORDER
  pub begun : take (length played) w.cursor ≡ played
  pub small : order_of played ≤ w.order
  pub none : w.ended ≡ true → HasNoneAfter w.order w.class w.cursor
  pub known : w.pushes < 2 ^ 64
