-- What a call of the search leaves as it was, and what it meets.
use Rattle.std.specs.Prelude.{List, ◌≡◌}
use Rattle.bk_word.specs.Word.{Word}
use Rattle.bk_word.specs.declared.Sign.{Sign}
use Rattle.bk_layout.specs.NormalImage.{IsNormalSought}
use Rattle.bk_free_search.specs.Sought.{GoesOn, GoesOnBy}
use Rattle.bk_free_search.specs.declared.state.Begun.{Begun}
use Rattle.bk_free_search.specs.declared.state.Search.{Search}

-- leaves have still met all words that they had met, and what no meeting changes is as it was
pub record KeepsMet {Leaves Fixed : Type 0} (has_met : Leaves → Word → Type 0) (fixed : Leaves → Fixed)
    (before after : Leaves) : Type 0 where
  pub kept : (w : Word) → has_met before w → has_met after w
  pub fixed_is : fixed after ≡ fixed before

-- the search and the move that it has begun are as they were
pub record IsUnchanged (s : Search) (a : Begun) (t : Search) (b : Begun) : Type 0 where
  pub search : t ≡ s
  pub begun : b ≡ a

-- the state at a call of the search: the search, and the leaves that meet words
pub record CallState (Leaves : Type 0) : Type 0 where
  pub search : Search
  pub leaves : Leaves

-- the state at a call with a move that is begun: the search and the move, and the leaves that meet words
pub record BegunState (Leaves : Type 0) : Type 0 where
  pub search : Search
  pub begun : Begun
  pub leaves : Leaves

-- all words that are sought and go on from these moves are met, and the search is as it was
pub record MeetsAllFrom {Leaves Fixed : Type 0} (has_met : Leaves → Word → Type 0) (fixed : Leaves → Fixed)
    (front : Word) (before after : CallState Leaves) : Type 0 where
  pub all : (w : Word) → IsNormalSought before.search.order w → GoesOn front w → has_met after.leaves w
  pub kept : KeepsMet has_met fixed before.leaves after.leaves
  pub same : after.search ≡ before.search

-- all words that are sought and go on by a move of the count that is begun, whose signs begin with these, are met, and
-- the search and the move are as they were
pub record MeetsAllBy {Leaves Fixed : Type 0} (has_met : Leaves → Word → Type 0) (fixed : Leaves → Fixed)
    (signs : List Sign) (before after : BegunState Leaves) : Type 0 where
  pub all : (w : Word) → IsNormalSought before.search.order w
      → GoesOnBy before.search.board before.begun.m.count signs w → has_met after.leaves w
  pub kept : KeepsMet has_met fixed before.leaves after.leaves
  pub same : IsUnchanged before.search before.begun after.search after.begun
