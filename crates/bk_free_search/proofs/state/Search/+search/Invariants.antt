use Rattle.std.proofs.Common.{[], length, ◌*◌, ◌+◌, ◌-◌, ◌<◌, ◌≡◌}
use Rattle.bk_word.specs.Word.{Word, order_of}
use Rattle.bk_layout.specs.NormalImage.{IsNormalSought}
use Rattle.bk_free_search.proofs.NextWords.NextMoves.{HasNextMove}
use Rattle.bk_free_search.specs.Unchanged.{KeepsMet}
use Rattle.bk_free_search.proofs.state.Search.+search.Given as goal

abbrev pub decreases-meet_all : goal.decreases-meet_all
decreases-meet_all g l = 1000 * (l.self.now.order - order_of l.self.now.board) + 950

abbrev pub decreases-with_counts : goal.decreases-with_counts
decreases-with_counts g l = 1000 * (l.self.now.order - order_of l.self.now.board) + 900

abbrev pub decreases-with_left : goal.decreases-with_left
decreases-with_left g l = 1000 * (l.self.now.order - order_of l.self.now.board) + 850

abbrev pub decreases-with_own : goal.decreases-with_own
decreases-with_own g l = 1000 * (l.self.now.order - order_of l.self.now.board) + 4 * (l.begun.now.m.count + 2 - length l.begun.now.m.signs) + 3

abbrev pub decreases-with_above : goal.decreases-with_above
decreases-with_above g l = 1000 * (l.self.now.order - order_of l.self.now.board) + 4 * (l.begun.now.m.count + 2 - length l.begun.now.m.signs) + 1

abbrev pub decreases-with_sign : goal.decreases-with_sign
decreases-with_sign g l = 1000 * (l.self.now.order - order_of l.self.now.board) + 4 * (l.begun.now.m.count + 2 - length l.begun.now.m.signs)

abbrev pub decreases-with_right : goal.decreases-with_right
decreases-with_right g l = 1000 * (l.self.now.order - order_of l.self.now.board) + 3

abbrev pub decreases-with_last : goal.decreases-with_last
decreases-with_last g l = 1000 * (l.self.now.order - order_of l.self.now.board) + 2

abbrev pub decreases-with_move : goal.decreases-with_move
decreases-with_move g l = 1000 * (l.self.now.order - order_of l.self.now.board)

abbrev pub invariant-with_counts-counts : goal.invariant-with_counts-counts
invariant-with_counts-counts g l = record {
  same : l.self ≡ l.initial.self;
  signs : l.begun.m.signs ≡ [];
  all : (w : Word) → IsNormalSought l.initial.self.order w → (h : HasNextMove l.initial.self.board w) → h.move.count < l.count
      → g.S.Leaves.has_met l.leaves w;
  kept : KeepsMet g.S.Leaves.has_met g.S.Leaves.fixed l.initial.leaves l.leaves;
}
