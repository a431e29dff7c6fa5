use Rattle.std.proofs.Common.{ap, arith, length, refl, subst, sym, take, ◌-◌, ◌∙◌}
use Rattle.bk_word.specs.Word.{Word}
use Rattle.bk_free_search.proofs.Boards.BoardMoves.{board_less, lists_of}
use Rattle.bk_free_search.specs.BoardOutlines.{IsBoardOutline}
use Rattle.bk_free_search.proofs.board.Board.take_back.Goals as goal

pub invariant_of-self : goal.invariant_of-self
invariant_of-self c = board_less c.self.inside.skel c.take_back.new.self c.args.before.now (lists_of c.self.inside)
    (record {
      lefts = c.truncate.new.self.items;
      rights = c.truncate-2.new.self.items;
      nodes = c.truncate-3.new.self.items;
      first = c.args.before.now.first;
      left = c.args.before.now.left;
      right = c.args.before.now.right;
    }) c.self.invariant
    (subst (λ (w : Word). IsBoardOutline w c.args.before.now)
    (ap (λ (w : Word). take (length w - 1) w) (sym c.self.view_is) ∙ sym c.take_back.ensures) c.requires.before)
    (record {
      some = omega (arith, c.requires.some, ap (λ (w : Word). length w) c.self.view_is);
      front_is = c.take_back.ensures;
      order = c.order.result;
      order_is = c.order.ensures.value;
      moves = c.moves.result;
      moves_are = c.moves.ensures.value;
      lefts_are = c.truncate.ensures;
      rights_are = c.truncate-2.ensures ∙ ap (λ k. take k c.self.inside.rights.items) (c.order-2.ensures.value ∙ sym c.order.ensures.value);
      nodes_are = c.truncate-3.ensures;
      first_is = refl;
      left_is = refl;
      right_is = refl;
    })
