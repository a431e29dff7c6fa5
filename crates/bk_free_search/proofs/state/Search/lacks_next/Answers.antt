use Rattle.std.proofs.Common.{ap, arith, ◌+◌}
use Rattle.std.proofs.lemmas.Bool.{ltb-true}
use Rattle.bk_word.specs.Outline.{open_side}
use Rattle.bk_word.specs.Word.{order_of}
use Rattle.bk_layout.proofs.NormalCuts.NextMove.{next_is_last_is_normal_barren}
use Rattle.bk_free_search.proofs.Asks.EvenSigns.{next_lacks_evens, none_goes_on}
use Rattle.bk_free_search.proofs.state.Search.lacks_next.Goals as goal

pub returns-then-order-from : goal.returns-then-order-from
returns-then-order-from c _ =
    let moves = c.requires.beside.moves_are in
    next_is_last_is_normal_barren c.args.self.now.order moves.most c.args.self.now.board moves.most_is
    (omega (arith, moves.left_is, c.if-beside-eq0.true))
    (omega (arith, c.if-order-from.true, c.from.ensures, c.order.ensures.value, ap order_of c.skel.ensures.value))

pub returns : goal.returns
returns c told = none_goes_on c.args.self.now.order c.args.self.now.board c.requires.few
    (next_lacks_evens c.args.self.now.order c.args.self.now.board c.args.beside.now.ahead.evens c.requires.beside.evens_are (omega (
      arith,
      ltb-true (c.open_side.result + c.open_side-2.result) c.args.beside.now.ahead.evens told,
      c.open_side.ensures,
      c.open_side-2.ensures,
      ap open_side c.requires.beside.left_is,
      ap open_side c.requires.beside.right_is,
    )))
