use Rattle.bk_pair.proofs.LaidSquares.{around_items}
use Rattle.bk_pair.proofs.around_corners.Goals as goal

pub returns : goal.returns
returns c =
    around_items c.args.a.now c.args.turned.now c.width-width.result c.height-height.result c.new-squares.result.items c.push_moved.new.squares.items
    c.push.new.self.items c.push-2.new.self.items c.push_moved-2.new.squares.items c.width-width.ensures.value c.height-height.ensures.value
    c.new-squares.ensures c.push_moved.ensures c.push.ensures.items c.push-2.ensures.items c.push_moved-2.ensures
