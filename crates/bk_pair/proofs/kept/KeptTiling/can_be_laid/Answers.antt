use Rattle.std.proofs.Common.{arith}
use Rattle.bk_pair.proofs.KeptPairs.{length_decides, stored_of_tiling, too_many}
use Rattle.bk_pair.proofs.kept.KeptTiling.can_be_laid.Goals as goal

pub returns-then-len-gt-MOST_SQUARES : goal.returns-then-len-gt-MOST_SQUARES
returns-then-len-gt-MOST_SQUARES c =
    too_many c.args.self.now c.args.other.now c.self.inside.width c.self.inside.height c.self.inside.squares.items
    c.other.inside.width c.other.inside.height c.other.inside.squares.items
    (stored_of_tiling c.args.self.now c.self.inside.width c.self.inside.height c.self.inside.squares.items c.self.view_is)
    (stored_of_tiling c.args.other.now c.other.inside.width c.other.inside.height c.other.inside.squares.items c.other.view_is)
    (omega (arith, c.if-len-gt-MOST_SQUARES.true, c.len.ensures, c.len-2.ensures))

pub returns : goal.returns
returns c =
    length_decides c.args.self.now c.args.other.now c.self.inside.width c.self.inside.height c.self.inside.squares.items
    c.other.inside.width c.other.inside.height c.other.inside.squares.items
    (stored_of_tiling c.args.self.now c.self.inside.width c.self.inside.height c.self.inside.squares.items c.self.view_is)
    (stored_of_tiling c.args.other.now c.other.inside.width c.other.inside.height c.other.inside.squares.items c.other.view_is)
    c.if-self-other.false c.if-self-other-2.false c.if-self.false
    (omega (arith, c.if-len-gt-MOST_SQUARES.false, c.len.ensures, c.len-2.ensures)) c.max.result c.max.ensures
