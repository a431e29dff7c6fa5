use Rattle.std.proofs.Common.{[], ap, subst, ◌++◌, ◌∙◌, ◌∷◌}
use Rattle.bk_word.specs.Outline.{open_sides}
use Rattle.bk_word.specs.Play.{outline_of}
use Rattle.bk_word.specs.Word.{Move, Word}
use Rattle.bk_layout.specs.NodeCut.{ShareANode}
use Rattle.bk_free_search.proofs.NextWords.LastSquare.{last_legal, made_last, shared_is_barred}
use Rattle.bk_free_search.proofs.last_square.last_move.Goals as goal

pub joins_parted-requires-clause-legal : goal.joins_parted-requires-clause-legal
joins_parted-requires-clause-legal c = last_legal (outline_of c.args.board.now) c.even_square-last.result c.open_sides.result
    c.even_square-last.ensures.count c.even_square-last.ensures.signs
    (c.open_sides.ensures.is ∙ ap (λ (w : Word). open_sides (outline_of w)) c.skel.ensures.value)

pub returns-then-joins_parted-clause-barren : goal.returns-then-joins_parted-clause-barren
returns-then-joins_parted-clause-barren c = shared_is_barred c.args.order c.args.board.now c.requires.least c.requires.one
    (subst (λ (m : Move). ShareANode (c.args.board.now ++ m ∷ []))
    (made_last (outline_of c.args.board.now) c.even_square-last.result c.open_sides.result
    c.even_square-last.ensures.count c.even_square-last.ensures.signs
    (c.open_sides.ensures.is ∙ ap (λ (w : Word). open_sides (outline_of w)) c.skel.ensures.value))
    (c.joins_parted.ensures c.if-joins_parted.true))

pub returns-clause-last : goal.returns-clause-last
returns-clause-last c = made_last (outline_of c.args.board.now) c.even_square-last.result c.open_sides.result
    c.even_square-last.ensures.count c.even_square-last.ensures.signs
    (c.open_sides.ensures.is ∙ ap (λ (w : Word). open_sides (outline_of w)) c.skel.ensures.value)
