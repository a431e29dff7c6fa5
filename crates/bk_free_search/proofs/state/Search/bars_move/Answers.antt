use Rattle.std.proofs.Common.{[], ◌++◌, ◌∷◌}
use Rattle.bk_free_search.proofs.NextWords.Cutting.{normal}
use Rattle.bk_free_search.proofs.state.Search.bars_move.Goals as goal

pub returns-then-joins_barrenly : goal.returns-then-joins_barrenly
returns-then-joins_barrenly c _ = normal c.args.self.now.order (c.args.self.now.board ++ c.args.begun.now.m ∷ [])
    (c.joins_barrenly.ensures c.if-joins_barrenly.true)

pub joins_barrenly-requires-clause-valley : goal.joins_barrenly-requires-clause-valley
joins_barrenly-requires-clause-valley c = c.requires.valley

pub joins_barrenly-requires-clause-legal : goal.joins_barrenly-requires-clause-legal
joins_barrenly-requires-clause-legal c = c.requires.next.legal

pub ends_otherwise-requires : goal.ends_otherwise-requires
ends_otherwise-requires c = c.requires.next

pub returns : goal.returns
returns c = c.ends_otherwise.ensures
