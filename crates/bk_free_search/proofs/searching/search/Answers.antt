use Rattle.bk_free_search.proofs.NextWords.NextMoves.{begins_empty}
use Rattle.bk_free_search.proofs.searching.search.Goals as goal

pub returns-clause-all : goal.returns-clause-all
returns-clause-all g c w sought = c.meet_all.ensures.all w sought (begins_empty c.new.result w c.new.ensures)

pub meet_all-requires-clause-least : goal.meet_all-requires-clause-least
meet_all-requires-clause-least g c = c.requires.least

pub meet_all-requires-clause-most : goal.meet_all-requires-clause-most
meet_all-requires-clause-most g c = c.requires.most

pub returns-clause-kept : goal.returns-clause-kept
returns-clause-kept g c = c.meet_all.ensures.kept.kept

pub returns-clause-fixed : goal.returns-clause-fixed
returns-clause-fixed g c = c.meet_all.ensures.kept.fixed_is
