-- Moves that are whole too early, or owe too many squares, are barren.
use Rattle.std.proofs.Common.{subst}
use Rattle.bk_word.specs.Word.{Word}
use Rattle.bk_catalogue.specs.Cuts.{IsBarren}
use Rattle.bk_walk_cuts.proofs.barren.is_barren.Goals as goal

pub returns-then-is_whole_early : goal.returns-then-is_whole_early
returns-then-is_whole_early c early class = subst (λ (w : Word). IsBarren c.args.order class w) c.skel.ensures.value (c.is_whole_early.ensures early class)

pub returns-else-is_whole_early : goal.returns-else-is_whole_early
returns-else-is_whole_early c = c.owes_too_many.ensures
