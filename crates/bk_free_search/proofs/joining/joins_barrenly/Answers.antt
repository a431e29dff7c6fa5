use Rattle.std.proofs.Common.{[], subst, ◌++◌, ◌∷◌}
use Rattle.bk_word.specs.Word.{Word}
use Rattle.bk_layout.specs.NetWord.{IsNetBarren}
use Rattle.bk_free_search.proofs.NextWords.Cutting.{shared_is_barren}
use Rattle.bk_free_search.proofs.joining.joins_barrenly.Goals as goal

pub returns-then-leaves_one_early : goal.returns-then-leaves_one_early
returns-then-leaves_one_early c early =
    subst (λ (w : Word). IsNetBarren c.args.order (w ++ c.args.m.now ∷ [])) c.skel.ensures.value (c.leaves_one_early.ensures early)

pub returns-else-leaves_one_early : goal.returns-else-leaves_one_early
returns-else-leaves_one_early c parted = shared_is_barren (c.args.board.now ++ c.args.m.now ∷ []) (c.joins_parted.ensures parted) c.args.order
