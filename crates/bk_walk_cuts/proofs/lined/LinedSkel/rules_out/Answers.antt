use Rattle.std.proofs.Common.{[], subst, ◌++◌, ◌∷◌}
use Rattle.bk_word.specs.Word.{Word}
use Rattle.bk_catalogue.specs.Cuts.{IsBarren}
use Rattle.bk_walk_cuts.proofs.RuledOut.{ruled_out_is_barren}
use Rattle.bk_walk_cuts.proofs.lined.LinedSkel.rules_out.Goals as goal

pub returns : goal.returns
returns c = λ yes n. subst (λ (w : Word). IsBarren n c.args.class (w ++ c.args.m.now ∷ [])) c.self.view_is
    (ruled_out_is_barren n c.args.class (c.self.inside.skel ++ c.args.m.now ∷ []) (c.rules_out.ensures.sound yes))
