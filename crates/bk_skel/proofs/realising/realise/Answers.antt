use Rattle.std.proofs.Common.{subst}
use Rattle.bk_word_net.specs.Realised.{IsRealised}
use Rattle.bk_skel.specs.RealisedIn.{tiling_found}
use Rattle.bk_skel.specs.declared.placing.Realised.{Realised}
use Rattle.bk_skel.proofs.realising.realise.Goals as goal

pub realise_in-requires : goal.realise_in-requires
realise_in-requires c = c.requires

pub returns-in-Ok-Found-clause-complete : goal.returns-in-Ok-Found-clause-complete
returns-in-Ok-Found-clause-complete c = c.in-Ok-Found.ensures.complete

pub returns-in-Ok-Found-clause-narrow : goal.returns-in-Ok-Found-clause-narrow
returns-in-Ok-Found-clause-narrow c = c.in-Ok-Found.ensures.narrow

pub returns-in-Ok-Found-clause-realised : goal.returns-in-Ok-Found-clause-realised
returns-in-Ok-Found-clause-realised c =
    subst (λ (f : Realised). IsRealised c.args.word.now (tiling_found f c.realise_in.new.tiling)) c.in-Ok-Found.field-0-is c.in-Ok-Found.ensures.realised

pub returns-in-Ok-Nothing-clause-complete : goal.returns-in-Ok-Nothing-clause-complete
returns-in-Ok-Nothing-clause-complete c = c.in-Ok-Nothing.ensures.complete

pub returns-in-Ok-Nothing-clause-narrow : goal.returns-in-Ok-Nothing-clause-narrow
returns-in-Ok-Nothing-clause-narrow c = c.in-Ok-Nothing.ensures.narrow

pub returns-in-Ok-Nothing-clause-realised : goal.returns-in-Ok-Nothing-clause-realised
returns-in-Ok-Nothing-clause-realised c =
    subst (λ (f : Realised). IsRealised c.args.word.now (tiling_found f c.realise_in.new.tiling)) c.in-Ok-Nothing.field-0-is
    c.in-Ok-Nothing.ensures.realised

pub returns-in-Err-clause-refused : goal.returns-in-Err-clause-refused
returns-in-Err-clause-refused c = c.in-Err.ensures.refused
