use Rattle.std.proofs.Common.{ap, arith, refl, ◌∙◌}
use Rattle.bk_word.specs.Word.{order_of}
use Rattle.bk_walk.proofs.walk.write_found.Goals as goal

pub word_played-requires : goal.word_played-requires
word_played-requires c =
    let kept = c.skel.ensures.kept in omega (arith, ap order_of c.skel.ensures.value, (kept.stand).small, kept.most)

pub copy_of-requires : goal.copy_of-requires
copy_of-requires c = let kept = c.skel.ensures.kept in
    omega (arith, ap order_of (c.word_played.ensures ∙ c.skel.ensures.value), (kept.stand).small, kept.most)

pub returns-clause-word : goal.returns-clause-word
returns-clause-word c = c.word_played.ensures ∙ c.skel.ensures.value

pub returns-clause-cursor : goal.returns-clause-cursor
returns-clause-cursor c = c.copy_of.ensures ∙ c.word_played.ensures ∙ c.skel.ensures.value

pub returns-clause-tiling : goal.returns-clause-tiling
returns-clause-tiling c = refl

pub returns-clause-code : goal.returns-clause-code
returns-clause-code c = c.become_that_of.ensures
