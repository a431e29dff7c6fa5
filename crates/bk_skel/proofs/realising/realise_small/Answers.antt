use Rattle.bk_skel.proofs.NarrowWords.{no_small_word_is_wide}
use Rattle.bk_skel.proofs.realising.realise_small.Goals as goal

pub returns-clause-wide : goal.returns-clause-wide
returns-clause-wide c = (λ e. absurd cc, λ wide. absurd (no_small_word_is_wide c.args.skel.now c.requires.closed c.requires.few wide))
