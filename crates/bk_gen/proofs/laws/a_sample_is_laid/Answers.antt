use Rattle.bk_gen.proofs.SamplesLaid.{a_sample_is_laid as the_law}
use Rattle.bk_gen.proofs.laws.a_sample_is_laid.Goals as goal

pub returns : goal.returns
returns c = the_law
