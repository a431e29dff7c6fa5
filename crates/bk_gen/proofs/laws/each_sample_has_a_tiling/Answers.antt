use Rattle.bk_gen.proofs.SampleLaws.{sample_kept}
use Rattle.bk_gen.proofs.laws.each_sample_has_a_tiling.Goals as goal

pub returns : goal.returns
returns c = sample_kept
