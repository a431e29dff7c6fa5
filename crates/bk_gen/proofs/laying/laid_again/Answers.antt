use Rattle.std.proofs.Common.{◌++◌, ◌∙◌}
use Rattle.bk_code.proofs.CodeOfTiling.{code_some}
use Rattle.bk_text.specs.CodeText.{code_text}
use Rattle.bk_gen.proofs.SampleLaws.{sample_kept}
use Rattle.bk_gen.specs.TrialLine.{tiling_at}
use Rattle.bk_gen.proofs.laying.laid_again.Goals as goal

pub write_code-requires-clause-some : goal.write_code-requires-clause-some
write_code-requires-clause-some c = rw c.sample.ensures (code_some (tiling_at c.args.seed c.args.k) (sample_kept c.args.seed c.args.k).tiling)

pub returns-clause-written : goal.returns-clause-written
returns-clause-written c = c.write_code.ensures.text ∙ (λ z. c.clear.ensures z ++ code_text (c.sample.ensures z))

pub returns-clause-laid : goal.returns-clause-laid
returns-clause-laid c = c.laid_text.ensures (tiling_at c.args.seed c.args.k) (sample_kept c.args.seed c.args.k)
    (c.as_slice.ensures.value ∙ c.write_code.ensures.text ∙ (λ z. c.clear.ensures z ++ code_text (c.sample.ensures z)))
