use Rattle.std.proofs.Common.{take, ◌∙◌}
use Rattle.bk_play.proofs.CutSpliced.{first_numbers}
use Rattle.bk_play.proofs.small.numbers.Goals as goal

pub returns : goal.returns
returns c = c.of.ensures ∙ (λ i. take (c.from.ensures i) (c.put_numbers.ensures i)) ∙ first_numbers c.args.first c.args.count 16 c.requires.few
