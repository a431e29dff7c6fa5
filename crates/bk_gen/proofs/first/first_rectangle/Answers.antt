use Rattle.bk_gen.proofs.SampleLaws.{growing_33x32, growing_65x47, growing_69x61}
use Rattle.bk_gen.proofs.first.first_rectangle.Goals as goal

pub of-requires : goal.of-requires
of-requires c = growing_33x32

pub of-requires-in-1 : goal.of-requires-in-1
of-requires-in-1 c = growing_69x61

pub of-requires-in_default : goal.of-requires-in_default
of-requires-in_default c = growing_65x47
