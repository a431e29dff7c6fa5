use Rattle.bk_text.proofs.LinesRead.{line_stands_for_one_thing}
use Rattle.bk_text.proofs.laws.a_line_has_one_meaning.Goals as goal

pub returns : goal.returns
returns c bytes l m p q = line_stands_for_one_thing bytes l m p q
