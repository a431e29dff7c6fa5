use Rattle.bk_grammar.proofs.Leaving.{one_place}
use Rattle.bk_text.specs.CodeLine.{SomeLine}
use Rattle.bk_text.proofs.laws.bytes_leave_lines_at_one_place.Goals as goal

pub returns : goal.returns
returns c bytes one two first second = one_place SomeLine bytes one two first second
