use Rattle.std.proofs.Common.{rules}
use Rattle.bk_ports.proofs.input.verdict.Goals as goal

pub returns-then-refused : goal.returns-then-refused
returns-then-refused c = search rules

pub returns-else-refused : goal.returns-else-refused
returns-else-refused c = search rules
