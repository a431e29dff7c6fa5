use Rattle.bk_layout.proofs.NormalCuts.PassCounts.{even_asks_least, fewer_marks_ask_less, the_pass_counts_the_bound, the_pass_is_strong}
use Rattle.bk_layout.proofs.laws.strong_bound.Goals as goal

pub returns-clause-the_pass_is_strong : goal.returns-clause-the_pass_is_strong
returns-clause-the_pass_is_strong c = the_pass_is_strong

pub returns-clause-the_pass_counts_the_bound : goal.returns-clause-the_pass_counts_the_bound
returns-clause-the_pass_counts_the_bound c = the_pass_counts_the_bound

pub returns-clause-fewer_marks_ask_less : goal.returns-clause-fewer_marks_ask_less
returns-clause-fewer_marks_ask_less c = fewer_marks_ask_less

pub returns-clause-even_asks_least : goal.returns-clause-even_asks_least
returns-clause-even_asks_least c = even_asks_least
