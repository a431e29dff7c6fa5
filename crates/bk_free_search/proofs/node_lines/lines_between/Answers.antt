use Rattle.bk_laws.proofs.Bits.{bit_at-all_between, bit_at-between}
use Rattle.bk_laws.proofs.Multiples.{pow_two-rising}
use Rattle.bk_free_search.proofs.node_lines.lines_between.Goals as goal

pub returns-clause-only : goal.returns-clause-only
returns-clause-only c line has = bit_at-between c.args.from c.args.end line c.requires.order c.requires.few has

pub returns-clause-all : goal.returns-clause-all
returns-clause-all c line low high = bit_at-all_between c.args.from c.args.end line c.requires.few low high

pub overflow_sub-result : goal.overflow_sub-result
overflow_sub-result c = pow_two-rising c.args.from c.args.end c.requires.order c.requires.few
