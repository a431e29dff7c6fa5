use Rattle.std.proofs.Common.{arith}
use Rattle.bk_walk.proofs.member_table.MemberTable.of.Goals as goal

pub new-table-requires : goal.new-table-requires
new-table-requires g c = omega (arith, g.N.fits)

pub fill-requires : goal.fill-requires
fill-requires g c = (omega (arith, g.N.fits), (c.requires.least, c.requires.most))

pub returns-clause-whole : goal.returns-clause-whole
returns-clause-whole g c = c.fill.ensures.whole

pub returns-clause-order : goal.returns-clause-order
returns-clause-order g c = c.fill.ensures.order

pub returns-clause-class : goal.returns-clause-class
returns-clause-class g c = c.fill.ensures.class

pub returns-clause-from : goal.returns-clause-from
returns-clause-from g c = c.fill.ensures.from
