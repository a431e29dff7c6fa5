use Rattle.std.proofs.Common.{refl}
use Rattle.bk_catalogue.proofs.qualifying.qualifies.Goals as goal

pub returns-then-is_canonical-clause-yes : goal.returns-then-is_canonical-clause-yes
returns-then-is_canonical-clause-yes c e = record {
  tiling = (c.order-kept.ensures.kept).tiling;
  order = refl;
  simple = c.is_simple_of.ensures.simple e;
  class = c.is_simple_of.ensures.class e;
  canonical = c.is_canonical.ensures.0 c.if-is_canonical.true;
}
