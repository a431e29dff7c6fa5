use Rattle.std.proofs.Common.{refl, rules, subst, sym}
use Rattle.bk_catalogue.specs.Catalogue.{IsOfClass}
use Rattle.bk_walk.specs.Finding.{Finding}
use Rattle.bk_walk.proofs.finding.Finder.meet_canonical.Goals as goal

pub put-requires : goal.put-requires
put-requires g c = (
  search rules,
  record {
    tiling = c.requires.tiling;
    order = c.requires.order;
    simple = c.is_simple_of.ensures.simple c.if-is_simple_of.true;
    class = subst (λ (s : Finding). IsOfClass s.class c.args.tiling.now) c.self.view_is (c.is_simple_of.ensures.class c.if-is_simple_of.true);
    canonical = c.requires.canonical;
  },
)

pub returns-then-is_simple_of : goal.returns-then-is_simple_of
returns-then-is_simple_of g c = record { fixed = c.put.ensures.fixed; put = λ _. c.put.ensures.put; kept = c.put.ensures.kept }

pub returns-else-is_simple_of : goal.returns-else-is_simple_of
returns-else-is_simple_of g c = record {
  fixed = refl;
  put = λ member. absurd (c.is_simple_of.ensures.no c.if-is_simple_of.false member.simple
      (subst (λ (s : Finding). IsOfClass s.class c.args.tiling.now) (sym c.self.view_is) member.class));
  kept = λ x h. h;
}
