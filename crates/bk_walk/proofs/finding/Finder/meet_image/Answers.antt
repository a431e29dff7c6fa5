use Rattle.std.proofs.Common.{rules, subst, sym, ◌∙◌}
use Rattle.bk_catalogue.specs.Catalogue.{IsMember}
use Rattle.bk_sym.proofs.AlikeLaws.{a_canonical_tiling_is_its_own}
use Rattle.bk_walk.specs.Finding.{IsHeld}
use Rattle.bk_walk.proofs.FoundMembers.{as_many, the_member}
use Rattle.bk_walk.proofs.finding.Finder.meet_image.Goals as goal

pub meet_canonical-requires : goal.meet_canonical-requires
meet_canonical-requires g c = (
  search rules,
  (
    c.canonical.ensures.kept.tiling,
    (
      as_many c.args.tiling.now c.canonical.result c.canonical.ensures.canonical ∙ c.requires.order,
      a_canonical_tiling_is_its_own c.args.tiling.now c.canonical.result c.requires.tiling c.canonical.ensures.canonical,
    ),
  ),
)

pub returns : goal.returns
returns g c = record {
  fixed = c.meet_canonical.ensures.fixed;
  put = λ t turn member same.
      let is = the_member c.args.self.now.order c.args.self.now.class t c.args.tiling.now c.canonical.result turn member same
      c.canonical.ensures.canonical in
      subst (IsHeld c.args.self.now.from c.meet_canonical.new.self.numbers) is
      (c.meet_canonical.ensures.put (subst (IsMember c.args.self.now.order c.args.self.now.class) (sym is) member));
  kept = c.meet_canonical.ensures.kept;
}
