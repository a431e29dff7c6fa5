use Rattle.std.proofs.Common.{ap, arith, refl, subst, sym, ◌∙◌}
use Rattle.bk_catalogue.specs.Catalogue.{IsMember}
use Rattle.bk_walk.specs.Finding.{Finding, IsHeld}
use Rattle.bk_walk.proofs.FoundMembers.{order_of_image, the_member}
use Rattle.bk_walk.proofs.finding.Finder.meet_tiling.Goals as goal

pub meet_canonical-requires : goal.meet_canonical-requires
meet_canonical-requires g c = (
  omega (arith, g.N.fits),
  (
    c.order.ensures.kept.tiling,
    (
      sym c.order.ensures.value ∙ c.if-order-from.false ∙ c.from.ensures ∙ ap (λ (s : Finding). s.order) c.self.view_is,
      c.is_canonical.ensures.0 c.if-is_canonical.true,
    ),
  ),
)

pub meet_image-requires : goal.meet_image-requires
meet_image-requires g c = (
  omega (arith, g.N.fits),
  (
    c.order.ensures.kept.tiling,
    sym c.order.ensures.value ∙ c.if-order-from.false ∙ c.from.ensures ∙ ap (λ (s : Finding). s.order) c.self.view_is,
  ),
)

pub returns-then-order-from : goal.returns-then-order-from
returns-then-order-from g c = record {
  fixed = refl;
  put = λ t turn member same w word least. absurd (c.if-order-from.true (omega (
    arith,
    c.order.ensures.value,
    c.from.ensures,
    order_of_image c.args.self.now.order c.args.self.now.class t c.args.tiling.now turn member same,
    ap (λ (s : Finding). s.order) c.self.view_is,
  )));
  kept = λ x h. h;
}

pub returns-then-is_canonical : goal.returns-then-is_canonical
returns-then-is_canonical g c = record {
  fixed = c.meet_canonical.ensures.fixed;
  put = λ t turn member same.
      let is = the_member c.args.self.now.order c.args.self.now.class t c.args.tiling.now c.args.tiling.now turn member same
      (c.is_canonical.ensures.0 c.if-is_canonical.true) in
      subst (IsHeld c.args.self.now.from c.meet_canonical.new.self.numbers) is
      (c.meet_canonical.ensures.put (subst (IsMember c.args.self.now.order c.args.self.now.class) (sym is) member));
  kept = c.meet_canonical.ensures.kept;
}

pub returns-else-is_canonical : goal.returns-else-is_canonical
returns-else-is_canonical g c = c.meet_image.ensures
