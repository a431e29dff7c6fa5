use Rattle.std.proofs.Common.{ap, arith, inl, inr, refl, subst, sym, ◌∙◌, ◌∷◌, ◌⊎◌}
use Rattle.bk_lay.proofs.Words.{every_tiling_has_a_word}
use Rattle.std.specs.Prelude.{IsSome}
use Rattle.bk_packed.specs.KeptNumbers.{HasMoreDifferent, Holds}
use Rattle.bk_catalogue.specs.Catalogue.{IsMember}
use Rattle.bk_walk.specs.Finding.{Finding, HasMoreMembers, IsMembersNumber, wanted}
use Rattle.bk_walk.proofs.FoundMembers.{as_many_members, members_number, more_members, only_with}
use Rattle.bk_walk.proofs.finding.Finder.put.Goals as goal

pub of_tiling-requires : goal.of_tiling-requires
of_tiling-requires g c = omega (arith, c.requires.member.order, c.self.invariant.few, ap (λ (s : Finding). s.order) c.self.view_is)

pub invariant_of-self : goal.invariant_of-self
invariant_of-self g c = record {
  few = c.self.invariant.few;
  only = only_with s c.put.new.self c.number-number.result c.self.invariant.only is_members c.put.ensures.only;
  cut = λ some. as_many_members g.row.N s after refl (more_where_cut (c.put.ensures.cut some));
}
  where
    s : Finding
    s = record { order = c.self.inside.order; class = c.self.inside.class; from = c.self.inside.from; numbers = c.self.inside.table }

    after : Finding
    after = record { order = c.self.inside.order; class = c.self.inside.class; from = c.self.inside.from; numbers = c.put.new.self }

    is_members : IsMembersNumber s c.number-number.result
    is_members =
        let w = every_tiling_has_a_word c.args.tiling.now c.requires.member.tiling in
        members_number s c.args.tiling.now w.0 c.number-number.result
        (subst (λ (z : Finding). IsMember z.order z.class c.args.tiling.now) (sym c.self.view_is) c.requires.member) w.1
        (c.number-number.ensures ∙ c.of_tiling.ensures w.0 w.1) c.if-self-number.true

    more_where_cut : IsSome c.self.inside.table.limit ⊎ HasMoreDifferent g.row.N (c.number-number.result ∷ c.self.inside.table.kept) → HasMoreMembers g.row.N s
    more_where_cut (inl some) = c.self.invariant.cut some
    more_where_cut (inr more) = more_members g.row.N s c.number-number.result c.self.invariant.only is_members more

pub returns-then-self-number : goal.returns-then-self-number
returns-then-self-number g c = record {
  fixed = ap wanted c.self.view_is;
  put = λ w is least. subst (λ n. Holds c.put.new.self n) (c.number-number.ensures ∙ c.of_tiling.ensures w is) c.put.ensures.put;
  kept = λ x held. c.put.ensures.kept x (subst (λ (s : Finding). Holds s.numbers x) (sym c.self.view_is) held);
}

pub returns-else-self-number : goal.returns-else-self-number
returns-else-self-number g c = record {
  fixed = ap wanted c.self.view_is;
  put = λ w is least. absurd (omega (
    arith,
    least,
    c.if-self-number.false,
    c.number-number.ensures,
    c.of_tiling.ensures w is,
    ap (λ (s : Finding). s.from) c.self.view_is,
  ));
  kept = λ x h. subst (λ (s : Finding). Holds s.numbers x) (sym c.self.view_is) h;
}

pub invariant_of-self-else-self-number : goal.invariant_of-self-else-self-number
invariant_of-self-else-self-number g c = c.self.invariant
