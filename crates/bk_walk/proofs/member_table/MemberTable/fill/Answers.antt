use Rattle.std.proofs.Common.{ap, arith, ◌∙◌}
use Rattle.bk_walk.specs.Finding.{Finding, Wanted}
use Rattle.bk_walk.proofs.WholeTables.{still_whole, whole_table}
use Rattle.bk_walk.proofs.member_table.MemberTable.fill.Goals as goal

pub begin-requires : goal.begin-requires
begin-requires g c = (omega (arith, g.N.fits), c.requires.most)

pub search-requires-room-S-Leaves : goal.search-requires-room-S-Leaves
search-requires-room-S-Leaves g c κs = omega (arith, g.N.fits)

pub sort_numbers-requires : goal.sort_numbers-requires
sort_numbers-requires g c = omega (arith, g.N.fits)

pub invariant_of-self : goal.invariant_of-self
invariant_of-self g c = record {
  few = omega (
    arith,
    c.requires.most,
    ap (λ (f : Wanted). f.order) c.sort_numbers.ensures.fixed,
    ap (λ (f : Wanted). f.order) c.search.ensures.fixed,
    ap (λ (f : Finding). f.order) c.begin.ensures,
  );
  whole = still_whole c.search.new.leaves.finder c.sort_numbers.new.self c.sort_numbers.ensures.fixed c.sort_numbers.ensures.kept
      (whole_table c.args.order c.search.new.leaves.finder c.requires.least
      (ap (λ (f : Wanted). f.order) c.search.ensures.fixed ∙ ap (λ (f : Finding). f.order) c.begin.ensures) c.search.ensures.all);
  ascending = c.sort_numbers.ensures.ascending;
}

pub returns-clause-whole : goal.returns-clause-whole
returns-clause-whole g c = still_whole c.search.new.leaves.finder c.sort_numbers.new.self c.sort_numbers.ensures.fixed c.sort_numbers.ensures.kept
    (whole_table c.args.order c.search.new.leaves.finder c.requires.least
    (ap (λ (f : Wanted). f.order) c.search.ensures.fixed ∙ ap (λ (f : Finding). f.order) c.begin.ensures) c.search.ensures.all)

pub returns-clause-order : goal.returns-clause-order
returns-clause-order g c = ap (λ (f : Wanted). f.order) c.sort_numbers.ensures.fixed ∙ ap (λ (f : Wanted). f.order) c.search.ensures.fixed
    ∙ ap (λ (f : Finding). f.order) c.begin.ensures

pub returns-clause-class : goal.returns-clause-class
returns-clause-class g c = ap (λ (f : Wanted). f.class) c.sort_numbers.ensures.fixed ∙ ap (λ (f : Wanted). f.class) c.search.ensures.fixed
    ∙ ap (λ (f : Finding). f.class) c.begin.ensures

pub returns-clause-from : goal.returns-clause-from
returns-clause-from g c = ap (λ (f : Wanted). f.from) c.sort_numbers.ensures.fixed ∙ ap (λ (f : Wanted). f.from) c.search.ensures.fixed
    ∙ ap (λ (f : Finding). f.from) c.begin.ensures

pub search-requires-clause-least : goal.search-requires-clause-least
search-requires-clause-least g c = c.requires.least

pub search-requires-clause-most : goal.search-requires-clause-most
search-requires-clause-most g c = c.requires.most
