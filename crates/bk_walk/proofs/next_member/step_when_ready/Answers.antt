use Rattle.std.proofs.Common.{ap, arith, refl, subst, sym, ℕ, ◌-◌, ◌≡◌, tests}
use Rattle.bk_word.specs.declared.Class.{Class}
use Rattle.bk_tree_walk.specs.TreePlace.{TreeWalkState, place_of}
use Rattle.bk_tree_walk.specs.WholeWords.{IsMembersWord}
use Rattle.bk_tree_walk.specs.declared.Went.TheVariants.{End, Met}
use Rattle.bk_tree_walk.proofs.MemberEntries.{same_entry}
use Rattle.bk_tree_walk.proofs.PlaceLaws.{ends_there}
use Rattle.bk_walk.specs.Leaping.{IsStep}
use Rattle.bk_walk.proofs.next_member.step_when_ready.Goals as goal

pub consult_table-requires : goal.consult_table-requires
consult_table-requires g c = (search tests, c.requires)

pub walk_on-requires : goal.walk_on-requires
walk_on-requires g c = c.requires

pub leap-requires-clause-ready : goal.leap-requires-clause-ready
leap-requires-clause-ready g c = c.requires

pub leap-requires-clause-next : goal.leap-requires-clause-next
leap-requires-clause-next g c = c.in-Next.ensures

pub realise-requires : goal.realise-requires
realise-requires g c = subst (λ (n : ℕ). IsMembersWord n c.leap.new.tree.class c.leap.new.tree.front) (sym c.leap.ensures.stays.order)
    (subst (λ (k : Class). IsMembersWord c.args.tree.now.order k c.leap.new.tree.front) (sym c.leap.ensures.stays.class) c.leap.ensures.member)

pub shorten-requires : goal.shorten-requires
shorten-requires g c = omega arith

pub returns-in-Unknown : goal.returns-in-Unknown
returns-in-Unknown g c = record { leads = c.walk_on.ensures.leads; member = c.walk_on.ensures.member; stays = c.walk_on.ensures.stays }

pub returns-in-Next : goal.returns-in-Next
returns-in-Next g c =
    subst (λ (t : TreeWalkState). IsStep c.args.tree.now c.args.steps.now
    (record { tree = t; steps = c.leap.new.steps; tiling = c.realise.new.tiling }) Met) (sym c.realise.ensures.same)
    (record {
      leads = c.leap.ensures.meets;
      member = λ _.
          same_entry c.args.tree.now.order c.leap.new.tree.order c.args.tree.now.class c.leap.new.tree.class c.leap.new.tree.front c.leap.new.tree.front
          c.realise.new.tiling c.leap.ensures.stays.order c.leap.ensures.stays.class refl c.realise.ensures.member;
      stays = c.leap.ensures.stays;
    })

not_end : End ≡ Met → ⊥
not_end e = cc

pub returns-in-NoMore : goal.returns-in-NoMore
returns-in-NoMore g c = record {
  leads = (
    ends_there c.args.tree.now.order c.args.tree.now.class (place_of c.args.tree.now) (c.args.steps.now - c.args.steps.now) c.in-NoMore.ensures
        (omega arith),
    ap (λ (s : TreeWalkState). s.front) c.shorten.ensures.state,
  );
  member = λ met. absurd (not_end met);
  stays = c.shorten.ensures.stays c.args.steps.now;
}
