use Rattle.std.proofs.Common.{refl, tests}
use Rattle.bk_tree_walk.proofs.MemberEntries.{same_entry}
use Rattle.bk_tree_walk.proofs.PlaceLaws.{settled_leads, settled_unmet}
use Rattle.bk_tree_walk.proofs.LoopSteps.{stays_then}
use Rattle.bk_walk.proofs.next_member.step.Goals as goal

pub step_when_ready-requires : goal.step_when_ready-requires
step_when_ready-requires g c = (search tests, c.in-None.ensures.settles.0)

pub returns-in-Some : goal.returns-in-Some
returns-in-Some g c = record {
  leads = settled_leads c.args.tree.now c.settle.new.self c.in-Some.went c.args.steps.now c.in-Some.ensures.settles;
  member = λ met. absurd (settled_unmet c.args.tree.now c.settle.new.self c.in-Some.went c.in-Some.ensures.settles met);
  stays = c.in-Some.ensures.stays c.args.steps.now;
}

pub returns-in-None : goal.returns-in-None
returns-in-None g c =
    let stays = c.in-None.ensures.stays c.args.steps.now in
    record {
      leads = c.in-None.ensures.settles.1 c.step_when_ready.new.tree _ c.step_when_ready.result c.step_when_ready.ensures.leads;
      member = λ met.
          same_entry c.args.tree.now.order c.settle.new.self.order c.args.tree.now.class c.settle.new.self.class c.step_when_ready.new.tree.front
          c.step_when_ready.new.tree.front c.step_when_ready.new.tiling stays.order stays.class refl (c.step_when_ready.ensures.member met);
      stays = stays_then c.args.tree.now c.settle.new.self c.step_when_ready.new.tree c.args.steps.now c.args.steps.now c.step_when_ready.new.steps stays
          c.step_when_ready.ensures.stays;
    }
