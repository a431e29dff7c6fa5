use Rattle.std.proofs.Common.{refl, sym, true≢false, tests}
use Rattle.bk_tree_walk.proofs.LoopSteps.{entry_of_step, no_step_yet, stays_same, stays_then, step_comes_nearer, step_ends_walk, step_finds}
use Rattle.bk_tree_walk.proofs.LoopSteps.{step_keeps, step_leads_on}
use Rattle.bk_walk.proofs.next_member.find_next.Goals as goal

pub places-init : goal.places-init
places-init g c =
    let kept = c.pushes-known.ensures.kept in
    record { kept = kept; on = no_step_yet c.args.tree.now c.args.steps.now; stays = stays_same c.args.tree.now c.args.steps.now kept }

pub places-smaller : goal.places-smaller
places-smaller g c = step_comes_nearer c.args.tree.now c.places.tree c.step.new.tree c.args.steps.now c.places.steps c.step.new.steps c.places.invariant.kept
    c.places.invariant.on c.places.invariant.stays c.in-On.ensures.stays c.in-On.ensures.leads

pub places-preserved : goal.places-preserved
places-preserved g c = record {
  kept = step_keeps c.args.tree.now c.places.tree c.step.new.tree c.args.steps.now c.places.steps c.step.new.steps c.places.invariant.kept
      c.places.invariant.on c.places.invariant.stays c.in-On.ensures.stays c.in-On.ensures.leads;
  on = step_leads_on c.args.tree.now c.places.tree c.step.new.tree c.args.steps.now c.places.steps c.step.new.steps c.places.invariant.kept
      c.places.invariant.on c.places.invariant.stays c.in-On.ensures.stays c.in-On.ensures.leads;
  stays = stays_then c.args.tree.now c.places.tree c.step.new.tree c.args.steps.now c.places.steps c.step.new.steps c.places.invariant.stays
      c.in-On.ensures.stays;
}

pub returns-in-End-clause-finds : goal.returns-in-End-clause-finds
returns-in-End-clause-finds g c = step_ends_walk c.args.tree.now c.places.tree c.step.new.tree c.args.steps.now c.places.steps c.step.new.steps
    c.places.invariant.kept c.places.invariant.on c.places.invariant.stays c.in-End.ensures.stays c.in-End.ensures.leads

pub returns-in-Met-clause-finds : goal.returns-in-Met-clause-finds
returns-in-Met-clause-finds g c = step_finds c.args.tree.now c.places.tree c.step.new.tree c.args.steps.now c.places.steps c.step.new.steps
    c.places.invariant.kept c.places.invariant.on c.places.invariant.stays c.in-Met.ensures.stays c.in-Met.ensures.leads

pub returns-in-End-clause-member : goal.returns-in-End-clause-member
returns-in-End-clause-member g c = λ found. absurd (true≢false (sym found))

pub returns-in-Met-clause-member : goal.returns-in-Met-clause-member
returns-in-Met-clause-member g c = λ _. entry_of_step c.args.tree.now c.places.tree c.step.new.tree c.args.steps.now c.places.steps c.step.new.steps
    c.places.invariant.kept c.places.invariant.on c.places.invariant.stays c.in-Met.ensures.stays c.step.new.tiling (c.in-Met.ensures.member refl)

pub step-requires : goal.step-requires
step-requires g c = search tests

pub returns-in-End-clause-stays : goal.returns-in-End-clause-stays
returns-in-End-clause-stays g c = stays_then c.args.tree.now c.places.tree c.step.new.tree c.args.steps.now c.places.steps c.step.new.steps
    c.places.invariant.stays c.in-End.ensures.stays

pub returns-in-Met-clause-stays : goal.returns-in-Met-clause-stays
returns-in-Met-clause-stays g c = stays_then c.args.tree.now c.places.tree c.step.new.tree c.args.steps.now c.places.steps c.step.new.steps
    c.places.invariant.stays c.in-Met.ensures.stays
