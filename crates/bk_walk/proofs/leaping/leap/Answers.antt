use Rattle.std.proofs.Common.{ap, arith, length, subst, sym}
use Rattle.bk_word.specs.Play.{IsLegal}
use Rattle.bk_word.specs.Word.{order_of}
use Rattle.bk_tree_walk.specs.TreePlace.{TreeWalkState}
use Rattle.bk_tree_walk.proofs.LoopSteps.{stays_then}
use Rattle.bk_walk.specs.Leaping.{GoesToWord, IsAtNumber}
use Rattle.bk_walk.proofs.LeapStates.{leap_goes, leap_member, leap_met, leap_within}
use Rattle.bk_walk.proofs.leaping.leap.Goals as goal

pub shared_moves-shared-requires-clause-legal : goal.shared_moves-shared-requires-clause-legal
shared_moves-shared-requires-clause-legal g c = subst IsLegal (sym c.skel.ensures.value) ((c.skel.ensures.kept).stand).legal

pub shared_moves-shared-requires-clause-few : goal.shared_moves-shared-requires-clause-few
shared_moves-shared-requires-clause-few g c =
    let kept = c.skel.ensures.kept in omega (arith, ap order_of c.skel.ensures.value, (kept.stand).small, kept.most)

pub shorten-requires : goal.shorten-requires
shorten-requires g c = leap_within c.args.tree.now c.skel.ensures.kept c.requires.ready c.args.number c.requires.next c.skel.result.now c.skel.ensures.value
    c.shared_moves-shared.result c.shared_moves-shared.ensures.within c.shared_moves-shared.ensures.shared

pub go_to-requires-clause-known : goal.go_to-requires-clause-known
go_to-requires-clause-known g c =
    let kept = c.skel.ensures.kept in omega (arith, kept.known, ap (λ (s : TreeWalkState). s.pushes) c.shorten.ensures.state)

pub go_to-requires-clause-goes : goal.go_to-requires-clause-goes
go_to-requires-clause-goes g c = subst (λ (s : TreeWalkState). GoesToWord s.order s.front c.args.number) (sym c.shorten.ensures.state)
    (leap_goes c.args.tree.now c.skel.ensures.kept c.requires.ready c.args.number c.requires.next c.skel.result.now c.skel.ensures.value
    c.shared_moves-shared.result c.shared_moves-shared.ensures.within c.shared_moves-shared.ensures.shared)

pub returns-clause-meets : goal.returns-clause-meets
returns-clause-meets g c = leap_met c.args.tree.now c.skel.ensures.kept c.requires.ready c.args.number c.requires.next c.skel.result.now
    c.skel.ensures.value c.shared_moves-shared.result c.shared_moves-shared.ensures.within c.shared_moves-shared.ensures.shared c.go_to.new.tree.front
    (subst (λ (s : TreeWalkState). IsAtNumber s.order c.go_to.new.tree.front c.args.number) c.shorten.ensures.state c.go_to.ensures.at)
    c.args.steps.now c.go_to.new.steps (omega (arith, c.go_to.ensures.steps, ap (λ (s : TreeWalkState). length s.front) c.shorten.ensures.state))

pub returns-clause-member : goal.returns-clause-member
returns-clause-member g c = leap_member c.args.tree.now c.skel.ensures.kept c.requires.ready c.args.number c.requires.next c.skel.result.now
    c.skel.ensures.value c.shared_moves-shared.result c.shared_moves-shared.ensures.within c.shared_moves-shared.ensures.shared c.go_to.new.tree.front
    (subst (λ (s : TreeWalkState). IsAtNumber s.order c.go_to.new.tree.front c.args.number) c.shorten.ensures.state c.go_to.ensures.at)

pub returns-clause-stays : goal.returns-clause-stays
returns-clause-stays g c = stays_then c.args.tree.now c.shorten.new.self c.go_to.new.tree c.args.steps.now c.args.steps.now c.go_to.new.steps
    (c.shorten.ensures.stays c.args.steps.now) c.go_to.ensures.stays
