use Rattle.std.proofs.Common.{Bool, None, Some, [], ap, arith, false, refl, subst, sym, true, true≢false, ◌-◌, ◌<◌, ◌^◌, ◌∙◌, ◌≡◌}
use Rattle.bk_walk.proofs.Answering.{finds_of, kept_at_end, kept_at_word, kept_ended, members_order, next_member, none_after, steps_to_end, steps_to_word}
use Rattle.bk_tree_walk.proofs.MemberEntries.{same_entry}
use Rattle.bk_tree_walk.proofs.WalkLoop.{counts_known, counts_none, counts_then}
use Rattle.bk_catalogue.specs.Tree.{IsAtMostTree, PushesGrow}
use Rattle.bk_catalogue.specs.Following.{HasNoneAfter}
use Rattle.bk_tiling.specs.Tiling.{Tiling}
use Rattle.bk_code.specs.Code.{code_of}
use Rattle.bk_tree_walk.specs.TreePlace.{Finds, place_of}
use Rattle.bk_members.specs.NextMember.{IsNextMember, MembersState}
use Rattle.bk_walk.proofs.walk.TabledWalkMembers.advance_in.Goals.{After-find_next}
use Rattle.bk_walk.proofs.walk.TabledWalkMembers.advance_in.Goals as goal

-- what the walk found, from the walk's own order and class
walk_finds : (g : _) (c : After-find_next g) (met : Bool) → c.find_next.result ≡ met
    → Finds (record c.resume.new.self { order = c.self.inside.tree.order; class = c.self.inside.tree.class }) c.find_next.new.tree
    (c.find_next.new.steps - c.resume.new.steps) met
walk_finds g c met is = finds_of c.self.inside.tree c.resume.new.self c.find_next.new.tree (c.find_next.new.steps - c.resume.new.steps)
    c.find_next.result met c.resume.ensures.stays.order c.resume.ensures.stays.class is c.find_next.ensures.finds

pub invariant_of-self : goal.invariant_of-self
invariant_of-self g c =
    let s = c.self.inside.tree in
    let finds = walk_finds g (goal.at.invariant_of-self g c).After-find_next false c.if-not-find_next.true in
    kept_ended (record { order = s.order; class = s.class; cursor = c.self.inside.cursor; ended = true; pushes = c.find_next.new.tree.pushes })
    c.find_next.new.tree.front c.find_next.new.tree.order c.find_next.new.tree.class
    (c.find_next.ensures.stays.order ∙ c.resume.ensures.stays.order) (c.find_next.ensures.stays.class ∙ c.resume.ensures.stays.class)
    (kept_at_end _ c.find_next.new.tree.front c.self.invariant.least c.self.invariant.most c.self.invariant.few finds.1
    (none_after s.order s.class c.self.inside.cursor (place_of c.resume.new.self) c.resume.ensures.place c.args.steps.now c.resume.new.steps
    c.find_next.new.steps c.resume.ensures.few finds.0)
    (counts_known c.resume.new.self.pushes c.find_next.new.tree.pushes c.resume.new.steps c.find_next.new.steps c.find_next.ensures.stays.counts))

pub invariant_of-self-2 : goal.invariant_of-self-2
invariant_of-self-2 g c =
    let s = c.self.inside.tree in
    let entry = same_entry s.order c.resume.new.self.order s.class c.resume.new.self.class c.find_next.new.tree.front c.find_next.new.tree.front
    c.find_next.new.tiling c.resume.ensures.stays.order c.resume.ensures.stays.class refl (c.find_next.ensures.member c.if-not-find_next.false) in
    kept_at_word s.order _ c.find_next.new.tree.front c.self.invariant.least c.self.invariant.most
    (c.find_next.ensures.stays.order ∙ c.resume.ensures.stays.order) c.write_found.ensures.cursor
    (members_order s.order s.class c.find_next.new.tiling c.find_next.new.tree.front entry) c.if-self.false
    (counts_known c.resume.new.self.pushes c.find_next.new.tree.pushes c.resume.new.steps c.find_next.new.steps c.find_next.ensures.stays.counts)

pub returns-then-not-find_next-clause-none : goal.returns-then-not-find_next-clause-none
returns-then-not-find_next-clause-none g c _ =
    let s = c.self.inside.tree in
    let finds = walk_finds g (goal.at.returns-then-not-find_next-clause-none g c).After-find_next false c.if-not-find_next.true in
    subst (λ (w : MembersState). HasNoneAfter w.order w.class w.cursor) c.self.view_is
    (none_after s.order s.class c.self.inside.cursor (place_of c.resume.new.self) c.resume.ensures.place c.args.steps.now c.resume.new.steps
    c.find_next.new.steps c.resume.ensures.few finds.0)

pub returns-then-not-find_next-clause-steps_to_end : goal.returns-then-not-find_next-clause-steps_to_end
returns-then-not-find_next-clause-steps_to_end g c _ =
    let s = c.self.inside.tree in
    let finds = walk_finds g (goal.at.returns-then-not-find_next-clause-steps_to_end g c).After-find_next false c.if-not-find_next.true in
    subst (λ (w : MembersState). IsAtMostTree w.order w.cursor None (c.find_next.new.steps - c.args.steps.now)) c.self.view_is
    (steps_to_end s.order s.class c.self.inside.cursor (place_of c.resume.new.self) c.resume.ensures.place c.args.steps.now c.resume.new.steps
    c.find_next.new.steps c.resume.ensures.few finds.0)

pub returns-clause-entry : goal.returns-clause-entry
returns-clause-entry g c _ =
    let s = c.self.inside.tree in
    let finds = walk_finds g (goal.at.returns-clause-entry g c).After-find_next true c.if-not-find_next.false in
    let entry = same_entry s.order c.resume.new.self.order s.class c.resume.new.self.class c.find_next.new.tree.front c.find_next.new.tree.front
    c.find_next.new.tiling c.resume.ensures.stays.order c.resume.ensures.stays.class refl (c.find_next.ensures.member c.if-not-find_next.false) in
    let found = c.write_found.new.entry in
    subst (λ (w : MembersState). IsNextMember w.order w.class w.cursor (record { tiling = found.tiling; word = found.word })) c.self.view_is
    (subst (λ (t : Tiling). IsNextMember s.order s.class c.self.inside.cursor (record { tiling = t; word = found.word })) (sym c.write_found.ensures.tiling)
    (next_member s.order s.class c.self.inside.cursor (place_of c.resume.new.self) c.resume.ensures.place c.args.steps.now c.resume.new.steps
    c.find_next.new.steps c.resume.ensures.few c.find_next.new.tiling c.find_next.new.tree.front found.word c.write_found.ensures.word entry finds))

pub returns-clause-code : goal.returns-clause-code
returns-clause-code g c _ = c.write_found.ensures.code ∙ ap code_of (sym c.write_found.ensures.tiling)

pub returns-clause-steps : goal.returns-clause-steps
returns-clause-steps g c _ =
    let s = c.self.inside.tree in
    let finds = walk_finds g (goal.at.returns-clause-steps g c).After-find_next true c.if-not-find_next.false in
    subst (λ (w : MembersState). IsAtMostTree w.order w.cursor (Some c.write_found.new.cursor) (c.find_next.new.steps - c.args.steps.now)) c.self.view_is
    (steps_to_word s.order s.class c.self.inside.cursor (place_of c.resume.new.self) c.resume.ensures.place c.args.steps.now c.resume.new.steps
    c.find_next.new.steps c.resume.ensures.few c.find_next.new.tree.front c.write_found.new.cursor
    c.write_found.ensures.cursor finds)

-- the walk has ended before
pub returns-then-self-clause-entry : goal.returns-then-self-clause-entry
returns-then-self-clause-entry g c e = absurd (true≢false (sym e))

pub returns-then-self-clause-code : goal.returns-then-self-clause-code
returns-then-self-clause-code g c e = absurd (true≢false (sym e))

pub returns-then-self-clause-none : goal.returns-then-self-clause-none
returns-then-self-clause-none g c _ =
    subst (λ (w : MembersState). HasNoneAfter w.order w.class w.cursor) c.self.view_is (c.self.invariant.none c.if-self.true)

pub returns-then-self-clause-cursor : goal.returns-then-self-clause-cursor
returns-then-self-clause-cursor g c e = absurd (true≢false (sym e))

pub returns-then-self-clause-stays : goal.returns-then-self-clause-stays
returns-then-self-clause-stays g c _ = refl

pub returns-then-self-clause-ended : goal.returns-then-self-clause-ended
returns-then-self-clause-ended g c = (λ _. refl, λ _. ap (λ (w : MembersState). w.ended) (sym c.self.view_is) ∙ c.if-self.true)

pub returns-then-self-clause-later : goal.returns-then-self-clause-later
returns-then-self-clause-later g c _ = refl

pub returns-then-self-clause-order : goal.returns-then-self-clause-order
returns-then-self-clause-order g c = refl

pub returns-then-self-clause-class : goal.returns-then-self-clause-class
returns-then-self-clause-class g c = refl

pub returns-then-self-clause-steps : goal.returns-then-self-clause-steps
returns-then-self-clause-steps g c e = absurd (true≢false (sym e))

-- the walk comes to the end
pub returns-then-not-find_next-clause-entry : goal.returns-then-not-find_next-clause-entry
returns-then-not-find_next-clause-entry g c e = absurd (true≢false (sym e))

pub returns-then-not-find_next-clause-code : goal.returns-then-not-find_next-clause-code
returns-then-not-find_next-clause-code g c e = absurd (true≢false (sym e))

pub returns-then-not-find_next-clause-cursor : goal.returns-then-not-find_next-clause-cursor
returns-then-not-find_next-clause-cursor g c e = absurd (true≢false (sym e))

pub returns-then-not-find_next-clause-stays : goal.returns-then-not-find_next-clause-stays
returns-then-not-find_next-clause-stays g c _ = ap (λ (w : MembersState). w.cursor) c.self.view_is

pub returns-then-not-find_next-clause-ended : goal.returns-then-not-find_next-clause-ended
returns-then-not-find_next-clause-ended g c = (λ _. refl, λ _. refl)

pub returns-then-not-find_next-clause-later : goal.returns-then-not-find_next-clause-later
returns-then-not-find_next-clause-later g c _ = refl

pub returns-then-not-find_next-clause-order : goal.returns-then-not-find_next-clause-order
returns-then-not-find_next-clause-order g c = c.find_next.ensures.stays.order ∙ c.resume.ensures.stays.order ∙ ap (λ (w : MembersState). w.order) c.self.view_is

pub returns-then-not-find_next-clause-class : goal.returns-then-not-find_next-clause-class
returns-then-not-find_next-clause-class g c = c.find_next.ensures.stays.class ∙ c.resume.ensures.stays.class ∙ ap (λ (w : MembersState). w.class) c.self.view_is

pub returns-then-not-find_next-clause-steps : goal.returns-then-not-find_next-clause-steps
returns-then-not-find_next-clause-steps g c e = absurd (true≢false (sym e))

-- the walk comes to a member
pub returns-clause-none : goal.returns-clause-none
returns-clause-none g c e = absurd (true≢false e)

pub returns-clause-cursor : goal.returns-clause-cursor
returns-clause-cursor g c _ = c.write_found.ensures.cursor ∙ sym c.write_found.ensures.word

pub returns-clause-stays : goal.returns-clause-stays
returns-clause-stays g c e = absurd (true≢false e)

pub returns-clause-ended : goal.returns-clause-ended
returns-clause-ended g c = (λ e. absurd (true≢false (sym e ∙ c.if-self.false)), λ e. absurd (true≢false e))

pub returns-clause-later : goal.returns-clause-later
returns-clause-later g c e = absurd (true≢false (sym e ∙ ap (λ (w : MembersState). w.ended) (sym c.self.view_is) ∙ c.if-self.false))

pub returns-clause-order : goal.returns-clause-order
returns-clause-order g c = c.find_next.ensures.stays.order ∙ c.resume.ensures.stays.order ∙ ap (λ (w : MembersState). w.order) c.self.view_is

pub returns-clause-class : goal.returns-clause-class
returns-clause-class g c = c.find_next.ensures.stays.class ∙ c.resume.ensures.stays.class ∙ ap (λ (w : MembersState). w.class) c.self.view_is

pub returns-clause-steps_to_end : goal.returns-clause-steps_to_end
returns-clause-steps_to_end g c e = absurd (true≢false e)

pub returns-then-self-clause-pushes : goal.returns-then-self-clause-pushes
returns-then-self-clause-pushes g c =
    counts_none c.args.self.now.pushes c.args.steps.now (subst (λ (w : MembersState). w.pushes < 2 ^ 64) c.self.view_is c.self.invariant.known)

pub resume-requires-clause-begun : goal.resume-requires-clause-begun
resume-requires-clause-begun g c = c.self.invariant.begun

pub resume-requires-clause-few : goal.resume-requires-clause-few
resume-requires-clause-few g c = c.self.invariant.few

pub returns-then-not-find_next-clause-pushes : goal.returns-then-not-find_next-clause-pushes
returns-then-not-find_next-clause-pushes g c =
    subst (λ (w : MembersState). PushesGrow w.pushes c.find_next.new.tree.pushes c.args.steps.now c.find_next.new.steps) c.self.view_is
    (counts_then c.self.inside.tree.pushes c.resume.new.self.pushes c.find_next.new.tree.pushes c.args.steps.now c.resume.new.steps c.find_next.new.steps
    c.resume.ensures.stays.counts c.find_next.ensures.stays.counts)

pub returns-clause-pushes : goal.returns-clause-pushes
returns-clause-pushes g c =
    subst (λ (w : MembersState). PushesGrow w.pushes c.find_next.new.tree.pushes c.args.steps.now c.find_next.new.steps) c.self.view_is
    (counts_then c.self.inside.tree.pushes c.resume.new.self.pushes c.find_next.new.tree.pushes c.args.steps.now c.resume.new.steps c.find_next.new.steps
    c.resume.ensures.stays.counts c.find_next.ensures.stays.counts)

pub returns-then-self-clause-steps_to_end : goal.returns-then-self-clause-steps_to_end
returns-then-self-clause-steps_to_end g c _ = record { words = []; each = tt; ascending = tt; count = omega arith }

pub find_next-requires : goal.find_next-requires
find_next-requires g c = grind (arith, g.ROOM.fits)
