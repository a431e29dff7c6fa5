-- Moves of the order that are complete are a member's word where one is found.
use Rattle.std.proofs.Common.{ap, arith, refl, subst, sym, true≢false, ◌∙◌}
use Rattle.bk_word.specs.Play.{IsComplete}
use Rattle.bk_word.specs.Word.{order_of}
use Rattle.bk_catalogue.specs.Repeated.{HasNoMember}
use Rattle.bk_tree_walk.proofs.MemberEntries.{same_entry}
use Rattle.bk_tree_walk.proofs.tree_walk.is_members.Goals as goal

pub find_member-requires-clause-whole : goal.find_member-requires-clause-whole
find_member-requires-clause-whole c = subst IsComplete (sym c.skel.ensures.value) (c.is_complete_of.ensures.whole c.if-is_complete_of.true).0

pub find_member-requires-clause-few : goal.find_member-requires-clause-few
find_member-requires-clause-few c = omega (
  arith,
  (c.is_complete_of.ensures.whole c.if-is_complete_of.true).1,
  c.requires.order,
  ap order_of c.skel.ensures.value,
)

pub returns-then-is_complete_of-clause-yes : goal.returns-then-is_complete_of-clause-yes
returns-then-is_complete_of-clause-yes c = λ e. same_entry c.args.order (order_of c.skel.result.now) c.args.class c.args.class c.skel.result.now
    c.args.lined.now c.find_member.new.tiling
    (ap order_of c.skel.ensures.value ∙ (c.is_complete_of.ensures.whole c.if-is_complete_of.true).1) refl c.skel.ensures.value (c.find_member.ensures.yes e)

pub returns-then-is_complete_of-clause-none : goal.returns-then-is_complete_of-clause-none
returns-then-is_complete_of-clause-none c = λ e _ _. subst (HasNoMember c.args.class) c.skel.ensures.value (c.find_member.ensures.no e)

pub returns-else-is_complete_of-clause-yes : goal.returns-else-is_complete_of-clause-yes
returns-else-is_complete_of-clause-yes c = λ e. absurd (true≢false (sym e ∙ c.if-is_complete_of.false))

pub returns-else-is_complete_of-clause-none : goal.returns-else-is_complete_of-clause-none
returns-else-is_complete_of-clause-none c = λ _ whole same. absurd (c.is_complete_of.ensures.unready c.if-is_complete_of.false whole same)
