use Rattle.std.proofs.Common.{ap, subst, sym, ◌∙◌}
use Rattle.bk_word.specs.Play.{IsComplete}
use Rattle.bk_word.specs.Word.{Word}
use Rattle.bk_catalogue.proofs.Members.OneEntry.{entry_complete}
use Rattle.bk_word_net.specs.Realised.{IsTilingOf}
use Rattle.bk_tree_walk.specs.TreePlace.{TreeWalkState}
use Rattle.bk_tree_walk.proofs.MemberEntries.{member_realised}
use Rattle.bk_tree_walk.proofs.tree_walk.TreeWalk.realise.Goals as goal

pub flow_of-requires-clause-closed : goal.flow_of-requires-clause-closed
flow_of-requires-clause-closed c = subst IsComplete
    (c.requires.word_is ∙ sym (ap (λ (s : TreeWalkState). s.front) c.self.view_is) ∙ sym c.skel-skel.ensures.value)
    (entry_complete c.args.self.now.order c.args.self.now.class c.requires.entry c.requires.is).0

pub realise_by_in-requires-clause-closed : goal.realise_by_in-requires-clause-closed
realise_by_in-requires-clause-closed c = subst IsComplete
    (c.requires.word_is ∙ sym (ap (λ (s : TreeWalkState). s.front) c.self.view_is) ∙ sym c.skel-skel.ensures.value)
    (entry_complete c.args.self.now.order c.args.self.now.class c.requires.entry c.requires.is).0

pub returns-clause-member : goal.returns-clause-member
returns-clause-member c = member_realised c.args.self.now.order c.args.self.now.class c.args.self.now.front c.realise_by_in.new.tiling c.requires
    (subst (λ (w : Word). IsTilingOf w c.realise_by_in.new.tiling) (c.skel-skel.ensures.value ∙ ap (λ (s : TreeWalkState). s.front) c.self.view_is)
    c.in-Found.ensures)

pub invariant_of-self : goal.invariant_of-self
invariant_of-self c = c.self.invariant

pub returns-clause-same : goal.returns-clause-same
returns-clause-same c = c.self.view_is
