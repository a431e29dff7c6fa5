use Rattle.std.proofs.Common.{ap, subst}
use Rattle.bk_tree_walk.specs.TreePlace.{IsKeptTreeWalk, TreeWalkState}
use Rattle.bk_tree_walk.proofs.tree_walk.TreeWalk.pushes.Goals as goal

pub returns-clause-value : goal.returns-clause-value
returns-clause-value c = ap (λ (s : TreeWalkState). s.pushes) c.self.view_is

pub returns-clause-kept : goal.returns-clause-kept
returns-clause-kept c = subst IsKeptTreeWalk c.self.view_is c.self.invariant
