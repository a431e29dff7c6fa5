use Rattle.std.proofs.Common.{arith, false, refl, rules, subst, sym, true≢false, ◌≡◌, ◌≤◌}
use Rattle.bk_word.specs.Word.{Word, order_of}
use Rattle.bk_catalogue.specs.Following.{start_cursor}
use Rattle.bk_tree_walk.specs.TreePlace.{TreeWalkState}
use Rattle.bk_walk.specs.KeptWalk.{IsKeptWalk}
use Rattle.bk_walk.proofs.walk.TabledWalk.new.Goals as goal

pub returns : goal.returns
returns g c = search rules

pub new-requires-clause-least : goal.new-requires-clause-least
new-requires-clause-least g c = c.requires.least

pub new-requires-clause-most : goal.new-requires-clause-most
new-requires-clause-most g c = c.requires.most

pub new-requires-2 : goal.new-requires-2
new-requires-2 g c = grind (arith, g.ROOM.fits)

pub invariant_of-result : goal.invariant_of-result
invariant_of-result g c =
    let same : c.match-from.cursor ≡ start_cursor c.args.from = search rules in
    subst (λ (s : TreeWalkState). IsKeptWalk
    (record { order = s.order; class = s.class; cursor = c.match-from.cursor; ended = false; pushes = s.pushes }) s.front) (sym c.new.ensures) (record {
      least = c.requires.least;
      most = c.requires.most;
      few = subst (λ (w : Word). order_of w ≤ 16) (sym same) c.requires.few;
      begun = refl;
      small = omega (arith, c.requires.least);
      none = λ e. absurd (true≢false (sym e));
      known = omega arith;
    })
