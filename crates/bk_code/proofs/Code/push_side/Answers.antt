use Rattle.std.proofs.Common.{List, ap, arith, length, lit<, ℕ, ◌<◌, ◌∙◌}
use Rattle.bk_code.specs.Code.{flat, with_side}
use Rattle.bk_code.proofs.Storing.{flat_side, groups_side, sides_room, starts_count, stored_side}
use Rattle.bk_code.proofs.Code.push_side.Goals as goal

pub push-requires : goal.push-requires
push-requires c = (lit< tt, sides_room _ _ _ c.self.invariant c.self.view_is c.requires.room)

some : (c : goal.After-push) → 0 < length c.self.inside.starts.items
some c = omega (arith, starts_count _ _ _ c.self.view_is, c.requires.some)

pub invariant_of-self : goal.invariant_of-self
invariant_of-self c =
    rw c.push.ensures.items
    (stored_side _ _ c.args.side c.self.invariant (some c) c.requires.side (sides_room _ _ _ c.self.invariant c.self.view_is c.requires.room))

pub returns-clause-group : goal.returns-clause-group
returns-clause-group c =
    rw c.push.ensures.items
    (groups_side c.self.inside.starts.items c.self.inside.sides.items c.args.side (some c) c.self.invariant.starts_rise
    ∙ ap (λ (code : List (List ℕ)). with_side code c.args.side) c.self.view_is)

pub returns-clause-flat : goal.returns-clause-flat
returns-clause-flat c =
    rw c.push.ensures.items
    (ap flat (groups_side c.self.inside.starts.items c.self.inside.sides.items c.args.side (some c) c.self.invariant.starts_rise
    ∙ ap (λ (code : List (List ℕ)). with_side code c.args.side) c.self.view_is)
    ∙ flat_side c.args.self.now c.args.side c.requires.some)
