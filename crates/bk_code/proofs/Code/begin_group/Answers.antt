use Rattle.std.proofs.Common.{List, [], ap, arith, length, lit<, ℕ, ◌++◌, ◌∙◌, ◌∷◌, ◌≡◌}
use Rattle.bk_code.specs.Code.{flat}
use Rattle.bk_code.proofs.Storing.{flat_more, groups_more, sides_room, starts_room, stored_code_with_one_group_more}
use Rattle.bk_code.proofs.Code.begin_group.Goals as goal

pub push-requires : goal.push-requires
push-requires c = (lit< tt, starts_room _ _ _ c.self.invariant c.self.view_is c.requires.room)

pub push-requires-2 : goal.push-requires-2
push-requires-2 c = (lit< tt, sides_room _ _ _ c.self.invariant c.self.view_is c.requires.room)

starts : (c : goal.After-push-2) → c.push.new.self.items ≡ c.self.inside.starts.items ++ length c.self.inside.sides.items ∷ []
starts c = c.push.ensures.items ∙ ap (λ n. c.self.inside.starts.items ++ n ∷ []) c.len.ensures.value

pub invariant_of-self : goal.invariant_of-self
invariant_of-self c =
    rw (starts c, c.push-2.ensures.items)
    (stored_code_with_one_group_more _ _ (c.args.first ∷ []) c.self.invariant (omega arith) (c.requires.side, tt)
    (omega (arith, sides_room _ _ _ c.self.invariant c.self.view_is c.requires.room)))

pub returns-clause-group : goal.returns-clause-group
returns-clause-group c =
    rw (starts c, c.push-2.ensures.items)
    (groups_more c.self.inside.starts.items c.self.inside.sides.items (c.args.first ∷ []) c.self.invariant.starts_rise
    ∙ ap (λ (code : List (List ℕ)). code ++ (c.args.first ∷ []) ∷ []) c.self.view_is)

pub returns-clause-flat : goal.returns-clause-flat
returns-clause-flat c =
    rw (starts c, c.push-2.ensures.items)
    (ap flat (groups_more c.self.inside.starts.items c.self.inside.sides.items (c.args.first ∷ []) c.self.invariant.starts_rise
    ∙ ap (λ (code : List (List ℕ)). code ++ (c.args.first ∷ []) ∷ []) c.self.view_is)
    ∙ flat_more c.args.self.now (c.args.first ∷ []))
