use Rattle.std.specs.List.{position_or_len}
use Rattle.std.specs.Map.{keys_of, values_of}
use Rattle.std.specs.Prelude.{cond, map}
use Rattle.std.proofs.Common.{Bool, [], ap, length, refl, subst, sym, ℕ, ◌++◌, ◌∙◌, ◌∷◌, ◌≡◌}
use Rattle.indexmap.specs.IndexMap.{keys, values, with_value_at}
use Rattle.indexmap.proofs.CallerLemmas.{keys-with_value_at}
use Rattle.bk_laws.proofs.Outcomes.{found-below_bound, le-from_none_found, on_err-intro}
use Rattle.bk_alike.specs.Alike.{size_eq}
use Rattle.bk_alike.specs.Grouped.{with_place}
use Rattle.bk_alike.proofs.GroupingLaws.{present_at}
use Rattle.bk_alike.proofs.Storing.{groups_grown, keys_grown, set_placed, set_same}
use Rattle.bk_alike.proofs.put_in_group.Goals as goal

-- the size is there: its group is written back
pub returns-clause-sizes : goal.returns-clause-sizes
returns-clause-sizes c =
    let found = found-below_bound (position_or_len (size_eq c.args.size) (keys c.args.groups.now)) (length (keys c.args.groups.now)) c.in-Some.g
    c.in-Some.ensures.index in
    keys-with_value_at c.args.groups.now c.in-Some.g c.push.new.self
    ∙ sym (ap (λ (b : Bool). cond b (keys c.args.groups.now) (keys c.args.groups.now ++ c.args.size ∷ []))
    (present_at c.args.size (keys c.args.groups.now) found.1))

pub returns-clause-groups : goal.returns-clause-groups
returns-clause-groups c =
    let found = found-below_bound (position_or_len (size_eq c.args.size) (keys c.args.groups.now)) (length (keys c.args.groups.now)) c.in-Some.g
    c.in-Some.ensures.index in
    subst (λ (k : ℕ). map (λ group. group.items) (values (with_value_at c.args.groups.now c.in-Some.g c.push.new.self))
    ≡ with_place (map (λ group. group.items) (values c.args.groups.now)) k c.args.place) found.0
    (set_placed (λ group. group.items) c.args.groups.now.entries c.in-Some.g c.push.new.self c.index_mut.result.now c.args.place
    c.index_mut.ensures.value c.in_ok-push.ensures.items)

pub returns-in_err-push-clause-same_sizes : goal.returns-in_err-push-clause-same_sizes
returns-in_err-push-clause-same_sizes c =
    on_err-intro c.from_residual-in_err-push.result (keys-with_value_at c.args.groups.now c.in-Some.g c.push.new.self)

pub returns-in_err-push-clause-same_groups : goal.returns-in_err-push-clause-same_groups
returns-in_err-push-clause-same_groups c =
    on_err-intro c.from_residual-in_err-push.result (set_same (λ group. group.items) c.args.groups.now.entries c.in-Some.g c.push.new.self
    c.index_mut.result.now c.index_mut.ensures.value c.in_err-push.ensures.items)

-- it is not there: a group is put at the end
pub returns-in_default-clause-sizes : goal.returns-in_default-clause-sizes
returns-in_default-clause-sizes c =
    let late = le-from_none_found (position_or_len (size_eq c.args.size) (keys c.args.groups.now)) (length (keys c.args.groups.now))
    c.in_default.ensures.index in
    keys_grown (λ group. group.items) c.args.groups.now.entries c.insert.new.self.entries c.args.size c.in_ok-group.group c.args.place late
    c.in_ok-insert.ensures.entries

pub returns-in_default-clause-groups : goal.returns-in_default-clause-groups
returns-in_default-clause-groups c =
    let late = le-from_none_found (position_or_len (size_eq c.args.size) (keys c.args.groups.now)) (length (keys c.args.groups.now))
    c.in_default.ensures.index in
    groups_grown (λ group. group.items) c.args.groups.now.entries c.insert.new.self.entries c.args.size c.in_ok-group.group c.args.place late
    c.in_ok-insert.ensures.entries c.in_ok-group.ensures.items

pub returns-in_err-group-clause-same_sizes : goal.returns-in_err-group-clause-same_sizes
returns-in_err-group-clause-same_sizes c = on_err-intro c.from_residual.result refl

pub returns-in_err-group-clause-same_groups : goal.returns-in_err-group-clause-same_groups
returns-in_err-group-clause-same_groups c = on_err-intro c.from_residual.result refl

pub returns-in_err-insert-clause-same_sizes : goal.returns-in_err-insert-clause-same_sizes
returns-in_err-insert-clause-same_sizes c =
    on_err-intro c.from_residual-in_err-insert.result (ap keys_of c.in_err-insert.ensures.err)

pub returns-in_err-insert-clause-same_groups : goal.returns-in_err-insert-clause-same_groups
returns-in_err-insert-clause-same_groups c =
    on_err-intro c.from_residual-in_err-insert.result (ap (λ l. map (λ group. group.items) (values_of l)) c.in_err-insert.ensures.err)
