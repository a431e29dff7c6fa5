-- The place of a size among the sizes is that of its group; a size that isn't there has no group.
use Rattle.std.specs.List.{position_or_len}
use Rattle.std.specs.Prelude.{Some, slice_get}
use Rattle.std.proofs.Common.{List, ap, arith, length, subst, sym, ℕ, ◌<◌, ◌∙◌, ◌≡◌, ◌≤◌}
use Rattle.std.proofs.lemmas.List.{length-map}
use Rattle.std.proofs.lemmas.Option.{same_Some}
use Rattle.indexmap.specs.IndexMap.{keys}
use Rattle.bk_laws.proofs.Outcomes.{found-below_bound, le-from_none_found}
use Rattle.bk_alike.specs.Alike.{alike_groups, group_of, size_eq, sizes}
use Rattle.bk_alike.specs.declared.item.KeptItem.{KeptItem}
use Rattle.bk_alike.proofs.GroupingLaws.{absent_at, found_at}
use Rattle.bk_alike.proofs.Alike.of_size.Goals as goal

pub members-requires : goal.members-requires
members-requires c =
    let found = found-below_bound (position_or_len (size_eq c.args.size) (keys c.self.inside.groups)) (length (keys c.self.inside.groups)) c.in-Some.g
    c.in-Some.ensures.index in
    let many = ap (λ (l : List (ℕ × ℕ)). length l) (c.self.invariant).sizes_are in
    subst (λ (l : List KeptItem). c.in-Some.g < length (alike_groups l)) c.self.view_is
    (omega (arith, found.0, found.1, many, length-map (sizes c.self.inside.items.items) (group_of c.self.inside.items.items)))

pub returns-in-Some-clause-value : goal.returns-in-Some-clause-value
returns-in-Some-clause-value c =
    let found = found-below_bound (position_or_len (size_eq c.args.size) (keys c.self.inside.groups)) (length (keys c.self.inside.groups)) c.in-Some.g
    c.in-Some.ensures.index in
    let are = (c.self.invariant).sizes_are in
    let place : c.in-Some.g ≡ position_or_len (size_eq c.args.size) (sizes c.self.inside.items.items) = found.0
    ∙ ap (position_or_len (size_eq c.args.size)) are in
    let within : position_or_len (size_eq c.args.size) (sizes c.self.inside.items.items) < length (sizes c.self.inside.items.items)
    = subst (λ (l : List (ℕ × ℕ)). position_or_len (size_eq c.args.size) l < length l) are found.1 in
    same_Some c.members.result.now (group_of c.args.self.now c.args.size)
    (sym c.members.ensures
    ∙ (λ i. slice_get (alike_groups (sym c.self.view_is i)) (place i))
    ∙ found_at (group_of c.self.inside.items.items) c.args.size (sizes c.self.inside.items.items) within
    ∙ ap (λ (l : List KeptItem). Some (group_of l c.args.size)) c.self.view_is)

pub returns-in-None-clause-value : goal.returns-in-None-clause-value
returns-in-None-clause-value c =
    let are = (c.self.invariant).sizes_are in
    let late = le-from_none_found (position_or_len (size_eq c.args.size) (keys c.self.inside.groups)) (length (keys c.self.inside.groups))
    c.in-None.ensures.index in
    let none = absent_at c.args.size (sizes c.self.inside.items.items)
    (subst (λ (l : List (ℕ × ℕ)). length l ≤ position_or_len (size_eq c.args.size) l) are late) in
    sym ((c.self.invariant).no_others c.args.size none) ∙ ap (λ (l : List KeptItem). group_of l c.args.size) c.self.view_is
