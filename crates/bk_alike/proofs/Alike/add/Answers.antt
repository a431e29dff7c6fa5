use Rattle.std.specs.List.{position_or_len}
use Rattle.std.specs.Prelude.{Err, Ok, OnErr, Result, is_err, map, take, true}
use Rattle.std.proofs.Common.{List, [], ap, arith, length, refl, subst, sym, ℕ, ◌++◌, ◌<◌, ◌∙◌, ◌∷◌, ◌≡◌, ◌≤◌}
use Rattle.std.proofs.Math.Seq.{take-append_seam}
use Rattle.std.proofs.lemmas.Bool.{false≢true}
use Rattle.indexmap.specs.IndexMap.{keys, values}
use Rattle.bk_laws.proofs.Outcomes.{on_ok-apply}
use Rattle.bk_alike.specs.Alike.{size_eq, with_size}
use Rattle.bk_alike.specs.Grouped.{IsGrouped, with_place}
use Rattle.bk_alike.specs.declared.AddFault.{AddFault}
use Rattle.bk_alike.specs.declared.AddFault.TheVariants.{Full, NoMemory}
use Rattle.bk_alike.specs.declared.item.KeptItem.{KeptItem}
use Rattle.bk_alike.proofs.GroupingLaws.{grouped-push}
use Rattle.bk_alike.proofs.Alike.add.Goals as goal

-- what holds where a call failed holds of one that failed
on_err-apply : {T E : Type 0} (r : Result T E) (P : Type 0) → is_err r ≡ true → OnErr r P → P
on_err-apply (Ok x) P failed h = absurd (false≢true failed)
on_err-apply (Err e) P failed h = h

-- the sizes and groups that are stored for one more item
stored : (items pushed : List KeptItem) (x : KeptItem) (keys more_keys : List (ℕ × ℕ)) (groups more_groups : List (List ℕ)) (width height place : ℕ)
    → IsGrouped items keys groups → length items < 16384 → pushed ≡ items ++ x ∷ [] → width ≡ x.tiling.width → height ≡ x.tiling.height
    → place ≡ length items → more_keys ≡ with_size keys (width, height)
    → more_groups ≡ with_place groups (position_or_len (size_eq (width, height)) keys) place → IsGrouped pushed more_keys more_groups
stored items pushed x keys more_keys groups more_groups width height place grouped few p w h at k g =
    let size : (width, height) ≡ (x.tiling.width, x.tiling.height) = λ i. (w i, h i) in
    subst (λ (l : List KeptItem). IsGrouped l more_keys more_groups) (sym p)
    (grouped-push items x keys more_keys groups more_groups grouped few (k ∙ ap (with_size keys) size)
    (g ∙ (λ i. with_place groups (position_or_len (size_eq (size i)) keys) (at i))))

pub invariant_of-self-else-is_err-2 : goal.invariant_of-self-else-is_err-2
invariant_of-self-else-is_err-2 c =
    let grown = sym c.if-is_err-2.ensures.value in
    stored c.self.inside.items.items c.push_item.new.items.items (record { line = c.args.line; tiling = c.canonical-kept.result })
    (keys c.self.inside.groups) (keys c.put_in_group.new.groups)
    (map (λ group. group.items) (values c.self.inside.groups)) (map (λ group. group.items) (values c.put_in_group.new.groups))
    c.width.result c.height.result c.len-n.result c.self.invariant (omega (arith, c.if-n-ge-MOST_ITEMS.false, c.len-n.ensures))
    (on_ok-apply c.push_item.result _ (sym c.if-is_err.ensures.value) c.push_item.ensures.pushed) c.width.ensures.value c.height.ensures.value
    (omega (arith, c.len-n.ensures)) (on_ok-apply c.put_in_group.result _ grown c.put_in_group.ensures.sizes)
    (on_ok-apply c.put_in_group.result _ grown c.put_in_group.ensures.groups)

-- what was appended and cut off again
cut_back : (items pushed cut : List KeptItem) (x : KeptItem) (n : ℕ) → n ≡ length items → pushed ≡ items ++ x ∷ [] → cut ≡ take n pushed → cut ≡ items
cut_back items pushed cut x n at p e =
    e ∙ (λ i. take (at i) (p i)) ∙ take-append_seam items (x ∷ [])

pub invariant_of-self-then-is_err-2 : goal.invariant_of-self-then-is_err-2
invariant_of-self-then-is_err-2 c =
    let failed = sym c.if-is_err-2.ensures.value in
    let items = cut_back c.self.inside.items.items c.push_item.new.items.items c.truncate.new.self.items
    (record { line = c.args.line; tiling = c.canonical-kept.result }) c.len-n.result (omega (arith, c.len-n.ensures))
    (on_ok-apply c.push_item.result _ (sym c.if-is_err.ensures.value) c.push_item.ensures.pushed) c.truncate.ensures.items in
    let sizes = on_err-apply c.put_in_group.result _ failed c.put_in_group.ensures.same_sizes in
    let groups = on_err-apply c.put_in_group.result _ failed c.put_in_group.ensures.same_groups in
    subst (λ (t : List KeptItem × List (ℕ × ℕ) × List (List ℕ)). IsGrouped t.0 t.1 t.2) (λ i. (sym items i, sym sizes i, sym groups i)) c.self.invariant

pub returns-then-is_err-2-clause-unchanged : goal.returns-then-is_err-2-clause-unchanged
returns-then-is_err-2-clause-unchanged c =
    cut_back c.self.inside.items.items c.push_item.new.items.items c.truncate.new.self.items
    (record { line = c.args.line; tiling = c.canonical-kept.result }) c.len-n.result (omega (arith, c.len-n.ensures))
    (on_ok-apply c.push_item.result _ (sym c.if-is_err.ensures.value) c.push_item.ensures.pushed) c.truncate.ensures.items ∙ c.self.view_is

pub invariant_of-self : goal.invariant_of-self
invariant_of-self c =
    subst (λ (l : List KeptItem). IsGrouped l (keys c.self.inside.groups) (map (λ group. group.items) (values c.self.inside.groups)))
    (sym (on_err-apply c.push_item.result _ (sym c.if-is_err.ensures.value) c.push_item.ensures.same)) c.self.invariant

pub returns-then-is_err-clause-unchanged : goal.returns-then-is_err-clause-unchanged
returns-then-is_err-clause-unchanged c =
    on_err-apply c.push_item.result _ (sym c.if-is_err.ensures.value) c.push_item.ensures.same ∙ c.self.view_is

pub overflow_cast-n : goal.overflow_cast-n
overflow_cast-n c = omega (arith, c.len-n.ensures, c.self.invariant.few)

pub returns-clause-kept : goal.returns-clause-kept
returns-clause-kept c =
    let x : KeptItem = record { line = c.args.line; tiling = c.canonical-kept.result } in (
      c.canonical-kept.result,
      c.canonical-kept.ensures.canonical,
      on_ok-apply c.push_item.result _ (sym c.if-is_err.ensures.value) c.push_item.ensures.pushed
          ∙ ap (λ (l : List KeptItem). l ++ x ∷ []) c.self.view_is,
    )

-- there is room, and a result that isn't `Full` says so
not_full : {A : Type 0} (n : ℕ) → (A → ⊥) → n < 16384 → (A → 16384 ≤ n) × (16384 ≤ n → A)
not_full n other few = (λ e. absurd (other e), λ many. absurd (omega (arith, many, few)))

other_fault : ◌≡◌ {A = Result (Unit {0}) AddFault} (Err NoMemory) (Err Full) → ⊥
other_fault e = absurd (cc)

no_fault : ◌≡◌ {A = Result (Unit {0}) AddFault} (Ok tt) (Err Full) → ⊥
no_fault e = absurd (cc)

pub returns-then-n-ge-MOST_ITEMS-clause-full : goal.returns-then-n-ge-MOST_ITEMS-clause-full
returns-then-n-ge-MOST_ITEMS-clause-full c = (
  λ _. omega (arith, c.if-n-ge-MOST_ITEMS.true, c.len-n.ensures, ap (λ (l : List KeptItem). length l) c.self.view_is),
  λ _. refl,
)

pub returns-then-is_err-clause-full : goal.returns-then-is_err-clause-full
returns-then-is_err-clause-full c =
    not_full (length c.args.self.now) other_fault
    (omega (arith, c.if-n-ge-MOST_ITEMS.false, c.len-n.ensures, ap (λ (l : List KeptItem). length l) c.self.view_is))

pub returns-then-is_err-2-clause-full : goal.returns-then-is_err-2-clause-full
returns-then-is_err-2-clause-full c =
    not_full (length c.args.self.now) other_fault
    (omega (arith, c.if-n-ge-MOST_ITEMS.false, c.len-n.ensures, ap (λ (l : List KeptItem). length l) c.self.view_is))

pub returns-clause-full : goal.returns-clause-full
returns-clause-full c =
    not_full (length c.args.self.now) no_fault
    (omega (arith, c.if-n-ge-MOST_ITEMS.false, c.len-n.ensures, ap (λ (l : List KeptItem). length l) c.self.view_is))

pub returns-then-n-ge-MOST_ITEMS-clause-unchanged : goal.returns-then-n-ge-MOST_ITEMS-clause-unchanged
returns-then-n-ge-MOST_ITEMS-clause-unchanged c = refl
