use Rattle.std.proofs.Common.{Bool, List, [], ap, arith, cond, false, get_or, length, map, refl, subst, sym, true, ℕ, ◌++◌, ◌+◌, ◌-◌, ◌<◌, ◌∙◌, ◌∷◌, ◌≡◌}
use Rattle.std.proofs.lemmas.List.{take_all}
use Rattle.bk_tiling.specs.CodeOrder.{begins_group}
use Rattle.bk_tiling.specs.SquareGroups.{square_groups}
use Rattle.bk_tiling.specs.declared.Square.{Square}
use Rattle.bk_net.proofs.Hanging.{AreKnown, groups_before, known_more, more_levels}
use Rattle.bk_net.specs.Diagram.{group_level}
use Rattle.bk_net.specs.GroupNumbers.{group_numbers}
use Rattle.bk_net.proofs.diagram.groups_of.Goals.{else-begins_group, then-begins_group}
use Rattle.bk_net.proofs.diagram.groups_of.Goals as goal

abbrev nowhere : Square
nowhere = record { x = 0; y = 0; s = 0 }

-- what the code holds after a further square
step : (squares all : List Square) (i : ℕ) (levels nodes more : List ℕ) (groups count : ℕ) (after : List ℕ) (b : Bool) → squares ≡ all
    → i < length squares → b ≡ begins_group all i → AreKnown squares i levels nodes groups
    → more ≡ more_levels b levels (get_or squares i nowhere).y → count ≡ cond {A = ℕ} b (groups + 1) groups → after ≡ nodes ++ (count - 1) ∷ []
    → AreKnown squares (i + 1) more after count
step squares all i levels nodes more groups count after b same within begins known m c a =
    subst (λ (l : List ℕ). AreKnown squares (i + 1) l after count) (sym m)
    (subst (λ (l : List ℕ). AreKnown squares (i + 1) (more_levels b levels (get_or squares i nowhere).y) l count)
    (sym (a ∙ ap (λ (k : ℕ). nodes ++ (k - 1) ∷ []) c))
    (subst (λ (k : ℕ). AreKnown squares (i + 1) (more_levels b levels (get_or squares i nowhere).y) (nodes ++ (cond b (groups + 1) groups - 1) ∷ []) k) (sym c)
    (known_more squares i nowhere levels nodes groups b within (begins ∙ ap (λ (l : List Square). begins_group l i) (sym same)) known)))

pub loop-i-preserved : goal.loop-i-preserved
loop-i-preserved c = elim c.if-begins_group.branch [
  | then-begins_group w ↦ step c.squares-squares.result.now c.args.tiling.now.squares c.loop-i.i c.loop-i.levels.items c.loop-i.nodes.items
      c.if-begins_group.levels.items c.loop-i.groups c.if-begins_group.groups c.push-in-loop-i.new.self.items true
      c.squares-squares.ensures.value c.loop-i-test.true (sym w.if-begins_group.true ∙ c.begins_group.ensures) c.loop-i.invariant
      (ap (λ v. v.items) w.levels-is ∙ w.push.ensures.items) w.groups-is c.push-in-loop-i.ensures.items
  | else-begins_group w ↦ step c.squares-squares.result.now c.args.tiling.now.squares c.loop-i.i c.loop-i.levels.items c.loop-i.nodes.items
      c.if-begins_group.levels.items c.loop-i.groups c.if-begins_group.groups c.push-in-loop-i.new.self.items false
      c.squares-squares.ensures.value c.loop-i-test.true (sym w.if-begins_group.false ∙ c.begins_group.ensures) c.loop-i.invariant
      (ap (λ v. v.items) w.levels-is) w.groups-is c.push-in-loop-i.ensures.items
]

pub new-levels-requires : goal.new-levels-requires
new-levels-requires c = omega arith

pub new-nodes-requires : goal.new-nodes-requires
new-nodes-requires c = omega arith

pub loop-i-init : goal.loop-i-init
loop-i-init c = record {
  are = record { levels_are = c.new-levels.ensures; nodes_are = c.new-nodes.ensures; groups_are = refl };
  few = omega arith;
  levels_many = ap length c.new-levels.ensures;
  nodes_many = ap length c.new-nodes.ensures;
}

pub offset_bounds-squares-i : goal.offset_bounds-squares-i
offset_bounds-squares-i c = let kept = c.squares-squares.ensures.kept in
    omega (arith, c.loop-i-test.true, ap length c.squares-squares.ensures.value, kept.few)

pub bounds-squares-i : goal.bounds-squares-i
bounds-squares-i c = c.loop-i-test.true

pub begins_group-requires : goal.begins_group-requires
begins_group-requires c = subst (λ (l : List Square). c.loop-i.i < length l) c.squares-squares.ensures.value c.loop-i-test.true

pub push-requires : goal.push-requires
push-requires c = let kept = c.squares-squares.ensures.kept in let known = c.loop-i.invariant in
    (omega arith, omega (arith, known.levels_many, known.few, c.loop-i-test.true, ap length c.squares-squares.ensures.value, kept.few))

pub overflow_add-groups : goal.overflow_add-groups
overflow_add-groups c = let kept = c.squares-squares.ensures.kept in let known = c.loop-i.invariant in
    omega (arith, known.few, c.loop-i-test.true, ap length c.squares-squares.ensures.value, kept.few)

pub overflow_sub-groups : goal.overflow_sub-groups
overflow_sub-groups c = elim c.if-begins_group.branch [
  | then-begins_group w ↦ omega (arith, w.groups-is)
  | else-begins_group w ↦ omega (
    arith,
    w.groups-is,
    c.loop-i.invariant.are.groups_are,
    groups_before c.squares-squares.result.now c.loop-i.i c.loop-i-test.true (ap (λ (l : List Square). begins_group l c.loop-i.i)
        c.squares-squares.ensures.value ∙ sym c.begins_group.ensures ∙ w.if-begins_group.false),
  )
]

pub push-requires-in-loop-i : goal.push-requires-in-loop-i
push-requires-in-loop-i c = let kept = c.squares-squares.ensures.kept in
    (omega arith, omega (arith, c.loop-i.invariant.nodes_many, c.loop-i-test.true, ap length c.squares-squares.ensures.value, kept.few))

pub returns-clause-levels : goal.returns-clause-levels
returns-clause-levels c =
    c.loop-i.invariant.are.levels_are
    ∙ ap (λ (l : List Square). map group_level (square_groups l))
    (take_all c.loop-i.i c.squares-squares.result.now (omega (arith, c.loop-i-test.false)) ∙ c.squares-squares.ensures.value)

pub returns-clause-nodes : goal.returns-clause-nodes
returns-clause-nodes c =
    c.loop-i.invariant.are.nodes_are
    ∙ ap group_numbers (take_all c.loop-i.i c.squares-squares.result.now (omega (arith, c.loop-i-test.false)) ∙ c.squares-squares.ensures.value)
