use Rattle.std.specs.List.{AllByRecursion}
use Rattle.std.specs.Prelude.{length, ◌*◌, ◌+◌, ◌≤◌}
use Rattle.std.proofs.Common.{List, [], ap, append-nil, arith, get_or, subst, suc, sym, take_all, zero, ℕ, ◌++◌, ◌<◌, ◌∙◌, ◌∷◌}
use Rattle.bk_code.specs.KeptCode.{IsSideGroup}
use Rattle.bk_tiling.specs.KeptTiling.{IsSide}
use Rattle.bk_text.specs.CodeText.{code_text}
use Rattle.bk_text.proofs.Spelling.{room_for_group, short_kept}
use Rattle.bk_text.proofs.writer.write_code.Goals as goal

-- each group of a code is one
group_at : (code : List (List ℕ)) (i : ℕ) → AllByRecursion IsSideGroup code → i < length code → IsSideGroup (get_or code i [])
group_at [] i groups within = absurd (omega arith)
group_at (g ∷ code) zero groups within = groups.0
group_at (g ∷ code) (suc i) groups within = group_at code i groups.1 (omega arith)

pub spell_group-requires-clause-room : goal.spell_group-requires-clause-room
spell_group-requires-clause-room c =
    subst (λ (g : List ℕ). length c.loop-g.line.items + 17 * length g ≤ 9000) (sym c.group.ensures)
    (room_for_group c.args.code.now c.args.line.now.items c.loop-g.line.items c.loop-g.g c.groups-g-end.ensures.kept c.requires.room
    c.loop-g.invariant (omega arith))

pub returns-clause-short : goal.returns-clause-short
returns-clause-short c = short_kept c.args.code.now c.groups-g-end.ensures.kept

pub loop-g-init : goal.loop-g-init
loop-g-init c = sym (append-nil c.args.line.now.items)

pub group-requires : goal.group-requires
group-requires c = omega (arith, c.loop-g-test.true, c.groups-g-end.ensures.value)

pub spell_group-requires-clause-some : goal.spell_group-requires-clause-some
spell_group-requires-clause-some c =
    subst (λ (g : List ℕ). 0 < length g) (sym c.group.ensures) (group_at c.args.code.now c.loop-g.g c.groups-g-end.ensures.kept.groups
    (omega (arith, c.loop-g-test.true, c.groups-g-end.ensures.value))).0

pub spell_group-requires-clause-sides : goal.spell_group-requires-clause-sides
spell_group-requires-clause-sides c =
    subst (λ (g : List ℕ). AllByRecursion IsSide g) (sym c.group.ensures) (group_at c.args.code.now c.loop-g.g c.groups-g-end.ensures.kept.groups
    (omega (arith, c.loop-g-test.true, c.groups-g-end.ensures.value))).1

pub returns-clause-text : goal.returns-clause-text
returns-clause-text c = c.loop-g.invariant ∙ ap (λ (l : List (List ℕ)). c.args.line.now.items ++ code_text l)
    (take_all c.loop-g.g c.args.code.now (omega (arith, c.loop-g-test.false, c.groups-g-end.ensures.value)))
