use Rattle.std.proofs.Common.{List, [], ap, append_assoc, arith, drop, le_refl, length, length-append, length-drop, length-set, subst, sym, take, ℕ, ◌++◌}
use Rattle.std.proofs.Common.{◌+◌, ◌-◌, ◌<◌, ◌∙◌, ◌∷◌, ◌≡◌, ◌≤◌}
use Rattle.std.specs.List.{AllByRecursion}
use Rattle.std.specs.Prelude.{slice_index_or, slice_set}
use Rattle.std.proofs.lemmas.List.{drop-set-lt, drop_at, length-take-le, take_all, take_at, take_more_set}
use Rattle.std.proofs.lemmas.List.Elements.{All-from_recursion}
use Rattle.bk_tiling.specs.KeptTiling.{IsSide}
use Rattle.bk_profile.specs.OutlineRuns.{run_under_side, runs_under_group}
use Rattle.bk_profile.specs.declared.runs.OutlineRun.{OutlineRun}
use Rattle.bk_profile.proofs.runs.hang.Goals as goal

-- the run under the first square set in the place of the first run, the others taken out, and those under the other squares put in
hung : (runs one mid new : List OutlineRun) (sides : List ℕ) (first end level : ℕ) → first < end → end ≤ length runs → 0 < length sides
    → one ≡ slice_set runs first (run_under_side level (slice_index_or sides 0 0)) → mid ≡ take (first + 1) one ++ drop end one
    → new ≡ (take (first + 1) mid ++ runs_under_group level (take (length sides - 1) (drop 1 sides))) ++ drop (first + 1) mid
    → new ≡ (take first runs ++ runs_under_group level sides) ++ drop end runs
hung runs one mid new [] first end level order within some is_one is_mid is_new = absurd (omega arith)
hung runs one mid new (s ∷ rest) first end level order within some is_one is_mid is_new =
    let r : OutlineRun = run_under_side level s in
    let front : take (first + 1) one ≡ take first runs ++ r ∷ [] = ap (take (first + 1)) is_one ∙ take_more_set runs first r (omega arith) in
    let back : drop end one ≡ drop end runs = ap (drop end) is_one ∙ drop-set-lt end runs first r order in
    let whole : mid ≡ (take first runs ++ r ∷ []) ++ drop end runs = is_mid ∙ (λ i. front i ++ back i) in
    let size : length (take first runs ++ r ∷ []) ≡ first + 1 =
    omega (arith, length-append (take first runs) (r ∷ []), length-take-le first runs (omega arith)) in
    let left : take (first + 1) mid ≡ take first runs ++ r ∷ [] =
    ap (take (first + 1)) whole ∙ take_at (take first runs ++ r ∷ []) (drop end runs) (first + 1) size in
    let right : drop (first + 1) mid ≡ drop end runs =
    ap (drop (first + 1)) whole ∙ drop_at (take first runs ++ r ∷ []) (drop end runs) (first + 1) size in
    let others : take (length (s ∷ rest) - 1) rest ≡ rest = take_all (length (s ∷ rest) - 1) rest (omega arith) in
    is_new ∙ (λ i. (left i ++ runs_under_group level (others i)) ++ right i)
    ∙ ap (λ (z : List OutlineRun). z ++ drop end runs) (append_assoc (take first runs) (r ∷ []) (runs_under_group level rest))

-- how many runs there are without those taken out
left_over : (runs one mid : List OutlineRun) (r : OutlineRun) (first end : ℕ) → first < end → end ≤ length runs → one ≡ slice_set runs first r
    → mid ≡ take (first + 1) one ++ drop end one → length mid + end ≡ length runs + first + 1
left_over runs one mid r first end order within is_one is_mid =
    let same : length one ≡ length runs = ap length is_one ∙ length-set runs first r in
    omega (
      arith,
      order,
      within,
      same,
      ap length is_mid,
      length-append (take (first + 1) one) (drop end one),
      length-take-le (first + 1) one (omega (arith, order, within, same)),
      length-drop end one,
    )

-- the squares behind the first one
others_are : (sides : List ℕ) → take (length sides - 1) (drop 1 sides) ≡ drop 1 sides
others_are sides = take_all (length sides - 1) (drop 1 sides) (omega (arith, length-drop 1 sides))

others_length : (sides : List ℕ) → length (take (length sides - 1) (drop 1 sides)) ≡ length sides - 1
others_length sides = ap length (others_are sides) ∙ length-drop 1 sides

others_sides : (sides : List ℕ) → AllByRecursion IsSide sides → AllByRecursion IsSide (take (length sides - 1) (drop 1 sides))
others_sides [] good = tt
others_sides (s ∷ sides) good = subst (AllByRecursion IsSide) (sym (others_are (s ∷ sides))) good.1

pub returns : goal.returns
returns c =
    hung c.args.outline.now.items c.set_run.new.outline.items c.take_out.new.outline.items c.put_in.new.outline.items c.args.sides.now c.args.first
    c.args.end c.args.level c.requires.order c.requires.within c.requires.some c.set_run.ensures c.take_out.ensures c.put_in.ensures

pub bounds-sides-0 : goal.bounds-sides-0
bounds-sides-0 c = c.requires.some

pub set_run-requires-clause-place : goal.set_run-requires-clause-place
set_run-requires-clause-place c = omega (arith, c.requires.order, c.requires.within)

pub set_run-requires-clause-fits : goal.set_run-requires-clause-fits
set_run-requires-clause-fits c = omega (arith, c.requires.high, All-from_recursion IsSide c.args.sides.now c.requires.sides 0 0 c.requires.some)

pub overflow_add-first : goal.overflow_add-first
overflow_add-first c = omega (arith, c.requires.order, c.ranges.end)

pub take_out-requires-clause-order : goal.take_out-requires-clause-order
take_out-requires-clause-order c = omega (arith, c.requires.order)

pub take_out-requires-clause-within : goal.take_out-requires-clause-within
take_out-requires-clause-within c = omega (arith, c.requires.within, ap length c.set_run.ensures, length-set {A = OutlineRun})

pub overflow_add-first-2 : goal.overflow_add-first-2
overflow_add-first-2 c = omega (arith, c.requires.order, c.ranges.end)

pub slice_bounds-put_in-count : goal.slice_bounds-put_in-count
slice_bounds-put_in-count c = c.requires.some

pub slice_bounds-put_in-start : goal.slice_bounds-put_in-start
slice_bounds-put_in-start c = c.requires.some

pub slice_bounds-put_in-end : goal.slice_bounds-put_in-end
slice_bounds-put_in-end c = le_refl (length c.args.sides.now)

pub put_in-requires-clause-place : goal.put_in-requires-clause-place
put_in-requires-clause-place c =
    omega (
      arith,
      left_over c.args.outline.now.items c.set_run.new.outline.items c.take_out.new.outline.items
          (run_under_side c.args.level (slice_index_or c.args.sides.now 0 0))
          c.args.first c.args.end c.requires.order c.requires.within c.set_run.ensures c.take_out.ensures,
      c.requires.within,
    )

pub put_in-requires-clause-room : goal.put_in-requires-clause-room
put_in-requires-clause-room c =
    omega (
      arith,
      left_over c.args.outline.now.items c.set_run.new.outline.items c.take_out.new.outline.items
          (run_under_side c.args.level (slice_index_or c.args.sides.now 0 0))
          c.args.first c.args.end c.requires.order c.requires.within c.set_run.ensures c.take_out.ensures,
      others_length c.args.sides.now,
      c.requires.some,
      c.requires.order,
      c.requires.room,
    )

pub put_in-requires-clause-high : goal.put_in-requires-clause-high
put_in-requires-clause-high c = c.requires.high

pub put_in-requires-clause-sides : goal.put_in-requires-clause-sides
put_in-requires-clause-sides c = others_sides c.args.sides.now c.requires.sides
