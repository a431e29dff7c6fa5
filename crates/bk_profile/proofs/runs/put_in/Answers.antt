use Rattle.std.proofs.Common.{List, [], add-zero, ap, append-nil, append_assoc, arith, drop, get_or, insert, length, length-append, lit<, sym, take, ℕ, ◌++◌}
use Rattle.std.proofs.Common.{◌+◌, ◌<◌, ◌∙◌, ◌∷◌, ◌≡◌, ◌≤◌}
use Rattle.std.proofs.lemmas.List.{drop_at, length-take-le, map-append, take-append-drop, take_all, take_at, take_more}
use Rattle.bk_profile.proofs.Hanging.{length_under}
use Rattle.bk_profile.specs.OutlineRuns.{run_under_side, runs_under_group}
use Rattle.bk_profile.specs.declared.runs.OutlineRun.{OutlineRun}
use Rattle.std.proofs.lemmas.List.Elements.{All-from_recursion}
use Rattle.bk_tiling.specs.KeptTiling.{IsSide}
use Rattle.bk_profile.proofs.runs.put_in.Goals as goal

-- one run more
put_in_more : (old now new : List OutlineRun) (sides : List ℕ) (first i level : ℕ) → first ≤ length old → i < length sides
    → now ≡ (take first old ++ runs_under_group level (take i sides)) ++ drop first old
    → new ≡ insert now (first + i) (run_under_side level (get_or sides i 0))
    → new ≡ (take first old ++ runs_under_group level (take (i + 1) sides)) ++ drop first old
put_in_more old now new sides first i level place more is inserted =
    let r : OutlineRun = run_under_side level (get_or sides i 0) in
    let before : List OutlineRun = take first old ++ runs_under_group level (take i sides) in
    let size : length before ≡ first + i =
    omega (
      arith,
      length-append (take first old) (runs_under_group level (take i sides)),
      length-take-le first old place,
      length_under level (take i sides),
      length-take-le i sides (omega (arith, more)),
    ) in
    let left : take (first + i) now ≡ before = ap (take (first + i)) is ∙ take_at before (drop first old) (first + i) size in
    let right : drop (first + i) now ≡ drop first old = ap (drop (first + i)) is ∙ drop_at before (drop first old) (first + i) size in
    let under : runs_under_group level (take (i + 1) sides) ≡ runs_under_group level (take i sides) ++ r ∷ [] =
    ap (λ l. runs_under_group level l) (take_more sides i 0 more)
    ∙ map-append (run_under_side level) (take i sides) (get_or sides i 0 ∷ []) in
    inserted ∙ (λ k. left k ++ r ∷ right k) ∙ sym (append_assoc before (r ∷ []) (drop first old))
    ∙ ap (λ l. l ++ drop first old) (append_assoc (take first old) (runs_under_group level (take i sides)) (r ∷ []) ∙ ap (λ l. take first old ++ l) (sym under))

pub returns : goal.returns
returns c =
    c.loop-i.invariant.items
    ∙ ap (λ (xs : List ℕ). (take c.args.first c.args.outline.now.items ++ runs_under_group c.args.level xs) ++ drop c.args.first c.args.outline.now.items)
    (take_all c.loop-i.i c.args.sides.now c.loop-i-test.false)

pub bounds-sides-i : goal.bounds-sides-i
bounds-sides-i c = c.loop-i-test.true

pub overflow_add-level : goal.overflow_add-level
overflow_add-level c = omega (arith, c.requires.high, All-from_recursion IsSide c.args.sides.now c.requires.sides c.loop-i.i 0 c.loop-i-test.true)

pub loop-i-init : goal.loop-i-init
loop-i-init c = record {
  count = sym (add-zero (length c.args.outline.now.items));
  items = sym (ap (λ l. l ++ drop c.args.first c.args.outline.now.items) (append-nil (take c.args.first c.args.outline.now.items))
      ∙ take-append-drop c.args.first c.args.outline.now.items);
}

pub offset_bounds-sides-i : goal.offset_bounds-sides-i
offset_bounds-sides-i c = omega (arith, c.loop-i-test.true, c.requires.room)

pub overflow_add-first : goal.overflow_add-first
overflow_add-first c = omega (arith, c.loop-i-test.true, c.requires.place, c.requires.room)

pub insert-requires : goal.insert-requires
insert-requires c = (
  lit< tt,
  (
    omega (arith, c.loop-i.invariant.count, c.requires.place),
    omega (arith, c.loop-i.invariant.count, c.loop-i-test.true, c.requires.room),
  ),
)

pub loop-i-preserved : goal.loop-i-preserved
loop-i-preserved c = record {
  count = omega (arith, c.insert.ensures.len, c.loop-i.invariant.count);
  items = put_in_more c.args.outline.now.items c.loop-i.outline.items c.insert.new.self.items c.args.sides.now c.args.first c.loop-i.i c.args.level
      c.requires.place c.loop-i-test.true c.loop-i.invariant.items c.insert.ensures.items;
}
