use Rattle.std.proofs.Common.{List, [], append-nil, ap, arith, drop, get_or, length, lit<, refl, sym, ℕ, ◌++◌, ◌+◌, ◌-◌, ◌<◌, ◌^◌, ◌∙◌, ◌∷◌, ◌≡◌, ◌≤◌}
use Rattle.std.proofs.lemmas.List.{append_assoc, at_drop_more, drop_all}
use Rattle.bk_tiling.specs.declared.Square.{Square}
use Rattle.bk_lay.specs.LevelRuns.{run_under, runs_under}
use Rattle.bk_lay.specs.declared.outline.LevelRun.{LevelRun}
use Rattle.bk_lay.proofs.SquaresAt.{holds_at}
use Rattle.bk_lay.proofs.outline.push_runs.Goals as goal

abbrev none : Square
none = record { x = 0; y = 0; s = 0 }

-- the run under one square more, which stands before the others
one_more : (right : List LevelRun) (squares : List Square) (i : ℕ) (d : Square) → 0 < i → i ≤ length squares
    → right ++ runs_under (drop i squares) ++ run_under (get_or squares (i - 1) d) ∷ [] ≡ right ++ runs_under (drop (i - 1) squares)
one_more right squares i d some within =
    let back : i ≡ i - 1 + 1 = omega (arith, some) in
    append_assoc right (runs_under (drop i squares)) (run_under (get_or squares (i - 1) d) ∷ [])
    ∙ ap (λ n. right ++ (runs_under (drop n squares) ++ run_under (get_or squares (i - 1) d) ∷ [])) back
    ∙ ap (λ (l : List LevelRun). right ++ l) (sym (at_drop_more runs_under squares (i - 1) d (omega (arith, some, within))))

pub loop-i-preserved : goal.loop-i-preserved
loop-i-preserved c = record {
  within = omega (arith, c.loop-i.invariant.within);
  count = omega (arith, c.loop-i.invariant.count, c.push.ensures.len, c.loop-i-test.true);
  items = c.push.ensures.items
      ∙ ap (λ (l : List LevelRun). l ++ run_under (get_or c.args.squares.now (c.loop-i.i - 1) none) ∷ []) c.loop-i.invariant.items
      ∙ one_more c.args.right.now.items c.args.squares.now c.loop-i.i none c.loop-i-test.true c.loop-i.invariant.within;
}

pub loop-i-init : goal.loop-i-init
loop-i-init c = record {
  within = omega arith;
  count = refl;
  items = sym (append-nil c.args.right.now.items)
      ∙ ap (λ (l : List Square). c.args.right.now.items ++ runs_under l) (sym (drop_all (length c.args.squares.now) c.args.squares.now (omega arith)));
}

pub bounds-squares-i : goal.bounds-squares-i
bounds-squares-i c = omega (arith, c.loop-i-test.true, c.loop-i.invariant.within)

pub overflow_add-q : goal.overflow_add-q
overflow_add-q c = omega (
  arith,
  holds_at (λ q. q.x + q.s < 2 ^ 64) c.args.squares.now (c.loop-i.i - 1) none c.requires.right
      (omega (arith, c.loop-i-test.true, c.loop-i.invariant.within)),
)

pub overflow_add-q-in-loop-i : goal.overflow_add-q-in-loop-i
overflow_add-q-in-loop-i c = omega (
  arith,
  holds_at (λ q. q.y + q.s < 2 ^ 64) c.args.squares.now (c.loop-i.i - 1) none c.requires.fit
      (omega (arith, c.loop-i-test.true, c.loop-i.invariant.within)),
)

pub push-requires : goal.push-requires
push-requires c = (lit< tt, omega (arith, c.loop-i.invariant.count, c.requires.room, c.loop-i-test.true))

pub returns : goal.returns
returns c =
    let done : c.loop-i.i ≡ 0 = omega (arith, c.loop-i-test.false) in
    c.loop-i.invariant.items ∙ ap (λ n. c.args.right.now.items ++ runs_under (drop n c.args.squares.now)) done
