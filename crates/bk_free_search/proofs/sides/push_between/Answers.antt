use Rattle.std.proofs.Common.{List, [], ap, arith, length, length-append, lit<, ℕ, ◌++◌, ◌+◌, ◌-◌, ◌∙◌, ◌∷◌, ◌≡◌}
use Rattle.bk_word.specs.Play.{numbers_from}
use Rattle.bk_free_search.proofs.Boards.LeftLines.{last_left, next_left}
use Rattle.bk_free_search.proofs.sides.push_between.Goals as goal

pub others-init : goal.others-init
others-init c = record {
  items = let two : c.args.hung + 1 + 1 ≡ c.args.hung + 2 = omega arith in ap (λ k. c.args.lines.now.items ++ numbers_from k (c.args.count - 1)) two;
  long = omega arith;
}

pub push-requires : goal.push-requires
push-requires c = (lit< tt, omega (arith, c.others.invariant.long, c.requires.fits, c.others-test.true))

pub others-preserved : goal.others-preserved
others-preserved c = record {
  items = ap (λ l. l ++ numbers_from (c.args.hung + (c.others.k + 1) + 1) (c.args.count - (c.others.k + 1))) c.push.ensures
      ∙ next_left c.others.lines.items c.args.hung c.others.k c.args.count
      (c.args.lines.now.items ++ numbers_from (c.args.hung + 2) (c.args.count - 1)) c.others-test.true c.others.invariant.items;
  long = omega (
    arith,
    c.others.invariant.long,
    ap (λ (l : List ℕ). length l) c.push.ensures,
    length-append c.others.lines.items ((c.args.hung + c.others.k + 1) ∷ []),
  );
}

pub returns : goal.returns
returns c = last_left c.others.lines.items c.args.hung c.others.k c.args.count
    (c.args.lines.now.items ++ numbers_from (c.args.hung + 2) (c.args.count - 1)) (omega (arith, c.others-test.false)) c.others.invariant.items
