use Rattle.std.proofs.lemmas.Grind.{common_steps}
use Rattle.std.proofs.Common.{append-nil, ap, arith, Bool, List, cond, count_by, false, filter, lit<, refl, sym, take, take_all, true, ℕ}
use Rattle.std.proofs.Common.{◌++◌, ◌+◌, ◌-◌, ◌<◌, ◌∙◌, ◌≡◌, ◌≤◌}
use Rattle.std.proofs.lemmas.List.{drop_all}
use Rattle.std.proofs.lemmas.List.Sums.{count_by_more_yes, sum_by-take-le}
use Rattle.bk_word.specs.Play.{parts}
use Rattle.bk_word.specs.declared.Sign.{Sign}
use Rattle.bk_word.specs.declared.Sign.TheVariants.{Above}
use Rattle.bk_play.specs.Skeleton.{joined_sizes}
use Rattle.bk_play.proofs.small.push_parted.Goals as goal

-- no more signs stay of the first ones than of all
fewer : (moved : List Sign) (i : ℕ) → count_by parts (take i moved) ≤ count_by parts moved
fewer moved i = sum_by-take-le (λ (s : Sign). cond {A = ℕ} (parts s) 1 0) moved i

-- a size to which the next one is added is small
joined_small : (b : Bool) (size n i last next : ℕ) → next ≡ cond b last 1 → size + (n - i) + last < 256 → i < n → size + next < 256
joined_small true size n i last next e small within = omega arith
joined_small false size n i last next e small within = omega arith

pub loop-i-init : goal.loop-i-init
loop-i-init c = record {
  sizes_long = omega arith;
  signs_long = omega arith;
  small = λ _. omega (arith, c.requires.small);
  ended = λ _. omega (arith, c.requires.small);
  sizes_put = refl;
  signs_put = sym (append-nil c.args.signs.now.items);
}

pub bounds-moved-i : goal.bounds-moved-i
bounds-moved-i c = c.loop-i-test.true

pub push-requires : goal.push-requires
push-requires c = (lit< tt, omega (arith, c.loop-i.invariant.sizes_long, c.requires.sizes_fit, fewer c.args.moved.now c.loop-i.i))

pub push-requires-then-parts : goal.push-requires-then-parts
push-requires-then-parts c = (
  lit< tt,
  omega (
    arith,
    c.loop-i.invariant.signs_long,
    c.requires.signs_fit,
    count_by_more_yes parts c.args.moved.now c.loop-i.i Above c.loop-i-test.true (sym c.parts.ensures ∙ c.if-parts.true),
    fewer c.args.moved.now (c.loop-i.i + 1),
  ),
)

pub overflow_add-size : goal.overflow_add-size
overflow_add-size c = omega (
  arith,
  joined_small _ _ _ _ _ _ c.size_of_next-next.ensures (c.loop-i.invariant.small c.loop-i-test.true) c.loop-i-test.true,
)

pub push-requires-2 : goal.push-requires-2
push-requires-2 c = (lit< tt, omega (arith, c.loop-i.invariant.sizes_long, c.requires.sizes_fit, fewer c.args.moved.now c.loop-i.i))

pub returns-clause-sizes : goal.returns-clause-sizes
returns-clause-sizes c =
    c.push-2.ensures ∙ ap (λ (l : List Sign). c.loop-i.sizes.items ++ joined_sizes c.loop-i.size c.args.last l)
    (sym (drop_all c.loop-i.i c.args.moved.now c.loop-i-test.false))
    ∙ sym c.loop-i.invariant.sizes_put

pub returns-clause-signs : goal.returns-clause-signs
returns-clause-signs c = c.loop-i.invariant.signs_put
    ∙ ap (λ (l : List Sign). c.args.signs.now.items ++ filter parts l) (take_all c.loop-i.i c.args.moved.now c.loop-i-test.false)

pub loop-i-preserved : goal.loop-i-preserved
loop-i-preserved c = grind (arith, common_steps)
