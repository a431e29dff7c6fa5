use Rattle.std.proofs.Common.{List, [], ap, arith, get_or, length, lit<, map, sym, take, ℕ, ◌++◌, ◌+◌, ◌<◌, ◌∙◌, ◌∷◌, ◌≡◌, ◌≤◌}
use Rattle.std.proofs.lemmas.List.{length-map, length-take-le, map_push, take_all, take_more}
use Rattle.bk_verify_report.proofs.kept.flat_of.Goals as goal

-- one more of a list is pushed
pushed_more : {A B : Type 0} (xs : List A) (k : ℕ) (d : A) (f : A → B) (old new : List B) → k < length xs → new ≡ old ++ f (get_or xs k d) ∷ []
    → old ≡ map f (take k xs) → new ≡ map f (take (k + 1) xs)
pushed_more {A} {B} xs k d f old new below is so_far =
    is ∙ ap (λ (l : List B). l ++ f (get_or xs k d) ∷ []) so_far
    ∙ sym (ap (map f) (take_more xs k d below) ∙ map_push f (take k xs) (get_or xs k d))

-- all of it are pushed
pushed_all : {A B : Type 0} (xs ys : List A) (k : ℕ) (f : A → B) (all : List B) → length xs ≤ k → xs ≡ ys → all ≡ map f (take k xs) → all ≡ map f ys
pushed_all xs ys k f all none same so_far = so_far ∙ ap (map f) (take_all k xs none ∙ same)

pub loop-q-preserved : goal.loop-q-preserved
loop-q-preserved c =
    pushed_more c.squares-q-items.result.now c.loop-q.q-index _ (λ q. q.s) c.loop-q.sides.items c.push.new.self.items c.loop-q-test.true
    c.push.ensures.items c.loop-q.invariant

pub returns : goal.returns
returns c = record {
  tiling = c.squares-q-items.ensures.kept.tiling;
  width = c.width.ensures.value;
  sides =
      pushed_all c.squares-q-items.result.now c.args.tiling.now.squares c.loop-q.q-index (λ q. q.s) c.loop-q.sides.items c.loop-q-test.false
      c.squares-q-items.ensures.value c.loop-q.invariant;
}

pub new-sides-requires : goal.new-sides-requires
new-sides-requires c = lit< tt

pub loop-q-init : goal.loop-q-init
loop-q-init c = c.new-sides.ensures

pub offset_bounds-q-items-q-index : goal.offset_bounds-q-items-q-index
offset_bounds-q-items-q-index c = omega (arith, c.loop-q-test.true, ap length c.squares-q-items.ensures.value, c.requires)

-- as many are pushed as were read
pushed_count : {A B : Type 0} (xs : List A) (k : ℕ) (f : A → B) (all : List B) → k < length xs → all ≡ map f (take k xs) → length all ≡ k
pushed_count xs k f all below so_far =
    ap length so_far ∙ length-map (take k xs) f ∙ length-take-le k xs (omega (arith, below))

pub push-requires : goal.push-requires
push-requires c = (
  lit< tt,
  omega (
    arith,
    pushed_count c.squares-q-items.result.now c.loop-q.q-index (λ q. q.s) c.loop-q.sides.items c.loop-q-test.true c.loop-q.invariant,
    c.loop-q-test.true,
    ap length c.squares-q-items.ensures.value,
    c.requires,
  ),
)
