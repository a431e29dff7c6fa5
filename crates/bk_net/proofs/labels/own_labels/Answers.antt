-- The labels that the loop builds: each node's own number.
use Rattle.std.proofs.Common.{List, [], ap, arith, inl, inr, length, ℕ, ◌++◌, ◌+◌, ◌<◌, ◌∙◌, ◌∷◌, ◌≡◌, ◌≤◌, ◌⊎◌}
use Rattle.std.specs.Prelude.{slice_index}
use Rattle.std.proofs.lemmas.Bool.{cases_lt}
use Rattle.std.proofs.lemmas.List.{get_or_append_left, get_or_push, length-append}
use Rattle.bk_net.proofs.labels.own_labels.Goals as goal

-- with one more number at the end
own_more : (labels more : List ℕ) (v : ℕ) → more ≡ labels ++ v ∷ [] → length labels ≡ v → ((u : ℕ) → u < v → slice_index labels u ≡ u)
    → (u : ℕ) → u < v + 1 → slice_index more u ≡ u
own_more labels more v are many own u h = ap (λ (l : List ℕ). slice_index l u) are ∙ cases (cases_lt u v)
  where
    cases : (u < v) ⊎ (v ≤ u) → slice_index (labels ++ v ∷ []) u ≡ u
    cases (inl l) = get_or_append_left labels (v ∷ []) 0 u (omega (arith, l, many)) ∙ own u l
    cases (inr l) = let same : v ≡ u = omega (arith, h, l) in get_or_push labels v 0 u (many ∙ same) ∙ same

pub new-labels-requires : goal.new-labels-requires
new-labels-requires c = omega arith

pub loop-v-init : goal.loop-v-init
loop-v-init c = record { many = ap length c.new-labels.ensures; own = λ u h. absurd (omega (arith, h)) }

pub push-requires : goal.push-requires
push-requires c = (omega arith, omega (arith, c.loop-v.invariant.many, c.loop-v-test.true, c.requires))

pub loop-v-preserved : goal.loop-v-preserved
loop-v-preserved c = record {
  many = omega (arith, ap length c.push.ensures.items, length-append c.loop-v.labels.items (c.loop-v.v ∷ []), c.loop-v.invariant.many);
  own = own_more c.loop-v.labels.items c.push.new.self.items c.loop-v.v c.push.ensures.items c.loop-v.invariant.many c.loop-v.invariant.own;
}

pub returns-clause-many : goal.returns-clause-many
returns-clause-many c = omega (arith, c.loop-v.invariant.many, c.loop-v-test.false, c.loop-v.auto.v-end)

pub returns-clause-own : goal.returns-clause-own
returns-clause-own c = λ v h. c.loop-v.invariant.own v (omega (arith, h, c.loop-v-test.false))
