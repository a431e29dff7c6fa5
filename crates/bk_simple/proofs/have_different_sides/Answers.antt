use Rattle.std.specs.Prelude.{AllPairs, IsTrue, ◌↔◌, ◌≢◌}
use Rattle.std.proofs.Common.{List, ap, map, subst, ℕ, ◌∙◌, ◌≡◌}
use Rattle.std.proofs.lemmas.List.{take_all}
use Rattle.bk_simple.proofs.DifferentNumbers.{sides_differ}
use Rattle.bk_simple.proofs.have_different_sides.Goals as goal

pub returns : goal.returns
returns c =
    let sides : c.as_slice.result.now ≡ map (λ q. q.s) c.args.squares.now = c.as_slice.ensures.value ∙ c.loop-q.invariant.read
    ∙ ap (map (λ q. q.s)) (take_all c.loop-q.q-index c.args.squares.now c.loop-q-test.false) in
    let differ : IsTrue c.are_different.result ↔ AllPairs ◌≢◌ (map (λ q. q.s) c.args.squares.now) =
    subst (λ (xs : List ℕ). IsTrue c.are_different.result ↔ AllPairs ◌≢◌ xs) sides c.are_different.ensures in
    let same = sides_differ c.args.squares.now in
    (λ e. same.0 (differ.0 e), λ apart. differ.1 (same.1 apart))
