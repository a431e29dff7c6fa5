use Rattle.std.proofs.Common.{Contains, arith, inl, inr, refl, slice_index, subst, take, ◌↔◌, ◌≡◌}
use Rattle.std.proofs.lemmas.List.{take_all}
use Rattle.bk_packed.proofs.BroughtForward.{step_more, step_same}
use Rattle.bk_packed.proofs.sorting.bring_forward.Goals as goal
use Rattle.bk_packed.proofs.sorting.bring_forward.Goals.{then-count-eq0, then-count-eq0-via-then-count-eq0}
use Rattle.bk_packed.proofs.sorting.bring_forward.Goals.{then-count-eq0-via-else-count-eq0+then-numbers-count, else-count-eq0+else-numbers-count}

pub numbers-preserved : goal.numbers-preserved
numbers-preserved c =
    let old = c.args.numbers.now in
    let now = c.numbers.numbers in
    let number = slice_index now c.numbers.i in
    elim c.if-count-eq0.branch [
      | then-count-eq0 w ↦
          elim w.then-count-eq0.branch [
            | then-count-eq0-via-then-count-eq0 w' ↦ step_more old now c.if-count-eq0.numbers c.numbers.count c.if-count-eq0.count c.numbers.i number
                c.numbers.invariant c.requires c.numbers-test.true refl w.numbers-is w.count-is (inl w'.if-count-eq0.true)
            | then-count-eq0-via-else-count-eq0+then-numbers-count w' ↦
                step_more old now c.if-count-eq0.numbers c.numbers.count c.if-count-eq0.count c.numbers.i number
                c.numbers.invariant c.requires c.numbers-test.true refl w.numbers-is w.count-is (inr (
                  omega
                      (arith, w'.if-count-eq0.false),
                  w'.if-numbers-count.true,
                ))
          ]
      | else-count-eq0+else-numbers-count w ↦ step_same old now c.if-count-eq0.numbers c.numbers.count c.if-count-eq0.count c.numbers.i number
          c.numbers.invariant c.requires c.numbers-test.true refl w.numbers-is w.count-is (omega (arith, w.if-count-eq0.false)) w.if-numbers-count.false
    ]

pub returns-clause-same : goal.returns-clause-same
returns-clause-same c x =
    let b = c.numbers.invariant in
    let all : take c.numbers.i c.args.numbers.now ≡ c.args.numbers.now = take_all c.numbers.i c.args.numbers.now (omega
    (arith, c.numbers-test.false, b.long)) in
    subst (λ l. Contains (take c.numbers.count c.numbers.numbers) x ↔ Contains l x) all (b.same x)
