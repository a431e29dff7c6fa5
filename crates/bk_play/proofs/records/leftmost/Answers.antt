-- The leftmost valley stands before the first sign above, or at the right wall.
use Rattle.std.proofs.Common.{List, [], ap, arith, drop, get_or, length, refl, suc, take, zero, ℕ, ◌+◌, ◌<◌, ◌∙◌, ◌∷◌, ◌≡◌}
use Rattle.std.specs.Prelude.{sum}
use Rattle.std.proofs.lemmas.List.{drop_all}
use Rattle.std.proofs.lemmas.List.Sums.{sum_by-take-le, sum_by_more, sum_by_more_le}
use Rattle.bk_word.specs.Outline.{valley_place}
use Rattle.bk_word.specs.declared.Sign.{Sign}
use Rattle.bk_word.specs.declared.Sign.TheVariants.{Above, Even, Under}
use Rattle.bk_play.proofs.records.leftmost.Goals as goal

-- at a sign above no segment is passed
stops : (signs : List Sign) (i : ℕ) → i < length signs → get_or signs i Above ≡ Above → valley_place (drop i signs) ≡ 0
stops [] i h e = absurd (omega arith)
stops (g ∷ signs) zero h e = ap (λ x. valley_place (x ∷ signs)) e
stops (g ∷ signs) (suc i) h e = stops signs i (omega arith) e

-- at any other sign one is
passes : (signs : List Sign) (i : ℕ) → i < length signs → ¬ (get_or signs i Above ≡ Above)
    → valley_place (drop i signs) ≡ suc (valley_place (drop (suc i) signs))
passes [] i h n = absurd (omega arith)
passes (Above ∷ signs) zero h n = absurd (n refl)
passes (Even ∷ signs) zero h n = refl
passes (Under ∷ signs) zero h n = refl
passes (g ∷ signs) (suc i) h n = passes signs i (omega arith) n

pub returns-in-Above-clause-place : goal.returns-in-Above-clause-place
returns-in-Above-clause-place c =
    let i = c.loop-i.invariant in
    omega (arith, i.place, stops c.args.signs.now c.loop-i.i c.loop-i-test.true c.in-Above.is)

pub returns-in-Above-clause-first : goal.returns-in-Above-clause-first
returns-in-Above-clause-first c =
    let i = c.loop-i.invariant in
    let at : c.loop-i.i ≡ valley_place c.args.signs.now = omega (arith, i.place, stops c.args.signs.now c.loop-i.i c.loop-i-test.true c.in-Above.is) in
    i.first ∙ ap (λ n. sum (take n c.args.sizes.now)) at

pub returns-in-Above-clause-few : goal.returns-in-Above-clause-few
returns-in-Above-clause-few c =
    let i = c.loop-i.invariant in
    omega (arith, i.first, sum_by-take-le (λ n. n) c.args.sizes.now c.loop-i.i, c.requires.small)

pub overflow_add-first : goal.overflow_add-first
overflow_add-first c =
    let i = c.loop-i.invariant in
    let within : c.loop-i.i < length c.args.sizes.now = omega (arith, c.loop-i-test.true, c.requires.many) in
    omega (arith, i.first, c.from-first.ensures, sum_by_more_le (λ n. n) c.args.sizes.now c.loop-i.i 0 within, c.requires.small)

pub loop-i-preserved : goal.loop-i-preserved
loop-i-preserved c =
    let i = c.loop-i.invariant in
    let within : c.loop-i.i < length c.args.sizes.now = omega (arith, c.loop-i-test.true, c.requires.many) in
    let next : suc c.loop-i.i ≡ c.loop-i.i + 1 = omega arith in
    record {
      place = omega (
        arith,
        i.place,
        passes c.args.signs.now c.loop-i.i c.loop-i-test.true c.in_default.not-Above,
        ap (λ n. valley_place (drop n c.args.signs.now)) next,
      );
      first = omega (arith, i.first, c.from-first.ensures, sum_by_more (λ n. n) c.args.sizes.now c.loop-i.i 0 within);
    }

pub returns-clause-place : goal.returns-clause-place
returns-clause-place c =
    let i = c.loop-i.invariant in
    omega (arith, i.place, ap valley_place (drop_all c.loop-i.i c.args.signs.now (omega arith)))

pub returns-clause-first : goal.returns-clause-first
returns-clause-first c =
    let i = c.loop-i.invariant in
    let at : c.loop-i.i ≡ valley_place c.args.signs.now = omega (arith, i.place, ap valley_place (drop_all c.loop-i.i c.args.signs.now (omega arith))) in
    i.first ∙ ap (λ n. sum (take n c.args.sizes.now)) at

pub returns-clause-few : goal.returns-clause-few
returns-clause-few c =
    let i = c.loop-i.invariant in
    omega (arith, i.first, sum_by-take-le (λ n. n) c.args.sizes.now c.loop-i.i, c.requires.small)
