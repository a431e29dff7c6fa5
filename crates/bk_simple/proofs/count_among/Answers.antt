use Rattle.std.proofs.lemmas.Grind.{common_steps}
use Rattle.std.proofs.Common.{arith, ap, count_by, refl, subst, ◌∙◌}
use Rattle.std.proofs.lemmas.List.{take_all}
use Rattle.bk_tiling.specs.declared.Square.{Square}
use Rattle.bk_simple.specs.Border.{IsUncut, is_inside, rectangle_of}
use Rattle.bk_simple.proofs.count_among.Goals as goal

abbrev none : Square
none = record { x = 0; y = 0; s = 0 }

pub loop-q-preserved : goal.loop-q-preserved
loop-q-preserved c = grind (arith, common_steps)

pub loop-q-init : goal.loop-q-init
loop-q-init c = record { uncut = refl; count = refl }

pub lies_inside-requires-clause-right : goal.lies_inside-requires-clause-right
lies_inside-requires-clause-right c = c.requires.fits

pub lies_outside-requires-clause-right : goal.lies_outside-requires-clause-right
lies_outside-requires-clause-right c = c.requires.fits

pub lies_inside-requires-clause-fits : goal.lies_inside-requires-clause-fits
lies_inside-requires-clause-fits c = let e = c.requires.squares c.loop-q.q-index none c.loop-q-test.true in (e.1, e.2)

pub lies_outside-requires-clause-fits : goal.lies_outside-requires-clause-fits
lies_outside-requires-clause-fits c = let e = c.requires.squares c.loop-q.q-index none c.loop-q-test.true in (e.1, e.2)

pub returns-clause-uncut : goal.returns-clause-uncut
returns-clause-uncut c = (
  λ _. subst (IsUncut (rectangle_of c.args.r.now)) (take_all c.loop-q.q-index c.args.squares.now (omega (
    arith,
    c.loop-q-test.false,
  ))) c.loop-q.invariant.uncut,
  λ _. refl,
)

pub returns-clause-count : goal.returns-clause-count
returns-clause-count c =
    c.loop-q.invariant.count ∙ ap (count_by (is_inside (rectangle_of c.args.r.now))) (take_all c.loop-q.q-index c.args.squares.now (omega (
      arith,
      c.loop-q-test.false,
    )))
