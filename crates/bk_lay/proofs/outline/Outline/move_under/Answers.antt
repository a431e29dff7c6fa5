-- The signs are those between the bottoms of the squares and the levels of the last runs at both sides.
use Rattle.std.proofs.Common.{ap, arith, lit<, refl, ◌++◌, ◌∙◌}
use Rattle.bk_lay.specs.LevelRuns.{bottoms_of, last_level}
use Rattle.bk_lay.specs.TilingWord.{signs_between}
use Rattle.bk_lay.proofs.outline.Outline.move_under.Goals as goal

pub returns-clause-signs : goal.returns-clause-signs
returns-clause-signs c =
    let before = c.level_of_last-before.ensures ∙ ap last_level c.as_slice.ensures.value in
    let after = c.level_of_last-after.ensures ∙ ap last_level c.as_slice-2.ensures.value in
    c.write_signs.ensures ∙ (λ i. signs_between (before i ++ bottoms_of c.args.squares.now ++ after i))

pub as_slice-requires : goal.as_slice-requires
as_slice-requires c = lit< tt

pub as_slice-requires-2 : goal.as_slice-requires-2
as_slice-requires-2 c = lit< tt

pub overflow_cast-m : goal.overflow_cast-m
overflow_cast-m c = omega (arith, c.requires.few)

pub write_signs-requires-clause-few : goal.write_signs-requires-clause-few
write_signs-requires-clause-few c = c.requires.few

pub write_signs-requires-clause-fit : goal.write_signs-requires-clause-fit
write_signs-requires-clause-fit c = c.requires.fit

pub returns-clause-count : goal.returns-clause-count
returns-clause-count c = refl
