use Rattle.std.proofs.Common.{ap, arith, map, refl, ℕ, ◌*◌, ◌++◌, ◌+◌, ◌/◌, ◌∙◌}
use Rattle.std.proofs.lemmas.List.{length-append, length-map}
use Rattle.bk_word.specs.Word.{sign_place}
use Rattle.bk_packed.proofs.WordDigits.{count_before}
use Rattle.bk_packed.proofs.digits.move_before.Goals as goal

pub returns : goal.returns
returns c = λ ds few behind.
    ap (λ (z : ℕ). z * 21267647932558653966460912964485513216 + c.signs_before.result / 16) c.from.ensures
    ∙ count_before c.args.count c.signs_before.result 21267647932558653966460912964485513216 (map sign_place c.args.signs.now ++ ds)
    (omega (arith, few, length-append (map sign_place c.args.signs.now) ds, length-map c.args.signs.now sign_place))
    refl (c.signs_before.ensures ds (omega (arith, few)) behind)
