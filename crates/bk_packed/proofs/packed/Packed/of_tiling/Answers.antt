use Rattle.std.proofs.Common.{ap, subst, sym, ◌∙◌}
use Rattle.bk_lay.proofs.Valleys.{a_tiling_has_one_word}
use Rattle.bk_packed.specs.Packed.{AreDigits, begun_by, packed}
use Rattle.bk_packed.proofs.WordDigits.{are_digits, low_counts}
use Rattle.bk_packed.proofs.packed.Packed.of_tiling.Goals as goal

pub number_of-requires-clause-digits : goal.number_of-requires-clause-digits
number_of-requires-clause-digits c = subst AreDigits (sym (c.as_slice.ensures.value ∙ c.digits_of_tiling-digits.ensures.are))
    (are_digits c.digits_of_tiling-digits.ensures.word (low_counts 16 c.digits_of_tiling-digits.ensures.word c.digits_of_tiling-digits.ensures.few))

pub returns : goal.returns
returns c w is = c.number_of.ensures ∙ ap (begun_by 64) (c.as_slice.ensures.value ∙ c.digits_of_tiling-digits.ensures.are)
    ∙ ap packed (a_tiling_has_one_word c.args.tiling.now c.digits_of_tiling-digits.ensures.word w c.digits_of_tiling-digits.ensures.is_word is)
