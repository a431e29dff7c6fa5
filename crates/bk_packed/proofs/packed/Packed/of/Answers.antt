use Rattle.std.proofs.Common.{subst, sym, ◌∙◌}
use Rattle.bk_packed.specs.Packed.{AreDigits}
use Rattle.bk_packed.proofs.WordDigits.{are_digits, low_counts}
use Rattle.bk_packed.proofs.packed.Packed.of.Goals as goal

pub number_of-requires-clause-digits : goal.number_of-requires-clause-digits
number_of-requires-clause-digits c = subst AreDigits (sym (c.as_slice.ensures.value ∙ c.digits_of-digits.ensures))
    (are_digits c.args.word.now (low_counts 16 c.args.word.now c.requires.few))
