use Rattle.std.proofs.Common.{ap, arith, length}
use Rattle.bk_word.specs.Outline.{start}
use Rattle.bk_packed.proofs.WordDigits.{digits_count, few_digits}
use Rattle.bk_packed.proofs.reading.digits_played.Goals as goal

pub overflow_mul-result : goal.overflow_mul-result
overflow_mul-result c = omega (
  arith,
  c.moves.ensures.value,
  digits_count c.args.skel.now,
  few_digits start c.args.skel.now c.requires.legal,
  c.requires.few,
)

pub overflow_add-result : goal.overflow_add-result
overflow_add-result c = omega (
  arith,
  c.moves.ensures.value,
  ap length c.played_signs.ensures,
  digits_count c.args.skel.now,
  few_digits start c.args.skel.now c.requires.legal,
  c.requires.few,
)

pub returns : goal.returns
returns c = omega (arith, c.moves.ensures.value, ap length c.played_signs.ensures, digits_count c.args.skel.now)
