use Rattle.std.specs.Prelude.{List, ◌++◌}
use Rattle.std.proofs.Common.{ap, arith, length, sym, ℕ, ◌∙◌}
use Rattle.bk_word.specs.Outline.{start}
use Rattle.bk_packed.specs.Packed.{move_digits}
use Rattle.bk_packed.proofs.WordDigits.{digits_next, digits_room, few_digits}
use Rattle.bk_packed.proofs.packed.digits_of.Goals as goal

pub push_digits-requires-clause-room : goal.push_digits-requires-clause-room
push_digits-requires-clause-room c = omega (
  arith,
  ap (λ (z : List ℕ). length z) c.moves.invariant,
  digits_room c.args.word.now c.moves.i c.get.result c.get.ensures.value,
  few_digits start c.args.word.now c.requires.legal,
  c.requires.few,
)

pub moves-preserved : goal.moves-preserved
moves-preserved c = c.push_digits.ensures ∙ ap (λ (z : List ℕ). z ++ move_digits c.get.result) c.moves.invariant
    ∙ sym (digits_next c.args.word.now c.moves.i c.get.result c.get.ensures.value)
