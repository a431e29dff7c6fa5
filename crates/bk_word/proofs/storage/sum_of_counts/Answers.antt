-- The counts passed and those from the place on are together all.
use Rattle.std.proofs.lemmas.Grind.{common_steps}
use Rattle.std.proofs.Common.{List, ap, arith, ℕ}
use Rattle.std.proofs.lemmas.List.{drop_all}
use Rattle.bk_word.specs.StoredWord.{word_in}
use Rattle.bk_word.specs.Word.{order_of}
use Rattle.bk_word.proofs.storage.sum_of_counts.Goals as goal

pub loop-byte-preserved : goal.loop-byte-preserved
loop-byte-preserved c = grind (arith, common_steps)

pub loop-byte-init : goal.loop-byte-init
loop-byte-init c = omega arith

pub overflow_add-order : goal.overflow_add-order
overflow_add-order c = omega (arith, c.loop-byte.invariant, c.requires, c.from-order.type_inv)

pub returns : goal.returns
returns c =
    omega (
      arith,
      c.loop-byte.invariant,
      ap (λ (z : List ℕ). order_of (word_in z)) (drop_all c.loop-byte.byte-index c.args.bytes.now c.loop-byte-test.false),
    )
