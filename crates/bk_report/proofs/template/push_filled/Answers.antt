use Rattle.std.proofs.Common.{List, [], ap, append_assoc, arith, drop, length, refl, slice_index_or, sym, ℕ, ◌++◌, ◌∙◌, ◌∷◌}
use Rattle.std.specs.Prelude.{decimal, ◌+◌}
use Rattle.std.proofs.Math.ListN.{drop_of_length-le}
use Rattle.std.proofs.lemmas.List.{append-nil, length-append}
use Rattle.bk_report.specs.Templates.{filled}
use Rattle.bk_report.proofs.TemplateLaws.{filled-byte, filled-number}
use Rattle.bk_report.proofs.template.push_filled.Goals as goal

pub loop-byte-init : goal.loop-byte-init
loop-byte-init c = (refl, omega arith, omega arith)

pub push_number-requires : goal.push_number-requires
push_number-requires c = omega arith

pub push-requires : goal.push-requires
push-requires c = omega arith

pub loop-byte-preserved-then-next-numbers : goal.loop-byte-preserved-then-next-numbers
loop-byte-preserved-then-next-numbers c =
    let i = c.loop-byte.byte-index in
    let k = c.loop-byte.next in
    let digits = decimal (slice_index_or c.args.numbers.now k 0) in
    let left = filled (drop (i + 1) c.args.text.now) (drop (k + 1) c.args.numbers.now) in (
      ap (λ (l : List ℕ). l ++ left) c.push_number.ensures.text ∙ append_assoc c.loop-byte.out.items digits left
          ∙ ap (λ (l : List ℕ). c.loop-byte.out.items ++ l)
          (sym (filled-number c.args.text.now c.args.numbers.now i k c.loop-byte-test.true c.if-byte-eq35.true c.if-next-numbers.true))
          ∙ c.loop-byte.invariant.0,
      omega (arith, c.push_number.ensures.short, ap length c.push_number.ensures.text, length-append c.loop-byte.out.items digits, c.loop-byte.invariant.1),
      omega arith,
    )

pub loop-byte-preserved : goal.loop-byte-preserved
loop-byte-preserved c =
    let i = c.loop-byte.byte-index in
    let k = c.loop-byte.next in
    let left = filled (drop (i + 1) c.args.text.now) (drop k c.args.numbers.now) in
    let byte = slice_index_or c.args.text.now i 0 in (
      ap (λ (l : List ℕ). l ++ left) c.push.ensures.items ∙ append_assoc c.loop-byte.out.items (byte ∷ []) left
          ∙ ap (λ (l : List ℕ). c.loop-byte.out.items ++ l)
          (sym (filled-byte c.args.text.now c.args.numbers.now i k c.loop-byte-test.true c.else-byte-eq35.either))
          ∙ c.loop-byte.invariant.0,
      omega (arith, c.loop-byte.invariant.1),
      c.loop-byte.invariant.2,
    )

pub returns-clause-text : goal.returns-clause-text
returns-clause-text c =
    let numbers = drop c.loop-byte.next c.args.numbers.now in
    sym (append-nil c.loop-byte.out.items)
    ∙ ap (λ (l : List ℕ). c.loop-byte.out.items ++ filled l numbers) (sym (drop_of_length-le c.args.text.now (omega (arith, c.loop-byte-test.false))))
    ∙ c.loop-byte.invariant.0

pub returns-clause-short : goal.returns-clause-short
returns-clause-short c = omega arith
