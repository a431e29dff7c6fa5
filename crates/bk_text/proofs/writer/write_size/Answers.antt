-- A size is written as its width, `x` and its height, in at most 41 bytes.
use Rattle.std.specs.Fmt.{decimal}
use Rattle.std.proofs.Common.{List, [], ap, append_assoc, arith, length, length-append, lit<, ℕ, ◌++◌, ◌+◌, ◌∙◌, ◌∷◌, ◌≡◌, ◌≤◌}
use Rattle.bk_text.proofs.writer.write_size.Goals as goal

pub push_number-requires : goal.push_number-requires
push_number-requires c = (lit< tt, omega (arith, c.requires))

longer : (line after text : List ℕ) → after ≡ line ++ text → length text ≤ 20 → length after ≤ length line + 20
longer line after text is short = omega (arith, ap length is, length-append line text, short)

pub push_bytes-requires : goal.push_bytes-requires
push_bytes-requires c = (lit< tt, omega (arith, c.requires, longer _ _ (decimal c.args.width) c.push_number.ensures.text c.push_number.ensures.short))

pub push_number-requires-2 : goal.push_number-requires-2
push_number-requires-2 c = (
  lit< tt,
  omega (
    arith,
    c.requires,
    longer _ _ (decimal c.args.width) c.push_number.ensures.text c.push_number.ensures.short,
    ap length c.push_bytes.ensures,
    length-append c.push_number.new.line.items (120 ∷ []),
  ),
)

pub returns-clause-text : goal.returns-clause-text
returns-clause-text c =
    c.push_number-2.ensures.text
    ∙ ap (λ l. l ++ decimal c.args.height) (c.push_bytes.ensures ∙ ap (λ l. l ++ 120 ∷ []) c.push_number.ensures.text
    ∙ append_assoc c.args.line.now.items (decimal c.args.width) (120 ∷ []))
    ∙ append_assoc c.args.line.now.items (decimal c.args.width ++ 120 ∷ []) (decimal c.args.height)

pub returns-clause-short : goal.returns-clause-short
returns-clause-short c = omega (
  arith,
  length-append (decimal c.args.width ++ 120 ∷ []) (decimal c.args.height),
  length-append (decimal c.args.width) (120 ∷ []),
  c.push_number.ensures.short,
  c.push_number-2.ensures.short,
)
