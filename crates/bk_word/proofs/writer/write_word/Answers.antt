use Rattle.std.specs.Prelude.{List, decimal, drop, flat_map, length, ◌++◌}
use Rattle.std.proofs.Common.{ap, append_assoc, arith, get_or, length-append, sym, ℕ, ◌∙◌}
use Rattle.std.proofs.lemmas.List.{take_rest}
use Rattle.bk_word.specs.StoredWord.{piece}
use Rattle.bk_word.proofs.WordPieces.{short_text, some_byte, whole_text}
use Rattle.bk_word.proofs.writer.write_word.Goals as goal

pub write_pieces-requires : goal.write_pieces-requires
write_pieces-requires c =
    let short = short_text c.args.word.now c.bytes-bytes.ensures.kept c.requires.some in
    let whole = whole_text c.bytes-bytes.result.now c.args.word.now c.bytes-bytes.ensures.value c.bytes-bytes.ensures.kept c.requires.some in
    let rest = take_rest c.bytes-bytes.result.now 1 in
    omega (
      arith,
      short,
      c.requires.room,
      ap (λ (z : List ℕ). length z) whole,
      length-append (decimal (get_or c.bytes-bytes.result.now 0 0)) (flat_map piece (drop 1 c.bytes-bytes.result.now)),
      ap (λ (z : List ℕ). length (flat_map piece z)) rest,
      ap (λ (z : List ℕ). length z) c.push_number.ensures.text,
      length-append c.args.out.now.items (decimal c.from.result),
      ap (λ (n : ℕ). length (decimal n)) c.from.ensures,
    )

pub returns-clause-text : goal.returns-clause-text
returns-clause-text c =
    let whole = whole_text c.bytes-bytes.result.now c.args.word.now c.bytes-bytes.ensures.value c.bytes-bytes.ensures.kept c.requires.some in
    c.write_pieces.ensures
    ∙ (λ i. c.push_number.ensures.text i ++ flat_map piece (take_rest c.bytes-bytes.result.now 1 i))
    ∙ append_assoc c.args.out.now.items (decimal c.from.result) (flat_map piece (drop 1 c.bytes-bytes.result.now))
    ∙ ap (λ (n : ℕ). c.args.out.now.items ++ (decimal n ++ flat_map piece (drop 1 c.bytes-bytes.result.now))) c.from.ensures
    ∙ ap (λ (z : List ℕ). c.args.out.now.items ++ z) (sym whole)

pub returns-clause-short : goal.returns-clause-short
returns-clause-short c = short_text c.args.word.now c.bytes-bytes.ensures.kept c.requires.some

pub bounds-bytes-0 : goal.bounds-bytes-0
bounds-bytes-0 c = some_byte c.bytes-bytes.result.now c.args.word.now c.bytes-bytes.ensures.value c.requires.some

pub slice_bounds-write_pieces-count : goal.slice_bounds-write_pieces-count
slice_bounds-write_pieces-count c = omega (arith, some_byte c.bytes-bytes.result.now c.args.word.now c.bytes-bytes.ensures.value c.requires.some)

pub slice_bounds-write_pieces-start : goal.slice_bounds-write_pieces-start
slice_bounds-write_pieces-start c = omega (arith, some_byte c.bytes-bytes.result.now c.args.word.now c.bytes-bytes.ensures.value c.requires.some)
