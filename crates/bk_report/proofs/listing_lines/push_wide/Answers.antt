use Rattle.std.proofs.lemmas.List.{append-nil, length-append}
use Rattle.bk_word.specs.WordText.{word_text}
use Rattle.bk_report.specs.Listings.{wide_words}
use Rattle.std.specs.Prelude.{codes, flat_map}
use Rattle.std.proofs.Common.{List, [], ap, append_assoc, arith, length, sym, ℕ, ◌++◌, ◌∙◌, ◌∷◌, ◌≡◌}
use Rattle.bk_report.proofs.listing_lines.push_wide.Goals as goal

-- a blank, `at` and a word
wide_pieces : (front word : List ℕ) → (front ++ codes " at ") ++ word ≡ front ++ flat_map (λ l. 32 ∷ l) (codes "at" ∷ word ∷ [])
wide_pieces front word = simp (append_assoc, append-nil)

pub push_bytes-requires : goal.push_bytes-requires
push_bytes-requires c = omega arith

pub write_word-requires-clause-some : goal.write_word-requires-clause-some
write_word-requires-clause-some c = c.requires.some c.in-Wide.is

pub write_word-requires-clause-room : goal.write_word-requires-clause-room
write_word-requires-clause-room c = omega (arith, length-append {A = ℕ}, ap length c.push_bytes.ensures)

pub returns-in-Wide-clause-text : goal.returns-in-Wide-clause-text
returns-in-Wide-clause-text c =
    c.write_word.ensures.text ∙ ap (λ l. l ++ word_text c.args.word.now) c.push_bytes.ensures
    ∙ wide_pieces c.args.out.now.items (word_text c.args.word.now)
    ∙ ap (λ k. c.args.out.now.items ++ flat_map (λ l. 32 ∷ l) (wide_words k c.args.word.now)) (sym c.in-Wide.is)

pub returns-in-Wide-clause-short : goal.returns-in-Wide-clause-short
returns-in-Wide-clause-short c = omega (arith, length-append {A = ℕ}, ap length c.push_bytes.ensures, ap length c.write_word.ensures.text)
