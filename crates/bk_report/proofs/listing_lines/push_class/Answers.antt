use Rattle.bk_report.specs.Listings.{class_words}
use Rattle.std.proofs.lemmas.List.{append-nil, length-append}
use Rattle.std.specs.Prelude.{flat_map, ◌∷◌}
use Rattle.std.proofs.Common.{ap, arith, length, sym, ℕ, ◌++◌, ◌∙◌}
use Rattle.bk_report.proofs.listing_lines.push_class.Goals as goal

pub push_bytes-requires : goal.push_bytes-requires
push_bytes-requires c = omega arith

pub push_bytes-requires-in-Simple : goal.push_bytes-requires-in-Simple
push_bytes-requires-in-Simple c = omega arith

pub returns-in-Perfect-clause-text : goal.returns-in-Perfect-clause-text
returns-in-Perfect-clause-text c =
    sym (append-nil c.args.out.now.items) ∙ ap (λ k. c.args.out.now.items ++ flat_map (λ l. 32 ∷ l) (class_words k)) (sym c.in-Perfect.is)

pub returns-in-Perfect-clause-short : goal.returns-in-Perfect-clause-short
returns-in-Perfect-clause-short c = omega arith

pub returns-in-Imperfect-clause-text : goal.returns-in-Imperfect-clause-text
returns-in-Imperfect-clause-text c = c.push_bytes.ensures ∙ ap (λ k. c.args.out.now.items ++ flat_map (λ l. 32 ∷ l) (class_words k)) (sym c.in-Imperfect.is)

pub returns-in-Imperfect-clause-short : goal.returns-in-Imperfect-clause-short
returns-in-Imperfect-clause-short c = omega (arith, length-append {A = ℕ}, ap length c.push_bytes.ensures)

pub returns-in-Simple-clause-text : goal.returns-in-Simple-clause-text
returns-in-Simple-clause-text c = c.push_bytes-in-Simple.ensures ∙ ap (λ k. c.args.out.now.items ++ flat_map (λ l. 32 ∷ l) (class_words k)) (sym c.in-Simple.is)

pub returns-in-Simple-clause-short : goal.returns-in-Simple-clause-short
returns-in-Simple-clause-short c = omega (arith, length-append {A = ℕ}, ap length c.push_bytes-in-Simple.ensures)
