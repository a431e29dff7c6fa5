use Rattle.std.proofs.lemmas.List.{length-append}
use Rattle.bk_report.specs.Listings.{last_name}
use Rattle.std.proofs.Common.{ap, arith, length, sym, ℕ, ◌++◌, ◌∙◌}
use Rattle.bk_report.proofs.listing_lines.push_name.Goals as goal

pub push_bytes-requires : goal.push_bytes-requires
push_bytes-requires c = omega arith

pub returns-in-End-clause-text : goal.returns-in-End-clause-text
returns-in-End-clause-text c = c.push_bytes.ensures ∙ ap (λ k. c.args.out.now.items ++ last_name k) (sym c.in-End.is)

pub returns-in-End-clause-short : goal.returns-in-End-clause-short
returns-in-End-clause-short c = omega (arith, length-append {A = ℕ}, ap length c.push_bytes.ensures)

pub push_bytes-requires-in-Limit : goal.push_bytes-requires-in-Limit
push_bytes-requires-in-Limit c = omega arith

pub returns-in-Limit-clause-text : goal.returns-in-Limit-clause-text
returns-in-Limit-clause-text c = c.push_bytes-in-Limit.ensures ∙ ap (λ k. c.args.out.now.items ++ last_name k) (sym c.in-Limit.is)

pub returns-in-Limit-clause-short : goal.returns-in-Limit-clause-short
returns-in-Limit-clause-short c = omega (arith, length-append {A = ℕ}, ap length c.push_bytes-in-Limit.ensures)

pub push_bytes-requires-in-Wide : goal.push_bytes-requires-in-Wide
push_bytes-requires-in-Wide c = omega arith

pub returns-in-Wide-clause-text : goal.returns-in-Wide-clause-text
returns-in-Wide-clause-text c = c.push_bytes-in-Wide.ensures ∙ ap (λ k. c.args.out.now.items ++ last_name k) (sym c.in-Wide.is)

pub returns-in-Wide-clause-short : goal.returns-in-Wide-clause-short
returns-in-Wide-clause-short c = omega (arith, length-append {A = ℕ}, ap length c.push_bytes-in-Wide.ensures)
