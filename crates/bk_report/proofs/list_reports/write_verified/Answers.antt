use Rattle.std.proofs.Common.{List, [], ap, ℕ, ◌++◌, ◌∙◌, ◌∷◌}
use Rattle.std.specs.Prelude.{codes, decimal, flat_map, slice_index}
use Rattle.bk_report.specs.Answers.{spaced}
use Rattle.bk_report.specs.Listings.{last_name, wide_words}
use Rattle.bk_report.proofs.Spaces.{more_pieces}
use Rattle.bk_report.proofs.list_reports.write_verified.Goals as goal

pub returns : goal.returns
returns c =
    let count : ℕ → List ℕ = λ place. decimal (slice_index c.args.counts place) in
    let words : ℕ → List (List ℕ) = λ order. last_name c.args.last ∷ codes "order" ∷ decimal order ∷ codes "members" ∷ count 0 ∷ codes "missing" ∷ count 1
    ∷ codes "foreign" ∷ count 2 ∷ codes "repeated" ∷ count 3 ∷ codes "refused" ∷ count 4 ∷ [] in
    let wide = wide_words c.args.last c.args.word.now in
    rw (c.push.ensures.items, c.push_wide.ensures.text, c.push_filled.ensures.text, c.push_name.ensures.text, c.push_bytes.ensures, c.clear.ensures)
    (ap (λ (l : List ℕ). l ++ 10 ∷ [])
    (ap (λ order. spaced (codes ";" ∷ words order) ++ flat_map (λ l. 32 ∷ l) wide) c.from.ensures ∙ more_pieces (codes ";") (words c.args.order) wide))

pub push_wide-requires-clause-some : goal.push_wide-requires-clause-some
push_wide-requires-clause-some c = c.requires.some
