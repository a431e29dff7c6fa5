use Rattle.std.specs.Prelude.{List, count_by, length}
use Rattle.std.proofs.Common.{ap, ◌∙◌, ℕ}
use Rattle.bk_word.specs.StoredWord.{is_count}
use Rattle.bk_word.specs.Word.{Word}
use Rattle.bk_word.proofs.CountPlaces.{counts_moves}
use Rattle.bk_word.proofs.Word.moves.Goals as goal

pub returns-clause-value : goal.returns-clause-value
returns-clause-value c =
    c.counts.ensures ∙ ap (λ (bytes : List ℕ). count_by is_count bytes) c.as_slice.ensures ∙ counts_moves c.self.inside.bytes.items
    ∙ ap (λ (w : Word). length w) c.self.view_is
