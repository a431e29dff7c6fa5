-- Lines from the top, of the word that BoardExamples plays.
use Rattle.std.proofs.Common.{[], false, refl, true, ◌∷◌, ◌≡◌}
use Rattle.bk_layout.specs.LineNumbers.{lefts_of}
use Rattle.bk_free_search.proofs.Boards.BoardExamples.{front}
use Rattle.bk_free_search.specs.TopLines.{on_top_lines}

marks : on_top_lines 3 (lefts_of front) ≡ false ∷ true ∷ true ∷ false ∷ false ∷ false ∷ []
marks = refl
