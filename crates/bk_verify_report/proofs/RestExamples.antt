-- What a verifier of order 9 leaves, which keeps the rectangle 33x32 from line 1: the same pair, and a walk that is at the word of no moves.
use Rattle.std.specs.Prelude.{List, [], refl, ◌∷◌, ◌≡◌}
use Rattle.bk_tiling.proofs.ExampleTilings.{rectangle_33x32}
use Rattle.bk_word.specs.Word.{Word}
use Rattle.bk_verify_report.specs.KeptEntries.{Kept}
use Rattle.bk_verify_report.specs.Rest.{rest_of}

abbrev pairs : List Kept
pairs = record { line = 1; tiling = rectangle_33x32 } ∷ []

left-pairs : (rest_of (record { order = 9; pairs = pairs })).pairs ≡ pairs
left-pairs = refl

left-cursor : ◌≡◌ {A = Word} ((rest_of (record { order = 9; pairs = pairs })).walk).cursor []
left-cursor = refl
