-- What `images` and `draw` tell of the rectangle of three squares, and which commands take memory.
use Rattle.std.specs.Fmt.{digits}
use Rattle.std.specs.Prelude.{List, [], codes, refl, ℕ, ◌++◌, ◌<◌, ◌∷◌, ◌≡◌}
use Rattle.bk_tiling.proofs.ExampleTilings.{rectangle_3x2}
use Rattle.bk_tiling.specs.Tiling.{Tiling, order}
use Rattle.bk_answer.specs.Answer.{MayWant}
use Rattle.bk_answer.specs.Item.{HasTiling}
use Rattle.bk_answer.specs.Plain.{PlainWants}
use Rattle.bk_answer.specs.Telling.{drawing_lines, image_lines}
use Rattle.bk_answer.specs.declared.command.Command.TheVariants.{Memory}
use Rattle.bk_answer.specs.declared.command.MemoryCommand.TheVariants.{Word}
use Rattle.bk_answer.specs.declared.plain.PlainCommand.TheVariants.{Draw}

abbrev fed : List ℕ → List ℕ
fed line = line ++ 10 ∷ []

images-3x2 : image_lines rectangle_3x2
    ≡ fed (codes "3x2 [2,1][1]") ∷ fed (codes "3x2 [1,2][1]") ∷ fed (codes "3x2 [2,1][1]") ∷ fed (codes "3x2 [1,2][1]")
    ∷ fed (codes "2x3 [2][1,1]") ∷ fed (codes "2x3 [2][1,1]") ∷ fed (codes "2x3 [1,1][2]") ∷ fed (codes "2x3 [1,1][2]") ∷ []
unfolding digits
images-3x2 = refl

drawing-3x2 : drawing_lines rectangle_3x2 ≡ fed (codes "+-++") ∷ fed (codes "| ++") ∷ fed (codes "+-++") ∷ []
drawing-3x2 = refl

-- `draw` takes no memory at any line, and `word` may at that of a tiling of 17 squares
draw_takes_none : (bytes : List ℕ) → PlainWants Draw bytes → ⊥
draw_takes_none bytes wants = wants

word_takes_some : (bytes : List ℕ) (t : Tiling) → HasTiling bytes t → 16 < order t → MayWant (Memory Word) bytes
word_takes_some bytes t has large = (t, has, large)
