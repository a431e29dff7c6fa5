-- What a command tells of a tiling.
-- Example (TellingExamples): of the rectangle 3x2 `draw` tells three rows.
use Rattle.std.specs.List.{range_with_len}
use Rattle.std.specs.Prelude.{Bool, List, [], false, map, ℕ, ◌+◌, ◌++◌, ◌∷◌, ◌≡◌, ◌≤◌}
use Rattle.bk_tiling.specs.Tiling.{Tiling}
use Rattle.bk_sym.specs.Canonical.{IsCanonicalOf}
use Rattle.bk_sym.specs.Image.{image}
use Rattle.bk_sym.specs.Turns.{turns}
use Rattle.bk_draw.specs.Drawing.{drawing_row}
use Rattle.bk_draw.specs.declared.TheConstants.{LARGEST_DRAWN}
use Rattle.bk_word.specs.Word.{Word as Moves}
use Rattle.bk_lay.specs.TilingWord.{IsWordOf}
use Rattle.bk_report.specs.Answers.{IsCheckLine, dual_line, net_line, tiling_line}
use Rattle.bk_report.specs.Listings.{word_line}
use Rattle.bk_answer.specs.declared.command.Command.{Command}
use Rattle.bk_answer.specs.declared.command.Command.TheVariants.{Memory, Plain}
use Rattle.bk_answer.specs.declared.command.MemoryCommand.TheVariants.{Flow, Solve, Word}
use Rattle.bk_answer.specs.declared.plain.PlainCommand.TheVariants.{Canon, Check, Draw, Dual, Images, Net}

-- the lines of the eight images of a tiling
abbrev pub image_lines : Tiling → List (List ℕ)
image_lines t = map (λ turn. tiling_line (image turn t)) turns

-- the rows of the drawing of a tiling, from top to bottom
abbrev pub drawing_lines : Tiling → List (List ℕ)
drawing_lines t = map (λ y. drawing_row t y ++ 10 ∷ []) (range_with_len 0 (t.height + 1))

-- what is told of a tiling, as pieces that are written one after another; `flow` and `solve` tell nothing of one
abbrev pub IsAnswerTo : Command → Tiling → List (List ℕ) → Type 0
IsAnswerTo (Plain Check) t pieces = (line : List ℕ) × IsCheckLine t line × (pieces ≡ line ∷ [])
IsAnswerTo (Plain Canon) t pieces = (c : Tiling) × IsCanonicalOf t c × (pieces ≡ tiling_line c ∷ [])
IsAnswerTo (Plain Images) t pieces = pieces ≡ image_lines t
IsAnswerTo (Plain Net) t pieces = pieces ≡ net_line t ∷ []
IsAnswerTo (Plain Dual) t pieces = pieces ≡ dual_line t ∷ []
IsAnswerTo (Memory Word) t pieces = (w : Moves) × IsWordOf t w × (pieces ≡ word_line w ∷ [])
IsAnswerTo (Plain Draw) t pieces = pieces ≡ drawing_lines t
IsAnswerTo (Memory Flow) t pieces = ⊥
IsAnswerTo (Memory Solve) t pieces = ⊥

-- a command tells these pieces of a tiling, and they are no refusal
pub data TellsPieces (command : Command) (t : Tiling) : List (List ℕ) → Bool → Type 0 where
  tells : (pieces : List (List ℕ)) → IsAnswerTo command t pieces → TellsPieces command t pieces false

-- the tilings of which a command tells: all, but a drawing is at most 400 wide and 400 high
abbrev pub Allows : Command → Tiling → Type 0
Allows (Plain Draw) t = (t.width ≤ LARGEST_DRAWN) × (t.height ≤ LARGEST_DRAWN)
Allows _ t = Unit {0}
