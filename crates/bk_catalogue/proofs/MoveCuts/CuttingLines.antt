-- The cut of a walk by how many squares are left, where lines run down between squares of the first move.
use Rattle.std.proofs.Common.{arith, subst, ◌+◌}
use Rattle.bk_word.specs.Play.{outline_of}
use Rattle.bk_word.specs.Word.{order_of}
use Rattle.bk_word.specs.Outline.{sizes_of}
use Rattle.bk_catalogue.proofs.MoveCuts.ClearLines.{clear_word}
use Rattle.bk_catalogue.proofs.MoveCuts.LinesLeft.{line_left}
use Rattle.bk_catalogue.proofs.Members.VerticalParts.{line_is_compound}
use Rattle.bk_catalogue.proofs.MoveCuts.CuttingBounds.{without_pairs}
use Rattle.bk_catalogue.proofs.HangingBounds.WordBoundLaws.{lines_are_hung}
use Rattle.bk_catalogue.specs.WordBounds.{EndsNoLine}
use Rattle.bk_catalogue.proofs.Members.BegunWords.{complete_word, within_order}
use Rattle.bk_catalogue.specs.SingleValleys.{single_valleys}
use Rattle.bk_catalogue.specs.BoundCuts.{TooManyLinesIsBarren}
use Rattle.bk_catalogue.specs.VerticalCut.{line_bound_of, edges_on_lines}

-- the law: a line that is left cuts the tiling in two
pub too_many_lines_is_barren : TooManyLinesIsBarren
too_many_lines_is_barren n class front many few e rest entry word =
    within_order n class e entry front rest (order_of front + line_bound_of front + single_valleys (outline_of front).signs (sizes_of (outline_of front))) word
    (lines_are_hung front rest (complete_word n class e entry front rest word)
    (without_pairs n class e entry (omega (arith, many)) front rest word) (subst EndsNoLine word no_line)) few
  where
    -- a line that is left at the end of a member's word would cut its tiling
    no_line : EndsNoLine e.word
    no_line s is any = (entry.member).simple (line_is_compound e.tiling (entry.member).tiling
        (line_left e.tiling (outline_of e.word) (edges_on_lines e.word) (entry.member).tiling
        (clear_word e.tiling e.word (entry.member).tiling entry.word) s is any)
        (omega (arith, many, (entry.member).order)))
