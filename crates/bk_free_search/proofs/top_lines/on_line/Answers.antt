use Rattle.std.proofs.Common.{ap, slice_index_or, ◌-◌, ◌∙◌}
use Rattle.bk_free_search.specs.TopLines.{is_top_line}
use Rattle.bk_free_search.proofs.Boards.TopLineMarks.{index_top}
use Rattle.bk_free_search.proofs.top_lines.on_line.Goals as goal

pub returns : goal.returns
returns c = c.is_top_line.ensures ∙ ap (λ k. is_top_line c.args.first (slice_index_or c.args.lefts.now (k - 1) 0)) c.from.ensures
    ∙ index_top c.args.first c.args.lefts.now (c.args.square - 1)
