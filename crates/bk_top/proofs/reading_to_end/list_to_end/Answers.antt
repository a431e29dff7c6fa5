use Rattle.bk_alike.specs.GroupsEnd.{list_output}
use Rattle.bk_top.proofs.Statuses.{reads_to_end}
use Rattle.bk_top.proofs.reading_to_end.list_to_end.Goals as goal

pub returns : goal.returns
returns g c =
    reads_to_end (list_output c.args.wanted) _ _ c.list_lines.result c.status.result c.status.ensures c.list_lines.ensures.ending
    c.list_lines.ensures.faults
