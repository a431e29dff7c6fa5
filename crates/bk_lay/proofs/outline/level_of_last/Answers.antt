use Rattle.bk_lay.proofs.MeetingRuns.{last_level_at}
use Rattle.bk_lay.proofs.outline.level_of_last.Goals as goal

pub returns-in-len1-up : goal.returns-in-len1-up
returns-in-len1-up c = last_level_at c.args.runs.now (record { x = 0; end = 0; level = 0 }) c.in-len1-up.len_at_least
