use Rattle.std.proofs.Common.{ap, rules, sym}
use Rattle.bk_top.specs.Running.{status_of_listing}
use Rattle.bk_top.proofs.run_status.listing_status.Goals as goal

pub returns-in-Ok-End : goal.returns-in-Ok-End
returns-in-Ok-End c = search rules

pub returns-in-Err : goal.returns-in-Err
returns-in-Err c = sym (ap status_of_listing c.in-Err.is)
