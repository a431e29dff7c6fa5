use Rattle.bk_alike.proofs.list_run.list_lines.Goals as goal

pub list_into-requires : goal.list_into-requires
list_into-requires g c = c.new-list.ensures

pub returns-clause-ending : goal.returns-clause-ending
returns-clause-ending g c = c.list_into.ensures.ending

pub returns-clause-complete : goal.returns-clause-complete
returns-clause-complete g c = c.list_into.ensures.complete

pub returns-clause-faults : goal.returns-clause-faults
returns-clause-faults g c = c.list_into.ensures.faults
