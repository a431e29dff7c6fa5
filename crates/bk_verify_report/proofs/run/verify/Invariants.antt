use Rattle.bk_verify_report.proofs.run.verify.Given as goal

abbrev pub ghosts-close_report : goal.ghosts-close_report
ghosts-close_report g a = record { name = a.blank.name; parts = a.blank.parts }
