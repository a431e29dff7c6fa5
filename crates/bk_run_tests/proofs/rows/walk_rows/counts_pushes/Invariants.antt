use Rattle.bk_run_tests.proofs.rows.walk_rows.counts_pushes.Given as goal

abbrev pub ghosts-parts_of_order_9 : goal.ghosts-parts_of_order_9
ghosts-parts_of_order_9 g a = record { name = a.blank.name; parts = a.blank.parts }
