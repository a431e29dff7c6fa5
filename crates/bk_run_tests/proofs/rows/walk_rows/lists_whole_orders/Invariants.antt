use Rattle.bk_run_tests.proofs.rows.walk_rows.lists_whole_orders.Given as goal

abbrev pub ghosts-whole_orders : goal.ghosts-whole_orders
ghosts-whole_orders g a = record { name = a.blank.name; parts = a.blank.parts }
