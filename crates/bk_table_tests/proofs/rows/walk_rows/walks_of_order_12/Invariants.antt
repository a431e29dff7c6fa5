use Rattle.bk_table_tests.proofs.rows.walk_rows.walks_of_order_12.Given as goal

abbrev pub ghosts-walks : goal.ghosts-walks
ghosts-walks g a = record { name = a.blank.name; parts = a.blank.parts }
