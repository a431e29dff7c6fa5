use Rattle.bk_table_tests.proofs.rows.square_rows.walks_come_to_just_these_squares.Given as goal

abbrev pub ghosts-orders : goal.ghosts-orders
ghosts-orders g a = record { name = a.blank.name; parts = a.blank.parts }
