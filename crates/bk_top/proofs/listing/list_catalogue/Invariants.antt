use Rattle.bk_top.proofs.listing.list_catalogue.Given as goal

abbrev pub ghosts-list_members : goal.ghosts-list_members
ghosts-list_members g a = record { name = a.blank.name; parts = a.blank.parts }
