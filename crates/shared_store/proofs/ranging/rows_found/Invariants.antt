use Rattle.shared_store.proofs.ranging.rows_found.Given as goal

abbrev pub ghosts-rows_found_by : goal.ghosts-rows_found_by
ghosts-rows_found_by a = record { name = a.blank.name; parts = a.blank.parts }
