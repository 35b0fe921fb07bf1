use Rattle.shared_store.proofs.store.Store.make.Given as goal

abbrev pub ghosts-make_by : goal.ghosts-make_by
ghosts-make_by g a = record { name = a.blank.name; parts = a.blank.parts }
