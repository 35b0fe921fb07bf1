use Rattle.shared_store.proofs.store.Store.make_on.Given as goal

abbrev pub ghosts-make_held_by : goal.ghosts-make_held_by
ghosts-make_held_by a = record { name = a.blank.name; parts = a.blank.parts }
