use Rattle.sole_store.proofs.making.make.Given as goal

abbrev pub ghosts-make_by : goal.ghosts-make_by
ghosts-make_by a = record { name = a.blank.name; parts = a.blank.parts }
