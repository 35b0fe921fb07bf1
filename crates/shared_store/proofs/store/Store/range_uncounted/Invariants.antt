use Rattle.shared_store.proofs.store.Store.range_uncounted.Given as goal

abbrev pub ghosts-range_on : goal.ghosts-range_on
ghosts-range_on g a = record { name = a.blank.name; parts = a.blank.parts }
