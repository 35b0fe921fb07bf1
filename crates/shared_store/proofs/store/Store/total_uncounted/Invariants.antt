use Rattle.shared_store.proofs.store.Store.total_uncounted.Given as goal

abbrev pub ghosts-total_on : goal.ghosts-total_on
ghosts-total_on g a = record { name = a.blank.name; parts = a.blank.parts }
