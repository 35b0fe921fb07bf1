use Rattle.shared_store.proofs.store.Store.scan_uncounted.Given as goal

abbrev pub ghosts-scan_on : goal.ghosts-scan_on
ghosts-scan_on g a = record { name = a.blank.name; parts = a.blank.parts }
