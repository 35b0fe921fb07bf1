use Rattle.store_export.proofs.exporting.export_uncounted.Given as goal

abbrev pub ghosts-export_on : goal.ghosts-export_on
ghosts-export_on g a = record { name = a.blank.name; parts = a.blank.parts }
