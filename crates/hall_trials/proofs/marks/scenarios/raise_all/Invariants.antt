use Rattle.hall_trials.proofs.marks.scenarios.raise_all.Given as goal

abbrev pub ghosts-raise_often : goal.ghosts-raise_often
ghosts-raise_often g a = record { name = a.blank.name; parts = a.blank.parts }
