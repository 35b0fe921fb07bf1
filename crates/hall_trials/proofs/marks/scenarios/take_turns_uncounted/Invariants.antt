use Rattle.hall_trials.proofs.marks.scenarios.take_turns_uncounted.Given as goal

abbrev pub ghosts-take_turns : goal.ghosts-take_turns
ghosts-take_turns g a = record { name = a.blank.name; parts = a.blank.parts }
