-- Turns of workers: outputs with their answers.
use Rattle.std.specs.Prelude.{codes, List, [], ◌∷◌}
use Rattle.outcome_examples.specs.Cases.{Case, AreJudged, explained, fails_at, one_worker}
use Rattle.outcome_examples.specs.Cases.{three_idle_workers, two_turns, two_workers}

abbrev pub turns_cases : List Case
turns_cases =
    -- memory backtracks
    explained one_worker [] (codes "1 w1 1 cooling 0\n1 w1 2 pruned 0\n1 w1 3 moved 0\n1 w1 4 memory\n1 w1 5 sealed b 0 1\n") ∷
    -- memory 4
    explained one_worker [] (codes "1 w1 1 cooling 0\n1 w1 2 pruned 0\n1 w1 3 memory\n1 w1 4 memory\n1 w1 5 memory\n1 w1 6 memory\n") ∷
    -- memory 5
    fails_at 7 one_worker [] (codes "1 w1 1 cooling 0\n1 w1 2 pruned 0\n1 w1 3 memory\n1 w1 4 memory\n1 w1 5 memory\n1 w1 6 memory\n1 w1 7 memory\n") ∷
    -- memory 1 then none
    fails_at 4 one_worker [] (codes "1 w1 1 cooling 0\n1 w1 2 pruned 0\n1 w1 3 memory\n") ∷
    -- moved thrice
    fails_at 5 one_worker [] (codes
    "1 w1 1 cooling 0\n1 w1 2 pruned 0\n1 w1 3 moved 0\n1 w1 4 moved 0\n1 w1 5 moved 0\n") ∷
    -- memory after the last moved
    fails_at 6 one_worker [] (codes "1 w1 1 cooling 0\n1 w1 2 pruned 0\n1 w1 3 moved 0\n1 w1 4 moved 0\n1 w1 5 memory\n1 w1 6 memory\n") ∷
    -- memory for a seal
    fails_at 7 one_worker [] (codes "1 w1 1 cooling 0\n1 w1 2 pruned 0\n1 w1 3 moved 0\n1 w1 4 sealed a 0 1\n1 w1 5 memory\n1 w1 6 memory\n1 w1 7 frozen b 0 1\n") ∷
    -- not frozen by a worker
    fails_at 4 one_worker [] (codes "1 w1 1 cooling 0\n1 w1 2 pruned 0\n1 w1 3 moved 0\n1 w1 4 not frozen\n1 w1 5 moved 0\n") ∷
    -- not sealed by a worker
    fails_at 4 one_worker [] (codes
    "1 w1 1 cooling 0\n1 w1 2 pruned 0\n1 w1 3 moved 0\n1 w1 4 not sealed head\n") ∷
    -- memory at cooling
    fails_at 1 one_worker [] (codes "1 w1 1 memory\n") ∷
    -- turn missing
    fails_at 5 two_turns [] (codes
    "1 w1 1 cooling 0\n1 w1 2 pruned 0\n1 w1 3 moved 0\n1 w1 4 moved 0\n") ∷
    -- two turns
    explained two_turns [] (codes "1 w1 1 cooling 0\n1 w1 2 pruned 0\n1 w1 3 moved 0\n1 w1 4 memory\n1 w1 5 cooling 0\n1 w1 6 pruned 0\n1 w1 7 memory\n1 w1 8 memory\n1 w1 9 memory\n") ∷
    -- no turns
    fails_at 1 three_idle_workers [] (codes "1 w1 1 cooling 0\n") ∷
    -- two workers
    explained two_workers [] (codes "1 w1 1 cooling 0\n1 w1 2 pruned 0\n1 w1 3 moved 0\n1 w1 4 moved 0\n1 w2 1 cooling 0\n1 w2 2 pruned 0\n1 w2 3 moved 0\n1 w2 4 moved 64\n") ∷
    -- workers in two rounds
    fails_at 8 one_worker (codes "--\n") (codes "1 w1 1 cooling 0\n1 w1 2 pruned 0\n1 w1 3 moved 0\n1 w1 4 moved 0\n2 w1 1 cooling 0\n2 w1 2 pruned 0\n2 w1 3 moved 0\n2 w1 4 moved 65\n") ∷
    -- worker index goes on
    fails_at 5 one_worker (codes "--\n") (codes "1 w1 1 cooling 0\n1 w1 2 pruned 0\n1 w1 3 moved 0\n1 w1 4 moved 0\n2 w1 5 cooling 0\n") ∷ []

abbrev pub TurnsAreJudged : Type 0
TurnsAreJudged = AreJudged turns_cases
