-- The calls of a run answer what is due, one by one.
use Rattle.std.specs.Prelude.{◌≡◌, ℕ, List, map}
use Rattle.std.specs.List.{enumerate_from, flat_map}
use Rattle.outcome_spec.specs.Forms.{Due, dues_of}
use Rattle.workload_spec.specs.declared.script.Script.{Script}
use Rattle.run_spec.specs.Ran.{RoundRun, agenda_of, agendas_in}

-- what the calls of a round answer, in the order of the lines
abbrev pub dues_answered : ℕ → RoundRun → List Due
dues_answered number round = flat_map
    (λ share.
    map (λ call. record { round = number; who = share.who; command = call.command }) share.calls)
    round.shares

-- Where the calls' commands are what was asked, they answer what is due, in order.
abbrev pub CallsAnswerDues : Type 0
CallsAnswerDues = (script : Script) (rounds : List RoundRun)
    → map (λ round. map agenda_of round.shares) rounds ≡ map (agendas_in script) script.rounds
    → dues_of script ≡ flat_map (λ entry. dues_answered entry.0 entry.1) (enumerate_from 1 rounds)
