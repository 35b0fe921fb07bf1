-- What an export sent, and what the printed lines of its run say of it.
use Rattle.std.specs.Prelude.{◌≡◌, ℕ, false, List, [], ◌∷◌, ◌++◌}
use Rattle.std.specs.List.{list_any}
use Rattle.cell_model.specs.declared.table.TableDecl.{TableDecl}
use Rattle.export_spec.specs.Calls.{CallSends, CallsSend, WereSent, calls_in}
use Rattle.export_spec.specs.Sent.{EachSays, SaysAllSent}
use Rattle.run_laws.specs.Explained.Timelines.{PruningsFit}
use Rattle.outcome_spec.specs.Explained.{run_in}
use Rattle.run_spec.specs.Calls.{Call}
use Rattle.run_spec.specs.Occurrences.{Logged}
use Rattle.run_spec.specs.Ran.{IsRunnable, Ran, told_in}
use Rattle.workload_spec.specs.declared.script.Script.{Script}
use Rattle.workload_spec.specs.Valid.{all_lines, is_export}

-- In whatever order the sessions of a run went on, its printed lines say what its export sent.
abbrev pub ExportsAreSaid : Type 0
ExportsAreSaid = (script : Script) (log : List Logged) (text : List ℕ) (bytes : List ℕ)
    → IsRunnable script
    → (ran : Ran script log text)
    → PruningsFit (told_in ran.rounds)
    → WereSent script.tables ran.rounds bytes
    → EachSays (run_in script text) bytes (run_in script text).entries

-- Where no line of a script is an export, its run sent nothing.
abbrev pub WithoutAnExportNothingIsSent : Type 0
WithoutAnExportNothingIsSent = (script : Script) (log : List Logged) (text : List ℕ)
    (bytes : List ℕ)
    → (ran : Ran script log text)
    → WereSent script.tables ran.rounds bytes
    → list_any (λ line. is_export line.command) (all_lines script) ≡ false
    → bytes ≡ []

-- One call more, and more calls: what they sent stands behind what was sent before.
abbrev pub SendingGoesOn : Type 0
SendingGoesOn = (tables : List TableDecl) (calls : List Call) (call : Call) (sent bytes : List ℕ)
    → CallsSend tables calls sent
    → CallSends tables call bytes
    → CallsSend tables (calls ++ call ∷ []) (sent ++ bytes)

abbrev pub SendingsJoin : Type 0
SendingsJoin = (tables : List TableDecl) (calls more : List Call) (sent bytes : List ℕ)
    → CallsSend tables calls sent
    → CallsSend tables more bytes
    → CallsSend tables (calls ++ more) (sent ++ bytes)

-- A valid script has one export at most. So what the calls of its run sent one behind the other is
-- what this export sent, and the printed lines say it.
abbrev pub RunsSayAllSent : Type 0
RunsSayAllSent = (script : Script) (log : List Logged) (text : List ℕ) (bytes : List ℕ)
    → IsRunnable script
    → (ran : Ran script log text)
    → PruningsFit (told_in ran.rounds)
    → CallsSend script.tables (calls_in ran.rounds) bytes
    → SaysAllSent script text bytes

-- Of a workload without a round the empty text says that nothing was sent.
abbrev pub NothingSaysNothing : Type 0
NothingSaysNothing = (script : Script) → SaysAllSent (record script { rounds = [] }) [] []
