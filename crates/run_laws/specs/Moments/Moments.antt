-- The moments of a run: those of its rounds, with the printed reply of each call.
use Rattle.std.specs.Prelude.{ℕ, ◌+◌, ◌-◌, nat_le, ◌==◌, List, [], ◌∷◌, ◌++◌, map, filter_map}
use Rattle.std.specs.Prelude.{Option, None, Some, option_and_then, if◌then◌else◌}
use Rattle.std.specs.List.{flat_map, range_with_len}
use Rattle.cell_model.specs.declared.table.TableDecl.{TableDecl}
use Rattle.outcome_spec.specs.Entries.{Entry}
use Rattle.outcome_spec.specs.Forms.{Due, entry_behind}
use Rattle.workload_spec.specs.declared.reply.Said.{Said}
use Rattle.workload_spec.specs.declared.reply.Who.{Who}
use Rattle.workload_spec.specs.declared.reply.Who.TheVariants.{Session, Worker}
use Rattle.workload_spec.specs.declared.script.Script.{Script}
use Rattle.run_spec.specs.Calls.{Call}
use Rattle.run_spec.specs.Ran.{RoundRun, Share}
use Rattle.run_laws.specs.Calls.Moments.{Lined, Moment, Pending, merged}

-- ---- who stands where

-- the numbers under which the sessions and the workers of a script stand in its log
abbrev pub seats_of : Script → List ℕ
seats_of script = range_with_len 1 (script.sessions + script.workers)

-- who stands under a number
abbrev pub who_at : Script → ℕ → Who
who_at script seat =
    if nat_le seat script.sessions then Session seat else Worker (seat - script.sessions)

-- ---- printed replies

abbrev pub due_of : ℕ → Who → Call → Due
due_of number who call = record { round = number; who = who; command = call.command }

-- the printed reply of what is told behind earlier ones; none of what is silent
abbrev pub printed_by : List TableDecl → List Entry → Due → Option Said → Option Entry
printed_by tables earlier due None = None
printed_by tables earlier due (Some told) = Some (entry_behind tables earlier due told)

abbrev pub with_reply : List Entry → Option Entry → List Entry
with_reply earlier None = earlier
with_reply earlier (Some entry) = earlier ++ entry ∷ []

-- Calls of one, with their printed replies.
abbrev pub lined : List TableDecl → List Entry → ℕ → Who → List Call → List Lined
lined tables earlier number who [] = []
lined tables earlier number who (call ∷ calls) =
    record {
      call = call;
      printed = printed_by tables earlier (due_of number who call) call.told;
    }
    ∷ lined
    tables
    (with_reply earlier (printed_by tables earlier (due_of number who call) call.told))
    number
    who
    calls

abbrev pub printed_in : List Lined → List Entry
printed_in lines = filter_map (λ line. line.printed) lines

-- The calls of a round, one list for each share of it.
abbrev pub shares_lined : List TableDecl → List Entry → ℕ → List Share → List (List Lined)
shares_lined tables earlier number [] = []
shares_lined tables earlier number (share ∷ shares) =
    lined tables earlier number share.who share.calls
    ∷ shares_lined
    tables
    (earlier ++ printed_in (lined tables earlier number share.who share.calls))
    number
    shares

abbrev pub all_printed : List (List Lined) → List Entry
all_printed shares = flat_map printed_in shares

-- ---- moments

abbrev pub pending_of : Lined → Pending
pending_of line = record { made = line.call.made; line = line }

-- the calls of the share at a seat
abbrev pub pending_at : List ℕ → List (List Lined) → ℕ → List Pending
pending_at [] shares seat = []
pending_at (first ∷ seats) [] seat = []
pending_at (first ∷ seats) (lines ∷ shares) seat =
    if first == seat then map pending_of lines else pending_at seats shares seat

-- The moments of a round whose replies are printed behind these.
abbrev pub round_moments : Script → List Entry → ℕ → RoundRun → List Moment
round_moments script earlier number round = merged
    (seats_of script)
    round.made
    (pending_at (seats_of script) (shares_lined script.tables earlier number round.shares))

abbrev pub moments_from : Script → List Entry → ℕ → List RoundRun → List Moment
moments_from script earlier number [] = []
moments_from script earlier number (round ∷ rounds) =
    round_moments script earlier number round
    ++ moments_from
    script
    (earlier ++ all_printed (shares_lined script.tables earlier number round.shares))
    (number + 1)
    rounds

-- The moments of a run.
abbrev pub moments_of : Script → List RoundRun → List Moment
moments_of script rounds = moments_from script [] 1 rounds

-- the reply that is printed of a moment
abbrev pub reply_of : Moment → Option Entry
reply_of moment = option_and_then (λ line. line.printed) moment.line

-- The printed replies in the order of the moments.
abbrev pub replies_at : List Moment → List Entry
replies_at moments = filter_map reply_of moments
