-- The printed lines of a run say what its export sent.
use Rattle.std.proofs.Common.{◌≡◌, ℕ, List, [], Option, Ok, refl, sym, ap, ◌∙◌, subst}
use Rattle.std.specs.Prelude.{Result, unwrap_or}
use Rattle.std.specs.Result.{result_ok}
use Rattle.event_spec.specs.Replay.{opening}
use Rattle.run_laws.proofs.Moments.Reads.{runs_read}
use Rattle.run_laws.proofs.Explained.Explaining.{told_stands}
use Rattle.run_laws.proofs.Explained.Holding.{holds_first}
use Rattle.run_laws.proofs.Explained.Walk.{runs_give_timelines}
use Rattle.run_laws.proofs.Exports.Lines.{each_says}
use Rattle.run_laws.proofs.Exports.Sent.{lines_of_calls}
use Rattle.run_laws.proofs.Exports.Walking.{Says, all_say}
use Rattle.run_laws.specs.Exports.Laws.{ExportsAreSaid}
use Rattle.export_spec.specs.Calls.{SendsBy}
use Rattle.export_spec.specs.Sent.{EachSays}
use Rattle.isolation_spec.specs.Machine as machine
use Rattle.run_laws.proofs.Moments.Rounds.{runs_have_moments}
use Rattle.run_laws.specs.Moments.Moments.{moments_of, replies_at}
use Rattle.outcome_spec.specs.Entries.{Entry}
use Rattle.outcome_spec.specs.Explained.{replies_of, run_in}
use Rattle.outcome_spec.specs.Runs.{Run, run_from}
use Rattle.run_laws.proofs.Calls.Named.{run_lawful, run_named}
use Rattle.run_spec.specs.Traces.{as_log}
use Rattle.run_spec.specs.Ran.{shape_of, told_in}
use Rattle.timeline_laws.proofs.Histories.{each-only}
use Rattle.timeline_laws.proofs.Order.{Each-printed}
use Rattle.timeline_laws.proofs.Scripts.{timeline-read}
use Rattle.timeline_laws.proofs.Walk.{shown-opening}
use Rattle.timeline_spec.specs.Printed.{printed_of, text_of}
use Rattle.timeline_spec.specs.Timeline.{TimelineFrom}

-- A run's printed lines say what its export sent.
pub exports_are_said : ExportsAreSaid
exports_are_said script log text bytes valid ran fit sent =
    let told : List (Option Rattle.workload_spec.specs.declared.reply.Said.Said) = told_in ran.rounds in
    let printed : List Entry = printed_of script (told_in ran.rounds) in
    let moments = runs_have_moments script log text ran in
    let t : TimelineFrom script.begun script.tables (printed_of script (told_in ran.rounds)) (replies_at (moments_of script ran.rounds)) =
    runs_give_timelines script log text valid ran in
    let all = all_say script valid (printed_of script (told_in ran.rounds)) (replies_at (moments_of script ran.rounds)) t bytes (moments_of script ran.rounds)
    (as_log ran.trace) (opening (shape_of script)) [] (machine.opening_from script.begun) []
    (holds_first script valid.shape)
    (run_lawful script log text ran) (run_named script log text ran) moments.calls (runs_read script log text valid.valid ran) moments.events
    (lines_of_calls (λ call. SendsBy script.tables call bytes) script ran.rounds sent.by_calls)
    (record {
      runs = t.runs;
      whole = refl;
      shown = shown-opening script.begun;
      last_is = refl;
      only = each-only script.begun script.tables (printed_of script (told_in ran.rounds)) (replies_at (moments_of script ran.rounds)) t;
    }) in
    let read : replies_of script (text_of script (told_in ran.rounds)) ≡ Ok (printed_of script (told_in ran.rounds)) =
    timeline-read script (told_in ran.rounds) (replies_at (moments_of script ran.rounds)) valid.valid valid.shape.commits (told_stands script log text valid ran fit) t in
    let shown : run_in script text ≡ run_from script.begun script.tables (printed_of script (told_in ran.rounds)) =
    ap (λ (text : List ℕ). run_from script.begun script.tables (unwrap_or (result_ok (replies_of script text)) [])) ran.printed
    ∙ ap (λ (replies : Result (List Entry) ℕ). run_from script.begun script.tables (unwrap_or (result_ok replies) [])) read in
    let says = Each-printed (Says script valid (printed_of script (told_in ran.rounds)) (replies_at (moments_of script ran.rounds)) t bytes)
    (printed_of script (told_in ran.rounds)) (replies_at (moments_of script ran.rounds)) t.threads all in
    subst (λ (shown_run : Run). EachSays shown_run bytes shown_run.entries) (sym shown)
    (each_says (run_from script.begun script.tables (printed_of script (told_in ran.rounds))) bytes (printed_of script (told_in ran.rounds)) says)
