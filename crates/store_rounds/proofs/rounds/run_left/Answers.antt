use Rattle.std.proofs.Common.{◌≡◌, ℕ, ◌+◌, ◌*◌, ◌<◌, ◌≤◌, true, length, List, ◌∷◌, ◌++◌, [], Ok, arith, ap, ◌∙◌, subst, refl, sym, append_assoc}
use Rattle.std.specs.Global.{Vec as GlobalVec}
use Rattle.std.specs.List.{list_all}
use Rattle.std.specs.Vec.Iter.{into_iter_items}
use Rattle.shared_store.specs.Building.{IsNewRow}
use Rattle.workload_spec.specs.Valid.{is_within}
use Rattle.workload_spec.specs.declared.script.Line.{Line}
use Rattle.store_rounds.specs.Turns.{most_of_turn}
use Rattle.store_rounds.specs.Answered.{most_events}
use Rattle.store_rounds.specs.Rounds.{HaveRoomFor, RanRound, RoundStops}
use Rattle.store_rounds.specs.Stations.{AreFree}
use Rattle.store_rounds.specs.Adding.{EndsRound}
use Rattle.store_rounds.specs.Duties.{IsWholeText}
use Rattle.store_rounds.specs.declared.crew.Crew.{Crew}
use Rattle.store_rounds.specs.declared.room.Station.{Station}
use Rattle.store_rounds.proofs.Apart.{left_is}
use Rattle.store_rounds.proofs.Scripts.{few_sessions, few_workers}
use Rattle.store_rounds.proofs.Turns.{none_left}
use Rattle.store_rounds.proofs.Short.{few_lines, few_rounds}
use Rattle.store_rounds.proofs.Running.{number_fits, round_has_room, round_once, round_served, round_within}
use Rattle.store_rounds.proofs.Logged.{failed_as}
use Rattle.store_rounds.proofs.Looping.{looping_begins, looping_cut, looping_ends, looping_goes_on, looping_stops, looping_unended}
use Rattle.store_rounds.proofs.rounds.run_left.Goals as goal

pub loop-round-init : goal.loop-round-init
loop-round-init g c = record {
  free = subst (λ (stations : List Station). AreFree 0 c.args.dispatcher.now.desks.now stations) (sym c.as_mut_slice-stations.ensures.value) c.requires.free;
  looping = looping_begins g.D.Disk.told g.D.Disk.moment g.D.Disk.left_since g.D.Disk.may_leave g.met.D.Disk.counts_now g.met.D.Disk.only_now
      c.args.script.now.value c.args.dispatcher.now.store.now c.args.disk.now c.args.log.now (g.O.Sink.written c.args.out.now) (g.X.Sink.written c.args.outlet.now)
      c.args.row.now c.requires.runnable c.requires.shape
      (subst (λ (crew : Crew). IsNewRow c.args.dispatcher.now.store.now (crew.sessions + crew.workers) c.args.row.now) c.requires.crew c.requires.row)
      c.requires.keeps c.requires.works;
  split = c.into_iter-round-iterator.ensures.into_iter_gives.0 ∙ c.into_vec-round-items.ensures ∙ left_is c.args.left.now _ _ c.take_all.ensures c.requires.left;
  kept_out = refl;
  kept_export = refl;
  kept_log = refl;
  started = refl;
  disk_started = refl;
}

pub run_round-requires-clause-sessions : goal.run_round-requires-clause-sessions
run_round-requires-clause-sessions g c κs within = c.loop-round.invariant.looping.running.stands.sessions

pub run_round-requires-clause-size : goal.run_round-requires-clause-size
run_round-requires-clause-size g c κs within =
    subst (λ (crew : Crew). length c.loop-round.row ≡ crew.sessions + crew.workers) (sym c.requires.crew) c.loop-round.invariant.looping.running.is.size

pub run_round-requires-clause-some : goal.run_round-requires-clause-some
run_round-requires-clause-some g c κs within =
    subst (λ (crew : Crew). 0 < crew.sessions) (sym c.requires.crew) c.loop-round.invariant.looping.running.some

pub run_round-requires-clause-workers : goal.run_round-requires-clause-workers
run_round-requires-clause-workers g c κs within =
    subst (λ (crew : Crew). crew.workers ≤ 16) (sym c.requires.crew) (few_workers c.args.script.now.value c.requires.runnable.valid)

pub run_round-requires-clause-few : goal.run_round-requires-clause-few
run_round-requires-clause-few g c κs within =
    subst (λ (crew : Crew). crew.sessions ≤ 64) (sym c.requires.crew) (few_sessions c.args.script.now.value c.requires.runnable.valid)

pub run_round-requires-clause-one : goal.run_round-requires-clause-one
run_round-requires-clause-one g c κs within =
    round_once c.args.script.now.value c.loop-round.yielded (into_iter_items c.next.new.self) c.in-Some.round
    (ap (λ (rounds : List (List Line)). c.loop-round.yielded ++ rounds) (sym c.in-Some.ensures.steps.0) ∙ c.loop-round.invariant.split)
    c.requires.runnable

pub run_round-requires-clause-turns : goal.run_round-requires-clause-turns
run_round-requires-clause-turns g c κs within =
    subst (λ (crew : Crew). crew.turns ≤ 100) (sym c.requires.crew) c.loop-round.invariant.looping.running.turns

pub run_round-requires-clause-numbers : goal.run_round-requires-clause-numbers
run_round-requires-clause-numbers g c κs within = c.loop-round.invariant.looping.running.stands.numbers

pub run_round-requires-clause-lines : goal.run_round-requires-clause-lines
run_round-requires-clause-lines g c κs within =
    subst (λ (crew : Crew). list_all (λ (line : Line). is_within 1 crew.sessions line.session) c.in-Some.round ≡ true) (sym c.requires.crew)
    (round_within c.args.script.now.value c.args.dispatcher.now.store.now c.loop-round.row c.loop-round.yielded (into_iter_items c.next.new.self) c.in-Some.round
    c.loop-round.invariant.looping.running.is
    (ap (λ (rounds : List (List Line)). c.loop-round.yielded ++ rounds) (sym c.in-Some.ensures.steps.0) ∙ c.loop-round.invariant.split)
    c.requires.runnable)

pub run_round-requires-clause-commands : goal.run_round-requires-clause-commands
run_round-requires-clause-commands g c κs within =
    round_served c.args.script.now.value c.args.dispatcher.now.store.now c.loop-round.row c.loop-round.yielded (into_iter_items c.next.new.self) c.in-Some.round
    c.loop-round.invariant.looping.running.is
    (ap (λ (rounds : List (List Line)). c.loop-round.yielded ++ rounds) (sym c.in-Some.ensures.steps.0) ∙ c.loop-round.invariant.split)
    c.requires.runnable

pub run_round-requires-clause-room : goal.run_round-requires-clause-room
run_round-requires-clause-room g c κs within =
    subst (λ (crew : Crew). HaveRoomFor (most_events * length c.in-Some.round + most_of_turn * crew.turns) c.loop-round.row) (sym c.requires.crew)
    (round_has_room c.args.script.now.value c.args.dispatcher.now.store.now c.loop-round.row c.loop-round.yielded (into_iter_items c.next.new.self)
    _ _ _ _ c.loop-round.number c.in-Some.round
    c.loop-round.invariant.looping.running
    (ap (λ (rounds : List (List Line)). c.loop-round.yielded ++ rounds) (sym c.in-Some.ensures.steps.0) ∙ c.loop-round.invariant.split)
    (few_lines c.args.script.now.value c.requires.short) (few_rounds c.args.script.now.value c.requires.short))

pub overflow_add-number : goal.overflow_add-number
overflow_add-number g c =
    let fits = number_fits c.loop-round.yielded (into_iter_items c.next.new.self) c.args.script.now.value.rounds c.in-Some.round c.loop-round.number
    c.loop-round.invariant.looping.running.asked_count
    (ap (λ (rounds : List (List Line)). c.loop-round.yielded ++ rounds) (sym c.in-Some.ensures.steps.0) ∙ c.loop-round.invariant.split)
    (few_rounds c.args.script.now.value c.requires.short) in
    omega (arith, fits)

pub loop-round-preserved : goal.loop-round-preserved
loop-round-preserved g c = record {
  free = c.run_round.ensures.free;
  looping = looping_goes_on g.D.Disk.told g.D.Disk.moment g.D.Disk.left_since g.D.Disk.may_leave g.met.D.Disk.counts_now g.met.D.Disk.only_now
      c.args.script.now.value c.args.dispatcher.now.store.now c.args.disk.now c.args.log.now (g.O.Sink.written c.args.out.now) (g.X.Sink.written c.args.outlet.now)
      c.loop-round.row c.run_round.new.row c.loop-round.yielded (into_iter_items c.next.new.self)
      _ (g.X.Sink.written c.loop-round.outlet) (g.X.Sink.written c.run_round.new.outlet) c.loop-round.number c.in-Some.round c.loop-round.disk c.loop-round.log
      c.requires.runnable
      (ap (λ (rounds : List (List Line)). c.loop-round.yielded ++ rounds) (sym c.in-Some.ensures.steps.0) ∙ c.loop-round.invariant.split)
      c.loop-round.invariant.looping
      c.in-Ok.duties.items
      (subst (λ (crew : Crew). RanRound c.args.dispatcher.now.store.now (c.loop-round.number + 1) crew c.loop-round.row c.run_round.new.row c.in-Some.round c.in-Ok.duties.items
      (g.X.Sink.written c.loop-round.outlet) (g.X.Sink.written c.run_round.new.outlet)) c.requires.crew c.in-Ok.ensures.whole)
      c.end_round.new.row c.end_round.ensures.row c.end_round.new.log c.end_round.new.disk
      c.in-Ok-end_round.text c.as_slice.result.now (g.O.Sink.written c.write_all.new.sink)
      (subst (IsWholeText c.in-Ok.duties.items) (sym c.as_slice.ensures.value) c.in-Ok-end_round.ensures.text)
      c.in_default.ensures.bytes
      (subst (λ (crew : Crew). EndsRound g.D.Disk.told g.D.Disk.moment g.D.Disk.left_since g.D.Disk.may_leave crew.sessions c.run_round.new.row c.end_round.new.row
      c.loop-round.log c.end_round.new.log c.loop-round.disk c.end_round.new.disk (Ok c.in-Ok-end_round.text)) c.requires.crew c.in-Ok-end_round.ensures.log);
  split = append_assoc c.loop-round.yielded (c.in-Some.round ∷ []) (into_iter_items c.next.new.self)
      ∙ (ap (λ (rounds : List (List Line)). c.loop-round.yielded ++ rounds) (sym c.in-Some.ensures.steps.0) ∙ c.loop-round.invariant.split);
  kept_out = c.in_default.ensures.kept ∙ c.loop-round.invariant.kept_out;
  kept_export = c.in-Ok.ensures.faults ∙ c.loop-round.invariant.kept_export;
  kept_log = c.in-Ok-end_round.ensures.cause ∙ c.loop-round.invariant.kept_log;
  started = c.run_round.ensures.started ∙ c.loop-round.invariant.started;
  disk_started = c.end_round.ensures.started ∙ c.loop-round.invariant.disk_started;
}

pub returns-in-Err-clause-part : goal.returns-in-Err-clause-part
returns-in-Err-clause-part g c =
    looping_stops g.D.Disk.told g.D.Disk.moment g.D.Disk.left_since g.D.Disk.may_leave g.met.D.Disk.counts_now g.met.D.Disk.only_now
    c.args.script.now.value c.args.dispatcher.now.store.now c.args.disk.now c.args.log.now (g.O.Sink.written c.args.out.now) (g.X.Sink.written c.args.outlet.now)
    c.loop-round.row c.run_round.new.row c.loop-round.yielded (into_iter_items c.next.new.self)
    _ (g.X.Sink.written c.loop-round.outlet) (g.X.Sink.written c.run_round.new.outlet) c.loop-round.number c.in-Some.round c.loop-round.disk c.loop-round.log
    c.requires.runnable
    (ap (λ (rounds : List (List Line)). c.loop-round.yielded ++ rounds) (sym c.in-Some.ensures.steps.0) ∙ c.loop-round.invariant.split)
    c.loop-round.invariant.looping
    c.in-Err.fault
    (subst (λ (crew : Crew). RoundStops c.args.dispatcher.now.store.now crew c.loop-round.row c.run_round.new.row c.in-Some.round
    (g.X.Sink.written c.loop-round.outlet) (g.X.Sink.written c.run_round.new.outlet) c.in-Err.fault) c.requires.crew c.in-Err.ensures.part)

pub returns-in-Err-end_round-clause-part : goal.returns-in-Err-end_round-clause-part
returns-in-Err-end_round-clause-part g c =
    looping_unended g.D.Disk.told g.D.Disk.moment g.D.Disk.left_since g.D.Disk.may_leave g.met.D.Disk.counts_now g.met.D.Disk.only_now
    c.args.script.now.value c.args.dispatcher.now.store.now c.args.disk.now c.args.log.now (g.O.Sink.written c.args.out.now) (g.X.Sink.written c.args.outlet.now)
    c.loop-round.row c.run_round.new.row c.loop-round.yielded (into_iter_items c.next.new.self)
    _ (g.X.Sink.written c.loop-round.outlet) (g.X.Sink.written c.run_round.new.outlet) c.loop-round.number c.in-Some.round c.loop-round.disk c.loop-round.log
    c.requires.runnable
    (ap (λ (rounds : List (List Line)). c.loop-round.yielded ++ rounds) (sym c.in-Some.ensures.steps.0) ∙ c.loop-round.invariant.split)
    c.loop-round.invariant.looping
    c.in-Ok.duties.items
    (subst (λ (crew : Crew). RanRound c.args.dispatcher.now.store.now (c.loop-round.number + 1) crew c.loop-round.row c.run_round.new.row c.in-Some.round c.in-Ok.duties.items
    (g.X.Sink.written c.loop-round.outlet) (g.X.Sink.written c.run_round.new.outlet)) c.requires.crew c.in-Ok.ensures.whole)
    c.end_round.new.row c.end_round.ensures.row c.end_round.new.log c.end_round.new.disk
    (GlobalVec ℕ) c.in-Err-end_round.fault
    (subst (λ (crew : Crew). EndsRound g.D.Disk.told g.D.Disk.moment g.D.Disk.left_since g.D.Disk.may_leave crew.sessions c.run_round.new.row c.end_round.new.row
    c.loop-round.log c.end_round.new.log c.loop-round.disk c.end_round.new.disk (failed_as (GlobalVec ℕ) c.in-Err-end_round.fault)) c.requires.crew c.in-Err-end_round.ensures.log)

pub returns-in-Err-write_all-clause-part : goal.returns-in-Err-write_all-clause-part
returns-in-Err-write_all-clause-part g c =
    looping_cut g.D.Disk.told g.D.Disk.moment g.D.Disk.left_since g.D.Disk.may_leave g.met.D.Disk.counts_now g.met.D.Disk.only_now
    c.args.script.now.value c.args.dispatcher.now.store.now c.args.disk.now c.args.log.now (g.O.Sink.written c.args.out.now) (g.X.Sink.written c.args.outlet.now)
    c.loop-round.row c.run_round.new.row c.loop-round.yielded (into_iter_items c.next.new.self)
    _ (g.X.Sink.written c.loop-round.outlet) (g.X.Sink.written c.run_round.new.outlet) c.loop-round.number c.in-Some.round c.loop-round.disk c.loop-round.log
    c.requires.runnable
    (ap (λ (rounds : List (List Line)). c.loop-round.yielded ++ rounds) (sym c.in-Some.ensures.steps.0) ∙ c.loop-round.invariant.split)
    c.loop-round.invariant.looping
    c.in-Ok.duties.items
    (subst (λ (crew : Crew). RanRound c.args.dispatcher.now.store.now (c.loop-round.number + 1) crew c.loop-round.row c.run_round.new.row c.in-Some.round c.in-Ok.duties.items
    (g.X.Sink.written c.loop-round.outlet) (g.X.Sink.written c.run_round.new.outlet)) c.requires.crew c.in-Ok.ensures.whole)
    c.end_round.new.row c.end_round.ensures.row c.end_round.new.log c.end_round.new.disk
    c.in-Ok-end_round.text c.as_slice.result.now (g.O.Sink.written c.write_all.new.sink)
    (subst (IsWholeText c.in-Ok.duties.items) (sym c.as_slice.ensures.value) c.in-Ok-end_round.ensures.text)
    c.in-Err-write_all.ensures.bytes
    (subst (λ (crew : Crew). EndsRound g.D.Disk.told g.D.Disk.moment g.D.Disk.left_since g.D.Disk.may_leave crew.sessions c.run_round.new.row c.end_round.new.row
    c.loop-round.log c.end_round.new.log c.loop-round.disk c.end_round.new.disk (Ok c.in-Ok-end_round.text)) c.requires.crew c.in-Ok-end_round.ensures.log)

pub returns-clause-whole : goal.returns-clause-whole
returns-clause-whole g c =
    looping_ends g.D.Disk.told g.D.Disk.moment g.D.Disk.left_since g.D.Disk.may_leave g.met.D.Disk.counts_now g.met.D.Disk.only_now
    c.args.script.now.value c.args.dispatcher.now.store.now c.args.disk.now c.args.log.now (g.O.Sink.written c.args.out.now) (g.X.Sink.written c.args.outlet.now)
    c.loop-round.row c.loop-round.yielded _ _ c.loop-round.number c.loop-round.disk c.loop-round.log c.requires.runnable c.loop-round.invariant.looping
    (none_left c.loop-round.yielded (into_iter_items c.loop-round.round-iterator) c.args.script.now.value.rounds
    (omega (arith, c.in-None.ensures.steps.0, c.loop-round.round-iterator.rest.ok.0)) c.loop-round.invariant.split)
