use Rattle.std.proofs.Common.{◌≡◌, ◌==◌, cond, ◌&&◌, ℕ, Bool, true, false, not, List, [], ◌∷◌, map, Option, None, Some, refl, arith, pos, nat_le}
use mathlib.Core.Logic.{inl}
use Rattle.std.specs.Prelude.{All, take, drop}
use Rattle.std.specs.List.{list_all}
use Rattle.std.proofs.lemmas.List.Elements.{All-cons, All-nil}
use Rattle.std.proofs.lemmas.Bool.{and_parts}
use Rattle.std.proofs.lemmas.Bool.Decides.{nat_tests}
use Rattle.event_spec.specs.Lawful.{IsOwn}
use Rattle.event_spec.specs.Parts.{Parts}
use Rattle.event_spec.specs.Replay.{after, opening, replies_from, reply_after}
use Rattle.workload_spec.specs.declared.command.Command.{Command}
use Rattle.workload_spec.specs.declared.command.Command.TheVariants as command
use Rattle.workload_spec.specs.declared.reply.Said.{Said}
use Rattle.workload_spec.specs.declared.reply.Said.TheVariants as said
use Rattle.workload_spec.specs.declared.reply.Who.TheVariants.{Session, Worker}
use Rattle.workload_spec.specs.declared.reply.Who.{Who}
use Rattle.std.specs.List.{flat_map}
use Rattle.run_spec.specs.Calls.{Call, Kept}
use Rattle.run_spec.specs.Occurrences.{Logged, Occurrence, occurrences_in, under}
use Rattle.run_spec.specs.Ran.{IsDone, IsOfScript, RoundRun, Share, calls_of, shape_of}
use Rattle.run_spec.specs.RunExamples.{script, log, own}
use Rattle.run_spec.specs.Told.{is_shared}
use Rattle.run_spec.specs.Traces.{LendsFit, as_event}
use Rattle.run_spec.proofs.examples.a_session_exports_beside_a_worker.Goals as goal

abbrev made : List Occurrence
made = occurrences_in (shape_of script) log

-- so many of one's events, behind the first so many
abbrev some_of : ℕ → ℕ → ℕ → List Occurrence
some_of session first count = take count (drop first (under session made))

abbrev call : Command → List Occurrence → Option Said → Call
call asked occurrences told = record { command = asked; made = occurrences; told = told; reads = None }

abbrev session_share : Share
session_share = record {
  who = Session 1;
  calls =
      call (command.Begin false) (some_of 1 0 1) (Some (said.At 0))
      ∷ call (command.Begin false) [] (Some said.InTransaction)
      ∷ call (command.Export 0) (some_of 1 1 2) (Some (said.Exported 0 0 0 0))
      ∷ call command.Commit (some_of 1 3 1) (Some (said.Committed None))
      ∷ call (command.Get 0 (pos 5)) [] (Some said.NoTransaction)
      ∷ [];
}

abbrev worker_share : Share
worker_share = record {
  who = Worker 1;
  calls =
      call command.Observe (some_of 2 0 2) (Some (said.Cooling 0))
      ∷ call command.Prune (some_of 2 2 3) (Some (said.Pruned 0))
      ∷ call (command.Compact 0) (some_of 2 5 2) (Some (said.Moved 0))
      ∷ call (command.Seal 0 0) (some_of 2 7 1) None
      ∷ call (command.Gather 0 0) (some_of 2 8 1) None
      ∷ call (command.Seal 0 1) (some_of 2 9 1) None
      ∷ call (command.Gather 0 1) (some_of 2 10 1) None
      ∷ [];
}

abbrev round : RoundRun
round = record { made = made; shares = session_share ∷ worker_share ∷ [] }

abbrev is_of_script : Occurrence → Bool
is_of_script occurrence = nat_le 1 occurrence.session && nat_le occurrence.session 2

-- an event that passes the test, before others that stand so
one_of_script : (first : Occurrence) (rest : List Occurrence) (above below : Bool)
    → nat_le 1 first.session ≡ above → nat_le first.session 2 ≡ below
    → ((above && below) && list_all is_of_script rest) ≡ true
    → (list_all is_of_script rest ≡ true → All (IsOfScript script) rest)
    → All (IsOfScript script) (first ∷ rest)
one_of_script first rest true true a b e others = All-cons (IsOfScript script) first rest
    (grind (arith, nat_tests, a), grind (arith, nat_tests, b)) (others e)
one_of_script first rest true false a b e others = absurd (let never : ⊥ = cc e in never)
one_of_script first rest false below a b e others = absurd (let never : ⊥ = cc e in never)

-- each event of a list that passes the test stands under the session or the worker
all_of_script
    : (events : List Occurrence) → list_all is_of_script events ≡ true → All (IsOfScript script) events
all_of_script [] e = All-nil (IsOfScript script)
all_of_script (first ∷ rest) e = one_of_script
    first
    rest
    (nat_le 1 first.session)
    (nat_le first.session 2)
    refl
    refl
    e
    (λ h. all_of_script rest h)

-- what takes memory or not was granted
granted : {takes : Bool} → false ≡ true → takes ≡ true
granted e = absurd (let never : ⊥ = cc e in never)

-- a transaction that wrote nothing is handed in as it is
has_nothing
    : (parts : Parts) → IsOwn (shape_of script) parts own (record { snapshot = own.snapshot; writes = [] })
has_nothing parts = record {
  snapshot = refl;
  writes = λ table key place. (λ e. absurd (let never : ⊥ = cc e in never), λ h. absurd h);
}

-- Events that tell no image stand where they are.
events_fit : (parts : Parts) (entries : List Logged)
    → list_all (λ told. not (is_shared told)) (replies_from (shape_of script) parts (map (λ (entry : Logged). entry.made) entries)) ≡ true
    → LendsFit (shape_of script) parts (map as_event entries)
events_fit parts [] none = tt
events_fit parts (entry ∷ entries) none =
    let both = and_parts (not (is_shared (reply_after (shape_of script) parts entry.made))) (list_all (λ told. not (is_shared told)) (replies_from (shape_of script) (after (shape_of script) parts entry.made) (map (λ (entry : Logged). entry.made) entries))) none in (
      record { lend = λ e. absurd (let never : ⊥ = cc e in never); read = λ e. none_shared (is_shared (reply_after (shape_of script) parts entry.made)) both.0 },
      events_fit (after (shape_of script) parts entry.made) entries both.1,
    )
  where
    none_shared : (b : Bool) → not b ≡ true → b ≡ false
    none_shared false is = refl
    none_shared true is = cc

session_done : IsDone script [] made session_share
session_done = record {
  events = refl;
  calls = (
    inl (record { events = refl; granted = refl; line = refl }),
    (
      (refl, refl),
      (
        inl (record { events = refl; granted = refl; line = refl }),
        (
          inl (record { events = refl; granted = refl; line = refl }),
          ((refl, refl), tt),
        ),
      ),
    ),
  );
}

worker_done : IsDone script [] made worker_share
worker_done = record {
  events = refl;
  calls = (
    inl (record { events = refl; granted = refl; line = refl }),
    (
      inl (record { events = refl; granted = refl; line = refl }),
      (
        inl (record { events = refl; granted = refl; line = refl }),
        (
          inl (record { events = refl; granted = refl; line = refl }),
          (
            inl (record { events = refl; granted = refl; line = refl }),
            (
              inl (record { events = refl; granted = refl; line = refl }),
              (
                inl (record { events = refl; granted = refl; line = refl }),
                tt,
              ),
            ),
          ),
        ),
      ),
    ),
  );
}

-- the session's calls keep no reads, nor do the worker's
kept : (who : Who) → Kept None (calls_of who (round ∷ []))
kept (Session session) = go (1 == session)
  where
    go : (b : Bool) → Kept None (flat_map (λ share. share.calls) (cond b (session_share ∷ []) []))
    go true = (refl, (refl, (refl, (refl, (refl, tt)))))
    go false = tt
kept (Worker worker) = go (1 == worker)
  where
    go : (b : Bool) → Kept None (flat_map (λ share. share.calls) (cond b (worker_share ∷ []) []))
    go true = (refl, (refl, (refl, (refl, (refl, (refl, (refl, tt)))))))
    go false = tt

pub returns : goal.returns
returns c = record {
  lawful = (
    (((omega arith, omega arith), refl), tt),
    granted,
    (
      (tt, (omega arith, omega arith)),
      granted,
      (
        (tt, (omega arith, omega arith)),
        granted,
        (
          (((omega arith, omega arith), has_nothing _), (omega arith, omega arith)),
          granted,
          (
            (tt, tt),
            granted,
            (
              (omega arith, (omega arith, omega arith)),
              granted,
              (
                (((omega arith, omega arith), has_nothing _), (omega arith, omega arith)),
                granted,
                (
                  (omega arith, (omega arith, omega arith)),
                  granted,
                  (
                    (tt, (omega arith, omega arith)),
                    granted,
                    (
                      (((omega arith, omega arith), has_nothing _), (omega arith, tt)),
                      granted,
                      (
                        (tt, (omega arith, omega arith)),
                        granted,
                        (
                          (tt, (omega arith, omega arith)),
                          granted,
                          (
                            (tt, ((omega arith, omega arith), refl)),
                            granted,
                            (
                              (tt, (omega arith, omega arith)),
                              granted,
                              (
                                (tt, ((omega arith, omega arith), refl)),
                                granted,
                                tt,
                              ),
                            ),
                          ),
                        ),
                      ),
                    ),
                  ),
                ),
              ),
            ),
          ),
        ),
      ),
    ),
  );
  trace = map as_event log;
  log_is = refl;
  lends = events_fit (opening (shape_of script)) log refl;
  rounds = round ∷ [];
  asked = refl;
  parted = refl;
  done = (
    record {
      done = All-cons
          (IsDone script [] made)
          session_share
          (worker_share ∷ [])
          session_done
          (All-cons (IsDone script [] made) worker_share [] worker_done (All-nil (IsDone script [] made)));
      nobody_else = all_of_script made refl;
    },
    tt,
  );
  kept = kept;
  printed = refl;
}
