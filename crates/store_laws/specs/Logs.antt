-- The log of a store's hall, as the log of a run.
use Rattle.std.specs.Prelude.{ℕ, List, map}
use Rattle.event_spec.specs.Effects.{CoreEvent}
use Rattle.event_spec.specs.Lawful.{Opened}
use Rattle.event_spec.specs.Parts.{CorePart, Shape}
use Rattle.event_spec.specs.Replay.{Made, opening}
use Rattle.core_laws.specs.Hall.Hall.{core_meaning}
use Rattle.hall_rule.specs.Meaning.{Meaning}
use Rattle.hall_rule.specs.declared.view.Entry.{Entry}
use Rattle.run_spec.specs.Occurrences.{Logged}

-- an entry of the hall's log as one of a run's
abbrev pub logged_of : Entry CoreEvent → Logged
logged_of entry = record {
  session = entry.session;
  made = record { event = entry.event; refused = entry.refused };
}

abbrev pub log_of : List (Entry CoreEvent) → List Logged
log_of entries = map logged_of entries

-- the events of a log, and which of them were refused
abbrev pub made_in : List Logged → List Made
made_in log = map (λ entry. entry.made) log

-- What the core's events mean to the hall of a store: it begins with the opening core.
abbrev pub store_meaning : Shape → Meaning CorePart CoreEvent Opened ℕ
store_meaning shape = core_meaning shape (opening shape) shape.passes
