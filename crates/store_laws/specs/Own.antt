-- What a session knows of itself between two calls of its store, and what a call tells.
use Rattle.std.specs.Prelude.{◌≡◌, ⊤, ℕ, true, List, [], ◌∷◌, ◌++◌, Option, Some}
use Rattle.event_spec.specs.declared.own.OwnTransaction.{OwnTransaction}
use Rattle.event_spec.specs.Effects.{CoreEvent}
use Rattle.event_spec.specs.Lawful.{session_of}
use Rattle.event_spec.specs.Parts.{Parts, Shape}
use Rattle.event_spec.specs.Replay.{reply_after}
use Rattle.event_spec.specs.Replay as core
use Rattle.event_spec.specs.Replies.{CoreReply}
use Rattle.hall_rule.specs.EventLog.{has, replay}
use Rattle.hall_rule.specs.declared.view.View.{View}
use Rattle.store_laws.specs.OwnLaws.{HasOpened}
use Rattle.run_spec.specs.Calls.{is_memory}
use Rattle.run_spec.specs.Handed.{GoesOn, own_in}
use Rattle.run_spec.specs.Occurrences.{Logged, Occurrence}
use Rattle.run_spec.specs.Opened.{own_after}
use Rattle.store_laws.specs.Logs.{log_of, made_in, store_meaning}

-- each event of a session in a log stands under it
abbrev pub StandsUnder : ℕ → List Logged → Type 0
StandsUnder session [] = ⊤
StandsUnder session (entry ∷ log) =
    (session_of entry.made.event ≡ Some session → entry.session ≡ session)
    × StandsUnder session log

-- A session's pass has its hand alone, and no other pass makes events of the session or under it.
-- What the session has open is what its own events told, and is open in the state that the log
-- leaves.
pub record KnowsOwn
    (shape : Shape) (session : ℕ) (view : View CoreEvent) (own : Option OwnTransaction)
    : Type 0 where
  pub sessions : view.sessions ≡ session ∷ []
  pub sole : has session view.sole ≡ true
  pub under : StandsUnder session (log_of view.log)
  pub own_is : own ≡ own_after (own_in shape session (log_of view.log))
  pub opened : HasOpened shape (replay (store_meaning shape) view.log) session own

-- the parts that a log leaves
abbrev pub parts_after : Shape → List Logged → Parts
parts_after shape log = core.replay shape (made_in log)

-- an entry of the log, and the event in its place
abbrev pub entry_of : ℕ → CoreEvent → CoreReply → Logged
entry_of session event told =
    record { session = session; made = record { event = event; refused = is_memory told } }

abbrev pub occurrence_at : ℕ → Parts → CoreEvent → CoreReply → Occurrence
occurrence_at session parts event told =
    record { session = session; before = parts; event = event; reply = told }

-- A session made one event and was told a reply. Its log goes on from all that it had seen, and
-- ends with this event; of its own events it has this one more.
pub record MakesOne
    (shape : Shape) (session : ℕ) (old new : List Logged) (event : CoreEvent) (told : CoreReply)
    : Type 0 where
  pub before : List Logged
  pub goes_on : GoesOn old before
  pub log : new ≡ before ++ entry_of session event told ∷ []
  pub reply : told ≡ reply_after shape (parts_after shape before) (entry_of session event told).made
  pub own : own_in shape session new
      ≡ own_in shape session old ++ occurrence_at session (parts_after shape before) event told ∷ []
