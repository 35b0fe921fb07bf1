-- A log of events, and each of them in its place: who made it, the parts before it, and its reply.
use Rattle.std.specs.Prelude.{ℕ, ◌==◌, List, [], ◌∷◌, map, filter}
use Rattle.event_spec.specs.Effects.{CoreEvent}
use Rattle.event_spec.specs.Parts.{Parts, Shape}
use Rattle.event_spec.specs.Replay.{Made, opening, after, reply_after}
use Rattle.event_spec.specs.Replies.{CoreReply}

-- An entry of a log: an event that was made, and the session under which it stands there, from 1
-- on.
pub record Logged : Type 0 where
  pub session : ℕ
  pub made : Made

-- An event in its place in a log: under which session it stands, the parts before it, its reply.
pub record Occurrence : Type 0 where
  pub session : ℕ
  pub before : Parts
  pub event : CoreEvent
  pub reply : CoreReply

abbrev pub occurrence_of : Shape → Parts → Logged → Occurrence
occurrence_of shape parts entry = record {
  session = entry.session;
  before = parts;
  event = entry.made.event;
  reply = reply_after shape parts entry.made;
}

-- the events of a log that goes on from these parts
abbrev pub occurrences_from : Shape → Parts → List Logged → List Occurrence
occurrences_from shape parts [] = []
occurrences_from shape parts (entry ∷ log) =
    occurrence_of shape parts entry ∷ occurrences_from shape (after shape parts entry.made) log

-- The events of a log.
abbrev pub occurrences_in : Shape → List Logged → List Occurrence
occurrences_in shape log = occurrences_from shape (opening shape) log

-- Those that stand under a session.
abbrev pub under : ℕ → List Occurrence → List Occurrence
under session occurrences = filter (λ occurrence. occurrence.session == session) occurrences

abbrev pub events_in : List Occurrence → List CoreEvent
events_in occurrences = map (λ occurrence. occurrence.event) occurrences

abbrev pub replies_in : List Occurrence → List CoreReply
replies_in occurrences = map (λ occurrence. occurrence.reply) occurrences
