-- How far a script's rounds were read.
use Rattle.std.specs.Prelude.{ℕ, ◌+◌, ◌<◌, ◌≡◌, Bool, true, List, [], length, flat_map}
use Rattle.std.specs.List.{range_with_len, slice_index_or}
use Rattle.workload_spec.specs.declared.reply.Who.{Who}
use Rattle.workload_spec.specs.declared.reply.Who.TheVariants.{Session, Worker}
use Rattle.workload_spec.specs.declared.script.Line.{Line}
use Rattle.workload_spec.specs.declared.script.Script.{Script}
use Rattle.outcome_spec.specs.Entries.{Entry}
use Rattle.outcome_spec.specs.Forms.{Due, commands_of, dues_to, is_within, turn_of}
use Rattle.output_read.specs.declared.reader.Reader.{Reader}
use Rattle.output_read.specs.Order.{are_ahead}
use Rattle.output_read.specs.Readers.{IsReading, read_by}

-- Of each session whether it is in a transaction.
pub record AreWithin (sessions : ℕ) (within : List Bool) (entries : List Entry) : Type 0 where
  pub many : length within ≡ sessions
  pub are : (at : ℕ) (other : Bool) → at < sessions → slice_index_or within at other
      ≡ is_within (Session (at + 1)) entries

-- All replies in front of those to this one in this round were read.
pub record Stands (script : Script) (round : ℕ) (next : Who) (reader : Reader) (within : List Bool) : Type 0 where
  pub tables : reader.tables.now ≡ script.tables
  pub reading : IsReading reader
  pub ahead : are_ahead round next (read_by reader) ≡ true
  pub within_are : AreWithin script.sessions within (read_by reader)

-- what is due to the first sessions in a round, and to the first workers
abbrev pub session_part : ℕ → List Line → ℕ → List Due
session_part round lines sessions = flat_map
    (λ session. dues_to round (Session session) (commands_of session lines))
    (range_with_len 1 sessions)

abbrev pub worker_part : Script → ℕ → ℕ → List Due
worker_part script round workers =
    flat_map (λ worker. dues_to round (Worker worker)
    (flat_map (λ turn. turn_of script.tables) (range_with_len 1 script.turns)))
    (range_with_len 1 workers)

-- nothing of the text was read yet
pub record Starts (script : Script) (reader : Reader) : Type 0 where
  pub tables : reader.tables.now ≡ script.tables
  pub reading : IsReading reader
  pub none : read_by reader ≡ []
