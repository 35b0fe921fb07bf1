-- The reads of a session that follow each other tell what they would tell together.
use Rattle.std.specs.Prelude.{◌≡◌, ℕ, ◌≤◌, true, false, List, [], ◌∷◌, ◌++◌, length}
use Rattle.std.specs.List.{list_all}
use Rattle.event_spec.specs.declared.event.Event.TheVariants as event
use Rattle.event_spec.specs.declared.own.OwnTransaction.{OwnTransaction}
use Rattle.event_spec.specs.Lawful.{Among, HasBlock, IsLawful, OwnsAll}
use Rattle.event_spec.specs.Parts.{Parts, Shape, slots_of}
use Rattle.event_spec.specs.Replay.{after}
use Rattle.event_spec.specs.Replies.{rows_read}
use Rattle.event_spec.specs.Sound.{IsShape, Sound}
use Rattle.run_spec.specs.Calls.{is_refused}
use Rattle.run_spec.specs.Occurrences.{Logged, Occurrence, events_in, occurrence_of, under}
use Rattle.run_spec.specs.Told.{is_shared, is_some_row, rows_told}
use Rattle.store_laws.specs.Stretches.{reads_block}
use Rattle.run_laws.specs.Calls.Open.{IsNamed}

-- An earlier read that was granted told what a read of its block tells in these parts.
pub record StandsRead
    (shape : Shape) (parts : Parts) (session : ℕ) (made : Occurrence)
    (own : OwnTransaction) (table block : ℕ)
    : Type 0 where
  pub session_is : own.session ≡ session
  pub has : HasBlock shape table block
  pub owns : OwnsAll shape own parts
  pub rows : is_refused made ≡ false → rows_told made.reply ≡ rows_read shape parts own table block
  pub few : length (rows_told made.reply) ≤ slots_of shape table
  pub some : is_shared made.reply ≡ true → is_some_row (rows_told made.reply) ≡ true

abbrev pub Stands : Shape → Parts → ℕ → Occurrence → Type 0
Stands shape parts session made = (own : OwnTransaction) (table block : ℕ)
    → made.event ≡ event.Read own table block
    → StandsRead shape parts session made own table block

-- So does each read of a session's that only reads follow.
abbrev pub ReadsStandIn : Shape → Parts → List Occurrence → Type 0
ReadsStandIn shape parts front = (session : ℕ) (began done : List Occurrence)
    → under session front ≡ began ++ done
    → list_all reads_block (events_in done) ≡ true
    → (made : Occurrence) → Among made done → Stands shape parts session made

-- An event keeps it.
abbrev pub ReadsStand : Type 0
ReadsStand = (shape : Shape) (parts : Parts) (front : List Occurrence) (entry : Logged)
    → IsShape shape → Sound shape parts → IsLawful shape entry.made.event parts
    → IsNamed entry
    → ReadsStandIn shape parts front
    → ReadsStandIn shape (after shape parts entry.made)
    (front ++ occurrence_of shape parts entry ∷ [])
