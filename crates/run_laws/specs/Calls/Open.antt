-- What a session has open by its own events, the snapshot-isolation machine has open, with the
-- snapshot that was replied.
use Rattle.std.specs.Prelude.{◌≡◌, ℕ, List, [], ◌∷◌, ◌++◌, Option, IfSome, option_map}
use Rattle.core_laws.specs.Events.Laws.{IsStep, command_in}
use Rattle.event_spec.specs.declared.own.OwnTransaction.{OwnTransaction}
use Rattle.event_spec.specs.Lawful.{reads_handed, session_of}
use Rattle.event_spec.specs.Parts.{Parts, Shape}
use Rattle.event_spec.specs.Replay.{reply_after}
use Rattle.isolation_spec.specs.Contents.{History}
use Rattle.isolation_spec.specs.Machine.{IsolationMachine, Transaction, opening_from, transaction_of}
use Rattle.run_spec.specs.Occurrences.{Logged, Occurrence, occurrence_of, under}
use Rattle.run_spec.specs.Opened.{own_after}

-- an event that is of a session stands under it
abbrev pub IsNamed : Logged → Type 0
IsNamed entry = IfSome (session_of entry.made.event) (λ session. session ≡ entry.session)

-- A session's transaction is one of the machine with the same snapshot, or there is none in either.
pub record OpenAs
    (session : ℕ) (own : Option OwnTransaction) (open' : Option Transaction)
    : Type 0 where
  pub snapshot : option_map (λ t. t.snapshot.number) own ≡ option_map (λ t. t.snapshot) open'
  pub session_is : IfSome own (λ t. t.session ≡ session)

-- So it is for each session, behind these events.
abbrev pub AgreesWith : List Occurrence → IsolationMachine → Type 0
AgreesWith front machine =
    (session : ℕ)
    → OpenAs session (own_after (under session front)) (transaction_of session machine)

-- Before the first event nothing is open, whatever the store began with.
abbrev pub NothingIsOpen : Type 0
NothingIsOpen = (first : History) → AgreesWith [] (opening_from first)

-- An event that the machine goes with keeps it.
abbrev pub OpensAsTheMachine : Type 0
OpensAsTheMachine = (shape : Shape) (parts : Parts) (entry : Logged) (front : List Occurrence)
    (machine next : IsolationMachine)
    → IsNamed entry
    → IsStep (command_in entry.made.event) (reads_handed entry.made.event) machine
    (reply_after shape parts entry.made) next
    → AgreesWith front machine
    → AgreesWith (front ++ occurrence_of shape parts entry ∷ []) next
