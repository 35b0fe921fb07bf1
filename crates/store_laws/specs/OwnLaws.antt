-- What a session has open, as its own events and their replies tell it.
use Rattle.std.specs.Prelude.{◌≡◌, ◌≢◌, ℕ, ℤ, Option, None, Some}
use Rattle.event_spec.specs.declared.own.OwnTransaction.{OwnTransaction}
use Rattle.event_spec.specs.Effects.{CoreEvent, effect}
use Rattle.event_spec.specs.Lawful.{IsLawful, OwnsAll, OwnsKey, session_of, transaction}
use Rattle.event_spec.specs.Parts.{Parts, Shape}
use Rattle.event_spec.specs.Replay.{opening}
use Rattle.event_spec.specs.Replies.{reply_to}
use Rattle.event_spec.specs.Sound.{IsShape}
use Rattle.core_laws.specs.Frames.Shards.{CoreHolds}
use Rattle.run_spec.specs.Opened.{own_behind, own_key}

-- A session has nothing open, or this transaction.
abbrev pub HasOpened : Shape → Parts → ℕ → Option OwnTransaction → Type 0
HasOpened shape parts session None = transaction shape parts session ≡ None
HasOpened shape parts session (Some own) = (own.session ≡ session) × OwnsAll shape own parts

abbrev pub RestsAtFirst : Type 0
RestsAtFirst = (shape : Shape) (session : ℕ) → IsShape shape
    → HasOpened shape (opening shape) session None

-- Behind a lawful event of its own it has open what the event and its reply tell.
abbrev pub OwnGoesOn : Type 0
OwnGoesOn = (shape : Shape) (parts : Parts) (event : CoreEvent) (session : ℕ)
    (own : Option OwnTransaction)
    → CoreHolds shape parts → IsLawful shape event parts → session_of event ≡ Some session
    → HasOpened shape parts session own
    → HasOpened shape (effect shape parts event) session
    (own_behind own event (reply_to shape parts event))

-- Behind any other lawful event it has open what it had.
abbrev pub OwnStays : Type 0
OwnStays = (shape : Shape) (parts : Parts) (event : CoreEvent) (session : ℕ)
    (own : Option OwnTransaction)
    → CoreHolds shape parts → IsLawful shape event parts → session_of event ≢ Some session
    → HasOpened shape parts session own → HasOpened shape (effect shape parts event) session own

-- An event on one key is handed its write alone.
abbrev pub KeysAreOwned : Type 0
KeysAreOwned = (shape : Shape) (parts : Parts) (own : OwnTransaction) (table : ℕ) (key : ℤ)
    → OwnsAll shape own parts → OwnsKey shape (own_key table key own) table key parts
