-- What a run did, in order: the events of its log, and the blocks that were lent between them.
use Rattle.std.specs.Prelude.{◌≡◌, ⊤, ℕ, Bool, true, false, List, [], ◌∷◌, map}
use Rattle.std.specs.Prelude.{if◌then◌else◌}
use Rattle.event_spec.specs.Lawful.{IsLawful}
use Rattle.event_spec.specs.Parts.{Parts, Shape}
use Rattle.event_spec.specs.Replay.{after, reply_after}
use Rattle.run_spec.specs.Occurrences.{Logged}
use Rattle.run_spec.specs.Told.{is_shared}

-- An action of a run: an event, whose entry stands in the log; or a lend of a block, which is no
-- event. For a lend the entry is that of the read which would have told the same at this point, and
-- does not stand in the log.
pub record Action : Type 0 where
  pub entry : Logged
  pub lent : Bool

-- an event, by its entry
abbrev pub as_event : Logged → Action
as_event entry = record { entry = entry; lent = false }

-- The log of a trace: the entries of its events.
abbrev pub log_in : List Action → List Logged
log_in [] = []
log_in (action ∷ trace) = if action.lent then log_in trace else action.entry ∷ log_in trace

-- The trace as a log in which each lend is its read.
abbrev pub as_log : List Action → List Logged
as_log trace = map (λ action. action.entry) trace

-- ---- lends at their points

-- Something holds of each action at its point, which is the parts that the actions before it left.
abbrev pub EachAlong : Shape → (Parts → Action → Type 0) → Parts → List Action → Type 0
EachAlong shape Holds parts [] = ⊤
EachAlong shape Holds parts (action ∷ trace) =
    Holds parts action × EachAlong shape Holds (after shape parts action.entry.made) trace

-- A block may be lent where a read of it is lawful and tells its image: there the block is imaged.
-- Such a read leaves the parts as they are.
pub record MayLend (shape : Shape) (parts : Parts) (entry : Logged) : Type 0 where
  pub lawful : IsLawful shape entry.made.event parts
  pub imaged : is_shared (reply_after shape parts entry.made) ≡ true

-- An action stands at its point: a block is lent where it may be, and none is read by an event
-- where it is imaged. So a read of a block is a lend exactly where the block is imaged.
pub record FitsAt (shape : Shape) (parts : Parts) (action : Action) : Type 0 where
  pub lend : action.lent ≡ true → MayLend shape parts action.entry
  pub read : action.lent ≡ false → is_shared (reply_after shape parts action.entry.made) ≡ false

-- So does each action of a trace that begins with these parts.
abbrev pub LendsFit : Shape → Parts → List Action → Type 0
LendsFit shape parts trace = EachAlong shape (FitsAt shape) parts trace

-- An action of a trace that has one session's lends alone: a lend is the session's, and each of the
-- session's actions stands at its point.
pub record OwnFitsAt (shape : Shape) (session : ℕ) (parts : Parts) (action : Action) : Type 0 where
  pub lent : action.lent ≡ true → action.entry.session ≡ session
  pub own : action.entry.session ≡ session → FitsAt shape parts action

abbrev pub OwnLendsFit : Shape → ℕ → Parts → List Action → Type 0
OwnLendsFit shape session parts trace = EachAlong shape (OwnFitsAt shape session) parts trace
