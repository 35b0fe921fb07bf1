-- What it is that a checked transaction's replies are serial.
use Rattle.std.specs.Prelude.{◌≡◌, ◌⊎◌, ℕ, ◌-◌, ◌<◌, true, List, [], ◌∷◌, Some, All}
use Rattle.isolation_spec.specs.Contents.{State, laid_over, state_at}
use Rattle.isolation_spec.specs.Order.{InOrder}
use Rattle.workload_spec.specs.declared.reply.Said.TheVariants as said
use Rattle.workload_spec.specs.declared.script.Script.{Script}
use Rattle.outcome_spec.specs.Answers.{read_holds, is_acceptable}
use Rattle.outcome_spec.specs.Entries.{Entry, before}
use Rattle.outcome_spec.specs.Explained.{Explained, run_in}
use Rattle.outcome_spec.specs.Runs.{Run, Span, transaction_of, ending_of, writes_in}
use Rattle.outcome_spec.specs.Stale.{is_checked}

abbrev pub Among : {X : Type 0} → X → List X → Type 0
Among x [] = ⊥
Among x (y ∷ ys) = (x ≡ y) ⊎ Among x ys

-- What a transaction sees at a reply, had it begun behind so many commits: its accepted writes before
-- it laid over the state after these.
abbrev pub seen_from : Run → Span → ℕ → Entry → State
seen_from run t number entry = laid_over (state_at run.history number)
    (writes_in (before t.replies entry))

-- The reply is one of the transaction.
pub record IsOf (run : Run) (t : Span) (entry : Entry) : Type 0 where
  pub printed : Among entry run.entries
  pub of : Among entry t.replies
  pub belongs : transaction_of run entry ≡ Some t

-- The transaction committed with this number.
pub record CommitsAs (run : Run) (t : Span) (number : ℕ) : Type 0 where
  pub ending : Entry
  pub is_of : IsOf run t ending
  pub ends : ending_of t ≡ Some ending
  pub said : ending.reply.said ≡ said.Committed (Some number)
  pub above : t.snapshot < number

-- The reply is the one of a transaction that began behind so many commits: a get, a scan, a range or
-- a total shows what that sees, and a write was accepted where that accepts it.
pub record IsServed (run : Run) (t : Span) (number : ℕ) (entry : Entry) : Type 0 where
  pub read : read_holds (seen_from run t number entry) entry.command entry.reply.said ≡ true
  pub write : entry.reply.said ≡ said.Accepted
      → is_acceptable (seen_from run t number entry) entry.command ≡ true

-- In an explained output a checked transaction that committed with a number is told what it would
-- have been told, had it begun right behind the commit before: each read, and each accepted write.
-- The write sets of the commits that the store began with, if it began with some, are in order.
abbrev pub ChecksAreSerial : Type 0
ChecksAreSerial = (script : Script) (text : List ℕ) (t : Span) (number : ℕ)
    → All InOrder script.begun
    → Explained script text → Among t (run_in script text).transactions → is_checked t ≡ true
    → (ending : Entry) → ending_of t ≡ Some ending
    → ending.reply.said ≡ said.Committed (Some number)
    → (entry : Entry) → Among entry t.replies
    → IsServed (run_in script text) t (number - 1) entry
