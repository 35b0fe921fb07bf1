-- What a session or worker did in a round.
use Rattle.std.specs.Prelude.{◌≡◌, ℕ, Bool, true, List, [], ◌∷◌, ◌++◌, Option}
use Rattle.std.specs.Prelude.{Some, map, All}
use Rattle.workload_spec.specs.declared.command.Command.{Command}
use Rattle.workload_spec.specs.Valid.{is_export}
use Rattle.workload_spec.specs.declared.reply.Said.TheVariants as said
use Rattle.workload_spec.specs.declared.reply.Who.{Who}
use Rattle.run_spec.specs.Calls.{Call, reads_now}
use Rattle.run_spec.specs.Handed.{Works}
use Rattle.run_spec.specs.Ran.{Share}
use Rattle.run_laws.specs.Rounds.Texts.{IsCounted}
use Rattle.shared_store.specs.Reads.{ReadSet}
use Rattle.shared_store.specs.Store.{KeepsOn, MakesAtMost, StoreView, reads_of, seen, shape_in}
use Rattle.store_rounds.specs.Sessions.{IsFreeSession}
use Rattle.shared_store.specs.declared.session.Session.{Session}

-- Calls one behind the other keep what was read: each has before it what those before it were told,
-- and behind the last this was read.
abbrev pub KeptAlong : Option ReadSet → List Call → Option ReadSet → Type 0
KeptAlong before [] after = after ≡ before
KeptAlong before (call ∷ calls) after =
    (call.reads ≡ before) × KeptAlong (reads_now before call) calls after

-- A session of the store, or a worker, carried out these calls, one behind the other, and made so
-- many events at most. What it keeps of its commits it keeps on.
pub record Worked
    (store : StoreView) (worker : Bool) (most : ℕ) (old new : Session) (calls : List Call)
    : Type 0 where
  pub is_session : IsFreeSession store new
  pub same : new.session ≡ old.session
  pub works : Works (shape_in store) worker old.session (seen old) calls (seen new)
  pub counted : All IsCounted calls
  pub kept : KeptAlong (reads_of old) calls (reads_of new)
  pub keeps : KeepsOn store old new
  pub few : MakesAtMost most old new

abbrev pub asked_in : List Call → List Command
asked_in calls = map (λ call. call.command) calls

abbrev pub share_of : Who → List Call → Share
share_of who calls = record { who = who; calls = calls }

-- The last of the calls is an export that is told `memory`.
pub record EndsAtExport (calls : List Call) : Type 0 where
  pub front : List Call
  pub last : Call
  pub calls_are : calls ≡ front ++ last ∷ []
  pub asked : is_export last.command ≡ true
  pub told : last.told ≡ Some said.Memory
