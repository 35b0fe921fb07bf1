-- What single events make of a session's calls.
use Rattle.std.proofs.Common.{◌≡◌, ◌⊎◌, ℕ, Bool, true, false, not, ◌&&◌, ◌||◌, List, [], ◌∷◌, ◌++◌, Some, refl, sym, ap, ◌∙◌, subst, append_assoc}
use mathlib.Core.Logic.{inl, inr}
use Rattle.std.specs.Prelude.{MatchBool}
use Rattle.event_spec.specs.Effects.{CoreEvent}
use Rattle.event_spec.specs.Parts.{Shape}
use Rattle.event_spec.specs.Replies.{CoreReply}
use Rattle.run_spec.specs.Calls.{Call, IsCallBy, IsPart, IsWhole, is_final, is_memory, may_lack_memory}
use Rattle.run_spec.specs.Handed.{GoesOn, Stretch, own_in}
use Rattle.run_spec.specs.Occurrences.{Logged, Occurrence}
use Rattle.run_spec.specs.Told.{is_shared, line_of, refusal_of}
use Rattle.workload_spec.specs.declared.reply.Said.TheVariants as said
use Rattle.store_laws.proofs.Stretches.{events_are_a_stretch}
use Rattle.store_laws.specs.Laws.{SingleEventsAreCalls}
use Rattle.store_laws.specs.Own.{MakesOne, entry_of, occurrence_at, parts_after}

-- a log that goes on from one that goes on goes on from the first
pub goes_far : (first second third : List Logged) → GoesOn first second → GoesOn second third → GoesOn first third
goes_far first second third a b = (a.0 ++ b.0, b.1 ∙ ap (λ l. l ++ b.0) a.1 ∙ append_assoc first a.0 b.0)

-- the log behind a session's event goes on from all that it had seen
pub made_on : (shape : Shape) (session : ℕ) (old new : List Logged) (e : CoreEvent) (told : CoreReply) → MakesOne shape session old new e told → GoesOn old new
made_on shape session old new e told m = goes_far old m.before new m.goes_on (entry_of session e told ∷ [], m.log)

-- a session that saw more before it made its event
pub saw_and_made : (shape : Shape) (session : ℕ) (old mid new : List Logged) (e : CoreEvent) (told : CoreReply)
    → GoesOn old mid → own_in shape session mid ≡ own_in shape session old → MakesOne shape session mid new e told → MakesOne shape session old new e told
saw_and_made shape session old mid new e told seen same m = record {
  before = m.before;
  goes_on = goes_far old mid m.before seen m.goes_on;
  log = m.log;
  reply = m.reply;
  own = m.own ∙ ap (λ os. os ++ occurrence_at session (parts_after shape m.before) e told ∷ []) same;
}

-- an event that tells no image is a stretch of the log
pub event_stretch : (shape : Shape) (session : ℕ) (old new : List Logged) (e : CoreEvent) (told : CoreReply) → (m : MakesOne shape session old new e told) → is_shared told ≡ false
    → Stretch shape session old new (occurrence_at session (parts_after shape m.before) e told ∷ [])
event_stretch shape session old new e told m unshared =
    events_are_a_stretch shape session old new (occurrence_at session (parts_after shape m.before) e told ∷ []) (made_on shape session old new e told m) m.own
    (ap (λ b. not b && true) unshared)

-- a command that is one event is carried out by it
pub single_events_are_calls : SingleEventsAreCalls
single_events_are_calls shape session old new own reads command e told line own_is granted m events tells unshared = record {
  stretch = event_stretch shape session old new e told m unshared;
  is_call = subst (λ o. IsCallBy shape false session o (refusal_of command o) call) own_is
      (subst (λ r. IsCallBy shape false session own r call) (sym granted) (go (is_memory told) refl tells));
}
  where
    occurrence : Occurrence
    occurrence = occurrence_at session (parts_after shape m.before) e told

    call : Call
    call = record { command = command; made = occurrence ∷ []; told = Some line; reads = reads }

    go : (b : Bool) → is_memory told ≡ b → MatchBool b ((may_lack_memory command ≡ true) × (line ≡ said.Memory)) (line_of own command (told ∷ []) ≡ Some line)
        → IsWhole shape false session own call ⊎ IsPart shape session own call
    go true is t = inr (record {
      may = t.0;
      missed = [];
      events = events;
      cut = ap (λ b. b || not (is_final e)) is;
      line = ap Some t.1;
    })
    go false is t = inl (record {
      events = sym events;
      granted = ap (λ b. b || false) is;
      line = sym t;
    })
