-- An insert that finds its table full.
use Rattle.std.proofs.Common.{◌≡◌, ◌⊎◌, ℕ, [], ◌∷◌, ◌++◌, Some, sym, ap, subst, ◌∙◌}
use mathlib.Core.Logic.{inl, inr}
use Rattle.std.proofs.lemmas.List.{map-append}
use Rattle.std.proofs.lemmas.Option.{same_Some}
use Rattle.block_spec.specs.Slots.{Row}
use Rattle.event_spec.specs.declared.event.Event.TheVariants as event
use Rattle.event_spec.specs.declared.own.OwnKey.{OwnKey}
use Rattle.event_spec.specs.declared.reply.Reply.TheVariants as reply
use Rattle.event_spec.specs.declared.reply.WriteFault.{WriteFault}
use Rattle.event_spec.specs.declared.reply.WriteFault.TheVariants.{Full}
use Rattle.event_spec.specs.Effects.{CoreEvent}
use Rattle.event_spec.specs.Replay.{IsLawfulLog}
use Rattle.event_spec.specs.Replies.{CoreReply, reply_to}
use Rattle.event_spec.specs.Sound.{IsShape}
use Rattle.run_spec.specs.Calls.{is_memory}
use Rattle.run_spec.specs.Occurrences.{Logged}
use Rattle.store_laws.specs.Logs.{made_in}
use Rattle.store_laws.specs.Own.{entry_of, parts_after}
use Rattle.store_laws.proofs.Spent.{full_is_spent}
use Rattle.shared_store.specs.Making.{Makes}
use Rattle.shared_store.specs.Store.{IsSession, StoreView, own_of, seen, shape_in}
use Rattle.shared_store.specs.Writing.{FoundFull, fault_replied}
use Rattle.shared_store.specs.declared.session.Session.{Session}
use Rattle.shared_store.proofs.Calls.{told_or_memory}

-- A reply that has a fault is a refusal for it.
is_refused_for : (told : CoreReply) (fault : WriteFault) → fault_replied told ≡ Some fault → told ≡ reply.Refused fault
is_refused_for (reply.Begun snapshot) fault is = absurd (let no : ⊥ = cc in no)
is_refused_for (reply.Found row) fault is = absurd (let no : ⊥ = cc in no)
is_refused_for (reply.Written slot) fault is = absurd (let no : ⊥ = cc in no)
is_refused_for (reply.Refused refused) fault is = ap reply.Refused (same_Some refused fault is)
is_refused_for (reply.Rows rows) fault is = absurd (let no : ⊥ = cc in no)
is_refused_for (reply.Shared rows) fault is = absurd (let no : ⊥ = cc in no)
is_refused_for (reply.Committed number) fault is = absurd (let no : ⊥ = cc in no)
is_refused_for (reply.Stale what number) fault is = absurd (let no : ⊥ = cc in no)
is_refused_for reply.Aborted fault is = absurd (let no : ⊥ = cc in no)
is_refused_for (reply.Oldest stamp) fault is = absurd (let no : ⊥ = cc in no)
is_refused_for (reply.Turned turned) fault is = absurd (let no : ⊥ = cc in no)
is_refused_for (reply.Dropped count) fault is = absurd (let no : ⊥ = cc in no)
is_refused_for (reply.Looked look) fault is = absurd (let no : ⊥ = cc in no)
is_refused_for (reply.Moved count) fault is = absurd (let no : ⊥ = cc in no)
is_refused_for (reply.Sealed stamp) fault is = absurd (let no : ⊥ = cc in no)
is_refused_for (reply.NotSealed because) fault is = absurd (let no : ⊥ = cc in no)
is_refused_for (reply.Imaged rows) fault is = absurd (let no : ⊥ = cc in no)
is_refused_for reply.NoSeal fault is = absurd (let no : ⊥ = cc in no)
is_refused_for reply.Thawed fault is = absurd (let no : ⊥ = cc in no)
is_refused_for reply.Memory fault is = absurd (let no : ⊥ = cc in no)

-- an insert whose event was refused as full found its table so
pub found_full : (store : StoreView) (old new : Session) (own : OwnKey) (table : ℕ) (row : Row) (told : CoreReply) (inserts : ℕ)
    → IsShape (shape_in store) → IsSession store new
    → Makes store old.session old.pass.seat new.pass.seat new.pass.hands (own_of old) (event.Insert own table row) told
    → fault_replied told ≡ Some (Full inserts)
    → FoundFull (shape_in store) (seen old) (seen new) table inserts
found_full store old new own table row told inserts shape is m fault =
    record {
      at' = m.makes.before;
      saw = m.makes.goes_on;
      left = (entry ∷ [], m.makes.log);
      spent = full_is_spent (shape_in store) (made_in m.makes.before) (is_memory told) own table row inserts shape lawful (replied (told_or_memory store old.session old.pass.seat new.pass.seat new.pass.hands (own_of old) e told m));
    }
  where
    e : CoreEvent
    e = event.Insert own table row

    entry : Logged
    entry = entry_of old.session (event.Insert own table row) told

    lawful : IsLawfulLog (shape_in store) (made_in m.makes.before ++ entry.made ∷ [])
    lawful = subst (IsLawfulLog (shape_in store)) (ap made_in m.makes.log ∙ map-append (λ (l : Logged). l.made) m.makes.before (entry ∷ [])) is.lawful

    refused : told ≡ reply.Refused (Full inserts)
    refused = is_refused_for told (Full inserts) fault

    replied : (told ≡ reply.Memory) ⊎ (told ≡ reply_to (shape_in store) (parts_after (shape_in store) m.makes.before) (event.Insert own table row))
        → reply_to (shape_in store) (parts_after (shape_in store) m.makes.before) (event.Insert own table row) ≡ reply.Refused (Full inserts)
    replied (inl memory) = let never : reply.Memory ≡ reply.Refused (Full inserts) = sym memory ∙ refused in absurd (let no : ⊥ = cc in no)
    replied (inr is) = sym is ∙ refused
