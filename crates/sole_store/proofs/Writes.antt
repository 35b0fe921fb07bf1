-- A write of a row by the owner.
use Rattle.std.proofs.Common.{◌≡◌, ℕ, ℤ, Bool, true, Result, Ok, Err, IfOk, Option, None, Some, option_map, is_some, refl, sym, ap, ◌∙◌, subst}
use mathlib.Core.Logic.{inl}
use Rattle.std.specs.Prelude.{OnErr}
use Rattle.block_spec.specs.Slots.{Row}
use Rattle.core_parts.specs.Hands.{Held}
use Rattle.engine_core.specs.Core.{IsWhole, is_memory, parts_in}
use Rattle.event_spec.specs.declared.event.Event.TheVariants as event
use Rattle.event_spec.specs.declared.own.OwnKey.{OwnKey}
use Rattle.event_spec.specs.declared.own.OwnTransaction.{OwnTransaction}
use Rattle.event_spec.specs.declared.reply.Reply.TheVariants as reply
use Rattle.event_spec.specs.declared.reply.WriteFault.{WriteFault}
use Rattle.event_spec.specs.Effects.{CoreEvent, change_judged, insert_judged}
use Rattle.event_spec.specs.Lawful.{FitsTable, HasTable, IsThawed, OwnsKey, takes_memory}
use Rattle.event_spec.specs.Parts.{Shape}
use Rattle.event_spec.specs.Replay.{after, reply_after}
use Rattle.event_spec.specs.Replies.{CoreReply, reply_to_write}
use Rattle.isolation_spec.specs.Contents.{PlaceMap, at_place, key_of, place_at, place_of}
use Rattle.isolation_spec.specs.declared.place.Place.{Place}
use Rattle.run_spec.specs.Opened.{own_behind, own_key, with_own}
use Rattle.sole_store.specs.Sole.{IsSole, Makes, SoleState, made_by, store_of}
use Rattle.sole_store.specs.Writing.{IsWriteOf, settled}
use Rattle.sole_store.proofs.Going.{goes_on, makes_it}
use Rattle.sole_store.proofs.Told.{granted}

-- what a write leaves of the transaction
left_as : OwnTransaction → PlaceMap ℕ → OwnTransaction
left_as own writes = record { session = own.session; snapshot = own.snapshot; writes = writes }

-- A transaction whose rows are settled has the write as its own.
pub settled_own : (place : Place) (told : CoreReply) (own : OwnTransaction) → record own { writes = settled own.writes place told } ≡ with_own place told own
settled_own place (reply.Written slot) own = refl
settled_own place (reply.Begun snapshot) own = refl
settled_own place (reply.Found row) own = refl
settled_own place (reply.Refused fault) own = refl
settled_own place (reply.Rows rows) own = refl
settled_own place (reply.Shared rows) own = refl
settled_own place (reply.Committed number) own = refl
settled_own place (reply.Stale what number) own = refl
settled_own place reply.Aborted own = refl
settled_own place (reply.Oldest stamp) own = refl
settled_own place (reply.Turned turned) own = refl
settled_own place (reply.Dropped count) own = refl
settled_own place (reply.Looked look) own = refl
settled_own place (reply.Moved count) own = refl
settled_own place (reply.Sealed stamp) own = refl
settled_own place (reply.NotSealed fault) own = refl
settled_own place (reply.Imaged rows) own = refl
settled_own place reply.NoSeal own = refl
settled_own place reply.Thawed own = refl
settled_own place reply.Memory own = refl

-- what was open, with the write
behind_is : (v : SoleState) (place : Place) (e : CoreEvent) (own : OwnTransaction) (told : CoreReply) → IsWriteOf v place e → v.own ≡ Some own
    → Some (record own { writes = settled own.writes place told }) ≡ own_behind v.own e told
behind_is v place e own told write is = ap Some (settled_own place told own) ∙ sym (ap (option_map (with_own place told)) is) ∙ sym (write.behind told)

module _ (sh : Shape) (hand new : Held) (place : Place) (e : CoreEvent) (o : Option OwnTransaction) (own later : OwnTransaction)
    (sole : IsSole sh hand o) (is : o ≡ Some own) (write : IsWriteOf (store_of sh hand o) place e) (whole : IsWhole sh new)
  where
    -- the store goes on behind a write
    pub write_goes : {E : Type 0} (r : Result CoreReply E) → IfOk r (λ told. parts_in new ≡ after sh (parts_in hand) (made_by e told))
        → IfOk r (λ told. told ≡ reply_after sh (parts_in hand) (made_by e told)) → IfOk r (λ told. is_memory told ≡ true → takes_memory e ≡ true)
        → IfOk r (λ told. later ≡ record own { writes = settled own.writes place told }) → OnErr r (new ≡ hand) → OnErr r (later ≡ own) → IsSole sh new (Some later)
    write_goes (Ok told) parts told_is memory writes none kept =
        goes_on sh hand new e o (Some later) told sole write.lawful (inl write.mine) whole parts told_is memory (ap Some writes ∙ behind_is (store_of sh hand o) place e own told write is)
    write_goes (Err x) parts told_is memory writes none kept =
        subst (λ (h : Held). IsSole sh h (Some later)) (sym none) (subst (λ (x : Option OwnTransaction). IsSole sh hand x) (is ∙ ap Some (sym kept)) sole)

    -- and it made the event
    pub write_made : {E : Type 0} (r : Result CoreReply E) → IfOk r (λ told. parts_in new ≡ after sh (parts_in hand) (made_by e told))
        → IfOk r (λ told. told ≡ reply_after sh (parts_in hand) (made_by e told)) → IfOk r (λ told. is_memory told ≡ true → takes_memory e ≡ true)
        → IfOk r (λ told. later ≡ record own { writes = settled own.writes place told }) → IfOk r (λ told. Makes (store_of sh hand o) (store_of sh new (Some later)) e told)
    write_made (Ok told) parts told_is memory writes =
        makes_it sh hand new e o (Some later) told parts told_is memory (ap Some writes ∙ behind_is (store_of sh hand o) place e own told write is)
    write_made (Err x) parts told_is memory writes = tt

    -- or nothing
    pub write_none : {E : Type 0} (r : Result CoreReply E) → OnErr r (new ≡ hand) → OnErr r (later ≡ own) → OnErr r (store_of sh new (Some later) ≡ store_of sh hand o)
    write_none (Ok told) none kept = tt
    write_none (Err x) none kept = ap (λ (h : Held). store_of sh h (Some later)) none ∙ ap (λ (x : Option OwnTransaction). store_of sh hand x) (ap Some kept ∙ sym is)

-- ---- the three writes

-- an insert writes the place of its row
pub insert_is : (v : SoleState) (place : Place) (k : OwnKey) (t : ℕ) (row : Row) → place ≡ place_of t row → HasTable v.shape t → FitsTable v.shape t row
    → k.session ≡ 1 → OwnsKey v.shape k place.table place.key v.parts → IsWriteOf v place (event.Insert k t row)
insert_is v place k t row at has fits mine owns = record {
  lawful = (subst (λ (p : Place). OwnsKey v.shape k p.table p.key v.parts) at owns, (has, fits));
  mine = ap Some mine;
  judged = insert_judged v.shape v.parts k t (key_of row);
  replies = refl;
  behind = λ told. ap (λ (p : Place). option_map (with_own p told) v.own) (sym at);
}

-- an update too
pub update_is : (v : SoleState) (place : Place) (k : OwnKey) (t : ℕ) (row : Row) → place ≡ place_of t row → HasTable v.shape t → FitsTable v.shape t row
    → IsThawed v.shape t (key_of row) v.parts → k.session ≡ 1 → OwnsKey v.shape k place.table place.key v.parts → IsWriteOf v place (event.Update k t row)
update_is v place k t row at has fits thawed mine owns = record {
  lawful = (subst (λ (p : Place). OwnsKey v.shape k p.table p.key v.parts) at owns, (has, fits, thawed));
  mine = ap Some mine;
  judged = change_judged v.shape v.parts k t (key_of row);
  replies = refl;
  behind = λ told. ap (λ (p : Place). option_map (with_own p told) v.own) (sym at);
}

-- and a delete that of its key
pub delete_is : (v : SoleState) (k : OwnKey) (t : ℕ) (key : ℤ) → HasTable v.shape t
    → IsThawed v.shape t key v.parts → k.session ≡ 1 → OwnsKey v.shape k t key v.parts → IsWriteOf v (place_at t key) (event.Delete k t key)
delete_is v k t key has thawed mine owns = record {
  lawful = (owns, (has, thawed));
  mine = ap Some mine;
  judged = change_judged v.shape v.parts k t key;
  replies = refl;
  behind = λ told. refl;
}

-- whether the place has an entry, as its key was handed
pub had_is : (o : Option OwnTransaction) (k : OwnKey) (place : Place) (had : Bool) → option_map (own_key place.table place.key) o ≡ Some k → had ≡ is_some k.written
    → option_map (λ own. is_some (at_place own.writes place)) o ≡ Some had
had_is None k place had is at = absurd (none_some k is)
  where
    none_some : (k : OwnKey) → None ≡ Some k → ⊥
    none_some k h = cc
had_is (Some own) k place had is at = ap (λ (x : OwnKey). Some (is_some x.written)) (inner is) ∙ ap Some (sym at)
  where
    inner : Some (own_key place.table place.key own) ≡ Some k → own_key place.table place.key own ≡ k
    inner h = cc

-- the entry is there or not as it is handed on
pub had_of : (o : Option OwnTransaction) (own : OwnTransaction) (place : Place) (had : Bool) → o ≡ Some own → option_map (λ own. is_some (at_place own.writes place)) o ≡ Some had
    → is_some (at_place own.writes place) ≡ had
had_of o own place had is at = inner (sym (ap (option_map (λ (x : OwnTransaction). is_some (at_place x.writes place))) is) ∙ at)
  where
    inner : Some (is_some (at_place own.writes place)) ≡ Some had → is_some (at_place own.writes place) ≡ had
    inner h = cc

-- a write is told as one
pub write_tells : (old new : SoleState) (place : Place) (e : CoreEvent) (told : CoreReply) → IsWriteOf old place e → Makes old new e told
    → ((slot : ℕ) → told ≡ reply.Written slot → ⊥) → ((fault : WriteFault) → told ≡ reply.Refused fault → ⊥) → (told ≡ reply.Memory → ⊥) → ⊥
write_tells old new place e told write made written refused memory = go write.judged (granted old new e told made memory ∙ write.replies)
  where
    go : (judged : Result ℕ WriteFault) → told ≡ reply_to_write judged → ⊥
    go (Ok slot) is = written slot is
    go (Err fault) is = refused fault is
