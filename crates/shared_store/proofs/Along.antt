-- What the events of a change make of the open transaction, along the logs of a pass.
use Rattle.std.proofs.Common.{◌≡◌, ℕ, true, cond, Option, None, Some, Result, Ok, Err, sym, subst}
use Rattle.std.specs.Prelude.{IfSome, is_ok, is_some}
use Rattle.std.specs.BTreeMap.{insert_entry}
use Rattle.block_spec.specs.Slots.{Row}
use Rattle.core_laws.specs.Events.Laws.{IsStep, IsTold, command_in}
use Rattle.event_spec.specs.declared.own.OwnTransaction.{OwnTransaction}
use Rattle.event_spec.specs.declared.reply.Reply.TheVariants as reply
use Rattle.event_spec.specs.Effects.{CoreEvent}
use Rattle.event_spec.specs.Replay.{IsLawfulLog}
use Rattle.event_spec.specs.Replies.{CoreReply}
use Rattle.isolation_spec.specs.Contents.{History, WriteSet, place_cmp}
use Rattle.isolation_spec.specs.declared.command.Command.{Command}
use Rattle.isolation_spec.specs.declared.place.Place.{Place}
use Rattle.isolation_spec.specs.Machine.{IsolationMachine}
use Rattle.store_laws.specs.Logs.{log_of, made_in}
use Rattle.store_laws.specs.Machines.{HasOpenIn, machine_after}
use Rattle.store_laws.specs.Own.{MakesOne}
use Rattle.store_laws.proofs.Entries.{lawful_same}
use Rattle.store_laws.proofs.Stepping.{deleted, delete_left, open_on, update_left, updated}
use Rattle.shared_store.specs.Changing.{IsChangeTo, WritesAlong, change_asked}
use Rattle.shared_store.specs.Open.{WritesRow, machine_of}
use Rattle.shared_store.specs.Store.{IsWithin, SeatView, HandsView, StoreView, seen, shape_in}
use Rattle.shared_store.specs.Writing.{IsWriteReply, is_written}
use Rattle.shared_store.specs.declared.session.Session.{Session}
use Rattle.shared_store.proofs.Open.{before_left, busy_of, event_step, shut_of}
use Rattle.event_spec.specs.Lawful.{reads_handed}
use Rattle.isolation_spec.specs.Reads.{ReadSet}

-- ---- a change, to the machine

module _ (q : ℕ) (place : Place) (m next : IsolationMachine) (commits : History) (own : WriteSet) (has : HasOpenIn q m commits own) where
  -- where it leaves the machine
  as_before : m ≡ next → HasOpenIn q next commits own
  as_before stays = subst (λ (x : IsolationMachine). HasOpenIn q x commits own) stays has

  -- An accepted change is the transaction's own, and any other leaves what it wrote.
  told_change : (change : Option Row) (told : CoreReply) → IfSome change (λ row. Rattle.isolation_spec.specs.Contents.place_of place.table row ≡ place) → IsWriteReply told
      → IsTold m None (change_asked q place change) told next → HasOpenIn q next commits (cond (is_written told) (insert_entry place_cmp own place change) own)
  told_change (Some row) (reply.Written slot) there write h =
      subst (λ (p : Place). HasOpenIn q next commits (insert_entry place_cmp own p (Some row))) there (updated q m next commits own has place.table row h)
  told_change (Some row) (reply.Refused why) there write h = as_before (update_left q m next commits own has place.table row why h)
  told_change (Some row) reply.Memory there write h = as_before (sym h.2)
  told_change None (reply.Written slot) there write h = deleted q m next commits own has place.table place.key h
  told_change None (reply.Refused why) there write h = as_before (delete_left q m next commits own has place.table place.key why h)
  told_change None reply.Memory there write h = as_before (sym h.2)
  told_change change (reply.Begun snapshot) there write h = absurd write
  told_change change (reply.Found row) there write h = absurd write
  told_change change (reply.Rows rows) there write h = absurd write
  told_change change (reply.Shared rows) there write h = absurd write
  told_change change (reply.Committed number) there write h = absurd write
  told_change change (reply.Stale what number) there write h = absurd write
  told_change change reply.Aborted there write h = absurd write
  told_change change (reply.Oldest stamp) there write h = absurd write
  told_change change (reply.Turned turned) there write h = absurd write
  told_change change (reply.Dropped count) there write h = absurd write
  told_change change (reply.Looked look) there write h = absurd write
  told_change change (reply.Moved count) there write h = absurd write
  told_change change (reply.Sealed stamp) there write h = absurd write
  told_change change (reply.NotSealed because) there write h = absurd write
  told_change change (reply.Imaged rows) there write h = absurd write
  told_change change reply.NoSeal there write h = absurd write
  told_change change reply.Thawed there write h = absurd write

-- ---- one event, along the logs of a pass

module _ (store : StoreView) (q : ℕ) (t u : SeatView) (later : HandsView) (own_now : Option OwnTransaction) (e : CoreEvent) (told : CoreReply)
    (within : IsWithin store q u later own_now) (m : MakesOne (shape_in store) q (log_of t.me.0.log) (log_of u.me.0.log) e told)
    (commits : History) (own : WriteSet) (has : HasOpenIn q (machine_after (shape_in store) (log_of t.me.0.log)) commits own) where
  abbrev lawful : IsLawfulLog (shape_in store) (made_in (log_of u.me.0.log))
  lawful = lawful_same (shape_in store) u.me.0.log within.pass.of.1.lawful

  abbrev next : IsolationMachine
  next = machine_after (shape_in store) (log_of u.me.0.log)

  abbrev at_event : IsolationMachine
  at_event = machine_after (shape_in store) m.before

  there : HasOpenIn q at_event commits own
  there = open_on q (machine_after (shape_in store) (log_of t.me.0.log)) at_event commits own has
      (before_left store q (log_of t.me.0.log) (log_of u.me.0.log) e told within.pass.of.1.sound.measures lawful within.knows.under m)

  step_is : IsStep (command_in e) (reads_handed e) at_event told next
  step_is = event_step store q (log_of t.me.0.log) (log_of u.me.0.log) e told within.pass.of.1.sound.measures lawful within.knows.under m

  -- an event that asks the machine nothing leaves what is open
  pub nothing_along : command_in e ≡ None → HasOpenIn q next commits own
  nothing_along none' = subst (λ (x : IsolationMachine). HasOpenIn q x commits own) (sym (subst (λ (c : Option Command). IsStep c (reads_handed e) at_event told next) none' step_is)) there

  -- a change, by what it is told
  pub change_along : (place : Place) (change : Option Row) → IsChangeTo q place change e → IsWriteReply told
      → HasOpenIn q next commits (cond (is_written told) (insert_entry place_cmp own place change) own)
  change_along place change is write = told_change q place at_event next commits own there change told is.there write
      (subst (λ (r : Option ReadSet). IsTold at_event r (change_asked q place change) told next) is.unread
      (subst (λ (c : Option Command). IsStep c (reads_handed e) at_event told next) is.asks step_is))

-- ---- a session

-- What a change made of its transaction, as the call answers it.
pub change_answered : {X E : Type 0} (store : StoreView) (old new : Session) (place : Place) (change : Option Row) (told : CoreReply) (answer : Result X E)
    → new.session ≡ old.session → (is_some old.snapshot ≡ true → is_some new.snapshot ≡ true) → is_ok answer ≡ is_written told
    → WritesAlong (shape_in store) old.session (seen old) (seen new) place change told
    → WritesRow store old new place change answer
change_answered store old new place change told (Ok done) same busy ok along = λ commits own o. record {
  busy = busy_of new (busy (shut_of old o.busy));
  has = subst (λ r. HasOpenIn r (machine_of store new) commits (insert_entry place_cmp own place change)) (sym same)
      (subst (λ b. HasOpenIn old.session (machine_of store new) commits (cond b (insert_entry place_cmp own place change) own)) (sym ok) (along commits own o.has));
}
change_answered store old new place change told (Err fault) same busy ok along = λ commits own o. record {
  busy = busy_of new (busy (shut_of old o.busy));
  has = subst (λ r. HasOpenIn r (machine_of store new) commits own) (sym same)
      (subst (λ b. HasOpenIn old.session (machine_of store new) commits (cond b (insert_entry place_cmp own place change) own)) (sym ok) (along commits own o.has));
}
