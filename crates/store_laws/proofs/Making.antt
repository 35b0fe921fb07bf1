-- What a session knows of itself behind an event of its own.
use Rattle.std.proofs.Common.{◌≡◌, ◌≢◌, ℕ, Bool, true, false, List, [], ◌∷◌, ◌++◌, Option, None, Some, refl, sym, ap, ◌∙◌, subst, true≢false}
use mathlib.Core.Logic.{inl, inr}
use Rattle.std.specs.Prelude.{MatchBool}
use Rattle.std.proofs.lemmas.List.Sums.{fold-append}
use Rattle.std.proofs.lemmas.Option.{none-some}
use Rattle.event_spec.specs.declared.event.Event.TheVariants as event
use Rattle.event_spec.specs.declared.own.OwnTransaction.{OwnTransaction}
use Rattle.event_spec.specs.declared.reply.Reply.TheVariants.{Memory}
use Rattle.event_spec.specs.Effects.{CoreEvent, effect}
use Rattle.event_spec.specs.Lawful.{IsLawful, session_of, takes_memory}
use Rattle.event_spec.specs.Parts.{Parts}
use Rattle.event_spec.specs.Replay.{after, reply_after}
use Rattle.event_spec.specs.Replies.{CoreReply, reply_to}
use Rattle.hall_rule.specs.EventLog.{LawfulFrom, OnlyBy, has, own, replay}
use Rattle.hall_rule.specs.HallInvariant.{since}
use Rattle.hall_rule.specs.Views.{entry_of as hall_entry}
use Rattle.hall_rule.specs.declared.view.Entry.{Entry}
use Rattle.hall_rule.specs.declared.view.View.{View}
use Rattle.hall_rule.proofs.Logs.{has_head, lawful_rest, replay_append}
use Rattle.store_laws.proofs.Going.{goes, stays}
use Rattle.store_laws.specs.OwnLaws.{HasOpened}
use Rattle.run_spec.specs.Calls.{is_memory}
use Rattle.run_spec.specs.Handed.{own_in}
use Rattle.run_spec.specs.Occurrences.{Occurrence}
use Rattle.run_spec.specs.Opened.{own_after, own_behind}
use Rattle.store_laws.specs.Laws.{EventsGoOn, IsOfSession}
use Rattle.store_laws.specs.Logs.{log_of, logged_of, store_meaning}
use Rattle.store_laws.specs.Own.{KnowsOwn, MakesOne, StandsUnder, entry_of, occurrence_at, parts_after}
use Rattle.store_laws.proofs.Entries.{log_append, own_grows, own_stays, replay_same}
use Rattle.store_laws.proofs.Knowing.{opened_moves, under_append, under_on}

-- An option that has a value is not one without a value.
some_none : {A : Type 0} (a : A) → Some a ≡ None → ⊥
some_none a e = cc

-- an event of no session tells nothing of what is open
pub unnamed_keeps : (own' : Option OwnTransaction) (e : CoreEvent) (told : CoreReply) → session_of e ≡ None → own_behind own' e told ≡ own'
unnamed_keeps own' (event.Begin session) told none' = absurd (some_none session none')
unnamed_keeps own' (event.Get me table key) told none' = absurd (some_none me.session none')
unnamed_keeps own' (event.Insert me table row) told none' = absurd (some_none me.session none')
unnamed_keeps own' (event.Update me table row) told none' = absurd (some_none me.session none')
unnamed_keeps own' (event.Delete me table key) told none' = absurd (some_none me.session none')
unnamed_keeps own' (event.Read me table block) told none' = absurd (some_none me.session none')
unnamed_keeps own' (event.Range me table low high) told none' = absurd (some_none me.session none')
unnamed_keeps own' (event.Commit me reads) told none' = absurd (some_none me.session none')
unnamed_keeps own' (event.Abort me) told none' = absurd (some_none me.session none')
unnamed_keeps own' event.Oldest told none' = refl
unnamed_keeps own' (event.Observe table block) told none' = refl
unnamed_keeps own' (event.Prune table block oldest) told none' = refl
unnamed_keeps own' (event.Look table block) told none' = refl
unnamed_keeps own' (event.Move table moves) told none' = refl
unnamed_keeps own' (event.Seal table block) told none' = refl
unnamed_keeps own' (event.Image table block image) told none' = refl
unnamed_keeps own' (event.Thaw table block) told none' = refl

-- A change that leaves each open transaction as it is leaves what is open.
written_none : (own' : Option OwnTransaction) (f : OwnTransaction → OwnTransaction) → ((t : OwnTransaction) → f t ≡ t) → Rattle.std.proofs.Common.option_map f own' ≡ own'
written_none None f same = refl
written_none (Some t) f same = ap Some (same t)

-- nor does one that was refused memory
pub refused_keeps : (own' : Option OwnTransaction) (e : CoreEvent) → takes_memory e ≡ true → own_behind own' e Memory ≡ own'
refused_keeps own' (event.Begin session) takes = refl
refused_keeps own' (event.Get me table key) takes = refl
refused_keeps own' (event.Insert me table row) takes = written_none own' _ (λ t. refl)
refused_keeps own' (event.Update me table row) takes = written_none own' _ (λ t. refl)
refused_keeps own' (event.Delete me table key) takes = written_none own' _ (λ t. refl)
refused_keeps own' (event.Read me table block) takes = refl
refused_keeps own' (event.Range me table low high) takes = refl
refused_keeps own' (event.Commit me reads) takes = absurd (true≢false (sym takes))
refused_keeps own' (event.Abort me) takes = absurd (true≢false (sym takes))
refused_keeps own' event.Oldest takes = refl
refused_keeps own' (event.Observe table block) takes = refl
refused_keeps own' (event.Prune table block oldest) takes = refl
refused_keeps own' (event.Look table block) takes = refl
refused_keeps own' (event.Move table moves) takes = refl
refused_keeps own' (event.Seal table block) takes = refl
refused_keeps own' (event.Image table block image) takes = refl
refused_keeps own' (event.Thaw table block) takes = refl

-- a session that made an event has it among its own, and has open what it told
pub events_go_on : EventsGoOn
events_go_on shape session id old new hand held before own' e told is_shape k k' ends replied mine knows = (makes, knows')
  where
    v : View CoreEvent
    v = old.0

    w : View CoreEvent
    w = new.0

    entry : Entry CoreEvent
    entry = hall_entry id v (is_memory told) e

    ids : List ℕ
    ids = id ∷ v.joined

    parts : Parts
    parts = replay (store_meaning shape) before

    parts_are : parts ≡ parts_after shape (log_of before)
    parts_are = replay_same shape before

    goes_to : before ≡ v.log ++ since v before
    goes_to = ends.learned.goes_on

    in_sessions : has session v.sessions ≡ true
    in_sessions = ap (has session) knows.sessions ∙ has_head session []

    same : own_in shape session (log_of before) ≡ own_in shape session (log_of v.log)
    same = ap (λ l. own_in shape session (log_of l)) goes_to
        ∙ own_stays shape session ids v.log (since v before)
        (subst (λ l. own ids l ≡ own ids v.log) goes_to (ends.learned.mine ∙ sym k.mine))
        (subst (OnlyBy session ids) goes_to (ends.learned.tied.alone session knows.sole in_sessions))

    named : entry.session ≡ session
    named = ap Rattle.hall_rule.specs.Views.least knows.sessions

    logged : logged_of entry ≡ entry_of session e told
    logged = ap (λ q. record { session = q; made = record { event = e; refused = is_memory told } }) named

    log_is : log_of w.log ≡ log_of before ++ entry_of session e told ∷ []
    log_is = ap log_of ends.log ∙ log_append shape before (entry ∷ []) ∙ ap (λ x. log_of before ++ x ∷ []) logged

    told_is : (b : Bool) → is_memory told ≡ b → MatchBool b (told ≡ Memory) (told ≡ reply_to shape parts e)
        → told ≡ reply_after shape parts (record { event = e; refused = b })
    told_is true is r = r
    told_is false is r = r

    told_now : told ≡ reply_after shape (parts_after shape (log_of before)) (entry_of session e told).made
    told_now = told_is (is_memory told) refl replied ∙ ap (λ s. reply_after shape s (entry_of session e told).made) parts_are

    own_is_more : own_in shape session (log_of w.log) ≡ own_in shape session (log_of v.log) ++ occurrence_at session (parts_after shape (log_of before)) e told ∷ []
    own_is_more =
        ap (own_in shape session) log_is
        ∙ own_grows shape session (log_of before) (entry_of session e told) refl
        ∙ ap (λ os. os ++ occurrence_at session (parts_after shape (log_of before)) e (reply_after shape (parts_after shape (log_of before)) (entry_of session e told).made) ∷ []) same
        ∙ ap (λ r. own_in shape session (log_of v.log) ++ occurrence_at session (parts_after shape (log_of before)) e r ∷ []) (sym told_now)

    makes : MakesOne shape session (log_of v.log) (log_of w.log) e told
    makes = record {
      before = log_of before;
      goes_on = (log_of (since v before), ap log_of goes_to ∙ log_append shape v.log (since v before));
      log = log_is;
      reply = told_now;
      own = own_is_more;
    }

    -- what is open, at the event and behind it
    at_event : HasOpened shape parts session own'
    at_event = opened_moves shape (replay (store_meaning shape) v.log) parts session own' (ends.learned.transactions session in_sessions) knows.opened

    behind : replay (store_meaning shape) w.log ≡ after shape parts (record { event = e; refused = is_memory told })
    behind = ap (replay (store_meaning shape)) ends.log ∙ replay_append (store_meaning shape) (store_meaning shape).start before (entry ∷ [])

    lawful : LawfulFrom (store_meaning shape) parts (entry ∷ [])
    lawful = lawful_rest (store_meaning shape) (store_meaning shape).start before (entry ∷ []) (subst (LawfulFrom (store_meaning shape) (store_meaning shape).start) ends.log k'.lawful)

    is_lawful : IsLawful shape e parts
    is_lawful = (lawful.0, lawful.1)

    granted : IsOfSession session e → HasOpened shape (effect shape parts e) session (own_behind own' e (reply_to shape parts e))
    granted (inl named') = goes shape parts e session own' ends.learned.sound is_lawful named' at_event
    granted (inr unnamed) = subst (HasOpened shape (effect shape parts e) session) (sym (unnamed_keeps own' e (reply_to shape parts e) unnamed))
        (stays shape parts e session own' ends.learned.sound is_lawful (λ is. none-some session (sym unnamed ∙ is)) at_event)

    opened_behind : (b : Bool) → is_memory told ≡ b → MatchBool b (told ≡ Memory) (told ≡ reply_to shape parts e)
        → HasOpened shape (after shape parts (record { event = e; refused = b })) session (own_behind own' e told)
    opened_behind true is r =
        subst (λ t. HasOpened shape parts session (own_behind own' e t)) (sym r)
        (subst (HasOpened shape parts session) (sym (refused_keeps own' e (lawful.2 is))) at_event)
    opened_behind false is r = subst (λ t. HasOpened shape (effect shape parts e) session (own_behind own' e t)) (sym r) (granted mine)

    knows' : KnowsOwn shape session w (own_behind own' e told)
    knows' = record {
      sessions = ends.sessions ∙ knows.sessions;
      sole = ap (has session) ends.sole ∙ knows.sole;
      under = subst (StandsUnder session) (sym log_is)
          (under_append session (log_of before) (entry_of session e told ∷ [])
          (under_on shape session v.log before goes_to knows.under (ends.learned.spared session in_sessions)) ((λ is. refl), tt));
      own_is =
          ap (λ o. own_behind o e told) knows.own_is
          ∙ sym (ap own_after own_is_more ∙ fold-append (λ (o : Option OwnTransaction) (x : Occurrence). own_behind o x.event x.reply) None (own_in shape session (log_of v.log)) (occurrence_at session (parts_after shape (log_of before)) e told ∷ []));
      opened = subst (λ s. HasOpened shape s session (own_behind own' e told)) (sym behind) (opened_behind (is_memory told) refl replied);
    }
