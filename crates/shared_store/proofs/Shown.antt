-- Passes that are shown what others have seen.
use Rattle.std.proofs.Common.{◌≡◌, ℕ, List, [], ◌∷◌, Option, length, sym, ap, subst, ◌∙◌, arith}
use Rattle.std.specs.Prelude.{slice_get, Some}
use Rattle.event_spec.specs.declared.own.OwnTransaction.{OwnTransaction}
use Rattle.event_spec.specs.Effects.{CoreEvent}
use Rattle.event_spec.specs.Lawful.{Opened}
use Rattle.event_spec.specs.Parts.{CorePart}
use Rattle.hall_rule.specs.Hands.{Holds}
use Rattle.hall_rule.specs.HallInvariant.{GoesOn as SeenOn, since}
use Rattle.hall_rule.specs.Meaning.{Meaning}
use Rattle.hall_rule.specs.declared.view.Entry.{Entry}
use Rattle.hall_rule.specs.declared.view.View.{View}
use Rattle.hall_steps.specs.Hall.{IsNew, IsPass, IsSameSeat, Joined, Knows, first_of}
use Rattle.run_spec.specs.Handed.{GoesOn}
use Rattle.store_laws.specs.Laws.{SeesOn}
use Rattle.store_laws.specs.Logs.{log_of, store_meaning}
use Rattle.store_laws.specs.Own.{KnowsOwn}
use Rattle.store_laws.proofs.Calling.{goes_far}
use Rattle.store_laws.proofs.Entries.{log_append}
use Rattle.store_laws.proofs.Knowing.{joins_go_on}
use Rattle.shared_store.specs.Meeting.{Meets, Sees}
use Rattle.shared_store.specs.Store.{IsSession, HandsView, IsAt, IsStore, SeatView, StoreView, own_of, shape_in, KeepsNotes}
use Rattle.shared_store.specs.declared.session.Session.{Session}
use Rattle.shared_store.proofs.Open.{sees_on}
use Rattle.shared_store.proofs.Sessions.{hall_meaning, is_meaning, session_is}
use Rattle.shared_store.proofs.Claims.{keeps_same}

-- what holds by what the core means to the hall, and what by what it means to the laws
pub by_laws : (F : Meaning CorePart CoreEvent Opened ℕ → StoreView → Type 0) (inside now : StoreView) → IsStore inside → inside ≡ now
    → F (hall_meaning inside) inside → F (store_meaning (shape_in now)) now
by_laws F inside now is same holds = subst (λ w. F (store_meaning (shape_in w)) w) same (subst (λ M. F M inside) (is_meaning inside is) holds)

-- what holds by what the core means to the laws holds by what it means to the hall
pub by_hall : (F : Meaning CorePart CoreEvent Opened ℕ → StoreView → Type 0) (inside now : StoreView) → IsStore inside → inside ≡ now
    → F (store_meaning (shape_in now)) now → F (hall_meaning inside) inside
by_hall F inside now is same holds = subst (λ M. F M inside) (sym (is_meaning inside is)) (subst (λ w. F (store_meaning (shape_in w)) w) (sym same) holds)

-- a log that goes on in the hall goes on as a run's
seen_on : (v : View CoreEvent) (log : List (Entry CoreEvent)) → SeenOn v log → GoesOn (log_of v.log) (log_of log)
seen_on v log goes = (log_of (since v log), ap log_of goes ∙ log_append (record { tables = []; passes = 0; first = [] }) v.log (since v log))

-- a pass without a hand holds no part
no_hand_no_part : (hands : HandsView) → length hands ≡ 0 → (k : ℕ) → ¬ Holds (first_of hands) k
no_hand_no_part [] none' k h = nothing h.0 h.1
  where
    nothing : (p : CorePart) → slice_get [] k ≡ Some (Some p) → ⊥
    nothing p e = cc
no_hand_no_part (hand ∷ hands) none' k h = absurd (omega (arith, none'))

-- ---- one pass is shown what another has seen

module _ (store : StoreView) (from : View CoreEvent) (note : SeatView) (noted : HandsView)
    (is_note : IsPass (store_meaning (shape_in store)) store.id note noted)
    (new : IsNew (store_meaning (shape_in store)) from note.me.0 [])
  where
    -- the pass that was noted holds no part
    pub note_is_empty : (k : ℕ) → ¬ Holds (first_of noted) k
    note_is_empty = no_hand_no_part noted (is_note.count ∙ ap (λ (qs : List ℕ). length qs) new.hands)

    module _ (t u : SeatView) (hands later : HandsView) (same : IsSameSeat t u)
        (there : IsPass (store_meaning (shape_in store)) store.id u later)
        (joined : Joined (store_meaning (shape_in store)) t.id note.id t.me.0 note.me.0 u.me.0)
      where
        -- it has seen all that the other had
        pub shown : GoesOn (log_of from.log) (log_of u.me.0.log)
        shown = goes_far (log_of from.log) (log_of note.me.0.log) (log_of u.me.0.log)
            (seen_on from note.me.0.log new.goes_on) (seen_on note.me.0 u.me.0.log joined.theirs)

        -- and is its session's as before
        pub saw : (only : (k : ℕ) → Holds (first_of later) k → Holds (first_of hands) k) (session : ℕ) (own : Option OwnTransaction)
            → IsAt store session t hands own → Sees store session t.me.0 u later own
        saw only session own is = record {
          stands = record {
            within = record { pass = there; knows = on.knows };
            empty = λ k holds. is.empty k (only k holds);
          };
          sees = on;
          count =
              let entries = joined.entries in
              let none' : length note.me.0.mine ≡ 0 = ap (λ (es : List (Entry CoreEvent)). length es) new.mine in
              omega (arith, entries, none');
          taken = joined.taken;
        }
          where
            knows_new : Knows (store_meaning (shape_in store)) t.id u.me (first_of later)
            knows_new = subst (λ i. Knows (store_meaning (shape_in store)) i u.me (first_of later)) same.1 there.of.1

            on : SeesOn (shape_in store) session t.me.0 u.me.0 own
            on = joins_go_on (shape_in store) session t.id note.id t.me u.me note.me.0 (first_of hands) (first_of later) own
                is.within.pass.of.1 knows_new new.hands new.mine joined is.within.knows

-- the pass that was noted is its session's as before
pub noted_stays : (store : StoreView) (s t : SeatView) (hands later : HandsView)
    → IsPass (store_meaning (shape_in store)) store.id t later → t.me.0 ≡ s.me.0 → later ≡ hands
    → (session : ℕ) (own : Option OwnTransaction) → IsAt store session s hands own → IsAt store session t later own
noted_stays store s t hands later there same held session own is = record {
  within = record {
    pass = there;
    knows = subst (λ (v : View CoreEvent). KnowsOwn (shape_in store) session v own) (sym same) is.within.knows;
  };
  empty = subst (λ (hs : HandsView). (k : ℕ) → ¬ Holds (first_of hs) k) (sym held) is.empty;
}

-- ---- a session

-- what a pass saw it has seen when it is noted then
pub saw_and_stays : (store : StoreView) (session : ℕ) (old : View CoreEvent) (mid new : SeatView) (held later : HandsView) (own : Option OwnTransaction)
    → Sees store session old mid held own → new.me.0 ≡ mid.me.0 → IsAt store session new later own → Sees store session old new later own
saw_and_stays store session old mid new held later own saw same stands = record {
  stands = stands;
  sees = subst (λ (v : View CoreEvent). SeesOn (shape_in store) session old v own) (sym same) saw.sees;
  count = ap (λ (v : View CoreEvent). length v.mine) same ∙ saw.count;
  taken = ap (λ (v : View CoreEvent). v.taken) same ∙ saw.taken;
}

-- a session whose pass has seen more
pub meets : (store : StoreView) (old new : Session) → Sees store old.session old.pass.seat.me.0 new.pass.seat new.pass.hands (own_of old)
    → new.session ≡ old.session → own_of new ≡ own_of old → KeepsNotes store old new → Meets store old new
meets store old new saw same opened kept = record {
  session = later;
  same = same;
  opened = opened;
  kept = kept.0;
  sees = saw.sees.goes_on;
  own = saw.sees.same;
  made = saw.count;
  taken = saw.taken;
  reads = keeps_same saw.sees.reads;
  is_open = sees_on store old new later same opened saw.sees.goes_on saw.sees.same;
}
  where
    later : IsSession store new
    later = session_is store new (subst (λ q. IsAt store q new.pass.seat new.pass.hands (own_of new)) (sym same)
        (subst (IsAt store old.session new.pass.seat new.pass.hands) (sym opened) saw.stands)) kept.1
