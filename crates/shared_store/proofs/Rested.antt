-- Events on blocks one after another, of which a pass keeps the parts that all touch.
use Rattle.std.proofs.Common.{◌≡◌, ℕ, ◌+◌, Bool, true, false, List, [], ◌∷◌, ◌++◌, Option, None, Some, length, set, refl, sym, ap, subst, ◌∙◌, true≢false}
use mathlib.Core.Logic.{◌⊎◌, inl, inr}
use Rattle.std.specs.Prelude.{slice_get}
use Rattle.event_spec.specs.declared.own.OwnTransaction.{OwnTransaction}
use Rattle.event_spec.specs.Effects.{CoreEvent}
use Rattle.event_spec.specs.Lawful.{IsOldest, Stands, session_of}
use Rattle.event_spec.specs.Parts.{BodyOf, CorePart, Name, names}
use Rattle.event_spec.specs.Replies.{CoreReply}
use Rattle.event_spec.specs.Touched.{touching}
use Rattle.hall_rule.proofs.Numbers.{has_cons}
use Rattle.hall_rule.specs.EventLog.{has, replay}
use Rattle.hall_rule.specs.Hands.{Holds, all_in}
use Rattle.hall_rule.specs.Views.{given}
use Rattle.hall_rule.specs.declared.view.Entry.{Entry}
use Rattle.hall_rule.specs.declared.view.View.{View}
use Rattle.hall_steps.proofs.Walking.{sees_on, sees_same}
use Rattle.hall_steps.specs.Hall.{IsPass, Looks, first_of}
use Rattle.store_laws.specs.OwnLaws.{HasOpened}
use Rattle.run_spec.specs.Handed.{GoesOn, own_in}
use Rattle.run_spec.specs.Occurrences.{Occurrence}
use Rattle.run_spec.specs.Opened.{own_after, own_behind}
use Rattle.store_laws.specs.Logs.{log_of, store_meaning}
use Rattle.store_laws.specs.Own.{StandsUnder, parts_after}
use Rattle.shared_store.specs.Keeping.{GivesPart, IsKeeping, IsOnBlock, Keeps, MakesAnyKeeping, MakesKeeping, rested, rested_hands, rested_seat}
use Rattle.shared_store.specs.Making.{Gives, Makes, MakesHeld, Takes}
use Rattle.shared_store.specs.Store.{EndsWithLast, HandsView, IsAt, IsSession, IsWithin, KeepsLend, SeatView, StoreView, TookPartsOf, own_of, seen, shape_in, taken_by, KeepsNotes, notes_of, reads_of}
use Rattle.shared_store.specs.Sweeping.{MakesAlone, Sweeps, SweepsMore}
use Rattle.shared_store.specs.declared.session.Session.{Session}
use Rattle.shared_store.proofs.Kept.{body_touched, covers_with, hand_room, keeps_without, rested_at}
use Rattle.shared_store.proofs.Made.{made_whole, taken_parts}
use Rattle.shared_store.proofs.Sessions.{session_is}
use Rattle.shared_store.proofs.Swept.{made_alone}
use Rattle.shared_store.proofs.Claims.{keeps_on, keeps_same, same_on}
use Rattle.run_spec.specs.Handed.{Stretch}
use Rattle.shared_store.specs.Reads.{ReadsFit}

-- ---- taking

-- a body was taken beside the parts that are kept
pub body_taken : (store : StoreView) (common : Name → Bool) (table block body : ℕ) (e : CoreEvent) (s t : SeatView) (held hands : HandsView)
    → slice_get (names (shape_in store)) body ≡ Some (BodyOf table block) → IsOnBlock (shape_in store) common table block e
    → Keeps (shape_in store) common (first_of held) → IsPass (store_meaning (shape_in store)) store.id t hands
    → Looks (store_meaning (shape_in store)) s t → (p : CorePart) × (first_of hands ≡ set (first_of held) body (Some p))
    → t.me.0.taken ≡ s.me.0.taken ++ body ∷ []
    → (session : ℕ) (own : Option OwnTransaction) → IsWithin store session s held own → Takes store session s t hands own e
body_taken store common table block body e s t held hands at on keeps there looks hand taken session own within =
    taken_parts store s t held hands e there looks.0
    (sees_on (store_meaning (shape_in store)) s.id s.me.0 s.me.0 t.me.0 (sees_same (store_meaning (shape_in store)) s.me.0) looks.1)
    session own within
    (covers_with (shape_in store) common table block body e at on (first_of held) (first_of hands) hand.0 (hand_room store session s held own within) keeps hand.1)
    (body ∷ []) taken
    (λ k is. touches k (has_cons k body [] is))
  where
    touches : (k : ℕ) → (k ≡ body) ⊎ (false ≡ true) → touching (shape_in store) e (all_in (parts_after (shape_in store) (log_of t.me.0.log))) k ≡ true
    touches k (inl same) = subst (λ i. touching (shape_in store) e (all_in (parts_after (shape_in store) (log_of t.me.0.log))) i ≡ true) (sym same)
        (body_touched (shape_in store) common table block body e at on (all_in (parts_after (shape_in store) (log_of t.me.0.log))))
    touches k (inr none') = absurd (true≢false (sym none'))

-- all was given back, and then parts were taken
pub taken_anew : (store : StoreView) (session : ℕ) (s m t : SeatView) (mid later : HandsView) (own : Option OwnTransaction) (e : CoreEvent)
    → Gives store session s m mid own → Takes store session m t later own e → Takes store session s t later own e
taken_anew store session s m t mid later own e gives takes = record {
  within = takes.within;
  sees = record {
    goes_on = subst (λ (l : List (Entry CoreEvent)). GoesOn (log_of l) (log_of t.me.0.log)) gives.log takes.sees.goes_on;
    same = takes.sees.same ∙ ap (λ (l : List (Entry CoreEvent)). own_in (shape_in store) session (log_of l)) gives.log;
    knows = takes.sees.knows;
    reads = same_on gives.reads takes.sees.reads;
  };
  mine = takes.mine ∙ gives.mine;
  covers = takes.covers;
  took = subst (λ (ts : List ℕ). TookPartsOf (shape_in store) (e ∷ []) (log_of s.me.0.log) (log_of t.me.0.log) ts t.me.0.taken) gives.taken
      (subst (λ (l : List (Entry CoreEvent)). TookPartsOf (shape_in store) (e ∷ []) (log_of l) (log_of t.me.0.log) m.me.0.taken t.me.0.taken) gives.log takes.took);
  stands = λ other mine stands. takes.stands other mine
      (subst (λ (l : List (Entry CoreEvent)). Stands (shape_in store) other (replay (store_meaning (shape_in store)) l)) (sym gives.log) stands);
  lasting = λ stamp known. takes.lasting stamp
      (subst (λ (l : List (Entry CoreEvent)). IsOldest (shape_in store) stamp (replay (store_meaning (shape_in store)) l)) (sym gives.log) known);
}

-- ---- giving back

-- a pass that gave one part back knows what it knew
pub gave_part : (store : StoreView) (session part : ℕ) (u w : SeatView) (hands later : HandsView) (own : Option OwnTransaction)
    → IsWithin store session u hands own → IsPass (store_meaning (shape_in store)) store.id w later → w.me.0 ≡ given u.me.0 part
    → GivesPart store session u w later own
gave_part store session part u w hands later own within left view =
    let log : w.me.0.log ≡ u.me.0.log = ap (λ (v : View CoreEvent). v.log) view in
    record {
      within = record {
        pass = left;
        knows = record {
          sessions = ap (λ (v : View CoreEvent). v.sessions) view ∙ within.knows.sessions;
          sole = ap (λ (v : View CoreEvent). has session v.sole) view ∙ within.knows.sole;
          under = subst (λ (l : List (Entry CoreEvent)). StandsUnder session (log_of l)) (sym log) within.knows.under;
          own_is = within.knows.own_is ∙ ap (λ (l : List (Entry CoreEvent)). own_after (own_in (shape_in store) session (log_of l))) (sym log);
          opened = subst (λ (l : List (Entry CoreEvent)). HasOpened (shape_in store) (replay (store_meaning (shape_in store)) l) session own) (sym log) within.knows.opened;
        };
      };
      log = log;
      mine = ap (λ (v : View CoreEvent). v.mine) view;
      taken = ap (λ (v : View CoreEvent). v.taken) view;
      reads = (ap (λ (v : View CoreEvent). v.claim) view, ap (λ (v : View CoreEvent). v.claimed) view);
    }

-- ---- all together

-- an event on a block is whole where its body was taken and given back and the rest is kept
pub made_keeping : (store : StoreView) (session : ℕ) (common : Name → Bool) (table block body : ℕ) (s t u w : SeatView) (hands mid later : HandsView) (own : Option OwnTransaction) (e : CoreEvent) (told : CoreReply)
    → slice_get (names (shape_in store)) body ≡ Some (BodyOf table block) → IsOnBlock (shape_in store) common table block e
    → Takes store session s t hands own e → ((k : ℕ) → Holds (first_of hands) k → touching (shape_in store) e (first_of hands) k ≡ true)
    → MakesHeld store session t u hands mid own e told → GivesPart store session u w later (own_behind own e told)
    → first_of later ≡ set (first_of mid) body None → MakesKeeping store session s w later own common e told
made_keeping store session common table block body s t u w hands mid later own e told at on takes only held gives is = record {
  within = gives.within;
  makes = made_whole store session s t u (rested_seat w) hands mid (rested_hands later) own e told takes held (record {
    stands = rested_at store session w later (own_behind own e told) gives.within;
    log = gives.log;
    mine = gives.mine;
    taken = gives.taken;
    reads = gives.reads;
  });
  keeps = keeps_without (shape_in store) common table block body e at on (first_of hands) (first_of mid) (first_of later)
      (hand_room store session t hands own takes.within) takes.covers only held.room is;
}

-- ---- sessions that keep parts

-- a session that keeps parts is one of the store, as if it had given all back
pub rested_session : (store : StoreView) (s : Session) → IsWithin store s.session s.pass.seat s.pass.hands (own_of s) → ReadsFit (shape_in store) (reads_of s) → IsSession store (rested s)
rested_session store s within fits = session_is store (rested s) (rested_at store s.session s.pass.seat s.pass.hands (own_of s) within) fits

-- a session that keeps nothing yet
pub keeping_starts : (store : StoreView) (common : Name → Bool) (block : ℕ) (s : Session) → IsSession store s → block ≡ 0 → IsKeeping store common block s
keeping_starts store common block s is none' = record { within = is.stands.within; fits = is.fits; keeps = λ some. absurd (some none') }

-- the event that a pass was handed, as one of its session
pub kept_by : (store : StoreView) (common : Name → Bool) (table block : ℕ) (old : Session) (seat : SeatView) (hands : HandsView) (e handed : CoreEvent) (told : CoreReply)
    → IsKeeping store common block old → IsOnBlock (shape_in store) common table block e → session_of e ≡ None → handed ≡ e
    → MakesAnyKeeping store old.pass.seat old.pass.hands seat hands table block handed told → MakesKeeping store old.session old.pass.seat seat hands (own_of old) common e told
kept_by store common table block old seat hands e handed told is on unnamed same made =
    subst (λ (e : CoreEvent). MakesKeeping store old.session old.pass.seat seat hands (own_of old) common e told) same
    (made old.session (own_of old) common is.within (inr (ap session_of same ∙ unnamed))
    (subst (IsOnBlock (shape_in store) common table block) (sym same) on))

-- a session that made one event more, which opens and ends nothing
pub kept_on : (store : StoreView) (common : Name → Bool) (block : ℕ) (old new : Session) (e : CoreEvent) (told : CoreReply)
    → MakesKeeping store old.session old.pass.seat new.pass.seat new.pass.hands (own_of old) common e told
    → new.session ≡ old.session → own_of new ≡ own_of old → ReadsFit (shape_in store) (reads_of new) → own_behind (own_of old) e told ≡ own_of old → IsKeeping store common (block + 1) new
kept_on store common block old new e told m same opened fits stays = record {
  fits = fits;
  within = subst (λ q. IsWithin store q new.pass.seat new.pass.hands (own_of new)) (sym same)
      (subst (IsWithin store old.session new.pass.seat new.pass.hands) (stays ∙ sym opened) m.within);
  keeps = λ _. m.keeps;
}

-- an event that was made with parts kept was made alone by the session as if it kept none
pub alone_kept : (store : StoreView) (common : Name → Bool) (old new : Session) (e : CoreEvent) (told said : CoreReply)
    → MakesKeeping store old.session old.pass.seat new.pass.seat new.pass.hands (own_of old) common e told → told ≡ said
    → new.session ≡ old.session → own_of new ≡ own_of old → KeepsNotes store old new → own_behind (own_of old) e told ≡ own_of old → MakesAlone store (rested old) (rested new) e said
alone_kept store common old new e told said m is same opened kept stays = made_alone store (rested old) (rested new) e told said made is same opened kept stays
  where
    made : Makes store old.session (rested_seat old.pass.seat) (rested_seat new.pass.seat) (rested_hands new.pass.hands) (own_of old) e told
    made = record {
      stands = m.makes.stands;
      makes = m.makes.makes;
      refuses = m.makes.refuses;
      count = m.makes.count;
      took = m.makes.took;
      reads = m.makes.reads;
      lasting = m.makes.lasting;
    }

-- a session that gave all back is one again
pub given_session : (store : StoreView) (mid new : Session) → new.session ≡ mid.session → own_of new ≡ own_of mid → ReadsFit (shape_in store) (reads_of new)
    → Gives store mid.session mid.pass.seat new.pass.seat new.pass.hands (own_of mid) → IsSession store new
given_session store mid new same opened fits gives = session_is store new
    (subst (λ q. IsAt store q new.pass.seat new.pass.hands (own_of new)) (sym same)
    (subst (IsAt store mid.session new.pass.seat new.pass.hands) (sym opened) gives.stands)) fits

-- what a session made it made also as one that knows the same
pub sweeps_same : (store : StoreView) (asked : List CoreEvent) (tells : List Occurrence → Type 0) (first mid new : Session) (events : List CoreEvent)
    → Sweeps store asked tells first mid events → IsSession store new → new.session ≡ mid.session → own_of new ≡ own_of mid → notes_of new ≡ notes_of mid
    → new.pass.seat.me.0.log ≡ mid.pass.seat.me.0.log → new.pass.seat.me.0.mine ≡ mid.pass.seat.me.0.mine → new.pass.seat.me.0.taken ≡ mid.pass.seat.me.0.taken
    → KeepsLend mid.pass.seat.me.0 new.pass.seat.me.0
    → Sweeps store asked tells first new events
sweeps_same store asked tells first mid new events s is same opened kept log mine taken reads = record {
  made = s.made;
  went = record {
    session = is;
    same = same ∙ s.went.same;
    opened = opened ∙ s.went.opened;
    kept = kept ∙ s.went.kept;
    unwritten = s.went.unwritten;
    stretch = subst (λ (l : List (Entry CoreEvent)). Stretch (shape_in store) first.session (seen first) (log_of l) s.made) (sym log) s.went.stretch;
    count = ap (λ (es : List (Entry CoreEvent)). length es) mine ∙ s.went.count;
    ends = subst (λ (l : List (Entry CoreEvent)). EndsWithLast s.made (log_of l)) (sym log) s.went.ends;
    took = subst (λ (ts : List ℕ). TookPartsOf (shape_in store) asked (seen first) (seen new) (taken_by first) ts) (sym taken)
        (subst (λ (l : List (Entry CoreEvent)). TookPartsOf (shape_in store) asked (seen first) (log_of l) (taken_by first) (taken_by mid)) (sym log) s.went.took);
    reads = keeps_on s.went.reads reads;
  };
  events_are = s.events_are;
  plain = s.plain;
  told = s.told;
}

module _ (store : StoreView) (asked : List CoreEvent) (tells : ℕ → List Occurrence → Type 0) where
  -- so it is when it is said to have given all back
  pub sweeps_rested : (old new : Session) (events : List CoreEvent) (count : ℕ) → SweepsMore store asked tells old new events count
      → IsWithin store new.session new.pass.seat new.pass.hands (own_of new) → ReadsFit (shape_in store) (reads_of new) → SweepsMore store asked tells old (rested new) events count
  sweeps_rested old new events count so within fits first front before s =
      sweeps_same store asked (tells (before + count)) first new (rested new) (front ++ events) (so first front before s)
      (rested_session store new within fits) refl refl refl refl refl refl (record { claim = refl; claimed = λ some. refl })

  -- and when it did
  pub sweeps_given : (old mid new : Session) (events : List CoreEvent) (count : ℕ) → SweepsMore store asked tells old (rested mid) events count
      → new.session ≡ mid.session → own_of new ≡ own_of mid → KeepsNotes store mid new → Gives store mid.session mid.pass.seat new.pass.seat new.pass.hands (own_of mid)
      → SweepsMore store asked tells old new events count
  sweeps_given old mid new events count so same opened kept gives first front before s =
      sweeps_same store asked (tells (before + count)) first (rested mid) new (front ++ events) (so first front before s)
      (given_session store mid new same opened kept.1 gives) same opened kept.0 gives.log gives.mine gives.taken (keeps_same gives.reads)
