-- What a session has open goes on with its own events, and stays with all others.
use Rattle.std.proofs.Common.{◌≡◌, ℕ, ◌<◌, ◌≤◌, ℤ, Bool, true, false, cond, List, [], ◌∷◌, Option, None, Some, option_map, is_none, is_some, length, unwrap_or, refl, sym, ap, ◌∙◌, subst, arith}
use mathlib.Core.Logic.{inl, inr}
use Rattle.std.specs.Prelude.{Result, Ok, Err, IsSomeAnd, option_and_then}
use Rattle.std.specs.BTreeMap.{insert_entry}
use Rattle.std.specs.Option.{option_or}
use Rattle.block_layout.specs.Place.{block_of, slot_of}
use Rattle.block_spec.specs.Bodies.{Body, with_slot}
use Rattle.block_spec.specs.declared.change.Change.{Change}
use Rattle.block_spec.specs.declared.change.Change.TheVariants as change
use Rattle.block_spec.specs.Slots.{Row, Slot, writer_of, written}
use Rattle.core_laws.proofs.Events.Added.{place_added}
use Rattle.core_laws.proofs.Events.Heads.{next_is_there}
use Rattle.core_laws.proofs.Events.Naming.{follows_machine}
use Rattle.core_laws.proofs.Events.Owners.{all_open, all_slots, key_slot, open_with, transaction_is}
use Rattle.core_laws.proofs.Events.Slots.{body_of, write_else, write_here}
use Rattle.core_laws.proofs.Events.States.{desk_at_after, places_stay, slot_after}
use Rattle.core_laws.proofs.Events.Still.{all_stay}
use Rattle.core_laws.specs.Events.Named.{FollowsMachine}
use Rattle.event_spec.specs.declared.event.Event.TheVariants as event
use Rattle.event_spec.specs.declared.own.OwnKey.{OwnKey}
use Rattle.event_spec.specs.declared.own.OwnTransaction.{OwnTransaction}
use Rattle.event_spec.specs.declared.part.Part.TheVariants as part
use Rattle.event_spec.specs.declared.reply.Reply.TheVariants as reply
use Rattle.event_spec.specs.declared.reply.WriteFault.{WriteFault}
use Rattle.event_spec.specs.declared.reply.WriteFault.TheVariants.{Exists, Full, Missing}
use Rattle.event_spec.specs.Effects.{CoreEvent, after_change, after_insert, after_judged, at_both, change_judged, changes_of, closed, effect, found, insert_judged, is_some_write, numbered, stale_in}
use Rattle.event_spec.specs.Judged.{current_place, differences, fault_of, freezing_of, newer_by, next_place}
use Rattle.event_spec.specs.Follows.{StandsBefore}
use Rattle.event_spec.specs.Lawful.{Among, IsLawful, IsOwn, IsOwnKey, IsSession, IsThawed, Opened, OwnsAll, OwnsKey, session_of, transaction, writes_of}
use Rattle.event_spec.specs.Parts.{Changes, Parts, Shape, BodyOf, ShardOf, names, nothing, each_changed, body_at, desk_at, head_at, part_named, places_at, shard_of, slot_at, slots_of}
use Rattle.event_spec.specs.Replies.{CoreReply, reply_to, reply_to_commit, reply_to_write}
use Rattle.event_spec.specs.Sound.{Sound}
use Rattle.core_laws.proofs.Following.Desks.{closed_own, none_not, opened_own}
use Rattle.core_laws.specs.Following.Steps.{IsAdded}
use Rattle.core_laws.proofs.Frames.Reached.{core_kept}
use Rattle.core_laws.specs.Frames.Shards.{CoreHolds}
use Rattle.isolation_spec.specs.declared.read.Read.{Read}
use Rattle.isolation_spec.specs.Reads.{ReadSet}
use Rattle.isolation_spec.specs.Contents.{PlaceMap, key_of, place_at, place_cmp, place_of}
use Rattle.isolation_spec.specs.declared.place.Place.{Place}
use Rattle.isolation_spec.specs.Machine.{transaction_of}
use Rattle.store_laws.proofs.Owned.{goes_on, owns_all}
use Rattle.store_laws.specs.OwnLaws.{HasOpened, KeysAreOwned, OwnGoesOn, OwnStays, RestsAtFirst}
use Rattle.core_laws.proofs.Parts.Leaving.{leaves}
use Rattle.core_laws.proofs.Parts.Standing.{rests as at_rest}
use Rattle.run_spec.specs.Opened.{committed_by, own_behind, own_key, with_own}
use Rattle.core_laws.proofs.Slots.Kept.{writer_filled}
use Rattle.core_laws.proofs.Sound.Written.{change_goes, judged_ok}
use Rattle.txn_desk.specs.declared.Snapshot.{Snapshot}
use Rattle.txn_desk.specs.Desk.{DeskState}
use Rattle.txn_desk.specs.Oldest.{HasPass, snapshot_of}

-- in the opening core no session has anything open
pub rests : RestsAtFirst
rests sh q shape = at_rest sh q shape

-- ---- other events

-- Where an event leaves a session's transaction, the session owns what it owned.
moved_open : (sh : Shape) (s u : Parts) (own : OwnTransaction) → transaction sh u own.session ≡ transaction sh s own.session → OwnsAll sh own s → OwnsAll sh own u
moved_open sh s u own same owns = (owns.0, subst (λ o. IsSomeAnd o (IsOwn sh u own)) (sym same) (go (transaction sh s own.session) owns.1))
  where
    go : (o : Option Opened) → IsSomeAnd o (IsOwn sh s own) → IsSomeAnd o (IsOwn sh u own)
    go None x = absurd x
    go (Some has) x = record { snapshot = x.snapshot; writes = x.writes }

-- behind any other lawful event a session has open what it had
pub stays : OwnStays
stays sh s e q own holds lawful other has = go own has
  where
    same : transaction sh (effect sh s e) q ≡ transaction sh s q
    same = leaves sh e s q holds.measures holds.sound lawful other

    go : (own : Option OwnTransaction) → HasOpened sh s q own → HasOpened sh (effect sh s e) q own
    go None has = same ∙ has
    go (Some own) has = (has.0, moved_open sh s (effect sh s e) own (ap (transaction sh (effect sh s e)) has.0 ∙ same ∙ ap (transaction sh s) (sym has.0)) has.1)

-- ---- keys

-- an event on one key is handed its write alone
pub keys : KeysAreOwned
keys sh s own t key owns = (owns.0, go (transaction sh s own.session) owns.1)
  where
    go : (o : Option Opened) → IsSomeAnd o (IsOwn sh s own) → IsSomeAnd o (IsOwnKey sh s (own_key t key own) t key)
    go None x = absurd x
    go (Some has) x = record { snapshot = x.snapshot; written = λ p. x.writes t key p }

-- ---- its own events

-- The current place of a key is one of its candidates.
current_among : (slot : ℕ → Slot) (places : List ℕ) (p : ℕ) → current_place slot places ≡ Some p → Among p places
current_among slot [] p is = cc
current_among slot (x ∷ places) p is = go (slot x).row refl is (current_among slot places p)
  where
    same_some : (a b : ℕ) → Some a ≡ Some b → a ≡ b
    same_some a b e = cc

    go : (o : Option Row) → (slot x).row ≡ o → option_or (cond (is_some (slot x).row) (Some x) None) (current_place slot places) ≡ Some p → (current_place slot places ≡ Some p → Among p places) → Among p (x ∷ places)
    go None here is rest = inr (rest (sym (ap (λ (o : Option Row). option_or (cond (is_some o) (Some x) None) (current_place slot places)) here) ∙ is))
    go (Some row) here is rest = inl (sym (same_some x p (sym (ap (λ (o : Option Row). option_or (cond (is_some o) (Some x) None) (current_place slot places)) here) ∙ is)))

-- a write leaves whose the transaction is
of_session : (told : CoreReply) (place : Place) (own : OwnTransaction) → (with_own place told own).session ≡ own.session
of_session (reply.Written slot) place own = refl
of_session (reply.Begun snapshot) place own = refl
of_session (reply.Found row) place own = refl
of_session (reply.Refused fault) place own = refl
of_session (reply.Rows rows) place own = refl
of_session (reply.Shared rows) place own = refl
of_session (reply.Committed number) place own = refl
of_session (reply.Stale what number) place own = refl
of_session reply.Aborted place own = refl
of_session (reply.Oldest stamp) place own = refl
of_session (reply.Turned turned) place own = refl
of_session (reply.Dropped count) place own = refl
of_session (reply.Looked look) place own = refl
of_session (reply.Moved count) place own = refl
of_session (reply.Sealed stamp) place own = refl
of_session (reply.NotSealed fault) place own = refl
of_session (reply.Imaged rows) place own = refl
of_session reply.NoSeal place own = refl
of_session reply.Thawed place own = refl
of_session reply.Memory place own = refl

module _ (sh : Shape) (s : Parts) (holds : CoreHolds sh s) where
  -- The core in front of the event is sound.
  abbrev ok : Sound sh s
  ok = holds.sound

  -- The core in front of the event follows its machine.
  abbrev f : FollowsMachine sh s holds.sound.follows.0
  f = follows_machine sh s holds.sound

  -- With a write at a place, and the place as its candidate, the session owns that place too.
  wrote : (own : OwnTransaction) → OwnsAll sh own s → (c : Changes) (t p : ℕ) (key : ℤ) (new : Change) (body : Body)
      → CoreHolds sh (each_changed c (names sh) s)
      → part_named (names sh) s (BodyOf t (block_of p)) ≡ Some (part.Body body) → slot_of p < length body.slots
      → ((u b : ℕ) (x : Body) → c.body u b x ≡ at_both t (block_of p) (with_slot (slot_of p) (written own.session new)) u b x)
      → IsAdded (places_at sh s) (places_at sh (each_changed c (names sh) s)) t p key
      → c.desk (desk_at sh s) ≡ desk_at sh s
      → OwnsAll sh (record own { writes = insert_entry place_cmp own.writes (place_at t key) p }) (each_changed c (names sh) s)
  wrote own owns c t p key new body after there inside bodies more desk =
      let follows = after.sound.follows.1 in
      owns_all sh (each_changed c (names sh) s) after.sound (record own { writes = insert_entry place_cmp own.writes (place_at t key) p }) owns.0
      (ap (λ (d : DeskState). snapshot_of d own.session) (desk_at_after sh s c f.desk.0 f.desk.1 ∙ desk) ∙ (all_open sh s ok own owns).is_open)
      (goes_on (slot_at sh s) (slot_at sh (each_changed c (names sh) s)) (places_at sh s) (places_at sh (each_changed c (names sh) s)) own.session t p key
      (ap (λ (z : Slot). writer_of z.entries) (write_here sh s c (written own.session new) t p body f.kinds there inside bodies))
      (write_else sh s c (written own.session new) t p body f.kinds there inside bodies)
      more follows.index.one_key follows.current own.writes (record { each = all_slots sh s ok own owns }))

  -- Where nothing changes, a session has open what it had.
  kept_open : (q : ℕ) (own : Option OwnTransaction) → HasOpened sh s q own → HasOpened sh (each_changed nothing (names sh) s) q own
  kept_open q own has = subst (λ u. HasOpened sh u q own) (sym (all_stay (names sh) s)) has

  -- an insert
  inserts : (me : OwnKey) (t : ℕ) (row : Row) (own : OwnTransaction) → IsLawful sh (event.Insert me t row) s → own.session ≡ me.session → OwnsAll sh own s
      → OwnsAll sh (with_own (place_of t row) (reply_to_write (insert_judged sh s me t (key_of row))) own) (effect sh s (event.Insert me t row))
  inserts me t row own lawful same owns = go (insert_judged sh s me t (key_of row)) refl (core_kept sh (event.Insert me t row) s holds lawful)
    where
      there : (p : ℕ) (w : Option ℕ) → me.written ≡ w → option_or me.written (next_place (head_at sh s t) (slots_of sh t)) ≡ Some p
          → (body : Body) × (part_named (names sh) s (BodyOf t (block_of p)) ≡ Some (part.Body body)) × (slot_of p < length body.slots)
      there p (Some y) e goes =
          let mine : me.written ≡ Some p = e ∙ sym (ap (λ w. option_or w (next_place (head_at sh s t) (slots_of sh t))) e) ∙ goes in
          let w = ((key_slot sh s ok me t (key_of row) lawful.0).there p mine).1 in
          body_of sh s f.kinds t p (writer_filled (slot_at sh s t p) me.session w)
      there p None e goes =
          let next = next_is_there sh s t holds.measures ok lawful.1.0 p (sym (ap (λ w. option_or w (next_place (head_at sh s t) (slots_of sh t))) e) ∙ goes) in
          (next.0, next.1, next.2)

      go : (r : Result ℕ WriteFault) → insert_judged sh s me t (key_of row) ≡ r
          → CoreHolds sh (each_changed (after_insert sh s me t row (insert_judged sh s me t (key_of row))) (names sh) s)
          → OwnsAll sh (with_own (place_of t row) (reply_to_write (insert_judged sh s me t (key_of row))) own) (each_changed (after_insert sh s me t row (insert_judged sh s me t (key_of row))) (names sh) s)
      go (Err fault) is after = subst (λ r. OwnsAll sh (with_own (place_of t row) (reply_to_write r) own) (each_changed (after_insert sh s me t row r) (names sh) s)) (sym is)
          (subst (OwnsAll sh own) (sym (all_stay (names sh) s)) owns)
      go (Ok p) is after =
          let place = (judged_ok
          (option_or (fault_of (newer_by (slot_at sh s t) (places_at sh s t (key_of row)) me)) (cond (is_some (found sh s me t (key_of row))) (Some Exists) None))
          (option_or me.written (next_place (head_at sh s t) (slots_of sh t))) (Full (head_at sh s t).inserts) p is).1 in
          let here = there p me.written refl place in
          subst (λ r. OwnsAll sh (with_own (place_of t row) (reply_to_write r) own) (each_changed (after_insert sh s me t row r) (names sh) s)) (sym is)
          (wrote own owns (after_insert sh s me t row (Ok p)) t p (key_of row) (change.Put row) here.0
          (subst (λ r. CoreHolds sh (each_changed (after_insert sh s me t row r) (names sh) s)) is after) here.1 here.2
          (λ u b x. ap (λ q. at_both t (block_of p) (with_slot (slot_of p) (written q (change.Put row))) u b x) (sym same))
          (place_added sh s f.kinds f.shards (after_insert sh s me t row (Ok p)) t (key_of row) p lawful.1.0 (λ u i x. refl)) refl)

  -- an update or a delete
  changes : (e : CoreEvent) (me : OwnKey) (t : ℕ) (key : ℤ) (choice : Row → Change) (own : OwnTransaction) → IsThawed sh t key s → own.session ≡ me.session → OwnsAll sh own s
      → CoreHolds sh (each_changed (after_change sh s me t choice (change_judged sh s me t key)) (names sh) s)
      → OwnsAll sh (with_own (place_at t key) (reply_to_write (change_judged sh s me t key)) own) (each_changed (after_change sh s me t choice (change_judged sh s me t key)) (names sh) s)
  changes e me t key choice own thawed same owns = go (change_judged sh s me t key) refl
    where
      met : (p : ℕ) → change_judged sh s me t key ≡ Ok p → current_place (slot_at sh s t) (places_at sh s t key) ≡ Some p
      met p is = (judged_ok
          (option_or (fault_of (newer_by (slot_at sh s t) (places_at sh s t key) me)) (cond (is_none (found sh s me t key)) (Some Missing)
          (option_and_then (λ place. freezing_of (block_of place) (body_at sh s t (block_of place)).phase) (current_place (slot_at sh s t) (places_at sh s t key)))))
          (current_place (slot_at sh s t) (places_at sh s t key)) Missing p is).1

      same_places : (p : ℕ) (u : ℕ) (k : ℤ) → places_at sh (each_changed (after_change sh s me t choice (Ok p)) (names sh) s) u k ≡ places_at sh s u k
      same_places p u k = places_stay sh s (after_change sh s me t choice (Ok p)) (λ t i places. refl) u k (f.kinds (ShardOf u (shard_of k)))

      added : (p : ℕ) → Among p (places_at sh s t key) → IsAdded (places_at sh s) (places_at sh (each_changed (after_change sh s me t choice (Ok p)) (names sh) s)) t p key
      added p a = record {
        added = subst (Among p) (sym (same_places p t key)) a;
        kept = λ u r k b. subst (Among r) (sym (same_places p u k)) b;
        more = λ u r k b. inl (subst (Among r) (same_places p u k) b);
        behind = λ u r r' k b. inl (subst (StandsBefore r r') (same_places p u k) b);
      }

      go : (r : Result ℕ WriteFault) → change_judged sh s me t key ≡ r
          → CoreHolds sh (each_changed (after_change sh s me t choice (change_judged sh s me t key)) (names sh) s)
          → OwnsAll sh (with_own (place_at t key) (reply_to_write (change_judged sh s me t key)) own) (each_changed (after_change sh s me t choice (change_judged sh s me t key)) (names sh) s)
      go (Err fault) is after = subst (λ r. OwnsAll sh (with_own (place_at t key) (reply_to_write r) own) (each_changed (after_change sh s me t choice r) (names sh) s)) (sym is)
          (subst (OwnsAll sh own) (sym (all_stay (names sh) s)) owns)
      go (Ok p) is after =
          let spot = change_goes sh s ok me t key p thawed is in
          let here = body_of sh s f.kinds t p spot.filled in
          subst (λ r. OwnsAll sh (with_own (place_at t key) (reply_to_write r) own) (each_changed (after_change sh s me t choice r) (names sh) s)) (sym is)
          (wrote own owns (after_change sh s me t choice (Ok p)) t p key (choice (unwrap_or (slot_at sh s t p).row [])) here.0
          (subst (λ r. CoreHolds sh (each_changed (after_change sh s me t choice r) (names sh) s)) is after) here.1 here.2
          (λ u b x. ap (λ q. at_both t (block_of p) (with_slot (slot_of p) (written q (choice (unwrap_or (slot_at sh s t p).row [])))) u b x) (sym same))
          (added p (current_among (slot_at sh s t) (places_at sh s t key) p (met p is))) refl)

  -- a session that ends has nothing open
  ended : (e : CoreEvent) (q : ℕ) (desk : DeskState) → 1 ≤ q → HasPass desk q → (changes_of sh s e).desk (desk_at sh s) ≡ closed q desk → transaction sh (effect sh s e) q ≡ None
  ended e q desk some has is =
      transaction_is sh (effect sh s e) q some
      ∙ ap (λ (d : DeskState). option_map (open_with (writes_of sh (effect sh s e) q)) (snapshot_of d q)) (desk_at_after sh s (changes_of sh s e) f.desk.0 f.desk.1 ∙ is)
      ∙ ap (option_map (open_with (writes_of sh (effect sh s e) q))) (closed_own q desk has)

  -- A session of the core has a pass at the desk.
  has_pass : (q : ℕ) → IsSession sh q → HasPass (desk_at sh s) q
  has_pass q counted = let n = ok.sessions in let h = counted.1 in (counted.0, omega (arith, n, h))

  -- a begin
  begins : (q : ℕ) → IsLawful sh (event.Begin q) s
      → OwnsAll sh (record { session = q; snapshot = record { stamp = (desk_at sh s).newest; number = (desk_at sh s).commits }; writes = [] }) (effect sh s (event.Begin q))
  begins q lawful = owns_all sh (effect sh s (event.Begin q)) (core_kept sh (event.Begin q) s holds lawful).sound
      (record { session = q; snapshot = record { stamp = (desk_at sh s).newest; number = (desk_at sh s).commits }; writes = [] })
      lawful.0.0
      (ap (λ (d : DeskState). snapshot_of d q) (desk_at_after sh s (changes_of sh s (event.Begin q)) f.desk.0 f.desk.1) ∙ opened_own q (desk_at sh s) (has_pass q lawful.0.0))
      (record {
        each = λ t key. record {
          there = λ p is. absurd (none_some p is);
          all = λ p a w. absurd (idle t p (sym (ap (λ (z : Slot). writer_of z.entries) (same_slot t p)) ∙ w));
        };
      })
    where
      none_some : (p : ℕ) → None ≡ Some p → ⊥
      none_some p e = cc

      same_slot : (t p : ℕ) → slot_at sh (effect sh s (event.Begin q)) t p ≡ slot_at sh s t p
      same_slot t p = slot_after sh s (changes_of sh s (event.Begin q)) (λ x. x) refl t p (f.kinds (BodyOf t (block_of p))) refl

      no_snapshot : (o : Option Snapshot) → option_map (open_with (writes_of sh s q)) o ≡ None → o ≡ None
      no_snapshot None e = refl
      no_snapshot (Some x) e = cc

      idle : (t p : ℕ) → writer_of (slot_at sh s t p).entries ≡ Some q → ⊥
      idle t p w =
          let mine = ok.follows.1.own.writers t p q w in
          none_not (transaction_of q ok.follows.0) mine.0
          (ok.follows.1.desked.idle q lawful.0.0.0 (no_snapshot (snapshot_of (desk_at sh s) q) (sym (transaction_is sh s q lawful.0.0.0) ∙ lawful.0.1))) mine.1

  -- a session of an event that is handed an open transaction has one
  key_opened : (me : OwnKey) (t : ℕ) (key : ℤ) (q : ℕ) (own : Option OwnTransaction) (P : Option OwnTransaction → Type 0) → OwnsKey sh me t key s → me.session ≡ q → HasOpened sh s q own
      → ((o : OwnTransaction) → o.session ≡ me.session → (o.session ≡ q) → OwnsAll sh o s → P (Some o)) → P own
  key_opened me t key q None P owns same none by = absurd (subst (λ o. IsSomeAnd o (IsOwnKey sh s me t key)) (ap (transaction sh s) same ∙ none) owns.1)
  key_opened me t key q (Some own) P owns same has by = by own (has.0 ∙ sym same) has.0 has.1

  -- What two equal options hold is the same number.
  some_is : (a b : ℕ) → Some a ≡ Some b → a ≡ b
  some_is a b e = cc

  -- Nothing is not a session.
  none_is : (q : ℕ) → None ≡ Some q → ⊥
  none_is q e = cc

  -- A session has its pass at the desk too where a commit may have taken a number.
  passes_on : (y : Bool) (writes : PlaceMap ℕ) (q : ℕ) → HasPass (desk_at sh s) q → HasPass (cond y (numbered writes (desk_at sh s)) (desk_at sh s)) q
  passes_on true writes q has = has
  passes_on false writes q has = has

  -- a commit, which leaves all where it is refused
  commits : (me : OwnTransaction) (reads : Option ReadSet) (q : ℕ) (own : Option OwnTransaction) → IsLawful sh (event.Commit me reads) s → me.session ≡ q → HasOpened sh s q own
      → HasOpened sh (effect sh s (event.Commit me reads)) q (own_behind own (event.Commit me reads) (reply_to sh s (event.Commit me reads)))
  commits me reads q own lawful same has = go (stale_in sh s me reads) refl
    where
      go : (o : Option (Read × ℕ)) → stale_in sh s me reads ≡ o
          → HasOpened sh (effect sh s (event.Commit me reads)) q (own_behind own (event.Commit me reads) (reply_to sh s (event.Commit me reads)))
      go (Some stale) is =
          subst (λ o. HasOpened sh (each_changed (after_judged sh s me o) (names sh) s) q (committed_by own (reply_to_commit sh s me o))) (sym is) (kept_open q own has)
      go None is =
          subst (λ o. HasOpened sh (effect sh s (event.Commit me reads)) q (committed_by own (reply_to_commit sh s me o))) (sym is)
          (subst (λ q. transaction sh (effect sh s (event.Commit me reads)) q ≡ None) same
          (ended (event.Commit me reads) me.session (cond (is_some_write me.writes) (numbered me.writes (desk_at sh s)) (desk_at sh s)) lawful.0.0.0
          (passes_on (is_some_write me.writes) me.writes me.session (has_pass me.session lawful.0.0)) (ap (λ o. (after_judged sh s me o).desk (desk_at sh s)) is)))

  -- Behind a lawful event of its own, case by case, a session has open what it tells.
  own_goes : (e : CoreEvent) (q : ℕ) (own : Option OwnTransaction) → IsLawful sh e s → session_of e ≡ Some q → HasOpened sh s q own
      → HasOpened sh (effect sh s e) q (own_behind own e (reply_to sh s e))
  own_goes (event.Begin r) q own lawful is has = (some_is r q is, begins r lawful)
  own_goes (event.Get me t key) q own lawful is has = kept_open q own has
  own_goes (event.Insert me t row) q own lawful is has =
      key_opened me t (key_of row) q own (λ o. HasOpened sh (effect sh s (event.Insert me t row)) q (option_map (with_own (place_of t row) (reply_to_write (insert_judged sh s me t (key_of row)))) o)) lawful.0 (some_is me.session q is) has
      (λ o same mine owns. (of_session (reply_to_write (insert_judged sh s me t (key_of row))) (place_of t row) o ∙ mine, inserts me t row o lawful same owns))
  own_goes (event.Update me t row) q own lawful is has =
      key_opened me t (key_of row) q own (λ o. HasOpened sh (effect sh s (event.Update me t row)) q (option_map (with_own (place_of t row) (reply_to_write (change_judged sh s me t (key_of row)))) o)) lawful.0 (some_is me.session q is) has
      (λ o same mine owns. (
        of_session (reply_to_write (change_judged sh s me t (key_of row))) (place_of t row) o ∙ mine,
        changes (event.Update me t row) me t (key_of row) (λ old. change.Patch (differences 0 old row)) o lawful.1.2 same owns (core_kept sh (event.Update me t row) s holds lawful),
      ))
  own_goes (event.Delete me t key) q own lawful is has =
      key_opened me t key q own (λ o. HasOpened sh (effect sh s (event.Delete me t key)) q (option_map (with_own (place_at t key) (reply_to_write (change_judged sh s me t key))) o)) lawful.0 (some_is me.session q is) has
      (λ o same mine owns. (
        of_session (reply_to_write (change_judged sh s me t key)) (place_at t key) o ∙ mine,
        changes (event.Delete me t key) me t key (λ old. change.Gone) o lawful.1.1 same owns (core_kept sh (event.Delete me t key) s holds lawful),
      ))
  own_goes (event.Read me t b) q own lawful is has = kept_open q own has
  own_goes (event.Range me t low high) q own lawful is has = kept_open q own has
  own_goes (event.Commit me reads) q own lawful is has = commits me reads q own lawful (some_is me.session q is) has
  own_goes (event.Abort me) q own lawful is has =
      let same = some_is me.session q is in
      subst (λ q. transaction sh (effect sh s (event.Abort me)) q ≡ None) same
      (ended (event.Abort me) me.session (desk_at sh s) lawful.0.0.0 (has_pass me.session lawful.0.0) refl)
  own_goes event.Oldest q own lawful is has = absurd (none_is q is)
  own_goes (event.Observe t b) q own lawful is has = absurd (none_is q is)
  own_goes (event.Prune t b oldest) q own lawful is has = absurd (none_is q is)
  own_goes (event.Look t b) q own lawful is has = absurd (none_is q is)
  own_goes (event.Move t moves) q own lawful is has = absurd (none_is q is)
  own_goes (event.Seal t b) q own lawful is has = absurd (none_is q is)
  own_goes (event.Image t b image) q own lawful is has = absurd (none_is q is)
  own_goes (event.Thaw t b) q own lawful is has = absurd (none_is q is)

-- behind a lawful event of its own a session has open what the event and its reply tell
pub goes : OwnGoesOn
goes sh s e q own holds lawful is has = own_goes sh s holds e q own lawful is has
