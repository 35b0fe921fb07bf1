-- A commit of some writes keeps what holds between the core and the machine.
use Rattle.std.proofs.Common.{◌≡◌, ◌≢◌, ◌⊎◌, ℕ, ◌+◌, ◌<◌, ◌≤◌, ℤ, Bool, true, false, cond, List, [], ◌∷◌, ◌++◌, Option, None, Some, is_some, unwrap_or, length, refl, sym, ap, ◌∙◌, arith, subst, All, map}
use mathlib.Core.Logic.{inl, inr}
use Rattle.std.proofs.lemmas.List.{length_push}
use Rattle.std.proofs.lemmas.List.Elements.{All-nil, All-cons, All-head, All-tail}
use Rattle.std.proofs.lemmas.Bool.{cases_Bool}
use Rattle.isolation_spec.specs.Contents.{at_place, place_at, place_of, key_of, state_at, PlaceMap, State, WriteSet, laid_over}
use Rattle.isolation_spec.specs.Machine.{IsolationMachine, Transaction, transaction_of, without, writes_place}
use Rattle.isolation_spec.specs.declared.place.Place.{Place}
use Rattle.isolation_spec.specs.declared.read.Read.TheVariants as read
use Rattle.isolation_spec.specs.Reads.{meets, last_meeting}
use Rattle.txn_desk.proofs.Tables.{wrote-marked}
use Rattle.txn_desk.specs.Desk.{DeskState, wrote_table}
use Rattle.txn_desk.specs.Oldest.{HasPass, snapshot_of}
use Rattle.txn_desk.specs.declared.Snapshot.{Snapshot}
use Rattle.undo_chain.specs.declared.undo.Undo.{Undo}
use Rattle.undo_chain.specs.Conflict.{numbers_above}
use Rattle.undo_chain.specs.Stamped.{stamped}
use Rattle.core_laws.proofs.Following.Machines.{last-none, last_behind, of-without, of-without-own, one-without, last-after, state-before, state-after}
use Rattle.core_laws.proofs.Following.Met.{last-more}
use Rattle.isolation_laws.proofs.States.{state-order}
use Rattle.block_spec.specs.Slots.{Slot, Row, writer_of, committed, seen, is_bare}
use Rattle.core_laws.proofs.Slots.Keys.{HasKey}
use Rattle.event_spec.specs.SlotSound.{IsSoundSlot}
use Rattle.event_spec.specs.Effects.{closed, numbered, writes_table}
use Rattle.event_spec.specs.Lawful.{Among}
use Rattle.event_spec.specs.Follows.{Shows, Numbers, Index, Own, Desked, Follows, is_current}
use Rattle.isolation_spec.specs.Order.{InOrder}
use Rattle.core_laws.proofs.Slots.Ages.{older_committed}
use Rattle.isolation_laws.proofs.Overlays.{at-laid_over, over}
use Rattle.core_laws.proofs.Slots.Endings.{committed_other, committed_writer, seen_committed, seen_after_commit, committed_keyed, seen_keyed, keyed_row}
use Rattle.core_laws.proofs.Slots.Kept.{same_option, shown_filled, shown_current, seen_later, writer_current, numbers_of_commit, numbers_stay, number_there, numbers_settled, sound_committed, small_number}
use Rattle.core_laws.proofs.Following.Desks.{same_number, closed_own, closed_other, live_numbered, none_not}

-- The numbers that two equal options hold are the same.
some_same : (a b : ℕ) → Some a ≡ Some b → a ≡ b
some_same a b e = cc

-- True and false are never the same.
true_false : true ≡ false → ⊥
true_false e = cc

-- What two equal options hold is the same, be it a row or none.
value_same : (a b : Option Row) → Some a ≡ Some b → a ≡ b
value_same a b e = cc

-- a slot with a writer after a commit is another's, and as it was
pub committed_writer_is : (q r newest commits : ℕ) (slot : Slot) → IsSoundSlot newest commits slot → writer_of (committed q (newest + 1) (commits + 1) slot).entries ≡ Some r
    → (r ≢ q) × (committed q (newest + 1) (commits + 1) slot ≡ slot)
committed_writer_is q r newest commits slot ok w = go (same_option (writer_of slot.entries) q)
  where
    go : (writer_of slot.entries ≡ Some q) ⊎ (writer_of slot.entries ≢ Some q) → (r ≢ q) × (committed q (newest + 1) (commits + 1) slot ≡ slot)
    go (inl is) = absurd (none_not (writer_of (map (stamped q (newest + 1) (commits + 1)) slot.entries)) r (committed_writer q (newest + 1) (commits + 1) slot ok.lawful is) w)
    go (inr ne) =
        let same : committed q (newest + 1) (commits + 1) slot ≡ slot = committed_other q (newest + 1) (commits + 1) slot ok.lawful ne in
        (λ e. ne (sym (ap (λ (s : Slot). writer_of s.entries) same) ∙ w ∙ ap Some e), same)

-- a slot that is current after a commit was current before it
pub committed_current : (q newest commits : ℕ) (slot : Slot) → IsSoundSlot newest commits slot → is_current (committed q (newest + 1) (commits + 1) slot) ≡ true → is_current slot ≡ true
committed_current q newest commits slot ok is = go (same_option (writer_of slot.entries) q)
  where
    go : (writer_of slot.entries ≡ Some q) ⊎ (writer_of slot.entries ≢ Some q) → is_current slot ≡ true
    go (inl w) = writer_current slot q w
    go (inr ne) = sym (ap is_current (committed_other q (newest + 1) (commits + 1) slot ok.lawful ne)) ∙ is

-- A slot is bare after a commit exactly where it was before it.
committed_bare : (q S N : ℕ) (slot : Slot) → is_bare (committed q S N slot) ≡ is_bare slot
committed_bare q S N slot = go slot.entries
  where
    go : (es : List (Undo _)) → is_bare (record { row = slot.row; entries = map (stamped q S N) es }) ≡ is_bare (record { row = slot.row; entries = es })
    go [] = refl
    go (e ∷ es) = refl

module _ (slot : ℕ → ℕ → Slot) (places : ℕ → ℤ → List ℕ) (desk : DeskState) (m : IsolationMachine) (f : Follows slot places desk m)
    (q : ℕ) (pass : HasPass desk q) (tr : Transaction) (mine : transaction_of q m ≡ Some tr)
    -- what the core has of its writes: their tables are the machine's
    (writes : PlaceMap ℕ) (tables : (table : ℕ) → writes_table writes table ≡ meets (read.Table table) tr.own) where
  -- The stamp of the commit: the next behind the desk's newest.
  abbrev S : ℕ
  S = desk.newest + 1

  -- The number of the commit: the next behind the desk's count.
  abbrev N : ℕ
  N = desk.commits + 1

  -- A slot with the session's entries stamped and numbered by the commit.
  abbrev stamped_slot : ℕ → ℕ → Slot
  stamped_slot t p = committed q S N (slot t p)

  -- The desk with one commit more, and without the session's snapshot.
  abbrev after_desk : DeskState
  after_desk = closed q (numbered writes desk)

  -- the machine without the transaction, and with its writes in the history
  abbrev pub after_commit : IsolationMachine
  after_commit = record (without q m) { history = m.history ++ tr.own ∷ [] }

  -- A commit leaves the transactions of other sessions.
  other : (r : ℕ) → r ≢ q → transaction_of r after_commit ≡ transaction_of r m
  other r ne = of-without r q m.open_transactions ne

  -- After its commit the session has no transaction.
  own_gone : transaction_of q after_commit ≡ None
  own_gone = of-without-own q m.open_transactions

  -- Who has a transaction after the commit is not the session that committed.
  not_own : (r : ℕ) (tr' : Transaction) → transaction_of r after_commit ≡ Some tr' → r ≢ q
  not_own r tr' is e = none_not (transaction_of q after_commit) tr' own_gone (ap (λ x. transaction_of x after_commit) (sym e) ∙ is)

  -- Who has a snapshot after the commit is not the session that committed.
  not_closed : (r : ℕ) (snapshot : Snapshot) → snapshot_of after_desk r ≡ Some snapshot → r ≢ q
  not_closed r snapshot is e = none_not (snapshot_of after_desk q) snapshot (closed_own q (numbered writes desk) pass) (ap (snapshot_of after_desk) (sym e) ∙ is)

  -- The history is as long after the commit as its number says.
  count : length (m.history ++ tr.own ∷ []) ≡ N
  count = length_push m.history tr.own ∙ ap (λ n. n + 1) f.desked.counted

  -- The desk after the commit has the machine's transactions, and its count of commits.
  keeps_desk : Desked after_desk after_commit
  keeps_desk = record {
    counted = count;
    begun = λ r snapshot some is.
        let ne = not_closed r snapshot is in
        let old = f.desked.begun r snapshot some (sym (closed_other q r (numbered writes desk) pass.0 some ne) ∙ is) in (old.0, other r ne ∙ old.1, old.2, old.3);
    idle = λ r some is. idle' r some is (same_number r q);
    bounds = λ r snapshot some is.
        let old = f.desked.bounds r snapshot some (sym (closed_other q r (numbered writes desk) pass.0 some (not_closed r snapshot is)) ∙ is) in
        let a = old.0 in let b = old.1 in (omega (arith, a), omega (arith, b));
    one_each = one-without q m.open_transactions f.desked.one_each;
    own_order = λ r tr' is. f.desked.own_order r tr' (sym (other r (not_own r tr' is)) ∙ is);
    history_order = push m.history f.desked.history_order;
    wrote = λ table few. wrote-marked N (writes_table writes) desk.wrote table few ∙ wrote' table few (writes_table writes table) refl;
  }
    where
      idle' : (r : ℕ) → 1 ≤ r → snapshot_of after_desk r ≡ None → (r ≡ q) ⊎ (r ≢ q) → transaction_of r after_commit ≡ None
      idle' r some is (inl e) = ap (λ x. transaction_of x after_commit) e ∙ own_gone
      idle' r some is (inr ne) = other r ne ∙ f.desked.idle r some (sym (closed_other q r (numbered writes desk) pass.0 some ne) ∙ is)

      -- the last writer of a table is this commit if it wrote it, and else as before
      wrote' : (table : ℕ) → table < 16 → (b : Bool) → writes_table writes table ≡ b
          → cond (writes_table writes table) N (wrote_table desk table) ≡ unwrap_or (last_meeting (m.history ++ tr.own ∷ []) 0 (read.Table table)) 0
      wrote' table few b is =
          ap (λ b. cond b N (wrote_table desk table)) is
          ∙ by b
          ∙ ap (λ (o : Option ℕ). unwrap_or o 0)
          (ap (λ b. cond b (Some N) (last_meeting m.history 0 (read.Table table))) (sym is ∙ tables table)
          ∙ ap (λ n. cond (meets (read.Table table) tr.own) (Some (n + 1)) (last_meeting m.history 0 (read.Table table))) (sym f.desked.counted)
          ∙ sym (last-more m.history tr.own 0 (omega arith) (meets (read.Table table))))
        where
          by : (b : Bool) → cond b N (wrote_table desk table) ≡ unwrap_or (cond b (Some N) (last_meeting m.history 0 (read.Table table))) 0
          by true = refl
          by false = f.desked.wrote table few

      push : (ws : List WriteSet) → All InOrder ws → All InOrder (ws ++ tr.own ∷ [])
      push [] all = All-cons InOrder tr.own [] (f.desked.own_order q tr mine) (All-nil InOrder)
      push (w ∷ ws) all = All-cons InOrder w (ws ++ tr.own ∷ []) (All-head InOrder w ws all) (push ws (All-tail InOrder w ws all))

  -- ---- the new snapshot

  -- The session has no other transaction than the one that commits.
  same_tr : (tr' : Transaction) → transaction_of q m ≡ Some tr' → tr' ≡ tr
  same_tr tr' is = let e : Some tr' ≡ Some tr = sym is ∙ mine in cc

  -- what the writer's slots have is in its write set
  wrote_here : (t p : ℕ) (key : ℤ) → Among p (places t key) → writer_of (slot t p).entries ≡ Some q → at_place tr.own (place_at t key) ≡ Some (slot t p).row
  wrote_here t p key a w =
      let old = f.own.writers t p q w in
      let k : old.2 ≡ key = f.index.one_key t p old.2 key old.3 a in
      sym (ap (λ (x : Transaction). at_place x.own (place_at t key)) (same_tr old.0 old.1)) ∙ ap (λ k. at_place old.0.own (place_at t k)) (sym k) ∙ old.4

  -- a key that it wrote is current at no other slot
  only_here : (t p : ℕ) (key : ℤ) (value : Option Row) → Among p (places t key) → at_place tr.own (place_at t key) ≡ Some value → is_current (slot t p) ≡ true → writer_of (slot t p).entries ≡ Some q
  only_here t p key value a at is =
      let w = f.own.written q tr t key value mine at in
      let same : w.0 ≡ p = f.current t key w.0 p w.1 a (writer_current (slot t w.0) q w.2) is in
      ap (λ x. writer_of (slot t x).entries) (sym same) ∙ w.2

  -- A slot that the session did not write shows at the new stamp what it showed before.
  settled : (t p : ℕ) → writer_of (slot t p).entries ≢ Some q → seen (stamped_slot t p) S 0 ≡ seen (slot t p) desk.newest 0
  settled t p ne =
      ap (λ s. seen s S 0) (committed_other q S N (slot t p) (f.slots t p).lawful ne)
      ∙ seen_later (slot t p).row (slot t p).entries desk.newest S (f.slots t p).stamps (omega arith)

  -- A slot that the session wrote shows at the new stamp what it has.
  written_view : (t p : ℕ) → writer_of (slot t p).entries ≡ Some q → seen (stamped_slot t p) S 0 ≡ (slot t p).row
  written_view t p w = seen_after_commit q S N (slot t p) S (f.slots t p).lawful w (omega arith)

  -- a slot that shows a row at the new snapshot was current
  was_current : (t p : ℕ) → is_some (seen (stamped_slot t p) S 0) ≡ true → is_current (slot t p) ≡ true
  was_current t p is = go (same_option (writer_of (slot t p).entries) q)
    where
      go : (writer_of (slot t p).entries ≡ Some q) ⊎ (writer_of (slot t p).entries ≢ Some q) → is_current (slot t p) ≡ true
      go (inl w) = writer_current (slot t p) q w
      go (inr ne) = shown_current (slot t p) desk.newest (f.slots t p).stamps (ap is_some (sym (settled t p ne)) ∙ is)

  -- At the newest stamp before the commit the slots show the state after the commits so far.
  newest : Shows slot places desk.newest (state_at m.history desk.commits)
  newest = f.shows desk.newest desk.commits (inl (refl, refl))

  -- The new state has at a place what the transaction wrote there, else what was there.
  at_new : (place : Place) → at_place (state_at (m.history ++ tr.own ∷ []) N) place ≡ over (at_place tr.own place) (at_place (state_at m.history desk.commits) place)
  at_new place =
      ap (λ n. at_place (state_at (m.history ++ tr.own ∷ []) (n + 1)) place) (sym f.desked.counted)
      ∙ ap (λ (rows : State). at_place rows place) (state-after m.history tr.own)
      ∙ ap (λ n. at_place (laid_over (state_at m.history n) tr.own) place) f.desked.counted
      ∙ (at-laid_over (state_at m.history desk.commits) tr.own place (state-order m.history desk.commits f.desked.history_order) (f.desked.own_order q tr mine)).0

  -- Where a write set has a value at a place, this is what it leaves.
  over_some : (a : Option (Option Row)) (value row : Option Row) → a ≡ Some value → over a row ≡ value
  over_some a value row is = ap (λ x. over x row) is

  -- Where a write set has nothing at a place, it leaves what was there.
  over_none : (a : Option (Option Row)) (row : Option Row) → a ≡ None → over a row ≡ row
  over_none a row is = ap (λ x. over x row) is

  -- A write set has nothing at a place, or it has some value.
  option_cases : (a : Option (Option Row)) → (a ≡ None) ⊎ ((value : Option Row) × (a ≡ Some value))
  option_cases None = inl refl
  option_cases (Some v) = inr (v, refl)

  -- the key of a row that a slot shows
  key_shown : (t p : ℕ) (key : ℤ) (s r : ℕ) (row : Row) → Among p (places t key) → seen (slot t p) s r ≡ Some row → key_of row ≡ key
  key_shown t p key s r row a is = subst (HasKey key) is (seen_keyed key (slot t p).row (slot t p).entries s r (f.index.keyed t p key a))

  -- A row that a slot shows at the new stamp is in the new state.
  there_new : (t p : ℕ) (row : Row) → seen (stamped_slot t p) S 0 ≡ Some row → at_place (state_at (m.history ++ tr.own ∷ []) N) (place_of t row) ≡ Some row
  there_new t p row is = at_new (place_of t row) ∙ go (same_option (writer_of (slot t p).entries) q)
    where
      go : (writer_of (slot t p).entries ≡ Some q) ⊎ (writer_of (slot t p).entries ≢ Some q)
          → over (at_place tr.own (place_of t row)) (at_place (state_at m.history desk.commits) (place_of t row)) ≡ Some row
      go (inl w) =
          let old = f.own.writers t p q w in
          let r : (slot t p).row ≡ Some row = sym (written_view t p w) ∙ is in
          let k : key_of row ≡ old.2 = subst (HasKey old.2) r (keyed_row old.2 (slot t p).row (slot t p).entries (f.index.keyed t p old.2 old.3)) in
          over_some (at_place tr.own (place_of t row)) (Some row) (at_place (state_at m.history desk.commits) (place_of t row))
          (ap (λ k. at_place tr.own (place_at t k)) k ∙ wrote_here t p old.2 old.3 w ∙ ap Some r)
      go (inr ne) =
          let before : seen (slot t p) desk.newest 0 ≡ Some row = sym (settled t p ne) ∙ is in
          let listed = f.index.listed t p (shown_filled (slot t p) desk.newest 0 (ap is_some before)) in
          let k : key_of row ≡ listed.0 = key_shown t p listed.0 desk.newest 0 row listed.1 before in
          let nothing : at_place tr.own (place_of t row) ≡ None =
          none (at_place tr.own (place_of t row)) (λ value at. ne (only_here t p listed.0 value listed.1 (ap (λ k. at_place tr.own (place_at t k)) (sym k) ∙ at) (shown_current (slot t p) desk.newest (f.slots t p).stamps (ap is_some before)))) in
          over_none (at_place tr.own (place_of t row)) (at_place (state_at m.history desk.commits) (place_of t row)) nothing ∙ newest.there t p row before
        where
          none : (a : Option (Option Row)) → ((value : Option Row) → a ≡ Some value → ⊥) → a ≡ None
          none None no' = refl
          none (Some v) no' = absurd (no' v refl)

  -- A row of the new state is shown at the new stamp by a slot of its key.
  all_new : (t : ℕ) (key : ℤ) (row : Row) → at_place (state_at (m.history ++ tr.own ∷ []) N) (place_at t key) ≡ Some row → (p : ℕ) × Among p (places t key) × (seen (stamped_slot t p) S 0 ≡ Some row)
  all_new t key row is = go (option_cases (at_place tr.own (place_at t key)))
    where
      go : (at_place tr.own (place_at t key) ≡ None) ⊎ ((value : Option Row) × (at_place tr.own (place_at t key) ≡ Some value))
          → (p : ℕ) × Among p (places t key) × (seen (stamped_slot t p) S 0 ≡ Some row)
      go (inl nothing) =
          let before = newest.all t key row (sym (over_none (at_place tr.own (place_at t key)) (at_place (state_at m.history desk.commits) (place_at t key)) nothing) ∙ sym (at_new (place_at t key)) ∙ is) in
          (before.0, before.1, settled t before.0 (λ w. none_not (at_place tr.own (place_at t key)) (slot t before.0).row nothing (wrote_here t before.0 key before.1 w)) ∙ before.2)
      go (inr wrote) =
          let w = f.own.written q tr t key wrote.0 mine wrote.1 in
          let v : wrote.0 ≡ Some row = sym (over_some (at_place tr.own (place_at t key)) wrote.0 (at_place (state_at m.history desk.commits) (place_at t key)) wrote.1) ∙ sym (at_new (place_at t key)) ∙ is in
          (w.0, w.1, written_view t w.0 w.2 ∙ value_same (slot t w.0).row (Some row) (sym (wrote_here t w.0 key w.1 w.2) ∙ wrote.1 ∙ ap Some v))

  -- At the new stamp the slots show the state with the commit.
  shows_new : Shows stamped_slot places S (state_at (m.history ++ tr.own ∷ []) N)
  shows_new = record {
    there = there_new;
    all = all_new;
    once = λ t key p p' a a' is is'. f.current t key p p' a a' (was_current t p is) (was_current t p' is');
  }

  -- At an earlier stamp the slots show after the commit what they showed before it.
  shows_old : (stamp number : ℕ) → stamp ≤ desk.newest → number ≤ desk.commits → Shows slot places stamp (state_at m.history number) → Shows stamped_slot places stamp (state_at (m.history ++ tr.own ∷ []) number)
  shows_old stamp number low few old =
      let same : (t p : ℕ) → seen (stamped_slot t p) stamp 0 ≡ seen (slot t p) stamp 0 = λ t p. seen_committed q S N (slot t p) stamp pass.0 (omega (arith, low)) in
      let rows : state_at (m.history ++ tr.own ∷ []) number ≡ state_at m.history number = state-before m.history tr.own number (let c = f.desked.counted in omega (arith, c, few)) in
      record {
        there = λ t p row is. ap (λ (x : State). at_place x (place_of t row)) rows ∙ old.there t p row (sym (same t p) ∙ is);
        all = λ t key row is. let found = old.all t key row (sym (ap (λ (x : State). at_place x (place_at t key)) rows) ∙ is) in (found.0, found.1, same t found.0 ∙ found.2);
        once = λ t key p p' a a' is is'. old.once t key p p' a a' (ap is_some (sym (same t p)) ∙ is) (ap is_some (sym (same t p')) ∙ is');
      }

  -- ---- numbers

  -- The last commit that wrote a place is this one, if it wrote it, and else as before.
  last_now : (place : Place) (number : ℕ) → number ≤ desk.commits
      → last_behind place number (m.history ++ tr.own ∷ []) ≡ cond (writes_place place tr.own) (Some N) (last_behind place number m.history)
  last_now place number few =
      last-after place number m.history tr.own (let c = f.desked.counted in omega (arith, c, few))
      ∙ ap (λ n. cond (writes_place place tr.own) (Some (n + 1)) (last_behind place number m.history)) f.desked.counted

  -- The numbers above the new snapshot agree with the history.
  numbers_new : Numbers stamped_slot places S N (m.history ++ tr.own ∷ [])
  numbers_new = record {
    below = λ t key p k a n. absurd (subst (Among k) (numbers_settled (stamped_slot t p).entries S S (sound_committed q desk.newest desk.commits (slot t p) (f.slots t p)).stamps (omega arith)) n);
    last = λ t key last is. absurd (none_not (last_behind (place_at t key) N (m.history ++ tr.own ∷ [])) last
        (last-none (place_at t key) N (m.history ++ tr.own ∷ []) (let c = count in omega (arith, c))) is);
  }

  -- What a choice gives is its first where the test holds, and else its second.
  cond_cases : (b : Bool) (x : ℕ) (old : Option ℕ) (last : ℕ) → cond b (Some x) old ≡ Some last → ((b ≡ true) × (last ≡ x)) ⊎ ((b ≡ false) × (old ≡ Some last))
  cond_cases true x old last is = inl (refl, cc)
  cond_cases false x old last is = inr (refl, is)

  -- The numbers above an earlier snapshot agree with the history after the commit as before.
  numbers_old : (stamp number : ℕ) → stamp ≤ desk.newest → number ≤ desk.commits → Numbers slot places stamp number m.history → Numbers stamped_slot places stamp number (m.history ++ tr.own ∷ [])
  numbers_old stamp number low few old = record {
    below = λ t key p k a n. below' t key p k a (cases_Bool (writes_place (place_at t key) tr.own)) n;
    last = λ t key last is. last' t key last (cond_cases (writes_place (place_at t key) tr.own) N (last_behind (place_at t key) number m.history) last (sym (last_now (place_at t key) number few) ∙ is));
  }
    where
      below' : (t : ℕ) (key : ℤ) (p k : ℕ) → Among p (places t key) → (writes_place (place_at t key) tr.own ≡ true) ⊎ (writes_place (place_at t key) tr.own ≡ false)
          → Among k (numbers_above (stamped_slot t p).entries stamp)
          → (last : ℕ) × (last_behind (place_at t key) number (m.history ++ tr.own ∷ []) ≡ Some last) × (k ≤ last)
      below' t key p k a (inl wrote) n = (
        N,
        last_now (place_at t key) number few ∙ ap (λ b. cond b (Some N) (last_behind (place_at t key) number m.history)) wrote,
        small (numbers_of_commit q S N stamp k (slot t p).entries n),
      )
        where
          small : (k ≡ N) ⊎ Among k (numbers_above (slot t p).entries stamp) → k ≤ N
          small (inl e) = omega (arith, e)
          small (inr x) = let l = small_number desk.commits stamp k (slot t p).entries (f.slots t p).numbers x in omega (arith, l)
      below' t key p k a (inr no') n = go (same_option (writer_of (slot t p).entries) q)
        where
          go : (writer_of (slot t p).entries ≡ Some q) ⊎ (writer_of (slot t p).entries ≢ Some q)
              → (last : ℕ) × (last_behind (place_at t key) number (m.history ++ tr.own ∷ []) ≡ Some last) × (k ≤ last)
          go (inl w) = let yes' : writes_place (place_at t key) tr.own ≡ true = ap is_some (wrote_here t p key a w) in let never : true ≡ false = sym yes' ∙ no' in absurd (true_false never)
          go (inr ne) =
              let before = old.below t key p k a (subst (λ (x : Slot). Among k (numbers_above x.entries stamp)) (committed_other q S N (slot t p) (f.slots t p).lawful ne) n) in
              (before.0, last_now (place_at t key) number few ∙ ap (λ b. cond b (Some N) (last_behind (place_at t key) number m.history)) no' ∙ before.1, before.2)

      last' : (t : ℕ) (key : ℤ) (last : ℕ) → ((writes_place (place_at t key) tr.own ≡ true) × (last ≡ N)) ⊎ ((writes_place (place_at t key) tr.own ≡ false) × (last_behind (place_at t key) number m.history ≡ Some last))
          → (p : ℕ) × Among p (places t key) × Among last (numbers_above (stamped_slot t p).entries stamp)
      last' t key last (inl both) = go (option_cases (at_place tr.own (place_at t key)))
        where
          go : (at_place tr.own (place_at t key) ≡ None) ⊎ ((value : Option Row) × (at_place tr.own (place_at t key) ≡ Some value))
              → (p : ℕ) × Among p (places t key) × Among last (numbers_above (stamped_slot t p).entries stamp)
          go (inl none) = let never : false ≡ true = sym (ap is_some none) ∙ both.0 in absurd (true_false (sym never))
          go (inr wrote) =
              let w = f.own.written q tr t key wrote.0 mine wrote.1 in
              (w.0, w.1, subst (λ k. Among k (numbers_above (stamped_slot t w.0).entries stamp)) (sym both.1) (number_there q S N stamp (slot t w.0).entries (f.slots t w.0).lawful w.2 (omega (arith, low))))
      last' t key last (inr both) = let before = old.last t key last both.1 in (before.0, before.1, numbers_stay q S N stamp last (slot t before.0).entries before.2)

  -- The index is right for the slots after the commit.
  keeps_index : Index stamped_slot places
  keeps_index = record {
    keyed = λ t p key a. committed_keyed key q S N (slot t p).row (slot t p).entries (f.index.keyed t p key a);
    filled = λ t p key a. committed_bare q S N (slot t p) ∙ f.index.filled t p key a;
    listed = λ t p is. f.index.listed t p (sym (committed_bare q S N (slot t p)) ∙ is);
    one_key = f.index.one_key;
  }

  -- The other transactions' own writes are the current rows of their slots after the commit.
  keeps_own : Own stamped_slot places after_commit
  keeps_own = record {
    writers = λ t p r w.
        let is = committed_writer_is q r desk.newest desk.commits (slot t p) (f.slots t p) w in
        let old = f.own.writers t p r (sym (ap (λ (s : Slot). writer_of s.entries) is.1) ∙ w) in
        (old.0, other r is.0 ∙ old.1, old.2, old.3, old.4);
    written = λ r tr' t key value is at.
        let ne = not_own r tr' is in
        let old = f.own.written r tr' t key value (sym (other r ne) ∙ is) at in
        let same : stamped_slot t old.0 ≡ slot t old.0 = committed_other q S N (slot t old.0) (f.slots t old.0).lawful (λ w. ne (some_same r q (sym old.2 ∙ w))) in
        (old.0, old.1, ap (λ (s : Slot). writer_of s.entries) same ∙ old.2);
  }

  -- a commit of some writes keeps what holds between the core and the machine
  pub commit_keeps : Follows stamped_slot places after_desk after_commit
  commit_keeps = record {
    slots = λ t p. sound_committed q desk.newest desk.commits (slot t p) (f.slots t p);
    index = keeps_index;
    desked = keeps_desk;
    shows = λ stamp number live. shows' stamp number (live_numbered q desk writes stamp number pass live);
    numbers = λ stamp number live. numbers' stamp number (live_numbered q desk writes stamp number pass live);
    current = λ t key p p' a a' is is'. f.current t key p p' a a'
        (committed_current q desk.newest desk.commits (slot t p) (f.slots t p) is) (committed_current q desk.newest desk.commits (slot t p') (f.slots t p') is');
    own = keeps_own;
    aged = λ t key a b x. older_committed q desk.newest desk.commits (slot t a) (slot t b) (f.slots t a) (f.aged t key a b x);
  }
    where
      shows' : (stamp number : ℕ) → ((stamp ≡ S) × (number ≡ N)) ⊎ ((r : ℕ) × (1 ≤ r) × (r ≢ q) × (snapshot_of desk r ≡ Some (record { stamp = stamp; number = number })))
          → Shows stamped_slot places stamp (state_at (m.history ++ tr.own ∷ []) number)
      shows' stamp number (inl both) =
          subst (λ s. Shows stamped_slot places s (state_at (m.history ++ tr.own ∷ []) number)) (sym both.0)
          (subst (λ n. Shows stamped_slot places S (state_at (m.history ++ tr.own ∷ []) n)) (sym both.1) shows_new)
      shows' stamp number (inr open') =
          let b = f.desked.bounds open'.0 (record { stamp = stamp; number = number }) open'.1 open'.3 in
          shows_old stamp number b.0 b.1 (f.shows stamp number (inr (open'.0, open'.1, open'.3)))

      numbers' : (stamp number : ℕ) → ((stamp ≡ S) × (number ≡ N)) ⊎ ((r : ℕ) × (1 ≤ r) × (r ≢ q) × (snapshot_of desk r ≡ Some (record { stamp = stamp; number = number })))
          → Numbers stamped_slot places stamp number (m.history ++ tr.own ∷ [])
      numbers' stamp number (inl both) =
          subst (λ s. Numbers stamped_slot places s number (m.history ++ tr.own ∷ [])) (sym both.0)
          (subst (λ n. Numbers stamped_slot places S n (m.history ++ tr.own ∷ [])) (sym both.1) numbers_new)
      numbers' stamp number (inr open') =
          let b = f.desked.bounds open'.0 (record { stamp = stamp; number = number }) open'.1 open'.3 in
          numbers_old stamp number b.0 b.1 (f.numbers stamp number (inr (open'.0, open'.1, open'.3)))
