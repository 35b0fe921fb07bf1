-- A session's reads of a table.
use Rattle.std.proofs.Common.{◌≡◌, ◌⊎◌, ℕ, suc, ◌+◌, ◌<◌, ◌^◌, ℤ, Bool, true, false, cond, not, ◌||◌, ◌==◌, List, [], ◌∷◌, Option, None, Some, is_some, length, get_or, refl, sym, ap, ◌∙◌, subst, arith}
use mathlib.Core.Logic.{inl, inr}
use Rattle.std.specs.Prelude.{option_and_then}
use Rattle.std.specs.List.{cons_option, filter_map, range_with_len}
use Rattle.std.proofs.lemmas.Bool.Decides.{nat_tests}
use Rattle.std.proofs.lemmas.Option.{same_Some}
use Rattle.block_layout.specs.Place.{block_of, place_of as place_in, slot_of}
use Rattle.block_spec.specs.Bodies.{is_imaged, is_loose, is_quiet, rows_of, slot_in}
use Rattle.block_spec.specs.declared.change.Before.{Before}
use Rattle.block_spec.specs.declared.phase.Phase.{Phase}
use Rattle.block_spec.specs.declared.phase.Phase.TheVariants.{Loose, Sealed, Imaged}
use Rattle.block_spec.specs.Slots.{Row, Slot, bare, has_none, seen, writer_of}
use Rattle.core_laws.proofs.Events.Heads.{block_is, slot_is}
use Rattle.core_laws.proofs.Events.Owners.{all_open, all_slots}
use Rattle.core_laws.specs.Events.Named.{FollowsMachine}
use Rattle.event_spec.specs.declared.own.OwnTransaction.{OwnTransaction}
use Rattle.event_spec.specs.Follows.{is_current}
use Rattle.event_spec.specs.Lawful.{Among, HasBlock, HasPlace, OwnsAll}
use Rattle.event_spec.specs.Parts.{Parts, Shape, body_at, desk_at, places_at, slot_at}
use Rattle.event_spec.specs.Replies.{is_elsewhere, row_read, rows_read}
use Rattle.event_spec.specs.Sound.{IsShape, Sound}
use Rattle.core_laws.proofs.Following.Finds.{none_own, same_view}
use Rattle.isolation_laws.proofs.Overlays.{over}
use Rattle.core_laws.proofs.Following.Sessions as sessions
use Rattle.core_laws.proofs.Following.Sessions.{option_cases}
use Rattle.core_laws.specs.Following.Owned.{HasOpen, OwnSlot}
use Rattle.isolation_spec.specs.Contents.{at_place, key_of, place_at, place_of, state_at}
use Rattle.isolation_spec.specs.Machine.{IsolationMachine, Transaction, seen_rows, transaction_of}
use Rattle.core_laws.proofs.Slots.Kept.{shown_filled, writer_current}
use Rattle.core_laws.proofs.Slots.Views.{seen_writer}
use Rattle.core_laws.specs.Snapshots.Laws.{ReadsEachOnce, ReadsHoldEachRow}
use Rattle.core_laws.proofs.Sound.Bodies.{quiet_none}
use Rattle.core_laws.proofs.Sound.Written.{filled_there}
use Rattle.undo_chain.specs.declared.undo.Undo.{Undo}

-- a row read is seen, and is not written elsewhere
kept_row : (elsewhere : Row → Bool) (o : Option Row) (row : Row) → option_and_then (λ row. cond (elsewhere row) None (Some row)) o ≡ Some row
    → (o ≡ Some row) × (elsewhere row ≡ false)
kept_row elsewhere None row is = cc
kept_row elsewhere (Some x) row is = go (elsewhere x) refl is
  where
    go : (b : Bool) → elsewhere x ≡ b → cond b None (Some x) ≡ Some row → (Some x ≡ Some row) × (elsewhere row ≡ false)
    go true e i = cc
    go false e i = (i, ap elsewhere (sym (same x row i)) ∙ e)
      where
        same : (a b : Row) → Some a ≡ Some b → a ≡ b
        same a b e = cc

-- A row that is there and is not written elsewhere is read.
row_kept : (elsewhere : Row → Bool) (o : Option Row) (row : Row) → o ≡ Some row → elsewhere row ≡ false → option_and_then (λ row. cond (elsewhere row) None (Some row)) o ≡ Some row
row_kept elsewhere o row is not_there =
    ap (option_and_then (λ row. cond (elsewhere row) None (Some row))) is ∙ ap (λ b. cond b None (Some row)) not_there

-- Numbers that are not tested as different are the same.
num : (a b : ℕ) → not (a == b) ≡ false → a ≡ b
num a b e = go (a == b) refl e
  where
    go : (y : Bool) → (a == b) ≡ y → not y ≡ false → a ≡ b
    go true i e = grind (arith, nat_tests)
    go false i e = cc

-- A number is not tested as different from itself.
num_refl : (a : ℕ) → not (a == a) ≡ false
num_refl a = ap not (same a)
  where
    same : (a : ℕ) → (a == a) ≡ true
    same a = grind (arith, nat_tests)

module _ (sh : Shape) (s : Parts) (own : OwnTransaction) (t : ℕ) (m : IsolationMachine) (open' : Transaction)
    (shape : IsShape sh) (ok : Sound sh s) (owns : OwnsAll sh own s) (f : FollowsMachine sh s m) (is_open : transaction_of own.session m ≡ Some open') where
  -- The stamp of the snapshot by which the session reads.
  abbrev stamp : ℕ
  stamp = own.snapshot.stamp

  -- The session has its snapshot open at the desk.
  has : HasOpen (desk_at sh s) own.session own.snapshot
  has = all_open sh s ok own owns

  -- The slots of each key that the session owns are those of its writes.
  slots : (key : ℤ) → OwnSlot (slot_at sh s) (places_at sh s) own.session t key (at_place own.writes (place_at t key))
  slots key = all_slots sh s ok own owns t key

  -- The session's transaction of the machine, as the core that follows it has it.
  abbrev the : Transaction
  the = sessions.tr (slot_at sh s) (places_at sh s) (desk_at sh s) m f.follows own.session own.snapshot has

  -- The transaction that the core has of the session is the machine's open one.
  the_is : the ≡ open'
  the_is = same_Some the open' (sym (sessions.mine (slot_at sh s) (places_at sh s) (desk_at sh s) m f.follows own.session own.snapshot has) ∙ is_open)

  -- what the machine sees at a key: the own write, else what is committed
  sees : (key : ℤ) → at_place (seen_rows m open') (place_at t key) ≡ over (at_place the.own (place_at t key)) (at_place (state_at m.history own.snapshot.number) (place_at t key))
  sees key =
      ap (λ (x : Transaction). at_place (seen_rows m x) (place_at t key)) (sym the_is)
      ∙ sessions.at_seen (slot_at sh s) (places_at sh s) (desk_at sh s) m f.follows own.session own.snapshot has (place_at t key)
      ∙ ap (λ n. over (at_place the.own (place_at t key)) (at_place (state_at m.history n) (place_at t key))) (sessions.at_number (slot_at sh s) (places_at sh s) (desk_at sh s) m f.follows own.session own.snapshot has)

  -- The session wrote a row's key, but at another place than this.
  abbrev elsewhere : ℕ → Row → Bool
  elsewhere p row = is_elsewhere (at_place own.writes (place_at t (key_of row))) p

  -- a place that shows a row is a candidate of the row's key
  shown_at : (p : ℕ) (row : Row) → seen (slot_at sh s t p) own.snapshot.stamp own.session ≡ Some row → Among p (places_at sh s t (key_of row))
  shown_at p row is =
      let listed = f.follows.index.listed t p (shown_filled (slot_at sh s t p) own.snapshot.stamp own.session (ap is_some is)) in
      let key = sessions.key_shown (slot_at sh s) (places_at sh s) (desk_at sh s) m f.follows own.session own.snapshot has t p listed.0 own.snapshot.stamp own.session row listed.1 is in
      subst (λ k. Among p (places_at sh s t k)) (sym key) listed.1

  -- at a key that the session did not write
  view : (key : ℤ) (p : ℕ) → at_place own.writes (place_at t key) ≡ None → Among p (places_at sh s t key)
      → seen (slot_at sh s t p) own.snapshot.stamp own.session ≡ seen (slot_at sh s t p) own.snapshot.stamp 0
  view key p none a = same_view (slot_at sh s) (places_at sh s) (desk_at sh s) m f.follows own.session own.snapshot has t key (at_place own.writes (place_at t key)) (slots key) p none a

  -- At a key that the session did not write its transaction has no write.
  no_own : (key : ℤ) → at_place own.writes (place_at t key) ≡ None → at_place the.own (place_at t key) ≡ None
  no_own key none = none_own (slot_at sh s) (places_at sh s) (desk_at sh s) m f.follows own.session own.snapshot has t key (at_place own.writes (place_at t key)) (slots key) none

  -- at a key that it wrote
  own_row : (key : ℤ) (w : ℕ) → at_place own.writes (place_at t key) ≡ Some w
      → (seen (slot_at sh s t w) own.snapshot.stamp own.session ≡ (slot_at sh s t w).row) × (at_place the.own (place_at t key) ≡ Some (slot_at sh s t w).row)
  own_row key w is =
      let here = (slots key).there w is in (
        seen_writer (slot_at sh s t w).row (slot_at sh s t w).entries own.snapshot.stamp own.session (f.follows.slots t w).lawful here.1,
        sessions.wrote_here (slot_at sh s) (places_at sh s) (desk_at sh s) m f.follows own.session own.snapshot has t w key here.0 here.1,
      )

  -- A row that is read is the one that is seen at its key.
  no_other : (p : ℕ) (row : Row) → row_read sh s own t p ≡ Some row → at_place (seen_rows m open') (place_of t row) ≡ Some row
  no_other p row is = go (option_cases (at_place own.writes (place_at t (key_of row))))
    where
      both : (seen (slot_at sh s t p) own.snapshot.stamp own.session ≡ Some row) × (is_elsewhere (at_place own.writes (place_at t (key_of row))) p ≡ false)
      both = kept_row (λ row. is_elsewhere (at_place own.writes (place_at t (key_of row))) p) (seen (slot_at sh s t p) own.snapshot.stamp own.session) row is

      go : (at_place own.writes (place_at t (key_of row)) ≡ None) ⊎ ((w : ℕ) × (at_place own.writes (place_at t (key_of row)) ≡ Some w)) → at_place (seen_rows m open') (place_of t row) ≡ Some row
      go (inl none) =
          sees (key_of row) ∙ ap (λ o. over o (at_place (state_at m.history own.snapshot.number) (place_at t (key_of row)))) (no_own (key_of row) none)
          ∙ (sessions.before (slot_at sh s) (places_at sh s) (desk_at sh s) m f.follows own.session own.snapshot has).there t p row (sym (view (key_of row) p none (shown_at p row both.0)) ∙ both.0)
      go (inr w) =
          let same : w.0 ≡ p = num w.0 p (sym (ap (λ o. is_elsewhere o p) w.1) ∙ both.1) in
          let mine = own_row (key_of row) w.0 w.1 in
          sees (key_of row) ∙ ap (λ o. over o (at_place (state_at m.history own.snapshot.number) (place_at t (key_of row)))) mine.1
          ∙ sym mine.0 ∙ ap (λ p. seen (slot_at sh s t p) own.snapshot.stamp own.session) same ∙ both.0

  -- A place at which a row is shown is one of the table.
  place_there : (p : ℕ) (row : Row) → seen (slot_at sh s t p) own.snapshot.stamp own.session ≡ Some row → HasPlace sh t p
  place_there p row is =
      let there = filled_there sh s ok t p (shown_filled (slot_at sh s t p) own.snapshot.stamp own.session (ap is_some is)) in
      let less = there.1 in let size = (ok.bodies t (block_of p) there.0).slots in
      (there.0, omega (arith, less, size))

  -- A row that is seen at a key is read at some place.
  all : (key : ℤ) (row : Row) → at_place (seen_rows m open') (place_at t key) ≡ Some row
      → (p : ℕ) × HasPlace sh t p × (row_read sh s own t p ≡ Some row) × (key_of row ≡ key)
  all key row is = go (option_cases (at_place own.writes (place_at t key)))
    where
      go : (at_place own.writes (place_at t key) ≡ None) ⊎ ((w : ℕ) × (at_place own.writes (place_at t key) ≡ Some w)) → (p : ℕ) × HasPlace sh t p × (row_read sh s own t p ≡ Some row) × (key_of row ≡ key)
      go (inl none) =
          let committed = ap (λ o. over o (at_place (state_at m.history own.snapshot.number) (place_at t key))) (sym (no_own key none)) ∙ sym (sees key) ∙ is in
          let found = (sessions.before (slot_at sh s) (places_at sh s) (desk_at sh s) m f.follows own.session own.snapshot has).all t key row committed in
          let shown = view key found.0 none found.1 ∙ found.2 in
          let key_is = sessions.key_shown (slot_at sh s) (places_at sh s) (desk_at sh s) m f.follows own.session own.snapshot has t found.0 key own.snapshot.stamp own.session row found.1 shown in (
            found.0,
            place_there found.0 row shown,
            row_kept (λ row. is_elsewhere (at_place own.writes (place_at t (key_of row))) found.0) (seen (slot_at sh s t found.0) own.snapshot.stamp own.session) row shown
                (ap (λ k. is_elsewhere (at_place own.writes (place_at t k)) found.0) key_is ∙ ap (λ o. is_elsewhere o found.0) none),
            key_is,
          )
      go (inr w) =
          let mine = own_row key w.0 w.1 in
          let here = (slots key).there w.0 w.1 in
          let shown = mine.0 ∙ ap (λ o. over o (at_place (state_at m.history own.snapshot.number) (place_at t key))) (sym mine.1) ∙ sym (sees key) ∙ is in
          let key_is = sessions.key_shown (slot_at sh s) (places_at sh s) (desk_at sh s) m f.follows own.session own.snapshot has t w.0 key own.snapshot.stamp own.session row here.0 shown in (
            w.0,
            place_there w.0 row shown,
            row_kept (λ row. is_elsewhere (at_place own.writes (place_at t (key_of row))) w.0) (seen (slot_at sh s t w.0) own.snapshot.stamp own.session) row shown
                (ap (λ k. is_elsewhere (at_place own.writes (place_at t k)) w.0) key_is ∙ ap (λ o. is_elsewhere o w.0) w.1 ∙ num_refl w.0),
            key_is,
          )

  -- Rows that are read with the same key are read at the same place.
  once : (one other : ℕ) (row another : Row) → row_read sh s own t one ≡ Some row → row_read sh s own t other ≡ Some another → key_of row ≡ key_of another → one ≡ other
  once one other row another a b key_is = go (option_cases (at_place own.writes (place_at t (key_of row))))
    where
      x : (seen (slot_at sh s t one) own.snapshot.stamp own.session ≡ Some row) × (is_elsewhere (at_place own.writes (place_at t (key_of row))) one ≡ false)
      x = kept_row (λ row. is_elsewhere (at_place own.writes (place_at t (key_of row))) one) (seen (slot_at sh s t one) own.snapshot.stamp own.session) row a

      y : (seen (slot_at sh s t other) own.snapshot.stamp own.session ≡ Some another) × (is_elsewhere (at_place own.writes (place_at t (key_of another))) other ≡ false)
      y = kept_row (λ row. is_elsewhere (at_place own.writes (place_at t (key_of row))) other) (seen (slot_at sh s t other) own.snapshot.stamp own.session) another b

      go : (at_place own.writes (place_at t (key_of row)) ≡ None) ⊎ ((w : ℕ) × (at_place own.writes (place_at t (key_of row)) ≡ Some w)) → one ≡ other
      go (inl none) =
          let first = shown_at one row x.0 in
          let second = subst (λ k. Among other (places_at sh s t k)) (sym key_is) (shown_at other another y.0) in
          (sessions.before (slot_at sh s) (places_at sh s) (desk_at sh s) m f.follows own.session own.snapshot has).once t (key_of row) one other first second
          (ap is_some (sym (view (key_of row) one none first) ∙ x.0)) (ap is_some (sym (view (key_of row) other none second) ∙ y.0))
      go (inr w) =
          sym (num w.0 one (sym (ap (λ o. is_elsewhere o one) w.1) ∙ x.1))
          ∙ num w.0 other (sym (ap (λ o. is_elsewhere o other) w.1) ∙ ap (λ k. is_elsewhere (at_place own.writes (place_at t k)) other) key_is ∙ y.1)

  -- ---- a shared image

  -- Of a slot without entries its row is seen.
  quiet_seen : (slot : Slot) → has_none slot.entries ≡ true → seen slot own.snapshot.stamp own.session ≡ slot.row
  quiet_seen slot none = go slot.entries refl none
    where
      go : (es : List (Undo Before)) → slot.entries ≡ es → has_none es ≡ true → seen slot own.snapshot.stamp own.session ≡ slot.row
      go [] e n = ap (λ es. seen (record { row = slot.row; entries = es }) own.snapshot.stamp own.session) e
      go (y ∷ ys) e n = cc

  -- a row in a slot without entries is not written elsewhere
  not_elsewhere : (p : ℕ) (row : Row) → has_none (slot_at sh s t p).entries ≡ true → (slot_at sh s t p).row ≡ Some row → is_elsewhere (at_place own.writes (place_at t (key_of row))) p ≡ false
  not_elsewhere p row none is = go (option_cases (at_place own.writes (place_at t (key_of row))))
    where
      a : Among p (places_at sh s t (key_of row))
      a = shown_at p row (quiet_seen (slot_at sh s t p) none ∙ is)

      go : (at_place own.writes (place_at t (key_of row)) ≡ None) ⊎ ((w : ℕ) × (at_place own.writes (place_at t (key_of row)) ≡ Some w)) → is_elsewhere (at_place own.writes (place_at t (key_of row))) p ≡ false
      go (inl n) = ap (λ o. is_elsewhere o p) n
      go (inr w) =
          let here = (slots (key_of row)).there w.0 w.1 in
          let same : w.0 ≡ p = f.follows.current t (key_of row) w.0 p here.0 a (writer_current (slot_at sh s t w.0) own.session here.1) (row_current (slot_at sh s t p) row is) in
          ap (λ o. is_elsewhere o p) w.1 ∙ ap (λ w. not (w == p)) same ∙ num_refl p
        where
          row_current : (slot : Slot) (row : Row) → slot.row ≡ Some row → is_current slot ≡ true
          row_current slot row is = ap (λ (o : Option Row). is_some o || is_some (writer_of slot.entries)) is

  -- At a slot without entries its row is read.
  quiet_read : (p : ℕ) → has_none (slot_at sh s t p).entries ≡ true → row_read sh s own t p ≡ (slot_at sh s t p).row
  quiet_read p none = go (slot_at sh s t p).row refl
    where
      go : (o : Option Row) → (slot_at sh s t p).row ≡ o → row_read sh s own t p ≡ (slot_at sh s t p).row
      go None is =
          ap (option_and_then (λ row. cond (is_elsewhere (at_place own.writes (place_at t (key_of row))) p) None (Some row))) (quiet_seen (slot_at sh s t p) none ∙ is) ∙ sym is
      go (Some row) is =
          row_kept (λ row. is_elsewhere (at_place own.writes (place_at t (key_of row))) p) (seen (slot_at sh s t p) own.snapshot.stamp own.session) row (quiet_seen (slot_at sh s t p) none ∙ is)
          (not_elsewhere p row none is) ∙ sym is

  -- Reads of one slot after another that give their rows give the rows of all.
  each_slot : (read : ℕ → Option Row) (list : List Slot) (a : ℕ) → ((j : ℕ) → j < length list → read (a + j) ≡ (get_or list j bare).row)
      → filter_map read (range_with_len a (length list)) ≡ filter_map (λ (slot : Slot). slot.row) list
  each_slot read [] a same = refl
  each_slot read (x ∷ list) a same =
      ap (λ o. cons_option o (filter_map read (range_with_len (a + 1) (length list)))) (ap read (plus a) ∙ same 0 (omega arith))
      ∙ ap (cons_option x.row) (each_slot read list (a + 1) (λ j less. ap read (next a j) ∙ same (suc j) (omega (arith, less))))
    where
      plus : (a : ℕ) → a ≡ a + 0
      plus a = omega arith

      next : (a j : ℕ) → (a + 1) + j ≡ a + suc j
      next a j = omega arith

  -- Of an imaged block the rows of its body are read.
  shared : (b : ℕ) → HasBlock sh t b → is_imaged (body_at sh s t b).phase ≡ true → rows_read sh s own t b ≡ rows_of (body_at sh s t b)
  shared b hb imaged = each_slot (λ j. row_read sh s own t (place_in b j)) (body_at sh s t b).slots 0 at
    where
      not_loose : (phase : Phase) → is_imaged phase ≡ true → is_loose phase ≡ false
      not_loose Loose e = cc
      not_loose (Sealed g) e = cc
      not_loose (Imaged g) e = refl

      quiet : is_quiet (body_at sh s t b) ≡ true
      quiet = (ok.bodies t b hb).quiet (not_loose (body_at sh s t b).phase imaged)

      at : (j : ℕ) → j < length (body_at sh s t b).slots → row_read sh s own t (place_in b (0 + j)) ≡ (get_or (body_at sh s t b).slots j bare).row
      at j less =
          let w = (shape.slots t hb.0).1 in let count = (ok.bodies t b hb).slots in
          let small : j < 2 ^ 20 = omega (arith, w, count, less) in
          let same : slot_at sh s t (place_in b j) ≡ slot_in (body_at sh s t b) j =
          ap (λ x. slot_in (body_at sh s t x) (slot_of (place_in b j))) (block_is b j small) ∙ ap (slot_in (body_at sh s t b)) (slot_is b j small) in
          let zero_plus : 0 + j ≡ j = omega arith in
          ap (λ j. row_read sh s own t (place_in b j)) zero_plus
          ∙ quiet_read (place_in b j) (ap (λ (x : Slot). has_none x.entries) same ∙ quiet_none (body_at sh s t b).slots j quiet) ∙ ap (λ (x : Slot). x.row) same

  -- the session's reads of all blocks hold the rows that it sees, each at one place
  pub reads : ReadsEachOnce sh s own t (seen_rows m open')
  reads = record { no_other = no_other; all = all; once = once; shared = shared }

-- the session's reads of all blocks hold the rows of its transaction of the machine
pub reads_hold_each_row : ReadsHoldEachRow
reads_hold_each_row sh s own t m open' shape ok owns f is_open = reads sh s own t m open' shape ok owns f is_open
