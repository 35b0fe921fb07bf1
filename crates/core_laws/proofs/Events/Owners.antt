-- What a session has open in a sound state, and what a lawful event is handed of it.
use Rattle.std.proofs.Common.{◌≡◌, ℕ, zero, suc, ◌≤◌, ◌==◌, ℤ, Bool, true, false, cond, List, [], ◌∷◌, length, Option, None, Some, option_map, is_some, refl, sym, ap, ◌∙◌, subst, arith}
use Rattle.std.specs.Prelude.{IsSomeAnd}
use Rattle.std.specs.List.{flat_map, filter_map}
use Rattle.std.proofs.lemmas.Bool.Decides.{nat_tests}
use Rattle.std.proofs.lemmas.Option.{same_Some}
use Rattle.block_layout.specs.Place.{place_of, block_of, slot_of}
use Rattle.block_spec.specs.declared.change.Before.{Before}
use Rattle.block_spec.specs.Bodies.{is_writer}
use Rattle.block_spec.specs.Slots.{Row, Slot, is_bare, laid_back, writer_of}
use Rattle.core_laws.proofs.Events.Lists.{flat_member, member_flat, kept_member, member_kept, below_member}
use Rattle.core_laws.proofs.Events.Naming.{body_is_there, follows_machine}
use Rattle.core_laws.proofs.Events.Slots.{body_of}
use Rattle.core_laws.specs.Events.Named.{FollowsMachine}
use Rattle.event_spec.specs.declared.own.OwnKey.{OwnKey}
use Rattle.event_spec.specs.declared.own.OwnTransaction.{OwnTransaction}
use Rattle.event_spec.specs.declared.part.Part.TheVariants as part
use Rattle.event_spec.specs.Lawful.{Among, Write, Opened, OwnsKey, OwnsAll, IsOwnKey, IsOwn, slot_key, write_of, write_on, writes_of, transaction}
use Rattle.event_spec.specs.Parts.{Parts, Shape, blocks_of, slots_of, below, body_from, desk_at, slot_at, places_at}
use Rattle.event_spec.specs.SlotSound.{Keyed}
use Rattle.event_spec.specs.Sound.{Sound}
use Rattle.core_laws.specs.Following.Owned.{HasOpen, OwnSlot}
use Rattle.isolation_spec.specs.Contents.{at_place, place_at}
use Rattle.core_laws.proofs.Slots.Endings.{keyed_row}
use Rattle.core_laws.proofs.Slots.Keys.{HasKey}
use Rattle.core_laws.proofs.Slots.Kept.{writer_filled}
use Rattle.txn_desk.specs.declared.Snapshot.{Snapshot}
use Rattle.txn_desk.specs.Oldest.{snapshot_of}
use Rattle.undo_chain.specs.declared.undo.Undo.{Undo}

-- ---- a slot's key

-- a slot of a key that is not bare tells the key
pub slot_key_is : (key : ℤ) (slot : Slot) → Keyed key slot.row slot.entries → is_bare slot ≡ false → slot_key slot.row slot.entries ≡ Some key
slot_key_is key slot keyed filled = go slot.row slot.entries keyed filled
  where
    at : (row : Option Row) (es : List (Undo Before)) → is_some row ≡ true → HasKey key row → slot_key row es ≡ Some key
    at None es some k = cc
    at (Some row) es some k = ap Some k

    go : (row : Option Row) (es : List (Undo Before)) → Keyed key row es → is_bare (record { row = row; entries = es }) ≡ false → slot_key row es ≡ Some key
    go (Some row) es k f = at (Some row) es refl (keyed_row key (Some row) es k)
    go None [] k f = cc
    go None (e ∷ es) k f = at (laid_back None e.before) es k.1 (keyed_row key (laid_back None e.before) es k.2)

-- ---- the writes of a session

module _ (sh : Shape) (s : Parts) (ok : Sound sh s) (q : ℕ) where
  -- How the sound state follows a machine.
  abbrev f : FollowsMachine sh s ok.follows.0
  f = follows_machine sh s ok

  -- a slot with the session's entries is among its writes
  pub written_listed : (t : ℕ) (key : ℤ) (p : ℕ) → Among p (places_at sh s t key) → writer_of (slot_at sh s t p).entries ≡ Some q → Among (write_of t p key) (writes_of sh s q)
  written_listed t key p a w =
      let filled = writer_filled (slot_at sh s t p) q w in
      let b = body_of sh s f.kinds t p filled in
      let has = body_is_there sh s t (block_of p) (part.Body b.0) b.1 in
      let wide : length b.0.slots ≡ slots_of sh t = ap (λ o. length (body_from o).slots) (sym b.1) ∙ (ok.bodies t (block_of p) has).slots in
      let in_b = b.2 in
      let h0 = has.0 in let h1 = has.1 in
      let whole : place_of (block_of p) (slot_of p) ≡ p = omega arith in
      member_flat (λ t. flat_map (λ b. filter_map (λ j. write_on q t (place_of b j) (slot_at sh s t (place_of b j))) (below (slots_of sh t))) (below (blocks_of sh t))) (below (length sh.tables)) t (write_of t p key)
      (below_member 0 (length sh.tables) t (omega arith) (omega (arith, h0)))
      (member_flat (λ b. filter_map (λ j. write_on q t (place_of b j) (slot_at sh s t (place_of b j))) (below (slots_of sh t))) (below (blocks_of sh t)) (block_of p) (write_of t p key)
      (below_member 0 (blocks_of sh t) (block_of p) (omega arith) (omega (arith, h1)))
      (member_kept (λ j. write_on q t (place_of (block_of p) j) (slot_at sh s t (place_of (block_of p) j))) (below (slots_of sh t)) (slot_of p) (write_of t p key)
      (below_member 0 (slots_of sh t) (slot_of p) (omega arith) (omega (arith, in_b, wide)))
      (ap (λ r. write_on q t r (slot_at sh s t r)) whole ∙ write_is filled)))
    where
      self : (a : ℕ) → (a == a) ≡ true
      self a = grind (arith, nat_tests)

      write_is : is_bare (slot_at sh s t p) ≡ false → write_on q t p (slot_at sh s t p) ≡ Some (write_of t p key)
      write_is filled =
          ap (λ o. cond (is_writer q o) (option_map (write_of t p) (slot_key (slot_at sh s t p).row (slot_at sh s t p).entries)) None) w
          ∙ ap (λ b. cond b (option_map (write_of t p) (slot_key (slot_at sh s t p).row (slot_at sh s t p).entries)) None) (self q)
          ∙ ap (option_map (write_of t p)) (slot_key_is key (slot_at sh s t p) (f.follows.index.keyed t p key a) filled)

  -- and each of its writes is one
  pub listed_written : (t : ℕ) (key : ℤ) (p : ℕ) → Among (write_of t p key) (writes_of sh s q) → Among p (places_at sh s t key) × (writer_of (slot_at sh s t p).entries ≡ Some q)
  listed_written t key p a =
      let x = flat_member (λ t. flat_map (λ b. filter_map (λ j. write_on q t (place_of b j) (slot_at sh s t (place_of b j))) (below (slots_of sh t))) (below (blocks_of sh t))) (below (length sh.tables)) (write_of t p key) a in
      let y = flat_member (λ b. filter_map (λ j. write_on q x.0 (place_of b j) (slot_at sh s x.0 (place_of b j))) (below (slots_of sh x.0))) (below (blocks_of sh x.0)) (write_of t p key) x.2 in
      let z = kept_member (λ j. write_on q x.0 (place_of y.0 j) (slot_at sh s x.0 (place_of y.0 j))) (below (slots_of sh x.0)) (write_of t p key) y.2 in
      at x.0 (place_of y.0 z.0) (is_writer q (writer_of (slot_at sh s x.0 (place_of y.0 z.0)).entries)) (slot_key (slot_at sh s x.0 (place_of y.0 z.0)).row (slot_at sh s x.0 (place_of y.0 z.0)).entries) refl refl z.2
    where
      num : (o : Option ℕ) → is_writer q o ≡ true → o ≡ Some q
      num None e = cc
      num (Some w) e = ap Some (grind (arith, nat_tests))

      at : (u r : ℕ) (b : Bool) (k : Option ℤ) → is_writer q (writer_of (slot_at sh s u r).entries) ≡ b → slot_key (slot_at sh s u r).row (slot_at sh s u r).entries ≡ k
          → cond b (option_map (write_of u r) k) None ≡ Some (write_of t p key)
          → Among p (places_at sh s t key) × (writer_of (slot_at sh s t p).entries ≡ Some q)
      at u r false k is ks e = cc
      at u r true None is ks e = cc
      at u r true (Some k) is ks e =
          let one : write_of u r k ≡ write_of t p key = same_Some (write_of u r k) (write_of t p key) e in
          let same_u : u ≡ t = ap (λ (w : Write). w.table) one in
          let same_r : r ≡ p = ap (λ (w : Write). w.place) one in
          let same_k : k ≡ key = ap (λ (w : Write). w.key) one in
          let w : writer_of (slot_at sh s u r).entries ≡ Some q = num (writer_of (slot_at sh s u r).entries) is in
          let filled = writer_filled (slot_at sh s u r) q w in
          let listed = f.follows.index.listed u r filled in
          let key_same : Some listed.0 ≡ Some k = sym (slot_key_is listed.0 (slot_at sh s u r) (f.follows.index.keyed u r listed.0 listed.1) filled) ∙ ks in
          let key_is : listed.0 ≡ key = same_Some listed.0 k key_same ∙ same_k in (
            subst (λ u. Among p (places_at sh s u key)) same_u (subst (λ r. Among r (places_at sh s u key)) same_r (subst (λ k. Among r (places_at sh s u k)) key_is listed.1)),
            subst (λ u. writer_of (slot_at sh s u p).entries ≡ Some q) same_u (subst (λ r. writer_of (slot_at sh s u r).entries ≡ Some q) same_r w),
          )

-- a session that counts has what the desk and its slots say
abbrev pub open_with : List Write → Snapshot → Opened
open_with writes snapshot = record { snapshot = snapshot; writes = writes }

-- what a session has open: its snapshot from the desk, and what it wrote
pub transaction_is : (sh : Shape) (s : Parts) (q : ℕ) → 1 ≤ q → transaction sh s q ≡ option_map (open_with (writes_of sh s q)) (snapshot_of (desk_at sh s) q)
transaction_is sh s zero some = absurd (omega (arith, some))
transaction_is sh s (suc n) some = refl

-- what a session has open is its snapshot and its writes
is_opened : (sh : Shape) (s : Parts) (q : ℕ) (P : Opened → Type 0) → 1 ≤ q → IsSomeAnd (transaction sh s q) P
    → (snapshot : Snapshot) × (snapshot_of (desk_at sh s) q ≡ Some snapshot) × P (open_with (writes_of sh s q) snapshot)
is_opened sh s q P some has = go (snapshot_of (desk_at sh s) q) refl (subst (λ o. IsSomeAnd o P) (transaction_is sh s q some) has)
  where
    go : (o : Option Snapshot) → snapshot_of (desk_at sh s) q ≡ o → IsSomeAnd (option_map (open_with (writes_of sh s q)) (snapshot_of (desk_at sh s) q)) P
        → (snapshot : Snapshot) × (snapshot_of (desk_at sh s) q ≡ Some snapshot) × P (open_with (writes_of sh s q) snapshot)
    go None is x = absurd (subst (λ o. IsSomeAnd (option_map (open_with (writes_of sh s q)) o) P) is x)
    go (Some snapshot) is x = (snapshot, is, subst (λ o. IsSomeAnd (option_map (open_with (writes_of sh s q)) o) P) is x)

module _ (sh : Shape) (s : Parts) (ok : Sound sh s) where
  -- an event on one key
  pub key_open : (own : OwnKey) (t : ℕ) (key : ℤ) → OwnsKey sh own t key s → HasOpen (desk_at sh s) own.session own.snapshot
  key_open own t key owns =
      let o = is_opened sh s own.session (λ has. IsOwnKey sh s own t key has) owns.0.0 owns.1 in
      record { counted = owns.0.0; is_open = o.1 ∙ ap Some (sym o.2.snapshot) }

  -- what an event is handed of a key is the slot that the session wrote
  pub key_slot : (own : OwnKey) (t : ℕ) (key : ℤ) → OwnsKey sh own t key s
      → OwnSlot (slot_at sh s) (places_at sh s) own.session t key own.written
  key_slot own t key owns =
      let o = is_opened sh s own.session (λ has. IsOwnKey sh s own t key has) owns.0.0 owns.1 in record {
        there = λ p is. listed_written sh s ok own.session t key p ((o.2.written p).0 is);
        all = λ p a w. (o.2.written p).1 (written_listed sh s ok own.session t key p a w);
      }

  -- and one on all that the session wrote
  pub all_open : (own : OwnTransaction) → OwnsAll sh own s → HasOpen (desk_at sh s) own.session own.snapshot
  all_open own owns =
      let o = is_opened sh s own.session (λ has. IsOwn sh s own has) owns.0.0 owns.1 in
      record { counted = owns.0.0; is_open = o.1 ∙ ap Some (sym o.2.snapshot) }

  -- and so is what it is handed of all keys
  pub all_slots : (own : OwnTransaction) → OwnsAll sh own s → (t : ℕ) (key : ℤ)
      → OwnSlot (slot_at sh s) (places_at sh s) own.session t key (at_place own.writes (place_at t key))
  all_slots own owns t key =
      let o = is_opened sh s own.session (λ has. IsOwn sh s own has) owns.0.0 owns.1 in record {
        there = λ p is. listed_written sh s ok own.session t key p ((o.2.writes t key p).0 is);
        all = λ p a w. (o.2.writes t key p).1 (written_listed sh s ok own.session t key p a w);
      }
