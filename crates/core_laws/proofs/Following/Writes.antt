-- A write keeps what holds between the core and the machine.
use Rattle.std.proofs.Common.{◌||◌, ◌≡◌, ◌≢◌, ◌⊎◌, ℕ, ◌≤◌, ℤ, true, false, cond, List, Option, None, Some, is_some, Ordering, Less, Equal, Greater, refl, sym, ap, ◌∙◌, subst}
use mathlib.Core.Logic.{inl, inr}
use Rattle.std.specs.Ordering.{int_cmp, is_eq, ordering_then, nat_cmp}
use Rattle.std.specs.FinMap.{int_cmp-IsAntisymmetric, nat_cmp-IsAntisymmetric}
use Rattle.std.specs.Cmp.{tied_itself}
use Rattle.std.proofs.lemmas.Bool.{cases_Bool, false_from_ne_true}
use Rattle.std.proofs.lemmas.Option.{same_Some}
use Rattle.isolation_spec.specs.Contents.{is_place, at_place, place_at, state_at, State}
use Rattle.isolation_spec.specs.Machine.{IsolationMachine, Transaction, transaction_of, with_own, entered}
use Rattle.isolation_spec.specs.declared.place.Place.{Place}
use Rattle.isolation_laws.proofs.Rows.{place_cmp-total}
use Rattle.txn_desk.specs.Desk.{DeskState}
use Rattle.undo_chain.specs.Conflict.{numbers_above}
use Rattle.block_spec.specs.Slots.{Slot, Row, bare, writer_of, written, seen, is_bare, row_after, image_before, laid_back}
use Rattle.block_spec.specs.declared.change.Change.{Change}
use Rattle.core_laws.proofs.Slots.Keys.{HasKey}
use Rattle.event_spec.specs.SlotSound.{Keyed, IsSoundSlot}
use Rattle.event_spec.specs.Lawful.{Among}
use Rattle.event_spec.specs.Follows.{IsOlder, Shows, StandsBefore, Numbers, Index, Own, Desked, Follows, is_current}
use Rattle.isolation_spec.specs.Order.{InOrder}
use Rattle.core_laws.proofs.Slots.Ages.{before_among, older_bare, older_written}
use Rattle.isolation_laws.proofs.Overlays.{at-insert, order-insert}
use Rattle.core_laws.proofs.Slots.Written.{sound_written}
use Rattle.core_laws.proofs.Slots.Views.{seen_written}
use Rattle.core_laws.proofs.Slots.Endings.{written_keyed}
use Rattle.core_laws.proofs.Slots.Kept.{bare_is, writer_filled, writer_current, shown_filled, number_filled}
use Rattle.core_laws.proofs.Following.Machines.{of-with_own, of-with_own-other, one-with_own}
use Rattle.core_laws.proofs.Following.Desks.{same_number, none_not}

-- a place is itself
pub place_self : (place : Place) → is_place place place ≡ true
place_self place = ap is_eq (tied_itself place_cmp-total place)

-- places that test as one have one table and one key
pub place_is : (t u : ℕ) (k l : ℤ) → is_place (place_at t k) (place_at u l) ≡ true → (t ≡ u) × (k ≡ l)
place_is t u k l is = go (nat_cmp t u) refl is
  where
    equal_from : (a : Ordering) → is_eq a ≡ true → a ≡ Equal
    equal_from Less is = cc
    equal_from Equal is = refl
    equal_from Greater is = cc

    go : (r : Ordering) → nat_cmp t u ≡ r → is_eq (ordering_then r (int_cmp k l)) ≡ true → (t ≡ u) × (k ≡ l)
    go Less e is = cc
    go Equal e is = (nat_cmp-IsAntisymmetric t u e, int_cmp-IsAntisymmetric k l (equal_from (int_cmp k l) is))
    go Greater e is = cc

-- one table's one place, or another
pub apart : (t u p r : ℕ) → ((t ≡ u) × (p ≡ r)) ⊎ ((t ≡ u) → (p ≡ r) → ⊥)
apart t u p r = go (same_number t u) (same_number p r)
  where
    go : (t ≡ u) ⊎ (t ≢ u) → (p ≡ r) ⊎ (p ≢ r) → ((t ≡ u) × (p ≡ r)) ⊎ ((t ≡ u) → (p ≡ r) → ⊥)
    go (inl a) (inl b) = inl (a, b)
    go (inr a) b = inr (λ x y. a x)
    go (inl a) (inr b) = inr (λ x y. b y)

module _ (slot : ℕ → ℕ → Slot) (places : ℕ → ℤ → List ℕ) (desk : DeskState) (m : IsolationMachine) (f : Follows slot places desk m)
    (q : ℕ) (pass : 1 ≤ q) (tr : Transaction) (mine : transaction_of q m ≡ Some tr)
    (t p : ℕ) (key : ℤ) (change : Change)
    -- the write is undone by its before-image, and leaves the key
    (undone : laid_back (row_after (slot t p).row change) (image_before (slot t p).row change) ≡ (slot t p).row)
    (leaves : HasKey key (row_after (slot t p).row change))
    (row_there : (is_some (row_after (slot t p).row change) || is_some (slot t p).row) ≡ true)
    (keyed : Keyed key (slot t p).row (slot t p).entries)
    -- the slot is the key's or nobody's, no other session has written it, no other slot of the key
    -- is current, and it is itself where it is a candidate
    (one_key : (k : ℤ) → Among p (places t k) → k ≡ key)
    (free : (w : ℕ) → writer_of (slot t p).entries ≡ Some w → w ≡ q)
    (alone : (p' : ℕ) → Among p' (places t key) → is_current (slot t p') ≡ true → p' ≡ p)
    (listed_current : Among p (places t key) → is_current (slot t p) ≡ true)
    -- the slots and the index after it
    (slot' : ℕ → ℕ → Slot) (places' : ℕ → ℤ → List ℕ)
    (here : slot' t p ≡ written q change (slot t p))
    (others : (u r : ℕ) → ((u ≡ t) → (r ≡ p) → ⊥) → slot' u r ≡ slot u r)
    (added : Among p (places' t key))
    (kept : (u r : ℕ) (k : ℤ) → Among r (places u k) → Among r (places' u k))
    (more : (u r : ℕ) (k : ℤ) → Among r (places' u k) → Among r (places u k) ⊎ ((u ≡ t) × (r ≡ p) × (k ≡ key)))
    (behind : (u r r' : ℕ) (k : ℤ) → StandsBefore r r' (places' u k)
    → StandsBefore r r' (places u k) ⊎ (Among r (places u k) × (Among r' (places u k) → ⊥) × (u ≡ t) × (r' ≡ p) × (k ≡ key))) where
  -- The row that the slot has after the write, if it has one.
  abbrev value : Option Row
  value = row_after (slot t p).row change

  -- The place of the written key.
  abbrev place : Place
  place = place_at t key

  -- the machine with the write in the session's own
  abbrev pub wrote : IsolationMachine
  wrote = with_own q place value m

  -- what a slot's property is after the write
  at_slot : (P : Slot → ℕ → ℕ → Type 0) → P (written q change (slot t p)) t p → ((u r : ℕ) → P (slot u r) u r) → (u r : ℕ) → P (slot' u r) u r
  at_slot P written' old u r = go (apart u t r p)
    where
      go : ((u ≡ t) × (r ≡ p)) ⊎ ((u ≡ t) → (r ≡ p) → ⊥) → P (slot' u r) u r
      go (inl both) = subst (λ u. P (slot' u r) u r) (sym both.0) (subst (λ r. P (slot' t r) t r) (sym both.1) (subst (λ s. P s t p) (sym here) written'))
      go (inr no') = subst (λ s. P s u r) (sym (others u r no')) (old u r)

  -- A write leaves what nobody's session sees of each slot.
  same_view : (s u r : ℕ) → seen (slot' u r) s 0 ≡ seen (slot u r) s 0
  same_view s = at_slot (λ x u r. seen x s 0 ≡ seen (slot u r) s 0) (seen_written q change (slot t p) s pass undone) (λ u r. refl)

  -- A write leaves the numbers of commits at each slot.
  same_numbers : (s u r : ℕ) → numbers_above (slot' u r).entries s ≡ numbers_above (slot u r).entries s
  same_numbers s = at_slot (λ x u r. numbers_above x.entries s ≡ numbers_above (slot u r).entries s) refl (λ u r. refl)

  -- a slot of the index that shows a row or has a number was in it before
  old_place : (u r : ℕ) (k : ℤ) → Among r (places' u k) → is_bare (slot u r) ≡ false → Among r (places u k)
  old_place u r k a filled = go (more u r k a)
    where
      go : Among r (places u k) ⊎ ((u ≡ t) × (r ≡ p) × (k ≡ key)) → Among r (places u k)
      go (inl a) = a
      go (inr new) =
          let listed = f.index.listed u r filled in
          let same : listed.0 ≡ key = one_key listed.0 (subst (λ u. Among p (places u listed.0)) new.0 (subst (λ r. Among r (places u listed.0)) new.1 listed.1)) in
          subst (λ k. Among r (places u k)) (same ∙ sym new.2) listed.1

  -- The slots show at each stamp after the write what they showed before it.
  keeps_shows : (s : ℕ) (rows : State) → Shows slot places s rows → Shows slot' places' s rows
  keeps_shows s rows old = record {
    there = λ u r row is. old.there u r row (sym (same_view s u r) ∙ is);
    all = λ u k row is. let found = old.all u k row is in (found.0, kept u found.0 k found.1, same_view s u found.0 ∙ found.2);
    once = λ u k r r' a a' is is'.
        let x = ap is_some (sym (same_view s u r)) ∙ is in
        let y = ap is_some (sym (same_view s u r')) ∙ is' in
        old.once u k r r' (old_place u r k a (shown_filled (slot u r) s 0 x)) (old_place u r' k a' (shown_filled (slot u r') s 0 y)) x y;
  }

  -- The numbers above a snapshot agree with the history after the write as before.
  keeps_numbers : (s n : ℕ) → Numbers slot places s n m.history → Numbers slot' places' s n m.history
  keeps_numbers s n old = record {
    below = λ u k r x a is. let is' = subst (Among x) (same_numbers s u r) is in old.below u k r x (old_place u r k a (number_filled (slot u r) s x is')) is';
    last = λ u k last is. let found = old.last u k last is in (found.0, kept u found.0 k found.1, subst (Among last) (sym (same_numbers s u found.0)) found.2);
  }

  -- The session is the writer of the slot that it wrote.
  writes_now : writer_of (slot' t p).entries ≡ Some q
  writes_now = ap (λ (x : Slot). writer_of x.entries) here

  -- The index is right for the slots after the write.
  keeps_index : Index slot' places'
  keeps_index = record {
    keyed = λ u r k a. keyed' u r k (more u r k a) (apart u t r p);
    filled = λ u r k a. filled' u r k (more u r k a) (apart u t r p);
    listed = λ u r is. listed' u r is (apart u t r p);
    one_key = λ u r k l a b. one' u r k l (more u r k a) (more u r l b);
  }
    where
      keyed' : (u r : ℕ) (k : ℤ) → Among r (places u k) ⊎ ((u ≡ t) × (r ≡ p) × (k ≡ key)) → ((u ≡ t) × (r ≡ p)) ⊎ ((u ≡ t) → (r ≡ p) → ⊥) → Keyed k (slot' u r).row (slot' u r).entries
      keyed' u r k a (inl both) =
          let k_is : k ≡ key = from a in
          subst (λ (x : Slot). Keyed k x.row x.entries) (sym (ap (λ u. slot' u r) both.0 ∙ ap (slot' t) both.1 ∙ here))
          (subst (λ k. Keyed k (written q change (slot t p)).row (written q change (slot t p)).entries) (sym k_is) (written_keyed key q change (slot t p) undone leaves row_there keyed))
        where
          from : Among r (places u k) ⊎ ((u ≡ t) × (r ≡ p) × (k ≡ key)) → k ≡ key
          from (inl a) = one_key k (subst (λ u. Among p (places u k)) both.0 (subst (λ r. Among r (places u k)) both.1 a))
          from (inr new) = new.2
      keyed' u r k (inl a) (inr no') = subst (λ (x : Slot). Keyed k x.row x.entries) (sym (others u r no')) (f.index.keyed u r k a)
      keyed' u r k (inr new) (inr no') = absurd (no' new.0 new.1)

      filled' : (u r : ℕ) (k : ℤ) → Among r (places u k) ⊎ ((u ≡ t) × (r ≡ p) × (k ≡ key)) → ((u ≡ t) × (r ≡ p)) ⊎ ((u ≡ t) → (r ≡ p) → ⊥) → is_bare (slot' u r) ≡ false
      filled' u r k a (inl both) = writer_filled (slot' u r) q (ap (λ u. writer_of (slot' u r).entries) both.0 ∙ ap (λ r. writer_of (slot' t r).entries) both.1 ∙ writes_now)
      filled' u r k (inl a) (inr no') = ap is_bare (others u r no') ∙ f.index.filled u r k a
      filled' u r k (inr new) (inr no') = absurd (no' new.0 new.1)

      listed' : (u r : ℕ) → is_bare (slot' u r) ≡ false → ((u ≡ t) × (r ≡ p)) ⊎ ((u ≡ t) → (r ≡ p) → ⊥) → (k : ℤ) × Among r (places' u k)
      listed' u r is (inl both) = (key, subst (λ u. Among r (places' u key)) (sym both.0) (subst (λ r. Among r (places' t key)) (sym both.1) added))
      listed' u r is (inr no') = let old = f.index.listed u r (sym (ap is_bare (others u r no')) ∙ is) in (old.0, kept u r old.0 old.1)

      one' : (u r : ℕ) (k l : ℤ) → Among r (places u k) ⊎ ((u ≡ t) × (r ≡ p) × (k ≡ key)) → Among r (places u l) ⊎ ((u ≡ t) × (r ≡ p) × (l ≡ key)) → k ≡ l
      one' u r k l (inl a) (inl b) = f.index.one_key u r k l a b
      one' u r k l (inl a) (inr new) = one_key k (subst (λ u. Among p (places u k)) new.0 (subst (λ r. Among r (places u k)) new.1 a)) ∙ sym new.2
      one' u r k l (inr new) (inl b) = new.2 ∙ sym (one_key l (subst (λ u. Among p (places u l)) new.0 (subst (λ r. Among r (places u l)) new.1 b)))
      one' u r k l (inr x) (inr y) = x.2 ∙ sym y.2

  -- a key's current slots: the one written, or as before
  keeps_current : (u : ℕ) (k : ℤ) (r r' : ℕ) → Among r (places' u k) → Among r' (places' u k) → is_current (slot' u r) ≡ true → is_current (slot' u r') ≡ true → r ≡ r'
  keeps_current u k r r' a a' is is' = go (apart u t r p) (apart u t r' p)
    where
      old : (x : ℕ) → Among x (places' u k) → ((u ≡ t) → (x ≡ p) → ⊥) → Among x (places u k)
      old x b no' = at (more u x k b)
        where
          at : Among x (places u k) ⊎ ((u ≡ t) × (x ≡ p) × (k ≡ key)) → Among x (places u k)
          at (inl a) = a
          at (inr new) = absurd (no' new.0 new.1)

      key_of_p : (x : ℕ) → (u ≡ t) × (x ≡ p) → Among x (places' u k) → k ≡ key
      key_of_p x both b = at (more u x k b)
        where
          at : Among x (places u k) ⊎ ((u ≡ t) × (x ≡ p) × (k ≡ key)) → k ≡ key
          at (inl a) = one_key k (subst (λ u. Among p (places u k)) both.0 (subst (λ r. Among r (places u k)) both.1 a))
          at (inr new) = new.2

      one : (x y : ℕ) → (u ≡ t) × (x ≡ p) → Among x (places' u k) → ((u ≡ t) → (y ≡ p) → ⊥) → Among y (places' u k) → is_current (slot' u y) ≡ true → y ≡ x
      one x y both bx no' by now =
          let k_is = key_of_p x both bx in
          alone y (subst (λ k. Among y (places t k)) k_is (subst (λ u. Among y (places u k)) both.0 (old y by no')))
          (sym (ap (λ u. is_current (slot u y)) both.0) ∙ sym (ap is_current (others u y no')) ∙ now) ∙ sym both.1

      go : ((u ≡ t) × (r ≡ p)) ⊎ ((u ≡ t) → (r ≡ p) → ⊥) → ((u ≡ t) × (r' ≡ p)) ⊎ ((u ≡ t) → (r' ≡ p) → ⊥) → r ≡ r'
      go (inl x) (inl y) = x.1 ∙ sym y.1
      go (inl x) (inr y) = sym (one r r' x a y a' is')
      go (inr x) (inl y) = one r' r y a' x a is
      go (inr x) (inr y) = f.current u k r r' (old r a x) (old r' a' y) (sym (ap is_current (others u r x)) ∙ is) (sym (ap is_current (others u r' y)) ∙ is')

  -- a key's candidates stand in the order of their age as before, and the one written behind them
  keeps_aged : (u : ℕ) (k : ℤ) (r r' : ℕ) → StandsBefore r r' (places' u k) → IsOlder (slot' u r) (slot' u r')
  keeps_aged u k r r' x = go (behind u r r' k x)
    where
      true_false : true ≡ false → ⊥
      true_false e = cc

      after : ((u ≡ t) → (r ≡ p) → ⊥) → IsOlder (slot u r) (slot u r') → IsOlder (slot' u r) (slot' u r')
      after no' old = subst (λ s. IsOlder s (slot' u r')) (sym (others u r no'))
          (at_slot (λ y v w. IsOlder (slot u r) (slot v w) → IsOlder (slot u r) y) (older_written q change (slot u r) (slot t p)) (λ v w z. z) u r' old)

      not_here : StandsBefore r r' (places u k) → (u ≡ t) → (r ≡ p) → ⊥
      not_here b e e' =
          let a : Among p (places t k) = subst (λ u. Among p (places u k)) e (subst (λ r. Among r (places u k)) e' (before_among r r' (places u k) b)) in
          let now : is_current (slot t p) ≡ true = listed_current (subst (λ k. Among p (places t k)) (one_key k a) a) in
          true_false (sym now ∙ ap (λ r. is_current (slot t r)) (sym e') ∙ ap (λ u. is_current (slot u r)) (sym e) ∙ (f.aged u k r r' b).settled)

      fresh : Among r (places u k) → (Among r' (places u k) → ⊥) → (u ≡ t) → (r' ≡ p) → (k ≡ key) → IsOlder (slot' u r) (slot' u r')
      fresh a no' e e' e'' = after not_p (older_bare (slot u r) (slot u r') (settled (cases_Bool (is_current (slot u r)))) (ap (λ u. slot u r') e ∙ ap (slot t) e' ∙ empty (cases_Bool (is_bare (slot t p)))))
        where
          not_p : (u ≡ t) → (r ≡ p) → ⊥
          not_p y z = no' (subst (λ r. Among r (places u k)) (z ∙ sym e') a)

          settled : (is_current (slot u r) ≡ true) ⊎ (is_current (slot u r) ≡ false) → is_current (slot u r) ≡ false
          settled (inl now) = absurd (not_p e (alone r (subst (λ k. Among r (places t k)) e'' (subst (λ u. Among r (places u k)) e a)) (sym (ap (λ u. is_current (slot u r)) e) ∙ now)))
          settled (inr is) = is

          empty : (is_bare (slot t p) ≡ true) ⊎ (is_bare (slot t p) ≡ false) → slot t p ≡ bare
          empty (inl is) = bare_is (slot t p) is
          empty (inr filled) =
              let listed = f.index.listed t p filled in
              absurd (no' (subst (λ u. Among r' (places u k)) (sym e) (subst (λ r. Among r (places t k)) (sym e') (subst (λ k. Among p (places t k)) (one_key listed.0 listed.1 ∙ sym e'') listed.1))))

      go : StandsBefore r r' (places u k) ⊎ (Among r (places u k) × (Among r' (places u k) → ⊥) × (u ≡ t) × (r' ≡ p) × (k ≡ key)) → IsOlder (slot' u r) (slot' u r')
      go (inl b) = after (not_here b) (f.aged u k r r' b)
      go (inr n) = fresh n.0 n.1 n.2 n.3 n.4

  -- After the write the session's transaction is the old one with the write entered.
  now_own : transaction_of q wrote ≡ Some (entered place value tr)
  now_own = of-with_own q place value m.open_transactions tr mine

  -- A write leaves the transactions of other sessions.
  now_other : (r : ℕ) → r ≢ q → transaction_of r wrote ≡ transaction_of r m
  now_other r ne = of-with_own-other r q place value m.open_transactions ne

  -- A transaction that the session has after the write is the old one with it entered.
  own_is : (r : ℕ) (tr' : Transaction) → r ≡ q → transaction_of r wrote ≡ Some tr' → entered place value tr ≡ tr'
  own_is r tr' e is = same_Some (entered place value tr) tr' (sym now_own ∙ ap (λ x. transaction_of x wrote) (sym e) ∙ is)

  -- The desk has the machine's transactions after the write.
  keeps_desk : Desked desk wrote
  keeps_desk = record {
    counted = f.desked.counted;
    begun = λ r snapshot some is. begun' r (f.desked.begun r snapshot some is) (same_number r q);
    idle = λ r some is. idle' r (f.desked.idle r some is) (same_number r q);
    bounds = f.desked.bounds;
    one_each = one-with_own q place value m.open_transactions f.desked.one_each;
    own_order = λ r tr' is. order' r tr' is (same_number r q);
    history_order = f.desked.history_order;
    wrote = f.desked.wrote;
  }
    where
      begun' : {n : ℕ} (r : ℕ) → (tr' : Transaction) × (transaction_of r m ≡ Some tr') × (tr'.snapshot ≡ n) × (tr'.session ≡ r) → (r ≡ q) ⊎ (r ≢ q)
          → (tr' : Transaction) × (transaction_of r wrote ≡ Some tr') × (tr'.snapshot ≡ n) × (tr'.session ≡ r)
      begun' r old (inl e) =
          let same : old.0 ≡ tr = same_Some old.0 tr (sym old.1 ∙ ap (λ x. transaction_of x m) e ∙ mine) in
          (entered place value tr, ap (λ x. transaction_of x wrote) e ∙ now_own, ap (λ (x : Transaction). x.snapshot) (sym same) ∙ old.2, ap (λ (x : Transaction). x.session) (sym same) ∙ old.3)
      begun' r old (inr ne) = (old.0, now_other r ne ∙ old.1, old.2, old.3)

      idle' : (r : ℕ) → transaction_of r m ≡ None → (r ≡ q) ⊎ (r ≢ q) → transaction_of r wrote ≡ None
      idle' r none (inl e) = absurd (none_not (transaction_of q m) tr (ap (λ x. transaction_of x m) (sym e) ∙ none) mine)
      idle' r none (inr ne) = now_other r ne ∙ none

      order' : (r : ℕ) (tr' : Transaction) → transaction_of r wrote ≡ Some tr' → (r ≡ q) ⊎ (r ≢ q) → InOrder tr'.own
      order' r tr' is (inl e) = subst (λ (x : Transaction). InOrder x.own) (own_is r tr' e is) (order-insert tr.own place value (f.desked.own_order q tr mine))
      order' r tr' is (inr ne) = f.desked.own_order r tr' (sym (now_other r ne) ∙ is)

  -- what the session's own has at a place after the write
  own_at : (u : ℕ) (k : ℤ) → at_place (entered place value tr).own (place_at u k) ≡ cond (is_place (place_at u k) place) (Some value) (at_place tr.own (place_at u k))
  own_at u k = at-insert tr.own place value (place_at u k)

  -- The own writes of all transactions are the current rows of their slots after the write.
  keeps_own : Own slot' places' wrote
  keeps_own = record {
    writers = λ u r w is. writers' u r w is (apart u t r p);
    written = λ r tr' u k v is at. written' r tr' u k v is at (same_number r q);
  }
    where
      writers' : (u r w : ℕ) → writer_of (slot' u r).entries ≡ Some w → ((u ≡ t) × (r ≡ p)) ⊎ ((u ≡ t) → (r ≡ p) → ⊥)
          → (tr' : Transaction) × (transaction_of w wrote ≡ Some tr') × (k : ℤ) × Among r (places' u k) × (at_place tr'.own (place_at u k) ≡ Some (slot' u r).row)
      writers' u r w is (inl both) =
          let at : slot' u r ≡ written q change (slot t p) = ap (λ u. slot' u r) both.0 ∙ ap (slot' t) both.1 ∙ here in
          let w_is : w ≡ q = same_Some w q (sym is ∙ ap (λ (x : Slot). writer_of x.entries) at) in (
            entered place value tr,
            ap (λ x. transaction_of x wrote) w_is ∙ now_own,
            key,
            subst (λ u. Among r (places' u key)) (sym both.0) (subst (λ r. Among r (places' t key)) (sym both.1) added),
            ap (λ u. at_place (entered place value tr).own (place_at u key)) both.0 ∙ own_at t key ∙ ap (λ b. cond b (Some value) (at_place tr.own place)) (place_self place)
                ∙ ap (λ (x : Slot). Some x.row) (sym at),
          )
      writers' u r w is (inr no') =
          let old = f.own.writers u r w (sym (ap (λ (x : Slot). writer_of x.entries) (others u r no')) ∙ is) in
          go old (same_number w q)
        where
          row_is : (slot' u r).row ≡ (slot u r).row
          row_is = ap (λ (x : Slot). x.row) (others u r no')

          go : ((tr' : Transaction) × (transaction_of w m ≡ Some tr') × (k : ℤ) × Among r (places u k) × (at_place tr'.own (place_at u k) ≡ Some (slot u r).row)) → (w ≡ q) ⊎ (w ≢ q)
              → (tr' : Transaction) × (transaction_of w wrote ≡ Some tr') × (k : ℤ) × Among r (places' u k) × (at_place tr'.own (place_at u k) ≡ Some (slot' u r).row)
          go old (inr ne) = (old.0, now_other w ne ∙ old.1, old.2, kept u r old.2 old.3, old.4 ∙ ap Some (sym row_is))
          go old (inl e) =
              let same : old.0 ≡ tr = same_Some old.0 tr (sym old.1 ∙ ap (λ x. transaction_of x m) e ∙ mine) in
              let wrote_before : writer_of (slot u r).entries ≡ Some w = sym (ap (λ (x : Slot). writer_of x.entries) (others u r no')) ∙ is in
              let differs : is_place (place_at u old.2) place ≡ false = false_from_ne_true (is_place (place_at u old.2) place) (λ s.
              let is' = place_is u t old.2 key s in
              no' is'.0 (alone r (subst (λ k. Among r (places t k)) is'.1 (subst (λ u. Among r (places u old.2)) is'.0 old.3))
              (ap (λ u. is_current (slot u r)) (sym is'.0) ∙ writer_current (slot u r) w wrote_before))) in (
                entered place value tr,
                ap (λ x. transaction_of x wrote) e ∙ now_own,
                old.2,
                kept u r old.2 old.3,
                own_at u old.2 ∙ ap (λ b. cond b (Some value) (at_place tr.own (place_at u old.2))) differs
                    ∙ ap (λ (x : Transaction). at_place x.own (place_at u old.2)) (sym same) ∙ old.4 ∙ ap Some (sym row_is),
              )

      written' : (r : ℕ) (tr' : Transaction) (u : ℕ) (k : ℤ) (v : Option Row) → transaction_of r wrote ≡ Some tr' → at_place tr'.own (place_at u k) ≡ Some v → (r ≡ q) ⊎ (r ≢ q)
          → (x : ℕ) × Among x (places' u k) × (writer_of (slot' u x).entries ≡ Some r)
      written' r tr' u k v is at (inr ne) =
          let old = f.own.written r tr' u k v (sym (now_other r ne) ∙ is) at in (
            old.0,
            kept u old.0 k old.1,
            ap (λ (x : Slot). writer_of x.entries) (others u old.0 (λ a b.
                ne (free r (sym (ap (λ u. writer_of (slot u p).entries) a) ∙ ap (λ x. writer_of (slot u x).entries) (sym b) ∙ old.2)))) ∙ old.2,
          )
      written' r tr' u k v is at (inl e) = go (cases_Bool (is_place (place_at u k) place))
        where
          go : (is_place (place_at u k) place ≡ true) ⊎ (is_place (place_at u k) place ≡ false) → (x : ℕ) × Among x (places' u k) × (writer_of (slot' u x).entries ≡ Some r)
          go (inl s) =
              let is' = place_is u t k key s in (
                p,
                subst (λ u. Among p (places' u k)) (sym is'.0) (subst (λ k. Among p (places' t k)) (sym is'.1) added),
                ap (λ u. writer_of (slot' u p).entries) is'.0 ∙ writes_now ∙ ap Some (sym e),
              )
          go (inr no') =
              let old = f.own.written q tr u k v mine (sym (own_at u k ∙ ap (λ b. cond b (Some value) (at_place tr.own (place_at u k))) no') ∙ ap (λ (x : Transaction). at_place x.own (place_at u k)) (own_is r tr' e is) ∙ at) in
              (old.0, kept u old.0 k old.1, at_slot (λ x u' r'. (u' ≡ u) → (r' ≡ old.0) → writer_of x.entries ≡ Some r) (λ a b. ap Some (sym e)) (λ u' r' a b. ap (λ u. writer_of (slot u r').entries) a ∙ ap (λ r. writer_of (slot u r).entries) b ∙ old.2 ∙ ap Some (sym e)) u old.0 refl refl)

  -- a write keeps what holds between the core and the machine
  pub write_keeps : Follows slot' places' desk wrote
  write_keeps = record {
    slots = at_slot (λ x u r. IsSoundSlot desk.newest desk.commits x) (sound_written q desk.newest desk.commits change (slot t p) pass free (f.slots t p)) f.slots;
    index = keeps_index;
    desked = keeps_desk;
    shows = λ s n live. keeps_shows s (state_at m.history n) (f.shows s n live);
    numbers = λ s n live. keeps_numbers s n (f.numbers s n live);
    current = keeps_current;
    aged = keeps_aged;
    own = keeps_own;
  }
