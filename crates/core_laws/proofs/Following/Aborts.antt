-- An abort keeps what holds between the core and the machine.
use Rattle.std.proofs.Common.{◌≡◌, ◌≢◌, ◌⊎◌, ℕ, ◌≤◌, ℤ, true, false, List, None, Some, is_some, sym, ap, ◌∙◌, subst}
use Rattle.std.proofs.lemmas.Bool.{cases_Bool}
use mathlib.Core.Logic.{inl, inr}
use Rattle.isolation_spec.specs.Contents.{state_at, State}
use Rattle.isolation_spec.specs.Machine.{IsolationMachine, Transaction, transaction_of, without}
use Rattle.txn_desk.specs.Desk.{DeskState}
use Rattle.txn_desk.specs.Oldest.{HasPass, snapshot_of}
use Rattle.txn_desk.specs.declared.Snapshot.{Snapshot}
use Rattle.block_spec.specs.Slots.{Slot, writer_of, rolled_back, seen, is_bare}
use Rattle.event_spec.specs.SlotSound.{IsSoundSlot}
use Rattle.event_spec.specs.Effects.{closed}
use Rattle.event_spec.specs.Lawful.{Among}
use Rattle.event_spec.specs.Follows.{Shows, StandsBefore, Numbers, Index, Own, Desked, Follows, is_current}
use Rattle.core_laws.proofs.Slots.Ages.{older_rolled}
use Rattle.core_laws.proofs.Slots.Endings.{rolled_back_other, seen_rolled, rolled_keyed, rest_of}
use Rattle.core_laws.proofs.Slots.Kept.{same_option, bare_is, shown_filled, number_filled, writer_filled, writer_current, rolled_writer, numbers_rolled, sound_rolled}
use Rattle.core_laws.proofs.Following.Machines.{of-without, of-without-own, one-without}
use Rattle.core_laws.proofs.Following.Desks.{same_number, closed_own, closed_other, live_closed, none_not}

-- a slot with a writer after a roll-back is another's, and as it was
pub rolled_writer_is : (q r newest commits : ℕ) (slot : Slot) → IsSoundSlot newest commits slot → writer_of (rolled_back q slot).entries ≡ Some r → (r ≢ q) × (rolled_back q slot ≡ slot)
rolled_writer_is q r newest commits slot ok w = go (same_option (writer_of slot.entries) q)
  where
    go : (writer_of slot.entries ≡ Some q) ⊎ (writer_of slot.entries ≢ Some q) → (r ≢ q) × (rolled_back q slot ≡ slot)
    go (inl is) = absurd (none_not (writer_of (rest_of q slot.entries)) r (rolled_writer q slot.entries ok.lawful is) w)
    go (inr ne) =
        let same : rolled_back q slot ≡ slot = rolled_back_other q slot ok.lawful ne in
        (λ e. ne (sym (ap (λ (s : Slot). writer_of s.entries) same) ∙ w ∙ ap Some e), same)

-- a slot that is current behind a roll-back was current before it
pub rolled_current : (q newest commits : ℕ) (slot : Slot) → IsSoundSlot newest commits slot → is_current (rolled_back q slot) ≡ true → is_current slot ≡ true
rolled_current q newest commits slot ok is = go (same_option (writer_of slot.entries) q)
  where
    go : (writer_of slot.entries ≡ Some q) ⊎ (writer_of slot.entries ≢ Some q) → is_current slot ≡ true
    go (inl w) = writer_current slot q w
    go (inr ne) = sym (ap is_current (rolled_back_other q slot ok.lawful ne)) ∙ is

-- a bare slot stays so
pub rolled_filled : (q : ℕ) (slot : Slot) → is_bare (rolled_back q slot) ≡ false → is_bare slot ≡ false
rolled_filled q slot is = go (cases_Bool (is_bare slot))
  where
    go : (is_bare slot ≡ true) ⊎ (is_bare slot ≡ false) → is_bare slot ≡ false
    go (inl b) = let same : is_bare (rolled_back q slot) ≡ true = ap (λ s. is_bare (rolled_back q s)) (bare_is slot b) in let never : true ≡ false = sym same ∙ is in cc
    go (inr b) = b

module _ (slot : ℕ → ℕ → Slot) (places left : ℕ → ℤ → List ℕ) (desk : DeskState) (m : IsolationMachine) (f : Follows slot places desk m)
    (q : ℕ) (pass : HasPass desk q)
    (kept : (t p : ℕ) (key : ℤ) → Among p (left t key) → Among p (places t key) × (is_bare (rolled_back q (slot t p)) ≡ false))
    (stays : (t p : ℕ) (key : ℤ) → Among p (places t key) → is_bare (rolled_back q (slot t p)) ≡ false → Among p (left t key))
    (order : (t a b : ℕ) (key : ℤ) → StandsBefore a b (left t key) → StandsBefore a b (places t key)) where
  -- A slot with the session's entries rolled back.
  abbrev rolled : ℕ → ℕ → Slot
  rolled t p = rolled_back q (slot t p)

  -- the transactions of others stay when one ends
  pub ended_other : (r : ℕ) → r ≢ q → transaction_of r (without q m) ≡ transaction_of r m
  ended_other r ne = of-without r q m.open_transactions ne

  -- one whose transaction ended has none
  pub ended_own : transaction_of q (without q m) ≡ None
  ended_own = of-without-own q m.open_transactions

  -- Who has a transaction after the abort is not the session that aborted.
  not_own : (r : ℕ) (tr : Transaction) → transaction_of r (without q m) ≡ Some tr → r ≢ q
  not_own r tr is e = none_not (transaction_of q (without q m)) tr ended_own (ap (λ x. transaction_of x (without q m)) (sym e) ∙ is)

  -- Who has a snapshot after the abort is not the session that aborted.
  not_closed : (r : ℕ) (snapshot : Snapshot) → snapshot_of (closed q desk) r ≡ Some snapshot → r ≢ q
  not_closed r snapshot is e = none_not (snapshot_of (closed q desk) q) snapshot (closed_own q desk pass) (ap (snapshot_of (closed q desk)) (sym e) ∙ is)

  -- The desk without the session's snapshot has the transactions of the machine after the abort.
  keeps_desk : Desked (closed q desk) (without q m)
  keeps_desk = record {
    counted = f.desked.counted;
    begun = λ r snapshot some is.
        let ne = not_closed r snapshot is in
        let old = f.desked.begun r snapshot some (sym (closed_other q r desk pass.0 some ne) ∙ is) in (old.0, ended_other r ne ∙ old.1, old.2, old.3);
    idle = λ r some is. idle' r some is (same_number r q);
    bounds = λ r snapshot some is. f.desked.bounds r snapshot some (sym (closed_other q r desk pass.0 some (not_closed r snapshot is)) ∙ is);
    one_each = one-without q m.open_transactions f.desked.one_each;
    own_order = λ r tr is. f.desked.own_order r tr (sym (ended_other r (not_own r tr is)) ∙ is);
    history_order = f.desked.history_order;
    wrote = f.desked.wrote;
  }
    where
      idle' : (r : ℕ) → 1 ≤ r → snapshot_of (closed q desk) r ≡ None → (r ≡ q) ⊎ (r ≢ q) → transaction_of r (without q m) ≡ None
      idle' r some is (inl e) = ap (λ x. transaction_of x (without q m)) e ∙ ended_own
      idle' r some is (inr ne) = ended_other r ne ∙ f.desked.idle r some (sym (closed_other q r desk pass.0 some ne) ∙ is)

  -- A roll-back leaves what nobody's session sees of a slot.
  same_view : (t p s : ℕ) → seen (rolled t p) s 0 ≡ seen (slot t p) s 0
  same_view t p s = seen_rolled q (slot t p).row (slot t p).entries s pass.0 (f.slots t p).lawful

  -- The slots show at each stamp after the roll-back what they showed before it.
  keeps_shows : (stamp : ℕ) (rows : State) → Shows slot places stamp rows → Shows rolled left stamp rows
  keeps_shows stamp rows old = record {
    there = λ t p row is. old.there t p row (sym (same_view t p stamp) ∙ is);
    all = λ t key row is.
        let found = old.all t key row is in
        let here : seen (rolled t found.0) stamp 0 ≡ Some row = same_view t found.0 stamp ∙ found.2 in
        (found.0, stays t found.0 key found.1 (shown_filled (rolled t found.0) stamp 0 (ap is_some here)), here);
    once = λ t key p p' a a' is is'. old.once t key p p' (kept t p key a).0 (kept t p' key a').0 (ap is_some (sym (same_view t p stamp)) ∙ is) (ap is_some (sym (same_view t p' stamp)) ∙ is');
  }

  -- The numbers above a snapshot agree with the history after the roll-back as before.
  keeps_numbers : (stamp number : ℕ) → Numbers slot places stamp number m.history → Numbers rolled left stamp number m.history
  keeps_numbers stamp number old = record {
    below = λ t key p k a n. old.below t key p k (kept t p key a).0 (subst (Among k) (numbers_rolled q stamp (slot t p).entries) n);
    last = λ t key last is.
        let found = old.last t key last is in
        let here = subst (Among last) (sym (numbers_rolled q stamp (slot t found.0).entries)) found.2 in
        (found.0, stays t found.0 key found.1 (number_filled (rolled t found.0) stamp last here), here);
  }

  -- The index that is left is right for the slots that were rolled back.
  keeps_index : Index rolled left
  keeps_index = record {
    keyed = λ t p key a. rolled_keyed key q (slot t p).row (slot t p).entries (f.slots t p).lawful (f.index.keyed t p key (kept t p key a).0);
    filled = λ t p key a. (kept t p key a).1;
    listed = λ t p is. let old = f.index.listed t p (rolled_filled q (slot t p) is) in (old.0, stays t p old.0 old.1 is);
    one_key = λ t p key other a b. f.index.one_key t p key other (kept t p key a).0 (kept t p other b).0;
  }

  -- The other transactions' own writes are the current rows of their slots after the roll-back.
  keeps_own : Own rolled left (without q m)
  keeps_own = record {
    writers = λ t p r w.
        let is = rolled_writer_is q r desk.newest desk.commits (slot t p) (f.slots t p) w in
        let old = f.own.writers t p r (sym (ap (λ (s : Slot). writer_of s.entries) is.1) ∙ w) in
        (old.0, ended_other r is.0 ∙ old.1, old.2, stays t p old.2 old.3 (writer_filled (rolled t p) r w), old.4 ∙ ap (λ (s : Slot). Some s.row) (sym is.1));
    written = λ r tr t key value is at.
        let ne = not_own r tr is in
        let old = f.own.written r tr t key value (sym (ended_other r ne) ∙ is) at in
        let same : rolled t old.0 ≡ slot t old.0 = rolled_back_other q (slot t old.0) (f.slots t old.0).lawful (λ w. ne (some_same r q (sym old.2 ∙ w))) in
        let w : writer_of (rolled t old.0).entries ≡ Some r = ap (λ (s : Slot). writer_of s.entries) same ∙ old.2 in
        (old.0, stays t old.0 key old.1 (writer_filled (rolled t old.0) r w), w);
  }
    where
      some_same : (a b : ℕ) → Some a ≡ Some b → a ≡ b
      some_same a b e = cc

  -- an abort keeps what holds between the core and the machine
  pub abort_keeps : Follows rolled left (closed q desk) (without q m)
  abort_keeps = record {
    slots = λ t p. sound_rolled q desk.newest desk.commits (slot t p) (f.slots t p);
    index = keeps_index;
    desked = keeps_desk;
    shows = λ stamp number live. keeps_shows stamp (state_at m.history number) (f.shows stamp number (live_closed q desk stamp number pass live));
    numbers = λ stamp number live. keeps_numbers stamp number (f.numbers stamp number (live_closed q desk stamp number pass live));
    current = λ t key p p' a a' is is'. f.current t key p p' (kept t p key a).0 (kept t p' key a').0
        (rolled_current q desk.newest desk.commits (slot t p) (f.slots t p) is) (rolled_current q desk.newest desk.commits (slot t p') (f.slots t p') is');
    own = keeps_own;
    aged = λ t key a b x. older_rolled q desk.newest desk.commits (slot t a) (slot t b) (f.slots t a) (f.aged t key a b (order t a b key x));
  }
