-- A begin keeps what holds between the core and the machine.
use Rattle.std.proofs.Common.{◌≡◌, ◌≢◌, ◌⊎◌, ℕ, ◌≤◌, ℤ, List, [], ◌∷◌, ◌++◌, Option, None, Some, length, sym, ap, ◌∙◌, arith, subst}
use mathlib.Core.Logic.{inl, inr}
use Rattle.isolation_spec.specs.Contents.{at_place, place_at}
use Rattle.isolation_spec.specs.Machine.{IsolationMachine, Transaction, transaction_of}
use Rattle.txn_desk.specs.Desk.{DeskState}
use Rattle.txn_desk.specs.Oldest.{HasPass, snapshot_of}
use Rattle.txn_desk.specs.declared.Snapshot.{Snapshot}
use Rattle.block_spec.specs.Slots.{Slot, Row, writer_of}
use Rattle.event_spec.specs.Effects.{opened}
use Rattle.event_spec.specs.Follows.{Own, Desked, Follows}
use Rattle.isolation_spec.specs.Order.{InOrder}
use Rattle.event_spec.specs.Lawful.{Among}
use Rattle.core_laws.proofs.Following.Machines.{of-append-other, of-append-new, one-append}
use Rattle.core_laws.proofs.Following.Desks.{same_number, opened_own, opened_other, live_opened, none_not, some_is}

-- the transaction that a begin opens
abbrev pub new_of : IsolationMachine → ℕ → Transaction
new_of m q = record { session = q; snapshot = length m.history; own = [] }

-- the machine with the transaction that a begin opens
abbrev pub begun_machine : IsolationMachine → ℕ → IsolationMachine
begun_machine m q = record m { open_transactions = m.open_transactions ++ new_of m q ∷ [] }

module _ (slot : ℕ → ℕ → Slot) (places : ℕ → ℤ → List ℕ) (desk : DeskState) (m : IsolationMachine) (f : Follows slot places desk m)
    (q : ℕ) (pass : HasPass desk q) (idle : snapshot_of desk q ≡ None) where
  -- A session without a snapshot has no transaction of the machine.
  none : transaction_of q m ≡ None
  none = f.desked.idle q pass.0 idle

  -- A begin leaves the transactions of other sessions.
  other : (r : ℕ) → r ≢ q → transaction_of r (begun_machine m q) ≡ transaction_of r m
  other r ne = of-append-other r m.open_transactions (new_of m q) (λ e. ne (sym e))

  -- After its begin a session has the transaction that was opened.
  own_new : transaction_of q (begun_machine m q) ≡ Some (new_of m q)
  unfolding none
  own_new = of-append-new m.open_transactions (new_of m q) none

  -- The desk with the new snapshot has the transactions of the machine after the begin.
  keeps_desk : Desked (opened q desk) (begun_machine m q)
  keeps_desk = record {
    counted = f.desked.counted;
    begun = λ r snapshot some is. begun' r snapshot some is (same_number r q);
    idle = λ r some is. idle' r some is (same_number r q);
    bounds = λ r snapshot some is. bounds' r snapshot some is (same_number r q);
    one_each = one-append m.open_transactions (new_of m q) f.desked.one_each none;
    own_order = λ r tr is. order' r tr is (same_number r q);
    history_order = f.desked.history_order;
    wrote = f.desked.wrote;
  }
    where
      first : (r : ℕ) (snapshot : Snapshot) → r ≡ q → snapshot_of (opened q desk) r ≡ Some snapshot → record { stamp = desk.newest; number = desk.commits } ≡ snapshot
      first r snapshot e is = some_is (record { stamp = desk.newest; number = desk.commits }) snapshot (sym (opened_own q desk pass) ∙ ap (snapshot_of (opened q desk)) (sym e) ∙ is)

      begun' : (r : ℕ) (snapshot : Snapshot) → 1 ≤ r → snapshot_of (opened q desk) r ≡ Some snapshot → (r ≡ q) ⊎ (r ≢ q)
          → (tr : Transaction) × (transaction_of r (begun_machine m q) ≡ Some tr) × (tr.snapshot ≡ snapshot.number) × (tr.session ≡ r)
      begun' r snapshot some is (inl e) =
          (new_of m q, ap (λ x. transaction_of x (begun_machine m q)) e ∙ own_new, f.desked.counted ∙ ap (λ (s : Snapshot). s.number) (first r snapshot e is), sym e)
      begun' r snapshot some is (inr ne) =
          let old = f.desked.begun r snapshot some (sym (opened_other q r desk pass.0 some ne) ∙ is) in (old.0, other r ne ∙ old.1, old.2, old.3)

      idle' : (r : ℕ) → 1 ≤ r → snapshot_of (opened q desk) r ≡ None → (r ≡ q) ⊎ (r ≢ q) → transaction_of r (begun_machine m q) ≡ None
      idle' r some is (inl e) = absurd (none_not (snapshot_of (opened q desk) q) (record { stamp = desk.newest; number = desk.commits }) (ap (snapshot_of (opened q desk)) (sym e) ∙ is) (opened_own q desk pass))
      idle' r some is (inr ne) = other r ne ∙ f.desked.idle r some (sym (opened_other q r desk pass.0 some ne) ∙ is)

      bounds' : (r : ℕ) (snapshot : Snapshot) → 1 ≤ r → snapshot_of (opened q desk) r ≡ Some snapshot → (r ≡ q) ⊎ (r ≢ q) → (snapshot.stamp ≤ desk.newest) × (snapshot.number ≤ desk.commits)
      bounds' r snapshot some is (inl e) = subst (λ (s : Snapshot). (s.stamp ≤ desk.newest) × (s.number ≤ desk.commits)) (first r snapshot e is) (omega arith, omega arith)
      bounds' r snapshot some is (inr ne) = f.desked.bounds r snapshot some (sym (opened_other q r desk pass.0 some ne) ∙ is)

      order' : (r : ℕ) (tr : Transaction) → transaction_of r (begun_machine m q) ≡ Some tr → (r ≡ q) ⊎ (r ≢ q) → InOrder tr.own
      order' r tr is (inl e) = let new : Some (new_of m q) ≡ Some tr = sym own_new ∙ ap (λ x. transaction_of x (begun_machine m q)) (sym e) ∙ is in let t : new_of m q ≡ tr = cc in subst (λ (t : Transaction). InOrder t.own) t tt
      order' r tr is (inr ne) = f.desked.own_order r tr (sym (other r ne) ∙ is)

  -- After a begin the own writes of all transactions are the current rows of their slots.
  keeps_own : Own slot places (begun_machine m q)
  keeps_own = record {
    writers = λ t p r w. writers' t p r w (same_number r q);
    written = λ r tr t key value is at. written' r tr t key value is at (same_number r q);
  }
    where
      writers' : (t p r : ℕ) → writer_of (slot t p).entries ≡ Some r → (r ≡ q) ⊎ (r ≢ q)
          → (tr : Transaction) × (transaction_of r (begun_machine m q) ≡ Some tr) × (key : ℤ) × Among p (places t key) × (at_place tr.own (place_at t key) ≡ Some (slot t p).row)
      writers' t p r w (inl e) = let old = f.own.writers t p r w in absurd (none_not (transaction_of q m) old.0 none (ap (λ x. transaction_of x m) (sym e) ∙ old.1))
      writers' t p r w (inr ne) = let old = f.own.writers t p r w in (old.0, other r ne ∙ old.1, old.2, old.3, old.4)

      written' : (r : ℕ) (tr : Transaction) (t : ℕ) (key : ℤ) (value : Option Row) → transaction_of r (begun_machine m q) ≡ Some tr → at_place tr.own (place_at t key) ≡ Some value → (r ≡ q) ⊎ (r ≢ q)
          → (p : ℕ) × Among p (places t key) × (writer_of (slot t p).entries ≡ Some r)
      written' r tr t key value is at (inl e) =
          let new : Some (new_of m q) ≡ Some tr = sym own_new ∙ ap (λ x. transaction_of x (begun_machine m q)) (sym e) ∙ is in
          let same : new_of m q ≡ tr = cc in
          let never : None ≡ Some value = ap (λ (t' : Transaction). at_place t'.own (place_at t key)) same ∙ at in absurd (cc)
      written' r tr t key value is at (inr ne) = f.own.written r tr t key value (sym (other r ne) ∙ is) at

  -- a begin keeps what holds between the core and the machine
  pub begin_keeps : Follows slot places (opened q desk) (begun_machine m q)
  begin_keeps = record {
    slots = f.slots;
    index = f.index;
    desked = keeps_desk;
    shows = λ stamp number live. f.shows stamp number (live_opened q desk stamp number pass live);
    numbers = λ stamp number live. f.numbers stamp number (live_opened q desk stamp number pass live);
    current = f.current;
    own = keeps_own;
    aged = f.aged;
  }
