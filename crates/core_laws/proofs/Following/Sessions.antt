-- What a session with an open transaction has of the machine, and what its writes meet.
use Rattle.std.proofs.Common.{◌≡◌, ◌≢◌, ◌⊎◌, ℕ, ℤ, Bool, true, false, not, ◌&&◌, ◌==◌, List, Option, None, Some, option_map, is_some, refl, sym, ap, ◌∙◌, arith, subst}
use mathlib.Core.Logic.{inl, inr}
use Rattle.std.specs.Prelude.{find}
use Rattle.std.specs.List.{flat_map}
use Rattle.std.specs.Option.{option_or}
use Rattle.std.proofs.lemmas.Bool.Decides.{nat_tests}
use Rattle.std.proofs.lemmas.Option.{same_Some}
use Rattle.isolation_spec.specs.Contents.{at_place, place_at, key_of, state_at}
use Rattle.isolation_spec.specs.Machine.{IsolationMachine, Transaction, transaction_of, seen_rows, rival_of, writes_place, conflict_of}
use Rattle.isolation_spec.specs.declared.place.Place.{Place}
use Rattle.isolation_spec.specs.declared.command.Answer.{Answer}
use Rattle.txn_desk.specs.Desk.{DeskState}
use Rattle.undo_chain.specs.Conflict.{other_writer, numbers_above, largest}
use Rattle.core_laws.proofs.Following.Machines.{last_behind, of, found_session}
use Rattle.isolation_laws.proofs.States.{any, state-order}
use Rattle.block_spec.specs.Slots.{Slot, Row, writer_of, seen}
use Rattle.core_laws.proofs.Slots.Keys.{HasKey}
use Rattle.core_laws.specs.Following.Owned.{HasOpen}
use Rattle.txn_desk.specs.declared.Snapshot.{Snapshot}
use Rattle.event_spec.specs.Judged.{first_at}
use Rattle.event_spec.specs.Lawful.{Among}
use Rattle.event_spec.specs.Follows.{IsLive, Shows, Numbers, Follows}
use Rattle.isolation_laws.proofs.Overlays.{at-laid_over, over}
use Rattle.isolation_spec.specs.Order.{InOrder}
use Rattle.core_laws.proofs.Slots.Endings.{seen_keyed}
use Rattle.core_laws.proofs.Slots.Kept.{same_option, writer_current}
use Rattle.core_laws.proofs.Following.Desks.{none_not}
use Rattle.core_laws.proofs.Following.Firsts.{first_none, first_is, largest_is, largest_none, among_flat, flat_among, other_is, other_none, find_among, find_some, of_among}
use Rattle.isolation_spec.specs.declared.command.Answer.TheVariants as answer

-- True and false are never the same.
true_false : true ≡ false → ⊥
true_false e = cc

-- there is nothing, or something
pub option_cases : {X : Type 0} (a : Option X) → (a ≡ None) ⊎ ((value : X) × (a ≡ Some value))
option_cases None = inl refl
option_cases (Some v) = inr (v, refl)

-- where nothing can be there, nothing is
pub none_from : {X : Type 0} (a : Option X) → ((value : X) → a ≡ Some value → ⊥) → a ≡ None
none_from None no' = refl
none_from (Some v) no' = absurd (no' v refl)

-- what a conflict is answered
abbrev pub answer_of : Option ℕ → Option ℕ → Option Answer
answer_of rival number = option_or (option_map (λ w. answer.ConflictSession w) rival) (option_map (λ k. answer.ConflictCommit k) number)

module _ (slot : ℕ → ℕ → Slot) (places : ℕ → ℤ → List ℕ) (desk : DeskState) (m : IsolationMachine) (f : Follows slot places desk m)
    (q : ℕ) (snapshot : Snapshot) (has : HasOpen desk q snapshot) where
  -- the machine's transaction
  pub tr : Transaction
  tr = (f.desked.begun q snapshot has.counted has.is_open).0

  -- the session's transaction of the machine is this one
  pub mine : transaction_of q m ≡ Some tr
  unfolding tr
  mine = (f.desked.begun q snapshot has.counted has.is_open).1

  -- its snapshot is that of the session's snapshot of the desk, by number
  pub at_number : tr.snapshot ≡ snapshot.number
  unfolding tr
  at_number = (f.desked.begun q snapshot has.counted has.is_open).2

  -- it is the session's
  pub of_session : tr.session ≡ q
  unfolding tr
  of_session = (f.desked.begun q snapshot has.counted has.is_open).3

  -- the session's snapshot is live
  pub live : IsLive desk snapshot.stamp snapshot.number
  live = inr (q, has.counted, has.is_open)

  -- at its snapshot the slots show the state of its number
  abbrev pub before : Shows slot places snapshot.stamp (state_at m.history snapshot.number)
  before = f.shows snapshot.stamp snapshot.number live

  -- what the session's slots have is in the machine's own writes
  pub wrote_here : (t p : ℕ) (key : ℤ) → Among p (places t key) → writer_of (slot t p).entries ≡ Some q → at_place tr.own (place_at t key) ≡ Some (slot t p).row
  wrote_here t p key a w =
      let old = f.own.writers t p q w in
      let k : old.2 ≡ key = f.index.one_key t p old.2 key old.3 a in
      sym (ap (λ (x : Transaction). at_place x.own (place_at t key)) (same_Some old.0 tr (sym old.1 ∙ mine))) ∙ ap (λ k. at_place old.0.own (place_at t k)) (sym k) ∙ old.4

  -- the session sees what it wrote at a place, and else what its snapshot has there
  pub at_seen : (place : Place) → at_place (seen_rows m tr) place ≡ over (at_place tr.own place) (at_place (state_at m.history tr.snapshot) place)
  at_seen place = (at-laid_over (state_at m.history tr.snapshot) tr.own place (state-order m.history tr.snapshot f.desked.history_order) (f.desked.own_order q tr mine)).0

  -- what it sees stands in order
  pub seen_order : InOrder (seen_rows m tr)
  seen_order = (at-laid_over (state_at m.history tr.snapshot) tr.own any (state-order m.history tr.snapshot f.desked.history_order) (f.desked.own_order q tr mine)).1

  -- a row that a candidate of a key shows has this key
  pub key_shown : (t p : ℕ) (key : ℤ) (s r : ℕ) (row : Row) → Among p (places t key) → seen (slot t p) s r ≡ Some row → key_of row ≡ key
  key_shown t p key s r row a is = subst (HasKey key) is (seen_keyed key (slot t p).row (slot t p).entries s r (f.index.keyed t p key a))

  -- ---- conflicts

  -- another session's transaction wrote the place
  abbrev pub rival_test : Place → Transaction → Bool
  rival_test place u = not (u.session == q) && writes_place place u.own

  -- a transaction that the machine names as a rival wrote one of the key's slots
  rival_slot : (t : ℕ) (key : ℤ) (u : Transaction) → find (rival_test (place_at t key)) m.open_transactions ≡ Some u
      → (p : ℕ) × Among p (places t key) × (writer_of (slot t p).entries ≡ Some u.session) × (u.session ≢ q)
  rival_slot t key u is =
      let among = find_among (rival_test (place_at t key)) m.open_transactions u is in
      let open' : transaction_of u.session m ≡ Some u = of_among m.open_transactions u f.desked.one_each among.0 in
      let parts = both (u.session == q) (writes_place (place_at t key) u.own) among.1 in
      let wrote = some_of (at_place u.own (place_at t key)) parts.1 in
      let w = f.own.written u.session u t key wrote.0 open' wrote.1 in
      (w.0, w.1, w.2, λ e. true_false (sym (same u.session q e) ∙ parts.0))
    where
      both : (a b : Bool) → (not a && b) ≡ true → (a ≡ false) × (b ≡ true)
      both true b e = cc
      both false b e = (refl, e)

      same : (a b : ℕ) → a ≡ b → (a == b) ≡ true
      same a b e = grind (arith, nat_tests)

      some_of : {X : Type 0} (a : Option X) → is_some a ≡ true → (x : X) × (a ≡ Some x)
      some_of None e = cc
      some_of (Some x) e = (x, refl)

  -- and who wrote one of them is a rival
  pub slot_rival : (t p : ℕ) (key : ℤ) (w : ℕ) → Among p (places t key) → writer_of (slot t p).entries ≡ Some w → w ≢ q
      → option_map (λ (u : Transaction). u.session) (find (rival_test (place_at t key)) m.open_transactions) ≡ Some w
  slot_rival t p key w a is ne =
      let old = f.own.writers t p w is in
      let k : old.2 ≡ key = f.index.one_key t p old.2 key old.3 a in
      let session : old.0.session ≡ w = found_session w m.open_transactions old.0 old.1 in
      let test : rival_test (place_at t key) old.0 ≡ true =
      two (old.0.session == q) (writes_place (place_at t key) old.0.own) (apart old.0.session q (λ e. ne (sym session ∙ e)))
      (ap is_some (ap (λ k. at_place old.0.own (place_at t k)) (sym k) ∙ old.4)) in
      go (find (rival_test (place_at t key)) m.open_transactions) refl
      (find_some (rival_test (place_at t key)) m.open_transactions old.0 (among_of m.open_transactions w old.0 old.1) test)
    where
      two : (a b : Bool) → a ≡ false → b ≡ true → (not a && b) ≡ true
      two true b x y = cc
      two false b x y = y

      apart : (a b : ℕ) → a ≢ b → (a == b) ≡ false
      apart a b n = grind (arith, nat_tests)

      among_of : (ts : List Transaction) (w : ℕ) (u : Transaction) → of w ts ≡ Some u → Among u ts
      among_of ts w u is = (find_among (λ t. t.session == w) ts u is).0

      go : (found : Option Transaction) → find (rival_test (place_at t key)) m.open_transactions ≡ found → is_some (find (rival_test (place_at t key)) m.open_transactions) ≡ true
          → option_map (λ (u : Transaction). u.session) (find (rival_test (place_at t key)) m.open_transactions) ≡ Some w
      go None e some = absurd (true_false (sym some ∙ ap is_some e))
      go (Some u) e some =
          let r = rival_slot t key u e in
          let same : r.0 ≡ p = f.current t key r.0 p r.1 a (writer_current (slot t r.0) u.session r.2) (writer_current (slot t p) w is) in
          ap (option_map (λ (u : Transaction). u.session)) e
          ∙ sym r.2 ∙ ap (λ x. writer_of (slot t x).entries) same ∙ is

  -- the first other writer of the key's slots is the machine's rival
  pub rival_is : (t : ℕ) (key : ℤ) → first_at (λ p. other_writer (slot t p).entries q) (places t key)
      ≡ option_map (λ (u : Transaction). u.session) (rival_of m q (place_at t key))
  rival_is t key = go (rival_of m q (place_at t key)) refl
    where
      go : (found : Option Transaction) → rival_of m q (place_at t key) ≡ found → first_at (λ p. other_writer (slot t p).entries q) (places t key) ≡ option_map (λ (u : Transaction). u.session) (rival_of m q (place_at t key))
      go None e =
          first_none (λ p. other_writer (slot t p).entries q) (places t key) (λ p a. other_none (slot t p).entries q (f.slots t p).lawful (λ w is. mine_or w (same_option (Some w) q) p a is))
          ∙ ap (option_map (λ (u : Transaction). u.session)) (sym e)
        where
          mine_or : (w : ℕ) → (Some w ≡ Some q) ⊎ (Some w ≢ Some q) → (p : ℕ) → Among p (places t key) → writer_of (slot t p).entries ≡ Some w → w ≡ q
          mine_or w (inl s) p a is = same_Some w q s
          mine_or w (inr ne) p a is = absurd (none_not (option_map (λ (u : Transaction). u.session) (rival_of m q (place_at t key))) w (ap (option_map (λ (u : Transaction). u.session)) e) (slot_rival t p key w a is (λ s. ne (ap Some s))))
      go (Some u) e =
          let r = rival_slot t key u e in
          first_is (λ p. other_writer (slot t p).entries q) (places t key) r.0 u.session r.1 (other_is (slot t r.0).entries u.session q (f.slots t r.0).lawful r.2 r.3)
          (λ p' y a is. once p' y a is r (option_cases (writer_of (slot t p').entries)))
          ∙ ap (option_map (λ (u : Transaction). u.session)) (sym e)
        where
          once : (p' y : ℕ) → Among p' (places t key) → other_writer (slot t p').entries q ≡ Some y
              → ((p : ℕ) × Among p (places t key) × (writer_of (slot t p).entries ≡ Some u.session) × (u.session ≢ q))
              → (writer_of (slot t p').entries ≡ None) ⊎ ((w : ℕ) × (writer_of (slot t p').entries ≡ Some w)) → y ≡ u.session
          once p' y a is r (inl none) = absurd (none_not (other_writer (slot t p').entries q) y (other_none (slot t p').entries q (f.slots t p').lawful (λ w e'. absurd (none_not (writer_of (slot t p').entries) w none e'))) is)
          once p' y a is r (inr some) =
              let same : p' ≡ r.0 = f.current t key p' r.0 a r.1 (writer_current (slot t p') some.0 some.1) (writer_current (slot t r.0) u.session r.2) in
              let w : writer_of (slot t p').entries ≡ Some u.session = ap (λ x. writer_of (slot t x).entries) same ∙ r.2 in
              same_Some y u.session (sym is ∙ other_is (slot t p').entries u.session q (f.slots t p').lawful w r.3)

  -- the largest number of the key's slots above the snapshot is the last commit that wrote it
  pub number_is : (t : ℕ) (key : ℤ) → largest (flat_map (λ p. numbers_above (slot t p).entries snapshot.stamp) (places t key))
      ≡ last_behind (place_at t key) snapshot.number m.history
  number_is t key = go (option_cases (last_behind (place_at t key) snapshot.number m.history))
    where
      n : Numbers slot places snapshot.stamp snapshot.number m.history
      n = f.numbers snapshot.stamp snapshot.number live

      go : (last_behind (place_at t key) snapshot.number m.history ≡ None)
          ⊎ ((last : ℕ) × (last_behind (place_at t key) snapshot.number m.history ≡ Some last))
          → largest (flat_map (λ p. numbers_above (slot t p).entries snapshot.stamp) (places t key)) ≡ last_behind (place_at t key) snapshot.number m.history
      go (inl none) =
          largest_none (flat_map (λ p. numbers_above (slot t p).entries snapshot.stamp) (places t key)) (λ k a.
          let r = among_flat (λ p. numbers_above (slot t p).entries snapshot.stamp) (places t key) k a in
          let b = n.below t key r.0 k r.1 r.2 in
          none_not (last_behind (place_at t key) snapshot.number m.history) b.0 none b.1)
          ∙ sym none
      go (inr some) =
          let l = n.last t key some.0 some.1 in
          largest_is (flat_map (λ p. numbers_above (slot t p).entries snapshot.stamp) (places t key)) some.0
          (flat_among (λ p. numbers_above (slot t p).entries snapshot.stamp) (places t key) l.0 some.0 l.1 l.2)
          (λ k a.
          let r = among_flat (λ p. numbers_above (slot t p).entries snapshot.stamp) (places t key) k a in
          let b = n.below t key r.0 k r.1 r.2 in
          let same : b.0 ≡ some.0 = same_Some b.0 some.0 (sym b.1 ∙ some.1) in
          let le = b.2 in omega (arith, same, le))
          ∙ sym some.1

  -- A rival is answered alike by its session's number and by its transaction.
  session_answer : (found : Option Transaction) → option_map (λ w. answer.ConflictSession w) (option_map (λ (u : Transaction). u.session) found) ≡ option_map (λ (rival : Transaction). answer.ConflictSession rival.session) found
  session_answer None = refl
  session_answer (Some u) = refl

  -- What its write of a key meets is the machine's conflict.
  pub conflict_is : (t : ℕ) (key : ℤ) → answer_of (first_at (λ p. other_writer (slot t p).entries q) (places t key)) (largest (flat_map (λ p. numbers_above (slot t p).entries snapshot.stamp) (places t key)))
      ≡ conflict_of m tr (place_at t key)
  conflict_is t key =
      ap (λ a. answer_of a (largest (flat_map (λ p. numbers_above (slot t p).entries snapshot.stamp) (places t key)))) (rival_is t key)
      ∙ ap (answer_of (option_map (λ (u : Transaction). u.session) (rival_of m q (place_at t key)))) (number_is t key)
      ∙ ap (λ n. answer_of (option_map (λ (u : Transaction). u.session) (rival_of m q (place_at t key))) (last_behind (place_at t key) n m.history)) (sym at_number)
      ∙ ap (λ s. answer_of (option_map (λ (u : Transaction). u.session) (rival_of m s (place_at t key))) (last_behind (place_at t key) tr.snapshot m.history)) (sym of_session)
      ∙ ap (λ a. option_or a (option_map (λ k. answer.ConflictCommit k) (last_behind (place_at t key) tr.snapshot m.history))) (session_answer (rival_of m tr.session (place_at t key)))
