-- Where the machine accepts a write: which slot the core writes, and that it may.
use Rattle.std.proofs.Common.{◌≡◌, ◌≢◌, ◌⊎◌, ℕ, ℤ, Bool, true, false, cond, ◌||◌, List, Option, None, Some, option_map, is_some, refl, sym, ap, ◌∙◌, arith, subst}
use mathlib.Core.Logic.{inl, inr}
use Rattle.std.specs.Option.{option_or}
use Rattle.std.proofs.lemmas.Option.{same_Some}
use Rattle.std.proofs.lemmas.Bool.{or_left}
use Rattle.isolation_spec.specs.Contents.{at_place, place_at, key_of, state_at}
use Rattle.isolation_spec.specs.Machine.{IsolationMachine, Transaction, conflict_of, rival_of}
use Rattle.txn_desk.specs.Desk.{DeskState}
use Rattle.core_laws.proofs.Following.Machines.{last_behind, state-stays}
use Rattle.block_spec.specs.Slots.{Slot, Row, writer_of, seen}
use Rattle.core_laws.proofs.Slots.Keys.{HasKey}
use Rattle.core_laws.specs.Following.Owned.{HasOpen, OwnSlot, own_key}
use Rattle.txn_desk.specs.declared.Snapshot.{Snapshot}
use Rattle.event_spec.specs.Judged.{found_at, current_place}
use Rattle.event_spec.specs.Lawful.{Among}
use Rattle.event_spec.specs.Follows.{Shows, Follows, is_current}
use Rattle.core_laws.proofs.Slots.Views.{seen_settled, seen_writer}
use Rattle.core_laws.proofs.Slots.Endings.{keyed_row}
use Rattle.core_laws.proofs.Following.Desks.{none_not}
use Rattle.core_laws.proofs.Following.Firsts.{first_is}
use Rattle.core_laws.proofs.Following.Finds.{shown_is}
use Rattle.core_laws.proofs.Following.Sessions.{option_cases, none_from, tr, at_number, of_session, slot_rival}
use Rattle.isolation_spec.specs.declared.command.Answer.TheVariants as answer

module _ (slot : ℕ → ℕ → Slot) (places : ℕ → ℤ → List ℕ) (desk : DeskState) (m : IsolationMachine) (f : Follows slot places desk m)
    (q : ℕ) (snapshot : Snapshot) (has : HasOpen desk q snapshot)
    (t : ℕ) (key : ℤ) (written : Option ℕ) (mine_at : OwnSlot slot places q t key written)
    (clear : conflict_of m (tr slot places desk m f q snapshot has) (place_at t key) ≡ None) where
  -- The machine's transaction of this session.
  abbrev mine_tr : Transaction
  mine_tr = tr slot places desk m f q snapshot has

  -- Without a conflict there is no rival, and no later commit that wrote the place.
  parts : (rival_of m mine_tr.session (place_at t key) ≡ None) × (last_behind (place_at t key) mine_tr.snapshot m.history ≡ None)
  parts = go (rival_of m mine_tr.session (place_at t key)) (last_behind (place_at t key) mine_tr.snapshot m.history) refl refl clear
    where
      go : (a : Option Transaction) (b : Option ℕ) → rival_of m mine_tr.session (place_at t key) ≡ a → last_behind (place_at t key) mine_tr.snapshot m.history ≡ b
          → option_or (option_map (λ (rival : Transaction). answer.ConflictSession rival.session) a) (option_map (λ k. answer.ConflictCommit k) b) ≡ None
          → (rival_of m mine_tr.session (place_at t key) ≡ None) × (last_behind (place_at t key) mine_tr.snapshot m.history ≡ None)
      go None None a b e = (a, b)
      go (Some u) b x y e = cc
      go None (Some k) x y e = cc

  -- no other session's entry stands at the key's slots
  pub no_rival : (p w : ℕ) → Among p (places t key) → writer_of (slot t p).entries ≡ Some w → w ≡ q
  unfolding parts
  no_rival p w a is = go (same w q)
    where
      same : (a b : ℕ) → (a ≡ b) ⊎ (a ≢ b)
      same a b = Rattle.core_laws.proofs.Following.Desks.same_number a b

      go : (w ≡ q) ⊎ (w ≢ q) → w ≡ q
      go (inl e) = e
      go (inr ne) = absurd (none_not (option_map (λ (u : Transaction). u.session) (rival_of m q (place_at t key))) w
          (ap (option_map (λ (u : Transaction). u.session)) (ap (λ s. rival_of m s (place_at t key)) (sym (of_session slot places desk m f q snapshot has)) ∙ parts.0))
          (slot_rival slot places desk m f q snapshot has t p key w a is ne))

  -- what the newest state has is what the snapshot has
  newest_is : at_place (state_at m.history desk.commits) (place_at t key) ≡ at_place (state_at m.history snapshot.number) (place_at t key)
  unfolding parts
  newest_is =
      ap (λ n. at_place (state_at m.history n) (place_at t key)) (sym f.desked.counted)
      ∙ state-stays (place_at t key) m.history mine_tr.snapshot f.desked.history_order parts.1
      ∙ ap (λ n. at_place (state_at m.history n) (place_at t key)) (at_number slot places desk m f q snapshot has)

  -- At the newest stamp the slots show the state after all commits.
  newest : Shows slot places desk.newest (state_at m.history desk.commits)
  newest = f.shows desk.newest desk.commits (inl (refl, refl))

  -- a slot of the key that the session did not write has no writer
  no_writer : (p : ℕ) → written ≡ None → Among p (places t key) → writer_of (slot t p).entries ≡ None
  no_writer p none a = none_from (writer_of (slot t p).entries) (λ w is.
      none_not (written) p none (mine_at.all p a (is ∙ ap Some (no_rival p w a is))))

  -- of a key that the session did not write, the newest state shows what the slots have
  pub settled_row : (p : ℕ) → written ≡ None → Among p (places t key) → seen (slot t p) desk.newest 0 ≡ (slot t p).row
  settled_row p none a = seen_settled (slot t p).row (slot t p).entries desk.newest desk.newest 0 (f.slots t p).stamps (omega arith) (no_writer p none a)

  -- where the session wrote nothing of the key and sees no row of it, none of its slots is current
  pub none_current : written ≡ None → found_at (slot t) (places t key) (own_key q snapshot written) (written) ≡ None → (p : ℕ) → Among p (places t key) → is_current (slot t p) ≡ true → ⊥
  none_current none missing p a is = go (option_cases (slot t p).row) is
    where
      gone : at_place (state_at m.history snapshot.number) (place_at t key) ≡ None
      gone = sym (shown_is slot places desk m f q snapshot has t key written mine_at none) ∙ ap (found_at (slot t) (places t key) (own_key q snapshot written)) (sym none) ∙ missing

      cases : (row writer : Bool) → row ≡ false → writer ≡ false → (row || writer) ≡ true → ⊥
      cases true w r e i = none_is (sym r)
        where
          none_is : false ≡ true → ⊥
          none_is x = cc
      cases false true r e i = none_is (sym e)
        where
          none_is : false ≡ true → ⊥
          none_is x = cc
      cases false false r e i = none_is i
        where
          none_is : false ≡ true → ⊥
          none_is x = cc

      go : ((slot t p).row ≡ None) ⊎ ((row : Row) × ((slot t p).row ≡ Some row)) → is_current (slot t p) ≡ true → ⊥
      go (inl no') is = cases (is_some (slot t p).row) (is_some (writer_of (slot t p).entries)) (ap is_some no') (ap is_some (no_writer p none a)) is
      go (inr some) is =
          let shown = newest.there t p some.0 (settled_row p none a ∙ some.1) in
          let k : key_of some.0 ≡ key = subst (HasKey key) some.1 (keyed_row key (slot t p).row (slot t p).entries (f.index.keyed t p key a)) in
          none_not (at_place (state_at m.history desk.commits) (place_at t key)) some.0 (newest_is ∙ gone) (ap (λ k. at_place (state_at m.history desk.commits) (place_at t k)) (sym k) ∙ shown)

  -- where it sees a row of the key, one of the key's slots has it
  pub current_there : (row : Row) → found_at (slot t) (places t key) (own_key q snapshot written) (written) ≡ Some row → (p : ℕ) × Among p (places t key) × ((slot t p).row ≡ Some row)
  current_there row found = go (option_cases (written))
    where
      go : (written ≡ None) ⊎ ((p : ℕ) × (written ≡ Some p)) → (p : ℕ) × Among p (places t key) × ((slot t p).row ≡ Some row)
      go (inl none) =
          let here = newest.all t key row (newest_is ∙ sym (shown_is slot places desk m f q snapshot has t key written mine_at none) ∙ ap (found_at (slot t) (places t key) (own_key q snapshot written)) (sym none) ∙ found) in
          (here.0, here.1, sym (settled_row here.0 none here.1) ∙ here.2)
      go (inr own) =
          let here = mine_at.there own.0 own.1 in
          (own.0, here.0, sym (seen_writer (slot t own.0).row (slot t own.0).entries snapshot.stamp q (f.slots t own.0).lawful here.1) ∙ ap (found_at (slot t) (places t key) (own_key q snapshot written)) (sym own.1) ∙ found)

  -- A slot that has a row is current.
  row_current : (s : Slot) (row : Row) → s.row ≡ Some row → is_current s ≡ true
  row_current s row is = or_left (is_some s.row) (is_some (writer_of s.entries)) (ap is_some is)

  -- and the core finds it
  pub current_is : (row : Row) → found_at (slot t) (places t key) (own_key q snapshot written) (written) ≡ Some row
      → (p : ℕ) × (current_place (slot t) (places t key) ≡ Some p) × Among p (places t key) × ((slot t p).row ≡ Some row)
  current_is row found = (here.0, first, here.1, here.2)
    where
      here : (p : ℕ) × Among p (places t key) × ((slot t p).row ≡ Some row)
      here = current_there row found

      answer : ℕ → Option ℕ
      answer p = cond (is_some (slot t p).row) (Some p) None

      once : (p' y : ℕ) → Among p' (places t key) → cond (is_some (slot t p').row) (Some p') None ≡ Some y → y ≡ here.0
      once p' y a is = go (slot t p').row refl is
        where
          go : (row' : Option Row) → (slot t p').row ≡ row' → cond (is_some row') (Some p') None ≡ Some y → y ≡ here.0
          go None r e = cc
          go (Some x) r e =
              let same : p' ≡ here.0 = f.current t key p' here.0 a here.1 (row_current (slot t p') x r) (row_current (slot t here.0) row here.2) in
              sym (same_Some p' y e) ∙ same

      first : current_place (slot t) (places t key) ≡ Some here.0
      first = first_is (λ p. cond (is_some (slot t p).row) (Some p) None) (places t key) here.0 here.0 here.1 (ap (λ b. cond b (Some here.0) None) (ap is_some here.2)) once

  -- where a slot of the key has a row, no other slot of the key is current
  pub alone_with : (p : ℕ) (row : Row) → Among p (places t key) → (slot t p).row ≡ Some row → (p' : ℕ) → Among p' (places t key) → is_current (slot t p') ≡ true → p' ≡ p
  alone_with p row a is p' b now = f.current t key p' p b a now (row_current (slot t p) row is)
