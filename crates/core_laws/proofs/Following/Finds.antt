-- What a session finds of a key is the machine's.
use Rattle.std.proofs.Common.{◌≡◌, ◌⊎◌, ℕ, ℤ, List, Option, None, Some, is_some, sym, ap, ◌∙◌}
use Rattle.std.proofs.lemmas.Option.{same_Some}
use mathlib.Core.Logic.{inl, inr}
use Rattle.isolation_spec.specs.Contents.{at_place, place_at, state_at}
use Rattle.isolation_spec.specs.Machine.{IsolationMachine, seen_rows}
use Rattle.txn_desk.specs.Desk.{DeskState}
use Rattle.txn_desk.specs.declared.Snapshot.{Snapshot}
use Rattle.block_spec.specs.Slots.{Slot, Row, seen}
use Rattle.event_spec.specs.Judged.{first_at, found_at}
use Rattle.event_spec.specs.Lawful.{Among}
use Rattle.event_spec.specs.Follows.{Follows}
use Rattle.core_laws.specs.Following.Owned.{HasOpen, OwnSlot, own_key}
use Rattle.isolation_laws.proofs.Overlays.{over}
use Rattle.core_laws.proofs.Slots.Views.{seen_writer, seen_other}
use Rattle.core_laws.proofs.Following.Desks.{none_not}
use Rattle.core_laws.proofs.Following.Firsts.{first_none, first_is}
use Rattle.core_laws.proofs.Following.Sessions.{option_cases, none_from, tr, mine, at_number, at_seen, wrote_here, key_shown, before}

module _ (slot : ℕ → ℕ → Slot) (places : ℕ → ℤ → List ℕ) (desk : DeskState) (m : IsolationMachine) (f : Follows slot places desk m)
    (q : ℕ) (snapshot : Snapshot) (has : HasOpen desk q snapshot)
    (t : ℕ) (key : ℤ) (written : Option ℕ) (mine_at : OwnSlot slot places q t key written) where
  -- a session that has no slot of its own for a key wrote nothing of it
  pub none_own : written ≡ None → at_place (tr slot places desk m f q snapshot has).own (place_at t key) ≡ None
  none_own none = none_from (at_place (tr slot places desk m f q snapshot has).own (place_at t key)) (λ value is.
      let w = f.own.written q (tr slot places desk m f q snapshot has) t key value (mine slot places desk m f q snapshot has) is in none_not written w.0 none (mine_at.all w.0 w.1 w.2))

  -- where it wrote no candidate of a key, what a candidate shows is what is committed
  pub same_view : (p : ℕ) → written ≡ None → Among p (places t key) → seen (slot t p) snapshot.stamp q ≡ seen (slot t p) snapshot.stamp 0
  same_view p none a =
      seen_other (slot t p).row (slot t p).entries snapshot.stamp q (f.slots t p).lawful (f.slots t p).sessions (λ w. none_not written p none (mine_at.all p a w))

  -- at a key that it did not write
  pub shown_is : written ≡ None
      → first_at (λ p. seen (slot t p) snapshot.stamp q) (places t key) ≡ at_place (state_at m.history snapshot.number) (place_at t key)
  shown_is none = go (option_cases (at_place (state_at m.history snapshot.number) (place_at t key)))
    where
      shown : ℕ → Option Row
      shown p = seen (slot t p) snapshot.stamp q

      go : (at_place (state_at m.history snapshot.number) (place_at t key) ≡ None) ⊎ ((row : Row) × (at_place (state_at m.history snapshot.number) (place_at t key) ≡ Some row))
          → first_at (λ p. seen (slot t p) snapshot.stamp q) (places t key) ≡ at_place (state_at m.history snapshot.number) (place_at t key)
      go (inl nothing) =
          first_none (λ p. seen (slot t p) snapshot.stamp q) (places t key) (λ p a. none_from (seen (slot t p) snapshot.stamp q) (λ row is.
          none_not (at_place (state_at m.history snapshot.number) (place_at t key)) row nothing
          (ap (λ k. at_place (state_at m.history snapshot.number) (place_at t k)) (sym (key_shown slot places desk m f q snapshot has t p key snapshot.stamp q row a is)) ∙ (before slot places desk m f q snapshot has).there t p row (sym (same_view p none a) ∙ is))))
          ∙ sym nothing
      go (inr some) =
          let found = (before slot places desk m f q snapshot has).all t key some.0 some.1 in
          first_is (λ p. seen (slot t p) snapshot.stamp q) (places t key) found.0 some.0 found.1 (same_view found.0 none found.1 ∙ found.2)
          (λ p' y a is.
          let here : seen (slot t p') snapshot.stamp 0 ≡ Some y = sym (same_view p' none a) ∙ is in
          let same : p' ≡ found.0 = (before slot places desk m f q snapshot has).once t key p' found.0 a found.1 (ap is_some here) (ap is_some found.2) in
          same_Some y some.0 (sym here ∙ ap (λ p. seen (slot t p) snapshot.stamp 0) same ∙ found.2))
          ∙ sym some.1

  -- What it finds of a key is what the machine's transaction sees of it.
  pub found_is : found_at (slot t) (places t key) (own_key q snapshot written) written ≡ at_place (seen_rows m (tr slot places desk m f q snapshot has)) (place_at t key)
  found_is = go (option_cases written)
    where
      go : (written ≡ None) ⊎ ((p : ℕ) × (written ≡ Some p)) → found_at (slot t) (places t key) (own_key q snapshot written) written ≡ at_place (seen_rows m (tr slot places desk m f q snapshot has)) (place_at t key)
      go (inl none) =
          ap (found_at (slot t) (places t key) (own_key q snapshot written)) none ∙ shown_is none
          ∙ ap (λ n. at_place (state_at m.history n) (place_at t key)) (sym (at_number slot places desk m f q snapshot has))
          ∙ sym (at_seen slot places desk m f q snapshot has (place_at t key) ∙ ap (λ x. over x (at_place (state_at m.history (tr slot places desk m f q snapshot has).snapshot) (place_at t key))) (none_own none))
      go (inr own) =
          let here = mine_at.there own.0 own.1 in
          ap (found_at (slot t) (places t key) (own_key q snapshot written)) own.1
          ∙ seen_writer (slot t own.0).row (slot t own.0).entries snapshot.stamp q (f.slots t own.0).lawful here.1
          ∙ sym (at_seen slot places desk m f q snapshot has (place_at t key) ∙ ap (λ x. over x (at_place (state_at m.history (tr slot places desk m f q snapshot has).snapshot) (place_at t key))) (wrote_here slot places desk m f q snapshot has t own.0 key here.0 here.1))
