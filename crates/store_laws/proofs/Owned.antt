-- The slots that a session owns, and one more of them.
use Rattle.std.proofs.Common.{◌≡◌, ◌⊎◌, ℕ, ℤ, Bool, true, false, cond, List, Some, option_map, refl, sym, ap, ◌∙◌, subst}
use mathlib.Core.Logic.{inl, inr}
use Rattle.std.specs.Prelude.{IsSomeAnd}
use Rattle.std.specs.BTreeMap.{insert_entry}
use Rattle.std.specs.declared.cmp.Ordering.{Ordering}
use Rattle.std.specs.declared.cmp.Ordering.TheVariants.{Less, Equal, Greater}
use Rattle.std.specs.FinMap.{int_cmp-IsAntisymmetric, nat_cmp-IsAntisymmetric}
use Rattle.std.specs.Ordering.{int_cmp, is_eq, nat_cmp, ordering_reverse, ordering_then}
use Rattle.block_spec.specs.Slots.{Slot, writer_of}
use Rattle.core_laws.proofs.Events.Owners.{listed_written, open_with, transaction_is, written_listed}
use Rattle.event_spec.specs.declared.own.OwnTransaction.{OwnTransaction}
use Rattle.event_spec.specs.Follows.{is_current}
use Rattle.event_spec.specs.Lawful.{Among, IsOwn, IsSession, OwnsAll, writes_of}
use Rattle.event_spec.specs.Parts.{Parts, Shape, desk_at, places_at, slot_at}
use Rattle.event_spec.specs.Sound.{Sound}
use Rattle.isolation_laws.proofs.Overlays.{at-insert}
use Rattle.core_laws.specs.Following.Owned.{OwnSlot}
use Rattle.core_laws.specs.Following.Steps.{IsAdded}
use Rattle.isolation_laws.proofs.Rows.{place_cmp-total}
use Rattle.isolation_spec.specs.Contents.{PlaceMap, at_place, is_place, place_at, place_cmp}
use Rattle.isolation_spec.specs.declared.place.Place.{Place}
use Rattle.core_laws.proofs.Slots.Kept.{writer_current}
use Rattle.txn_desk.specs.Oldest.{snapshot_of}

-- ---- places that compare as one

-- Where a comparison by two answers in turn finds both equal, each of them is.
then-equal : (a b : Ordering) → ordering_then a b ≡ Equal → (a ≡ Equal) × (b ≡ Equal)
then-equal Less b h = absurd (let never : ⊥ = cc in never)
then-equal Equal b h = (refl, h)
then-equal Greater b h = absurd (let never : ⊥ = cc in never)

-- An answer that is tested as equal is equal.
is-equal : (answer : Ordering) → is_eq answer ≡ true → answer ≡ Equal
is-equal Less h = absurd (let never : ⊥ = cc in never)
is-equal Equal h = refl
is-equal Greater h = absurd (let never : ⊥ = cc in never)

-- An answer that is its own reverse is equal.
self-equal : (answer : Ordering) → answer ≡ ordering_reverse answer → answer ≡ Equal
self-equal Less h = absurd (let never : ⊥ = cc in never)
self-equal Equal h = refl
self-equal Greater h = absurd (let never : ⊥ = cc in never)

-- places that are tested as one have one table and one key
pub same_place : (u t : ℕ) (k key : ℤ) → is_place (place_at u k) (place_at t key) ≡ true → (u ≡ t) × (k ≡ key)
same_place u t k key e =
    let parts = then-equal (nat_cmp u t) (int_cmp k key) (is-equal (place_cmp (place_at u k) (place_at t key)) e) in
    (nat_cmp-IsAntisymmetric u t parts.0, int_cmp-IsAntisymmetric k key parts.1)

-- ---- what a map of writes owns

pub record Owns (slot : ℕ → ℕ → Slot) (places : ℕ → ℤ → List ℕ) (q : ℕ) (writes : PlaceMap ℕ) : Type 0 where
  pub each : (t : ℕ) (key : ℤ) → OwnSlot slot places q t key (at_place writes (place_at t key))

-- a session whose snapshot and slots are the desk's and the core's owns what it has open
pub owns_all : (sh : Shape) (s : Parts) → Sound sh s → (own : OwnTransaction) → IsSession sh own.session → snapshot_of (desk_at sh s) own.session ≡ Some own.snapshot
    → Owns (slot_at sh s) (places_at sh s) own.session own.writes → OwnsAll sh own s
owns_all sh s ok own counted open' owns = (
  counted,
  subst (λ o. IsSomeAnd o (IsOwn sh s own)) (sym (transaction_is sh s own.session counted.0 ∙ ap (option_map (open_with (writes_of sh s own.session))) open')) (record {
    snapshot = refl;
    writes = λ t key p. (
      (λ is. let x = (owns.each t key).there p is in written_listed sh s ok own.session t key p x.0 x.1),
      (λ a. let x = listed_written sh s ok own.session t key p a in (owns.each t key).all p x.0 x.1),
    );
  }),
)

-- ---- one more write

module _ (slot slot' : ℕ → ℕ → Slot) (places places' : ℕ → ℤ → List ℕ) (q t p : ℕ) (key : ℤ)
    (writer : writer_of (slot' t p).entries ≡ Some q)
    (others : (u r : ℕ) → ((u ≡ t) → (r ≡ p) → ⊥) → slot' u r ≡ slot u r)
    (more : IsAdded places places' t p key)
    (one_key : (t p : ℕ) (key other : ℤ) → Among p (places' t key) → Among p (places' t other) → key ≡ other)
    (current : (t : ℕ) (key : ℤ) (one other : ℕ) → Among one (places' t key) → Among other (places' t key) → is_current (slot' t one) ≡ true → is_current (slot' t other) ≡ true → one ≡ other)
    (writes : PlaceMap ℕ) (owns : Owns slot places q writes) where
  -- What two equal options hold is the same place.
  is_at : (r : ℕ) → Some p ≡ Some r → p ≡ r
  is_at r e = cc

  -- the key itself
  at_key : OwnSlot slot' places' q t key (Some p)
  at_key = record {
    there = λ r is. (subst (λ r. Among r (places' t key)) (is_at r is) more.added, subst (λ r. writer_of (slot' t r).entries ≡ Some q) (is_at r is) writer);
    all = λ r a w. ap Some (current t key p r more.added a (writer_current (slot' t p) q writer) (writer_current (slot' t r) q w));
  }

  -- every other
  at_other : (u : ℕ) (k : ℤ) → ((u ≡ t) → (k ≡ key) → ⊥) → OwnSlot slot' places' q u k (at_place writes (place_at u k))
  at_other u k other = record {
    there = λ r is.
        let x = (owns.each u k).there r is in
        let a = more.kept u r k x.0 in
        (a, ap (λ (z : Slot). writer_of z.entries) (others u r (λ ut rp. not_there r a ut rp)) ∙ x.1);
    all = λ r a w. found r a w (more.more u r k a);
  }
    where
      not_there : (r : ℕ) → Among r (places' u k) → (u ≡ t) → (r ≡ p) → ⊥
      not_there r a ut rp = other ut (one_key t p k key (subst (λ r. Among r (places' t k)) rp (subst (λ u. Among r (places' u k)) ut a)) more.added)

      found : (r : ℕ) → Among r (places' u k) → writer_of (slot' u r).entries ≡ Some q → Among r (places u k) ⊎ ((u ≡ t) × (r ≡ p) × (k ≡ key)) → at_place writes (place_at u k) ≡ Some r
      found r a w (inl b) = (owns.each u k).all r b (sym (ap (λ (z : Slot). writer_of z.entries) (others u r (not_there r a))) ∙ w)
      found r a w (inr n) = absurd (other n.0 n.2)

  -- with one write more the session's slots are those of its writes still
  pub goes_on : Owns slot' places' q (insert_entry place_cmp writes (place_at t key) p)
  goes_on = record { each = λ u k. subst (OwnSlot slot' places' q u k) (sym (at-insert writes (place_at t key) p (place_at u k))) (go u k (is_place (place_at u k) (place_at t key)) refl) }
    where
      refuted : (u : ℕ) (k : ℤ) → is_place (place_at u k) (place_at t key) ≡ false → (u ≡ t) → (k ≡ key) → ⊥
      refuted u k apart ut kk = never (sym (self t key) ∙ ap (λ (x : Place). is_place x (place_at t key)) (sym (ap (λ u. place_at u key) ut)) ∙ ap (λ k. is_place (place_at u k) (place_at t key)) (sym kk) ∙ apart)
        where
          never : true ≡ false → ⊥
          never e = cc

          self : (t : ℕ) (key : ℤ) → is_place (place_at t key) (place_at t key) ≡ true
          self t key = ap is_eq (self-equal (place_cmp (place_at t key) (place_at t key)) (place_cmp-total.antisymm (place_at t key) (place_at t key)))

      go : (u : ℕ) (k : ℤ) (b : Bool) → is_place (place_at u k) (place_at t key) ≡ b → OwnSlot slot' places' q u k (cond b (Some p) (at_place writes (place_at u k)))
      go u k true same = let e = same_place u t k key same in subst (λ u. OwnSlot slot' places' q u k (Some p)) (sym e.0) (subst (λ k. OwnSlot slot' places' q t k (Some p)) (sym e.1) at_key)
      go u k false apart = at_other u k (refuted u k apart)
