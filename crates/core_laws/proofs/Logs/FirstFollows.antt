-- Slots with rows and no entry, which have what commits left, follow the machine that begins with
-- these commits.
use Rattle.std.proofs.Common.{◌≡◌, ℕ, zero, suc, ◌+◌, ◌-◌, ◌≤◌, ℤ, true, false, List, [], ◌∷◌, Option, None, Some, drop, get_or, length, refl, sym, ap, ◌∙◌, subst, arith}
use mathlib.Core.Logic.{inl, inr}
use Rattle.std.specs.Prelude.{All, IfSome, replicate}
use Rattle.std.specs.List.{last_or}
use Rattle.std.proofs.lemmas.List.Elements.{All-nil}
use Rattle.std.proofs.lemmas.Option.{none-some}
use Rattle.block_spec.specs.declared.change.Before.{Before}
use Rattle.block_spec.specs.Slots.{Row, Slot, is_bare, laid_back, seen, writer_of}
use Rattle.core_laws.proofs.Logs.FirstPlaces.{by_number}
use Rattle.event_spec.specs.Follows.{Follows, IsLive, Shows, StandsBefore}
use Rattle.event_spec.specs.Lawful.{Among}
use Rattle.event_spec.specs.Replay.{last_writer, opening_desk}
use Rattle.event_spec.specs.SlotSound.{IsOfSession, IsSoundSlot, Keyed}
use Rattle.isolation_laws.proofs.Later.{last-later}
use Rattle.isolation_laws.proofs.Later as later
use Rattle.isolation_spec.specs.Contents.{History, State, at_place, key_of, place_at, place_of, state_at}
use Rattle.isolation_spec.specs.declared.place.Place.{Place}
use Rattle.isolation_spec.specs.Machine as machine
use Rattle.isolation_spec.specs.Machine.{later_writers}
use Rattle.isolation_spec.specs.Order.{InOrder}
use Rattle.txn_desk.specs.declared.Snapshot.{Snapshot}
use Rattle.txn_desk.specs.Desk.{DeskState}
use Rattle.txn_desk.specs.Oldest.{snapshot_of}
use Rattle.undo_chain.proofs.Order.{IsLawful-nil}
use Rattle.undo_chain.specs.declared.undo.Undo.{Undo}
use Rattle.undo_chain.specs.Conflict.{numbers_above}
use Rattle.undo_chain.specs.Lawful.{IsStampedUpTo}
use Rattle.undo_chain.specs.Visible.{visible_row}

-- True is not the same as false.
true_false : true ≡ false → ⊥
true_false e = cc

-- Each element of a list of one element many times is that element.
pub replicated : {X : Type 0} (n : ℕ) (x : X) (j : ℕ) → get_or (replicate n x) j x ≡ x
replicated zero x j = refl
replicated (suc n) x zero = refl
replicated (suc n) x (suc j) = replicated n x j

-- What holds of slots that have the rows of a state and no entry, and of an index of them: a key has
-- one candidate at most, the place of its row.
pub record Stand (rows : State) (slot : ℕ → ℕ → Slot) (places : ℕ → ℤ → List ℕ) : Type 0 where
  pub settled : (t p : ℕ) → (slot t p).entries ≡ []
  pub there : (t p : ℕ) (row : Row) → (slot t p).row ≡ Some row → at_place rows (place_of t row) ≡ Some row
  pub all : (t : ℕ) (key : ℤ) (row : Row) → at_place rows (place_at t key) ≡ Some row → (p : ℕ) × Among p (places t key) × ((slot t p).row ≡ Some row)
  pub candidate : (t p : ℕ) (key : ℤ) → Among p (places t key) → (row : Row) × ((slot t p).row ≡ Some row) × (key_of row ≡ key)
  pub listed : (t p : ℕ) (row : Row) → (slot t p).row ≡ Some row → Among p (places t (key_of row))
  pub one : (t : ℕ) (key : ℤ) (p q : ℕ) → Among p (places t key) → Among q (places t key) → p ≡ q
  pub alone : (t : ℕ) (key : ℤ) (p q : ℕ) → StandsBefore p q (places t key) → ⊥

module _ (first : History) (passes : ℕ) (order : All InOrder first) (slot : ℕ → ℕ → Slot) (places : ℕ → ℤ → List ℕ)
    (stand : Stand (state_at first (length first)) slot places) where
  -- The desk behind the commits.
  abbrev desk : DeskState
  desk = opening_desk first passes

  -- no session has a snapshot at it
  pub none_open : (q : ℕ) → snapshot_of desk q ≡ None
  none_open q = replicated passes None (q - 1)

  -- No session has an open snapshot.
  not_open : (q : ℕ) (snapshot : Snapshot) → snapshot_of desk q ≡ Some snapshot → ⊥
  not_open q snapshot is = none-some snapshot (sym (none_open q) ∙ is)

  -- A live snapshot sees all commits.
  sees_all : (stamp number : ℕ) → IsLive desk stamp number → number ≡ length first
  sees_all stamp number (inl x) = x.1
  sees_all stamp number (inr x) = absurd (not_open x.0 (record { stamp = stamp; number = number }) x.2)

  -- A slot shows its row at any stamp.
  shown : (t p stamp : ℕ) → seen (slot t p) stamp 0 ≡ (slot t p).row
  shown t p stamp = ap (λ (es : List (Undo Before)). visible_row laid_back (slot t p).row es stamp 0) (stand.settled t p)

  -- A slot without entries is sound.
  sound_slot : (t p : ℕ) → IsSoundSlot 0 (length first) (slot t p)
  sound_slot t p = subst (λ (es : List (Undo Before)). IsSoundSlot 0 (length first) (record { row = (slot t p).row; entries = es })) (sym (stand.settled t p)) (record {
    lawful = IsLawful-nil;
    stamps = All-nil (IsStampedUpTo {D = Before} 0);
    numbers = All-nil (λ (undo : Undo Before). undo.number ≤ length first);
    sessions = All-nil IsOfSession;
  })

  -- Its row has the key.
  keyed : (t p : ℕ) (key : ℤ) → Among p (places t key) → Keyed key (slot t p).row (slot t p).entries
  keyed t p key a =
      let row = stand.candidate t p key a in
      subst (λ (es : List (Undo Before)). Keyed key (slot t p).row es) (sym (stand.settled t p))
      (subst (λ (o : Option Row). IfSome o (λ cells. key_of cells ≡ key)) (sym row.1) row.2)

  -- A slot that is not bare has a row.
  has_row : (s : Slot) → s.entries ≡ [] → is_bare s ≡ false → (row : Row) × (s.row ≡ Some row)
  has_row s none filled = go s.row refl
    where
      go : (o : Option Row) → s.row ≡ o → (row : Row) × (s.row ≡ Some row)
      go None is = absurd (true_false (sym (ap (λ (x : Option Row). is_bare (record { row = x; entries = s.entries })) is ∙ ap (λ (es : List (Undo Before)). is_bare (record { row = None; entries = es })) none) ∙ filled))
      go (Some row) is = (row, is)

  -- A slot without entries has no writer.
  no_writer : (t p q : ℕ) → writer_of (slot t p).entries ≡ Some q → ⊥
  no_writer t p q is = none-some q (sym (ap writer_of (stand.settled t p)) ∙ is)

  -- No commit is behind all of them.
  none_later : (number : ℕ) (place : Place) → number ≡ length first → last_or None (later_writers first number place) ≡ None
  none_later number place is =
      last-later first number place
      ∙ ap (later.last_writer place (number + 1)) (ap (λ n. drop n first) is ∙ nothing_behind first)
    where
      nothing_behind : (commits : History) → drop (length commits) commits ≡ []
      nothing_behind [] = refl
      nothing_behind (w ∷ ws) = nothing_behind ws

  -- they follow the machine
  pub first_follows : Follows slot places desk (machine.opening_from first)
  first_follows = record {
    slots = sound_slot;
    index = record {
      keyed = keyed;
      filled = λ t p key a. ap (λ (o : Option Row). is_bare (record { row = o; entries = (slot t p).entries })) (stand.candidate t p key a).1;
      listed = λ t p filled. let row = has_row (slot t p) (stand.settled t p) filled in (key_of row.0, stand.listed t p row.0 row.1);
      one_key = λ t p key other a b.
          let x = stand.candidate t p key a in let y = stand.candidate t p other b in
          let same : x.0 ≡ y.0 = some_same x.0 y.0 (sym x.1 ∙ y.1) in
          sym x.2 ∙ ap key_of same ∙ y.2;
    };
    desked = record {
      counted = refl;
      begun = λ q snapshot some is. absurd (not_open q snapshot is);
      idle = λ q some is. refl;
      bounds = λ q snapshot some is. absurd (not_open q snapshot is);
      one_each = tt;
      own_order = λ q open' is. absurd (none-some open' is);
      history_order = order;
      wrote = λ table few. by_number (last_writer first) 0 0 16 table few ∙ (let e : 0 + table ≡ table = omega arith in ap (last_writer first) e);
    };
    shows = λ stamp number live.
        subst (λ (n : ℕ). Shows slot places stamp (state_at first n)) (sym (sees_all stamp number live)) (record {
          there = λ t p row is. stand.there t p row (sym (shown t p stamp) ∙ is);
          all = λ t key row is. let at = stand.all t key row is in (at.0, at.1, shown t at.0 stamp ∙ at.2);
          once = λ t key p q a b x y. stand.one t key p q a b;
        });
    numbers = λ stamp number live. record {
      below = λ t key p above a b. absurd (subst (λ (es : List (Undo Before)). Among above (numbers_above es stamp)) (stand.settled t p) b);
      last = λ t key last is. absurd (none-some last (sym (none_later number (place_at t key) (sees_all stamp number live)) ∙ is));
    };
    current = λ t key p q a b x y. stand.one t key p q a b;
    own = record {
      writers = λ t p q is. absurd (no_writer t p q is);
      written = λ q open' t key value is at. absurd (none-some open' is);
    };
    aged = λ t key p q before. absurd (stand.alone t key p q before);
  }
    where
      some_same : (x y : Row) → Some x ≡ Some y → x ≡ y
      some_same x y e = cc
