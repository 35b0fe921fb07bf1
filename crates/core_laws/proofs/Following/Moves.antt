-- A row that moves to another slot keeps what holds between the core and the machine.
use Rattle.std.proofs.Common.{◌≡◌, ◌⊎◌, ℕ, ◌<◌, ◌≤◌, ℤ, Bool, true, false, not, ◌&&◌, List, [], None, Some, is_some, refl, sym, ap, ◌∙◌, arith, subst}
use Rattle.std.proofs.lemmas.Option.{same_Some}
use mathlib.Core.Logic.{inl, inr}
use Rattle.isolation_spec.specs.Contents.{at_place, place_at, place_of, key_of, state_at, State}
use Rattle.isolation_spec.specs.Machine.{IsolationMachine}
use Rattle.txn_desk.specs.Desk.{DeskState}
use Rattle.txn_desk.specs.Oldest.{snapshot_of}
use Rattle.txn_desk.specs.declared.Snapshot.{Snapshot}
use Rattle.undo_chain.specs.Conflict.{numbers_above}
use Rattle.undo_chain.specs.Entry.{is_at_most}
use Rattle.core_laws.proofs.Following.Machines.{last-none, last_behind}
use Rattle.core_laws.specs.Slots.Laws.{plain}
use Rattle.core_laws.proofs.Slots.Halves.{out_view, in_view, out_gone, in_there, sound_one, sound_later, out_entry, in_entry}
use Rattle.block_spec.specs.Slots.{Slot, Row, writer_of, moved_out, moved_in, seen, is_bare, bare}
use Rattle.core_laws.proofs.Slots.Keys.{HasKey}
use Rattle.event_spec.specs.SlotSound.{Keyed, IsSoundSlot}
use Rattle.event_spec.specs.Lawful.{Among}
use Rattle.event_spec.specs.Follows.{IsLive, IsOlder, Shows, StandsBefore, Numbers, Index, Own, Desked, Follows, is_current}
use Rattle.core_laws.proofs.Slots.Ages.{above_later, before_among, older_single}
use Rattle.std.proofs.lemmas.Bool.{cases_Bool}
use Rattle.undo_chain.specs.Lawful.{NoneStampedAbove}
use Rattle.core_laws.proofs.Slots.Endings.{keyed_row}
use Rattle.core_laws.proofs.Slots.Kept.{shown_filled, shown_current, seen_later, number_filled, numbers_step, numbers_settled}
use Rattle.core_laws.proofs.Following.Desks.{none_not}
use Rattle.core_laws.proofs.Following.Writes.{apart}

module _ (slot : ℕ → ℕ → Slot) (places : ℕ → ℤ → List ℕ) (desk : DeskState) (m : IsolationMachine) (f : Follows slot places desk m)
    -- the stamp of the move: the newest, and later than each open snapshot
    (S : ℕ) (newest : desk.newest ≤ S) (later : (q : ℕ) (snapshot : Snapshot) → 1 ≤ q → snapshot_of desk q ≡ Some snapshot → snapshot.stamp < S)
    -- the row moves from one slot to another, bare one
    (t a b : ℕ) (key : ℤ) (row : Row) (from : slot t a ≡ plain row) (listed : Among a (places t key)) (to : slot t b ≡ bare)
    (slot' : ℕ → ℕ → Slot) (places' : ℕ → ℤ → List ℕ)
    (out : slot' t a ≡ moved_out S row (plain row)) (into : slot' t b ≡ moved_in S row bare)
    (others : (u p : ℕ) → ((u ≡ t) → (p ≡ a) → ⊥) → ((u ≡ t) → (p ≡ b) → ⊥) → slot' u p ≡ slot u p)
    (added : Among b (places' t key))
    (kept : (u p : ℕ) (k : ℤ) → Among p (places u k) → Among p (places' u k))
    (more : (u p : ℕ) (k : ℤ) → Among p (places' u k) → Among p (places u k) ⊎ ((u ≡ t) × (p ≡ b) × (k ≡ key)))
    (behind : (u p p' : ℕ) (k : ℤ) → StandsBefore p p' (places' u k)
    → StandsBefore p p' (places u k) ⊎ (Among p (places u k) × (Among p' (places u k) → ⊥) × (u ≡ t) × (p' ≡ b) × (k ≡ key))) where
  -- The desk with the stamp of the move as its newest.
  abbrev desk' : DeskState
  desk' = record desk { newest = S }

  -- What holds of the source, of the target and of each other slot holds of all slots.
  at_slot : (P : Slot → ℕ → ℕ → Type 0) → P (moved_out S row (plain row)) t a → P (moved_in S row bare) t b
      → ((u p : ℕ) → ((u ≡ t) → (p ≡ a) → ⊥) → ((u ≡ t) → (p ≡ b) → ⊥) → P (slot u p) u p) → (u p : ℕ) → P (slot' u p) u p
  at_slot P x y z u p = go (apart u t p a) (apart u t p b)
    where
      go : ((u ≡ t) × (p ≡ a)) ⊎ ((u ≡ t) → (p ≡ a) → ⊥) → ((u ≡ t) × (p ≡ b)) ⊎ ((u ≡ t) → (p ≡ b) → ⊥) → P (slot' u p) u p
      go (inl e) r = subst (λ u. P (slot' u p) u p) (sym e.0) (subst (λ p. P (slot' t p) t p) (sym e.1) (subst (λ s. P s t a) (sym out) x))
      go (inr n) (inl e) = subst (λ u. P (slot' u p) u p) (sym e.0) (subst (λ p. P (slot' t p) t p) (sym e.1) (subst (λ s. P s t b) (sym into) y))
      go (inr n) (inr n') = subst (λ s. P s u p) (sym (others u p n n')) (z u p n n')

  -- No session with an open snapshot sees anything else.
  pub move_view : (s q u p : ℕ) → s < S → seen (slot' u p) s q ≡ seen (slot u p) s q
  move_view s q u p lt = at_slot (λ x u p. seen x s q ≡ seen (slot u p) s q)
      (out_view S s q row lt ∙ ap (λ x. seen x s q) (sym from))
      (in_view S s q row lt ∙ ap (λ x. seen x s q) (sym to))
      (λ u p n n'. refl) u p

  -- A move leaves the numbers of commits at each slot.
  same_numbers : (s u p : ℕ) → numbers_above (slot' u p).entries s ≡ numbers_above (slot u p).entries s
  same_numbers s = at_slot (λ x u p. numbers_above x.entries s ≡ numbers_above (slot u p).entries s)
      (numbers_moved_out s ∙ ap (λ (x : Slot). numbers_above x.entries s) (sym from))
      (numbers_moved_in s ∙ ap (λ (x : Slot). numbers_above x.entries s) (sym to))
      (λ u p n n'. refl)
    where
      numbers_moved_out : (s : ℕ) → numbers_above (moved_out S row (plain row)).entries s ≡ []
      numbers_moved_out s = numbers_step (out_entry S row) [] s false (no_commit (is_at_most (Some S) s))
        where
          no_commit : (by : Bool) → (true && not by && false) ≡ false
          no_commit true = refl
          no_commit false = refl

      numbers_moved_in : (s : ℕ) → numbers_above (moved_in S row bare).entries s ≡ []
      numbers_moved_in s = numbers_step (in_entry S) [] s false (no_commit (is_at_most (Some S) s))
        where
          no_commit : (by : Bool) → (true && not by && false) ≡ false
          no_commit true = refl
          no_commit false = refl

  -- A move leaves the writer of each slot.
  same_writer : (u p : ℕ) → writer_of (slot' u p).entries ≡ writer_of (slot u p).entries
  same_writer = at_slot (λ x u p. writer_of x.entries ≡ writer_of (slot u p).entries)
      (ap (λ (x : Slot). writer_of x.entries) (sym from)) (ap (λ (x : Slot). writer_of x.entries) (sym to)) (λ u p n n'. refl)

  -- Each slot is sound after the move.
  sound' : (u p : ℕ) → IsSoundSlot S desk.commits (slot' u p)
  sound' = at_slot (λ x u p. IsSoundSlot S desk.commits x) (sound_one S desk.commits None (out_entry S row) refl refl) (sound_one S desk.commits (Some row) (in_entry S) refl refl)
      (λ u p n n'. sound_later desk.newest S desk.commits (slot u p) newest (f.slots u p))

  -- the old place of a slot that was not bare
  old_place : (u p : ℕ) (k : ℤ) → Among p (places' u k) → is_bare (slot u p) ≡ false → Among p (places u k)
  old_place u p k x filled = go (more u p k x)
    where
      go : Among p (places u k) ⊎ ((u ≡ t) × (p ≡ b) × (k ≡ key)) → Among p (places u k)
      go (inl y) = y
      go (inr new) = let is : is_bare (slot u p) ≡ true = ap (λ u. is_bare (slot u p)) new.0 ∙ ap (λ p. is_bare (slot t p)) new.1 ∙ ap is_bare to in let never : true ≡ false = sym is ∙ filled in absurd (no_way never)
        where
          no_way : true ≡ false → ⊥
          no_way e = cc

  -- the key's current slot is the target now
  was_current : (u p : ℕ) → ((u ≡ t) → (p ≡ b) → ⊥) → is_current (slot' u p) ≡ true → is_current (slot u p) ≡ true
  was_current u p no' is = go (apart u t p a)
    where
      go : ((u ≡ t) × (p ≡ a)) ⊎ ((u ≡ t) → (p ≡ a) → ⊥) → is_current (slot u p) ≡ true
      go (inl e) = ap (λ u. is_current (slot u p)) e.0 ∙ ap (λ p. is_current (slot t p)) e.1 ∙ ap is_current from
      go (inr n) = sym (ap is_current (others u p n no')) ∙ is

  -- A slot that is current after the move is not the source.
  not_source : (u p : ℕ) → is_current (slot' u p) ≡ true → (u ≡ t) → (p ≡ a) → ⊥
  not_source u p is e e' = no_way (sym (ap (λ u. is_current (slot' u p)) e ∙ ap (λ p. is_current (slot' t p)) e' ∙ ap is_current out) ∙ is)
    where
      no_way : false ≡ true → ⊥
      no_way x = cc

  -- After the move a key has one current slot at most.
  keeps_current : (u : ℕ) (k : ℤ) (p p' : ℕ) → Among p (places' u k) → Among p' (places' u k) → is_current (slot' u p) ≡ true → is_current (slot' u p') ≡ true → p ≡ p'
  keeps_current u k p p' x x' is is' = go (apart u t p b) (apart u t p' b)
    where
      old : (r : ℕ) → Among r (places' u k) → ((u ≡ t) → (r ≡ b) → ⊥) → Among r (places u k)
      old r y no' = at (more u r k y)
        where
          at : Among r (places u k) ⊎ ((u ≡ t) × (r ≡ b) × (k ≡ key)) → Among r (places u k)
          at (inl z) = z
          at (inr new) = absurd (no' new.0 new.1)

      -- a slot beside the target is the source, which is current no more
      never : (r r' : ℕ) → (u ≡ t) × (r ≡ b) → Among r (places' u k) → ((u ≡ t) → (r' ≡ b) → ⊥) → Among r' (places' u k) → is_current (slot' u r') ≡ true → ⊥
      never r r' e y no' y' now =
          let k_is : k ≡ key = at (more u r k y) in
          let there : Among r' (places t key) = subst (λ k. Among r' (places t k)) k_is (subst (λ u. Among r' (places u k)) e.0 (old r' y' no')) in
          let cur : is_current (slot t r') ≡ true = ap (λ u. is_current (slot u r')) (sym e.0) ∙ was_current u r' no' now in
          not_source u r' now e.0 (f.current t key r' a there listed cur (ap is_current from))
        where
          at : Among r (places u k) ⊎ ((u ≡ t) × (r ≡ b) × (k ≡ key)) → k ≡ key
          at (inl z) = let b_in : Among b (places t k) = subst (λ u. Among b (places u k)) e.0 (subst (λ r. Among r (places u k)) e.1 z) in let never' : true ≡ false = sym (ap is_bare to) ∙ f.index.filled t b k b_in in absurd (no_way never')
            where
              no_way : true ≡ false → ⊥
              no_way x = cc
          at (inr new) = new.2

      go : ((u ≡ t) × (p ≡ b)) ⊎ ((u ≡ t) → (p ≡ b) → ⊥) → ((u ≡ t) × (p' ≡ b)) ⊎ ((u ≡ t) → (p' ≡ b) → ⊥) → p ≡ p'
      go (inl e) (inl e') = e.1 ∙ sym e'.1
      go (inl e) (inr n) = absurd (never p p' e x n x' is')
      go (inr n) (inl e) = absurd (never p' p e x' n x is)
      go (inr n) (inr n') = f.current u k p p' (old p x n) (old p' x' n') (was_current u p n is) (was_current u p' n' is')

  -- a key's candidates stand in the order of their age as before, and the target behind them
  keeps_aged : (u : ℕ) (k : ℤ) (p p' : ℕ) → StandsBefore p p' (places' u k) → IsOlder (slot' u p) (slot' u p')
  keeps_aged u k p p' x = go (behind u p p' k x)
    where
      true_false : true ≡ false → ⊥
      true_false e = cc

      up : NoneStampedAbove (slot u p).entries S
      up = above_later (slot u p).entries desk.newest S newest (f.slots u p).stamps

      not_target : Among p (places u k) → (u ≡ t) → (p ≡ b) → ⊥
      not_target y e e' = true_false (sym (ap (λ u. is_bare (slot u p)) e ∙ ap (λ p. is_bare (slot t p)) e' ∙ ap is_bare to) ∙ f.index.filled u p k y)

      stays : StandsBefore p p' (places u k) → IsOlder (slot' u p) (slot' u p')
      stays y = subst (λ s. IsOlder s (slot' u p')) (sym (others u p not_source (not_target (before_among p p' (places u k) y))))
          (at_slot (λ s v w. IsOlder (slot u p) (slot v w) → IsOlder (slot u p) s)
          (λ z. older_single (slot u p) None (out_entry S row) S refl z.settled up)
          (λ z. older_single (slot u p) (Some row) (in_entry S) S refl z.settled up)
          (λ v w n n' z. z) u p' (f.aged u k p p' y))
        where
          not_source : (u ≡ t) → (p ≡ a) → ⊥
          not_source e e' = true_false (sym (ap (λ u. is_current (slot u p)) e ∙ ap (λ p. is_current (slot t p)) e' ∙ ap is_current from) ∙ (f.aged u k p p' y).settled)

      fresh : Among p (places u k) → (u ≡ t) → (p' ≡ b) → (k ≡ key) → IsOlder (slot' u p) (slot' u p')
      fresh y e e' e'' = subst (IsOlder (slot' u p)) (sym (ap (λ u. slot' u p') e ∙ ap (slot' t) e' ∙ into)) (at (apart u t p a))
        where
          settled : ((u ≡ t) → (p ≡ a) → ⊥) → (is_current (slot u p) ≡ true) ⊎ (is_current (slot u p) ≡ false) → is_current (slot u p) ≡ false
          settled n (inl now) = absurd (n e (f.current t key p a (subst (λ k. Among p (places t k)) e'' (subst (λ u. Among p (places u k)) e y)) listed
              (sym (ap (λ u. is_current (slot u p)) e) ∙ now) (ap is_current from)))
          settled n (inr is) = is

          at : ((u ≡ t) × (p ≡ a)) ⊎ ((u ≡ t) → (p ≡ a) → ⊥) → IsOlder (slot' u p) (moved_in S row bare)
          at (inl both) = subst (λ s. IsOlder s (moved_in S row bare)) (sym (ap (λ u. slot' u p) both.0 ∙ ap (slot' t) both.1 ∙ out))
              (older_single (moved_out S row (plain row)) (Some row) (in_entry S) S refl refl (sound_one S desk.commits None (out_entry S row) refl refl).stamps)
          at (inr n) = subst (λ s. IsOlder s (moved_in S row bare)) (sym (others u p n (not_target y)))
              (older_single (slot u p) (Some row) (in_entry S) S refl (settled n (cases_Bool (is_current (slot u p)))) up)

      go : StandsBefore p p' (places u k) ⊎ (Among p (places u k) × (Among p' (places u k) → ⊥) × (u ≡ t) × (p' ≡ b) × (k ≡ key)) → IsOlder (slot' u p) (slot' u p')
      go (inl y) = stays y
      go (inr n) = fresh n.0 n.2 n.3 n.4

  -- The index is right for the slots after the move.
  keeps_index : Index slot' places'
  keeps_index = record {
    keyed = λ u p k x. keyed' u p k x;
    filled = λ u p k x. filled' u p k x (more u p k x);
    listed = λ u p is. at_slot (λ x u p. is_bare x ≡ false → (k : ℤ) × Among p (places' u k)) (λ is. (key, kept t a key listed)) (λ is. (key, added))
        (λ u p n n' is. let y = f.index.listed u p is in (y.0, kept u p y.0 y.1)) u p is;
    one_key = λ u p k l x y. one' u p k l (more u p k x) (more u p l y);
  }
    where
      no_way : true ≡ false → ⊥
      no_way x = cc

      bare_not : (u p : ℕ) (k : ℤ) → (u ≡ t) → (p ≡ b) → Among p (places u k) → ⊥
      bare_not u p k e e' x = no_way (sym (ap (λ u. is_bare (slot u p)) e ∙ ap (λ p. is_bare (slot t p)) e' ∙ ap is_bare to) ∙ f.index.filled u p k x)

      row_key : key_of row ≡ key
      row_key = subst (λ (s : Slot). HasKey key s.row) from (keyed_row key (slot t a).row (slot t a).entries (f.index.keyed t a key listed))

      key_at : (u p : ℕ) (k : ℤ) → Among p (places' u k) → (u ≡ t) → (p ≡ a) → k ≡ key
      key_at u p k x e e' = at (more u p k x)
        where
          at : Among p (places u k) ⊎ ((u ≡ t) × (p ≡ b) × (k ≡ key)) → k ≡ key
          at (inl y) = f.index.one_key t a k key (subst (λ u. Among a (places u k)) e (subst (λ p. Among p (places u k)) e' y)) listed
          at (inr new) = new.2

      key_at_target : (u p : ℕ) (k : ℤ) → Among p (places' u k) → (u ≡ t) → (p ≡ b) → k ≡ key
      key_at_target u p k x e e' = at (more u p k x)
        where
          at : Among p (places u k) ⊎ ((u ≡ t) × (p ≡ b) × (k ≡ key)) → k ≡ key
          at (inl y) = absurd (bare_not u p k e e' y)
          at (inr new) = new.2

      keyed' : (u p : ℕ) (k : ℤ) → Among p (places' u k) → Keyed k (slot' u p).row (slot' u p).entries
      keyed' u p k x = at_slot (λ s u p. Among p (places' u k) → Keyed k s.row s.entries)
          (λ y. (tt, refl, row_key ∙ sym (key_at t a k y refl refl))) (λ y. (row_key ∙ sym (key_at_target t b k y refl refl), refl, tt))
          (λ u p n n' y. old u p n' y (more u p k y)) u p x
        where
          old : (u p : ℕ) → ((u ≡ t) → (p ≡ b) → ⊥) → Among p (places' u k) → Among p (places u k) ⊎ ((u ≡ t) × (p ≡ b) × (k ≡ key)) → Keyed k (slot u p).row (slot u p).entries
          old u p n' y (inl z) = f.index.keyed u p k z
          old u p n' y (inr new) = absurd (n' new.0 new.1)

      filled' : (u p : ℕ) (k : ℤ) → Among p (places' u k) → Among p (places u k) ⊎ ((u ≡ t) × (p ≡ b) × (k ≡ key)) → is_bare (slot' u p) ≡ false
      filled' u p k x y = at_slot (λ s u p. (Among p (places u k) ⊎ ((u ≡ t) × (p ≡ b) × (k ≡ key))) → is_bare s ≡ false) (λ z. refl) (λ z. refl) (λ u p n n' z. old u p n' z) u p y
        where
          old : (u p : ℕ) → ((u ≡ t) → (p ≡ b) → ⊥) → Among p (places u k) ⊎ ((u ≡ t) × (p ≡ b) × (k ≡ key)) → is_bare (slot u p) ≡ false
          old u p n' (inl z) = f.index.filled u p k z
          old u p n' (inr new) = absurd (n' new.0 new.1)

      one' : (u p : ℕ) (k l : ℤ) → Among p (places u k) ⊎ ((u ≡ t) × (p ≡ b) × (k ≡ key)) → Among p (places u l) ⊎ ((u ≡ t) × (p ≡ b) × (l ≡ key)) → k ≡ l
      one' u p k l (inl x) (inl y) = f.index.one_key u p k l x y
      one' u p k l (inl x) (inr new) = absurd (bare_not u p k new.0 new.1 x)
      one' u p k l (inr new) (inl y) = absurd (bare_not u p l new.0 new.1 y)
      one' u p k l (inr x) (inr y) = x.2 ∙ sym y.2

  -- At a stamp before the move's the slots show what they showed before it.
  shows_old : (s : ℕ) (rows : State) → s < S → Shows slot places s rows → Shows slot' places' s rows
  shows_old s rows lt old = record {
    there = λ u p r is. old.there u p r (sym (move_view s 0 u p lt) ∙ is);
    all = λ u k r is. let x = old.all u k r is in (x.0, kept u x.0 k x.1, move_view s 0 u x.0 lt ∙ x.2);
    once = λ u k p p' x x' is is'.
        let y = ap is_some (sym (move_view s 0 u p lt)) ∙ is in
        let y' = ap is_some (sym (move_view s 0 u p' lt)) ∙ is' in
        old.once u k p p' (old_place u p k x (shown_filled (slot u p) s 0 y)) (old_place u p' k x' (shown_filled (slot u p') s 0 y')) y y';
  }

  -- from the move's stamp on the target shows what the source showed
  shows_new : Shows slot' places' S (state_at m.history desk.commits)
  shows_new = record {
    there = λ u p r is. at_slot (λ x u p. seen x S 0 ≡ Some r → at_place (state_at m.history desk.commits) (place_of u r) ≡ Some r)
        (λ is. absurd (none_not (seen (moved_out S row (plain row)) S 0) r (out_gone S S 0 row (omega arith)) is))
        (λ is. let same : row ≡ r = same_Some row r (sym (in_there S S 0 row (omega arith)) ∙ is) in subst (λ r. at_place (state_at m.history desk.commits) (place_of t r) ≡ Some r) same (before.there t a row (ap (λ x. seen x desk.newest 0) from)))
        (λ u p n n' is. before.there u p r (sym (seen_later (slot u p).row (slot u p).entries desk.newest S (f.slots u p).stamps newest) ∙ is)) u p is;
    all = λ u k r is. let x = before.all u k r is in all' u k r x (apart u t x.0 a);
    once = λ u k p p' x x' is is'. keeps_current u k p p' x x' (shown_current (slot' u p) S (sound' u p).stamps is) (shown_current (slot' u p') S (sound' u p').stamps is');
  }
    where
      before : Shows slot places desk.newest (state_at m.history desk.commits)
      before = f.shows desk.newest desk.commits (inl (refl, refl))

      all' : (u : ℕ) (k : ℤ) (r : Row) → (x : (p : ℕ) × Among p (places u k) × (seen (slot u p) desk.newest 0 ≡ Some r)) → ((u ≡ t) × (x.0 ≡ a)) ⊎ ((u ≡ t) → (x.0 ≡ a) → ⊥)
          → (p : ℕ) × Among p (places' u k) × (seen (slot' u p) S 0 ≡ Some r)
      all' u k r x (inl e) =
          let k_is : k ≡ key = f.index.one_key t a k key (subst (λ u. Among a (places u k)) e.0 (subst (λ p. Among p (places u k)) e.1 x.1)) listed in
          let same : row ≡ r = same_Some row r (sym (ap (λ u. seen (slot u x.0) desk.newest 0) e.0 ∙ ap (λ p. seen (slot t p) desk.newest 0) e.1 ∙ ap (λ y. seen y desk.newest 0) from) ∙ x.2) in (
            b,
            subst (λ u. Among b (places' u k)) (sym e.0) (subst (λ k. Among b (places' t k)) (sym k_is) added),
            ap (λ u. seen (slot' u b) S 0) e.0 ∙ ap (λ y. seen y S 0) into ∙ in_there S S 0 row (omega arith) ∙ ap Some same,
          )
      all' u k r x (inr n) = (
        x.0,
        kept u x.0 k x.1,
        ap (λ y. seen y S 0) (others u x.0 n (λ e e'. none_not (seen (slot t b) desk.newest 0) r (ap (λ y. seen y desk.newest 0) to) (ap (λ u. seen (slot u b) desk.newest 0) (sym e) ∙ ap (λ p. seen (slot u p) desk.newest 0) (sym e') ∙ x.2)))
            ∙ seen_later (slot u x.0).row (slot u x.0).entries desk.newest S (f.slots u x.0).stamps newest ∙ x.2,
      )

  -- The numbers above a snapshot agree with the history after the move as before.
  numbers_old : (s n : ℕ) → Numbers slot places s n m.history → Numbers slot' places' s n m.history
  numbers_old s n old = record {
    below = λ u k p x y z. let z' = subst (Among x) (same_numbers s u p) z in old.below u k p x (old_place u p k y (number_filled (slot u p) s x z')) z';
    last = λ u k last is. let x = old.last u k last is in (x.0, kept u x.0 k x.1, subst (Among last) (sym (same_numbers s u x.0)) x.2);
  }

  -- The numbers above the stamp of the move agree with the history.
  numbers_new : Numbers slot' places' S desk.commits m.history
  numbers_new = record {
    below = λ u k p x y z. absurd (subst (Among x) (numbers_settled (slot' u p).entries S S (sound' u p).stamps (omega arith)) z);
    last = λ u k last is. absurd (none_not (last_behind (place_at u k) desk.commits m.history) last
        (last-none (place_at u k) desk.commits m.history (let c = f.desked.counted in omega (arith, c))) is);
  }

  -- The own writes of all transactions are the current rows of their slots after the move.
  keeps_own : Own slot' places' m
  keeps_own = record {
    writers = λ u p q w.
        let old = f.own.writers u p q (sym (same_writer u p) ∙ w) in
        (old.0, old.1, old.2, kept u p old.2 old.3, old.4 ∙ ap Some (sym (same_row u p q w)));
    written = λ q tr u k v is at. let old = f.own.written q tr u k v is at in (old.0, kept u old.0 k old.1, same_writer u old.0 ∙ old.2);
  }
    where
      same_row : (u p q : ℕ) → writer_of (slot' u p).entries ≡ Some q → (slot' u p).row ≡ (slot u p).row
      same_row u p q w = at_slot (λ x u p. writer_of x.entries ≡ Some q → x.row ≡ (slot u p).row) (λ w. cc) (λ w. cc) (λ u p n n' w. refl) u p w

  -- The desk with the stamp of the move has the machine's transactions.
  keeps_desk : Desked desk' m
  keeps_desk = record {
    counted = f.desked.counted;
    begun = f.desked.begun;
    idle = f.desked.idle;
    bounds = λ r snapshot some is. let old = f.desked.bounds r snapshot some is in let x = old.0 in (omega (arith, x, newest), old.1);
    one_each = f.desked.one_each;
    own_order = f.desked.own_order;
    history_order = f.desked.history_order;
    wrote = f.desked.wrote;
  }

  -- a move of a row keeps what holds between the core and the machine
  pub move_keeps : Follows slot' places' desk' m
  move_keeps = record {
    slots = sound';
    index = keeps_index;
    desked = keeps_desk;
    shows = λ s n live. shows' s n live;
    numbers = λ s n live. numbers' s n live;
    current = keeps_current;
    aged = keeps_aged;
    own = keeps_own;
  }
    where
      shows' : (s n : ℕ) → IsLive desk' s n → Shows slot' places' s (state_at m.history n)
      shows' s n (inl both) =
          subst (λ s. Shows slot' places' s (state_at m.history n)) (sym both.0) (subst (λ n. Shows slot' places' S (state_at m.history n)) (sym both.1) shows_new)
      shows' s n (inr open') = shows_old s (state_at m.history n) (later open'.0 (record { stamp = s; number = n }) open'.1 open'.2) (f.shows s n (inr open'))

      numbers' : (s n : ℕ) → IsLive desk' s n → Numbers slot' places' s n m.history
      numbers' s n (inl both) =
          subst (λ s. Numbers slot' places' s n m.history) (sym both.0) (subst (λ n. Numbers slot' places' S n m.history) (sym both.1) numbers_new)
      numbers' s n (inr open') = numbers_old s n (f.numbers s n (inr open'))
