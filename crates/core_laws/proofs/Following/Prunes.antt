-- A pruning keeps what holds between the core and the machine.
use Rattle.std.proofs.Common.{◌≡◌, ◌⊎◌, ℕ, ◌≤◌, ℤ, true, false, ◌||◌, List, Some, is_some, refl, sym, ap, ◌∙◌, subst}
use Rattle.std.proofs.lemmas.Bool.{cases_Bool}
use mathlib.Core.Logic.{inl, inr}
use Rattle.isolation_spec.specs.Contents.{state_at}
use Rattle.isolation_spec.specs.Machine.{IsolationMachine}
use Rattle.txn_desk.specs.Desk.{DeskState}
use Rattle.undo_chain.specs.Conflict.{numbers_above}
use Rattle.undo_chain.proofs.Views.{images_after_prune}
use Rattle.undo_chain.proofs.Rows.{visible_row-same}
use Rattle.core_laws.proofs.Slots.Prunings.{rest, pruned_writer, numbers_pruned, pruned_keyed, sound_pruned}
use Rattle.block_spec.specs.Slots.{Slot, writer_of, pruned, seen, is_bare, laid_back}
use Rattle.event_spec.specs.SlotSound.{Keyed, IsSoundSlot}
use Rattle.event_spec.specs.Lawful.{Among}
use Rattle.event_spec.specs.Follows.{IsLive, IsOlder, Shows, StandsBefore, Numbers, Follows, is_current}
use Rattle.core_laws.proofs.Slots.Ages.{older_pruned, older_than_pruned}
use Rattle.core_laws.proofs.Slots.Kept.{bare_is, shown_filled, number_filled, writer_filled}

module _ (slot : ℕ → ℕ → Slot) (places left : ℕ → ℤ → List ℕ) (desk : DeskState) (m : IsolationMachine) (f : Follows slot places desk m)
    (o : ℕ) (old : (stamp number : ℕ) → IsLive desk stamp number → o ≤ stamp)
    -- each slot is pruned or left as it was
    (slot' : ℕ → ℕ → Slot) (each : (t p : ℕ) → (slot' t p ≡ pruned o (slot t p)) ⊎ (slot' t p ≡ slot t p))
    (kept : (t p : ℕ) (key : ℤ) → Among p (left t key) → Among p (places t key) × (is_bare (slot' t p) ≡ false))
    (stays : (t p : ℕ) (key : ℤ) → Among p (places t key) → is_bare (slot' t p) ≡ false → Among p (left t key))
    (order : (t a b : ℕ) (key : ℤ) → StandsBefore a b (left t key) → StandsBefore a b (places t key)) where
  -- what a pruning leaves of a slot's property
  at_slot : (P : Slot → ℕ → ℕ → Type 0) → ((t p : ℕ) → P (pruned o (slot t p)) t p) → ((t p : ℕ) → P (slot t p) t p) → (t p : ℕ) → P (slot' t p) t p
  at_slot P a b t p = go (each t p)
    where
      go : (slot' t p ≡ pruned o (slot t p)) ⊎ (slot' t p ≡ slot t p) → P (slot' t p) t p
      go (inl e) = subst (λ s. P s t p) (sym e) (a t p)
      go (inr e) = subst (λ s. P s t p) (sym e) (b t p)

  -- No session with a snapshot that is not older sees anything else.
  pub prune_view : (s q t p : ℕ) → o ≤ s → seen (slot' t p) s q ≡ seen (slot t p) s q
  prune_view s q t p le = at_slot (λ x t p. seen x s q ≡ seen (slot t p) s q)
      (λ t p. visible_row-same laid_back (slot t p).row (rest o (slot t p).entries) (slot t p).entries s q (images_after_prune o (slot t p).entries s q (f.slots t p).lawful le)) (λ t p. refl) t p

  -- A pruning leaves the writer of each slot.
  same_writer : (t p : ℕ) → writer_of (slot' t p).entries ≡ writer_of (slot t p).entries
  same_writer = at_slot (λ x t p. writer_of x.entries ≡ writer_of (slot t p).entries) (λ t p. pruned_writer o (slot t p).entries (f.slots t p).lawful) (λ t p. refl)

  -- A pruning leaves the row of each slot.
  same_row : (t p : ℕ) → (slot' t p).row ≡ (slot t p).row
  same_row = at_slot (λ x t p. x.row ≡ (slot t p).row) (λ t p. refl) (λ t p. refl)

  -- A pruning leaves the numbers at each slot above a stamp that is not older.
  same_numbers : (s t p : ℕ) → o ≤ s → numbers_above (slot' t p).entries s ≡ numbers_above (slot t p).entries s
  same_numbers s t p le = at_slot (λ x t p. numbers_above x.entries s ≡ numbers_above (slot t p).entries s) (λ t p. numbers_pruned o s (slot t p).entries le) (λ t p. refl) t p

  -- A slot is current after the pruning exactly where it was before.
  same_current : (t p : ℕ) → is_current (slot' t p) ≡ is_current (slot t p)
  same_current t p =
      ap (λ row. is_current (record { row = row; entries = (slot' t p).entries })) (same_row t p)
      ∙ ap (λ w. is_some (slot t p).row || is_some w) (same_writer t p)

  -- A slot that is not bare after the pruning was not bare before it.
  filled_before : (t p : ℕ) → is_bare (slot' t p) ≡ false → is_bare (slot t p) ≡ false
  filled_before = at_slot (λ x t p. is_bare x ≡ false → is_bare (slot t p) ≡ false) (λ t p is. go (slot t p) (cases_Bool (is_bare (slot t p))) is) (λ t p is. is)
    where
      go : (s : Slot) → (is_bare s ≡ true) ⊎ (is_bare s ≡ false) → is_bare (pruned o s) ≡ false → is_bare s ≡ false
      go s (inl b) is = let same : is_bare (pruned o s) ≡ true = ap (λ x. is_bare (pruned o x)) (bare_is s b) in let never : true ≡ false = sym same ∙ is in cc
      go s (inr b) is = b

  -- a pruning keeps what holds between the core and the machine
  pub prune_keeps : Follows slot' left desk m
  prune_keeps = record {
    slots = at_slot (λ x t p. IsSoundSlot desk.newest desk.commits x) (λ t p. sound_pruned o desk.newest desk.commits (slot t p) (f.slots t p)) f.slots;
    index = record {
      keyed = λ t p key a. at_slot (λ x t p. Keyed key (slot t p).row (slot t p).entries → Keyed key x.row x.entries) (λ t p k. pruned_keyed key o (slot t p).row (slot t p).entries (f.slots t p).lawful k) (λ t p k. k) t p (f.index.keyed t p key (kept t p key a).0);
      filled = λ t p key a. (kept t p key a).1;
      listed = λ t p is. let b = f.index.listed t p (filled_before t p is) in (b.0, stays t p b.0 b.1 is);
      one_key = λ t p key other a b. f.index.one_key t p key other (kept t p key a).0 (kept t p other b).0;
    };
    desked = f.desked;
    shows = λ s n live. shows' s n (old s n live) (f.shows s n live);
    numbers = λ s n live. numbers' s n (old s n live) (f.numbers s n live);
    current = λ t key p p' a a' is is'. f.current t key p p' (kept t p key a).0 (kept t p' key a').0 (sym (same_current t p) ∙ is) (sym (same_current t p') ∙ is');
    own = record {
      writers = λ t p q w.
          let b = f.own.writers t p q (sym (same_writer t p) ∙ w) in
          (b.0, b.1, b.2, stays t p b.2 b.3 (writer_filled (slot' t p) q w), b.4 ∙ ap Some (sym (same_row t p)));
      written = λ q tr t key v is at.
          let b = f.own.written q tr t key v is at in
          let w = same_writer t b.0 ∙ b.2 in
          (b.0, stays t b.0 key b.1 (writer_filled (slot' t b.0) q w), w);
    };
    aged = λ t key a b x. aged' t a b (f.aged t key a b (order t a b key x));
  }
    where
      aged' : (t a b : ℕ) → IsOlder (slot t a) (slot t b) → IsOlder (slot' t a) (slot' t b)
      aged' t a b old =
          at_slot (λ y u p. IsOlder (slot' t a) (slot u p) → IsOlder (slot' t a) y) (λ u p. older_than_pruned o (slot' t a) (slot u p)) (λ u p z. z) t b
          (at_slot (λ y u p. IsOlder (slot u p) (slot t b) → IsOlder y (slot t b)) (λ u p. older_pruned o (slot u p) (slot t b) (f.slots u p).lawful) (λ u p z. z) t a old)

      shows' : (s n : ℕ) → o ≤ s → Shows slot places s (state_at m.history n) → Shows slot' left s (state_at m.history n)
      shows' s n le b = record {
        there = λ t p row is. b.there t p row (sym (prune_view s 0 t p le) ∙ is);
        all = λ t key row is. let x = b.all t key row is in let here = prune_view s 0 t x.0 le ∙ x.2 in (x.0, stays t x.0 key x.1 (shown_filled (slot' t x.0) s 0 (ap is_some here)), here);
        once = λ t key p p' a a' is is'. b.once t key p p' (kept t p key a).0 (kept t p' key a').0 (ap is_some (sym (prune_view s 0 t p le)) ∙ is) (ap is_some (sym (prune_view s 0 t p' le)) ∙ is');
      }

      numbers' : (s n : ℕ) → o ≤ s → Numbers slot places s n m.history → Numbers slot' left s n m.history
      numbers' s n le b = record {
        below = λ t key p k a x. b.below t key p k (kept t p key a).0 (subst (Among k) (same_numbers s t p le) x);
        last = λ t key last is.
            let x = b.last t key last is in
            let here = subst (Among last) (sym (same_numbers s t x.0 le)) x.2 in
            (x.0, stays t x.0 key x.1 (number_filled (slot' t x.0) s last here), here);
      }
