-- What a move leaves of a session's writes.
use Rattle.std.proofs.Common.{◌≡◌, ◌⊎◌, ℕ, ◌+◌, ◌<◌, ◌≤◌, List, [], ◌∷◌, refl, sym, ap, ◌∙◌, subst, arith}
use mathlib.Core.Logic.{inl, inr}
use Rattle.block_spec.specs.Slots.{Row, Slot}
use Rattle.core_laws.proofs.Events.Apart.{Apart, apart, apart_kept, kept_among}
use Rattle.core_laws.proofs.Events.Lists.{all_at}
use Rattle.core_laws.proofs.Events.Moved.{IsReady, Wide, coming, leaving, moving, moving_none, moving_split, pair_desk, pair_follows, pair_leaves, pair_slots, pair_wide}
use Rattle.core_laws.proofs.Events.Naming.{follows_machine}
use Rattle.core_laws.proofs.Events.Steps.{ready, wide}
use Rattle.core_laws.proofs.Events.Still.{all_stay}
use Rattle.core_laws.specs.Events.Named.{FollowsMachine}
use Rattle.event_spec.specs.declared.event.Event.TheVariants as event
use Rattle.event_spec.specs.declared.event.MovePair.{MovePair}
use Rattle.event_spec.specs.Effects.{after_move, effect, held_pairs, holds, moved_row, ticked}
use Rattle.event_spec.specs.Lawful.{Among, HasPlace, HasTable, IsLawful, write_on}
use Rattle.event_spec.specs.Parts.{Parts, Shape, names, each_changed, desk_at, slot_at}
use Rattle.event_spec.specs.Sound.{Sound}
use Rattle.core_laws.proofs.Following.Writes.{apart as places_apart}
use Rattle.core_laws.specs.Following.Owned.{HasOpen}
use Rattle.core_laws.specs.Following.Steps.{IsMoved}
use Rattle.isolation_spec.specs.Machine.{IsolationMachine}
use Rattle.txn_desk.specs.declared.Snapshot.{Snapshot}
use Rattle.txn_desk.specs.Desk.{DeskState}
use Rattle.txn_desk.specs.Oldest.{snapshot_of}

-- one moved row: neither half is a session's
pair_writes : (before after : ℕ → ℕ → Slot) (moved t source target : ℕ) (row : Row) → IsMoved before after moved t source target row → (q : ℕ)
    → (u p : ℕ) → write_on q u p (after u p) ≡ write_on q u p (before u p)
pair_writes before after moved t source target row is q u p = go (places_apart u t p source) (places_apart u t p target)
  where
    go : ((u ≡ t) × (p ≡ source)) ⊎ ((u ≡ t) → (p ≡ source) → ⊥) → ((u ≡ t) × (p ≡ target)) ⊎ ((u ≡ t) → (p ≡ target) → ⊥) → write_on q u p (after u p) ≡ write_on q u p (before u p)
    go (inl e) z =
        ap (λ u'. write_on q u p (after u' p)) e.0 ∙ ap (λ p'. write_on q u p (after t p')) e.1 ∙ ap (λ (x : Slot). write_on q u p x) is.source_after
        ∙ ap (λ (x : Slot). write_on q u p x) (sym is.source_before)
        ∙ ap (λ p'. write_on q u p (before t p')) (sym e.1) ∙ ap (λ u'. write_on q u p (before u' p)) (sym e.0)
    go (inr n) (inl e) =
        ap (λ u'. write_on q u p (after u' p)) e.0 ∙ ap (λ p'. write_on q u p (after t p')) e.1 ∙ ap (λ (x : Slot). write_on q u p x) is.target_after
        ∙ ap (λ (x : Slot). write_on q u p x) (sym is.target_before)
        ∙ ap (λ p'. write_on q u p (before t p')) (sym e.1) ∙ ap (λ u'. write_on q u p (before u' p)) (sym e.0)
    go (inr n) (inr n') = ap (λ (x : Slot). write_on q u p x) (is.others u p n n')

module _ (sh : Shape) (t moved : ℕ) (row : MovePair → Row) (m : IsolationMachine) (has : HasTable sh t) (q : ℕ) where
  -- The first pair of a move leaves the write on each slot where those behind it do.
  first_writes : (s : Parts) → (f : FollowsMachine sh s m) → Wide sh s t
      → (g : DeskState → DeskState) → g (desk_at sh s) ≡ record (desk_at sh s) { newest = moved }
      → (desk_at sh s).newest ≤ moved
      → ((session : ℕ) (snapshot : Snapshot) → HasOpen (desk_at sh s) session snapshot → snapshot.stamp < moved)
      → (first : MovePair) (rest : List MovePair) → ((pair : MovePair) → Among pair (first ∷ rest) → IsReady sh s t (row pair) pair) → Apart (first ∷ rest)
      → ((s' : Parts) → FollowsMachine sh s' m → Wide sh s' t → (desk_at sh s').newest ≡ moved
      → ((session : ℕ) (snapshot : Snapshot) → HasOpen (desk_at sh s') session snapshot → snapshot.stamp < moved)
      → ((pair : MovePair) → Among pair rest → IsReady sh s' t (row pair) pair)
      → (u p : ℕ) → write_on q u p (slot_at sh (each_changed (moving t moved row (λ desk. desk) rest) (names sh) s') u p) ≡ write_on q u p (slot_at sh s' u p))
      → (u p : ℕ) → write_on q u p (slot_at sh (each_changed (moving t moved row g (first ∷ rest)) (names sh) s) u p) ≡ write_on q u p (slot_at sh s u p)
  first_writes s f wide g is newest later first rest each far go u p =
      let one = each first (inl refl) in
      let desk_is = pair_desk sh s m f t moved has wide g is newest later (row first) first one far.0 in
      ap (λ parts. write_on q u p (slot_at sh parts u p)) (moving_split sh s t moved row g first rest)
      ∙ go (each_changed (coming t moved (row first) first) (names sh) (each_changed (leaving t moved (row first) g first) (names sh) s))
      (pair_follows sh s m f t moved has wide g is newest later (row first) first one far.0)
      (pair_wide sh s m f t moved has wide g is newest later (row first) first one far.0)
      (ap (λ (desk : DeskState). desk.newest) desk_is)
      (λ session snapshot open'. later session snapshot (record { counted = open'.counted; is_open = sym (ap (λ (desk : DeskState). snapshot_of desk session) desk_is) ∙ open'.is_open }))
      (λ pair a. pair_leaves sh s m f t moved has wide g is newest later (row first) first one far.0 (row pair) pair (each pair (inr a)) (far.1 pair a))
      u p
      ∙ pair_writes (slot_at sh s) (slot_at sh (each_changed (coming t moved (row first) first) (names sh) (each_changed (leaving t moved (row first) g first) (names sh) s)))
      moved t first.source first.target (row first) (pair_slots sh s m f t moved has wide g is newest later (row first) first one far.0) q u p

  -- The pairs of a move, one behind the other, leave the write on each slot.
  rest_writes : (pairs : List MovePair) (s : Parts) → FollowsMachine sh s m → Wide sh s t → (desk_at sh s).newest ≡ moved
      → ((session : ℕ) (snapshot : Snapshot) → HasOpen (desk_at sh s) session snapshot → snapshot.stamp < moved)
      → ((pair : MovePair) → Among pair pairs → IsReady sh s t (row pair) pair) → Apart pairs
      → (u p : ℕ) → write_on q u p (slot_at sh (each_changed (moving t moved row (λ desk. desk) pairs) (names sh) s) u p) ≡ write_on q u p (slot_at sh s u p)
  rest_writes [] s f wide newest later each far u p = ap (λ parts. write_on q u p (slot_at sh parts u p)) (moving_none sh s t moved row ∙ all_stay (names sh) s)
  rest_writes (first ∷ rest) s f wide newest later each far u p =
      first_writes s f wide (λ desk. desk) (ap (λ n. record (desk_at sh s) { newest = n }) newest) (omega (arith, newest)) later first rest each far
      (λ s' f' wide' newest' later' each'. rest_writes rest s' f' wide' newest' later' each' far.2) u p

-- A move leaves the write on each slot.
pub move_writes : (sh : Shape) (s : Parts) (ok : Sound sh s) (q t : ℕ) (moves : List MovePair)
    → IsLawful sh (event.Move t moves) s → (u p : ℕ) → write_on q u p (slot_at sh (effect sh s (event.Move t moves)) u p) ≡ write_on q u p (slot_at sh s u p)
move_writes sh s ok q t moves lawful u p = go (held_pairs sh s t moves) refl
  where
    f : FollowsMachine sh s ok.follows.0
    f = follows_machine sh s ok

    far : Apart (held_pairs sh s t moves)
    far = apart_kept (holds sh s t) moves (apart moves lawful.1.2)

    each : (pair : MovePair) → Among pair (held_pairs sh s t moves) → IsReady sh s t (moved_row sh s t pair) pair
    each pair a =
        let k = kept_among (holds sh s t) moves pair a in
        let places = all_at (λ (pair : MovePair). HasPlace sh t pair.source × HasPlace sh t pair.target) moves pair lawful.1.1 k.0 in
        ready sh s ok ok.follows.0 (follows_machine sh s ok) t lawful.1.0 pair places.0 places.1 k.1

    later : (session : ℕ) (other : Snapshot) → HasOpen (desk_at sh s) session other → other.stamp < (desk_at sh s).newest + 1
    later session other has = let le = (ok.follows.1.desked.bounds session other has.counted has.is_open).0 in omega (arith, le)

    go : (pairs : List MovePair) → held_pairs sh s t moves ≡ pairs
        → write_on q u p (slot_at sh (each_changed (after_move sh s t (held_pairs sh s t moves)) (names sh) s) u p) ≡ write_on q u p (slot_at sh s u p)
    go [] is = subst (λ pairs. write_on q u p (slot_at sh (each_changed (after_move sh s t pairs) (names sh) s) u p) ≡ write_on q u p (slot_at sh s u p)) (sym is)
        (ap (λ parts. write_on q u p (slot_at sh parts u p)) (all_stay (names sh) s))
    go (first ∷ rest) is = subst (λ pairs. write_on q u p (slot_at sh (each_changed (after_move sh s t pairs) (names sh) s) u p) ≡ write_on q u p (slot_at sh s u p)) (sym is)
        (first_writes sh t ((desk_at sh s).newest + 1) (moved_row sh s t) ok.follows.0 lawful.1.0 q s (follows_machine sh s ok)
        (wide sh s ok ok.follows.0 (follows_machine sh s ok) t lawful.1.0) ticked refl (omega arith) later first rest
        (λ pair a. each pair (subst (Among pair) (sym is) a)) (subst Apart is far)
        (λ s' f' wide' newest' later' each'. rest_writes sh t ((desk_at sh s).newest + 1) (moved_row sh s t) ok.follows.0 lawful.1.0 q rest s' f' wide' newest' later' each' (subst Apart is far).2) u p)
