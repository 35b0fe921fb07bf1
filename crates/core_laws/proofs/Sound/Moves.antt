-- A move keeps what holds of heads and bodies, pair by pair.
use Rattle.std.proofs.Common.{◌≡◌, ◌≢◌, ℕ, ◌+◌, ◌<◌, ◌≤◌, Bool, true, false, cond, not, ◌&&◌, ◌==◌, List, [], ◌∷◌, length, refl, sym, ap, ◌∙◌, subst, arith}
use Rattle.std.proofs.lemmas.Bool.{and_parts}
use mathlib.Core.Logic.{inl, inr}
use Rattle.block_layout.specs.Place.{block_of, slot_of}
use Rattle.block_spec.specs.Bodies.{Body, has_row, is_empty, is_loose, slot_in, with_slot}
use Rattle.block_spec.specs.Slots.{Row, Slot, bare, is_bare, has_none, moved_in, moved_out}
use Rattle.cell_model.specs.Rows.{Fits}
use Rattle.core_laws.proofs.Events.Apart.{Apart, apart, apart_kept, kept_among}
use Rattle.core_laws.proofs.Events.Lists.{all_at}
use Rattle.core_laws.proofs.Events.Moved.{IsReady, Wide, coming, leaving, moving, moving_split, pair_desk, pair_follows, pair_leaves, pair_wide}
use Rattle.core_laws.proofs.Events.Naming.{follows_machine}
use Rattle.core_laws.proofs.Events.Steps.{ready, wide}
use Rattle.core_laws.proofs.Events.Slots.{write_else}
use Rattle.core_laws.specs.Events.Named.{FollowsMachine}
use Rattle.event_spec.specs.declared.event.Event.TheVariants as event
use Rattle.event_spec.specs.declared.event.MovePair.{MovePair}
use Rattle.event_spec.specs.declared.part.Head.{Head}
use Rattle.event_spec.specs.Effects.{after_move, at_both, effect, has_key, held_pairs, holds, may_move, moved_row, ticked}
use Rattle.event_spec.specs.Lawful.{Among, HasBlock, HasPlace, HasTable, IsLawful}
use Rattle.event_spec.specs.Parts.{Changes, Parts, Shape, names, each_changed, body_at, desk_at, head_at, is_head, slot_at}
use Rattle.event_spec.specs.Replay.{columns_in}
use Rattle.event_spec.specs.Sound.{Sound}
use Rattle.core_laws.specs.Following.Owned.{HasOpen}
use Rattle.isolation_spec.specs.Machine.{IsolationMachine}
use Rattle.core_laws.specs.Slots.Laws.{plain}
use Rattle.core_laws.proofs.Sound.Bodies.{row_fills}
use Rattle.core_laws.proofs.Sound.Calm.{at_calm, change_calm, fill_calm, index_all}
use Rattle.core_laws.proofs.Sound.Held.{SlotFits}
use Rattle.core_laws.proofs.Sound.Keeps.{nothing_keeps, one_keeps, shaped}
use Rattle.core_laws.proofs.Sound.Kept.{IsCalm, body_after, calm_keeps, calm_same, head_after}
use Rattle.core_laws.specs.Sound.Shaped.{Shaped}
use Rattle.txn_desk.specs.declared.Snapshot.{Snapshot}
use Rattle.txn_desk.specs.Desk.{DeskState}
use Rattle.txn_desk.specs.Oldest.{snapshot_of}

-- A block that gives and takes rows: it is loose, not the head and not empty.
pub record IsOpen (sh : Shape) (s : Parts) (t b : ℕ) : Type 0 where
  pub has : HasBlock sh t b
  pub loose : is_loose (body_at sh s t b).phase ≡ true
  pub other : b ≢ (head_at sh s t).block
  pub filled : is_empty (body_at sh s t b) ≡ false

-- A change of one slot leaves the phase of each body.
phase_at : (t b j : ℕ) (g : Slot → Slot) (u x : ℕ) (y : Body) → (at_both t b (with_slot j g) u x y).phase ≡ y.phase
phase_at t b j g u x y = go ((u == t) && (x == b))
  where
    go : (e : Bool) → (cond e (with_slot j g y) y).phase ≡ y.phase
    go true = refl
    go false = refl

-- what is open stays so where a slot of one calm body changes
open_after : (sh : Shape) (s : Parts) (ok : Shaped sh s) (c : Changes) (t b j : ℕ) (g : Slot → Slot)
    → ((u : ℕ) (h : Head) → c.head u h ≡ h) → ((u x : ℕ) (y : Body) → c.body u x y ≡ at_both t b (with_slot j g) u x y)
    → IsCalm sh s ok c t b (with_slot j g (body_at sh s t b))
    → (x : ℕ) → IsOpen sh s t x → IsOpen sh (each_changed c (names sh) s) t x
open_after sh s ok c t b j g heads bodies calm x old = record {
  has = old.has;
  loose = ap (λ (y : Body). is_loose y.phase) now ∙ ap is_loose (phase_at t b j g t x (body_at sh s t x)) ∙ old.loose;
  other = λ e. old.other (e ∙ ap (λ (h : Head). h.block) (head_after sh s ok c t old.has.0 ∙ heads t (head_at sh s t)));
  filled = ap is_empty now ∙ (at_calm sh s ok c t b (with_slot j g) calm t x old.has).empty ∙ old.filled;
}
  where
    now : body_at sh (each_changed c (names sh) s) t x ≡ at_both t b (with_slot j g) t x (body_at sh s t x)
    now = body_after sh s ok c t x old.has ∙ bodies t x (body_at sh s t x)

-- A slot from which a row that fits moves out has versions that fit.
out_fits : (sh : Shape) (t stamp : ℕ) (row : Row) (slot : Slot) → slot ≡ plain row → SlotFits sh t slot → SlotFits sh t (moved_out stamp row slot)
out_fits sh t stamp row slot is fit =
    let here : Fits (columns_in sh t) row = subst (SlotFits sh t) is fit in
    subst (λ slot. SlotFits sh t (moved_out stamp row slot)) (sym is) (tt, here, here)

-- A row that fits, moved into an empty slot, makes one that fits its table.
in_fits : (sh : Shape) (t stamp : ℕ) (row : Row) (slot : Slot) → slot ≡ bare → Fits (columns_in sh t) row → SlotFits sh t (moved_in stamp row slot)
in_fits sh t stamp row slot is fit = subst (λ slot. SlotFits sh t (moved_in stamp row slot)) (sym is) (fit, tt, tt)

-- Each slot of a block of the table has versions that fit.
slot_fit : (sh : Shape) (s : Parts) (ok : Shaped sh s) (t b j : ℕ) → HasBlock sh t b → SlotFits sh t (slot_in (body_at sh s t b) j)
slot_fit sh s ok t b j has = index_all (SlotFits sh t) (body_at sh s t b).slots bare j tt (ok.bodies t b has).versions

-- ---- one pair

module _ (sh : Shape) (s : Parts) (ok : Shaped sh s) (m : IsolationMachine) (f : FollowsMachine sh s m) (t stamp : ℕ) (has : HasTable sh t) (wide : Wide sh s t)
    (g : DeskState → DeskState) (is : g (desk_at sh s) ≡ record (desk_at sh s) { newest = stamp })
    (size : (desk : DeskState) → length (g desk).open_snapshots ≡ length desk.open_snapshots)
    (newest : (desk_at sh s).newest ≤ stamp)
    (later : (session : ℕ) (snapshot : Snapshot) → HasOpen (desk_at sh s) session snapshot → snapshot.stamp < stamp)
    (row : Row) (pair : MovePair) (ready' : IsReady sh s t row pair) (two : pair.source ≢ pair.target)
    (source : IsOpen sh s t (block_of pair.source)) (target : IsOpen sh s t (block_of pair.target)) where
  -- The changes by which the row leaves its slot.
  abbrev first : Changes
  first = leaving t stamp row g pair

  -- The changes by which the row comes to its new slot.
  abbrev second : Changes
  second = coming t stamp row pair

  -- The parts behind the first half of the move.
  abbrev half : Parts
  half = each_changed first (names sh) s

  -- The parts behind both halves of the move.
  abbrev both : Parts
  both = each_changed second (names sh) half

  -- A place that a table has is a slot of its block.
  inside_at : (p : ℕ) → HasPlace sh t p → slot_of p < length (body_at sh s t (block_of p)).slots
  inside_at p place = let less = place.1 in let same = (ok.bodies t (block_of p) place.0).slots in omega (arith, less, same)

  -- The slot from which the row moves has versions that fit.
  fit : SlotFits sh t (slot_at sh s t pair.source)
  fit = slot_fit sh s ok t (block_of pair.source) (slot_of pair.source) source.has

  -- The body that the row leaves is changed so that the heads are left.
  left_calm : IsCalm sh s ok first t (block_of pair.source) (with_slot (slot_of pair.source) (moved_out stamp row) (body_at sh s t (block_of pair.source)))
  left_calm = change_calm sh s ok first t (block_of pair.source) source.has (slot_of pair.source) (moved_out stamp row)
      (inside_at pair.source ready'.source_place) source.loose (ap is_bare ready'.full) refl (out_fits sh t stamp row (slot_at sh s t pair.source) ready'.full fit)

  -- Behind the first half heads and bodies are as they should be.
  half_shaped : Shaped sh half
  half_shaped = one_keeps sh s ok first t (block_of pair.source) (with_slot (slot_of pair.source) (moved_out stamp row)) (λ u h. refl) (λ u x y. refl) size left_calm

  -- Behind the first half blocks that may give and take rows may so still.
  half_open : (x : ℕ) → IsOpen sh s t x → IsOpen sh half t x
  half_open = open_after sh s ok first t (block_of pair.source) (slot_of pair.source) (moved_out stamp row) (λ u h. refl) (λ u x y. refl) left_calm

  -- the target is bare there still
  half_bare : slot_at sh half t pair.target ≡ bare
  half_bare = write_else sh s first (moved_out stamp row) t pair.source (wide (block_of pair.source) source.has).0 f.kinds (wide (block_of pair.source) source.has).1
      (let less = ready'.source_place.1 in let same = (wide (block_of pair.source) source.has).2 in omega (arith, less, same)) (λ u b x. refl) t pair.target (λ e x. two (sym x))
      ∙ ready'.free

  -- A pair's target is a slot of its block, also after the pair's source was emptied.
  inside_half : slot_of pair.target < length (body_at sh half t (block_of pair.target)).slots
  inside_half = let less = ready'.target_place.1 in let same = (half_shaped.bodies t (block_of pair.target) target.has).slots in omega (arith, less, same)

  -- The body to which the row comes is changed so that the heads are left.
  come_calm : IsCalm sh half half_shaped second t (block_of pair.target) (with_slot (slot_of pair.target) (moved_in stamp row) (body_at sh half t (block_of pair.target)))
  come_calm =
      let open' = half_open (block_of pair.target) target in
      fill_calm sh half half_shaped second t (block_of pair.target) target.has (slot_of pair.target) (moved_in stamp row) inside_half open'.loose open'.other open'.filled refl
      (in_fits sh t stamp row (slot_at sh half t pair.target) half_bare (subst (SlotFits sh t) ready'.full fit))

  -- one row that leaves its slot and comes to another keeps what holds of heads and bodies
  pub pair_shaped : Shaped sh (each_changed (coming t stamp row pair) (names sh) (each_changed (leaving t stamp row g pair) (names sh) s))
  pair_shaped = one_keeps sh half half_shaped second t (block_of pair.target) (with_slot (slot_of pair.target) (moved_in stamp row)) (λ u h. refl) (λ u x y. refl) (λ desk. refl) come_calm

  -- blocks that may give and take rows may so behind it still
  pub pair_open : (x : ℕ) → IsOpen sh s t x → IsOpen sh (each_changed (coming t stamp row pair) (names sh) (each_changed (leaving t stamp row g pair) (names sh) s)) t x
  pair_open x old = open_after sh half half_shaped second t (block_of pair.target) (slot_of pair.target) (moved_in stamp row) (λ u h. refl) (λ u x y. refl) come_calm x (half_open x old)

-- ---- all pairs

-- A move without a pair left keeps what holds of heads and bodies.
moving_none : (sh : Shape) (s : Parts) (ok : Shaped sh s) (t stamp : ℕ) (row : MovePair → Row) → Shaped sh (each_changed (moving t stamp row (λ desk. desk) []) (names sh) s)
moving_none sh s ok t stamp row = calm_keeps sh s ok (moving t stamp row (λ desk. desk) []) (λ u h. refl)
    (λ u b has. subst (IsCalm sh s ok (moving t stamp row (λ desk. desk) []) u b) (same (u == t) (body_at sh s u b)) (calm_same sh s ok (moving t stamp row (λ desk. desk) []) u b has))
    (λ desk. refl)
  where
    same : (e : Bool) (y : Body) → y ≡ cond e y y
    same true y = refl
    same false y = refl

-- a pair may move, and both its blocks are open
pub record MayMove (sh : Shape) (s : Parts) (t : ℕ) (row : Row) (pair : MovePair) : Type 0 where
  pub ready : IsReady sh s t row pair
  pub source : IsOpen sh s t (block_of pair.source)
  pub target : IsOpen sh s t (block_of pair.target)

module _ (sh : Shape) (t stamp : ℕ) (row : MovePair → Row) (m : IsolationMachine) (has : HasTable sh t) where
  -- The first pair of a move keeps heads and bodies where those behind it do.
  first_keeps : (s : Parts) → Shaped sh s → FollowsMachine sh s m → Wide sh s t
      → (g : DeskState → DeskState) → g (desk_at sh s) ≡ record (desk_at sh s) { newest = stamp }
      → ((desk : DeskState) → length (g desk).open_snapshots ≡ length desk.open_snapshots)
      → (desk_at sh s).newest ≤ stamp
      → ((session : ℕ) (snapshot : Snapshot) → HasOpen (desk_at sh s) session snapshot → snapshot.stamp < stamp)
      → (first : MovePair) (rest : List MovePair) → ((pair : MovePair) → Among pair (first ∷ rest) → MayMove sh s t (row pair) pair) → Apart (first ∷ rest)
      → ((s' : Parts) → Shaped sh s' → FollowsMachine sh s' m → Wide sh s' t → (desk_at sh s').newest ≡ stamp
      → ((session : ℕ) (snapshot : Snapshot) → HasOpen (desk_at sh s') session snapshot → snapshot.stamp < stamp)
      → ((pair : MovePair) → Among pair rest → MayMove sh s' t (row pair) pair)
      → Shaped sh (each_changed (moving t stamp row (λ desk. desk) rest) (names sh) s'))
      → Shaped sh (each_changed (moving t stamp row g (first ∷ rest)) (names sh) s)
  first_keeps s ok f wide g is size newest later first rest may far go =
      let one = may first (inl refl) in
      let desk_is = pair_desk sh s m f t stamp has wide g is newest later (row first) first one.ready far.0 in
      subst (Shaped sh) (sym (moving_split sh s t stamp row g first rest))
      (go (each_changed (coming t stamp (row first) first) (names sh) (each_changed (leaving t stamp (row first) g first) (names sh) s))
      (pair_shaped sh s ok m f t stamp has wide g is size newest later (row first) first one.ready far.0 one.source one.target)
      (pair_follows sh s m f t stamp has wide g is newest later (row first) first one.ready far.0)
      (pair_wide sh s m f t stamp has wide g is newest later (row first) first one.ready far.0)
      (ap (λ (desk : DeskState). desk.newest) desk_is)
      (λ session snapshot open'. later session snapshot (record { counted = open'.counted; is_open = sym (ap (λ (desk : DeskState). snapshot_of desk session) desk_is) ∙ open'.is_open }))
      (λ pair a. let old = may pair (inr a) in record {
        ready = pair_leaves sh s m f t stamp has wide g is newest later (row first) first one.ready far.0 (row pair) pair old.ready (far.1 pair a);
        source = pair_open sh s ok m f t stamp has wide g is size newest later (row first) first one.ready far.0 one.source one.target (block_of pair.source) old.source;
        target = pair_open sh s ok m f t stamp has wide g is size newest later (row first) first one.ready far.0 one.source one.target (block_of pair.target) old.target;
      }))

  -- The pairs of a move, one behind the other, keep what holds of heads and bodies.
  rest_keeps : (pairs : List MovePair) (s : Parts) → Shaped sh s → FollowsMachine sh s m → Wide sh s t
      → (desk_at sh s).newest ≡ stamp
      → ((session : ℕ) (snapshot : Snapshot) → HasOpen (desk_at sh s) session snapshot → snapshot.stamp < stamp)
      → ((pair : MovePair) → Among pair pairs → MayMove sh s t (row pair) pair) → Apart pairs
      → Shaped sh (each_changed (moving t stamp row (λ desk. desk) pairs) (names sh) s)
  rest_keeps [] s ok f wide newest later may far = moving_none sh s ok t stamp row
  rest_keeps (first ∷ rest) s ok f wide newest later may far =
      first_keeps s ok f wide (λ desk. desk) (ap (λ n. record (desk_at sh s) { newest = n }) newest) (λ desk. refl) (omega (arith, newest)) later first rest may far
      (λ s' ok' f' wide' newest' later' may'. rest_keeps rest s' ok' f' wide' newest' later' may' far.2)

  -- pair by pair a move keeps what holds of heads and bodies
  pub moves_keep : (s : Parts) → Shaped sh s → FollowsMachine sh s m → Wide sh s t → stamp ≡ (desk_at sh s).newest + 1
      → (first : MovePair) (rest : List MovePair) → ((pair : MovePair) → Among pair (first ∷ rest) → MayMove sh s t (row pair) pair) → Apart (first ∷ rest)
      → Shaped sh (each_changed (moving t stamp row ticked (first ∷ rest)) (names sh) s)
  moves_keep s ok f wide is first rest may far =
      first_keeps s ok f wide ticked (ap (λ n. record (desk_at sh s) { newest = n }) (sym is)) (λ desk. refl) (omega (arith, is))
      (λ session snapshot open'. let le = (f.follows.desked.bounds session snapshot open'.counted open'.is_open).0 in omega (arith, le, is))
      first rest may far
      (λ s' ok' f' wide' newest' later' may'. rest_keeps rest s' ok' f' wide' newest' later' may' far.2)

-- ---- the event

module _ (sh : Shape) (s : Parts) (ok : Sound sh s) where
  -- The machine that the core in front of the move follows.
  abbrev m : IsolationMachine
  m = ok.follows.0

  -- A block that may give and take rows is loose, not the head and not empty.
  open_block : (t b : ℕ) → HasBlock sh t b → may_move sh s t b ≡ true → IsOpen sh s t b
  open_block t b has may =
      let x = body_at sh s t b in
      let a = and_parts (is_loose (body_at sh s t b).phase && (body_at sh s t b).cooling && not (is_head sh s t b)) (has_row (body_at sh s t b)) may in
      let b' = and_parts (is_loose (body_at sh s t b).phase && (body_at sh s t b).cooling) (not (is_head sh s t b)) a.0 in
      let c = and_parts (is_loose (body_at sh s t b).phase) ((body_at sh s t b).cooling) b'.0 in
      record { has = has; loose = c.0; other = (ok.no_head t b has).cooling c.1; filled = row_fills (body_at sh s t b) a.1 }

  -- a lawful move keeps what holds of heads and bodies
  pub move_keeps : (t : ℕ) (moves : List MovePair) → IsLawful sh (event.Move t moves) s → Shaped sh (effect sh s (event.Move t moves))
  move_keeps t moves lawful = go (held_pairs sh s t moves) refl
    where
      far : Apart (held_pairs sh s t moves)
      far = apart_kept (holds sh s t) moves (apart moves lawful.1.2)

      each : (pair : MovePair) → Among pair (held_pairs sh s t moves) → MayMove sh s t (moved_row sh s t pair) pair
      each pair a =
          let k = kept_among (holds sh s t) moves pair a in
          let places = all_at (λ (pair : MovePair). HasPlace sh t pair.source × HasPlace sh t pair.target) moves pair lawful.1.1 k.0 in
          let both = blocks pair k.1 in
          record {
            ready = ready sh s ok ok.follows.0 (follows_machine sh s ok) t lawful.1.0 pair places.0 places.1 k.1;
            source = open_block t (block_of pair.source) places.0.0 both.0;
            target = open_block t (block_of pair.target) places.1.0 both.1;
          }
        where
          blocks : (pair : MovePair) → holds sh s t pair ≡ true → (may_move sh s t (block_of pair.source) ≡ true) × (may_move sh s t (block_of pair.target) ≡ true)
          blocks pair held =
              let a = and_parts (may_move sh s t (block_of pair.source) && may_move sh s t (block_of pair.target) && has_key pair.key (slot_at sh s t pair.source).row && has_none (slot_at sh s t pair.source).entries)
              (is_bare (slot_at sh s t pair.target)) held in
              let b = and_parts (may_move sh s t (block_of pair.source) && may_move sh s t (block_of pair.target) && has_key pair.key (slot_at sh s t pair.source).row) (has_none (slot_at sh s t pair.source).entries) a.0 in
              let c = and_parts (may_move sh s t (block_of pair.source) && may_move sh s t (block_of pair.target)) (has_key pair.key (slot_at sh s t pair.source).row) b.0 in
              and_parts (may_move sh s t (block_of pair.source)) (may_move sh s t (block_of pair.target)) c.0

      go : (pairs : List MovePair) → held_pairs sh s t moves ≡ pairs → Shaped sh (each_changed (after_move sh s t (held_pairs sh s t moves)) (names sh) s)
      go [] is = subst (λ pairs. Shaped sh (each_changed (after_move sh s t pairs) (names sh) s)) (sym is) (nothing_keeps sh s (shaped sh s ok))
      go (first ∷ rest) is = subst (λ pairs. Shaped sh (each_changed (after_move sh s t pairs) (names sh) s)) (sym is)
          (moves_keep sh t ((desk_at sh s).newest + 1) (moved_row sh s t) ok.follows.0 lawful.1.0 s (shaped sh s ok) (follows_machine sh s ok)
          (wide sh s ok ok.follows.0 (follows_machine sh s ok) t lawful.1.0) refl first rest (λ pair a. each pair (subst (Among pair) (sym is) a)) (subst Apart is far))
