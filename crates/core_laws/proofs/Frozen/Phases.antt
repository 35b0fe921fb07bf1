-- What may become of a block's phase by one event.
use Rattle.std.proofs.Common.{◌≡◌, ◌⊎◌, ℕ, ◌+◌, ◌<◌, Bool, true, false, cond, ◌&&◌, ◌==◌, List, [], ◌∷◌, map, fold, None, is_none, unwrap_or, refl, ◌∙◌, arith, Option, Some}
use mathlib.Core.Logic.{inl, inr}
use Rattle.std.specs.Prelude.{Result, Ok, Err}
use Rattle.block_layout.specs.Place.{block_of, slot_of}
use Rattle.block_spec.specs.Bodies.{Body, committed_in, imaged, imaged_phase, is_written_by, modified, observed, pruned_in, rolled_back_in, seal_fault, sealed, thawed, with_slot}
use Rattle.block_spec.specs.declared.change.Change.{Change}
use Rattle.block_spec.specs.declared.change.Change.TheVariants as change
use Rattle.block_spec.specs.Slots.{Row, moved_in, moved_out, rolled_back, written}
use Rattle.core_laws.proofs.Events.Moved.{halves}
use Rattle.core_laws.specs.Frozen.Laws.{stamp_of}
use Rattle.event_spec.specs.declared.event.Event.TheVariants as event
use Rattle.event_spec.specs.declared.event.MovePair.{MovePair}
use Rattle.event_spec.specs.declared.own.OwnKey.{OwnKey}
use Rattle.event_spec.specs.declared.reply.WriteFault.{WriteFault}
use Rattle.event_spec.specs.Effects.{CoreEvent, after_change, after_insert, after_judged, after_move, at_both, change_judged, changes_of, held_pairs, insert_judged, is_some_write, moved_row, stale_in}
use Rattle.event_spec.specs.Judged.{differences}
use Rattle.event_spec.specs.Parts.{Parts, Shape, nothing, body_at, desk_at, is_head, slot_at}
use Rattle.isolation_spec.specs.declared.read.Read.{Read}
use Rattle.isolation_spec.specs.Contents.{key_of}

-- What may become of a body's phase: one with a stamp above the body's last, one without a stamp,
-- that with an image, or the phase that it had.
abbrev pub Goes : Body → Body → Type 0
Goes y z = (y.last < z.last) ⊎ ((stamp_of z.phase ≡ None) ⊎ ((z.phase ≡ imaged_phase y.phase) ⊎ (z.phase ≡ y.phase)))

-- A body's phase may be the one that it had.
pub stays : (y z : Body) → z.phase ≡ y.phase → Goes y z
stays y z same = inr (inr (inr same))

-- A body may get an image.
images : (y z : Body) → z.phase ≡ imaged_phase y.phase → Goes y z
images y z is = inr (inr (inl is))

-- A body may lose its stamp.
loses : (y z : Body) → stamp_of z.phase ≡ None → Goes y z
loses y z none = inr (inl none)

-- A body may get a stamp above its last.
rises : (y z : Body) → y.last < z.last → Goes y z
rises y z above = inl above

-- a change of one body
at_one : (t b : ℕ) (g : Body → Body) → ((y : Body) → Goes y (g y)) → (u x : ℕ) (y : Body) → Goes y (at_both t b g u x y)
at_one t b g goes u x y = go ((u == t) && (x == b))
  where
    go : (e : Bool) → Goes y (cond e (g y) y)
    go true = goes y
    go false = stays y y refl

module _ (sh : Shape) (s : Parts) (t b : ℕ) where
  -- An insert leaves each block's phase.
  insert_goes : (own : OwnKey) (u : ℕ) (row : Row) (r : Result ℕ WriteFault) (y : Body) → Goes y ((after_insert sh s own u row r).body t b y)
  insert_goes own u row (Err fault) y = stays y y refl
  insert_goes own u row (Ok p) y = at_one u (block_of p) (with_slot (slot_of p) (written own.session (change.Put row))) (λ y. stays y (with_slot (slot_of p) (written own.session (change.Put row)) y) refl) t b y

  -- A change of a key, however it is judged, leaves each block's phase.
  change_goes : (own : OwnKey) (u : ℕ) (choice : Row → Change) (r : Result ℕ WriteFault) (y : Body) → Goes y ((after_change sh s own u choice r).body t b y)
  change_goes own u choice (Err fault) y = stays y y refl
  change_goes own u choice (Ok p) y = at_one u (block_of p) (with_slot (slot_of p) (written own.session (choice (unwrap_or (slot_at sh s u p).row []))))
      (λ y. stays y (with_slot (slot_of p) (written own.session (choice (unwrap_or (slot_at sh s u p).row []))) y) refl) t b y

  -- A commit, with writes or without, leaves each block's phase.
  commit_goes : (wrote : Bool) (q at number : ℕ) (y : Body) → Goes y ((cond wrote (committed_in q at number) (λ (body : Body). body)) y)
  commit_goes true q at number y = stays y (committed_in q at number y) refl
  commit_goes false q at number y = stays y y refl

  -- A roll-back leaves each block's phase.
  abort_goes : (q : ℕ) (y : Body) → Goes y (rolled_back_in q y)
  abort_goes q y = go (is_written_by q y)
    where
      go : (e : Bool) → Goes y (cond e (record (modified y) { slots = map (rolled_back q) y.slots }) y)
      go true = stays y (record (modified y) { slots = map (rolled_back q) y.slots }) refl
      go false = stays y y refl

  -- One pair of a move leaves a body's phase.
  half_phase : (at : ℕ) (row : MovePair → Row) (pair : MovePair) (y : Body) → (halves at row b y pair).phase ≡ y.phase
  half_phase at row pair y = go (block_of pair.target == b) (block_of pair.source == b)
    where
      go : (m n : Bool) → (cond m (with_slot (slot_of pair.target) (moved_in at (row pair)) (cond n (with_slot (slot_of pair.source) (moved_out at (row pair)) y) y)) (cond n (with_slot (slot_of pair.source) (moved_out at (row pair)) y) y)).phase ≡ y.phase
      go true true = refl
      go true false = refl
      go false true = refl
      go false false = refl

  -- Pairs of a move, one after another, leave a body's phase.
  halves_phase : (at : ℕ) (row : MovePair → Row) (pairs : List MovePair) (y : Body) → (fold (halves at row b) y pairs).phase ≡ y.phase
  halves_phase at row [] y = refl
  halves_phase at row (first ∷ rest) y = halves_phase at row rest (halves at row b y first) ∙ half_phase at row first y

  -- A move of some pairs leaves each block's phase.
  move_goes : (u : ℕ) (pairs : List MovePair) (y : Body) → Goes y ((after_move sh s u pairs).body t b y)
  move_goes u [] y = stays y y refl
  move_goes u (first ∷ rest) y = go (t == u)
    where
      go : (e : Bool) → Goes y (cond e (fold (halves ((desk_at sh s).newest + 1) (moved_row sh s u) b) y (first ∷ rest)) y)
      go true = stays y (fold (halves ((desk_at sh s).newest + 1) (moved_row sh s u) b) y (first ∷ rest)) (halves_phase ((desk_at sh s).newest + 1) (moved_row sh s u) (first ∷ rest) y)
      go false = stays y y refl

  -- A seal gives a stamp above the block's last.
  seal_goes : (u x : ℕ) (y : Body) → Goes y ((changes_of sh s (event.Seal u x)).body t b y)
  seal_goes u x y = go (is_none (seal_fault (is_head sh s u x) (body_at sh s u x)))
    where
      go : (e : Bool) → Goes y ((cond e (record nothing { body = at_both u x sealed }) nothing).body t b y)
      go true = at_one u x sealed (λ y. rises y (sealed y) (omega arith)) t b y
      go false = stays y y refl

  -- No event gives a block a stamp that is not above its last, but the one that it has, and none
  -- takes an image from one that keeps its stamp.
  pub event_goes : (e : CoreEvent) (y : Body) → Goes y ((changes_of sh s e).body t b y)
  event_goes (event.Begin q) y = stays y y refl
  event_goes (event.Get own u key) y = stays y y refl
  event_goes (event.Insert own u row) y = insert_goes own u row (insert_judged sh s own u (key_of row)) y
  event_goes (event.Update own u row) y = change_goes own u (λ old. change.Patch (differences 0 old row)) (change_judged sh s own u (key_of row)) y
  event_goes (event.Delete own u key) y = change_goes own u (λ old. change.Gone) (change_judged sh s own u key) y
  event_goes (event.Read own u x) y = stays y y refl
  event_goes (event.Range own u low high) y = stays y y refl
  event_goes (event.Commit own reads) y = judged (stale_in sh s own reads)
    where
      judged : (found : Option (Read × ℕ)) → Goes y ((after_judged sh s own found).body t b y)
      judged None = commit_goes (is_some_write own.writes) own.session ((desk_at sh s).newest + 1) ((desk_at sh s).commits + 1) y
      judged (Some stale) = stays y y refl
  event_goes (event.Abort own) y = abort_goes own.session y
  event_goes event.Oldest y = stays y y refl
  event_goes (event.Observe u x) y = at_one u x (observed (is_head sh s u x)) (λ y. stays y (observed (is_head sh s u x) y) refl) t b y
  event_goes (event.Prune u x oldest) y = at_one u x (pruned_in oldest) (λ y. stays y (pruned_in oldest y) refl) t b y
  event_goes (event.Look u x) y = stays y y refl
  event_goes (event.Move u moves) y = move_goes u (held_pairs sh s u moves) y
  event_goes (event.Seal u x) y = seal_goes u x y
  event_goes (event.Image u x image) y = at_one u x imaged (λ y. images y (imaged y) refl) t b y
  event_goes (event.Thaw u x) y = at_one u x thawed (λ y. loses y (thawed y) refl) t b y
