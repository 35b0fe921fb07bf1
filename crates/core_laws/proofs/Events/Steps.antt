-- Each lawful event of a sound state, to the machine.
use Rattle.std.proofs.lemmas.List.Elements.{All-nil, All-cons, All-head, All-tail}
use Rattle.core_laws.proofs.Slots.Kept.{bare_is}
use Rattle.undo_chain.specs.declared.undo.Undo.{Undo}
use Rattle.block_spec.specs.declared.change.Before.{Before}
use Rattle.std.proofs.Common.{◌≡◌, ◌≢◌, ℕ, zero, suc, ◌+◌, ◌-◌, ◌<◌, ◌≤◌, ℤ, Bool, true, false, cond, ◌&&◌, List, [], ◌∷◌, Option, None, Some, option_map, length, get_or, unwrap_or, refl, sym, ap, ◌∙◌, subst, arith}
use mathlib.Core.Logic.{inl, inr}
use Rattle.std.specs.Prelude.{All, IfSome, is_none}
use Rattle.std.proofs.lemmas.Bool.Decides.{Decides-int_eq}
use Rattle.std.proofs.lemmas.Bool.{and_parts}
use Rattle.block_layout.specs.Place.{block_of}
use Rattle.block_spec.specs.Bodies.{seal_fault, sealed, imaged, thawed, observed}
use Rattle.block_spec.specs.Slots.{Slot, Row, is_bare, has_none}
use Rattle.cell_model.specs.Rows.{Fits}
use Rattle.core_laws.proofs.Events.Aborted.{abort_serves}
use Rattle.core_laws.proofs.Events.Apart.{Apart, apart, apart_kept, kept_among}
use Rattle.core_laws.proofs.Events.Changed.{delete_serves, update_serves}
use Rattle.core_laws.proofs.Events.Fitting.{found_fits, fits_columns, fits_length}
use Rattle.core_laws.proofs.Events.Heads.{next_is_there}
use Rattle.core_laws.proofs.Events.Inserted.{insert_served}
use Rattle.core_laws.proofs.Events.Lists.{all_at}
use Rattle.core_laws.proofs.Events.Moved.{Wide, IsReady, pair_follows, pair_wide, pair_desk, pair_leaves, rest_follows, moving, moving_split, leaving, coming}
use Rattle.core_laws.proofs.Events.Naming.{body_there}
use Rattle.core_laws.proofs.Events.Owners.{key_open, key_slot, all_open, all_slots, transaction_is, open_with}
use Rattle.core_laws.proofs.Events.Pruned.{prune_followed}
use Rattle.core_laws.proofs.Events.Ranged.{range_serves}
use Rattle.core_laws.proofs.Events.Served.{begin_serves, get_serves, commit_served}
use Rattle.core_laws.proofs.Events.Still.{stays}
use Rattle.core_laws.proofs.Events.Upkeep.{slots_kept}
use Rattle.core_laws.specs.Events.Laws.{IsStep, Steps, command_in}
use Rattle.core_laws.specs.Events.Named.{FollowsMachine}
use Rattle.event_spec.specs.declared.event.Event.TheVariants as event
use Rattle.event_spec.specs.declared.event.MovePair.{MovePair}
use Rattle.event_spec.specs.Effects.{CoreEvent, after_move, at_both, effect, has_key, held_pairs, holds, may_move, moved_row, ticked}
use Rattle.event_spec.specs.Follows.{IsLive}
use Rattle.event_spec.specs.Lawful.{Among, HasTable, HasPlace, IsLawful, reads_handed, transaction, writes_of}
use Rattle.event_spec.specs.Parts.{Parts, Shape, nothing, each_changed, names, body_from, is_head, body_at, slot_at, places_at, desk_at}
use Rattle.event_spec.specs.Replies.{reply_to}
use Rattle.event_spec.specs.Replay.{columns_in}
use Rattle.event_spec.specs.Sound.{Sound, IsShape}
use Rattle.core_laws.proofs.Following.Desks.{none_not}
use Rattle.core_laws.specs.Following.Owned.{HasOpen}
use Rattle.isolation_spec.specs.Contents.{key_of}
use Rattle.isolation_spec.specs.Machine.{IsolationMachine}
use Rattle.core_laws.proofs.Slots.Endings.{keyed_row}
use Rattle.core_laws.proofs.Slots.Keys.{HasKey}
use Rattle.core_laws.specs.Slots.Laws.{plain}
use Rattle.txn_desk.specs.declared.Snapshot.{Snapshot}
use Rattle.txn_desk.specs.Desk.{DeskState}
use Rattle.txn_desk.specs.Oldest.{HasPass, snapshot_of, oldest_of, least_or, open_starts}
use Rattle.txn_desk.proofs.LeastStart.{BeganFrom, least_below}

-- The machine may step as the event replies, and the core after it follows that.
abbrev Goal : Shape → Parts → CoreEvent → IsolationMachine → Type 0
Goal sh s e m = (next : IsolationMachine) × IsStep (command_in e) (reads_handed e) m (reply_to sh s e) next × FollowsMachine sh (effect sh s e) next

-- ---- a stamp that the oldest snapshot is not below

module _ (desk : DeskState) (bounds : (session : ℕ) (snapshot : Snapshot) → 1 ≤ session → snapshot_of desk session ≡ Some snapshot → snapshot.stamp ≤ desk.newest) where
  -- What holds at each place of a list holds of all of it.
  all_by_index : {X : Type 0} (P : Option X → Type 0) (xs : List (Option X)) → ((i : ℕ) → i < length xs → P (get_or xs i None)) → All P xs
  all_by_index P [] each = All-nil P
  all_by_index P (x ∷ xs) each =
      All-cons P x xs (each 0 (omega arith)) (all_by_index P xs (λ i less. each (suc i) (omega (arith, less))))

  -- What holds of all of a list, and of nothing, holds at any place.
  all_index : {X : Type 0} (P : Option X → Type 0) (xs : List (Option X)) (i : ℕ) → All P xs → P None → P (get_or xs i None)
  all_index P [] i all none = none
  all_index P (x ∷ xs) zero all none = All-head P x xs all
  all_index P (x ∷ xs) (suc i) all none = all_index P xs i (All-tail P x xs all) none

  -- No snapshot that is open has a stamp above the newest.
  begun : All (λ (o : Option Snapshot). IfSome o (λ snapshot. snapshot.stamp ≤ desk.newest)) desk.open_snapshots
  begun = all_by_index (λ o. IfSome o (λ snapshot. snapshot.stamp ≤ desk.newest)) desk.open_snapshots (λ i less. at i (get_or desk.open_snapshots i None) refl)
    where
      at : (i : ℕ) (o : Option Snapshot) → get_or desk.open_snapshots i None ≡ o → IfSome (get_or desk.open_snapshots i None) (λ snapshot. snapshot.stamp ≤ desk.newest)
      at i None is = subst (λ o. IfSome o (λ (snapshot : Snapshot). snapshot.stamp ≤ desk.newest)) (sym is) tt
      at i (Some snapshot) is =
          let here : (i + 1) - 1 ≡ i = omega arith in
          subst (λ o. IfSome o (λ (snapshot : Snapshot). snapshot.stamp ≤ desk.newest)) (sym is)
          (bounds (i + 1) snapshot (omega arith) (ap (λ j. get_or desk.open_snapshots j None) here ∙ is))

  -- what is not above the oldest stamp that the desk knows is not above any live one
  pub live_above : (oldest : ℕ) → oldest ≤ oldest_of desk → (stamp number : ℕ) → IsLive desk stamp number → oldest ≤ stamp
  live_above oldest low stamp number (inl both) =
      let le = (least_below desk.newest desk.open_snapshots begun).0 in let at = both.0 in
      omega (arith, low, le, at)
  live_above oldest low stamp number (inr open') =
      let each : BeganFrom (least_or (open_starts desk.open_snapshots) desk.newest) (snapshot_of desk open'.0) =
      all_index (BeganFrom (least_or (open_starts desk.open_snapshots) desk.newest)) desk.open_snapshots (open'.0 - 1) (least_below desk.newest desk.open_snapshots begun).1 tt in
      let le : least_or (open_starts desk.open_snapshots) desk.newest ≤ stamp = subst (BeganFrom (least_or (open_starts desk.open_snapshots) desk.newest)) open'.2 each in
      omega (arith, low, le)

-- ---- a move

-- A slot with the key's row and no entry is the plain one of a row with this key.
plain_is : (key : ℤ) (slot : Slot) → has_key key slot.row ≡ true → has_none slot.entries ≡ true → (slot ≡ plain (unwrap_or slot.row [])) × (key_of (unwrap_or slot.row []) ≡ key)
plain_is key slot k n = go slot.row slot.entries refl refl k n
  where
    go : (row : Option Row) (es : List (Undo Before)) → slot.row ≡ row → slot.entries ≡ es → has_key key row ≡ true → has_none es ≡ true
        → (slot ≡ plain (unwrap_or slot.row [])) × (key_of (unwrap_or slot.row []) ≡ key)
    go None es r e k n = cc
    go (Some row) (x ∷ es) r e k n = cc
    go (Some row) [] r e k n = (
      (λ i. record { row = (r ∙ ap (λ (o : Option Row). Some (unwrap_or o [])) (sym r)) i; entries = e i }),
      ap (λ (o : Option Row). key_of (unwrap_or o [])) r ∙ (Decides-int_eq (key_of row) key).0 k,
    )

-- A plain slot of a row is not bare.
filled_plain : (row : Row) (slot : Slot) → slot ≡ plain row → is_bare slot ≡ false
filled_plain row slot is = ap is_bare is

module _ (sh : Shape) (s : Parts) (ok : Sound sh s) (m : IsolationMachine) (f : FollowsMachine sh s m) (t : ℕ) (has : HasTable sh t) where
  -- each body of the table has its slots
  pub wide : Wide sh s t
  wide = λ b has. let body = body_there sh s ok.kinds t b has in
      (body.0, body.1, ap (λ o. length (body_from o).slots) (sym body.1) ∙ (ok.bodies t b has).slots)

  -- a pair that holds is ready to move
  pub ready : (pair : MovePair) → HasPlace sh t pair.source → HasPlace sh t pair.target → holds sh s t pair ≡ true → IsReady sh s t (moved_row sh s t pair) pair
  ready pair a b held = record {
    source_place = a;
    target_place = b;
    full = full.0;
    listed = subst (λ k. Among pair.source (places_at sh s t k)) key_is listed.1;
    free = bare_is (slot_at sh s t pair.target) last.1;
  }
    where
      last : ((may_move sh s t (block_of pair.source) && may_move sh s t (block_of pair.target)
          && has_key pair.key (slot_at sh s t pair.source).row && has_none (slot_at sh s t pair.source).entries) ≡ true)
          × (is_bare (slot_at sh s t pair.target) ≡ true)
      last = and_parts (may_move sh s t (block_of pair.source) && may_move sh s t (block_of pair.target)
          && has_key pair.key (slot_at sh s t pair.source).row && has_none (slot_at sh s t pair.source).entries)
          (is_bare (slot_at sh s t pair.target)) held

      full : (slot_at sh s t pair.source ≡ plain (moved_row sh s t pair)) × (key_of (moved_row sh s t pair) ≡ pair.key)
      full = let none = and_parts (may_move sh s t (block_of pair.source) && may_move sh s t (block_of pair.target) && has_key pair.key (slot_at sh s t pair.source).row)
          (has_none (slot_at sh s t pair.source).entries) last.0 in
          let key = and_parts (may_move sh s t (block_of pair.source) && may_move sh s t (block_of pair.target)) (has_key pair.key (slot_at sh s t pair.source).row) none.0 in
          plain_is pair.key (slot_at sh s t pair.source) key.1 none.1

      listed : (key : ℤ) × Among pair.source (places_at sh s t key)
      listed = f.follows.index.listed t pair.source (filled_plain (moved_row sh s t pair) (slot_at sh s t pair.source) full.0)

      key_is : listed.0 ≡ pair.key
      key_is =
          sym (subst (λ (x : Slot). HasKey listed.0 x.row) full.0
          (keyed_row listed.0 (slot_at sh s t pair.source).row (slot_at sh s t pair.source).entries (f.follows.index.keyed t pair.source listed.0 listed.1)))
          ∙ full.1

  -- the pairs that hold, one after another
  module _ (stamp : ℕ) (stamp_is : stamp ≡ (desk_at sh s).newest + 1) where
    later : (session : ℕ) (snapshot : Snapshot) → HasOpen (desk_at sh s) session snapshot → snapshot.stamp < stamp
    later session snapshot open' =
        let le = (f.follows.desked.bounds session snapshot open'.counted open'.is_open).0 in omega (arith, le, stamp_is)

    -- After some pairs moved, with one stamp, the parts still follow the machine.
    pub pairs_follow : (first : MovePair) (rest : List MovePair)
        → ((pair : MovePair) → Among pair (first ∷ rest) → IsReady sh s t (moved_row sh s t pair) pair) → Apart (first ∷ rest)
        → (g : DeskState → DeskState) → g (desk_at sh s) ≡ record (desk_at sh s) { newest = stamp }
        → FollowsMachine sh (each_changed (moving t stamp (moved_row sh s t) g (first ∷ rest)) (names sh) s) m
    pairs_follow first rest all far g is =
        subst (λ parts. FollowsMachine sh parts m) (sym (moving_split sh s t stamp (moved_row sh s t) g first rest))
        (rest_follows sh t stamp (moved_row sh s t) m has rest
        (each_changed (coming t stamp (moved_row sh s t first) first) (names sh) (each_changed (leaving t stamp (moved_row sh s t first) g first) (names sh) s))
        (pair_follows sh s m f t stamp has wide g is (omega (arith, stamp_is)) later (moved_row sh s t first) first (all first (inl refl)) far.0)
        (pair_wide sh s m f t stamp has wide g is (omega (arith, stamp_is)) later (moved_row sh s t first) first (all first (inl refl)) far.0)
        (ap (λ (desk : DeskState). desk.newest) (desk_is first (all first (inl refl)) far.0 g is))
        (λ session snapshot open'. later session snapshot (record {
          counted = open'.counted;
          is_open = sym (ap (λ (desk : DeskState). snapshot_of desk session) (desk_is first (all first (inl refl)) far.0 g is)) ∙ open'.is_open;
        }))
        (λ pair a. pair_leaves sh s m f t stamp has wide g is (omega (arith, stamp_is)) later (moved_row sh s t first) first (all first (inl refl)) far.0
        (moved_row sh s t pair) pair (all pair (inr a)) (far.1 pair a))
        far.2)
      where
        desk_is : (first : MovePair) → IsReady sh s t (moved_row sh s t first) first → first.source ≢ first.target → (g : DeskState → DeskState)
            → (g (desk_at sh s) ≡ record (desk_at sh s) { newest = stamp })
            → desk_at sh (each_changed (coming t stamp (moved_row sh s t first) first) (names sh) (each_changed (leaving t stamp (moved_row sh s t first) g first) (names sh) s)) ≡ record (desk_at sh s) { newest = stamp }
        desk_is first one two g is = pair_desk sh s m f t stamp has wide g is (omega (arith, stamp_is)) later (moved_row sh s t first) first one two

-- ---- the events

module _ (sh : Shape) (s : Parts) (shape : IsShape sh) (ok : Sound sh s) (m : IsolationMachine) (f : FollowsMachine sh s m) where
  -- A lawful move is as the machine's.
  move_step : (t : ℕ) (moves : List MovePair) → IsLawful sh (event.Move t moves) s → Goal sh s (event.Move t moves) m
  move_step t moves lawful = go (held_pairs sh s t moves) refl
    where
      far : Apart (held_pairs sh s t moves)
      far = apart_kept (holds sh s t) moves (apart moves lawful.1.2)

      each : (pair : MovePair) → Among pair (held_pairs sh s t moves) → IsReady sh s t (moved_row sh s t pair) pair
      each pair a =
          let k = kept_among (holds sh s t) moves pair a in
          let places = all_at (λ (pair : MovePair). HasPlace sh t pair.source × HasPlace sh t pair.target) moves pair lawful.1.1 k.0 in
          ready sh s ok m f t lawful.1.0 pair places.0 places.1 k.1

      go : (pairs : List MovePair) → held_pairs sh s t moves ≡ pairs → Goal sh s (event.Move t moves) m
      go [] is = (
        m,
        refl,
        subst (λ pairs. FollowsMachine sh (each_changed (after_move sh s t pairs) (names sh) s) m) (sym is) (stays sh s m f),
      )
      go (first ∷ rest) is = (
        m,
        refl,
        subst (λ pairs. FollowsMachine sh (each_changed (after_move sh s t pairs) (names sh) s) m) (sym is)
            (pairs_follow sh s ok m f t lawful.1.0 ((desk_at sh s).newest + 1) refl first rest
            (λ pair a. each pair (subst (Among pair) (sym is) a)) (subst Apart is far) ticked refl),
      )

  -- After a seal the core still follows the machine.
  seal_step : (t b : ℕ) → FollowsMachine sh (effect sh s (event.Seal t b)) m
  seal_step t b = go (is_none (seal_fault (is_head sh s t b) (body_at sh s t b))) refl
    where
      go : (y : Bool) → is_none (seal_fault (is_head sh s t b) (body_at sh s t b)) ≡ y → FollowsMachine sh (effect sh s (event.Seal t b)) m
      go true is =
          subst (λ y. FollowsMachine sh (each_changed (cond y (record nothing { body = at_both t b sealed }) nothing) (names sh) s) m) (sym is)
          (slots_kept sh s t b sealed (λ body. refl) m f)
      go false is =
          subst (λ y. FollowsMachine sh (each_changed (cond y (record nothing { body = at_both t b sealed }) nothing) (names sh) s) m) (sym is)
          (stays sh s m f)

  -- A lawful begin is as the machine's.
  begin_step : (q : ℕ) → IsLawful sh (event.Begin q) s → Goal sh s (event.Begin q) m
  begin_step q lawful = begin_serves sh s q pass (idle (snapshot_of (desk_at sh s) q) refl) m f
    where
      pass : HasPass (desk_at sh s) q
      pass = (lawful.0.0.0, let some = lawful.0.0.1 in let size = ok.sessions in omega (arith, some, size))

      idle : (o : Option Snapshot) → snapshot_of (desk_at sh s) q ≡ o → snapshot_of (desk_at sh s) q ≡ None
      idle None is = is
      idle (Some snapshot) is =
          absurd (none_not (transaction sh s q) (open_with (writes_of sh s q) snapshot) lawful.0.1
          (transaction_is sh s q lawful.0.0.0 ∙ ap (option_map (open_with (writes_of sh s q))) is))

  -- an event that leaves the machine as it is
  as_before : (e : CoreEvent) → FollowsMachine sh (effect sh s e) m → (next : IsolationMachine) × (next ≡ m) × FollowsMachine sh (effect sh s e) next
  as_before e after = (m, refl, after)

  -- Each lawful event is as the machine's.
  event_step : (e : CoreEvent) → IsLawful sh e s → Goal sh s e m
  event_step (event.Begin q) lawful = begin_step q lawful
  event_step (event.Get own t key) lawful = get_serves sh s own t key (key_open sh s ok own t key lawful.0) (key_slot sh s ok own t key lawful.0) m f
  event_step (event.Insert own t row) lawful =
      insert_served sh s own t row lawful.1.0 (next_is_there sh s t shape ok lawful.1.0)
      (key_open sh s ok own t (key_of row) lawful.0) (key_slot sh s ok own t (key_of row) lawful.0) m f
  event_step (event.Update own t row) lawful =
      update_serves sh s own t row (key_open sh s ok own t (key_of row) lawful.0) (key_slot sh s ok own t (key_of row) lawful.0)
      (λ old is.
      fits_length (columns_in sh t) old (subst (λ o. IfSome o (Fits (columns_in sh t))) is (found_fits sh s ok own t (key_of row)))
      ∙ sym (fits_length (columns_in sh t) row (fits_columns sh t row lawful.1.0 lawful.1.1)))
      m f
  event_step (event.Delete own t key) lawful = delete_serves sh s own t key (key_open sh s ok own t key lawful.0) (key_slot sh s ok own t key lawful.0) m f
  event_step (event.Read own t b) lawful = as_before (event.Read own t b) (stays sh s m f)
  event_step (event.Range own t low high) lawful = range_serves sh s own t low high (all_open sh s ok own lawful.0) (all_slots sh s ok own lawful.0 t) m f
  event_step (event.Commit own reads) lawful = commit_served sh s own (all_open sh s ok own lawful.0) (all_slots sh s ok own lawful.0) m f reads shape lawful.1.1
  event_step (event.Abort own) lawful = abort_serves sh s own (all_open sh s ok own lawful.0) m f
  event_step event.Oldest lawful = as_before event.Oldest (stays sh s m f)
  event_step (event.Observe t b) lawful = as_before (event.Observe t b) (slots_kept sh s t b (observed (is_head sh s t b)) (λ body. refl) m f)
  event_step (event.Prune t b oldest) lawful =
      as_before (event.Prune t b oldest) (prune_followed sh s t b oldest m
      (live_above (desk_at sh s) (λ session snapshot some is. (f.follows.desked.bounds session snapshot some is).0) oldest lawful.0) f)
  event_step (event.Look t b) lawful = as_before (event.Look t b) (stays sh s m f)
  event_step (event.Move t moves) lawful = move_step t moves lawful
  event_step (event.Seal t b) lawful = as_before (event.Seal t b) (seal_step t b)
  event_step (event.Image t b image) lawful = as_before (event.Image t b image) (slots_kept sh s t b imaged (λ body. refl) m f)
  event_step (event.Thaw t b) lawful = as_before (event.Thaw t b) (slots_kept sh s t b thawed (λ body. refl) m f)

-- Each lawful event of a sound state is answered as the machine may, and the parts follow.
pub steps : Steps
steps sh s e shape ok lawful m f = event_step sh s shape ok m f e lawful
