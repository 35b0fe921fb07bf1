-- A pruning, slot by slot, on a hand.
use Rattle.std.proofs.Common.{◌≡◌, ℕ, ◌+◌, ◌<◌, ◌≤◌, ◌^◌, true, false, ◌&&◌, ◌||◌, ◌==◌, List, [], ◌∷◌, Option, None, Some, length, refl, sym, ap, ◌∙◌, subst, arith}
use Rattle.std.specs.Prelude.{IfSome, slice_get}
use Rattle.std.proofs.lemmas.Bool.{or_left}
use Rattle.block_body.proofs.Keyed.{fits-has_key}
use Rattle.block_body.specs.Changes.{IsNextVersioned, key_left}
use Rattle.block_body.specs.Keys.{HasKey}
use Rattle.block_spec.specs.Bodies.{Body, dropped_from, is_empty, pruned_in, slot_in}
use Rattle.block_spec.specs.declared.change.Before.{Before}
use Rattle.block_spec.specs.Slots.{Row, Slot, bare, laid_back, taken_back}
use Rattle.cell_model.specs.declared.column.Column.{Column}
use Rattle.cell_model.specs.Rows.{Fits}
use Rattle.cell_model.specs.Schemas.{IsSchema, begins_with_key}
use Rattle.core_parts.proofs.Changing.{after_twice}
use Rattle.core_parts.proofs.Telling.{a_body, body_is, from_one, has_body, has_head, has_shard, room}
use Rattle.core_parts.specs.Hands.{Has, Held, Makes, MayRun, after, in_hand}
use Rattle.core_sweeps.proofs.Dropping.{first_dropped, last_pruned, one_slot_more}
use Rattle.core_sweeps.proofs.Handing.{after_then, body_in_after, body_in_changed, body_is_in, first_same, has_still, room_still}
use Rattle.core_sweeps.specs.SweepSteps.{AreDropped, IsDropped, body_changed, body_in, dropped_at, dropped_to, head_changed, pruned_by, with_gain}
use Rattle.core_laws.proofs.Events.Fitting.{current_fits}
use Rattle.core_laws.proofs.Events.Slots.{num_refl}
use Rattle.event_spec.specs.declared.event.Event.TheVariants as event
use Rattle.event_spec.specs.declared.part.Part.TheVariants as part
use Rattle.event_spec.specs.declared.reply.Reply.TheVariants as reply
use Rattle.event_spec.specs.Effects.{changes_of}
use Rattle.event_spec.specs.Parts.{CorePart, Shape, Name, HeadOf, ShardOf, BodyOf, body_at, names, part_at}
use Rattle.event_spec.specs.Replay.{columns_in}
use Rattle.event_spec.specs.SlotSound.{VersionsFit}
use Rattle.core_laws.proofs.Frames.Distinct.{part_is}
use Rattle.core_laws.proofs.Frames.Looks.{name_self}
use Rattle.core_laws.proofs.Sound.Calm.{index_all}
use Rattle.undo_chain.specs.declared.undo.Undo.{Undo}

-- ---- the key of a version

-- a row that fits columns with a key has one
pub keyed : (columns : List Column) (row : Option Row) → begins_with_key columns ≡ true → IfSome row (Fits columns) → IfSome row HasKey
keyed columns None key fit = fit
keyed columns (Some row) key fit = fits-has_key columns row key fit

-- A slot whose newest change is taken back has a row with a key, if any.
taken_key : (columns : List Column) (slot : Slot) → begins_with_key columns ≡ true → VersionsFit columns slot.row slot.entries → IfSome (taken_back slot).row HasKey
taken_key columns slot key fit = go slot.row slot.entries fit
  where
    go : (row : Option Row) (es : List (Undo Before)) → VersionsFit columns row es → IfSome (taken_back (record { row = row; entries = es })).row HasKey
    go row [] fit = keyed columns row key fit
    go row (e ∷ es) fit = keyed columns (laid_back row e.before) key (current_fits columns (laid_back row e.before) es fit.2)

-- ---- parts that are touched

module _ (sh : Shape) (t b oldest : ℕ) (old : Held) (m : MayRun sh (event.Prune t b oldest) old) where
  -- a part in the hand is the core's part of its name
  pub part_there : (k : ℕ) (n : Name) (x : CorePart) → slice_get (names sh) k ≡ Some n → slice_get old k ≡ Some (Some x) → part_at sh m.parts n ≡ Some x
  part_there k n x is at = part_is sh m.parts k n x is (m.agrees.1 k x at)

  -- at first nothing is dropped
  pub begins : IsDropped sh t b oldest 0 old old
  begins = record {
    may = m;
    made = sym (first_same (dropped_to sh m.parts t b oldest 0) (names sh) old
        (λ k n x is at. first_dropped sh m.parts m.holds.measures m.holds.sound m.holds.shards t b oldest m.lawful.1 n x (part_there k n x is at)));
  }

  -- the head of the table is in the hand
  pub has_the_head : Has sh old (HeadOf t)
  has_the_head = has_head sh (event.Prune t b oldest) old m t m.lawful.1.0 (or_left ((t == t) || false) false (or_left (t == t) false (num_refl t)))

  -- and the body of the block
  pub has_the_body : Has sh old (BodyOf t b)
  has_the_body = has_body sh (event.Prune t b oldest) old m t b m.lawful.1 (or_left (false || ((t == t) && (b == b))) false (name_self (BodyOf t b)))

  -- and each of the table's eight shards
  pub has_its_shard : (i : ℕ) → i < 8 → Has sh old (ShardOf t i)
  has_its_shard i small = has_shard sh (event.Prune t b oldest) old m t i m.lawful.1.0 small (num_refl t)

-- ---- one slot more

module _ (sh : Shape) (t b oldest from : ℕ) (old now : Held) (u : IsDropped sh t b oldest from old now) where
  -- what was in the hand is in it still
  pub still : (w : Name) → Has sh old w → Has sh now w
  still w has = has_still sh (dropped_to sh u.may.parts t b oldest from) old now w u.made has

  -- the hand has a place for each part still
  pub room_now : length now ≡ length (names sh)
  room_now = room_still sh (dropped_to sh u.may.parts t b oldest from) old now u.made (room sh (event.Prune t b oldest) old u.may)

  -- The block's body in the hand is the core's.
  body_old : body_in sh old t b ≡ body_at sh u.may.parts t b
  body_old = let x = a_body sh old t b (has_the_body sh t b oldest old u.may) in body_is_in sh old t b x.0 x.1 ∙ sym (body_is sh old u.may.parts u.may.agrees t b x.0 x.1)

  -- the body is the core's still
  pub body_now : body_in sh now t b ≡ body_at sh u.may.parts t b
  body_now = ap (λ h. body_in sh h t b) u.made ∙ body_in_after sh (dropped_to sh u.may.parts t b oldest from) old t b (has_the_body sh t b oldest old u.may) ∙ body_old

  -- so is the one that is lent out of the hand
  pub body_lent : (x : Body) → in_hand sh now (BodyOf t b) ≡ Some (part.Body x) → x ≡ body_at sh u.may.parts t b
  body_lent x is = sym (body_is_in sh now t b x is) ∙ body_now

  -- the body has at most 2^15 slots
  pub slots_small : length (body_at sh u.may.parts t b).slots ≤ 2 ^ 15
  slots_small = let long = (u.may.holds.sound.bodies t b u.may.lawful.1).slots in let most = (u.may.holds.measures.slots t u.may.lawful.1.0).1 in omega (arith, long, most)

  -- as many as it had in the first hand
  pub slots_old : length (body_in sh old t b).slots ≡ length (body_at sh u.may.parts t b).slots
  slots_old = ap (λ (x : Body). length x.slots) body_old

  -- the row of a slot whose newest change is taken back has a key
  pub key_there : (j : ℕ) → IsSchema (columns_in sh t) → IfSome (taken_back (slot_in (body_in sh now t b) j)).row HasKey
  key_there j schema = subst (λ (x : Body). IfSome (taken_back (slot_in x j)).row HasKey) (sym body_now)
      (taken_key (columns_in sh t) (slot_in (body_at sh u.may.parts t b) j) schema.key
      (index_all (λ (slot : Slot). VersionsFit (columns_in sh t) slot.row slot.entries) (body_at sh u.may.parts t b).slots bare j tt (u.may.holds.sound.bodies t b u.may.lawful.1).versions))

  -- one slot more with entries: its candidate is dropped where it will be bare
  pub goes_on : (new : Held) (j : ℕ) → IsNextVersioned (body_at sh u.may.parts t b) from (Some j)
      → new ≡ after sh (dropped_at t b j (key_left oldest (slot_in (body_in sh now t b) j))) now → IsDropped sh t b oldest (j + 1) old new
  goes_on new j next is = record {
    may = u.may;
    made =
        is
        ∙ ap (λ (x : Body). after sh (dropped_at t b j (key_left oldest (slot_in x j))) now) body_now
        ∙ ap (after sh (dropped_at t b j (key_left oldest (slot_in (body_at sh u.may.parts t b) j)))) u.made
        ∙ after_then (dropped_to sh u.may.parts t b oldest from) (dropped_at t b j (key_left oldest (slot_in (body_at sh u.may.parts t b) j))) (dropped_to sh u.may.parts t b oldest (j + 1)) (names sh) old
        (λ k n x at held. one_slot_more sh u.may.parts u.may.holds.measures u.may.holds.sound u.may.holds.shards t b oldest u.may.lawful.1 from j next
        (key_left oldest (slot_in (body_at sh u.may.parts t b) j)) refl n x (part_there sh t b oldest old u.may k n x at held));
  }

-- ---- the body and the head at the end

module _ (sh : Shape) (t b oldest : ℕ) (old mid : Held) (d : AreDropped sh t b oldest old mid) where
  -- The slots below the last one with entries lost their candidates.
  abbrev u : IsDropped sh t b oldest d.from old mid
  u = d.dropped

  -- what was in the hand is in it behind the slots
  pub has_mid : (w : Name) → Has sh old w → Has sh mid w
  has_mid w has = still sh t b oldest d.from old mid d.dropped w has

  -- so is the body
  pub has_body_mid : Has sh mid (BodyOf t b)
  has_body_mid = has_mid (BodyOf t b) (has_the_body sh t b oldest old d.dropped.may)

  -- and the head
  pub has_head_mid : Has sh mid (HeadOf t)
  has_head_mid = has_mid (HeadOf t) (has_the_head sh t b oldest old d.dropped.may)

  -- and there is a place for each part
  pub room_mid : length mid ≡ length (names sh)
  room_mid = room_now sh t b oldest d.from old mid d.dropped

  -- the body has at most 2^15 slots
  pub slots_mid : length (body_in sh mid t b).slots ≤ 2 ^ 15
  slots_mid = let same = ap (λ (x : Body). length x.slots) (body_now sh t b oldest d.from old mid d.dropped) in let most = slots_small sh t b oldest d.from old mid d.dropped in omega (arith, same, most)

  -- Behind all slots the body is pruned and the head told, and that is what the event makes of the
  -- hand.
  pub ends : (pruned new : Held) (count : ℕ) → pruned ≡ after sh (body_changed t b (pruned_in oldest)) mid → count ≡ dropped_from oldest (body_in sh mid t b)
      → new ≡ after sh (head_changed t (with_gain (is_empty (body_in sh pruned t b)) b)) pruned → Makes sh (event.Prune t b oldest) old new (reply.Dropped count)
  ends pruned new count made counted told = from_one sh (event.Prune t b oldest) old new (reply.Dropped count) d.dropped.may
      (told
      ∙ ap (λ (x : Body). after sh (head_changed t (with_gain (is_empty x) b)) pruned) (body_in_changed sh mid pruned t b (pruned_in oldest) has_body_mid made ∙ ap (pruned_in oldest) (body_now sh t b oldest d.from old mid d.dropped))
      ∙ ap (after sh (head_changed t (with_gain (is_empty (pruned_in oldest (body_at sh d.dropped.may.parts t b))) b))) made
      ∙ after_twice sh (body_changed t b (pruned_in oldest)) (head_changed t (with_gain (is_empty (pruned_in oldest (body_at sh d.dropped.may.parts t b))) b)) (pruned_by t b oldest (pruned_in oldest (body_at sh d.dropped.may.parts t b))) mid
      (record { head = λ v x. refl; shard = λ v i x. refl; body = λ v c x. refl; desk = λ x. refl })
      ∙ ap (after sh (pruned_by t b oldest (pruned_in oldest (body_at sh d.dropped.may.parts t b)))) d.dropped.made
      ∙ after_then (dropped_to sh d.dropped.may.parts t b oldest d.from) (pruned_by t b oldest (pruned_in oldest (body_at sh d.dropped.may.parts t b))) (changes_of sh d.dropped.may.parts (event.Prune t b oldest)) (names sh) old
      (λ k n x at held. last_pruned sh d.dropped.may.parts d.dropped.may.holds.measures d.dropped.may.holds.sound d.dropped.may.holds.shards t b oldest d.dropped.may.lawful.1 d.from d.none n x
      (part_there sh t b oldest old d.dropped.may k n x at held)))
      (ap reply.Dropped (counted ∙ ap (dropped_from oldest) (body_now sh t b oldest d.from old mid d.dropped)))
