-- A move on a hand, pair by pair, and back.
use Rattle.std.proofs.Common.{◌≡◌, ◌≢◌, ◌⊎◌, ℕ, zero, suc, ◌+◌, ◌<◌, ℤ, Bool, true, false, cond, not, ◌&&◌, ◌||◌, ◌==◌, List, [], ◌∷◌, ◌++◌, Option, None, Some, is_none, is_some, option_map, unwrap_or, take, fold, length, refl, sym, ap, ◌∙◌, subst, arith}
use mathlib.Core.Logic.{inl, inr}
use Rattle.std.specs.Prelude.{filter, slice_get, IfSome}
use Rattle.std.specs.List.{list_any}
use Rattle.std.proofs.lemmas.Bool.{or_left, or_right, and_from, and_parts}
use Rattle.block_layout.specs.Place.{block_of, slot_of}
use Rattle.block_spec.proofs.Unnamed.{fault-unnamed}
use Rattle.block_spec.specs.Bodies.{Body, has_row, is_loose, slot_in, with_slot}
use Rattle.block_spec.specs.declared.change.Before.{Before}
use Rattle.block_spec.specs.Slots.{Row, Slot, bare, has_none, is_bare, moved_in, moved_out}
use Rattle.cell_model.specs.Rows.{Fits}
use Rattle.core_sweeps.proofs.Bodies.{all_columns, all_long, all_phase, all_slot, both_moved, fold_more, half_is, take_more}
use Rattle.core_sweeps.specs.MoveSteps.{AreMoved, IsReadyIn, head_in, holds_in, may_move_in, moved_to, pair_moved, row_in, shard_in}
use Rattle.core_parts.proofs.Changing.{after_twice, in_after}
use Rattle.core_parts.proofs.Placing.{in_state}
use Rattle.core_parts.proofs.Telling.{a_body, a_desk, a_head, a_shard, body_is, desk_is, has_body, has_desk, has_head, has_shard, head_is, only_told, room}
use Rattle.core_parts.specs.Hands.{Has, Held, Makes, MayRun, after, in_hand}
use Rattle.core_sweeps.proofs.Handing.{body_in_after, body_is_in, first_same, has_still, room_still, same_either}
use Rattle.core_sweeps.proofs.Rolling.{differs}
use Rattle.core_sweeps.specs.SweepSteps.{body_in}
use Rattle.core_laws.proofs.Events.Apart.{Apart, AreFar, apart, apart_kept, kept_among}
use Rattle.core_laws.proofs.Events.ByKind.{rests_at}
use Rattle.core_laws.proofs.Events.Lists.{all_at}
use Rattle.core_laws.proofs.Events.Naming.{follows_machine}
use Rattle.core_laws.proofs.Events.Places.{has_among, placed, shard_small}
use Rattle.core_laws.proofs.Events.Slots.{num, num_refl}
use Rattle.core_laws.specs.Events.Named.{FollowsMachine}
use Rattle.event_spec.specs.declared.event.Event.TheVariants as event
use Rattle.event_spec.specs.declared.event.MovePair.{MovePair}
use Rattle.event_spec.specs.declared.part.Head.{Head}
use Rattle.event_spec.specs.declared.part.Part.TheVariants as part
use Rattle.event_spec.specs.declared.reply.Reply.TheVariants as reply
use Rattle.event_spec.specs.Effects.{after_move, half_moved, has_key, held_pairs, holds, may_move, moved_row, places_moved, with_place}
use Rattle.event_spec.specs.Lawful.{Among, HasBlock, HasPlace}
use Rattle.event_spec.specs.Parts.{CorePart, Parts, Shape, Name, HeadOf, ShardOf, BodyOf, TheDesk, body_at, changed, desk_at, head_at, head_from, names, part_at, shard_from, shard_of, slot_at, slots_of}
use Rattle.event_spec.specs.Replay.{columns_in}
use Rattle.event_spec.specs.SlotSound.{VersionsFit}
use Rattle.event_spec.specs.Touched.{is_body_moved, is_shard_moved}
use Rattle.core_laws.proofs.Frames.Distinct.{part_is}
use Rattle.core_laws.proofs.Frames.Looks.{any_true, got_among, true_false}
use Rattle.core_laws.proofs.Frames.Replies.{filter_same, pair_touched}
use Rattle.core_laws.proofs.Frames.Shards.{moved_holds}
use Rattle.core_laws.specs.Frames.Shards.{ShardHolds}
use Rattle.key_index.specs.Candidates.{Places, candidates_of}
use Rattle.core_laws.proofs.Sound.Calm.{index_all}
use Rattle.txn_desk.specs.Desk.{DeskState}
use Rattle.undo_chain.specs.declared.undo.Undo.{Undo}

-- ---- lists of pairs

-- a pair's places are not those of the pairs before it
far_front : (pairs : List MovePair) → Apart pairs → (k : ℕ) (pair one : MovePair) → slice_get pairs k ≡ Some pair → Among one (take k pairs) → AreFar one pair
far_front [] far k pair one is a = cc
far_front (first ∷ rest) far zero pair one is a = absurd a
far_front (first ∷ rest) far (suc k) pair one is (inl e) = subst (λ one. AreFar one pair) (sym e) (far.1 pair (got_among rest k pair is))
far_front (first ∷ rest) far (suc k) pair one is (inr a) = far_front rest far.2 k pair one is a

-- each pair of a move that keeps places apart has another target than its source
pub own_apart : (pairs : List MovePair) → Apart pairs → (k : ℕ) (pair : MovePair) → slice_get pairs k ≡ Some pair → pair.source ≢ pair.target
own_apart [] far k pair is = cc
own_apart (first ∷ rest) far zero pair is = let e : first ≡ pair = cc in subst (λ (p : MovePair). p.source ≢ p.target) e far.0
own_apart (first ∷ rest) far (suc k) pair is = own_apart rest far.2 k pair is

-- ---- candidates after some pairs

-- a candidate after some pairs was one before, or is the target of a pair
pub candidate_from : (sh : Shape) (s : Parts) (i : ℕ) (pairs : List MovePair) (x : Places) (k : ℤ) (r : ℕ) → Among r (candidates_of (fold (places_moved sh s i) x pairs) k)
    → Among r (candidates_of x k) ⊎ ((one : MovePair) × Among one pairs × (r ≡ one.target))
candidate_from sh s i [] x k r a = inl a
candidate_from sh s i (pair ∷ pairs) x k r a = go (candidate_from sh s i pairs (places_moved sh s i x pair) k r a)
  where
    one_step : (b : Bool) → Among r (candidates_of (cond b (with_place pair.key pair.target x) x) k) → Among r (candidates_of x k) ⊎ ((one : MovePair) × Among one (pair ∷ pairs) × (r ≡ one.target))
    one_step false c = inl c
    one_step true c = at ((placed x pair.key pair.target).2 k r c)
      where
        at : Among r (candidates_of x k) ⊎ ((r ≡ pair.target) × (k ≡ pair.key)) → Among r (candidates_of x k) ⊎ ((one : MovePair) × Among one (pair ∷ pairs) × (r ≡ one.target))
        at (inl d) = inl d
        at (inr d) = inr (pair, inl refl, d.0)

    go : Among r (candidates_of (places_moved sh s i x pair) k) ⊎ ((one : MovePair) × Among one pairs × (r ≡ one.target)) → Among r (candidates_of x k) ⊎ ((one : MovePair) × Among one (pair ∷ pairs) × (r ≡ one.target))
    go (inl c) = one_step (shard_of pair.key == i) c
    go (inr c) = inr (c.0, inr c.1, c.2)

-- a slot with the key has a row
pub has_row_of : (key : ℤ) (row : Option Row) → has_key key row ≡ true → is_some row ≡ true
has_row_of key None e = absurd (true_false (sym e))
has_row_of key (Some row) e = refl

-- a row that is there is the one that is taken for it
pub the_row : (o : Option Row) → is_some o ≡ true → o ≡ Some (unwrap_or o [])
the_row None e = absurd (true_false (sym e))
the_row (Some row) e = refl

-- a bare slot has no row
pub bare_row : (slot : Slot) → is_bare slot ≡ true → slot.row ≡ None
bare_row slot is = go slot.row (has_none slot.entries) is
  where
    go : (o : Option Row) (b : Bool) → (is_none o && b) ≡ true → o ≡ None
    go None b e = refl
    go (Some row) b e = absurd (true_false (sym e))

-- ---- a hand on which a move may run

module _ (sh : Shape) (t : ℕ) (moves : List MovePair) (old : Held) (m : MayRun sh (event.Move t moves) old) where
  -- The core's parts before the move.
  abbrev s : Parts
  s = m.parts

  -- How the core before the move follows a machine.
  abbrev f : FollowsMachine sh m.parts m.holds.sound.follows.0
  f = follows_machine sh m.parts m.holds.sound

  -- a part that lies in the hand at a name's place is the state's
  pub part_there : (k : ℕ) (n : Name) (x : CorePart) → slice_get (names sh) k ≡ Some n → slice_get old k ≡ Some (Some x) → part_at sh m.parts n ≡ Some x
  part_there k n x is at = part_is sh m.parts k n x is (m.agrees.1 k x at)

  -- the hand of a move has the table's head
  pub has_the_head : Has sh old (HeadOf t)
  has_the_head = has_head sh (event.Move t moves) old m t m.lawful.1.0
      (or_left (((t == t) || false) || is_body_moved t moves (HeadOf t)) false (or_left ((t == t) || false) (is_body_moved t moves (HeadOf t)) (or_left (t == t) false (num_refl t))))

  -- and the desk
  pub has_the_desk : Has sh old TheDesk
  has_the_desk = has_desk sh (event.Move t moves) old m (or_right (is_body_moved t moves TheDesk) true refl)

  module _ (pair : MovePair) (among : Among pair moves) where
    -- a pair's source and target are places of the table
    pub places : HasPlace sh t pair.source × HasPlace sh t pair.target
    places = all_at (λ (pair : MovePair). HasPlace sh t pair.source × HasPlace sh t pair.target) moves pair m.lawful.1.1 among

    -- the hand has the body of a pair's source
    pub has_source : Has sh old (BodyOf t (block_of pair.source))
    has_source = has_body sh (event.Move t moves) old m t (block_of pair.source) places.0.0 (pair_touched sh old m.parts m.parts m.agrees m.agrees t moves pair pair.source among (inl refl))

    -- that of its target
    pub has_target : Has sh old (BodyOf t (block_of pair.target))
    has_target = has_body sh (event.Move t moves) old m t (block_of pair.target) places.1.0 (pair_touched sh old m.parts m.parts m.agrees m.agrees t moves pair pair.target among (inr (inl refl)))

    -- and the shard of its key
    pub has_its_shard : Has sh old (ShardOf t (shard_of pair.key))
    has_its_shard = has_shard sh (event.Move t moves) old m t (shard_of pair.key) m.lawful.1.0 (shard_small pair.key)
        (or_left (is_shard_moved t moves (ShardOf t (shard_of pair.key)) || is_body_moved t moves (ShardOf t (shard_of pair.key))) false
        (or_left (is_shard_moved t moves (ShardOf t (shard_of pair.key))) (is_body_moved t moves (ShardOf t (shard_of pair.key)))
        (and_from (t == t) (list_any (λ (other : MovePair). shard_of other.key == shard_of pair.key) moves) (num_refl t)
        (any_true (λ (other : MovePair). shard_of other.key == shard_of pair.key) moves pair among (num_refl (shard_of pair.key))))))

    -- the source's body in the hand is the state's
    pub source_is : body_in sh old t (block_of pair.source) ≡ body_at sh m.parts t (block_of pair.source)
    source_is = let x = a_body sh old t (block_of pair.source) has_source in body_is_in sh old t (block_of pair.source) x.0 x.1 ∙ sym (body_is sh old m.parts m.agrees t (block_of pair.source) x.0 x.1)

    -- and so is the target's
    pub target_is : body_in sh old t (block_of pair.target) ≡ body_at sh m.parts t (block_of pair.target)
    target_is = let x = a_body sh old t (block_of pair.target) has_target in body_is_in sh old t (block_of pair.target) x.0 x.1 ∙ sym (body_is sh old m.parts m.agrees t (block_of pair.target) x.0 x.1)

  -- The table's head in the hand is the core's.
  head_is_in : head_in sh old t ≡ head_at sh m.parts t
  head_is_in = let x = a_head sh old t has_the_head in ap head_from x.1 ∙ sym (head_is sh old m.parts m.agrees t x.0 x.1)

  -- the hand judges as the core does
  judged : (pair : MovePair) → Among pair moves → holds_in sh old t pair ≡ holds sh m.parts t pair
  judged pair among =
      ap (λ (x : Body). (is_loose x.phase && x.cooling && not (block_of pair.source == (head_in sh old t).block) && has_row x) && may_move_in sh old t (block_of pair.target)
      && has_key pair.key (slot_in x (slot_of pair.source)).row && has_none (slot_in x (slot_of pair.source)).entries && is_bare (slot_in (body_in sh old t (block_of pair.target)) (slot_of pair.target))) (source_is pair among)
      ∙ ap (λ (x : Body). (is_loose (body_at sh m.parts t (block_of pair.source)).phase && (body_at sh m.parts t (block_of pair.source)).cooling && not (block_of pair.source == (head_in sh old t).block) && has_row (body_at sh m.parts t (block_of pair.source)))
      && (is_loose x.phase && x.cooling && not (block_of pair.target == (head_in sh old t).block) && has_row x)
      && has_key pair.key (slot_at sh m.parts t pair.source).row && has_none (slot_at sh m.parts t pair.source).entries && is_bare (slot_in x (slot_of pair.target))) (target_is pair among)
      ∙ ap (λ (h : Head). (is_loose (body_at sh m.parts t (block_of pair.source)).phase && (body_at sh m.parts t (block_of pair.source)).cooling && not (block_of pair.source == h.block) && has_row (body_at sh m.parts t (block_of pair.source)))
      && (is_loose (body_at sh m.parts t (block_of pair.target)).phase && (body_at sh m.parts t (block_of pair.target)).cooling && not (block_of pair.target == h.block) && has_row (body_at sh m.parts t (block_of pair.target)))
      && has_key pair.key (slot_at sh m.parts t pair.source).row && has_none (slot_at sh m.parts t pair.source).entries && is_bare (slot_at sh m.parts t pair.target)) head_is_in

  -- the pairs that hold by the hand are those that hold by the state
  pub all_judged : filter (holds_in sh old t) moves ≡ held_pairs sh m.parts t moves
  all_judged = filter_same (holds sh m.parts t) (holds_in sh old t) moves judged

  -- Where no pairs moved, each part is as it was.
  none_moved : (n : Name) (x : CorePart) → changed (moved_to sh m.parts t []) n x ≡ x
  none_moved n x = rests_at (λ n x. Unit {0}) (moved_to sh m.parts t [])
      (record { head = λ u x h. refl; shard = λ u i x h. same_either (u == t) x; body = λ u b x h. same_either (u == t) x; desk = λ x h. refl }) n x tt

  -- At first none of the pairs that hold has moved.
  pub begins : (pairs : List MovePair) → pairs ≡ filter (holds_in sh old t) moves → AreMoved sh t moves old old pairs 0
  begins pairs is = record {
    may = m;
    hold = is ∙ all_judged;
    made = sym (first_same (moved_to sh m.parts t []) (names sh) old (λ k n x at held. none_moved n x));
  }

  -- without a pair that holds nothing moves
  pub nothing_moves : (pairs : List MovePair) → pairs ≡ filter (holds_in sh old t) moves → pairs ≡ [] → Makes sh (event.Move t moves) old old (reply.Moved 0)
  nothing_moves pairs is none =
      let held : held_pairs sh m.parts t moves ≡ [] = sym all_judged ∙ sym is ∙ none in
      only_told sh (event.Move t moves) old (reply.Moved 0) m (ap (after_move sh m.parts t) held) (ap (λ (ps : List MovePair). reply.Moved (length ps)) (sym held))

-- ---- one pair more

module _ (sh : Shape) (t : ℕ) (moves : List MovePair) (old now : Held) (pairs : List MovePair) (done : ℕ) (u : AreMoved sh t moves old now pairs done) where
  -- The core's parts before the pairs that moved so far.
  abbrev parts : Parts
  parts = u.may.parts

  -- the pairs that hold have their places apart
  pub far : Apart pairs
  far = subst Apart (sym u.hold) (apart_kept (holds sh u.may.parts t) moves (apart moves u.may.lawful.1.2))

  -- each part that the hand had it still has after some pairs moved
  pub still : (w : Name) → Has sh old w → Has sh now w
  still w has = has_still sh (moved_to sh u.may.parts t (take done pairs)) old now w u.made has

  -- and it has a place for each part
  pub room_now : length now ≡ length (names sh)
  room_now = room_still sh (moved_to sh u.may.parts t (take done pairs)) old now u.made (room sh (event.Move t moves) old u.may)

  -- the desk of the hand is the core's
  pub desk_now : (x : DeskState) → in_hand sh now TheDesk ≡ Some (part.Desk x) → desk_at sh u.may.parts ≡ x
  desk_now x is =
      let y = a_desk sh old (has_the_desk sh t moves old u.may) in
      desk_is sh old u.may.parts u.may.agrees y.0 y.1
      ∙ desk_same (in_hand sh now TheDesk) y.0 x
      (ap (λ h. in_hand sh h TheDesk) u.made ∙ in_after sh (moved_to sh u.may.parts t (take done pairs)) old TheDesk
      ∙ ap (λ (o : Option CorePart). option_map (changed (moved_to sh u.may.parts t (take done pairs)) TheDesk) o) y.1)
      is
    where
      desk_same : (o : Option CorePart) (a b : DeskState) → o ≡ Some (part.Desk a) → o ≡ Some (part.Desk b) → a ≡ b
      desk_same o a b e f = cc

  module _ (pair : MovePair) (at : slice_get pairs done ≡ Some pair) where
    -- the next pair is one of the move's, and holds
    pub listed : Among pair moves × (holds sh u.may.parts t pair ≡ true)
    listed = kept_among (holds sh u.may.parts t) moves pair (subst (Among pair) u.hold (got_among pairs done pair at))

    -- what of a pair holds
    pub four : ((((may_move sh u.may.parts t (block_of pair.source) && may_move sh u.may.parts t (block_of pair.target)) && has_key pair.key (slot_at sh u.may.parts t pair.source).row)
        && has_none (slot_at sh u.may.parts t pair.source).entries) ≡ true) × (is_bare (slot_at sh u.may.parts t pair.target) ≡ true)
    four = and_parts _ _ listed.1

    -- what of a pair holds, without the target's slot
    pub three : (((may_move sh u.may.parts t (block_of pair.source) && may_move sh u.may.parts t (block_of pair.target)) && has_key pair.key (slot_at sh u.may.parts t pair.source).row) ≡ true)
        × (has_none (slot_at sh u.may.parts t pair.source).entries ≡ true)
    three = and_parts _ _ four.0

    -- of that what both blocks and the source's row say
    pub two : ((may_move sh u.may.parts t (block_of pair.source) && may_move sh u.may.parts t (block_of pair.target)) ≡ true) × (has_key pair.key (slot_at sh u.may.parts t pair.source).row ≡ true)
    two = and_parts _ _ three.0

    -- and of that what each block says
    pub one : (may_move sh u.may.parts t (block_of pair.source) ≡ true) × (may_move sh u.may.parts t (block_of pair.target) ≡ true)
    one = and_parts _ _ two.0

    loose_by : (b : ℕ) → may_move sh u.may.parts t b ≡ true → is_loose (body_at sh u.may.parts t b).phase ≡ true
    loose_by b e = (and_parts _ _ (and_parts _ _ (and_parts _ _ e).0).0).0

    -- the next pair's places are not those of a pair that has moved
    pub far_from : (other : MovePair) → Among other (take done pairs) → AreFar other pair
    far_from other a = far_front pairs far done pair other at a

    -- a body after the pairs so far
    body_is_now : (b : ℕ) → Has sh old (BodyOf t b) → body_in sh old t b ≡ body_at sh u.may.parts t b
        → body_in sh now t b ≡ fold (half_moved sh u.may.parts t ((desk_at sh u.may.parts).newest + 1) b) (body_at sh u.may.parts t b) (take done pairs)
    body_is_now b has same =
        ap (λ h. body_in sh h t b) u.made ∙ body_in_after sh (moved_to sh u.may.parts t (take done pairs)) old t b has
        ∙ ap (λ c. cond c (fold (half_moved sh u.may.parts t ((desk_at sh u.may.parts).newest + 1) b) (body_in sh old t b) (take done pairs)) (body_in sh old t b)) (num_refl t)
        ∙ ap (λ (x : Body). fold (half_moved sh u.may.parts t ((desk_at sh u.may.parts).newest + 1) b) x (take done pairs)) same

    source_now : body_in sh now t (block_of pair.source) ≡ fold (half_moved sh u.may.parts t ((desk_at sh u.may.parts).newest + 1) (block_of pair.source)) (body_at sh u.may.parts t (block_of pair.source)) (take done pairs)
    source_now = body_is_now (block_of pair.source) (has_source sh t moves old u.may pair listed.0) (source_is sh t moves old u.may pair listed.0)

    target_now : body_in sh now t (block_of pair.target) ≡ fold (half_moved sh u.may.parts t ((desk_at sh u.may.parts).newest + 1) (block_of pair.target)) (body_at sh u.may.parts t (block_of pair.target)) (take done pairs)
    target_now = body_is_now (block_of pair.target) (has_target sh t moves old u.may pair listed.0) (target_is sh t moves old u.may pair listed.0)

    -- the slots of the pair are as they were
    source_slot : slot_in (body_in sh now t (block_of pair.source)) (slot_of pair.source) ≡ slot_at sh u.may.parts t pair.source
    source_slot = ap (λ (x : Body). slot_in x (slot_of pair.source)) source_now
        ∙ all_slot sh u.may.parts t ((desk_at sh u.may.parts).newest + 1) (block_of pair.source) (take done pairs) pair.source (body_at sh u.may.parts t (block_of pair.source)) refl
        (λ other a. ((far_from other a).sources, (far_from other a).from))

    target_slot : slot_in (body_in sh now t (block_of pair.target)) (slot_of pair.target) ≡ slot_at sh u.may.parts t pair.target
    target_slot = ap (λ (x : Body). slot_in x (slot_of pair.target)) target_now
        ∙ all_slot sh u.may.parts t ((desk_at sh u.may.parts).newest + 1) (block_of pair.target) (take done pairs) pair.target (body_at sh u.may.parts t (block_of pair.target)) refl
        (λ other a. ((far_from other a).to, (far_from other a).targets))

    long_by : (b : ℕ) → HasBlock sh t b → (x : Body) → x ≡ fold (half_moved sh u.may.parts t ((desk_at sh u.may.parts).newest + 1) b) (body_at sh u.may.parts t b) (take done pairs)
        → length x.slots ≡ slots_of sh t
    long_by b has x is = ap (λ (x : Body). length x.slots) is ∙ all_long sh u.may.parts t ((desk_at sh u.may.parts).newest + 1) b (take done pairs) (body_at sh u.may.parts t b) ∙ (u.may.holds.sound.bodies t b has).slots

    open_by : (b : ℕ) → may_move sh u.may.parts t b ≡ true → (x : Body) → x ≡ fold (half_moved sh u.may.parts t ((desk_at sh u.may.parts).newest + 1) b) (body_at sh u.may.parts t b) (take done pairs)
        → is_loose x.phase ≡ true
    open_by b may x is = ap (λ (x : Body). is_loose x.phase) is ∙ ap is_loose (all_phase sh u.may.parts t ((desk_at sh u.may.parts).newest + 1) b (take done pairs) (body_at sh u.may.parts t b)) ∙ loose_by b may

    fits_here : (row : Row) → (slot_at sh u.may.parts t pair.source).row ≡ Some row → Fits (columns_in sh t) row
    fits_here row is = subst (λ (o : Option Row). IfSome o (Fits (columns_in sh t))) is
        (first (slot_at sh u.may.parts t pair.source).row (slot_at sh u.may.parts t pair.source).entries
        (index_all (λ (slot : Slot). VersionsFit (columns_in sh t) slot.row slot.entries) (body_at sh u.may.parts t (block_of pair.source)).slots bare (slot_of pair.source) tt
        (u.may.holds.sound.bodies t (block_of pair.source) (places sh t moves old u.may pair listed.0).0.0).versions))
      where
        first : (row : Option Row) (es : List (Undo Before)) → VersionsFit (columns_in sh t) row es → IfSome row (Fits (columns_in sh t))
        first row [] fit = fit
        first row (e ∷ es) fit = fit.0

    -- The hand has what the next pair needs to move.
    pub ready : IsReadyIn sh now t pair
    ready = record {
      source = still (BodyOf t (block_of pair.source)) (has_source sh t moves old u.may pair listed.0);
      target = still (BodyOf t (block_of pair.target)) (has_target sh t moves old u.may pair listed.0);
      room = room_now;
      loose = open_by (block_of pair.source) one.0 (body_in sh now t (block_of pair.source)) source_now;
      open' = open_by (block_of pair.target) one.1 (body_in sh now t (block_of pair.target)) target_now;
      inside = subst (λ n. slot_of pair.source < n) (sym (long_by (block_of pair.source) (places sh t moves old u.may pair listed.0).0.0 (body_in sh now t (block_of pair.source)) source_now)) (places sh t moves old u.may pair listed.0).0.1;
      row = ap (λ (x : Slot). is_some x.row) source_slot ∙ has_row_of pair.key (slot_at sh u.may.parts t pair.source).row two.1;
      quiet = ap (λ (x : Slot). has_none x.entries) source_slot ∙ three.1;
      slot = subst (λ n. slot_of pair.target < n) (sym (long_by (block_of pair.target) (places sh t moves old u.may pair listed.0).1.0 (body_in sh now t (block_of pair.target)) target_now)) (places sh t moves old u.may pair listed.0).1.1;
      bare' = ap is_bare target_slot ∙ four.1;
      fits = λ row is.
          subst (λ columns. Fits columns row) (sym (ap (λ (x : Body). x.columns) target_now ∙ all_columns sh u.may.parts t ((desk_at sh u.may.parts).newest + 1) (block_of pair.target) (take done pairs) (body_at sh u.may.parts t (block_of pair.target))
          ∙ (u.may.holds.sound.bodies t (block_of pair.target) (places sh t moves old u.may pair listed.0).1.0).columns))
          (fault-unnamed (columns_in sh t) row ∙ fits_here row (sym (ap (λ (x : Slot). x.row) source_slot) ∙ is));
      apart = own_apart pairs far done pair at;
    }

    -- the row that the pair moves is the core's
    pub row_same : row_in sh now t pair ≡ moved_row sh u.may.parts t pair
    row_same = ap (λ (x : Slot). unwrap_or x.row []) source_slot

    -- ---- its shard

    shard_there : (x : Places) × (in_hand sh old (ShardOf t (shard_of pair.key)) ≡ Some (part.Shard x))
    shard_there = a_shard sh old t (shard_of pair.key) (has_its_shard sh t moves old u.may pair listed.0)

    shard_part : part_at sh u.may.parts (ShardOf t (shard_of pair.key)) ≡ Some (part.Shard shard_there.0)
    shard_part = in_state (names sh) old u.may.parts (ShardOf t (shard_of pair.key)) (part.Shard shard_there.0) u.may.agrees shard_there.1

    shard_is_now : shard_in sh now t (shard_of pair.key) ≡ fold (places_moved sh u.may.parts (shard_of pair.key)) shard_there.0 (take done pairs)
    shard_is_now =
        ap (λ h. shard_from (in_hand sh h (ShardOf t (shard_of pair.key)))) u.made
        ∙ ap shard_from (in_after sh (moved_to sh u.may.parts t (take done pairs)) old (ShardOf t (shard_of pair.key))
        ∙ ap (λ (o : Option CorePart). option_map (changed (moved_to sh u.may.parts t (take done pairs)) (ShardOf t (shard_of pair.key))) o) shard_there.1)
        ∙ ap (λ c. cond c (fold (places_moved sh u.may.parts (shard_of pair.key)) shard_there.0 (take done pairs)) shard_there.0) (num_refl t)

    -- it has the shard of the pair's key
    pub shard_has : Has sh now (ShardOf t (shard_of pair.key))
    shard_has = still (ShardOf t (shard_of pair.key)) (has_its_shard sh t moves old u.may pair listed.0)

    -- which is in order
    pub shard_holds : ShardHolds (shard_of pair.key) (shard_in sh now t (shard_of pair.key))
    shard_holds = subst (ShardHolds (shard_of pair.key)) (sym shard_is_now)
        (moved_holds sh u.may.parts (shard_of pair.key) (take done pairs) shard_there.0 (u.may.holds.shards t (shard_of pair.key) shard_there.0 shard_part))

    -- the pairs before made no candidate of the target for the key
    pub not_there : (x : Places) → part_at sh u.may.parts (ShardOf t (shard_of pair.key)) ≡ Some (part.Shard x) → list_any (λ other. other == pair.target) (candidates_of (fold (places_moved sh u.may.parts (shard_of pair.key)) x (take done pairs)) pair.key) ≡ false
    not_there x is = go (list_any (λ other. other == pair.target) (candidates_of (fold (places_moved sh u.may.parts (shard_of pair.key)) x (take done pairs)) pair.key)) refl
      where
        never : Among pair.target (candidates_of x pair.key) ⊎ ((one : MovePair) × Among one (take done pairs) × (pair.target ≡ one.target)) → ⊥
        never (inl a) = true_false (sym four.1
            ∙ (follows_machine sh u.may.parts u.may.holds.sound).follows.index.filled t pair.target pair.key (subst (Among pair.target) (ap (λ o. candidates_of (shard_from o) pair.key) (sym is)) a))
        never (inr a) = (far_from a.0 a.1).targets (sym a.2)

        go : (b : Bool) → list_any (λ other. other == pair.target) (candidates_of (fold (places_moved sh u.may.parts (shard_of pair.key)) x (take done pairs)) pair.key) ≡ b
            → list_any (λ other. other == pair.target) (candidates_of (fold (places_moved sh u.may.parts (shard_of pair.key)) x (take done pairs)) pair.key) ≡ false
        go true e = absurd (never (candidate_from sh u.may.parts (shard_of pair.key) (take done pairs) x pair.key pair.target (has_among pair.target (candidates_of (fold (places_moved sh u.may.parts (shard_of pair.key)) x (take done pairs)) pair.key) e)))
        go false e = e

    -- so the target is none yet in the hand's shard
    pub shard_new : list_any (λ other. other == pair.target) (candidates_of (shard_in sh now t (shard_of pair.key)) pair.key) ≡ false
    shard_new = ap (λ (x : Places). list_any (λ other. other == pair.target) (candidates_of x pair.key)) shard_is_now ∙ not_there shard_there.0 shard_part

    -- ---- the pair moved

    num_flip : (a b : ℕ) → (a == b) ≡ (b == a)
    num_flip a b = go (a == b) refl
      where
        go : (c : Bool) → (a == b) ≡ c → (a == b) ≡ (b == a)
        go true e = e ∙ sym (ap (λ y. y == a) (sym (num a b e)) ∙ num_refl a)
        go false e = e ∙ sym (differs b a (λ same. true_false (sym (ap (λ y. a == y) same ∙ num_refl a) ∙ e)))

    shard_more : (v i : ℕ) (x : Places) → (moved_to sh u.may.parts t (take done pairs ++ pair ∷ [])).shard v i x
        ≡ (pair_moved t ((desk_at sh u.may.parts).newest + 1) pair (moved_row sh u.may.parts t pair)).shard v i ((moved_to sh u.may.parts t (take done pairs)).shard v i x)
    shard_more v i x = go (v == t)
      where
        more : fold (places_moved sh u.may.parts i) x (take done pairs ++ pair ∷ []) ≡ places_moved sh u.may.parts i (fold (places_moved sh u.may.parts i) x (take done pairs)) pair
        more = fold_more (places_moved sh u.may.parts i) x (take done pairs) pair

        go : (c : Bool) → cond c (fold (places_moved sh u.may.parts i) x (take done pairs ++ pair ∷ [])) x
            ≡ cond (c && (i == shard_of pair.key)) (with_place pair.key pair.target (cond c (fold (places_moved sh u.may.parts i) x (take done pairs)) x)) (cond c (fold (places_moved sh u.may.parts i) x (take done pairs)) x)
        go true = more ∙ ap (λ c. cond c (with_place pair.key pair.target (fold (places_moved sh u.may.parts i) x (take done pairs))) (fold (places_moved sh u.may.parts i) x (take done pairs))) (num_flip (shard_of pair.key) i)
        go false = refl

    body_more : (v b : ℕ) (x : Body) → (moved_to sh u.may.parts t (take done pairs ++ pair ∷ [])).body v b x
        ≡ (pair_moved t ((desk_at sh u.may.parts).newest + 1) pair (moved_row sh u.may.parts t pair)).body v b ((moved_to sh u.may.parts t (take done pairs)).body v b x)
    body_more v b x = go (v == t)
      where
        y : Body
        y = fold (half_moved sh u.may.parts t ((desk_at sh u.may.parts).newest + 1) b) x (take done pairs)

        flip : half_moved sh u.may.parts t ((desk_at sh u.may.parts).newest + 1) b y pair ≡ both_moved b ((desk_at sh u.may.parts).newest + 1) (moved_row sh u.may.parts t pair) pair.source pair.target y
        flip = half_is sh u.may.parts t ((desk_at sh u.may.parts).newest + 1) b y pair

        go : (c : Bool) → cond c (fold (half_moved sh u.may.parts t ((desk_at sh u.may.parts).newest + 1) b) x (take done pairs ++ pair ∷ [])) x
            ≡ cond (c && (b == block_of pair.target)) (with_slot (slot_of pair.target) (moved_in ((desk_at sh u.may.parts).newest + 1) (moved_row sh u.may.parts t pair))
            (cond (c && (b == block_of pair.source)) (with_slot (slot_of pair.source) (moved_out ((desk_at sh u.may.parts).newest + 1) (moved_row sh u.may.parts t pair)) (cond c y x)) (cond c y x)))
            (cond (c && (b == block_of pair.source)) (with_slot (slot_of pair.source) (moved_out ((desk_at sh u.may.parts).newest + 1) (moved_row sh u.may.parts t pair)) (cond c y x)) (cond c y x))
        go true = fold_more (half_moved sh u.may.parts t ((desk_at sh u.may.parts).newest + 1) b) x (take done pairs) pair ∙ flip
        go false = refl

    -- One pair more has moved.
    pub goes_on : (new : Held) (stamped : ℕ) → stamped ≡ (desk_at sh u.may.parts).newest + 1 → new ≡ after sh (pair_moved t stamped pair (row_in sh now t pair)) now → AreMoved sh t moves old new pairs (done + 1)
    goes_on new stamped same is = record {
      may = u.may;
      hold = u.hold;
      made =
          is
          ∙ ap (λ n. after sh (pair_moved t n pair (row_in sh now t pair)) now) same
          ∙ ap (λ row. after sh (pair_moved t ((desk_at sh u.may.parts).newest + 1) pair row) now) row_same
          ∙ ap (after sh (pair_moved t ((desk_at sh u.may.parts).newest + 1) pair (moved_row sh u.may.parts t pair))) u.made
          ∙ after_twice sh (moved_to sh u.may.parts t (take done pairs)) (pair_moved t ((desk_at sh u.may.parts).newest + 1) pair (moved_row sh u.may.parts t pair)) (moved_to sh u.may.parts t (take done pairs ++ pair ∷ [])) old
          (record { head = λ v x. refl; shard = shard_more; body = body_more; desk = λ x. refl })
          ∙ ap (λ (ps : List MovePair). after sh (moved_to sh u.may.parts t ps) old) (sym (ap (λ n. take n pairs) next ∙ take_more pairs done pair at));
    }
      where
        next : done + 1 ≡ suc done
        next = omega arith
