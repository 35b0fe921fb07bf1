-- What an event replies hangs on the parts that it touches.
use Rattle.std.proofs.Common.{◌≡◌, ℕ, ◌+◌, ℤ, Bool, true, false, cond, not, ◌&&◌, ◌||◌, ◌==◌, List, [], ◌∷◌, ◌++◌, Option, None, Some, is_none, is_some, length, refl, sym, ap, ◌∙◌, arith, subst}
use mathlib.Core.Logic.{inl, inr}
use Rattle.std.specs.Prelude.{filter, option_and_then, option_to_list, Result}
use Rattle.std.specs.List.{cons_option, filter_map, flat_map, list_any}
use Rattle.std.specs.Option.{option_or}
use Rattle.std.proofs.lemmas.Bool.{or_left, or_right, and_from}
use Rattle.block_layout.specs.Place.{block_of, slot_of, place_of}
use Rattle.block_spec.specs.Bodies.{Body, dropped_from, has_row, is_imaged, is_loose, rows_of, seal_fault, slot_in, turns}
use Rattle.block_spec.specs.declared.phase.Phase.{Phase}
use Rattle.block_spec.specs.Looks.{looked}
use Rattle.block_spec.specs.Slots.{Row, Slot, has_none, is_bare, seen}
use Rattle.core_laws.proofs.Events.Heads.{block_is}
use Rattle.core_laws.proofs.Events.Lists.{in_right, member_below}
use Rattle.core_laws.proofs.Events.Slots.{num_refl}
use Rattle.event_spec.specs.declared.event.Event.TheVariants as event
use Rattle.event_spec.specs.declared.event.MovePair.{MovePair}
use Rattle.event_spec.specs.declared.own.OwnKey.{OwnKey}
use Rattle.event_spec.specs.declared.own.OwnTransaction.{OwnTransaction}
use Rattle.event_spec.specs.declared.part.Head.{Head}
use Rattle.event_spec.specs.declared.reply.Reply.TheVariants as reply
use Rattle.event_spec.specs.declared.reply.WriteFault.{WriteFault}
use Rattle.event_spec.specs.declared.reply.WriteFault.TheVariants.{Exists, Full, Missing}
use Rattle.event_spec.specs.Effects.{CoreEvent, change_judged, found, has_key, held_pairs, holds, insert_judged, is_some_write, range_found, range_keys, stale_in}
use Rattle.event_spec.specs.Judged.{current_place, fault_of, first_at, found_at, found_by, freezing_of, judged, judged_change, judged_insert, newer_by, next_place, own_key}
use Rattle.event_spec.specs.Lawful.{Among, HasBlock}
use Rattle.event_spec.specs.Parts.{CorePart, Parts, Shape, Name, HeadOf, ShardOf, BodyOf, TheDesk, below, body_at, desk_at, desk_from, head_at, head_from, held_named, is_head, names, places_at, same_name, shard_from, shard_of, slot_at, slots_of}
use Rattle.event_spec.specs.Replies.{CoreReply, is_elsewhere, reply_to_commit, reply_to_image, reply_to_read, reply_to_seal, reply_to_write, row_read, rows_read}
use Rattle.event_spec.specs.Sound.{IsShape, Sound}
use Rattle.event_spec.specs.Newest.{keys_within}
use Rattle.event_spec.specs.Touched.{held_keys, is_body_moved, is_body_of, is_shard_in, seen_places, touched_by_key, touching}
use Rattle.isolation_spec.specs.declared.read.Read.{Read}
use Rattle.core_laws.proofs.Frames.Fitness.{body_same, body_touched, current_among, current_same, part_same, shard_touched}
use Rattle.core_laws.proofs.Frames.Judged.{desk_touched, flat_alike, stale_alike}
use Rattle.core_laws.proofs.Frames.Looks.{any_true, block_among, look, name_self, touches}
use Rattle.core_laws.specs.Frames.Laws.{Replies}
use Rattle.hall_rule.specs.Hands.{Agrees, Covers}
use Rattle.isolation_spec.specs.Contents.{at_place, key_of, place_at}
use Rattle.key_index.specs.Candidates.{candidates_of}
use Rattle.txn_desk.specs.Desk.{DeskState}
use Rattle.txn_desk.specs.Oldest.{oldest_of}
use Rattle.undo_chain.specs.declared.chain.Newer.{Newer}
use Rattle.undo_chain.specs.Conflict.{conflict_by, largest, numbers_above, other_writer}

-- ---- lists of which each member is told alike

-- Answers that agree at each of some places have the same first.
first_same : {X : Type 0} (one other : ℕ → Option X) (ps : List ℕ) → ((p : ℕ) → Among p ps → other p ≡ one p) → first_at other ps ≡ first_at one ps
first_same one other [] same = refl
first_same one other (p ∷ ps) same =
    ap (λ o. option_or o (first_at other ps)) (same p (inl refl)) ∙ ap (option_or (one p)) (first_same one other ps (λ r a. same r (inr a)))

-- Lists that agree at each of some places are the same when put together.
flat_same : (one other : ℕ → List ℕ) (ps : List ℕ) → ((p : ℕ) → Among p ps → other p ≡ one p) → flat_map other ps ≡ flat_map one ps
flat_same one other [] same = refl
flat_same one other (p ∷ ps) same =
    ap (λ y. y ++ flat_map other ps) (same p (inl refl)) ∙ ap (λ y. one p ++ y) (flat_same one other ps (λ r a. same r (inr a)))

-- Options that agree at each of some members hold the same in all.
kept_same : {X Y : Type 0} (one other : X → Option Y) (xs : List X) → ((x : X) → Among x xs → other x ≡ one x) → filter_map other xs ≡ filter_map one xs
kept_same one other [] same = refl
kept_same one other (x ∷ xs) same =
    ap (λ y. cons_option y (filter_map other xs)) (same x (inl refl)) ∙ ap (cons_option (one x)) (kept_same one other xs (λ r a. same r (inr a)))

-- tests that agree on each member keep the same
pub filter_same : {X : Type 0} (one other : X → Bool) (xs : List X) → ((x : X) → Among x xs → other x ≡ one x) → filter other xs ≡ filter one xs
filter_same one other [] same = refl
filter_same one other (x ∷ xs) same =
    ap (λ b. cond b (x ∷ filter other xs) (filter other xs)) (same x (inl refl))
    ∙ ap (λ ys. cond (one x) (x ∷ ys) ys) (filter_same one other xs (λ y a. same y (inr a)))

-- ---- what is judged by slots that are alike

-- how a change is judged by what it meets, what is found and the current place
abbrev told_by : Newer → Option Row → Option ℕ → (ℕ → Phase) → Result ℕ WriteFault
told_by n row place phase = judged
    (option_or (fault_of n) (cond (is_none row) (Some Missing) (option_and_then (λ p. freezing_of (block_of p) (phase (block_of p))) place)))
    place Missing

module _ (slot other : ℕ → Slot) (places : List ℕ) (own : OwnKey) (same : (p : ℕ) → Among p places → other p ≡ slot p) (mine : (p : ℕ) → own.written ≡ Some p → other p ≡ slot p) where
  -- Where the key's slots are the same, so is what an event on it meets that is newer.
  newer_same : newer_by other places own ≡ newer_by slot places own
  newer_same =
      ap (λ o. conflict_by o (largest (flat_map (λ place. numbers_above (other place).entries own.snapshot.stamp) places)))
      (first_same (λ place. other_writer (slot place).entries own.session) (λ place. other_writer (other place).entries own.session) places
      (λ p a. ap (λ (x : Slot). other_writer x.entries own.session) (same p a)))
      ∙ ap (λ ns. conflict_by (first_at (λ place. other_writer (slot place).entries own.session) places) (largest ns))
      (flat_same (λ place. numbers_above (slot place).entries own.snapshot.stamp) (λ place. numbers_above (other place).entries own.snapshot.stamp) places
      (λ p a. ap (λ (x : Slot). numbers_above x.entries own.snapshot.stamp) (same p a)))

  -- Where the key's slots are the same, so is the row that an event on it finds.
  found_same : found_by other places own ≡ found_by slot places own
  found_same = go own.written refl
    where
      go : (w : Option ℕ) → own.written ≡ w → found_at other places own own.written ≡ found_at slot places own own.written
      go None is =
          ap (found_at other places own) is
          ∙ first_same (λ place. seen (slot place) own.snapshot.stamp own.session) (λ place. seen (other place) own.snapshot.stamp own.session) places
          (λ p a. ap (λ (x : Slot). seen x own.snapshot.stamp own.session) (same p a))
          ∙ ap (found_at slot places own) (sym is)
      go (Some p) is =
          ap (found_at other places own) is ∙ ap (λ (x : Slot). seen x own.snapshot.stamp own.session) (mine p is) ∙ ap (found_at slot places own) (sym is)

  -- An insert is judged the same where the slots at the key's places and at the own place are.
  insert_same : (head : Head) (slots : ℕ) → judged_insert other places head slots own ≡ judged_insert slot places head slots own
  insert_same head slots =
      ap (λ n. judged (option_or (fault_of n) (cond (is_some (found_by other places own)) (Some Exists) None)) (option_or own.written (next_place head slots)) (Full head.inserts)) newer_same
      ∙ ap (λ o. judged (option_or (fault_of (newer_by slot places own)) (cond (is_some o) (Some Exists) None)) (option_or own.written (next_place head slots)) (Full head.inserts)) found_same

  -- A change of a key is judged the same where slots and phases are.
  change_same : (phase another : ℕ → Phase) → ((p : ℕ) → Among p places → another (block_of p) ≡ phase (block_of p)) → judged_change other places another own ≡ judged_change slot places phase own
  change_same phase another alike =
      ap (λ n. told_by n (found_by other places own) (current_place other places) another) newer_same
      ∙ ap (λ o. told_by (newer_by slot places own) o (current_place other places) another) found_same
      ∙ ap (λ o. told_by (newer_by slot places own) (found_by slot places own) o another) (current_same slot other places same)
      ∙ go (current_place slot places) refl
    where
      go : (o : Option ℕ) → current_place slot places ≡ o → told_by (newer_by slot places own) (found_by slot places own) (current_place slot places) another ≡ told_by (newer_by slot places own) (found_by slot places own) (current_place slot places) phase
      go None is =
          ap (λ o. told_by (newer_by slot places own) (found_by slot places own) o another) is
          ∙ ap (λ o. told_by (newer_by slot places own) (found_by slot places own) o phase) (sym is)
      go (Some p) is =
          ap (λ o. told_by (newer_by slot places own) (found_by slot places own) o another) is
          ∙ ap (λ ph. judged (option_or (fault_of (newer_by slot places own)) (cond (is_none (found_by slot places own)) (Some Missing) (freezing_of (block_of p) ph))) (Some p) Missing)
          (alike p (current_among slot places p is))
          ∙ ap (λ o. told_by (newer_by slot places own) (found_by slot places own) o phase) (sym is)

-- ---- the parts that are touched

module _ (sh : Shape) (e : CoreEvent) (hand : List (Option CorePart)) (s u : Parts) (covers : Covers (touching sh e) hand) (here : Agrees hand s) (there : Agrees hand u) where
  -- a desk that is touched is the same in both
  pub desk_same : touches sh e hand TheDesk ≡ true → desk_at sh u ≡ desk_at sh s
  desk_same is = ap desk_from (part_same sh e hand s u covers here there TheDesk is)

  -- and so is a head
  pub head_same : (t : ℕ) → touches sh e hand (HeadOf t) ≡ true → head_at sh u t ≡ head_at sh s t
  head_same t is = ap head_from (part_same sh e hand s u covers here there (HeadOf t) is)

  -- and each slot of a body
  pub slot_same : (t p : ℕ) → touches sh e hand (BodyOf t (block_of p)) ≡ true → slot_at sh u t p ≡ slot_at sh s t p
  slot_same t p is = ap (λ x. slot_in x (slot_of p)) (body_same sh e hand s u covers here there t (block_of p) is)

  -- what an event on a key reads
  pub record ReadsKey (own : OwnKey) (t : ℕ) (key : ℤ) : Type 0 where
    pub places : places_at sh u t key ≡ places_at sh s t key
    pub bodies : (p : ℕ) → Among p (places_at sh s t key) → body_at sh u t (block_of p) ≡ body_at sh s t (block_of p)
    pub mine : (p : ℕ) → own.written ≡ Some p → slot_at sh u t p ≡ slot_at sh s t p

  -- Where a key's shard and bodies are touched, an event on it reads the same in both cores.
  reads_key : (own : OwnKey) (t : ℕ) (key : ℤ) → touches sh e hand (ShardOf t (shard_of key)) ≡ true
      → ((p : ℕ) → Among p (candidates_of (shard_from (held_named (names sh) hand (ShardOf t (shard_of key)))) key) → touches sh e hand (BodyOf t (block_of p)) ≡ true)
      → ((p : ℕ) → own.written ≡ Some p → touches sh e hand (BodyOf t (block_of p)) ≡ true) → ReadsKey own t key
  reads_key own t key shard bodies mine = record {
    places = ap (λ o. candidates_of (shard_from o) key) (part_same sh e hand s u covers here there (ShardOf t (shard_of key)) shard);
    bodies = λ p a. body_same sh e hand s u covers here there t (block_of p) (bodies p (subst (Among p) (sym held) a));
    mine = λ p is. slot_same t p (mine p is);
  }
    where
      held : candidates_of (shard_from (held_named (names sh) hand (ShardOf t (shard_of key)))) key ≡ places_at sh s t key
      held = ap (λ o. candidates_of (shard_from o) key) (look sh e hand s (ShardOf t (shard_of key)) covers here shard)

  -- The row that an event on a key finds is the same in both cores that it reads alike.
  found_alike : (own : OwnKey) (t : ℕ) (key : ℤ) → ReadsKey own t key → found sh u own t key ≡ found sh s own t key
  found_alike own t key reads =
      ap (λ ps. found_by (slot_at sh u t) ps own) reads.places
      ∙ found_same (slot_at sh s t) (slot_at sh u t) (places_at sh s t key) own (λ p a. ap (λ x. slot_in x (slot_of p)) (reads.bodies p a)) reads.mine

  -- a change of a key is judged alike in both
  pub change_alike : (own : OwnKey) (t : ℕ) (key : ℤ) → ReadsKey own t key → change_judged sh u own t key ≡ change_judged sh s own t key
  change_alike own t key reads =
      ap (λ ps. judged_change (slot_at sh u t) ps (λ block. (body_at sh u t block).phase) own) reads.places
      ∙ change_same (slot_at sh s t) (slot_at sh u t) (places_at sh s t key) own (λ p a. ap (λ x. slot_in x (slot_of p)) (reads.bodies p a)) reads.mine
      (λ block. (body_at sh s t block).phase) (λ block. (body_at sh u t block).phase) (λ p a. ap (λ (x : Body). x.phase) (reads.bodies p a))

  -- An insert is judged alike on two states whose head and key's parts are the same.
  insert_alike : (own : OwnKey) (t : ℕ) (key : ℤ) → ReadsKey own t key → head_at sh u t ≡ head_at sh s t → insert_judged sh u own t key ≡ insert_judged sh s own t key
  insert_alike own t key reads head =
      ap (λ ps. judged_insert (slot_at sh u t) ps (head_at sh u t) (slots_of sh t) own) reads.places
      ∙ ap (λ h. judged_insert (slot_at sh u t) (places_at sh s t key) h (slots_of sh t) own) head
      ∙ insert_same (slot_at sh s t) (slot_at sh u t) (places_at sh s t key) own (λ p a. ap (λ x. slot_in x (slot_of p)) (reads.bodies p a)) reads.mine (head_at sh s t) (slots_of sh t)

-- whether a pair holds, by its table's head and the bodies of its two places
abbrev may_give : ℕ → Head → Body → Bool
may_give block head x = is_loose x.phase && x.cooling && not (block == head.block) && has_row x

-- Whether a pair of a move holds, by its table's head and the bodies of its two places.
abbrev holds_by : MovePair → Head → Body → Body → Bool
holds_by pair head from to =
    may_give (block_of pair.source) head from && may_give (block_of pair.target) head to
    && has_key pair.key (slot_in from (slot_of pair.source)).row && has_none (slot_in from (slot_of pair.source)).entries
    && is_bare (slot_in to (slot_of pair.target))

-- the body of the own write is touched
own_touched : (t : ℕ) (key : ℤ) (written : Option ℕ) (places : List ℕ) (p : ℕ) → written ≡ Some p → touched_by_key t key (option_to_list written ++ places) (BodyOf t (block_of p)) ≡ true
own_touched t key written places p is =
    ap (λ o. (t == t) && list_any (λ place. block_of place == block_of p) (option_to_list o ++ places)) is
    ∙ and_from (t == t) (list_any (λ place. block_of place == block_of p) (p ∷ places)) (num_refl t) (block_among (p ∷ places) p (inl refl))

module _ (sh : Shape) (hand : List (Option CorePart)) (s u : Parts) (here : Agrees hand s) (there : Agrees hand u) where
  -- The candidates of a key, by the shard in the hand.
  abbrev in_hand : ℕ → ℤ → List ℕ
  in_hand t key = candidates_of (shard_from (held_named (names sh) hand (ShardOf t (shard_of key)))) key

  -- What a get reads of its key is the same in both cores.
  get_reads : (own : OwnKey) (t : ℕ) (key : ℤ) → (covers : Covers (touching sh (event.Get own t key)) hand) → ReadsKey sh (event.Get own t key) hand s u covers here there own t key
  get_reads own t key covers = reads_key sh (event.Get own t key) hand s u covers here there own t key
      (shard_touched t key (option_to_list own.written ++ in_hand t key)) (body_touched t key (option_to_list own.written) (in_hand t key)) (own_touched t key own.written (in_hand t key))

  -- what an update reads of its key is the same in both
  pub update_reads : (own : OwnKey) (t : ℕ) (row : Row) → (covers : Covers (touching sh (event.Update own t row)) hand) → ReadsKey sh (event.Update own t row) hand s u covers here there own t (key_of row)
  update_reads own t row covers = reads_key sh (event.Update own t row) hand s u covers here there own t (key_of row)
      (shard_touched t (key_of row) (option_to_list own.written ++ in_hand t (key_of row))) (body_touched t (key_of row) (option_to_list own.written) (in_hand t (key_of row))) (own_touched t (key_of row) own.written (in_hand t (key_of row)))

  -- and what a delete reads
  pub delete_reads : (own : OwnKey) (t : ℕ) (key : ℤ) → (covers : Covers (touching sh (event.Delete own t key)) hand) → ReadsKey sh (event.Delete own t key) hand s u covers here there own t key
  delete_reads own t key covers = reads_key sh (event.Delete own t key) hand s u covers here there own t key
      (shard_touched t key (option_to_list own.written ++ in_hand t key)) (body_touched t key (option_to_list own.written) (in_hand t key)) (own_touched t key own.written (in_hand t key))

  -- The parts that an insert touches have all that its key's judgement reads.
  insert_reads : (own : OwnKey) (t : ℕ) (row : Row) → (covers : Covers (touching sh (event.Insert own t row)) hand) → ReadsKey sh (event.Insert own t row) hand s u covers here there own t (key_of row)
  insert_reads own t row covers = reads_key sh (event.Insert own t row) hand s u covers here there own t (key_of row)
      (shard_touched t (key_of row) (option_to_list (taken own t) ++ in_hand t (key_of row)))
      (body_touched t (key_of row) (option_to_list (taken own t)) (in_hand t (key_of row)))
      (λ p is. own_touched t (key_of row) (taken own t) (in_hand t (key_of row)) p (ap (λ w. option_or w (next_place (head_from (held_named (names sh) hand (HeadOf t))) (slots_of sh t))) is))
    where
      taken : OwnKey → ℕ → Option ℕ
      taken own t = option_or own.written (next_place (head_from (held_named (names sh) hand (HeadOf t))) (slots_of sh t))

  -- An insert touches its table's head.
  insert_head : (own : OwnKey) (t : ℕ) (row : Row) → touches sh (event.Insert own t row) hand (HeadOf t) ≡ true
  insert_head own t row = or_left (t == t) _ (num_refl t)

  -- an insert is judged alike in both
  pub inserts_alike : (own : OwnKey) (t : ℕ) (row : Row) → (covers : Covers (touching sh (event.Insert own t row)) hand) → insert_judged sh u own t (key_of row) ≡ insert_judged sh s own t (key_of row)
  inserts_alike own t row covers = insert_alike sh (event.Insert own t row) hand s u covers here there own t (key_of row) (insert_reads own t row covers)
      (head_same sh (event.Insert own t row) hand s u covers here there t (insert_head own t row))

  -- ---- moves

  -- a move touches the bodies of each of its pairs
  pub pair_touched : (t : ℕ) (moves : List MovePair) (pair : MovePair) (p : ℕ) → Among pair moves → Among p (pair.source ∷ pair.target ∷ []) → touches sh (event.Move t moves) hand (BodyOf t (block_of p)) ≡ true
  pair_touched t moves pair p a b = or_left (is_body_moved t moves (BodyOf t (block_of p))) false
      (any_true (λ (pair : MovePair). is_body_of t (pair.source ∷ pair.target ∷ []) (BodyOf t (block_of p))) moves pair a
      (and_from (t == t) (list_any (λ place. block_of place == block_of p) (pair.source ∷ pair.target ∷ [])) (num_refl t) (block_among (pair.source ∷ pair.target ∷ []) p b)))

  -- A move touches the head of its table.
  move_head : (t : ℕ) (moves : List MovePair) → touches sh (event.Move t moves) hand (HeadOf t) ≡ true
  move_head t moves = or_left (((t == t) || false) || is_body_moved t moves (HeadOf t)) false (or_left ((t == t) || false) (is_body_moved t moves (HeadOf t)) (or_left (t == t) false (num_refl t)))

  -- the same pairs hold in both
  pub pairs_alike : (t : ℕ) (moves : List MovePair) → Covers (touching sh (event.Move t moves)) hand → held_pairs sh u t moves ≡ held_pairs sh s t moves
  pairs_alike t moves covers = filter_same (holds sh s t) (holds sh u t) moves at
    where
      body : (pair : MovePair) (p : ℕ) → Among pair moves → Among p (pair.source ∷ pair.target ∷ []) → body_at sh u t (block_of p) ≡ body_at sh s t (block_of p)
      body pair p a b = body_same sh (event.Move t moves) hand s u covers here there t (block_of p) (pair_touched t moves pair p a b)

      head : head_at sh u t ≡ head_at sh s t
      head = head_same sh (event.Move t moves) hand s u covers here there t (move_head t moves)

      at : (pair : MovePair) → Among pair moves → holds sh u t pair ≡ holds sh s t pair
      at pair a =
          ap (λ h. holds_by pair h (body_at sh u t (block_of pair.source)) (body_at sh u t (block_of pair.target))) head
          ∙ ap (λ x. holds_by pair (head_at sh s t) x (body_at sh u t (block_of pair.target))) (body pair pair.source a (inl refl))
          ∙ ap (λ x. holds_by pair (head_at sh s t) (body_at sh s t (block_of pair.source)) x) (body pair pair.target a (inr (inl refl)))

  -- ---- reads

  -- A read of a block replies the same in both cores where the body is the same.
  read_alike : (own : OwnTransaction) (t b : ℕ) → IsShape sh → Sound sh s → HasBlock sh t b → body_at sh u t b ≡ body_at sh s t b → reply_to_read sh u own t b ≡ reply_to_read sh s own t b
  read_alike own t b shape ok has body =
      ap (λ x. cond (is_imaged x.phase) (reply.Shared (rows_of x)) (reply.Rows (rows_read sh u own t b))) body
      ∙ ap (λ rows. cond (is_imaged (body_at sh s t b).phase) (reply.Shared (rows_of (body_at sh s t b))) (reply.Rows rows)) rows
    where
      slot : (j : ℕ) → Among j (below (length (body_at sh s t b).slots)) → slot_at sh u t (place_of b j) ≡ slot_at sh s t (place_of b j)
      slot j a =
          let less = member_below 0 (length (body_at sh s t b).slots) j a in
          let size = (ok.bodies t b has).slots in
          let most = (shape.slots t has.0).1 in
          let whole = block_is b j (omega (arith, less, size, most)) in
          ap (λ x. slot_in (body_at sh u t x) (slot_of (place_of b j))) whole ∙ ap (λ x. slot_in x (slot_of (place_of b j))) body
          ∙ ap (λ x. slot_in (body_at sh s t x) (slot_of (place_of b j))) (sym whole)

      rows : rows_read sh u own t b ≡ rows_read sh s own t b
      rows =
          ap (λ (x : Body). filter_map (λ j. row_read sh u own t (place_of b j)) (below (length x.slots))) body
          ∙ kept_same (λ j. row_read sh s own t (place_of b j)) (λ j. row_read sh u own t (place_of b j)) (below (length (body_at sh s t b).slots))
          (λ j a. ap (λ (x : Slot). option_and_then
          (λ row. cond (is_elsewhere (at_place own.writes (place_at t (key_of row))) (place_of b j)) None (Some row))
          (seen x own.snapshot.stamp own.session)) (slot j a))

  -- ---- ranges

  module _ (own : OwnTransaction) (t : ℕ) (low high : ℤ) (covers : Covers (touching sh (event.Range own t low high)) hand) where
    -- the event, and the parts in the hand by name
    abbrev range : CoreEvent
    range = event.Range own t low high

    abbrev held : Name → Option CorePart
    held = held_named (names sh) hand

    -- A range touches all shards of its table,
    shard_there : (i : ℕ) → touches sh range hand (ShardOf t i) ≡ true
    shard_there i = or_left (is_shard_in t (ShardOf t i)) (list_any (λ key. is_body_of t (seen_places sh held own t key) (ShardOf t i)) (held_keys sh held t low high)) (num_refl t)

    -- so it has the same keys in both,
    range_keys_alike : range_keys sh u t low high ≡ range_keys sh s t low high
    range_keys_alike = flat_alike _ _ (below 8) (λ i b. ap (λ o. keys_within low high (shard_from o)) (part_same sh range hand s u covers here there (ShardOf t i) (shard_there i)))

    keys_held : held_keys sh held t low high ≡ range_keys sh s t low high
    keys_held = flat_alike _ _ (below 8) (λ i b. ap (λ o. keys_within low high (shard_from o)) (look sh range hand s (ShardOf t i) covers here (shard_there i)))

    -- and the bodies where a key's row may be found,
    body_there : (key : ℤ) → Among key (range_keys sh s t low high) → (p : ℕ) → Among p (seen_places sh held own t key) → touches sh range hand (BodyOf t (block_of p)) ≡ true
    body_there key k p b =
        or_right (is_shard_in t (BodyOf t (block_of p))) (list_any (λ key. is_body_of t (seen_places sh held own t key) (BodyOf t (block_of p))) (held_keys sh held t low high))
        (any_true (λ key. is_body_of t (seen_places sh held own t key) (BodyOf t (block_of p))) (held_keys sh held t low high) key (subst (Among key) (sym keys_held) k)
        (and_from (t == t) (list_any (λ place. block_of place == block_of p) (seen_places sh held own t key)) (num_refl t) (block_among (seen_places sh held own t key) p b)))

    -- so that what it reads of each key is the same in both.
    range_reads : (key : ℤ) → Among key (range_keys sh s t low high) → ReadsKey sh range hand s u covers here there (own_key t key own) t key
    range_reads key k = reads_key sh range hand s u covers here there (own_key t key own) t key (shard_there (shard_of key))
        (λ p a. body_there key k p (in_right (option_to_list (at_place own.writes (place_at t key))) (in_hand t key) p a))
        (λ p is. body_there key k p (subst (λ o. Among p (option_to_list o ++ in_hand t key)) (sym is) (inl refl)))

    -- a range finds the same rows in both
    range_alike : range_found sh u own t low high ≡ range_found sh s own t low high
    range_alike =
        ap (filter_map (λ key. found sh u (own_key t key own) t key)) range_keys_alike
        ∙ kept_same (λ key. found sh s (own_key t key own) t key) (λ key. found sh u (own_key t key own) t key) (range_keys sh s t low high)
        (λ key k. found_alike sh range hand s u covers here there (own_key t key own) t key (range_reads key k))

-- The reply to a begin: the desk's newest stamp and its count of commits.
abbrev begun_of : DeskState → CoreReply
begun_of desk = reply.Begun (record { stamp = desk.newest; number = desk.commits })

-- What an event replies hangs on the parts that it touches.
pub replies : Replies
replies sh (event.Begin q) hand s u shape ok fits here there covers = ap begun_of (desk_same sh (event.Begin q) hand s u covers here there refl)
replies sh (event.Get own t key) hand s u shape ok fits here there covers =
    ap reply.Found (found_alike sh (event.Get own t key) hand s u covers here there own t key (get_reads sh hand s u here there own t key covers))
replies sh (event.Insert own t row) hand s u shape ok fits here there covers = ap reply_to_write (inserts_alike sh hand s u here there own t row covers)
replies sh (event.Update own t row) hand s u shape ok fits here there covers =
    ap reply_to_write (change_alike sh (event.Update own t row) hand s u covers here there own t (key_of row) (update_reads sh hand s u here there own t row covers))
replies sh (event.Delete own t key) hand s u shape ok fits here there covers =
    ap reply_to_write (change_alike sh (event.Delete own t key) hand s u covers here there own t key (delete_reads sh hand s u here there own t key covers))
replies sh (event.Read own t b) hand s u shape ok fits here there covers =
    read_alike sh hand s u here there own t b shape ok fits (body_same sh (event.Read own t b) hand s u covers here there t b (name_self (BodyOf t b)))
replies sh (event.Range own t low high) hand s u shape ok fits here there covers = ap reply.Rows (range_alike sh hand s u here there own t low high covers)
replies sh (event.Commit own reads) hand s u shape ok fits here there covers =
    ap (reply_to_commit sh u own) (stale_alike sh own reads hand s u covers here there) ∙ judged_alike (stale_in sh s own reads)
  where
    judged_alike : (found : Option (Read × ℕ)) → reply_to_commit sh u own found ≡ reply_to_commit sh s own found
    judged_alike None =
        ap (λ (desk : DeskState). reply.Committed (cond (is_some_write own.writes) (Some (desk.commits + 1)) None))
        (desk_same sh (event.Commit own reads) hand s u covers here there (desk_touched sh own reads hand s u covers here there))
    judged_alike (Some stale) = refl
replies sh (event.Abort own) hand s u shape ok fits here there covers = refl
replies sh event.Oldest hand s u shape ok fits here there covers = ap (λ desk. reply.Oldest (oldest_of desk)) (desk_same sh event.Oldest hand s u covers here there refl)
replies sh (event.Observe t b) hand s u shape ok fits here there covers =
    ap (λ (h : Head). reply.Turned (turns (b == h.block) (body_at sh u t b))) (head_same sh (event.Observe t b) hand s u covers here there t (or_left (t == t) false (num_refl t)))
    ∙ ap (λ x. reply.Turned (turns (is_head sh s t b) x)) (body_same sh (event.Observe t b) hand s u covers here there t b (name_self (BodyOf t b)))
replies sh (event.Prune t b oldest) hand s u shape ok fits here there covers =
    ap (λ x. reply.Dropped (dropped_from oldest x)) (body_same sh (event.Prune t b oldest) hand s u covers here there t b (or_left (same_name (BodyOf t b) (BodyOf t b)) false (name_self (BodyOf t b))))
replies sh (event.Look t b) hand s u shape ok fits here there covers =
    ap (λ x. reply.Looked (looked x)) (body_same sh (event.Look t b) hand s u covers here there t b (name_self (BodyOf t b)))
replies sh (event.Move t moves) hand s u shape ok fits here there covers =
    ap (λ (pairs : List MovePair). reply.Moved (length pairs)) (pairs_alike sh hand s u here there t moves covers)
replies sh (event.Seal t b) hand s u shape ok fits here there covers =
    ap (λ (h : Head). reply_to_seal (seal_fault (b == h.block) (body_at sh u t b)) (body_at sh u t b).last) (head_same sh (event.Seal t b) hand s u covers here there t (or_left (t == t) false (num_refl t)))
    ∙ ap (λ (x : Body). reply_to_seal (seal_fault (is_head sh s t b) x) x.last) (body_same sh (event.Seal t b) hand s u covers here there t b (name_self (BodyOf t b)))
replies sh (event.Image t b image) hand s u shape ok fits here there covers =
    ap (λ (x : Body). reply_to_image x.phase x) (body_same sh (event.Image t b image) hand s u covers here there t b (name_self (BodyOf t b)))
replies sh (event.Thaw t b) hand s u shape ok fits here there covers = refl
