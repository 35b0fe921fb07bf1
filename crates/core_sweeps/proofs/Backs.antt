-- Pairs that are taken back on a hand, and the end of a move.
use Rattle.std.proofs.Common.{◌≡◌, ◌≢◌, ◌⊎◌, ℕ, suc, ◌+◌, ◌<◌, Bool, true, false, cond, ◌&&◌, ◌||◌, ◌==◌, List, [], ◌∷◌, ◌++◌, None, Some, take, fold, length, refl, sym, ap, ◌∙◌, subst, arith}
use mathlib.Core.Logic.{inl, inr}
use Rattle.std.specs.Prelude.{slice_get}
use Rattle.std.specs.List.{list_any}
use Rattle.std.proofs.lemmas.Bool.{and_parts, or_cases}
use Rattle.block_layout.specs.Place.{block_of, slot_of}
use Rattle.block_spec.specs.Bodies.{Body, slot_in, taken_back_in}
use Rattle.block_spec.specs.Slots.{Slot, has_none}
use Rattle.core_sweeps.proofs.Bodies.{all_long, all_slot, both_back, both_moved, cooled_slot, fold_more, half_is, in_filled, out_filled, pair_back, take_more}
use Rattle.core_sweeps.proofs.Moves.{bare_row, far, far_from, four, has_its_shard, has_row_of, has_source, has_target, listed, not_there, one, own_apart, part_there, places, source_is, target_is, the_row, two}
use Rattle.core_sweeps.specs.MoveSteps.{AreBack, AreMoved, IsNearly, back_to, cooled, moved_to, pair_undone}
use Rattle.core_parts.proofs.Changing.{after_twice, alike, desk_change, desk_only, laid_back_changed}
use Rattle.core_parts.proofs.Telling.{from_one, room}
use Rattle.core_parts.specs.Hands.{Has, Held, Makes, after, in_hand, laid}
use Rattle.core_sweeps.proofs.Handing.{after_then, body_in_after, first_same, has_still, room_still, same_either}
use Rattle.core_sweeps.proofs.Rolling.{differs}
use Rattle.core_sweeps.specs.SweepSteps.{body_changed, body_in}
use Rattle.core_laws.proofs.Events.ByKind.{rests_at, twice_at}
use Rattle.core_laws.proofs.Events.Naming.{body_is_there}
use Rattle.core_laws.proofs.Events.Slots.{num, num_refl}
use Rattle.event_spec.specs.declared.event.Event.TheVariants as event
use Rattle.event_spec.specs.declared.event.MovePair.{MovePair}
use Rattle.event_spec.specs.declared.part.Part.TheVariants as part
use Rattle.event_spec.specs.declared.reply.Reply.TheVariants as reply
use Rattle.event_spec.specs.Effects.{after_move, half_moved, may_move, moved_row, places_moved, ticked, with_place}
use Rattle.event_spec.specs.Lawful.{Among, HasBlock}
use Rattle.event_spec.specs.Parts.{CorePart, Shape, Name, HeadOf, ShardOf, BodyOf, TheDesk, body_at, body_from, changed, desk_at, names, part_at, shard_of, slot_at, slots_of}
use Rattle.core_laws.proofs.Frames.Looks.{true_false}
use Rattle.core_laws.proofs.Frames.Shards.{moved_holds}
use Rattle.key_index.specs.Candidates.{Places, candidates_of}
use Rattle.core_parts.proofs.Shards.{added_is_dropped}
use Rattle.core_parts.specs.Shards.{without_place}
use Rattle.txn_desk.specs.Desk.{DeskState}

-- ---- a pair that failed

module _ (sh : Shape) (t : ℕ) (moves : List MovePair) (old now : Held) (pairs : List MovePair) (done : ℕ) (u : AreMoved sh t moves old now pairs done)
    (pair : MovePair) (at : slice_get pairs done ≡ Some pair) where
  -- Pairs that moved are pairs of which none was taken back and no block cooled again.
  none_again : (n : Name) (x : CorePart) → changed (moved_to sh u.may.parts t (take done pairs)) n x ≡ changed (back_to sh u.may.parts t (take done pairs) (λ b. false)) n x
  none_again (HeadOf v) x = refl_head x
    where
      refl_head : (x : CorePart) → changed (moved_to sh u.may.parts t (take done pairs)) (HeadOf v) x ≡ changed (back_to sh u.may.parts t (take done pairs) (λ b. false)) (HeadOf v) x
      refl_head (part.Head y) = refl
      refl_head (part.Shard y) = refl
      refl_head (part.Body y) = refl
      refl_head (part.Desk y) = refl
  none_again (ShardOf v i) (part.Head y) = refl
  none_again (ShardOf v i) (part.Shard y) = refl
  none_again (ShardOf v i) (part.Body y) = refl
  none_again (ShardOf v i) (part.Desk y) = refl
  none_again (BodyOf v b) (part.Head y) = refl
  none_again (BodyOf v b) (part.Shard y) = refl
  none_again (BodyOf v b) (part.Body y) = ap part.Body (go (v == t) (cond (v == t) (fold (half_moved sh u.may.parts t ((desk_at sh u.may.parts).newest + 1) b) y (take done pairs)) y))
    where
      go : (c : Bool) (z : Body) → z ≡ cond (c && false) (cooled z) z
      go true z = refl
      go false z = refl
  none_again (BodyOf v b) (part.Desk y) = refl
  none_again TheDesk (part.Head y) = refl
  none_again TheDesk (part.Shard y) = refl
  none_again TheDesk (part.Body y) = refl
  none_again TheDesk (part.Desk y) = refl

  -- a pair that fails to move leaves the hand of those before it, none of them taken back yet
  pub fails : (new : Held) → IsNearly sh t (block_of pair.source) now new → AreBack sh t moves old new pairs done
  fails new (inl same) = record {
    may = u.may;
    hold = u.hold;
    again = λ b. false;
    only = λ b e. absurd (true_false (sym e));
    made = same ∙ u.made ∙ alike (moved_to sh u.may.parts t (take done pairs)) (back_to sh u.may.parts t (take done pairs) (λ b. false)) (names sh) old (λ k n x is held. none_again n x);
  }
  fails new (inr near) = record {
    may = u.may;
    hold = u.hold;
    again = λ b. b == block_of pair.source;
    only = λ b e. subst (λ b. may_move sh u.may.parts t b ≡ true) (sym (num b (block_of pair.source) e)) (one sh t moves old now pairs done u pair at).0;
    made = near ∙ ap (after sh (body_changed t (block_of pair.source) cooled)) u.made
        ∙ after_twice sh (moved_to sh u.may.parts t (take done pairs)) (body_changed t (block_of pair.source) cooled) (back_to sh u.may.parts t (take done pairs) (λ b. b == block_of pair.source)) old
        (record { head = λ v x. refl; shard = λ v i x. refl; body = λ v b x. refl; desk = λ x. refl });
  }

-- ---- one pair back

module _ (sh : Shape) (t : ℕ) (moves : List MovePair) (old now : Held) (pairs : List MovePair) (k : ℕ) (v : AreBack sh t moves old now pairs (k + 1))
    (pair : MovePair) (at : slice_get pairs k ≡ Some pair) where
  -- The hand after the pairs in front of this one moved.
  abbrev mid : Held
  mid = after sh (moved_to sh v.may.parts t (take k pairs)) old

  -- the hand before the pair moved
  abbrev before : AreMoved sh t moves old (after sh (moved_to sh v.may.parts t (take k pairs)) old) pairs k
  before = record { may = v.may; hold = v.hold; made = refl }

  -- The pair is one of the move's.
  mine : Among pair moves
  mine = (listed sh t moves old mid pairs k before pair at).0

  -- The first pairs up to this one are those in front of it, and it.
  grown : take (k + 1) pairs ≡ take k pairs ++ pair ∷ []
  grown = let next : k + 1 ≡ suc k = omega arith in ap (λ n. take n pairs) next ∙ take_more pairs k pair at

  -- each part that the hand had it still has
  pub back_still : (w : Name) → Has sh old w → Has sh now w
  back_still w has = has_still sh (back_to sh v.may.parts t (take (k + 1) pairs) v.again) old now w v.made has

  -- the hand has a place for each part
  pub back_room : length now ≡ length (names sh)
  back_room = room_still sh (back_to sh v.may.parts t (take (k + 1) pairs) v.again) old now v.made (room sh (event.Move t moves) old v.may)

  -- it has the body of the pair's source
  pub back_source : Has sh now (BodyOf t (block_of pair.source))
  back_source = back_still (BodyOf t (block_of pair.source)) (has_source sh t moves old v.may pair mine)

  -- that of its target
  pub back_target : Has sh now (BodyOf t (block_of pair.target))
  back_target = back_still (BodyOf t (block_of pair.target)) (has_target sh t moves old v.may pair mine)

  -- and the shard of its key
  pub back_shard : Has sh now (ShardOf t (shard_of pair.key))
  back_shard = back_still (ShardOf t (shard_of pair.key)) (has_its_shard sh t moves old v.may pair mine)

  -- a pair's source is not its target
  pub back_apart : pair.source ≢ pair.target
  back_apart = own_apart pairs (far sh t moves old mid pairs k before) k pair at

  -- a body before the pair moved
  abbrev was : ℕ → Body → Body
  was b x = fold (half_moved sh v.may.parts t ((desk_at sh v.may.parts).newest + 1) b) x (take k pairs)

  -- A body after this pair has both its halves made on the body before it.
  after_pair : (b : ℕ) (x : Body) → fold (half_moved sh v.may.parts t ((desk_at sh v.may.parts).newest + 1) b) x (take (k + 1) pairs)
      ≡ both_moved b ((desk_at sh v.may.parts).newest + 1) (moved_row sh v.may.parts t pair) pair.source pair.target (fold (half_moved sh v.may.parts t ((desk_at sh v.may.parts).newest + 1) b) x (take k pairs))
  after_pair b x =
      ap (fold (half_moved sh v.may.parts t ((desk_at sh v.may.parts).newest + 1) b) x) grown
      ∙ fold_more (half_moved sh v.may.parts t ((desk_at sh v.may.parts).newest + 1) b) x (take k pairs) pair
      ∙ half_is sh v.may.parts t ((desk_at sh v.may.parts).newest + 1) b (fold (half_moved sh v.may.parts t ((desk_at sh v.may.parts).newest + 1) b) x (take k pairs)) pair

  -- A body in the hand has moved up to this pair, and is cooled where that was done.
  body_is_now : (b : ℕ) → Has sh old (BodyOf t b) → body_in sh old t b ≡ body_at sh v.may.parts t b
      → body_in sh now t b ≡ cond (v.again b) (cooled (both_moved b ((desk_at sh v.may.parts).newest + 1) (moved_row sh v.may.parts t pair) pair.source pair.target (was b (body_at sh v.may.parts t b))))
      (both_moved b ((desk_at sh v.may.parts).newest + 1) (moved_row sh v.may.parts t pair) pair.source pair.target (was b (body_at sh v.may.parts t b)))
  body_is_now b has same =
      ap (λ h. body_in sh h t b) v.made ∙ body_in_after sh (back_to sh v.may.parts t (take (k + 1) pairs) v.again) old t b has
      ∙ ap (λ c. cond (c && v.again b) (cooled (cond c (fold (half_moved sh v.may.parts t ((desk_at sh v.may.parts).newest + 1) b) (body_in sh old t b) (take (k + 1) pairs)) (body_in sh old t b)))
      (cond c (fold (half_moved sh v.may.parts t ((desk_at sh v.may.parts).newest + 1) b) (body_in sh old t b) (take (k + 1) pairs)) (body_in sh old t b))) (num_refl t)
      ∙ ap (λ (z : Body). cond (v.again b) (cooled z) z)
      (ap (λ (x : Body). fold (half_moved sh v.may.parts t ((desk_at sh v.may.parts).newest + 1) b) x (take (k + 1) pairs)) same ∙ after_pair b (body_at sh v.may.parts t b))

  -- A body before the pair moved has as many slots as its table's blocks have.
  long : (b : ℕ) → HasBlock sh t b → length (was b (body_at sh v.may.parts t b)).slots ≡ slots_of sh t
  long b has = all_long sh v.may.parts t ((desk_at sh v.may.parts).newest + 1) b (take k pairs) (body_at sh v.may.parts t b) ∙ (v.may.holds.sound.bodies t b has).slots

  -- A pair's source is a slot of its block.
  inside_source : slot_of pair.source < length (was (block_of pair.source) (body_at sh v.may.parts t (block_of pair.source))).slots
  inside_source = subst (λ n. slot_of pair.source < n) (sym (long (block_of pair.source) (places sh t moves old v.may pair mine).0.0)) (places sh t moves old v.may pair mine).0.1

  -- A pair's target is a slot of its block.
  inside_target : slot_of pair.target < length (was (block_of pair.target) (body_at sh v.may.parts t (block_of pair.target))).slots
  inside_target = subst (λ n. slot_of pair.target < n) (sym (long (block_of pair.target) (places sh t moves old v.may pair mine).1.0)) (places sh t moves old v.may pair mine).1.1

  -- the slot that the row left has an entry, which can be taken back
  pub back_out_entry : has_none (slot_in (body_in sh now t (block_of pair.source)) (slot_of pair.source)).entries ≡ false
  back_out_entry =
      ap (λ (x : Body). has_none (slot_in x (slot_of pair.source)).entries) (body_is_now (block_of pair.source) (has_source sh t moves old v.may pair mine) (source_is sh t moves old v.may pair mine))
      ∙ ap (λ (x : Slot). has_none x.entries) (cooled_slot (v.again (block_of pair.source)) (both_moved (block_of pair.source) ((desk_at sh v.may.parts).newest + 1) (moved_row sh v.may.parts t pair) pair.source pair.target (was (block_of pair.source) (body_at sh v.may.parts t (block_of pair.source)))) (slot_of pair.source))
      ∙ out_filled (block_of pair.source) ((desk_at sh v.may.parts).newest + 1) (moved_row sh v.may.parts t pair) pair.source pair.target (was (block_of pair.source) (body_at sh v.may.parts t (block_of pair.source))) refl inside_source back_apart

  -- and so has the slot that it came to
  pub back_in_entry : has_none (slot_in (body_in sh now t (block_of pair.target)) (slot_of pair.target)).entries ≡ false
  back_in_entry =
      ap (λ (x : Body). has_none (slot_in x (slot_of pair.target)).entries) (body_is_now (block_of pair.target) (has_target sh t moves old v.may pair mine) (target_is sh t moves old v.may pair mine))
      ∙ ap (λ (x : Slot). has_none x.entries) (cooled_slot (v.again (block_of pair.target)) (both_moved (block_of pair.target) ((desk_at sh v.may.parts).newest + 1) (moved_row sh v.may.parts t pair) pair.source pair.target (was (block_of pair.target) (body_at sh v.may.parts t (block_of pair.target)))) (slot_of pair.target))
      ∙ in_filled (block_of pair.target) ((desk_at sh v.may.parts).newest + 1) (moved_row sh v.may.parts t pair) pair.source pair.target (was (block_of pair.target) (body_at sh v.may.parts t (block_of pair.target))) refl inside_target

  -- ---- the parts

  -- The blocks that are cooled then: those that were, and the two of the pair.
  abbrev again : ℕ → Bool
  again b = (v.again b || (b == block_of pair.source)) || (b == block_of pair.target)

  -- The test of two numbers is the same in either order.
  flip : (a b : ℕ) → (a == b) ≡ (b == a)
  flip a b = go (a == b) refl
    where
      go : (c : Bool) → (a == b) ≡ c → (a == b) ≡ (b == a)
      go true e = e ∙ sym (ap (λ y. y == a) (sym (num a b e)) ∙ num_refl a)
      go false e = e ∙ sym (differs b a (λ same. true_false (sym (ap (λ y. a == y) same ∙ num_refl a) ∙ e)))

  -- With the pair's candidate dropped a shard is as it was before the pair moved.
  shard_back : (w i : ℕ) (x : Places) → part_at sh v.may.parts (ShardOf w i) ≡ Some (part.Shard x)
      → cond ((w == t) && (i == shard_of pair.key)) (without_place pair.key pair.target (cond (w == t) (fold (places_moved sh v.may.parts i) x (take (k + 1) pairs)) x)) (cond (w == t) (fold (places_moved sh v.may.parts i) x (take (k + 1) pairs)) x)
      ≡ cond (w == t) (fold (places_moved sh v.may.parts i) x (take k pairs)) x
  shard_back w i x is = go (w == t) (i == shard_of pair.key) refl refl
    where
      y : Places
      y = fold (places_moved sh v.may.parts i) x (take k pairs)

      more : (c : Bool) → (i == shard_of pair.key) ≡ c → fold (places_moved sh v.may.parts i) x (take (k + 1) pairs) ≡ cond c (with_place pair.key pair.target (fold (places_moved sh v.may.parts i) x (take k pairs))) (fold (places_moved sh v.may.parts i) x (take k pairs))
      more c e =
          ap (fold (places_moved sh v.may.parts i) x) grown ∙ fold_more (places_moved sh v.may.parts i) x (take k pairs) pair
          ∙ ap (λ c. cond c (with_place pair.key pair.target (fold (places_moved sh v.may.parts i) x (take k pairs))) (fold (places_moved sh v.may.parts i) x (take k pairs))) (flip (shard_of pair.key) i ∙ e)

      go : (c d : Bool) → (w == t) ≡ c → (i == shard_of pair.key) ≡ d
          → cond ((w == t) && (i == shard_of pair.key)) (without_place pair.key pair.target (cond (w == t) (fold (places_moved sh v.may.parts i) x (take (k + 1) pairs)) x)) (cond (w == t) (fold (places_moved sh v.may.parts i) x (take (k + 1) pairs)) x)
          ≡ cond (w == t) (fold (places_moved sh v.may.parts i) x (take k pairs)) x
      go true true e e' =
          let same = num w t e in let mine' = num i (shard_of pair.key) e' in
          let there : part_at sh v.may.parts (ShardOf t (shard_of pair.key)) ≡ Some (part.Shard x) = sym (ap (λ w. part_at sh v.may.parts (ShardOf w (shard_of pair.key))) same) ∙ sym (ap (λ i. part_at sh v.may.parts (ShardOf w i)) mine') ∙ is in
          ap (λ c. cond (c && (i == shard_of pair.key)) (without_place pair.key pair.target (cond c (fold (places_moved sh v.may.parts i) x (take (k + 1) pairs)) x)) (cond c (fold (places_moved sh v.may.parts i) x (take (k + 1) pairs)) x)) e
          ∙ ap (λ d. cond d (without_place pair.key pair.target (fold (places_moved sh v.may.parts i) x (take (k + 1) pairs))) (fold (places_moved sh v.may.parts i) x (take (k + 1) pairs))) e'
          ∙ ap (without_place pair.key pair.target) (more true e')
          ∙ added_is_dropped i (fold (places_moved sh v.may.parts i) x (take k pairs)) pair.key pair.target
          (moved_holds sh v.may.parts i (take k pairs) x (v.may.holds.shards w i x is)) (sym mine')
          (subst (λ i. list_any (λ other. other == pair.target) (candidates_of (fold (places_moved sh v.may.parts i) x (take k pairs)) pair.key) ≡ false) (sym mine') (not_there sh t moves old mid pairs k before pair at x there))
          ∙ ap (λ c. cond c (fold (places_moved sh v.may.parts i) x (take k pairs)) x) (sym e)
      go true false e e' =
          ap (λ c. cond (c && (i == shard_of pair.key)) (without_place pair.key pair.target (cond c (fold (places_moved sh v.may.parts i) x (take (k + 1) pairs)) x)) (cond c (fold (places_moved sh v.may.parts i) x (take (k + 1) pairs)) x)) e
          ∙ ap (λ d. cond d (without_place pair.key pair.target (fold (places_moved sh v.may.parts i) x (take (k + 1) pairs))) (fold (places_moved sh v.may.parts i) x (take (k + 1) pairs))) e'
          ∙ more false e'
          ∙ ap (λ c. cond c (fold (places_moved sh v.may.parts i) x (take k pairs)) x) (sym e)
      go false d e e' =
          ap (λ c. cond (c && (i == shard_of pair.key)) (without_place pair.key pair.target (cond c (fold (places_moved sh v.may.parts i) x (take (k + 1) pairs)) x)) (cond c (fold (places_moved sh v.may.parts i) x (take (k + 1) pairs)) x)) e
          ∙ ap (λ c. cond c (fold (places_moved sh v.may.parts i) x (take k pairs)) x) (sym e)

  -- With the pair taken back a body is as it was before it, or cooled.
  body_back : (w b : ℕ) (x : Body) → part_at sh v.may.parts (BodyOf w b) ≡ Some (part.Body x) → (c : Bool) → (w == t) ≡ c
      → cond (c && (b == block_of pair.source)) (taken_back_in (slot_of pair.source)
      (cond (c && (b == block_of pair.target)) (taken_back_in (slot_of pair.target) (cond (c && v.again b) (cooled (cond c (fold (half_moved sh v.may.parts t ((desk_at sh v.may.parts).newest + 1) b) x (take (k + 1) pairs)) x)) (cond c (fold (half_moved sh v.may.parts t ((desk_at sh v.may.parts).newest + 1) b) x (take (k + 1) pairs)) x)))
      (cond (c && v.again b) (cooled (cond c (fold (half_moved sh v.may.parts t ((desk_at sh v.may.parts).newest + 1) b) x (take (k + 1) pairs)) x)) (cond c (fold (half_moved sh v.may.parts t ((desk_at sh v.may.parts).newest + 1) b) x (take (k + 1) pairs)) x))))
      (cond (c && (b == block_of pair.target)) (taken_back_in (slot_of pair.target) (cond (c && v.again b) (cooled (cond c (fold (half_moved sh v.may.parts t ((desk_at sh v.may.parts).newest + 1) b) x (take (k + 1) pairs)) x)) (cond c (fold (half_moved sh v.may.parts t ((desk_at sh v.may.parts).newest + 1) b) x (take (k + 1) pairs)) x)))
      (cond (c && v.again b) (cooled (cond c (fold (half_moved sh v.may.parts t ((desk_at sh v.may.parts).newest + 1) b) x (take (k + 1) pairs)) x)) (cond c (fold (half_moved sh v.may.parts t ((desk_at sh v.may.parts).newest + 1) b) x (take (k + 1) pairs)) x)))
      ≡ cond (c && ((v.again b || (b == block_of pair.source)) || (b == block_of pair.target))) (cooled (cond c (was b x) x)) (cond c (was b x) x)
  body_back w b x is false e = refl
  body_back w b x is true e =
      ap (λ (z : Body). both_back b pair.source pair.target (cond (v.again b) (cooled z) z)) (after_pair b x)
      ∙ pair_back b ((desk_at sh v.may.parts).newest + 1) (moved_row sh v.may.parts t pair) pair.source pair.target (v.again b) (was b x) back_apart from to
    where
      x_is : body_at sh v.may.parts t b ≡ x
      x_is = sym (ap (λ w. body_at sh v.may.parts w b) (num w t e)) ∙ ap body_from is

      from : block_of pair.source ≡ b → (slot_of pair.source < length (was b x).slots) × ((slot_in (was b x) (slot_of pair.source)).row ≡ Some (moved_row sh v.may.parts t pair))
      from here = (
        subst (λ (x : Body). slot_of pair.source < length (was b x).slots) x_is (subst (λ b. slot_of pair.source < length (was b (body_at sh v.may.parts t b)).slots) here inside_source),
        ap (λ (x : Slot). x.row) (all_slot sh v.may.parts t ((desk_at sh v.may.parts).newest + 1) b (take k pairs) pair.source x here (λ other a. ((far_from sh t moves old mid pairs k before pair at other a).sources, (far_from sh t moves old mid pairs k before pair at other a).from)))
            ∙ ap (λ (x : Body). (slot_in x (slot_of pair.source)).row) (sym x_is) ∙ ap (λ b. (slot_in (body_at sh v.may.parts t b) (slot_of pair.source)).row) (sym here)
            ∙ the_row (slot_at sh v.may.parts t pair.source).row (has_row_of pair.key (slot_at sh v.may.parts t pair.source).row (two sh t moves old mid pairs k before pair at).1),
      )

      to : block_of pair.target ≡ b → (slot_of pair.target < length (was b x).slots) × ((slot_in (was b x) (slot_of pair.target)).row ≡ None)
      to here = (
        subst (λ (x : Body). slot_of pair.target < length (was b x).slots) x_is (subst (λ b. slot_of pair.target < length (was b (body_at sh v.may.parts t b)).slots) here inside_target),
        ap (λ (x : Slot). x.row) (all_slot sh v.may.parts t ((desk_at sh v.may.parts).newest + 1) b (take k pairs) pair.target x here (λ other a. ((far_from sh t moves old mid pairs k before pair at other a).to, (far_from sh t moves old mid pairs k before pair at other a).targets)))
            ∙ ap (λ (x : Body). (slot_in x (slot_of pair.target)).row) (sym x_is) ∙ ap (λ b. (slot_in (body_at sh v.may.parts t b) (slot_of pair.target)).row) (sym here)
            ∙ bare_row (slot_at sh v.may.parts t pair.target) (four sh t moves old mid pairs k before pair at).1,
      )

  -- With the pair taken back each part is as it was before it, or cooled.
  part_back : (n : Name) (x : CorePart) → part_at sh v.may.parts n ≡ Some x
      → changed (pair_undone t pair) n (changed (back_to sh v.may.parts t (take (k + 1) pairs) v.again) n x) ≡ changed (back_to sh v.may.parts t (take k pairs) (λ b. (v.again b || (b == block_of pair.source)) || (b == block_of pair.target))) n x
  part_back = twice_at (λ n x. part_at sh v.may.parts n ≡ Some x) (back_to sh v.may.parts t (take (k + 1) pairs) v.again) (pair_undone t pair)
      (back_to sh v.may.parts t (take k pairs) (λ b. (v.again b || (b == block_of pair.source)) || (b == block_of pair.target)))
      (record { head = λ w x is. refl; shard = shard_back; body = λ w b x is. body_back w b x is (w == t) refl; desk = λ x is. refl })

  -- Only blocks that may move are cooled again.
  only_may : (b : ℕ) → ((v.again b || (b == block_of pair.source)) || (b == block_of pair.target)) ≡ true → may_move sh v.may.parts t b ≡ true
  only_may b e = go (or_cases (v.again b || (b == block_of pair.source)) (b == block_of pair.target) e)
    where
      inner : (v.again b ≡ true) ⊎ ((b == block_of pair.source) ≡ true) → may_move sh v.may.parts t b ≡ true
      inner (inl a) = v.only b a
      inner (inr a) = subst (λ b. may_move sh v.may.parts t b ≡ true) (sym (num b (block_of pair.source) a)) (one sh t moves old mid pairs k before pair at).0

      go : ((v.again b || (b == block_of pair.source)) ≡ true) ⊎ ((b == block_of pair.target) ≡ true) → may_move sh v.may.parts t b ≡ true
      go (inl a) = inner (or_cases (v.again b) (b == block_of pair.source) a)
      go (inr a) = subst (λ b. may_move sh v.may.parts t b ≡ true) (sym (num b (block_of pair.target) a)) (one sh t moves old mid pairs k before pair at).1

  -- One pair more is taken back.
  pub goes_back : (new : Held) → new ≡ after sh (pair_undone t pair) now → AreBack sh t moves old new pairs k
  goes_back new is = record {
    may = v.may;
    hold = v.hold;
    again = λ b. (v.again b || (b == block_of pair.source)) || (b == block_of pair.target);
    only = only_may;
    made = is ∙ ap (after sh (pair_undone t pair)) v.made
        ∙ after_then (back_to sh v.may.parts t (take (k + 1) pairs) v.again) (pair_undone t pair) (back_to sh v.may.parts t (take k pairs) (λ b. (v.again b || (b == block_of pair.source)) || (b == block_of pair.target))) (names sh) old
        (λ j n x there held. part_back n x (part_there sh t moves old v.may j n x there held));
  }

-- ---- all pairs back

module _ (sh : Shape) (t : ℕ) (moves : List MovePair) (old now : Held) (pairs : List MovePair) (v : AreBack sh t moves old now pairs 0) where
  -- With all pairs taken back each body is as it was before the move.
  body_same : (w b : ℕ) (x : Body) → part_at sh v.may.parts (BodyOf w b) ≡ Some (part.Body x) → cond ((w == t) && v.again b) (cooled (cond (w == t) x x)) (cond (w == t) x x) ≡ x
  body_same w b x is = go ((w == t) && v.again b) refl
    where
      go : (c : Bool) → ((w == t) && v.again b) ≡ c → cond ((w == t) && v.again b) (cooled (cond (w == t) x x)) (cond (w == t) x x) ≡ x
      go false e = ap (λ c. cond c (cooled (cond (w == t) x x)) (cond (w == t) x x)) e ∙ same_either (w == t) x
      go true e =
          let two = and_parts (w == t) (v.again b) e in
          let may = v.only b two.1 in
          let cold : (body_at sh v.may.parts t b).cooling ≡ true = (and_parts _ _ (and_parts _ _ (and_parts _ _ may).0).0).1 in
          let has = body_is_there sh v.may.parts w b (part.Body x) is in
          let x_is : body_at sh v.may.parts t b ≡ x = sym (ap (λ w. body_at sh v.may.parts w b) (num w t two.0)) ∙ ap body_from is in
          let cooling : x.cooling ≡ true = sym (ap (λ (x : Body). x.cooling) x_is) ∙ cold in
          let rounds : x.rounds ≡ 2 = (subst (λ (x : Body). x.cooling ≡ true → x.rounds ≡ 2) (ap body_from is) (v.may.holds.sound.bodies w b has).rested) cooling in
          ap (λ c. cond c (cooled (cond (w == t) x x)) (cond (w == t) x x)) e
          ∙ ap cooled (same_either (w == t) x)
          ∙ ap (λ c. record x { cooling = c; rounds = 2 }) (sym cooling)
          ∙ ap (λ n. record x { rounds = n }) (sym rounds)

  -- With all pairs taken back each part is as it was before the move.
  part_same : (n : Name) (x : CorePart) → part_at sh v.may.parts n ≡ Some x → changed (back_to sh v.may.parts t [] v.again) n x ≡ x
  part_same = rests_at (λ n x. part_at sh v.may.parts n ≡ Some x) (back_to sh v.may.parts t [] v.again)
      (record { head = λ w x is. refl; shard = λ w i x is. same_either (w == t) x; body = body_same; desk = λ x is. refl })

  -- After all pairs are taken back the hand is as it was.
  pub all_back : now ≡ old
  all_back = v.made ∙ first_same (back_to sh v.may.parts t [] v.again) (names sh) old (λ j n x there held. part_same n x (part_there sh t moves old v.may j n x there held))

-- ---- the stamp at the end

module _ (sh : Shape) (t : ℕ) (moves : List MovePair) (old mid : Held) (pairs : List MovePair) (u : AreMoved sh t moves old mid pairs (length pairs)) (some : pairs ≡ [] → ⊥) where
  -- As many first elements as a list has are all of it.
  take_all : {X : Type 0} (xs : List X) → take (length xs) xs ≡ xs
  take_all [] = refl
  take_all (x ∷ xs) = ap (λ ys. x ∷ ys) (take_all xs)

  -- All pairs moved, and the tick of the desk, are the move.
  made_all : (ps : List MovePair) → (ps ≡ [] → ⊥) → after sh (desk_change ticked) (after sh (moved_to sh u.may.parts t ps) old) ≡ after sh (after_move sh u.may.parts t ps) old
  made_all [] not_none = absurd (not_none refl)
  made_all (first ∷ rest) not_none = after_twice sh (moved_to sh u.may.parts t (first ∷ rest)) (desk_change ticked) (after_move sh u.may.parts t (first ∷ rest)) old
      (record { head = λ w x. refl; shard = λ w i x. refl; body = λ w b x. refl; desk = λ x. refl })

  -- After all pairs moved, at least one, and with a tick of the desk, the move is made.
  pub ends : (taken new : Held) (x y : DeskState) → in_hand sh mid TheDesk ≡ Some (part.Desk x) → taken ≡ laid sh TheDesk None mid → y ≡ ticked x
      → new ≡ laid sh TheDesk (Some (part.Desk y)) taken → Makes sh (event.Move t moves) old new (reply.Moved (length pairs))
  ends taken new x y is out made back = from_one sh (event.Move t moves) old new (reply.Moved (length pairs)) u.may
      (laid_back_changed sh (desk_change ticked) mid taken new TheDesk (part.Desk x) (part.Desk (ticked x)) (desk_only ticked x) is out
      (back ∙ ap (λ y. laid sh TheDesk (Some (part.Desk y)) taken) made)
      ∙ ap (after sh (desk_change ticked)) (u.made ∙ ap (λ (ps : List MovePair). after sh (moved_to sh u.may.parts t ps) old) (take_all pairs))
      ∙ made_all pairs some
      ∙ ap (λ (ps : List MovePair). after sh (after_move sh u.may.parts t ps) old) u.hold)
      (ap (λ (ps : List MovePair). reply.Moved (length ps)) u.hold)
