-- What an event makes of the parts that it touches hangs on these.
use Rattle.std.proofs.Common.{◌≡◌, ◌⊎◌, ℕ, zero, suc, ◌+◌, ℤ, Bool, true, false, cond, not, ◌&&◌, ◌==◌, List, [], ◌∷◌, ◌++◌, Option, Some, is_none, unwrap_or, length, fold, refl, sym, ap, ◌∙◌, arith, subst, None}
use mathlib.Core.Logic.{inl, inr}
use Rattle.std.specs.Prelude.{filter, slice_get, option_and_then, Result, Ok, Err}
use Rattle.std.specs.Option.{option_or}
use Rattle.std.specs.FinMap as finite
use Rattle.std.proofs.lemmas.Bool.{cases_Bool, or_parts, or_left, or_right}
use Rattle.block_layout.specs.Place.{block_of, slot_of}
use Rattle.block_spec.specs.Bodies.{Body, committed_in, is_empty, observed, pruned_in, rolled_back_in, seal_fault, sealed, slot_in, with_slot}
use Rattle.block_spec.specs.declared.change.Change.{Change}
use Rattle.block_spec.specs.declared.change.Change.TheVariants as change
use Rattle.block_spec.specs.declared.phase.SealFault.{SealFault}
use Rattle.block_spec.specs.Slots.{Row, Slot, is_bare, moved_in, moved_out}
use Rattle.core_laws.proofs.Events.Aborted.{among_filter, filter_among}
use Rattle.core_laws.proofs.Events.Apart.{kept_among}
use Rattle.core_laws.proofs.Events.ByKind.{same_at}
use Rattle.core_laws.proofs.Events.Lists.{map_member, member_below, split}
use Rattle.core_laws.proofs.Events.Naming.{bodies_in, body_there, heads_in, named_member, shards_in}
use Rattle.core_laws.proofs.Events.Slots.{num, num_refl}
use Rattle.event_spec.specs.declared.event.Event.TheVariants as event
use Rattle.event_spec.specs.declared.event.MovePair.{MovePair}
use Rattle.event_spec.specs.declared.own.OwnKey.{OwnKey}
use Rattle.event_spec.specs.declared.own.OwnTransaction.{OwnTransaction}
use Rattle.event_spec.specs.declared.part.Head.{Head}
use Rattle.event_spec.specs.declared.part.Part.TheVariants as part
use Rattle.event_spec.specs.declared.reply.WriteFault.{WriteFault}
use Rattle.event_spec.specs.declared.reply.WriteFault.TheVariants.{Missing}
use Rattle.event_spec.specs.Effects.{CoreEvent, after_change, after_commit, after_insert, after_judged, after_move, after_write, at_both, change_judged, changes_of, closed, found, half_moved, held_pairs, holds, insert_judged, is_some_write, kept_places, moved_row, numbered, stale_in, with_empty}
use Rattle.event_spec.specs.Judged.{current_place, differences, fault_of, freezing_of, newer_by}
use Rattle.event_spec.specs.Lawful.{Among, HasBlock, HasTable, IsLawful, OwnsAll}
use Rattle.event_spec.specs.Parts.{Changes, CorePart, Parts, Shape, Name, HeadOf, ShardOf, BodyOf, TheDesk, below, blocks_of, body_at, body_from, changed, desk_at, each_changed, head_at, head_from, is_head, names, nothing, part_at, places_at, same_name, shard_from, shard_of, slot_at}
use Rattle.event_spec.specs.Sound.{IsShape, Sound}
use Rattle.event_spec.specs.Touched.{is_body_moved, is_body_written, touching}
use Rattle.core_laws.proofs.Frames.Judged.{desk_touched, stale_alike}
use Rattle.isolation_spec.specs.declared.read.Read.{Read}
use Rattle.core_laws.proofs.Frames.Distinct.{part_is}
use Rattle.core_laws.proofs.Frames.Fitness.{body_same, current_among}
use Rattle.core_laws.proofs.Frames.Frames.{abort_stays, skipped}
use Rattle.core_laws.proofs.Frames.Looks.{name_self, touches, true_false}
use Rattle.core_laws.proofs.Frames.Order.{body_rank, desk_rank, head_low, rank, shard_rank}
use Rattle.core_laws.proofs.Frames.Replies.{change_alike, delete_reads, desk_same, filter_same, head_same, inserts_alike, pair_touched, pairs_alike, slot_same, update_reads, ReadsKey}
use Rattle.core_laws.proofs.Frames.Shards.{entry_there}
use Rattle.core_laws.specs.Frames.Laws.{Makes}
use Rattle.core_laws.specs.Frames.Shards.{ShardHolds, ShardsHold}
use Rattle.hall_rule.specs.Hands.{Agrees, Covers}
use Rattle.isolation_spec.specs.Contents.{key_of}
use Rattle.key_index.specs.Candidates.{Places, candidates_of, with_candidates}
use Rattle.core_laws.proofs.Sound.Written.{filled_there, judged_ok}
use Rattle.txn_desk.specs.Desk.{DeskState}

-- ---- changes that do the same to a part

pub record Alike (c d : Changes) (n : Name) (piece : CorePart) : Type 0 where
  pub head : (t : ℕ) (x : Head) → n ≡ HeadOf t → piece ≡ part.Head x → d.head t x ≡ c.head t x
  pub shard : (t i : ℕ) (x : Places) → n ≡ ShardOf t i → piece ≡ part.Shard x → d.shard t i x ≡ c.shard t i x
  pub body : (t b : ℕ) (x : Body) → n ≡ BodyOf t b → piece ≡ part.Body x → d.body t b x ≡ c.body t b x
  pub desk : (x : DeskState) → n ≡ TheDesk → piece ≡ part.Desk x → d.desk x ≡ c.desk x

-- Changes that do the same to a part make the same of it.
alike_same : (c d : Changes) (n : Name) (piece : CorePart) → Alike c d n piece → changed d n piece ≡ changed c n piece
alike_same c d n piece h = same_at (λ m x. (n ≡ m) × (piece ≡ x)) d c (record {
  head = λ t x is. h.head t x is.0 is.1;
  shard = λ t i x is. h.shard t i x is.0 is.1;
  body = λ t b x is. h.body t b x is.0 is.1;
  desk = λ x is. h.desk x is.0 is.1;
}) n piece (refl, refl)

-- Where two changes do the same to the part at a place, it is the same behind both.
changed_alike : (c d : Changes) (ns : List Name) (s u : Parts) (k : ℕ) (piece : CorePart) → slice_get s k ≡ Some piece → slice_get u k ≡ Some piece
    → ((n : Name) → slice_get ns k ≡ Some n → Alike c d n piece) → slice_get (each_changed d ns u) k ≡ slice_get (each_changed c ns s) k
changed_alike c d [] s u k piece a b same = b ∙ sym a
changed_alike c d (n ∷ ns) [] u k piece a b same = cc
changed_alike c d (n ∷ ns) (p ∷ s) [] k piece a b same = cc
changed_alike c d (n ∷ ns) (p ∷ s) (r ∷ u) zero piece a b same =
    let one : p ≡ piece = cc in let two : r ≡ piece = cc in
    ap (λ x. Some (changed d n x)) two ∙ ap Some (alike_same c d n piece (same n refl)) ∙ ap (λ x. Some (changed c n x)) (sym one)
changed_alike c d (n ∷ ns) (p ∷ s) (r ∷ u) (suc k) piece a b same = changed_alike c d ns s u k piece a b same

-- Changes that are the same do the same to each part.
alike_by : (c d : Changes) → d ≡ c → (n : Name) (piece : CorePart) → Alike c d n piece
alike_by c d is n piece = record {
  head = λ t x e p. ap (λ (c : Changes). c.head t x) is;
  shard = λ t i x e p. ap (λ (c : Changes). c.shard t i x) is;
  body = λ t b x e p. ap (λ (c : Changes). c.body t b x) is;
  desk = λ x e p. ap (λ (c : Changes). c.desk x) is;
}

-- ---- lists

-- Two steps that agree on each element of a list lead to the same end.
fold_alike : {X Y : Type 0} (one other : X → Y → X) (ys : List Y) → ((y : Y) → Among y ys → (x : X) → other x y ≡ one x y) → (x : X) → fold other x ys ≡ fold one x ys
fold_alike one other [] same x = refl
fold_alike one other (y ∷ ys) same x =
    ap (λ z. fold other z ys) (same y (inl refl) x) ∙ fold_alike one other ys (λ z a. same z (inr a)) (one x y)

-- what two tests that keep the same of a list say of each
filter_test : (p q : ℕ → Bool) (xs : List ℕ) (b : ℕ) → filter p xs ≡ filter q xs → Among b xs → q b ≡ p b
filter_test p q xs b is a = go (cases_Bool (p b)) (cases_Bool (q b))
  where
    go : (p b ≡ true) ⊎ (p b ≡ false) → (q b ≡ true) ⊎ (q b ≡ false) → q b ≡ p b
    go (inl x) (inl y) = y ∙ sym x
    go (inr x) (inr y) = y ∙ sym x
    go (inl x) (inr y) = absurd (true_false (sym (among_filter q b xs (subst (Among b) is (filter_among p b xs a x))).1 ∙ y))
    go (inr x) (inl y) = absurd (true_false (sym (among_filter p b xs (subst (Among b) (sym is) (filter_among q b xs a y))).1 ∙ x))

-- Tests that agree on all candidates of a shard's keys keep the same of it.
kept_alike : (i : ℕ) (keep other : ℕ → Bool) (ix : Places) → ShardHolds i ix
    → ((key : ℤ) (p : ℕ) → shard_of key ≡ i → Among p (candidates_of ix key) → other p ≡ keep p) → kept_places other ix ≡ kept_places keep ix
kept_alike i keep other ix h same = fold_alike
    (λ now (e : ℤ × List ℕ). with_candidates now e.0 (filter keep (candidates_of ix e.0)))
    (λ now (e : ℤ × List ℕ). with_candidates now e.0 (filter other (candidates_of ix e.0)))
    (finite.entries ix)
    (λ e a now. let there = entry_there ix e a in
    ap (with_candidates now e.0) (filter_same keep other (candidates_of ix e.0) (λ p b. same e.0 p (h.own e.0 there.0 there.1) b)))
    ix

-- a head that has a part is of a table that there is
pub head_is_there : (sh : Shape) (s : Parts) (t : ℕ) (piece : CorePart) → part_at sh s (HeadOf t) ≡ Some piece → HasTable sh t
head_is_there sh s t piece is = last (split (heads_in sh ++ shards_in sh ++ bodies_in sh) (TheDesk ∷ []) (HeadOf t) (named_member (names sh) s (HeadOf t) piece is))
  where
    zero_is : rank (HeadOf t) ≡ 0
    zero_is = head_low t

    front : Among (HeadOf t) (heads_in sh) ⊎ Among (HeadOf t) (shards_in sh) → HasTable sh t
    front (inl a) =
        let x = map_member HeadOf (below (length sh.tables)) (HeadOf t) a in
        let same : t ≡ x.0 = cc in let less = member_below 0 (length sh.tables) x.0 x.1 in omega (arith, same, less)
    front (inr a) = let r = shard_rank sh (HeadOf t) a in absurd (omega (arith, r, zero_is))

    middle : Among (HeadOf t) (heads_in sh ++ shards_in sh) ⊎ Among (HeadOf t) (bodies_in sh) → HasTable sh t
    middle (inl a) = front (split (heads_in sh) (shards_in sh) (HeadOf t) a)
    middle (inr a) = let r = body_rank sh (HeadOf t) a in absurd (omega (arith, r, zero_is))

    last : Among (HeadOf t) (heads_in sh ++ shards_in sh ++ bodies_in sh) ⊎ Among (HeadOf t) (TheDesk ∷ []) → HasTable sh t
    last (inl a) = middle (split (heads_in sh ++ shards_in sh) (bodies_in sh) (HeadOf t) a)
    last (inr a) = let r = desk_rank sh (HeadOf t) a in absurd (omega (arith, r, zero_is))

-- ---- heads and shards where bodies have fewer rows

module _ (sh : Shape) (s u : Parts) (ok : Sound sh s) (fine : Sound sh u) (t : ℕ) (g : ℕ → Body → Body)
    -- each body is the same in both, or the event leaves it in both
    (told : (b : ℕ) → HasBlock sh t b → (body_at sh u t b ≡ body_at sh s t b) ⊎ ((g b (body_at sh s t b) ≡ body_at sh s t b) × (g b (body_at sh u t b) ≡ body_at sh u t b))) where
  -- A head that is the same in both cores has the same empty blocks after the event.
  emptied_alike : HasTable sh t → head_at sh u t ≡ head_at sh s t
      → with_empty (blocks_of sh t) (λ b. is_empty (g b (body_at sh u t b))) (head_at sh s t) ≡ with_empty (blocks_of sh t) (λ b. is_empty (g b (body_at sh s t b))) (head_at sh s t)
  emptied_alike has same =
      ap (λ n. record (head_at sh s t) { taken = n; empty = filter (λ b. is_empty (g b (body_at sh u t b)) && not (b == (head_at sh s t).block)) (below (blocks_of sh t)) }) taken
      ∙ ap (λ bs. record (head_at sh s t) { taken = cond (is_empty (g (head_at sh s t).block (body_at sh s t (head_at sh s t).block))) 0 (head_at sh s t).taken; empty = bs })
      (filter_same (λ b. is_empty (g b (body_at sh s t b)) && not (b == (head_at sh s t).block)) (λ b. is_empty (g b (body_at sh u t b)) && not (b == (head_at sh s t).block)) (below (blocks_of sh t))
      (λ b a. at b a (told b (has, let less = member_below 0 (blocks_of sh t) b a in omega (arith, less)))))
    where
      anew : is_empty (body_at sh u t (head_at sh s t).block) ≡ true → (head_at sh s t).taken ≡ 0
      anew = subst (λ (h : Head). is_empty (body_at sh u t h.block) ≡ true → h.taken ≡ 0) same (fine.heads t has).anew

      lists : filter (λ b. is_empty (body_at sh s t b) && not (b == (head_at sh s t).block)) (below (blocks_of sh t)) ≡ filter (λ b. is_empty (body_at sh u t b) && not (b == (head_at sh s t).block)) (below (blocks_of sh t))
      lists =
          sym (ok.heads t has).empty
          ∙ subst (λ (h : Head). h.empty ≡ filter (λ b. is_empty (body_at sh u t b) && not (b == h.block)) (below (blocks_of sh t))) same (fine.heads t has).empty

      rest : (e : Bool) → (e ≡ true → (head_at sh s t).taken ≡ 0) → cond e 0 (head_at sh s t).taken ≡ (head_at sh s t).taken
      rest true zero_is = sym (zero_is refl)
      rest false zero_is = refl

      taken : cond (is_empty (g (head_at sh s t).block (body_at sh u t (head_at sh s t).block))) 0 (head_at sh s t).taken ≡ cond (is_empty (g (head_at sh s t).block (body_at sh s t (head_at sh s t).block))) 0 (head_at sh s t).taken
      taken = go (told (head_at sh s t).block (ok.heads t has).block)
        where
          go : ((body_at sh u t (head_at sh s t).block ≡ body_at sh s t (head_at sh s t).block) ⊎ ((g (head_at sh s t).block (body_at sh s t (head_at sh s t).block) ≡ body_at sh s t (head_at sh s t).block) × (g (head_at sh s t).block (body_at sh u t (head_at sh s t).block) ≡ body_at sh u t (head_at sh s t).block)))
              → cond (is_empty (g (head_at sh s t).block (body_at sh u t (head_at sh s t).block))) 0 (head_at sh s t).taken ≡ cond (is_empty (g (head_at sh s t).block (body_at sh s t (head_at sh s t).block))) 0 (head_at sh s t).taken
          go (inl e) = ap (λ x. cond (is_empty (g (head_at sh s t).block x)) 0 (head_at sh s t).taken) e
          go (inr e) =
              ap (λ x. cond (is_empty x) 0 (head_at sh s t).taken) e.1 ∙ rest (is_empty (body_at sh u t (head_at sh s t).block)) anew
              ∙ sym (ap (λ x. cond (is_empty x) 0 (head_at sh s t).taken) e.0 ∙ rest (is_empty (body_at sh s t (head_at sh s t).block)) (ok.heads t has).anew)

      at : (b : ℕ) → Among b (below (blocks_of sh t)) → ((body_at sh u t b ≡ body_at sh s t b) ⊎ ((g b (body_at sh s t b) ≡ body_at sh s t b) × (g b (body_at sh u t b) ≡ body_at sh u t b)))
          → (is_empty (g b (body_at sh u t b)) && not (b == (head_at sh s t).block)) ≡ (is_empty (g b (body_at sh s t b)) && not (b == (head_at sh s t).block))
      at b a (inl e) = ap (λ x. is_empty (g b x) && not (b == (head_at sh s t).block)) e
      at b a (inr e) =
          ap (λ x. is_empty x && not (b == (head_at sh s t).block)) e.1
          ∙ filter_test (λ b. is_empty (body_at sh s t b) && not (b == (head_at sh s t).block)) (λ b. is_empty (body_at sh u t b) && not (b == (head_at sh s t).block)) (below (blocks_of sh t)) b lists a
          ∙ ap (λ x. is_empty x && not (b == (head_at sh s t).block)) (sym e.0)

  -- A shard that is the same in both cores keeps the same candidates after the event.
  swept_alike : (i : ℕ) (x : Places) → part_at sh s (ShardOf t i) ≡ Some (part.Shard x) → part_at sh u (ShardOf t i) ≡ Some (part.Shard x) → ShardHolds i x
      → kept_places (λ place. not (is_bare (slot_in (g (block_of place) (body_at sh u t (block_of place))) (slot_of place)))) x
      ≡ kept_places (λ place. not (is_bare (slot_in (g (block_of place) (body_at sh s t (block_of place))) (slot_of place)))) x
  swept_alike i x is was h = kept_alike i
      (λ place. not (is_bare (slot_in (g (block_of place) (body_at sh s t (block_of place))) (slot_of place))))
      (λ place. not (is_bare (slot_in (g (block_of place) (body_at sh u t (block_of place))) (slot_of place)))) x h at
    where
      filled : (v : Parts) → Sound sh v → part_at sh v (ShardOf t i) ≡ Some (part.Shard x) → (key : ℤ) (p : ℕ) → shard_of key ≡ i → Among p (candidates_of x key) → is_bare (slot_at sh v t p) ≡ false
      filled v sound there key p mine a = sound.follows.1.index.filled t p key
          (subst (Among p) (ap (λ o. candidates_of (shard_from o) key) (sym there) ∙ ap (λ i. candidates_of (shard_from (part_at sh v (ShardOf t i))) key) (sym mine)) a)

      at : (key : ℤ) (p : ℕ) → shard_of key ≡ i → Among p (candidates_of x key)
          → not (is_bare (slot_in (g (block_of p) (body_at sh u t (block_of p))) (slot_of p))) ≡ not (is_bare (slot_in (g (block_of p) (body_at sh s t (block_of p))) (slot_of p)))
      at key p mine a = go (told (block_of p) (filled_there sh s ok t p (filled s ok is key p mine a)).0)
        where
          go : ((body_at sh u t (block_of p) ≡ body_at sh s t (block_of p)) ⊎ ((g (block_of p) (body_at sh s t (block_of p)) ≡ body_at sh s t (block_of p)) × (g (block_of p) (body_at sh u t (block_of p)) ≡ body_at sh u t (block_of p))))
              → not (is_bare (slot_in (g (block_of p) (body_at sh u t (block_of p))) (slot_of p))) ≡ not (is_bare (slot_in (g (block_of p) (body_at sh s t (block_of p))) (slot_of p)))
          go (inl e) = ap (λ y. not (is_bare (slot_in (g (block_of p) y) (slot_of p)))) e
          go (inr e) =
              ap (λ y. not (is_bare (slot_in y (slot_of p)))) e.1 ∙ ap not (filled u fine was key p mine a)
              ∙ sym (ap (λ y. not (is_bare (slot_in y (slot_of p)))) e.0 ∙ ap not (filled s ok is key p mine a))

-- ---- the events

-- What a commit changes, by the desk before it.
abbrev commit_by : OwnTransaction → DeskState → Changes
commit_by own desk = record nothing {
  body = λ t b. cond (is_some_write own.writes) (committed_in own.session (desk.newest + 1) (desk.commits + 1)) (λ body. body);
  desk = λ desk. closed own.session (cond (is_some_write own.writes) (numbered own.writes desk) desk);
}

-- What an observation of a block changes, by its table's head.
abbrev observe_by : ℕ → ℕ → Head → Changes
observe_by t b head = record nothing { body = at_both t b (observed (b == head.block)) }

-- What a seal changes, by its fault if it has one.
abbrev seal_by : ℕ → ℕ → Option SealFault → Changes
seal_by t b fault = cond (is_none fault) (record nothing { body = at_both t b sealed }) nothing

-- What one pair of a move makes of a block's body, by its stamp and its row.
abbrev half_by : ℕ → ℕ → MovePair → Row → Body → Body
half_by stamp block pair row body =
    let gone : Body = cond (block_of pair.source == block) (with_slot (slot_of pair.source) (moved_out stamp row) body) body in
    cond (block_of pair.target == block) (with_slot (slot_of pair.target) (moved_in stamp row) gone) gone

-- An insert of the same judgement makes the same of the parts, whatever these are.
insert_made : (sh : Shape) (s u : Parts) (own : OwnKey) (t : ℕ) (row : Row) (r : Result ℕ WriteFault) → after_insert sh u own t row r ≡ after_insert sh s own t row r
insert_made sh s u own t row (Err fault) = refl
insert_made sh s u own t row (Ok p) = refl

module _ (sh : Shape) (hand : List (Option CorePart)) (s u : Parts) (shape : IsShape sh) (ok : Sound sh s) (fine : Sound sh u)
    (shards : ShardsHold sh s) (here : Agrees hand s) (there : Agrees hand u) where
  -- A change of a key, by its judgement, is the same in both cores.
  change_made : (e : CoreEvent) (covers : Covers (touching sh e) hand) (own : OwnKey) (t : ℕ) (key : ℤ) (choice : Row → Change) → ReadsKey sh e hand s u covers here there own t key
      → (r : Result ℕ WriteFault) → change_judged sh s own t key ≡ r → after_change sh u own t choice r ≡ after_change sh s own t choice r
  change_made e covers own t key choice reads (Err fault) is = refl
  change_made e covers own t key choice reads (Ok p) is =
      ap (λ (x : Slot). after_write sh s t own.session p (choice (unwrap_or x.row [])))
      (ap (λ x. slot_in x (slot_of p)) (reads.bodies p (current_among (slot_at sh s t) (places_at sh s t key) p goes)))
    where
      goes : current_place (slot_at sh s t) (places_at sh s t key) ≡ Some p
      goes = (judged_ok
          (option_or (fault_of (newer_by (slot_at sh s t) (places_at sh s t key) own)) (cond (is_none (found sh s own t key)) (Some Missing)
          (option_and_then (λ place. freezing_of (block_of place) (body_at sh s t (block_of place)).phase) (current_place (slot_at sh s t) (places_at sh s t key)))))
          (current_place (slot_at sh s t) (places_at sh s t key)) Missing p is).1

  -- Pairs of a move do the same to each part in both cores.
  move_made : (t : ℕ) (moves : List MovePair) → Covers (touching sh (event.Move t moves)) hand → (pairs : List MovePair) → ((pair : MovePair) → Among pair pairs → Among pair moves)
      → (n : Name) (piece : CorePart) → Alike (after_move sh s t pairs) (after_move sh u t pairs) n piece
  move_made t moves covers [] of n piece = alike_by nothing nothing refl n piece
  move_made t moves covers (first ∷ rest) of n piece = record {
    head = λ v x e p. refl;
    shard = λ v i x e p. refl;
    body = λ v b x e p. ap (λ y. cond (v == t) y x)
        (fold_alike (half_moved sh s t ((desk_at sh s).newest + 1) b) (half_moved sh u t ((desk_at sh u).newest + 1) b) (first ∷ rest)
        (λ pair a y. ap (λ (desk : DeskState). half_by (desk.newest + 1) b pair (moved_row sh u t pair) y) desk
        ∙ ap (λ (z : Slot). half_by ((desk_at sh s).newest + 1) b pair (unwrap_or z.row []) y)
        (slot_same sh (event.Move t moves) hand s u covers here there t pair.source (pair_touched sh hand s u here there t moves pair pair.source (of pair a) (inl refl)))) x);
    desk = λ x e p. refl;
  }
    where
      desk : desk_at sh u ≡ desk_at sh s
      desk = desk_same sh (event.Move t moves) hand s u covers here there (or_right (is_body_moved t moves TheDesk) true refl)

  -- heads and shards of a table where bodies have fewer rows, by a part of the hand
  head_made : (t : ℕ) (x : Head) (g : ℕ → Body → Body)
      → ((b : ℕ) → HasBlock sh t b → (body_at sh u t b ≡ body_at sh s t b) ⊎ ((g b (body_at sh s t b) ≡ body_at sh s t b) × (g b (body_at sh u t b) ≡ body_at sh u t b)))
      → part_at sh s (HeadOf t) ≡ Some (part.Head x) → part_at sh u (HeadOf t) ≡ Some (part.Head x)
      → with_empty (blocks_of sh t) (λ b. is_empty (g b (body_at sh u t b))) x ≡ with_empty (blocks_of sh t) (λ b. is_empty (g b (body_at sh s t b))) x
  head_made t x g told is was =
      let one : head_at sh s t ≡ x = ap head_from is in
      let two : head_at sh u t ≡ head_at sh s t = ap head_from was ∙ sym (ap head_from is) in
      subst (λ (h : Head). with_empty (blocks_of sh t) (λ b. is_empty (g b (body_at sh u t b))) h ≡ with_empty (blocks_of sh t) (λ b. is_empty (g b (body_at sh s t b))) h) one
      (emptied_alike sh s u ok fine t g told (head_is_there sh s t (part.Head x) is) two)

  -- a body that the roll-back leaves, or that is touched
  abort_told : (own : OwnTransaction) → Covers (touching sh (event.Abort own)) hand → OwnsAll sh own s → OwnsAll sh own u → (t b : ℕ) → HasBlock sh t b
      → ((body_at sh u t b ≡ body_at sh s t b) ⊎ ((rolled_back_in own.session (body_at sh s t b) ≡ body_at sh s t b) × (rolled_back_in own.session (body_at sh u t b) ≡ body_at sh u t b)))
  abort_told own covers owns owned t b has = go (cases_Bool (touches sh (event.Abort own) hand (BodyOf t b)))
    where
      left : (v : Parts) → Sound sh v → OwnsAll sh own v → is_body_written own.writes (BodyOf t b) ≡ false → rolled_back_in own.session (body_at sh v t b) ≡ body_at sh v t b
      left v sound owns none =
          let x = body_there sh v sound.kinds t b has in
          subst (λ (y : Body). rolled_back_in own.session y ≡ y) (sym (ap body_from x.1)) (abort_stays sh v shape sound own owns t b x.0 x.1 none)

      go : (touches sh (event.Abort own) hand (BodyOf t b) ≡ true) ⊎ (touches sh (event.Abort own) hand (BodyOf t b) ≡ false)
          → ((body_at sh u t b ≡ body_at sh s t b) ⊎ ((rolled_back_in own.session (body_at sh s t b) ≡ body_at sh s t b) × (rolled_back_in own.session (body_at sh u t b) ≡ body_at sh u t b)))
      go (inl is) = inl (body_same sh (event.Abort own) hand s u covers here there t b is)
      go (inr e) = let none = (or_parts (is_body_written own.writes (BodyOf t b)) false e).0 in inr (left s ok owns none, left u fine owned none)

  -- An abort does the same to a part that both cores have.
  abort_made : (own : OwnTransaction) → Covers (touching sh (event.Abort own)) hand → OwnsAll sh own s → OwnsAll sh own u
      → (n : Name) (piece : CorePart) → part_at sh s n ≡ Some piece → part_at sh u n ≡ Some piece → Alike (changes_of sh s (event.Abort own)) (changes_of sh u (event.Abort own)) n piece
  abort_made own covers owns owned n piece is was = record {
    head = λ t x e p. head_made t x (λ b. rolled_back_in own.session) (abort_told own covers owns owned t) (ap (part_at sh s) (sym e) ∙ is ∙ ap Some p) (ap (part_at sh u) (sym e) ∙ was ∙ ap Some p);
    shard = λ t i x e p. let one = ap (part_at sh s) (sym e) ∙ is ∙ ap Some p in
        swept_alike sh s u ok fine t (λ b. rolled_back_in own.session) (abort_told own covers owns owned t) i x one (ap (part_at sh u) (sym e) ∙ was ∙ ap Some p) (shards t i x one);
    body = λ t b x e p. refl;
    desk = λ x e p. refl;
  }

  -- A body is the same in both cores, or the pruning leaves it in both.
  prune_told : (t b oldest : ℕ) → Covers (touching sh (event.Prune t b oldest)) hand → (v x : ℕ) → HasBlock sh v x
      → ((body_at sh u v x ≡ body_at sh s v x) ⊎ ((at_both t b (pruned_in oldest) v x (body_at sh s v x) ≡ body_at sh s v x) × (at_both t b (pruned_in oldest) v x (body_at sh u v x) ≡ body_at sh u v x)))
  prune_told t b oldest covers v x has = go (v == t) (x == b) refl refl
    where
      body : body_at sh u t b ≡ body_at sh s t b
      body = body_same sh (event.Prune t b oldest) hand s u covers here there t b (or_left (same_name (BodyOf t b) (BodyOf t b)) false (name_self (BodyOf t b)))

      none : (a c : Bool) → (v == t) ≡ a → (x == b) ≡ c → (a && c) ≡ false → ((v == t) && (x == b)) ≡ false
      none a c i j e = ap (λ y. y && (x == b)) i ∙ ap (λ y. a && y) j ∙ e

      skip : ((v == t) && (x == b)) ≡ false
          → ((body_at sh u v x ≡ body_at sh s v x) ⊎ ((at_both t b (pruned_in oldest) v x (body_at sh s v x) ≡ body_at sh s v x) × (at_both t b (pruned_in oldest) v x (body_at sh u v x) ≡ body_at sh u v x)))
      skip e = inr (skipped ((v == t) && (x == b)) (pruned_in oldest (body_at sh s v x)) (body_at sh s v x) e, skipped ((v == t) && (x == b)) (pruned_in oldest (body_at sh u v x)) (body_at sh u v x) e)

      go : (a c : Bool) → (v == t) ≡ a → (x == b) ≡ c
          → ((body_at sh u v x ≡ body_at sh s v x) ⊎ ((at_both t b (pruned_in oldest) v x (body_at sh s v x) ≡ body_at sh s v x) × (at_both t b (pruned_in oldest) v x (body_at sh u v x) ≡ body_at sh u v x)))
      go true true i j =
          let one = num v t i in let two = num x b j in
          inl (ap (λ v. body_at sh u v x) one ∙ ap (body_at sh u t) two ∙ body ∙ ap (body_at sh s t) (sym two) ∙ ap (λ v. body_at sh s v x) (sym one))
      go true false i j = skip (none true false i j refl)
      go false c i j = skip (none false c i j refl)

  -- A pruning does the same to a part that both cores have.
  prune_made : (t b oldest : ℕ) → Covers (touching sh (event.Prune t b oldest)) hand
      → (n : Name) (piece : CorePart) → part_at sh s n ≡ Some piece → part_at sh u n ≡ Some piece → Alike (changes_of sh s (event.Prune t b oldest)) (changes_of sh u (event.Prune t b oldest)) n piece
  prune_made t b oldest covers n piece is was = record {
    head = λ v x e p. ap (λ y. cond (v == t) y x) (head_made v x (at_both t b (pruned_in oldest) v) (prune_told t b oldest covers v) (ap (part_at sh s) (sym e) ∙ is ∙ ap Some p) (ap (part_at sh u) (sym e) ∙ was ∙ ap Some p));
    shard = λ v i x e p. let one = ap (part_at sh s) (sym e) ∙ is ∙ ap Some p in
        ap (λ y. cond (v == t) y x) (swept_alike sh s u ok fine v (at_both t b (pruned_in oldest) v) (prune_told t b oldest covers v) i x one (ap (part_at sh u) (sym e) ∙ was ∙ ap Some p) (shards v i x one));
    body = λ v x y e p. refl;
    desk = λ x e p. refl;
  }

  -- An event that is lawful in both cores does the same to a part that both have.
  event_made : (e : CoreEvent) → Covers (touching sh e) hand → IsLawful sh e s → IsLawful sh e u
      → (n : Name) (piece : CorePart) → part_at sh s n ≡ Some piece → part_at sh u n ≡ Some piece → Alike (changes_of sh s e) (changes_of sh u e) n piece
  event_made (event.Begin q) covers lawful also n piece is was = alike_by _ _ refl n piece
  event_made (event.Get own t key) covers lawful also n piece is was = alike_by _ _ refl n piece
  event_made (event.Insert own t row) covers lawful also n piece is was = alike_by (changes_of sh s (event.Insert own t row)) (changes_of sh u (event.Insert own t row))
      (ap (after_insert sh u own t row) (inserts_alike sh hand s u here there own t row covers) ∙ insert_made sh s u own t row (insert_judged sh s own t (key_of row))) n piece
  event_made (event.Update own t row) covers lawful also n piece is was =
      let reads = update_reads sh hand s u here there own t row covers in
      alike_by (changes_of sh s (event.Update own t row)) (changes_of sh u (event.Update own t row))
      (ap (after_change sh u own t (λ old. change.Patch (differences 0 old row))) (change_alike sh (event.Update own t row) hand s u covers here there own t (key_of row) reads)
      ∙ change_made (event.Update own t row) covers own t (key_of row) (λ old. change.Patch (differences 0 old row)) reads (change_judged sh s own t (key_of row)) refl) n piece
  event_made (event.Delete own t key) covers lawful also n piece is was =
      let reads = delete_reads sh hand s u here there own t key covers in
      alike_by (changes_of sh s (event.Delete own t key)) (changes_of sh u (event.Delete own t key))
      (ap (after_change sh u own t (λ old. change.Gone)) (change_alike sh (event.Delete own t key) hand s u covers here there own t key reads)
      ∙ change_made (event.Delete own t key) covers own t key (λ old. change.Gone) reads (change_judged sh s own t key) refl) n piece
  event_made (event.Read own t b) covers lawful also n piece is was = alike_by _ _ refl n piece
  event_made (event.Range own t low high) covers lawful also n piece is was = alike_by _ _ refl n piece
  event_made (event.Commit own reads) covers lawful also n piece is was =
      subst (λ found. Alike (after_judged sh s own (stale_in sh s own reads)) (after_judged sh u own found) n piece) (sym (stale_alike sh own reads hand s u covers here there))
      (judged_made (stale_in sh s own reads))
    where
      judged_made : (found : Option (Read × ℕ)) → Alike (after_judged sh s own found) (after_judged sh u own found) n piece
      judged_made None = alike_by (after_commit sh s own) (after_commit sh u own)
          (ap (commit_by own) (desk_same sh (event.Commit own reads) hand s u covers here there (desk_touched sh own reads hand s u covers here there))) n piece
      judged_made (Some stale) = alike_by _ _ refl n piece
  event_made (event.Abort own) covers lawful also n piece is was = abort_made own covers lawful.0 also.0 n piece is was
  event_made event.Oldest covers lawful also n piece is was = alike_by _ _ refl n piece
  event_made (event.Observe t b) covers lawful also n piece is was = alike_by (changes_of sh s (event.Observe t b)) (changes_of sh u (event.Observe t b))
      (ap (observe_by t b) (head_same sh (event.Observe t b) hand s u covers here there t (or_left (t == t) false (num_refl t)))) n piece
  event_made (event.Prune t b oldest) covers lawful also n piece is was = prune_made t b oldest covers n piece is was
  event_made (event.Look t b) covers lawful also n piece is was = alike_by _ _ refl n piece
  event_made (event.Move t moves) covers lawful also n piece is was =
      subst (λ pairs. Alike (after_move sh s t (held_pairs sh s t moves)) (after_move sh u t pairs) n piece) (sym (pairs_alike sh hand s u here there t moves covers))
      (move_made t moves covers (held_pairs sh s t moves) (λ pair a. (kept_among (holds sh s t) moves pair a).0) n piece)
  event_made (event.Seal t b) covers lawful also n piece is was = alike_by (changes_of sh s (event.Seal t b)) (changes_of sh u (event.Seal t b))
      (ap (λ (h : Head). seal_by t b (seal_fault (b == h.block) (body_at sh u t b))) (head_same sh (event.Seal t b) hand s u covers here there t (or_left (t == t) false (num_refl t)))
      ∙ ap (λ x. seal_by t b (seal_fault (is_head sh s t b) x)) (body_same sh (event.Seal t b) hand s u covers here there t b (name_self (BodyOf t b)))) n piece
  event_made (event.Image t b image) covers lawful also n piece is was = alike_by _ _ refl n piece
  event_made (event.Thaw t b) covers lawful also n piece is was = alike_by _ _ refl n piece

-- What an event makes of the parts in the hand hangs on those that it touches.
pub makes : Makes
makes sh e hand s u shape ok fine shards lawful also here there covers k held =
    let is = here.1 k held.0 held.1 in let was = there.1 k held.0 held.1 in
    changed_alike (changes_of sh s e) (changes_of sh u e) (names sh) s u k held.0 is was
    (λ n at. event_made sh hand s u shape ok fine shards here there e covers lawful also n held.0 (part_is sh s k n held.0 at is) (part_is sh u k n held.0 at was))
