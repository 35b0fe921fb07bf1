-- An event changes only parts that it touches.
use Rattle.std.proofs.Common.{◌≡◌, ◌≢◌, ◌⊎◌, ℕ, zero, suc, ◌+◌, ◌<◌, ◌^◌, ℤ, Bool, true, false, cond, not, ◌&&◌, ◌||◌, ◌==◌, List, [], ◌∷◌, ◌++◌, Option, None, Some, is_none, is_some, unwrap_or, length, map, fold, get_or, refl, sym, ap, ◌∙◌, arith, subst}
use mathlib.Core.Logic.{inl, inr}
use Rattle.std.specs.Prelude.{slice_get, option_to_list, option_and_then, Result, Ok, Err}
use Rattle.std.specs.List.{list_any}
use Rattle.std.specs.Map.{lookup}
use Rattle.std.specs.Option.{option_or}
use Rattle.std.proofs.lemmas.Bool.Decides.{nat_tests}
use Rattle.std.proofs.lemmas.Bool.{cases_Bool, or_parts, or_left, or_right, and_from}
use Rattle.block_layout.specs.Place.{block_of, slot_of, place_of}
use Rattle.block_spec.specs.Bodies.{Body, committed_in, imaged, is_writer, is_written_by, modified, observed, pruned_in, rolled_back_in, seal_fault, sealed, slot_in, thawed, with_slot}
use Rattle.block_spec.specs.declared.change.Change.{Change}
use Rattle.block_spec.specs.declared.change.Change.TheVariants as change
use Rattle.block_spec.specs.Slots.{Row, Slot, bare, committed, is_bare, rolled_back, writer_of, written}
use Rattle.core_laws.proofs.Events.Aborted.{rolled_slot}
use Rattle.core_laws.proofs.Events.Apart.{kept_among}
use Rattle.core_laws.proofs.Events.Heads.{block_is, slot_is}
use Rattle.core_laws.proofs.Events.ByKind.{rests_at}
use Rattle.core_laws.proofs.Events.Naming.{body_is_there, follows_machine}
use Rattle.core_laws.proofs.Events.Owners.{all_slots}
use Rattle.core_laws.proofs.Events.Slots.{num, num_refl}
use Rattle.core_laws.specs.Events.Named.{FollowsMachine}
use Rattle.event_spec.specs.declared.event.Event.TheVariants as event
use Rattle.event_spec.specs.declared.event.MovePair.{MovePair}
use Rattle.event_spec.specs.declared.own.OwnKey.{OwnKey}
use Rattle.event_spec.specs.declared.own.OwnTransaction.{OwnTransaction}
use Rattle.event_spec.specs.declared.part.Head.{Head}
use Rattle.event_spec.specs.declared.part.Part.TheVariants as part
use Rattle.event_spec.specs.declared.reply.WriteFault.{WriteFault}
use Rattle.event_spec.specs.declared.reply.WriteFault.TheVariants.{Exists, Full, Missing}
use Rattle.event_spec.specs.Effects.{CoreEvent, after_change, after_commit, after_insert, after_judged, after_move, at_both, change_judged, changes_of, effect, found, half_moved, held_pairs, holds, insert_judged, is_some_write, places_moved, stale_in, with_place}
use Rattle.event_spec.specs.Judged.{current_place, differences, fault_of, freezing_of, newer_by, next_place}
use Rattle.event_spec.specs.Lawful.{Among, HasBlock, IsLawful, OwnsAll}
use Rattle.event_spec.specs.Parts.{Changes, CorePart, Parts, Shape, Name, HeadOf, ShardOf, BodyOf, TheDesk, nothing, names, part_at, changed, each_changed, head_from, shard_from, body_from, same_name, shard_of, slots_of, body_at, desk_at, head_at, held_named, is_head, places_at, slot_at}
use Rattle.event_spec.specs.Sound.{IsShape, Sound}
use Rattle.event_spec.specs.Touched.{is_body_moved, is_body_of, is_body_written, is_shard_moved, is_shard_written, touching, passes_test, touched_by_reads}
use Rattle.isolation_spec.specs.Reads.{ReadSet}
use Rattle.isolation_spec.specs.declared.read.Read.{Read}
use Rattle.core_laws.proofs.Following.Writes.{place_is}
use Rattle.core_laws.proofs.Frames.Distinct.{part_is}
use Rattle.core_laws.proofs.Frames.Fitness.{body_touched, current_among, shard_touched}
use Rattle.core_laws.proofs.Frames.Looks.{any_false, look, name_self, touches, true_false, untouched, within}
use Rattle.core_laws.proofs.Frames.Shards.{fold_same, kept_stays}
use Rattle.core_laws.specs.Frames.Laws.{Frame}
use Rattle.core_laws.specs.Frames.Shards.{ShardsHold}
use Rattle.hall_rule.specs.Hands.{Agrees, Covers, OnlyHeld}
use Rattle.isolation_spec.specs.Contents.{PlaceMap, at_place, is_place, key_of, place_at}
use Rattle.isolation_spec.specs.declared.place.Place.{Place}
use Rattle.key_index.specs.Candidates.{Places, candidates_of}
use Rattle.core_laws.proofs.Slots.Endings.{committed_other, rolled_back_other}
use Rattle.core_laws.proofs.Slots.Kept.{writer_filled}
use Rattle.core_laws.proofs.Sound.Written.{judged_ok}
use Rattle.txn_desk.specs.Desk.{DeskState}
use Rattle.event_spec.specs.Newest.{judged_reads}

-- Two numbers are tested for equality alike either way around.
num_flip : (a b : ℕ) → (a == b) ≡ (b == a)
num_flip a b = grind (arith, nat_tests)

-- ---- a part whose change does nothing

-- The change of a part does nothing, by what kind it is.
pub record Rests (c : Changes) (n : Name) (piece : CorePart) : Type 0 where
  pub head : (t : ℕ) (x : Head) → n ≡ HeadOf t → piece ≡ part.Head x → c.head t x ≡ x
  pub shard : (t i : ℕ) (x : Places) → n ≡ ShardOf t i → piece ≡ part.Shard x → c.shard t i x ≡ x
  pub body : (t b : ℕ) (x : Body) → n ≡ BodyOf t b → piece ≡ part.Body x → c.body t b x ≡ x
  pub desk : (x : DeskState) → n ≡ TheDesk → piece ≡ part.Desk x → c.desk x ≡ x

-- A part whose change does nothing is the same behind it.
rests_same : (c : Changes) (n : Name) (piece : CorePart) → Rests c n piece → changed c n piece ≡ piece
rests_same c n piece h = rests_at (λ m x. (n ≡ m) × (piece ≡ x)) c (record {
  head = λ t x is. h.head t x is.0 is.1;
  shard = λ t i x is. h.shard t i x is.0 is.1;
  body = λ t b x is. h.body t b x is.0 is.1;
  desk = λ x is. h.desk x is.0 is.1;
}) n piece (refl, refl)

-- Where the change of the part at a place does nothing, this part is as it was.
unchanged_at : (c : Changes) (ns : List Name) (s : Parts) (k : ℕ) → ((n : Name) (piece : CorePart) → slice_get ns k ≡ Some n → slice_get s k ≡ Some piece → Rests c n piece)
    → slice_get (each_changed c ns s) k ≡ slice_get s k
unchanged_at c [] s k same = refl
unchanged_at c (n ∷ ns) [] k same = refl
unchanged_at c (n ∷ ns) (piece ∷ s) zero same = ap Some (rests_same c n piece (same n piece refl refl))
unchanged_at c (n ∷ ns) (piece ∷ s) (suc k) same = unchanged_at c ns s k same

-- what rests where it is not touched stays where it is not held
frames_by : (sh : Shape) (s : Parts) (e : CoreEvent) (hand : List (Option CorePart)) → Covers (touching sh e) hand → Agrees hand s
    → ((n : Name) (piece : CorePart) → part_at sh s n ≡ Some piece → touches sh e hand n ≡ false → Rests (changes_of sh s e) n piece)
    → OnlyHeld hand s (effect sh s e)
frames_by sh s e hand covers agrees same k away =
    unchanged_at (changes_of sh s e) (names sh) s k (λ n piece is at. same n piece (part_is sh s k n piece is at) (go n piece is at (cases_Bool (touches sh e hand n))))
  where
    go : (n : Name) (piece : CorePart) → slice_get (names sh) k ≡ Some n → slice_get s k ≡ Some piece → (touches sh e hand n ≡ true) ⊎ (touches sh e hand n ≡ false) → touches sh e hand n ≡ false
    go n piece is at (inl t) = absurd (away (covers k (let l = within s k piece at in let size = agrees.0 in omega (arith, l, size)) (ap (passes_test (touches sh e hand)) is ∙ t)))
    go n piece is at (inr f) = f

-- Where nothing is changed, the change of each part does nothing.
rests_nothing : (n : Name) (piece : CorePart) → Rests nothing n piece
rests_nothing n piece = record {
  head = λ t x e p. refl;
  shard = λ t i x e p. refl;
  body = λ t b x e p. refl;
  desk = λ x e p. refl;
}

-- A change of one block leaves what is another's.
elsewhere : {X : Type 0} (t b : ℕ) (g : X → X) (u x : ℕ) (y : X) → ((t == u) && (b == x)) ≡ false → at_both t b g u x y ≡ y
elsewhere t b g u x y e = ap (λ c. cond c (g y) y) (ap (λ d. d && (x == b)) (num_flip u t) ∙ ap (λ d. (t == u) && d) (num_flip x b) ∙ e)

-- what is chosen by a test that fails
pub skipped : {X : Type 0} (b : Bool) (x y : X) → b ≡ false → cond b x y ≡ y
skipped true x y e = cc
skipped false x y e = refl

-- an event that changes one body, and maybe none
rests_block : (t b : ℕ) (g : Body → Body) (n : Name) (piece : CorePart) → same_name (BodyOf t b) n ≡ false → Rests (record nothing { body = at_both t b g }) n piece
rests_block t b g n piece away = record {
  head = λ u x e p. refl;
  shard = λ u i x e p. refl;
  body = λ u x y e p. elsewhere t b g u x y (ap (same_name (BodyOf t b)) (sym e) ∙ away);
  desk = λ x e p. refl;
}

-- ---- what a transaction wrote

-- a write that is there passes a test of the writes
pub written_passes : (test : ℕ → ℤ → ℕ → Bool) (writes : PlaceMap ℕ) (t : ℕ) (key : ℤ) (p : ℕ) → at_place writes (place_at t key) ≡ Some p → test t key p ≡ true
    → list_any (λ (write : Place × ℕ). test write.0.table write.0.key write.1) writes ≡ true
written_passes test [] t key p is passes = cc
written_passes test (e ∷ writes) t key p is passes = go (is_place (place_at t key) e.0) refl is (λ rest. written_passes test writes t key p rest passes)
  where
    some_is : (a b : ℕ) → Some a ≡ Some b → a ≡ b
    some_is a b e = cc

    go : (b : Bool) → is_place (place_at t key) e.0 ≡ b → cond b (Some e.1) (lookup (is_place (place_at t key)) writes) ≡ Some p
        → (at_place writes (place_at t key) ≡ Some p → list_any (λ (write : Place × ℕ). test write.0.table write.0.key write.1) writes ≡ true)
        → list_any (λ (write : Place × ℕ). test write.0.table write.0.key write.1) (e ∷ writes) ≡ true
    go true here at rest =
        let same = place_is t e.0.table key e.0.key here in
        or_left (test e.0.table e.0.key e.1) (list_any (λ (write : Place × ℕ). test write.0.table write.0.key write.1) writes)
        (ap (λ u. test u e.0.key e.1) (sym same.0) ∙ ap (λ k. test t k e.1) (sym same.1) ∙ ap (test t key) (some_is e.1 p at) ∙ passes)
    go false here at rest = or_right (test e.0.table e.0.key e.1) (list_any (λ (write : Place × ℕ). test write.0.table write.0.key write.1) writes) (rest at)

-- Slots that are each left as they were are the same list.
map_same : (f : Slot → Slot) (xs : List Slot) → ((j : ℕ) → j < length xs → f (get_or xs j bare) ≡ get_or xs j bare) → map f xs ≡ xs
map_same f [] same = refl
map_same f (x ∷ xs) same = ap (λ y. y ∷ map f xs) (same 0 (omega arith)) ∙ ap (λ ys. x ∷ ys) (map_same f xs (λ j less. same (suc j) (omega (arith, less))))

-- Where the slot at each place fails a test, no slot passes it.
none_any : (test : Slot → Bool) (xs : List Slot) → ((j : ℕ) → j < length xs → test (get_or xs j bare) ≡ false) → list_any test xs ≡ false
none_any test [] none = refl
none_any test (x ∷ xs) none = ap (λ b. b || list_any test xs) (none 0 (omega arith)) ∙ none_any test xs (λ j less. none (suc j) (omega (arith, less)))

-- A writer other than the session, or none, fails the test for the session.
not_writer : (q : ℕ) (o : Option ℕ) → o ≢ Some q → is_writer q o ≡ false
not_writer q None ne = refl
not_writer q (Some w) ne = go (w == q) refl
  where
    go : (b : Bool) → (w == q) ≡ b → (w == q) ≡ false
    go true e = absurd (ne (ap Some (num w q e)))
    go false e = e

module _ (sh : Shape) (s : Parts) (shape : IsShape sh) (ok : Sound sh s) (own : OwnTransaction) (owns : OwnsAll sh own s) where
  -- The core's parts follow a machine.
  abbrev f : FollowsMachine sh s ok.follows.0
  f = follows_machine sh s ok

  -- a slot with the session's entries is among what is handed in
  listed : (t p : ℕ) → writer_of (slot_at sh s t p).entries ≡ Some own.session → (key : ℤ) × Among p (places_at sh s t key) × (at_place own.writes (place_at t key) ≡ Some p)
  listed t p w =
      let there = f.follows.index.listed t p (writer_filled (slot_at sh s t p) own.session w) in
      (there.0, there.1, (all_slots sh s ok own owns t there.0).all p there.1 w)

  -- no slot of a body that the session did not write has its entries
  unwritten_body : (t b : ℕ) (body : Body) → part_at sh s (BodyOf t b) ≡ Some (part.Body body) → is_body_written own.writes (BodyOf t b) ≡ false
      → (j : ℕ) → j < length body.slots → (slot_at sh s t (place_of b j) ≡ get_or body.slots j bare) × (writer_of (slot_at sh s t (place_of b j)).entries ≢ Some own.session)
  unwritten_body t b body is none j less = (
    ap (λ x. slot_in (body_at sh s t x) (slot_of (place_of b j))) whole ∙ ap (slot_in (body_at sh s t b)) part_of ∙ ap (λ o. slot_in (body_from o) j) is,
    λ w. let there = listed t (place_of b j) w in true_false
        (sym (written_passes (λ u key p. (u == t) && (block_of p == b)) own.writes t there.0 (place_of b j) there.2
        (and_from (t == t) (block_of (place_of b j) == b) (num_refl t) (ap (λ x. x == b) whole ∙ num_refl b))) ∙ none),
  )
    where
      has : HasBlock sh t b
      has = body_is_there sh s t b (part.Body body) is

      small : j < 2 ^ 20
      small =
          let size : length body.slots ≡ length (body_at sh s t b).slots = ap (λ o. length (body_from o).slots) (sym is) in
          let wide : length (body_at sh s t b).slots ≡ slots_of sh t = (ok.bodies t b has).slots in
          let most = (shape.slots t has.0).1 in omega (arith, less, size, wide, most)

      whole : block_of (place_of b j) ≡ b
      whole = block_is b j small

      part_of : slot_of (place_of b j) ≡ j
      part_of = slot_is b j small

  -- a commit leaves a body that its transaction did not write
  pub commit_stays : (t b : ℕ) (body : Body) → part_at sh s (BodyOf t b) ≡ Some (part.Body body) → is_body_written own.writes (BodyOf t b) ≡ false
      → (stamp number : ℕ) → committed_in own.session stamp number body ≡ body
  commit_stays t b body is none stamp number = ap (λ slots. record body { slots = slots }) (map_same (committed own.session stamp number) body.slots at)
    where
      at : (j : ℕ) → j < length body.slots → committed own.session stamp number (get_or body.slots j bare) ≡ get_or body.slots j bare
      at j less =
          let here = unwritten_body t b body is none j less in
          subst (λ (x : Slot). committed own.session stamp number x ≡ x) here.0
          (committed_other own.session stamp number (slot_at sh s t (place_of b j)) (f.follows.slots t (place_of b j)).lawful here.1)

  -- and so does an abort
  pub abort_stays : (t b : ℕ) (body : Body) → part_at sh s (BodyOf t b) ≡ Some (part.Body body) → is_body_written own.writes (BodyOf t b) ≡ false
      → rolled_back_in own.session body ≡ body
  abort_stays t b body is none =
      skipped (is_written_by own.session body) (record (modified body) { slots = map (rolled_back own.session) body.slots }) body
      (none_any (λ slot. is_writer own.session (writer_of slot.entries)) body.slots at)
    where
      at : (j : ℕ) → j < length body.slots → is_writer own.session (writer_of (get_or body.slots j bare).entries) ≡ false
      at j less =
          let here = unwritten_body t b body is none j less in
          ap (λ (x : Slot). is_writer own.session (writer_of x.entries)) (sym here.0)
          ∙ not_writer own.session (writer_of (slot_at sh s t (place_of b j)).entries) here.1

  -- a candidate of a shard of which the session wrote no key is not bare after the roll-back
  shard_stays : (t i : ℕ) (x : Places) → part_at sh s (ShardOf t i) ≡ Some (part.Shard x) → is_shard_written own.writes (ShardOf t i) ≡ false
      → (key : ℤ) (p : ℕ) → shard_of key ≡ i → Among p (candidates_of x key)
      → not (is_bare (slot_in (rolled_back_in own.session (body_at sh s t (block_of p))) (slot_of p))) ≡ true
  shard_stays t i x is none key p mine a =
      ap (λ (y : Slot). not (is_bare y))
      (rolled_slot own.session (desk_at sh s).newest (desk_at sh s).commits (body_at sh s t (block_of p)) (slot_of p) (f.follows.slots t p)
      ∙ rolled_back_other own.session (slot_at sh s t p) (f.follows.slots t p).lawful other)
      ∙ ap not (f.follows.index.filled t p key among)
    where
      among : Among p (places_at sh s t key)
      among = subst (Among p) (ap (λ o. candidates_of (shard_from o) key) (sym is) ∙ ap (λ i. candidates_of (shard_from (part_at sh s (ShardOf t i))) key) (sym mine)) a

      other : writer_of (slot_at sh s t p).entries ≢ Some own.session
      other w =
          let at = (all_slots sh s ok own owns t key).all p among w in true_false
          (sym (written_passes (λ u key' p'. (u == t) && (shard_of key' == i)) own.writes t key p at
          (and_from (t == t) (shard_of key == i) (num_refl t) (ap (λ j. j == i) mine ∙ num_refl i))) ∙ none)

-- ---- the events

module _ (sh : Shape) (s : Parts) (hand : List (Option CorePart)) (agrees : Agrees hand s) where
  -- a name that is not touched is not this one
  away_from : (e : CoreEvent) (w n m : Name) → touches sh e hand n ≡ false → touches sh e hand w ≡ true → n ≡ m → same_name w m ≡ false
  away_from e w n m away is same = ap (same_name w) (sym same) ∙ untouched sh e hand w n away is

  -- A change of a key, however it is judged, does nothing to a part that is not touched.
  change_rests : (e : CoreEvent) → Covers (touching sh e) hand → (own : OwnKey) (t : ℕ) (key : ℤ) (choice : Row → Change)
      → touches sh e hand (ShardOf t (shard_of key)) ≡ true
      → ((p : ℕ) → Among p (candidates_of (shard_from (held_named (names sh) hand (ShardOf t (shard_of key)))) key) → touches sh e hand (BodyOf t (block_of p)) ≡ true)
      → (n : Name) (piece : CorePart) → touches sh e hand n ≡ false → (r : Result ℕ WriteFault) → change_judged sh s own t key ≡ r → Rests (after_change sh s own t choice r) n piece
  change_rests e covers own t key choice shard bodies n piece away (Err fault) is = rests_nothing n piece
  change_rests e covers own t key choice shard bodies n piece away (Ok p) is =
      rests_block t (block_of p) (with_slot (slot_of p) (written own.session (choice (unwrap_or (slot_at sh s t p).row [])))) n piece
      (away_from e (BodyOf t (block_of p)) n n away (bodies p (subst (Among p) (sym places) (current_among (slot_at sh s t) (places_at sh s t key) p goes))) refl)
    where
      places : candidates_of (shard_from (held_named (names sh) hand (ShardOf t (shard_of key)))) key ≡ places_at sh s t key
      places = ap (λ o. candidates_of (shard_from o) key) (look sh e hand s (ShardOf t (shard_of key)) covers agrees shard)

      goes : current_place (slot_at sh s t) (places_at sh s t key) ≡ Some p
      goes = (judged_ok
          (option_or (fault_of (newer_by (slot_at sh s t) (places_at sh s t key) own)) (cond (is_none (found sh s own t key)) (Some Missing)
          (option_and_then (λ place. freezing_of (block_of place) (body_at sh s t (block_of place)).phase) (current_place (slot_at sh s t) (places_at sh s t key)))))
          (current_place (slot_at sh s t) (places_at sh s t key)) Missing p is).1

  -- An insert leaves each part that it does not touch.
  insert_rests : (own : OwnKey) (t : ℕ) (row : Row) → Covers (touching sh (event.Insert own t row)) hand
      → (n : Name) (piece : CorePart) → touches sh (event.Insert own t row) hand n ≡ false → (r : Result ℕ WriteFault) → insert_judged sh s own t (key_of row) ≡ r → Rests (after_insert sh s own t row r) n piece
  insert_rests own t row covers n piece away (Err fault) is = rests_nothing n piece
  insert_rests own t row covers n piece away (Ok p) is = record {
    head = λ u x e q. skipped (u == t) _ x (num_flip u t ∙ away_from (event.Insert own t row) (HeadOf t) n (HeadOf u) away head e);
    shard = λ u i x e q. elsewhere t (shard_of (key_of row)) (with_place (key_of row) p) u i x (away_from (event.Insert own t row) (ShardOf t (shard_of (key_of row))) n (ShardOf u i) away shard e);
    body = λ u b x e q. elsewhere t (block_of p) (with_slot (slot_of p) (written own.session (change.Put row))) u b x (away_from (event.Insert own t row) (BodyOf t (block_of p)) n (BodyOf u b) away body e);
    desk = λ x e q. refl;
  }
    where
      places : List ℕ
      places = candidates_of (shard_from (held_named (names sh) hand (ShardOf t (shard_of (key_of row))))) (key_of row)

      taken : Option ℕ
      taken = option_or own.written (next_place (head_from (held_named (names sh) hand (HeadOf t))) (slots_of sh t))

      head : touches sh (event.Insert own t row) hand (HeadOf t) ≡ true
      head = or_left (t == t) _ (num_refl t)

      shard : touches sh (event.Insert own t row) hand (ShardOf t (shard_of (key_of row))) ≡ true
      shard = or_left (same_name (ShardOf t (shard_of (key_of row))) (ShardOf t (shard_of (key_of row)))) false (name_self (ShardOf t (shard_of (key_of row))))

      goes : option_or own.written (next_place (head_at sh s t) (slots_of sh t)) ≡ Some p
      goes = (judged_ok
          (option_or (fault_of (newer_by (slot_at sh s t) (places_at sh s t (key_of row)) own)) (cond (is_some (found sh s own t (key_of row))) (Some Exists) None))
          (option_or own.written (next_place (head_at sh s t) (slots_of sh t))) (Full (head_at sh s t).inserts) p is).1

      next : option_or own.written (next_place (head_from (held_named (names sh) hand (HeadOf t))) (slots_of sh t)) ≡ Some p
      next = ap (λ o. option_or own.written (next_place (head_from o) (slots_of sh t))) (look sh (event.Insert own t row) hand s (HeadOf t) covers agrees head) ∙ goes

      body : touches sh (event.Insert own t row) hand (BodyOf t (block_of p)) ≡ true
      body =
          ap (λ o. (t == t) && list_any (λ place. block_of place == block_of p) (option_to_list o ++ candidates_of (shard_from (held_named (names sh) hand (ShardOf t (shard_of (key_of row))))) (key_of row))) next
          ∙ and_from (t == t) (list_any (λ place. block_of place == block_of p) (p ∷ candidates_of (shard_from (held_named (names sh) hand (ShardOf t (shard_of (key_of row))))) (key_of row))) (num_refl t)
          (or_left (block_of p == block_of p) _ (num_refl (block_of p)))

  -- A commit does nothing to a part that it does not touch.
  commit_rests : (shape : IsShape sh) (ok : Sound sh s) (own : OwnTransaction) (reads : Option ReadSet) → OwnsAll sh own s
      → (n : Name) (piece : CorePart) → part_at sh s n ≡ Some piece → touches sh (event.Commit own reads) hand n ≡ false → Rests (after_commit sh s own) n piece
  commit_rests shape ok own reads owns n piece is away = record {
    head = λ t x e p. refl;
    shard = λ t i x e p. refl;
    body = λ t b x e p. at t b x (ap (part_at sh s) (sym e) ∙ is ∙ ap Some p) (unwritten t b (ap (touches sh (event.Commit own reads) hand) (sym e) ∙ away)) (is_some_write own.writes);
    desk = λ x e p. absurd (true_false (sym desk_there ∙ ap (touches sh (event.Commit own reads) hand) (sym e) ∙ away));
  }
    where
      desk_there : touches sh (event.Commit own reads) hand TheDesk ≡ true
      desk_there = or_right (is_body_written own.writes TheDesk || touched_by_reads sh (held_named (names sh) hand) (judged_reads own.writes reads) TheDesk) true refl

      unwritten : (t b : ℕ) → touches sh (event.Commit own reads) hand (BodyOf t b) ≡ false → is_body_written own.writes (BodyOf t b) ≡ false
      unwritten t b none =
          (or_parts (is_body_written own.writes (BodyOf t b)) (touched_by_reads sh (held_named (names sh) hand) (judged_reads own.writes reads) (BodyOf t b))
          (or_parts (is_body_written own.writes (BodyOf t b) || touched_by_reads sh (held_named (names sh) hand) (judged_reads own.writes reads) (BodyOf t b)) false none).0).0

      at : (t b : ℕ) (x : Body) → part_at sh s (BodyOf t b) ≡ Some (part.Body x) → is_body_written own.writes (BodyOf t b) ≡ false → (wrote : Bool)
          → (cond wrote (committed_in own.session ((desk_at sh s).newest + 1) ((desk_at sh s).commits + 1)) (λ (body : Body). body)) x ≡ x
      at t b x is none true = commit_stays sh s shape ok own owns t b x is none ((desk_at sh s).newest + 1) ((desk_at sh s).commits + 1)
      at t b x is none false = refl

  -- An abort does nothing to a part that it does not touch.
  abort_rests : (shape : IsShape sh) (ok : Sound sh s) → ShardsHold sh s → (own : OwnTransaction) → OwnsAll sh own s
      → (n : Name) (piece : CorePart) → part_at sh s n ≡ Some piece → touches sh (event.Abort own) hand n ≡ false → Rests (changes_of sh s (event.Abort own)) n piece
  abort_rests shape ok shards own owns n piece is away = record {
    head = λ t x e p. absurd (true_false (ap (touches sh (event.Abort own) hand) (sym e) ∙ away));
    shard = λ t i x e p. shard t i x (ap (part_at sh s) (sym e) ∙ is ∙ ap Some p) (shard_away t i (ap (touches sh (event.Abort own) hand) (sym e) ∙ away));
    body = λ t b x e p. abort_stays sh s shape ok own owns t b x (ap (part_at sh s) (sym e) ∙ is ∙ ap Some p) (or_parts (is_body_written own.writes (BodyOf t b)) false (ap (touches sh (event.Abort own) hand) (sym e) ∙ away)).0;
    desk = λ x e p. absurd (true_false (ap (touches sh (event.Abort own) hand) (sym e) ∙ away));
  }
    where
      shard_away : (t i : ℕ) → touches sh (event.Abort own) hand (ShardOf t i) ≡ false → is_shard_written own.writes (ShardOf t i) ≡ false
      shard_away t i e = (or_parts (is_shard_written own.writes (ShardOf t i)) false (or_parts (is_shard_written own.writes (ShardOf t i) || false) false e).0).0

      shard : (t i : ℕ) (x : Places) → part_at sh s (ShardOf t i) ≡ Some (part.Shard x) → is_shard_written own.writes (ShardOf t i) ≡ false
          → (changes_of sh s (event.Abort own)).shard t i x ≡ x
      shard t i x is none = kept_stays i _ x (shards t i x is) (shard_stays sh s shape ok own owns t i x is none)

  -- A pruning does nothing to a part that it does not touch.
  prune_rests : (t b oldest : ℕ) (n : Name) (piece : CorePart) → touches sh (event.Prune t b oldest) hand n ≡ false → Rests (changes_of sh s (event.Prune t b oldest)) n piece
  prune_rests t b oldest n piece away = record {
    head = λ u x e p. skipped (u == t) _ x (num_flip u t ∙ away_from (event.Prune t b oldest) (HeadOf t) n (HeadOf u) away head e);
    shard = λ u i x e p. skipped (u == t) _ x (num_flip u t ∙ ap (touches sh (event.Prune t b oldest) hand) (sym e) ∙ away);
    body = λ u x y e p. elsewhere t b (pruned_in oldest) u x y (away_from (event.Prune t b oldest) (BodyOf t b) n (BodyOf u x) away body e);
    desk = λ x e p. refl;
  }
    where
      head : touches sh (event.Prune t b oldest) hand (HeadOf t) ≡ true
      head = or_left ((t == t) || false) false (or_left (t == t) false (num_refl t))

      body : touches sh (event.Prune t b oldest) hand (BodyOf t b) ≡ true
      body = or_left (same_name (BodyOf t b) (BodyOf t b)) false (name_self (BodyOf t b))

  -- A move of some of its pairs does nothing to a part that it does not touch.
  move_rests : (t : ℕ) (moves pairs : List MovePair) → ((pair : MovePair) → Among pair pairs → Among pair moves)
      → (n : Name) (piece : CorePart) → touches sh (event.Move t moves) hand n ≡ false → Rests (after_move sh s t pairs) n piece
  move_rests t moves [] of n piece away = rests_nothing n piece
  move_rests t moves (first ∷ rest) of n piece away = record {
    head = λ u x e p. refl;
    shard = λ u i x e p. shard u i x (u == t) refl (shard_away u i (ap (touches sh (event.Move t moves) hand) (sym e) ∙ away));
    body = λ u b x e p. body u b x (u == t) refl (body_away u b (ap (touches sh (event.Move t moves) hand) (sym e) ∙ away));
    desk = λ x e p. absurd (true_false (sym (or_right (is_body_moved t moves TheDesk) true refl) ∙ ap (touches sh (event.Move t moves) hand) (sym e) ∙ away));
  }
    where
      shard_away : (u i : ℕ) → touches sh (event.Move t moves) hand (ShardOf u i) ≡ false → is_shard_moved t moves (ShardOf u i) ≡ false
      shard_away u i e = (or_parts (is_shard_moved t moves (ShardOf u i)) (is_body_moved t moves (ShardOf u i)) (or_parts (is_shard_moved t moves (ShardOf u i) || is_body_moved t moves (ShardOf u i)) false e).0).0

      body_away : (u b : ℕ) → touches sh (event.Move t moves) hand (BodyOf u b) ≡ false → is_body_moved t moves (BodyOf u b) ≡ false
      body_away u b e = (or_parts (is_body_moved t moves (BodyOf u b)) false e).0

      then : (a b : Bool) → (a && b) ≡ false → a ≡ true → b ≡ false
      then true b e x = e
      then false b e x = cc

      shard : (u i : ℕ) (x : Places) (here : Bool) → (u == t) ≡ here → ((t == u) && list_any (λ (pair : MovePair). shard_of pair.key == i) moves) ≡ false
          → cond (u == t) (fold (places_moved sh s i) x (first ∷ rest)) x ≡ x
      shard u i x false is none = skipped (u == t) (fold (places_moved sh s i) x (first ∷ rest)) x is
      shard u i x true is none =
          ap (λ b. cond b (fold (places_moved sh s i) x (first ∷ rest)) x) is
          ∙ fold_same (places_moved sh s i) x (first ∷ rest) (λ pair a. skipped (shard_of pair.key == i) (with_place pair.key pair.target x) x
          (any_false (λ (pair : MovePair). shard_of pair.key == i) moves pair
          (then (t == u) (list_any (λ (pair : MovePair). shard_of pair.key == i) moves) none (num_flip t u ∙ is)) (of pair a)))

      body : (u b : ℕ) (x : Body) (here : Bool) → (u == t) ≡ here → is_body_moved t moves (BodyOf u b) ≡ false
          → cond (u == t) (fold (half_moved sh s t ((desk_at sh s).newest + 1) b) x (first ∷ rest)) x ≡ x
      body u b x false is none = skipped (u == t) (fold (half_moved sh s t ((desk_at sh s).newest + 1) b) x (first ∷ rest)) x is
      body u b x true is none =
          ap (λ c. cond c (fold (half_moved sh s t ((desk_at sh s).newest + 1) b) x (first ∷ rest)) x) is
          ∙ fold_same (half_moved sh s t ((desk_at sh s).newest + 1) b) x (first ∷ rest) (λ pair a.
          let both = then (t == u) ((block_of pair.source == b) || ((block_of pair.target == b) || false))
          (any_false (λ (pair : MovePair). is_body_of t (pair.source ∷ pair.target ∷ []) (BodyOf u b)) moves pair none (of pair a)) (num_flip t u ∙ is) in
          let two = or_parts (block_of pair.source == b) ((block_of pair.target == b) || false) both in
          skipped (block_of pair.target == b) _ _ (or_parts (block_of pair.target == b) false two.1).0
          ∙ skipped (block_of pair.source == b) _ x two.0)

  -- A seal, made or refused, does nothing to a part other than the block's body.
  seal_rests : (t b : ℕ) (n : Name) (piece : CorePart) → same_name (BodyOf t b) n ≡ false → (y : Bool) → Rests (cond y (record nothing { body = at_both t b sealed }) nothing) n piece
  seal_rests t b n piece away true = rests_block t b sealed n piece away
  seal_rests t b n piece away false = rests_nothing n piece

  -- a block's body is touched where it is, with its table's head or without
  block_away : (e : CoreEvent) (t b : ℕ) (n : Name) → touches sh e hand n ≡ false → touches sh e hand (BodyOf t b) ≡ true → same_name (BodyOf t b) n ≡ false
  block_away e t b n away is = untouched sh e hand (BodyOf t b) n away is

  -- A lawful event does nothing to a part that it does not touch.
  event_rests : IsShape sh → Sound sh s → ShardsHold sh s → (e : CoreEvent) → Covers (touching sh e) hand → IsLawful sh e s
      → (n : Name) (piece : CorePart) → part_at sh s n ≡ Some piece → touches sh e hand n ≡ false → Rests (changes_of sh s e) n piece
  event_rests shape ok shards (event.Begin q) covers lawful n piece is away = record {
    head = λ t x e p. refl;
    shard = λ t i x e p. refl;
    body = λ t b x e p. refl;
    desk = λ x e p. absurd (true_false (ap (touches sh (event.Begin q) hand) (sym e) ∙ away));
  }
  event_rests shape ok shards (event.Get own t key) covers lawful n piece is away = rests_nothing n piece
  event_rests shape ok shards (event.Insert own t row) covers lawful n piece is away = insert_rests own t row covers n piece away (insert_judged sh s own t (key_of row)) refl
  event_rests shape ok shards (event.Update own t row) covers lawful n piece is away =
      change_rests (event.Update own t row) covers own t (key_of row) (λ old. change.Patch (differences 0 old row))
      (shard_touched t (key_of row) (option_to_list own.written ++ candidates_of (shard_from (held_named (names sh) hand (ShardOf t (shard_of (key_of row))))) (key_of row)))
      (body_touched t (key_of row) (option_to_list own.written) (candidates_of (shard_from (held_named (names sh) hand (ShardOf t (shard_of (key_of row))))) (key_of row)))
      n piece away (change_judged sh s own t (key_of row)) refl
  event_rests shape ok shards (event.Delete own t key) covers lawful n piece is away =
      change_rests (event.Delete own t key) covers own t key (λ old. change.Gone)
      (shard_touched t key (option_to_list own.written ++ candidates_of (shard_from (held_named (names sh) hand (ShardOf t (shard_of key)))) key))
      (body_touched t key (option_to_list own.written) (candidates_of (shard_from (held_named (names sh) hand (ShardOf t (shard_of key)))) key))
      n piece away (change_judged sh s own t key) refl
  event_rests shape ok shards (event.Read own t b) covers lawful n piece is away = rests_nothing n piece
  event_rests shape ok shards (event.Range own t low high) covers lawful n piece is away = rests_nothing n piece
  event_rests shape ok shards (event.Commit own reads) covers lawful n piece is away = judged (stale_in sh s own reads)
    where
      judged : (found : Option (Read × ℕ)) → Rests (after_judged sh s own found) n piece
      judged None = commit_rests shape ok own reads lawful.0 n piece is away
      judged (Some stale) = rests_nothing n piece
  event_rests shape ok shards (event.Abort own) covers lawful n piece is away = abort_rests shape ok shards own lawful.0 n piece is away
  event_rests shape ok shards event.Oldest covers lawful n piece is away = rests_nothing n piece
  event_rests shape ok shards (event.Observe t b) covers lawful n piece is away =
      rests_block t b (observed (is_head sh s t b)) n piece (block_away (event.Observe t b) t b n away (name_self (BodyOf t b)))
  event_rests shape ok shards (event.Prune t b oldest) covers lawful n piece is away = prune_rests t b oldest n piece away
  event_rests shape ok shards (event.Look t b) covers lawful n piece is away = rests_nothing n piece
  event_rests shape ok shards (event.Move t moves) covers lawful n piece is away =
      move_rests t moves (held_pairs sh s t moves) (λ pair a. (kept_among (holds sh s t) moves pair a).0) n piece away
  event_rests shape ok shards (event.Seal t b) covers lawful n piece is away =
      seal_rests t b n piece (block_away (event.Seal t b) t b n away (name_self (BodyOf t b))) (is_none (seal_fault (is_head sh s t b) (body_at sh s t b)))
  event_rests shape ok shards (event.Image t b image) covers lawful n piece is away =
      rests_block t b imaged n piece (block_away (event.Image t b image) t b n away (name_self (BodyOf t b)))
  event_rests shape ok shards (event.Thaw t b) covers lawful n piece is away =
      rests_block t b thawed n piece (block_away (event.Thaw t b) t b n away (name_self (BodyOf t b)))

-- A lawful event changes only parts in a hand that has all that it touches.
pub frame : Frame
frame sh e hand s shape ok shards covers agrees lawful = frames_by sh s e hand covers agrees
    (event_rests sh s hand agrees shape ok shards e covers lawful)
