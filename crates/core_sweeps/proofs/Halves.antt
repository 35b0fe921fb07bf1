-- One pair on a hand: its row moves, or is taken back.
use Rattle.std.proofs.Common.{◌≡◌, ◌≢◌, ℕ, ◌<◌, ℤ, Bool, true, false, cond, ◌&&◌, ◌==◌, [], None, Some, is_some, unwrap_or, length, refl, sym, ap, ◌∙◌, subst}
use mathlib.Core.Logic.{inl, inr}
use Rattle.std.specs.Prelude.{IfOk, OnErr, OnOk, Result, Ok, Err, slice_get}
use Rattle.std.specs.List.{list_any}
use Rattle.std.proofs.lemmas.Bool.{and_parts}
use Rattle.block_layout.specs.Place.{block_of, slot_of}
use Rattle.block_spec.specs.Bodies.{Body, is_loose, slot_in, taken_back_in, with_slot}
use Rattle.block_spec.specs.Slots.{Row, Slot, has_none, is_bare, moved_out, taken_back}
use Rattle.cell_model.specs.Rows.{Fits}
use Rattle.core_sweeps.proofs.Bodies.{back_out, if_columns, if_here, if_long, if_phase}
use Rattle.core_sweeps.specs.MoveSteps.{IsNearly, IsReadyIn, come, cooled, left, pair_moved, pair_undone, row_in, rows_moved, shard_in}
use Rattle.core_parts.proofs.Changing.{after_nothing, after_twice, put_back}
use Rattle.core_parts.proofs.Placing.{held_at, named_once}
use Rattle.core_parts.specs.Hands.{Has, Held, after, in_hand, laid}
use Rattle.core_sweeps.proofs.Handing.{after_then, body_back, body_in_after, body_in_changed, body_in_else, has_still, room_still, shard_back}
use Rattle.core_sweeps.specs.SweepSteps.{body_changed, body_in, shard_changed}
use Rattle.core_laws.proofs.Events.ByKind.{twice_at}
use Rattle.core_laws.proofs.Events.Places.{same_place, with_slot_else, with_slot_here}
use Rattle.core_laws.proofs.Events.Slots.{num}
use Rattle.event_spec.specs.declared.event.MovePair.{MovePair}
use Rattle.event_spec.specs.declared.part.Part.TheVariants as part
use Rattle.event_spec.specs.Effects.{with_place}
use Rattle.event_spec.specs.Parts.{Changes, CorePart, Shape, Name, ShardOf, BodyOf, body_from, names, nothing, shard_from, shard_of}
use Rattle.core_laws.specs.Frames.Shards.{ShardHolds}
use Rattle.key_index.specs.Candidates.{Places, candidates_of}
use Rattle.core_parts.proofs.Shards.{added_is_dropped}
use Rattle.core_parts.specs.Shards.{without_place}

-- ---- answers

-- what follows where a result is one that went well
pub if_ok : {T E : Type 0} (r : Result T E) (P Q : T → Type 0) → ((x : T) → P x → Q x) → IfOk r P → IfOk r Q
if_ok (Ok x) P Q f p = f x p
if_ok (Err e) P Q f p = tt

-- what follows of a fact that holds if it went well
pub on_ok : {T E : Type 0} (r : Result T E) (P Q : Type 0) → (P → Q) → OnOk r P → OnOk r Q
on_ok (Ok x) P Q f p = f p
on_ok (Err e) P Q f p = tt

-- what follows of a fact that holds if it failed
pub on_err : {T E : Type 0} (r : Result T E) (P Q : Type 0) → (P → Q) → OnErr r P → OnErr r Q
on_err (Ok x) P Q f p = tt
on_err (Err e) P Q f p = f p

-- a candidate that is added, where the shard's number and the key are told otherwise
pub added_back : (sh : Shape) (t i : ℕ) (key k : ℤ) (p : ℕ) (hand taken new : Held) (x z y : Places) → k ≡ key → i ≡ shard_of k
    → in_hand sh hand (ShardOf t i) ≡ Some (part.Shard x) → taken ≡ laid sh (ShardOf t i) None hand → z ≡ x → y ≡ with_place k p z
    → new ≡ laid sh (ShardOf t i) (Some (part.Shard y)) taken → new ≡ after sh (shard_changed t (shard_of key) (with_place key p)) hand
added_back sh t i key k p hand taken new x z y same mine is out lent made back =
    shard_back sh t i (with_place k p) hand taken new x y is out (made ∙ ap (with_place k p) lent) back
    ∙ ap (λ i. after sh (shard_changed t i (with_place k p)) hand) mine
    ∙ ap (λ k. after sh (shard_changed t (shard_of k) (with_place k p)) hand) same

-- a change of a slot of a body, where the block's and the slot's numbers are told otherwise
pub slot_back : (sh : Shape) (t b block j slot : ℕ) (g : ℕ → Body → Body) (hand taken new : Held) (x z y : Body) → b ≡ block → j ≡ slot
    → in_hand sh hand (BodyOf t b) ≡ Some (part.Body x) → taken ≡ laid sh (BodyOf t b) None hand → z ≡ x → y ≡ g j z
    → new ≡ laid sh (BodyOf t b) (Some (part.Body y)) taken → new ≡ after sh (body_changed t block (g slot)) hand
slot_back sh t b block j slot g hand taken new x z y here there is out lent made back =
    body_back sh t b (g j) hand taken new x y is out (made ∙ ap (g j) lent) back
    ∙ ap (λ b. after sh (body_changed t b (g j)) hand) here
    ∙ ap (λ j. after sh (body_changed t block (g j)) hand) there

-- a body that is taken, stays as it is and is laid back leaves the hand as it was
pub body_as_was : (sh : Shape) (t b : ℕ) (hand taken new : Held) (x z y : Body)
    → in_hand sh hand (BodyOf t b) ≡ Some (part.Body x) → taken ≡ laid sh (BodyOf t b) None hand → z ≡ x → y ≡ z
    → new ≡ laid sh (BodyOf t b) (Some (part.Body y)) taken → new ≡ hand
body_as_was sh t b hand taken new x z y is out lent same back = put_back sh hand taken new (BodyOf t b) (part.Body x) is out (back ∙ ap (λ y. laid sh (BodyOf t b) (Some (part.Body y)) taken) (same ∙ lent))

-- and so does a shard
pub shard_as_was : (sh : Shape) (t i : ℕ) (hand taken new : Held) (x z y : Places)
    → in_hand sh hand (ShardOf t i) ≡ Some (part.Shard x) → taken ≡ laid sh (ShardOf t i) None hand → z ≡ x → y ≡ z
    → new ≡ laid sh (ShardOf t i) (Some (part.Shard y)) taken → new ≡ hand
shard_as_was sh t i hand taken new x z y is out lent same back = put_back sh hand taken new (ShardOf t i) (part.Shard x) is out (back ∙ ap (λ y. laid sh (ShardOf t i) (Some (part.Shard y)) taken) (same ∙ lent))

-- ---- pieces

-- what stands in a hand at a name's place is what the hand has of that name
pub piece_in : (sh : Shape) (hand : Held) (k : ℕ) (n : Name) (x : CorePart) → slice_get (names sh) k ≡ Some n → slice_get hand k ≡ Some (Some x) → in_hand sh hand n ≡ Some x
piece_in sh hand k n x is at = held_at (names sh) hand n k (Some x) (named_once sh) is at

-- two changes of one body, which are one of the body that is there
pub bodies_then : (sh : Shape) (hand : Held) (t b : ℕ) (f g h : Body → Body) → ((x : Body) → in_hand sh hand (BodyOf t b) ≡ Some (part.Body x) → g (f x) ≡ h x)
    → after sh (body_changed t b g) (after sh (body_changed t b f) hand) ≡ after sh (body_changed t b h) hand
bodies_then sh hand t b f g h same = after_then (body_changed t b f) (body_changed t b g) (body_changed t b h) (names sh) hand
    (λ k n x is at. twice_at (λ n x. in_hand sh hand n ≡ Some x) (body_changed t b f) (body_changed t b g) (body_changed t b h)
    (record { head = λ u x is. refl; shard = λ u i x is. refl; body = λ u d x is. at_body u d x is ((u == t) && (d == b)) refl; desk = λ x is. refl }) n x (piece_in sh hand k n x is at))
  where
    at_body : (u d : ℕ) (x : Body) → in_hand sh hand (BodyOf u d) ≡ Some (part.Body x) → (c : Bool) → ((u == t) && (d == b)) ≡ c
        → cond ((u == t) && (d == b)) (g (cond ((u == t) && (d == b)) (f x) x)) (cond ((u == t) && (d == b)) (f x) x) ≡ cond ((u == t) && (d == b)) (h x) x
    at_body u d x is true e =
        let two = and_parts (u == t) (d == b) e in
        ap (λ c. cond c (g (cond c (f x) x)) (cond c (f x) x)) e
        ∙ same x (sym (ap (λ u. in_hand sh hand (BodyOf u b)) (num u t two.0)) ∙ sym (ap (λ d. in_hand sh hand (BodyOf u d)) (num d b two.1)) ∙ is)
        ∙ ap (λ c. cond c (h x) x) (sym e)
    at_body u d x is false e = ap (λ c. cond c (g (cond c (f x) x)) (cond c (f x) x)) e ∙ ap (λ c. cond c (h x) x) (sym e)

-- a shard that is changed, and changed back
pub shards_back : (sh : Shape) (hand : Held) (t i : ℕ) (f g : Places → Places) (c : Changes) → ((u j : ℕ) (x : Places) → c.shard u j x ≡ x)
    → ((x : Places) → in_hand sh hand (ShardOf t i) ≡ Some (part.Shard x) → g (f x) ≡ x)
    → after sh (shard_changed t i g) (after sh (record c { shard = λ u j x. cond ((u == t) && (j == i)) (f x) x }) hand) ≡ after sh c hand
shards_back sh hand t i f g c plain same = after_then (record c { shard = λ u j x. cond ((u == t) && (j == i)) (f x) x }) (shard_changed t i g) c (names sh) hand
    (λ k n x is at. twice_at (λ n x. in_hand sh hand n ≡ Some x) (record c { shard = λ u j x. cond ((u == t) && (j == i)) (f x) x }) (shard_changed t i g) c
    (record { head = λ u x is. refl; shard = λ u j x is. at_shard u j x is ((u == t) && (j == i)) refl; body = λ u b x is. refl; desk = λ x is. refl }) n x (piece_in sh hand k n x is at))
  where
    at_shard : (u j : ℕ) (x : Places) → in_hand sh hand (ShardOf u j) ≡ Some (part.Shard x) → (b : Bool) → ((u == t) && (j == i)) ≡ b
        → cond ((u == t) && (j == i)) (g (cond ((u == t) && (j == i)) (f x) x)) (cond ((u == t) && (j == i)) (f x) x) ≡ c.shard u j x
    at_shard u j x is true e =
        let two = and_parts (u == t) (j == i) e in
        ap (λ b. cond b (g (cond b (f x) x)) (cond b (f x) x)) e
        ∙ same x (sym (ap (λ u. in_hand sh hand (ShardOf u i)) (num u t two.0)) ∙ sym (ap (λ j. in_hand sh hand (ShardOf u j)) (num j i two.1)) ∙ is)
        ∙ sym (plain u j x)
    at_shard u j x is false e = ap (λ b. cond b (g (cond b (f x) x)) (cond b (f x) x)) e ∙ sym (plain u j x)

-- ---- the row of a pair

module _ (sh : Shape) (h0 : Held) (t : ℕ) (pair : MovePair) (r : IsReadyIn sh h0 t pair) (h1 : Held) (stamp : ℕ) (row : Row)
    (is : (slot_in (body_in sh h0 t (block_of pair.source)) (slot_of pair.source)).row ≡ Some row) (out : h1 ≡ after sh (left t pair.source row stamp) h0) where
  -- The target lies in the block of the source.
  abbrev c : Bool
  c = (t == t) && (block_of pair.target == block_of pair.source)

  -- The target's body before the row left its source.
  abbrev was : Body
  was = body_in sh h0 t (block_of pair.target)

  -- The target's body after the row left is as it was, unless it is the source's too.
  here : body_in sh h1 t (block_of pair.target)
      ≡ cond ((t == t) && (block_of pair.target == block_of pair.source)) (with_slot (slot_of pair.source) (moved_out stamp row) (body_in sh h0 t (block_of pair.target))) (body_in sh h0 t (block_of pair.target))
  here = ap (λ h. body_in sh h t (block_of pair.target)) out ∙ body_in_after sh (left t pair.source row stamp) h0 t (block_of pair.target) r.target

  -- after the row left, the hand has the body of the target
  pub in_has : Has sh h1 (BodyOf t (block_of pair.target))
  in_has = has_still sh (left t pair.source row stamp) h0 h1 (BodyOf t (block_of pair.target)) out r.target

  -- and that of the source
  pub out_has : Has sh h1 (BodyOf t (block_of pair.source))
  out_has = has_still sh (left t pair.source row stamp) h0 h1 (BodyOf t (block_of pair.source)) out r.source

  -- and a place for each part
  pub in_room : length h1 ≡ length (names sh)
  in_room = room_still sh (left t pair.source row stamp) h0 h1 out r.room

  -- the body of the target is loose as before
  pub in_loose : is_loose (body_in sh h1 t (block_of pair.target)).phase ≡ true
  in_loose = ap (λ (x : Body). is_loose x.phase) here ∙ ap is_loose (if_phase c (slot_of pair.source) (moved_out stamp row) was) ∙ r.open'

  -- it has the target's slot
  pub in_slot : slot_of pair.target < length (body_in sh h1 t (block_of pair.target)).slots
  in_slot = subst (λ n. slot_of pair.target < n) (sym (ap (λ (x : Body). length x.slots) here ∙ if_long c (slot_of pair.source) (moved_out stamp row) was)) r.slot

  -- which is still bare
  pub in_bare : is_bare (slot_in (body_in sh h1 t (block_of pair.target)) (slot_of pair.target)) ≡ true
  in_bare =
      ap (λ (x : Body). is_bare (slot_in x (slot_of pair.target))) here
      ∙ ap is_bare (if_here c (slot_of pair.source) (slot_of pair.target) (moved_out stamp row) was
      (λ e same. r.apart (same_place pair.source pair.target (sym (num (block_of pair.target) (block_of pair.source) (and_parts (t == t) (block_of pair.target == block_of pair.source) e).1)) (sym same))))
      ∙ r.bare'

  -- and its columns take the row
  pub in_fits : Fits (body_in sh h1 t (block_of pair.target)).columns row
  in_fits = subst (λ columns. Fits columns row) (sym (ap (λ (x : Body). x.columns) here ∙ if_columns c (slot_of pair.source) (moved_out stamp row) was)) (r.fits row is)

  -- the slot that the row left has an entry
  pub out_entry : has_none (slot_in (body_in sh h1 t (block_of pair.source)) (slot_of pair.source)).entries ≡ false
  out_entry =
      ap (λ (x : Body). has_none (slot_in x (slot_of pair.source)).entries)
      (body_in_changed sh h0 h1 t (block_of pair.source) (with_slot (slot_of pair.source) (moved_out stamp row)) r.source out)
      ∙ ap (λ (x : Slot). has_none x.entries) (with_slot_here (slot_of pair.source) (moved_out stamp row) (body_in sh h0 t (block_of pair.source)) r.inside)

  -- The row that the pair moves is the one at its source.
  row_is : row_in sh h0 t pair ≡ row
  row_is = ap (λ o. unwrap_or o []) is

  -- a row that left and then comes to its target has moved
  pub row_ends : (h2 : Held) → h2 ≡ after sh (come t pair.target row stamp) h1 → h2 ≡ after sh (rows_moved t stamp pair (row_in sh h0 t pair)) h0
  row_ends h2 came =
      came ∙ ap (after sh (come t pair.target row stamp)) out
      ∙ after_twice sh (left t pair.source row stamp) (come t pair.target row stamp) (rows_moved t stamp pair row) h0
      (record { head = λ u x. refl; shard = λ u i x. refl; body = λ u b x. refl; desk = λ x. refl })
      ∙ ap (λ row. after sh (rows_moved t stamp pair row) h0) (sym row_is)

  -- a row that left and is taken back leaves its block cooled
  pub row_back : (h3 : Held) → h3 ≡ after sh (body_changed t (block_of pair.source) (taken_back_in (slot_of pair.source))) h1 → h3 ≡ after sh (body_changed t (block_of pair.source) cooled) h0
  row_back h3 back =
      back ∙ ap (after sh (body_changed t (block_of pair.source) (taken_back_in (slot_of pair.source)))) out
      ∙ bodies_then sh h0 t (block_of pair.source) (with_slot (slot_of pair.source) (moved_out stamp row)) (taken_back_in (slot_of pair.source)) cooled
      (λ x at. let same : body_in sh h0 t (block_of pair.source) ≡ x = ap body_from at in
      back_out (slot_of pair.source) stamp row x (subst (λ (x : Body). slot_of pair.source < length x.slots) same r.inside)
      (subst (λ (x : Body). (slot_in x (slot_of pair.source)).row ≡ Some row) same is))

-- ---- a pair's candidate

module _ (sh : Shape) (h0 h1 : Held) (t : ℕ) (pair : MovePair) (r : IsReadyIn sh h0 t pair)
    (added : h1 ≡ after sh (shard_changed t (shard_of pair.key) (with_place pair.key pair.target)) h0) where
  -- The pair's target is added as a candidate of its key.
  abbrev add : Changes
  add = shard_changed t (shard_of pair.key) (with_place pair.key pair.target)

  -- With the candidate added the source's body is as it was.
  same_source : body_in sh h1 t (block_of pair.source) ≡ body_in sh h0 t (block_of pair.source)
  same_source = body_in_else sh h0 h1 t (block_of pair.source) t (shard_of pair.key) (with_place pair.key pair.target) r.source added

  -- With the candidate added the target's body is as it was.
  same_target : body_in sh h1 t (block_of pair.target) ≡ body_in sh h0 t (block_of pair.target)
  same_target = body_in_else sh h0 h1 t (block_of pair.target) t (shard_of pair.key) (with_place pair.key pair.target) r.target added

  -- a new candidate leaves a pair ready to move
  pub ready_still : IsReadyIn sh h1 t pair
  ready_still = record {
    source = has_still sh add h0 h1 (BodyOf t (block_of pair.source)) added r.source;
    target = has_still sh add h0 h1 (BodyOf t (block_of pair.target)) added r.target;
    room = room_still sh add h0 h1 added r.room;
    loose = ap (λ (x : Body). is_loose x.phase) same_source ∙ r.loose;
    open' = ap (λ (x : Body). is_loose x.phase) same_target ∙ r.open';
    inside = subst (λ (x : Body). slot_of pair.source < length x.slots) (sym same_source) r.inside;
    row = ap (λ (x : Body). is_some (slot_in x (slot_of pair.source)).row) same_source ∙ r.row;
    quiet = ap (λ (x : Body). has_none (slot_in x (slot_of pair.source)).entries) same_source ∙ r.quiet;
    slot = subst (λ (x : Body). slot_of pair.target < length x.slots) (sym same_target) r.slot;
    bare' = ap (λ (x : Body). is_bare (slot_in x (slot_of pair.target))) same_target ∙ r.bare';
    fits = λ row is. subst (λ (x : Body). Fits x.columns row) (sym same_target) (r.fits row (sym (ap (λ (x : Body). (slot_in x (slot_of pair.source)).row) same_source) ∙ is));
    apart = r.apart;
  }

  -- a candidate for the target, and then the row's move, are the pair's move
  pub pair_ends : (h2 : Held) (stamp : ℕ) → h2 ≡ after sh (rows_moved t stamp pair (row_in sh h1 t pair)) h1 → h2 ≡ after sh (pair_moved t stamp pair (row_in sh h0 t pair)) h0
  pair_ends h2 stamp is =
      is
      ∙ ap (λ (x : Body). after sh (rows_moved t stamp pair (unwrap_or (slot_in x (slot_of pair.source)).row [])) h1) same_source
      ∙ ap (after sh (rows_moved t stamp pair (row_in sh h0 t pair))) added
      ∙ after_twice sh add (rows_moved t stamp pair (row_in sh h0 t pair)) (pair_moved t stamp pair (row_in sh h0 t pair)) h0
      (record { head = λ u x. refl; shard = λ u i x. refl; body = λ u b x. refl; desk = λ x. refl })

  module _ (holds : ShardHolds (shard_of pair.key) (shard_in sh h0 t (shard_of pair.key))) (new : list_any (λ other. other == pair.target) (candidates_of (shard_in sh h0 t (shard_of pair.key)) pair.key) ≡ false) where
    dropped : (x : Places) → in_hand sh h0 (ShardOf t (shard_of pair.key)) ≡ Some (part.Shard x) → without_place pair.key pair.target (with_place pair.key pair.target x) ≡ x
    dropped x at =
        let same : shard_in sh h0 t (shard_of pair.key) ≡ x = ap shard_from at in
        added_is_dropped (shard_of pair.key) x pair.key pair.target (subst (ShardHolds (shard_of pair.key)) same holds) refl
        (subst (λ (x : Places). list_any (λ other. other == pair.target) (candidates_of x pair.key) ≡ false) same new)

    -- where the row fails to move and the candidate is taken out, the hand is nearly as before
    pub pair_fails : (h2 h3 : Held) → IsNearly sh t (block_of pair.source) h1 h2 → h3 ≡ after sh (shard_changed t (shard_of pair.key) (without_place pair.key pair.target)) h2
        → IsNearly sh t (block_of pair.source) h0 h3
    pair_fails h2 h3 (inl same) drop = inl (drop ∙ ap (after sh (shard_changed t (shard_of pair.key) (without_place pair.key pair.target))) (same ∙ added)
        ∙ shards_back sh h0 t (shard_of pair.key) (with_place pair.key pair.target) (without_place pair.key pair.target) nothing (λ u j x. refl) dropped
        ∙ after_nothing sh h0)
    pair_fails h2 h3 (inr near) drop = inr (drop ∙ ap (after sh (shard_changed t (shard_of pair.key) (without_place pair.key pair.target)))
        (near ∙ ap (after sh (body_changed t (block_of pair.source) cooled)) added
        ∙ after_twice sh add (body_changed t (block_of pair.source) cooled)
        (record (body_changed t (block_of pair.source) cooled) { shard = λ u j x. cond ((u == t) && (j == shard_of pair.key)) (with_place pair.key pair.target x) x }) h0
        (record { head = λ u x. refl; shard = λ u i x. refl; body = λ u b x. refl; desk = λ x. refl }))
        ∙ shards_back sh h0 t (shard_of pair.key) (with_place pair.key pair.target) (without_place pair.key pair.target) (body_changed t (block_of pair.source) cooled) (λ u j x. refl) dropped)

-- ---- a pair taken back

module _ (sh : Shape) (h0 h1 : Held) (t : ℕ) (pair : MovePair) (source : Has sh h0 (BodyOf t (block_of pair.source))) (apart : pair.source ≢ pair.target)
    (one : h1 ≡ after sh (body_changed t (block_of pair.target) (taken_back_in (slot_of pair.target))) h0) where
  -- the source's entry is still there after the target was taken back
  pub entry_still : has_none (slot_in (body_in sh h0 t (block_of pair.source)) (slot_of pair.source)).entries ≡ false → has_none (slot_in (body_in sh h1 t (block_of pair.source)) (slot_of pair.source)).entries ≡ false
  entry_still some =
      ap (λ (x : Body). has_none (slot_in x (slot_of pair.source)).entries)
      (ap (λ h. body_in sh h t (block_of pair.source)) one ∙ body_in_after sh (body_changed t (block_of pair.target) (taken_back_in (slot_of pair.target))) h0 t (block_of pair.source) source)
      ∙ go ((t == t) && (block_of pair.source == block_of pair.target)) refl
      ∙ some
    where
      go : (c : Bool) → ((t == t) && (block_of pair.source == block_of pair.target)) ≡ c
          → has_none (slot_in (cond ((t == t) && (block_of pair.source == block_of pair.target)) (taken_back_in (slot_of pair.target) (body_in sh h0 t (block_of pair.source))) (body_in sh h0 t (block_of pair.source))) (slot_of pair.source)).entries
          ≡ has_none (slot_in (body_in sh h0 t (block_of pair.source)) (slot_of pair.source)).entries
      go true e =
          ap (λ c. has_none (slot_in (cond c (taken_back_in (slot_of pair.target) (body_in sh h0 t (block_of pair.source))) (body_in sh h0 t (block_of pair.source))) (slot_of pair.source)).entries) e
          ∙ ap (λ (x : Slot). has_none x.entries) (with_slot_else (slot_of pair.target) (slot_of pair.source) taken_back (body_in sh h0 t (block_of pair.source))
          (λ same. apart (same_place pair.source pair.target (num (block_of pair.source) (block_of pair.target) (and_parts (t == t) (block_of pair.source == block_of pair.target) e).1) same)))
      go false e = ap (λ c. has_none (slot_in (cond c (taken_back_in (slot_of pair.target) (body_in sh h0 t (block_of pair.source))) (body_in sh h0 t (block_of pair.source))) (slot_of pair.source)).entries) e

  -- what takes back target, source and candidate, one after another, takes back the pair
  pub undone_by : (h2 h3 : Held) → h2 ≡ after sh (body_changed t (block_of pair.source) (taken_back_in (slot_of pair.source))) h1
      → h3 ≡ after sh (shard_changed t (shard_of pair.key) (without_place pair.key pair.target)) h2 → h3 ≡ after sh (pair_undone t pair) h0
  undone_by h2 h3 two three =
      three ∙ ap (after sh (shard_changed t (shard_of pair.key) (without_place pair.key pair.target)))
      (two ∙ ap (after sh (body_changed t (block_of pair.source) (taken_back_in (slot_of pair.source)))) one
      ∙ after_twice sh (body_changed t (block_of pair.target) (taken_back_in (slot_of pair.target))) (body_changed t (block_of pair.source) (taken_back_in (slot_of pair.source))) rows h0
      (record { head = λ u x. refl; shard = λ u i x. refl; body = λ u b x. refl; desk = λ x. refl }))
      ∙ after_twice sh rows (shard_changed t (shard_of pair.key) (without_place pair.key pair.target)) (pair_undone t pair) h0
      (record { head = λ u x. refl; shard = λ u i x. refl; body = λ u b x. refl; desk = λ x. refl })
    where
      rows : Changes
      rows = record (pair_undone t pair) { shard = λ u i x. x }

-- ---- nearly the same hand

-- a hand that is nearly as before has the parts that it had
pub nearly_has : (sh : Shape) (t b : ℕ) (old new : Held) → IsNearly sh t b old new → (w : Name) → Has sh old w → Has sh new w
nearly_has sh t b old new (inl e) w has = subst (λ h. Has sh h w) (sym e) has
nearly_has sh t b old new (inr e) w has = has_still sh (body_changed t b cooled) old new w e has

-- and a place for each part
pub nearly_room : (sh : Shape) (t b : ℕ) (old new : Held) → IsNearly sh t b old new → length old ≡ length (names sh) → length new ≡ length (names sh)
nearly_room sh t b old new (inl e) room = ap length e ∙ room
nearly_room sh t b old new (inr e) room = room_still sh (body_changed t b cooled) old new e room
