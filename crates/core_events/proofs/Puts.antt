-- A candidate added and taken back, and the parts that stay meanwhile.
use Rattle.std.proofs.Common.{◌≡◌, ℕ, ℤ, Bool, true, false, cond, not, ◌&&◌, ◌==◌, Option, None, Some, option_map, is_some, Result, Ok, Err, length, refl, sym, ap, ◌∙◌, subst}
use Rattle.std.specs.List.{list_any}
use Rattle.std.specs.Prelude.{OnOk}
use Rattle.block_layout.specs.Place.{block_of, slot_of}
use Rattle.block_spec.specs.Bodies.{Body, with_slot}
use Rattle.block_spec.specs.declared.change.Change.{Change}
use Rattle.block_spec.specs.declared.change.Change.TheVariants as change
use Rattle.block_spec.specs.Slots.{Row, written}
use Rattle.core_parts.proofs.Changing.{after_nothing, after_twice, in_after, laid_back_changed, length-after, put_back, shard_only}
use Rattle.core_parts.proofs.Telling.{a_shard}
use Rattle.core_parts.specs.Hands.{Has, Held, after, in_hand, laid}
use Rattle.event_spec.specs.declared.own.OwnKey.{OwnKey}
use Rattle.event_spec.specs.declared.part.Head.{Head}
use Rattle.event_spec.specs.declared.part.Part.TheVariants as part
use Rattle.event_spec.specs.Effects.{at_both, at_table, taken_by, with_place}
use Rattle.event_spec.specs.Parts.{Changes, CorePart, HeadOf, ShardOf, BodyOf, Shape, body_from, changed, names, nothing, shard_from, shard_of, slots_of}
use Rattle.event_spec.specs.Sound.{IsOfKind}
use Rattle.core_laws.specs.Frames.Shards.{ShardHolds}
use Rattle.core_events.specs.Puts.{put_changes, row_changes}
use Rattle.key_index.specs.Candidates.{Places, candidates_of}
use Rattle.core_parts.specs.Laws.{AddedIsDropped}
use Rattle.core_parts.specs.Shards.{without_place}
use Rattle.core_events.specs.Writes.{TakesAt, TakesChange, of_body, of_head, of_shard}

-- a hand has a place for each part still, after a change
pub still_room : (sh : Shape) (c : Changes) (hand new : Held) → length hand ≡ length (names sh) → new ≡ after sh c hand → length new ≡ length (names sh)
still_room sh c hand new room is = ap length is ∙ length-after c (names sh) hand ∙ room

-- a change that leaves a shard as it is leaves the hand
pub shard_same : (sh : Shape) (hand : Held) (t i : ℕ) (g : Places → Places) → Has sh hand (ShardOf t i) → g (shard_from (in_hand sh hand (ShardOf t i))) ≡ shard_from (in_hand sh hand (ShardOf t i))
    → after sh (of_shard t i g) hand ≡ hand
shard_same sh hand t i g has same =
    let x = a_shard sh hand t i has in
    let out = laid sh (ShardOf t i) None hand in
    let here : g x.0 ≡ x.0 = ap (λ o. g (shard_from o)) (sym x.1) ∙ same ∙ ap shard_from x.1 in
    sym (laid_back_changed sh (of_shard t i g) hand out (laid sh (ShardOf t i) (Some (part.Shard x.0)) out) (ShardOf t i) (part.Shard x.0) (part.Shard (g x.0)) (shard_only t i g x.0) x.1 refl
    (ap (λ z. laid sh (ShardOf t i) (Some (part.Shard z)) out) (sym here)))
    ∙ put_back sh hand out (laid sh (ShardOf t i) (Some (part.Shard x.0)) out) (ShardOf t i) (part.Shard x.0) x.1 refl refl

-- One change after another, made at one place together, is each made there in turn.
twice_both : {X : Type 0} (t i : ℕ) (f g : X → X) (u j : ℕ) (x : X) → at_both t i (λ x. g (f x)) u j x ≡ at_both t i g u j (at_both t i f u j x)
twice_both t i f g u j x = go ((u == t) && (j == i))
  where
    go : (b : Bool) → cond b (g (f x)) x ≡ cond b (g (cond b (f x) x)) (cond b (f x) x)
    go true = refl
    go false = refl

-- a candidate that was added and is dropped again
pub taken_back : (sh : Shape) (hand one two : Held) (t : ℕ) (key : ℤ) (place : ℕ) → AddedIsDropped → Has sh hand (ShardOf t (shard_of key)) → ShardHolds (shard_of key) (shard_from (in_hand sh hand (ShardOf t (shard_of key))))
    → list_any (λ other. other == place) (candidates_of (shard_from (in_hand sh hand (ShardOf t (shard_of key)))) key) ≡ false
    → one ≡ after sh (of_shard t (shard_of key) (with_place key place)) hand → two ≡ after sh (of_shard t (shard_of key) (without_place key place)) one → two ≡ hand
taken_back sh hand one two t key place law has order new is back =
    back ∙ ap (after sh (of_shard t (shard_of key) (without_place key place))) is
    ∙ after_twice sh (of_shard t (shard_of key) (with_place key place)) (of_shard t (shard_of key) (without_place key place))
    (of_shard t (shard_of key) (λ ix. without_place key place (with_place key place ix))) hand
    (record { head = λ u x. refl; shard = λ u j x. twice_both t (shard_of key) (with_place key place) (without_place key place) u j x; body = λ u b x. refl; desk = λ x. refl })
    ∙ shard_same sh hand t (shard_of key) (λ ix. without_place key place (with_place key place ix)) has
    (law (shard_of key) (shard_from (in_hand sh hand (ShardOf t (shard_of key)))) key place order refl new)

-- one that was there already is not added
pub was_there : (sh : Shape) (hand one : Held) (t : ℕ) (key : ℤ) (place : ℕ) → Has sh hand (ShardOf t (shard_of key))
    → list_any (λ other. other == place) (candidates_of (shard_from (in_hand sh hand (ShardOf t (shard_of key)))) key) ≡ true
    → one ≡ after sh (of_shard t (shard_of key) (with_place key place)) hand → one ≡ hand
was_there sh hand one t key place has there is =
    is ∙ shard_same sh hand t (shard_of key) (with_place key place) has (skip (list_any (λ other. other == place) (candidates_of (shard_from (in_hand sh hand (ShardOf t (shard_of key)))) key)) _ _ there)
  where
    skip : (b : Bool) (x y : Places) → b ≡ true → cond b x y ≡ x
    skip true x y e = refl
    skip false x y e = cc

-- what is not, where its negation is
pub not_true : (b : Bool) → true ≡ not b → b ≡ false
not_true true e = cc
not_true false e = refl

-- what is, where its negation is not
pub not_false : (b : Bool) → false ≡ not b → b ≡ true
not_false true e = refl
not_false false e = cc

-- ---- parts that stay

-- A body that the changes leave as it is stays the same part.
body_same : (c : Changes) (t b : ℕ) (o : Option CorePart) → ((x : Body) → c.body t b x ≡ x) → IsOfKind (BodyOf t b) o → option_map (changed c (BodyOf t b)) o ≡ o
body_same c t b None same k = absurd k
body_same c t b (Some (part.Head x)) same k = absurd k
body_same c t b (Some (part.Shard x)) same k = absurd k
body_same c t b (Some (part.Body x)) same k = ap (λ y. Some (part.Body y)) (same x)
body_same c t b (Some (part.Desk x)) same k = absurd k

-- A head that the changes leave as it is stays the same part.
head_same : (c : Changes) (t : ℕ) (o : Option CorePart) → ((x : Head) → c.head t x ≡ x) → IsOfKind (HeadOf t) o → option_map (changed c (HeadOf t)) o ≡ o
head_same c t None same k = absurd k
head_same c t (Some (part.Head x)) same k = ap (λ y. Some (part.Head y)) (same x)
head_same c t (Some (part.Shard x)) same k = absurd k
head_same c t (Some (part.Body x)) same k = absurd k
head_same c t (Some (part.Desk x)) same k = absurd k

-- a body takes a change after a candidate was added
pub still_takes : (sh : Shape) (hand one : Held) (t i p q : ℕ) (g : Places → Places) (new : Change) → one ≡ after sh (of_shard t i g) hand → TakesAt sh hand t p q new → TakesAt sh one t p q new
still_takes sh hand one t i p q g new is takes =
    let same : in_hand sh one (BodyOf t (block_of p)) ≡ in_hand sh hand (BodyOf t (block_of p)) =
    ap (λ h. in_hand sh h (BodyOf t (block_of p))) is ∙ in_after sh (of_shard t i g) hand (BodyOf t (block_of p)) ∙ body_same (of_shard t i g) t (block_of p) (in_hand sh hand (BodyOf t (block_of p))) (λ x. refl) takes.body in record {
      body = subst (IsOfKind (BodyOf t (block_of p))) (sym same) takes.body;
      takes = subst (λ o. TakesChange (body_from o) (slot_of p) q new) (sym same) takes.takes;
    }

-- the head stays while the row is put
pub still_head : (sh : Shape) (hand one : Held) (q t : ℕ) (key : ℤ) (p : ℕ) (row : Row) → one ≡ after sh (row_changes q t key p row) hand → Has sh hand (HeadOf t) → in_hand sh one (HeadOf t) ≡ in_hand sh hand (HeadOf t)
still_head sh hand one q t key p row is has =
    ap (λ h. in_hand sh h (HeadOf t)) is ∙ in_after sh (row_changes q t key p row) hand (HeadOf t) ∙ head_same (row_changes q t key p row) t (in_hand sh hand (HeadOf t)) (λ x. refl) has

-- the row and its candidate
pub row_put : (sh : Shape) (hand one two : Held) (q t : ℕ) (key : ℤ) (p : ℕ) (row : Row) → one ≡ after sh (of_shard t (shard_of key) (with_place key p)) hand
    → two ≡ after sh (of_body t (block_of p) (with_slot (slot_of p) (written q (change.Put row)))) one → two ≡ after sh (row_changes q t key p row) hand
row_put sh hand one two q t key p row is back =
    back ∙ ap (after sh (of_body t (block_of p) (with_slot (slot_of p) (written q (change.Put row))))) is
    ∙ after_twice sh (of_shard t (shard_of key) (with_place key p)) (of_body t (block_of p) (with_slot (slot_of p) (written q (change.Put row)))) (row_changes q t key p row) hand
    (record { head = λ u x. refl; shard = λ u j x. refl; body = λ u b x. refl; desk = λ x. refl })

-- and the head's slot
pub slot_taken : (sh : Shape) (hand one two : Held) (own : OwnKey) (t : ℕ) (key : ℤ) (p : ℕ) (row : Row) → own.written ≡ None → one ≡ after sh (row_changes own.session t key p row) hand
    → two ≡ after sh (of_head t (taken_by (slots_of sh t))) one → two ≡ after sh (put_changes sh own t key p row) hand
slot_taken sh hand one two own t key p row none is back =
    back ∙ ap (after sh (of_head t (taken_by (slots_of sh t)))) is
    ∙ after_twice sh (row_changes own.session t key p row) (of_head t (taken_by (slots_of sh t))) (put_changes sh own t key p row) hand
    (record { head = λ u x. ap (λ w. at_table t (cond (is_some w) (λ h. h) (taken_by (slots_of sh t))) u x) none; shard = λ u j x. refl; body = λ u b x. refl; desk = λ x. refl })

-- where the session wrote the key before, a put leaves the slot that the head gives
pub slot_kept : (sh : Shape) (hand one : Held) (own : OwnKey) (t : ℕ) (key : ℤ) (p : ℕ) (row : Row) → is_some own.written ≡ true → one ≡ after sh (row_changes own.session t key p row) hand
    → one ≡ after sh (put_changes sh own t key p row) hand
slot_kept sh hand one own t key p row some is =
    is ∙ sym (after_nothing sh (after sh (row_changes own.session t key p row) hand))
    ∙ after_twice sh (row_changes own.session t key p row) nothing (put_changes sh own t key p row) hand
    (record { head = λ u x. ap (λ b. at_table t (cond b (λ h. h) (taken_by (slots_of sh t))) u x) some ∙ both (u == t) x; shard = λ u j x. refl; body = λ u b x. refl; desk = λ x. refl })
  where
    both : (b : Bool) (x : Head) → cond b x x ≡ x
    both true x = refl
    both false x = refl

-- a shard that was in the hand is there still, when it has changed
pub still_shard : (sh : Shape) (hand one : Held) (t i : ℕ) (g : Places → Places) → one ≡ after sh (of_shard t i g) hand → Has sh hand (ShardOf t i) → Has sh one (ShardOf t i)
still_shard sh hand one t i g is has =
    let x = a_shard sh hand t i has in
    subst (IsOfKind (ShardOf t i)) (sym (ap (λ h. in_hand sh h (ShardOf t i)) is ∙ in_after sh (of_shard t i g) hand (ShardOf t i) ∙ ap (option_map (changed (of_shard t i g) (ShardOf t i))) x.1)) tt

-- what holds where there is an answer is weakened
pub on_ok : {A E : Type 0} (r : Result A E) (P Q : Type 0) → OnOk r P → (P → Q) → OnOk r Q
on_ok (Ok a) P Q is then = then is
on_ok (Err e) P Q is then = tt

-- where nothing is tested to be there, there is nothing
pub none_by : (o : Option ℕ) → is_some o ≡ false → o ≡ None
none_by None e = refl
none_by (Some x) e = cc
