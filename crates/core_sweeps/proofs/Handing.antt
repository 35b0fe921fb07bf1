-- One part of a hand after another.
use Rattle.std.proofs.Common.{◌≡◌, ℕ, suc, ℤ, Bool, true, false, cond, ◌&&◌, ◌==◌, List, [], ◌∷◌, Option, None, Some, option_map, length, refl, sym, ap, ◌∙◌, subst}
use Rattle.std.specs.Prelude.{slice_get}
use Rattle.block_layout.specs.Place.{block_of, slot_of}
use Rattle.block_spec.specs.Bodies.{Body, is_empty, rolled_back_in, slot_in}
use Rattle.block_spec.specs.Slots.{is_bare}
use Rattle.core_parts.proofs.Changing.{after_twice, body_only, head_only, in_after, laid_back_changed, left_alone, length-after, shard_only}
use Rattle.core_parts.proofs.Placing.{length-laid}
use Rattle.core_parts.proofs.Telling.{a_body}
use Rattle.core_parts.specs.Hands.{Has, Held, after, hand_changed, in_hand, laid, place_changed}
use Rattle.core_sweeps.specs.SweepSteps.{body_changed, body_in, head_changed, shard_changed, undone, with_gain, without_bare}
use Rattle.core_laws.proofs.Events.ByKind.{rests_at}
use Rattle.core_laws.proofs.Events.Slots.{num_refl}
use Rattle.event_spec.specs.Lawful.{Among}
use Rattle.event_spec.specs.declared.part.Head.{Head}
use Rattle.event_spec.specs.declared.part.Part.TheVariants as part
use Rattle.event_spec.specs.Parts.{Changes, CorePart, Shape, Name, HeadOf, ShardOf, BodyOf, TheDesk, body_from, changed, names, shard_of}
use Rattle.event_spec.specs.Sound.{IsOfKind}
use Rattle.key_index.specs.Candidates.{Places}
use Rattle.core_parts.specs.Shards.{without_place}

-- ---- one change after another, of the parts that are there

-- two changes one after the other are a third where they are for each part in the hand
pub after_then : (c d e : Changes) (ns : List Name) (hand : Held)
    → ((k : ℕ) (n : Name) (x : CorePart) → slice_get ns k ≡ Some n → slice_get hand k ≡ Some (Some x) → changed d n (changed c n x) ≡ changed e n x)
    → hand_changed d ns (hand_changed c ns hand) ≡ hand_changed e ns hand
after_then c d e [] hand same = refl
after_then c d e (n ∷ ns) [] same = refl
after_then c d e (n ∷ ns) (o ∷ hand) same =
    ap (λ p. p ∷ hand_changed d ns (hand_changed c ns hand)) (place o (λ x is. same 0 n x refl (ap Some is)))
    ∙ ap (λ h. place_changed e n o ∷ h) (after_then c d e ns hand (λ k. same (suc k)))
  where
    place : (o : Option CorePart) → ((x : CorePart) → o ≡ Some x → changed d n (changed c n x) ≡ changed e n x) → place_changed d n (place_changed c n o) ≡ place_changed e n o
    place None at = refl
    place (Some x) at = ap Some (at x refl)

-- a change that leaves each part in the hand leaves the hand
pub first_same : (c : Changes) (ns : List Name) (hand : Held)
    → ((k : ℕ) (n : Name) (x : CorePart) → slice_get ns k ≡ Some n → slice_get hand k ≡ Some (Some x) → changed c n x ≡ x) → hand_changed c ns hand ≡ hand
first_same c [] hand same = refl
first_same c (n ∷ ns) [] same = refl
first_same c (n ∷ ns) (o ∷ hand) same = ap (λ p. p ∷ hand_changed c ns hand) (place o (λ x is. same 0 n x refl (ap Some is))) ∙ ap (λ h. o ∷ h) (first_same c ns hand (λ k. same (suc k)))
  where
    place : (o : Option CorePart) → ((x : CorePart) → o ≡ Some x → changed c n x ≡ x) → place_changed c n o ≡ o
    place None at = refl
    place (Some x) at = ap Some (at x refl)

-- ---- what stays

-- a part in the hand is in it after changes
pub has_after : (sh : Shape) (c : Changes) (hand : Held) (w : Name) → Has sh hand w → Has sh (after sh c hand) w
has_after sh c hand w has = subst (IsOfKind w) (sym (in_after sh c hand w)) (go w (in_hand sh hand w) has)
  where
    go : (w : Name) (o : Option CorePart) → IsOfKind w o → IsOfKind w (option_map (changed c w) o)
    go (HeadOf t) None k = absurd k
    go (HeadOf t) (Some (part.Head x)) k = tt
    go (HeadOf t) (Some (part.Shard x)) k = absurd k
    go (HeadOf t) (Some (part.Body x)) k = absurd k
    go (HeadOf t) (Some (part.Desk x)) k = absurd k
    go (ShardOf t i) None k = absurd k
    go (ShardOf t i) (Some (part.Head x)) k = absurd k
    go (ShardOf t i) (Some (part.Shard x)) k = tt
    go (ShardOf t i) (Some (part.Body x)) k = absurd k
    go (ShardOf t i) (Some (part.Desk x)) k = absurd k
    go (BodyOf t b) None k = absurd k
    go (BodyOf t b) (Some (part.Head x)) k = absurd k
    go (BodyOf t b) (Some (part.Shard x)) k = absurd k
    go (BodyOf t b) (Some (part.Body x)) k = tt
    go (BodyOf t b) (Some (part.Desk x)) k = absurd k
    go TheDesk None k = absurd k
    go TheDesk (Some (part.Head x)) k = absurd k
    go TheDesk (Some (part.Shard x)) k = absurd k
    go TheDesk (Some (part.Body x)) k = absurd k
    go TheDesk (Some (part.Desk x)) k = tt

-- the same, of a hand that is told to be one after changes
pub has_still : (sh : Shape) (c : Changes) (hand new : Held) (w : Name) → new ≡ after sh c hand → Has sh hand w → Has sh new w
has_still sh c hand new w is has = subst (λ h. Has sh h w) (sym is) (has_after sh c hand w has)

-- changes keep a place for each part
pub room_still : (sh : Shape) (c : Changes) (hand new : Held) → new ≡ after sh c hand → length hand ≡ length (names sh) → length new ≡ length (names sh)
room_still sh c hand new is room = ap length is ∙ length-after c (names sh) hand ∙ room

-- so does taking one out
pub room_taken : (sh : Shape) (hand taken : Held) (w : Name) (o : Option CorePart) → taken ≡ laid sh w o hand → length hand ≡ length (names sh) → length taken ≡ length (names sh)
room_taken sh hand taken w o is room = ap length is ∙ length-laid (names sh) hand w o ∙ room

-- ---- one part that is changed

-- a head that is taken out and laid back changed is that change of the hand
pub head_back : (sh : Shape) (t : ℕ) (g : Head → Head) (hand taken new : Held) (x y : Head) → in_hand sh hand (HeadOf t) ≡ Some (part.Head x) → taken ≡ laid sh (HeadOf t) None hand → y ≡ g x
    → new ≡ laid sh (HeadOf t) (Some (part.Head y)) taken → new ≡ after sh (head_changed t g) hand
head_back sh t g hand taken new x y is out made back =
    laid_back_changed sh (head_changed t g) hand taken new (HeadOf t) (part.Head x) (part.Head (g x)) (head_only t g x) is out (back ∙ ap (λ y. laid sh (HeadOf t) (Some (part.Head y)) taken) made)

-- so is a shard
pub shard_back : (sh : Shape) (t i : ℕ) (g : Places → Places) (hand taken new : Held) (x y : Places) → in_hand sh hand (ShardOf t i) ≡ Some (part.Shard x) → taken ≡ laid sh (ShardOf t i) None hand → y ≡ g x
    → new ≡ laid sh (ShardOf t i) (Some (part.Shard y)) taken → new ≡ after sh (shard_changed t i g) hand
shard_back sh t i g hand taken new x y is out made back =
    laid_back_changed sh (shard_changed t i g) hand taken new (ShardOf t i) (part.Shard x) (part.Shard (g x)) (shard_only t i g x) is out (back ∙ ap (λ y. laid sh (ShardOf t i) (Some (part.Shard y)) taken) made)

-- and a body
pub body_back : (sh : Shape) (t b : ℕ) (g : Body → Body) (hand taken new : Held) (x y : Body) → in_hand sh hand (BodyOf t b) ≡ Some (part.Body x) → taken ≡ laid sh (BodyOf t b) None hand → y ≡ g x
    → new ≡ laid sh (BodyOf t b) (Some (part.Body y)) taken → new ≡ after sh (body_changed t b g) hand
body_back sh t b g hand taken new x y is out made back =
    laid_back_changed sh (body_changed t b g) hand taken new (BodyOf t b) (part.Body x) (part.Body (g x)) (body_only t b g x) is out (back ∙ ap (λ y. laid sh (BodyOf t b) (Some (part.Body y)) taken) made)

-- a change in one case alone, which changes nothing there
pub same_either : {X : Type 0} (b : Bool) (x : X) → cond b x x ≡ x
same_either true x = refl
same_either false x = refl

-- changes of a head or a shard that do nothing
head_alone : (sh : Shape) (t : ℕ) (hand : Held) → after sh (head_changed t (λ x. x)) hand ≡ hand
head_alone sh t hand = left_alone (head_changed t (λ x. x)) (names sh) hand (rests_at (λ n x. Among n (names sh)) (head_changed t (λ x. x))
    (record { head = λ u x a. same_either (u == t) x; shard = λ u i x a. refl; body = λ u b x a. refl; desk = λ x a. refl }))

-- The change of a shard into itself leaves the hand.
shard_alone : (sh : Shape) (t i : ℕ) (hand : Held) → after sh (shard_changed t i (λ x. x)) hand ≡ hand
shard_alone sh t i hand = left_alone (shard_changed t i (λ x. x)) (names sh) hand (rests_at (λ n x. Among n (names sh)) (shard_changed t i (λ x. x))
    (record { head = λ u x a. refl; shard = λ u j x a. same_either ((u == t) && (j == i)) x; body = λ u b x a. refl; desk = λ x a. refl }))

-- where the block is not empty the head learns nothing
pub told_not : (sh : Shape) (t block : ℕ) (empty : Bool) (hand : Held) → empty ≡ false → hand ≡ after sh (head_changed t (with_gain empty block)) hand
told_not sh t block empty hand is = sym (ap (λ e. after sh (head_changed t (with_gain e block)) hand) is ∙ head_alone sh t hand)

-- where the slot is left bare the shard loses its candidate
pub lost_if : (sh : Shape) (t i : ℕ) (key : ℤ) (p : ℕ) (left : Bool) (hand new : Held) → left ≡ true → new ≡ after sh (shard_changed t i (without_place key p)) hand
    → new ≡ after sh (shard_changed t i (without_bare left key p)) hand
lost_if sh t i key p left hand new is made = made ∙ ap (λ e. after sh (shard_changed t i (without_bare e key p)) hand) (sym is)

-- and where it is not the shard stays
pub lost_not : (sh : Shape) (t i : ℕ) (key : ℤ) (p : ℕ) (left : Bool) (hand : Held) → left ≡ false → hand ≡ after sh (shard_changed t i (without_bare left key p)) hand
lost_not sh t i key p left hand is = sym (ap (λ e. after sh (shard_changed t i (without_bare e key p)) hand) is ∙ shard_alone sh t i hand)

-- ---- the body of a hand

-- a body that is found in the hand is the hand's
pub body_is_in : (sh : Shape) (hand : Held) (t b : ℕ) (x : Body) → in_hand sh hand (BodyOf t b) ≡ Some (part.Body x) → body_in sh hand t b ≡ x
body_is_in sh hand t b x is = ap body_from is

-- the hand's body after changes is the body changed
pub body_in_after : (sh : Shape) (c : Changes) (hand : Held) (t b : ℕ) → Has sh hand (BodyOf t b) → body_in sh (after sh c hand) t b ≡ c.body t b (body_in sh hand t b)
body_in_after sh c hand t b has =
    let x = a_body sh hand t b has in
    ap body_from (in_after sh c hand (BodyOf t b) ∙ ap (option_map (changed c (BodyOf t b))) x.1) ∙ ap (λ o. c.body t b (body_from o)) (sym x.1)

-- Two numbers are tested to be themselves.
both_refl : (a b : ℕ) → ((a == a) && (b == b)) ≡ true
both_refl a b = ap (λ x. x && (b == b)) (num_refl a) ∙ num_refl b

-- so it is after its own change
pub body_in_changed : (sh : Shape) (hand new : Held) (t b : ℕ) (g : Body → Body) → Has sh hand (BodyOf t b) → new ≡ after sh (body_changed t b g) hand → body_in sh new t b ≡ g (body_in sh hand t b)
body_in_changed sh hand new t b g has is =
    ap (λ h. body_in sh h t b) is ∙ body_in_after sh (body_changed t b g) hand t b has ∙ ap (λ c. cond c (g (body_in sh hand t b)) (body_in sh hand t b)) (both_refl t b)

-- a change of a shard leaves the bodies
pub body_in_else : (sh : Shape) (hand new : Held) (t b u i : ℕ) (g : Places → Places) → Has sh hand (BodyOf t b) → new ≡ after sh (shard_changed u i g) hand → body_in sh new t b ≡ body_in sh hand t b
body_in_else sh hand new t b u i g has is = ap (λ h. body_in sh h t b) is ∙ body_in_after sh (shard_changed u i g) hand t b has

-- what a body in a hand tells of a slot
pub bare_told : (sh : Shape) (hand : Held) (t b block j slot : ℕ) (x : Body) (r : Bool) → in_hand sh hand (BodyOf t b) ≡ Some (part.Body x) → b ≡ block → j ≡ slot → r ≡ is_bare (slot_in x j)
    → is_bare (slot_in (body_in sh hand t block) slot) ≡ r
bare_told sh hand t b block j slot x r is here there told =
    sym (ap (λ b. is_bare (slot_in (body_in sh hand t b) slot)) here) ∙ ap (λ (y : Body). is_bare (slot_in y slot)) (body_is_in sh hand t b x is) ∙ sym (ap (λ j. is_bare (slot_in x j)) there) ∙ sym told

-- a candidate that is dropped, where the shard's number and the key are told otherwise
pub candidate_back : (sh : Shape) (t i : ℕ) (key k : ℤ) (p : ℕ) (hand taken new : Held) (x z y : Places) → k ≡ key → i ≡ shard_of k
    → in_hand sh hand (ShardOf t i) ≡ Some (part.Shard x) → taken ≡ laid sh (ShardOf t i) None hand → z ≡ x → y ≡ without_place k p z
    → new ≡ laid sh (ShardOf t i) (Some (part.Shard y)) taken → new ≡ after sh (shard_changed t (shard_of key) (without_place key p)) hand
candidate_back sh t i key k p hand taken new x z y same mine is out lent made back =
    shard_back sh t i (without_place k p) hand taken new x y is out (made ∙ ap (without_place k p) lent) back
    ∙ ap (λ i. after sh (shard_changed t i (without_place k p)) hand) mine
    ∙ ap (λ k. after sh (shard_changed t (shard_of k) (without_place k p)) hand) same

-- ---- one write undone

-- rolling back the body, then telling the shard and the head, undoes one write
pub undone_by : (sh : Shape) (t : ℕ) (key : ℤ) (p q : ℕ) (h0 h1 h2 h3 : Held) → Has sh h0 (BodyOf t (block_of p))
    → h1 ≡ after sh (body_changed t (block_of p) (rolled_back_in q)) h0
    → h2 ≡ after sh (shard_changed t (shard_of key) (without_bare (is_bare (slot_in (body_in sh h1 t (block_of p)) (slot_of p))) key p)) h1
    → h3 ≡ after sh (head_changed t (with_gain (is_empty (body_in sh h2 t (block_of p))) (block_of p))) h2
    → h3 ≡ after sh (undone t key p q (rolled_back_in q (body_in sh h0 t (block_of p)))) h0
undone_by sh t key p q h0 h1 h2 h3 has one two three =
    three
    ∙ ap (λ (x : Body). after sh (head_changed t (with_gain (is_empty x) (block_of p))) h2) (same2 ∙ same1)
    ∙ ap (after sh (head_changed t (with_gain (is_empty (rolled_back_in q (body_in sh h0 t (block_of p)))) (block_of p))))
    (two ∙ ap (λ (x : Body). after sh (shard_changed t (shard_of key) (without_bare (is_bare (slot_in x (slot_of p))) key p)) h1) same1
    ∙ ap (after sh (shard_changed t (shard_of key) (without_bare (is_bare (slot_in (rolled_back_in q (body_in sh h0 t (block_of p))) (slot_of p))) key p))) one
    ∙ after_twice sh (body_changed t (block_of p) (rolled_back_in q)) (shard_changed t (shard_of key) (without_bare (is_bare (slot_in (rolled_back_in q (body_in sh h0 t (block_of p))) (slot_of p))) key p)) half h0
    (record { head = λ u x. refl; shard = λ u i x. refl; body = λ u b x. refl; desk = λ x. refl }))
    ∙ after_twice sh half (head_changed t (with_gain (is_empty (rolled_back_in q (body_in sh h0 t (block_of p)))) (block_of p))) (undone t key p q (rolled_back_in q (body_in sh h0 t (block_of p)))) h0
    (record { head = λ u x. refl; shard = λ u i x. refl; body = λ u b x. refl; desk = λ x. refl })
  where
    half : Changes
    half = record (undone t key p q (rolled_back_in q (body_in sh h0 t (block_of p)))) { head = λ u x. x }

    same1 : body_in sh h1 t (block_of p) ≡ rolled_back_in q (body_in sh h0 t (block_of p))
    same1 = body_in_changed sh h0 h1 t (block_of p) (rolled_back_in q) has one

    same2 : body_in sh h2 t (block_of p) ≡ body_in sh h1 t (block_of p)
    same2 = body_in_else sh h1 h2 t (block_of p) t (shard_of key) (without_bare (is_bare (slot_in (body_in sh h1 t (block_of p)) (slot_of p))) key p) (has_still sh (body_changed t (block_of p) (rolled_back_in q)) h0 h1 (BodyOf t (block_of p)) one has) two
