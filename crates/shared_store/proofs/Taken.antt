-- Parts that are taken as they are marked.
use Rattle.std.proofs.Common.{◌≡◌, ℕ, zero, suc, ℤ, ◌+◌, ◌*◌, ◌^◌, ◌<◌, ◌≤◌, Bool, true, false, ◌||◌, List, [], ◌∷◌, ◌++◌, Option, None, Some, length, set, take, replicate, refl, sym, ap, subst, ◌∙◌, true≢false, arith}
use Rattle.std.specs.Prelude.{All, get_or, option_to_list, slice_get}
use Rattle.std.specs.List.{list_any}
use Rattle.std.proofs.lemmas.List.{length-map}
use Rattle.core_laws.proofs.Frames.Order.{ascends}
use Rattle.core_parts.proofs.Names.{touching_any}
use Rattle.core_parts.proofs.Numbering.{few_bodies, first_at, from_below, names_length, head_at_number, shard_at_number, body_at_number, desk_at_number}
use Rattle.core_parts.proofs.Placing.{laid_is, laid_other, named_once}
use Rattle.core_parts.proofs.Telling.{block_of_body, table_of_head, table_of_shard}
use Rattle.core_parts.specs.Hands.{in_hand}
use Rattle.core_parts.specs.Keyed.{IsKeyed}
use Rattle.core_parts.specs.Numbers.{after_bodies, first_bodies}
use Rattle.core_parts.specs.Touched.{touched_names}
use Rattle.cell_model.specs.declared.table.TableDecl.{TableDecl}
use Rattle.event_spec.specs.declared.event.Event.TheVariants as event
use Rattle.event_spec.specs.declared.own.OwnTransaction.{OwnTransaction}
use Rattle.event_spec.specs.Effects.{CoreEvent}
use Rattle.event_spec.specs.Newest.{judged_reads}
use Rattle.event_spec.specs.Parts.{BodyOf, CorePart, HeadOf, Name, ShardOf, Shape, TheDesk, held_named, names, same_name, shard_from, shard_of}
use Rattle.event_spec.specs.Replay.{opening_part}
use Rattle.event_spec.specs.Touched.{held_keys, held_places, is_body_of, is_body_written, is_shard_in, passes_test, touched, touched_by_got, touched_by_key, touched_by_range, touched_by_reads, touching}
use Rattle.hall_rule.proofs.Lists.{by_cases, get_set_else}
use Rattle.hall_rule.specs.HallInvariant.{hands_of}
use Rattle.hall_rule.specs.Hands.{Covers, Holds}
use Rattle.hall_steps.proofs.Walking.{Walked, first_room, sees_on, sees_same, took_more, took_none, walk_on}
use Rattle.hall_steps.specs.Hall.{IsPass, Looks, first_of}
use Rattle.isolation_spec.specs.Contents.{at_place, place_at}
use Rattle.isolation_spec.specs.Reads.{ReadSet}
use Rattle.isolation_spec.specs.declared.place.Place.{Place}
use Rattle.isolation_spec.specs.declared.read.KeyRange.{KeyRange}
use Rattle.key_index.specs.Candidates.{candidates_of}
use Rattle.store_laws.specs.Logs.{store_meaning}
use Rattle.shared_store.specs.Making.{Takes}
use Rattle.shared_store.specs.Store.{HandsView, IsAt, SeatView, StoreView, shape_in}
use Rattle.shared_store.specs.Taking.{IsMarked, IsTaken, Marked, StaysTold, TakesMarked, Tells, has_one, is_marked}
use Rattle.shared_store.proofs.Hands.{range_alike}
use Rattle.shared_store.proofs.Made.{taken_event}
use Rattle.shared_store.proofs.Marking.{among_at}

-- ---- numbers

-- a head or a shard
abbrev is_low : Name → Bool
is_low (HeadOf t) = true
is_low (ShardOf t i) = true
is_low (BodyOf t b) = false
is_low TheDesk = false

first_above : (from : ℕ) (tables : List TableDecl) (t start : ℕ) → slice_get (first_bodies from tables) t ≡ Some start → from ≤ start
first_above from [] t start is = cc
first_above from (d ∷ tables) zero start is = let e : from ≡ start = cc in omega (arith, e)
first_above from (d ∷ tables) (suc t) start is = let r = first_above (from + d.blocks) tables t start is in omega (arith, r)

-- what stands below a list's length
pub got : {X : Type 0} (xs : List X) (k : ℕ) → k < length xs → (x : X) × (slice_get xs k ≡ Some x)
got [] k less = absurd (omega (arith, less))
got (x ∷ xs) zero less = (x, refl)
got (x ∷ xs) (suc k) less = got xs k (omega (arith, less))

module _ (sh : Shape) where
  -- heads and shards come first
  low_at : (k : ℕ) (w : Name) → slice_get (names sh) k ≡ Some w → k < 9 * length sh.tables → is_low w ≡ true
  low_at k (HeadOf t) at less = refl
  low_at k (ShardOf t i) at less = refl
  low_at k (BodyOf t b) at less =
      let has = block_of_body sh t b (among_at (names sh) k (BodyOf t b) at) in
      let f = first_at (9 * length sh.tables) sh.tables t has.0 in
      let low = first_above (9 * length sh.tables) sh.tables t f.0 f.1 in
      let same = named_once sh k (f.0 + b) (BodyOf t b) at (body_at_number sh t b f.0 has f.1) in
      absurd (omega (arith, less, low, same))
  low_at k TheDesk at less =
      let low = from_below (9 * length sh.tables) sh.tables in
      let same = named_once sh k (after_bodies (9 * length sh.tables) sh.tables) TheDesk at (desk_at_number sh) in
      absurd (omega (arith, less, low, same))

  -- and then no more
  high_at : (k : ℕ) (w : Name) → slice_get (names sh) k ≡ Some w → 9 * length sh.tables ≤ k → is_low w ≡ false
  high_at k (HeadOf t) at high =
      let has = table_of_head sh t (among_at (names sh) k (HeadOf t) at) in
      let same = named_once sh k t (HeadOf t) at (head_at_number sh t has) in
      absurd (omega (arith, high, has, same))
  high_at k (ShardOf t i) at high =
      let has = table_of_shard sh t i (among_at (names sh) k (ShardOf t i) at) in
      let h = has.0 in let l = has.1 in
      let same = named_once sh k (length sh.tables + (8 * t + i)) (ShardOf t i) at (shard_at_number sh t i has.0 has.1) in
      absurd (omega (arith, high, h, l, same))
  high_at k (BodyOf t b) at high = refl
  high_at k TheDesk at high = refl

  -- which are fewer than all parts
  pub few_low : 9 * length sh.tables + 1 ≤ length (names sh)
  few_low = let low = from_below (9 * length sh.tables) sh.tables in let all = names_length sh in omega (arith, low, all)

  -- of which there are not many
  pub parts_few : length sh.tables ≤ 16 → All (λ (table : TableDecl). table.blocks ≤ 2 ^ 10) sh.tables → length (names sh) ≤ 2 ^ 15
  parts_few few blocks = let low = few_bodies (9 * length sh.tables) sh.tables blocks in let all = names_length sh in omega (arith, few, low, all)

-- what is read of a list is what stands there
pub get_is : (marks : List Bool) (k : ℕ) → is_marked marks k ≡ get_or marks k false
get_is [] zero = refl
get_is [] (suc k) = refl
get_is (x ∷ marks) zero = refl
get_is (x ∷ marks) (suc k) = get_is marks k

-- the first so many of a list that begins with as many
pub take_front : (n : ℕ) (xs ys : List Bool) → length xs ≡ n → take n (xs ++ ys) ≡ xs
take_front n [] ys same = ap (λ k. take k ys) (sym same) ∙ none ys
  where
    none : (ys : List Bool) → take 0 ys ≡ []
    none [] = refl
    none (y ∷ ys) = refl
take_front n (x ∷ xs) ys same = ap (λ k. take k (x ∷ (xs ++ ys))) (sym same) ∙ ap (λ zs. x ∷ zs) (take_front (length xs) xs ys refl)

-- ---- what a commit touches

any_same : {X : Type 0} (f g : X → Bool) (xs : List X) → ((x : X) → f x ≡ g x) → list_any f xs ≡ list_any g xs
any_same f g [] same = refl
any_same f g (x ∷ xs) same = ap (λ b. b || list_any f xs) (same x) ∙ ap (λ b. g x || b) (any_same f g xs same)

module _ (sh : Shape) (one other : List (Option CorePart)) where
  -- reads touch alike where each key and each range does
  reads_same : (n : Name) (o : Option ReadSet)
      → ((p : Place) → touched_by_got sh (held_named (names sh) one) p n ≡ touched_by_got sh (held_named (names sh) other) p n)
      → ((r : KeyRange) → touched_by_range sh (held_named (names sh) one) r n ≡ touched_by_range sh (held_named (names sh) other) r n)
      → touched_by_reads sh (held_named (names sh) one) o n ≡ touched_by_reads sh (held_named (names sh) other) o n
  reads_same n None keys ranges = refl
  reads_same n (Some set) keys ranges =
      ap (λ b. b || list_any (λ range. touched_by_range sh (held_named (names sh) one) range n) set.ranges)
      (any_same (λ p. touched_by_got sh (held_named (names sh) one) p n) (λ p. touched_by_got sh (held_named (names sh) other) p n) set.places keys)
      ∙ ap (λ b. list_any (λ p. touched_by_got sh (held_named (names sh) other) p n) set.places || b)
      (any_same (λ r. touched_by_range sh (held_named (names sh) one) r n) (λ r. touched_by_range sh (held_named (names sh) other) r n) set.ranges ranges)

  commit_same : (own : OwnTransaction) (reads : Option ReadSet) (n : Name)
      → ((p : Place) → touched_by_got sh (held_named (names sh) one) p n ≡ touched_by_got sh (held_named (names sh) other) p n)
      → ((r : KeyRange) → touched_by_range sh (held_named (names sh) one) r n ≡ touched_by_range sh (held_named (names sh) other) r n)
      → touched sh (held_named (names sh) one) (event.Commit own reads) n ≡ touched sh (held_named (names sh) other) (event.Commit own reads) n
  commit_same own reads n keys ranges = ap (λ b. (is_body_written own.writes n || b) || same_name TheDesk n)
      (reads_same n (judged_reads own.writes reads) keys ranges)

-- nothing of a list passes a test that nothing passes
none_passes : {X : Type 0} (xs : List X) → list_any (λ x. false) xs ≡ false
none_passes [] = refl
none_passes (x ∷ xs) = none_passes xs

-- An event touches a name alike for hands that tell the same of it, whichever parts are held.
abbrev Alike : Shape → CoreEvent → List (Option CorePart) → List (Option CorePart) → Name → Type 0
Alike sh e one other w = touched sh (held_named (names sh) one) e w ≡ touched sh (held_named (names sh) other) e w

-- What is told of a name is told of its number.
at_number : (sh : Shape) (e : CoreEvent) (one other : List (Option CorePart)) (k : ℕ) → ((w : Name) → slice_get (names sh) k ≡ Some w → Alike sh e one other w)
    → touching sh e one k ≡ touching sh e other k
at_number sh e one other k same = go (slice_get (names sh) k) refl
  where
    go : (o : Option Name) → slice_get (names sh) k ≡ o → touching sh e one k ≡ touching sh e other k
    go None at = ap (passes_test (touched sh (held_named (names sh) one) e)) at ∙ sym (ap (passes_test (touched sh (held_named (names sh) other) e)) at)
    go (Some w) at = ap (passes_test (touched sh (held_named (names sh) one) e)) at ∙ same w at ∙ sym (ap (passes_test (touched sh (held_named (names sh) other) e)) at)

-- Whether a part is touched that is a head or a shard no hand tells.
pub low_stays : (sh : Shape) (e : CoreEvent) → IsMarked e → StaysTold sh e 0 (9 * length sh.tables)
low_stays sh e marked hand n p k from less low high = at_number sh e (set hand n (Some p)) hand k (λ w at. told w (low_at sh k w at high) e marked)
  where
    -- of a range no body is a head or a shard
    ranged : (w : Name) → is_low w ≡ true → (front : ℤ → List ℕ) (held : Name → Option CorePart) (t : ℕ) (low high : ℤ)
        → (is_shard_in t w || list_any (λ key. is_body_of t (front key ++ held_places sh held t key) w) (held_keys sh held t low high)) ≡ (is_shard_in t w || false)
    ranged (HeadOf u) is front held t low high = ap (λ b. is_shard_in t (HeadOf u) || b) (none_passes (held_keys sh held t low high))
    ranged (ShardOf u i) is front held t low high = ap (λ b. is_shard_in t (ShardOf u i) || b) (none_passes (held_keys sh held t low high))
    ranged (BodyOf u b) is front held t low high = absurd (true≢false (sym is))
    ranged TheDesk is front held t low high = absurd (true≢false (sym is))

    got : (w : Name) → is_low w ≡ true → (q : Place) → touched_by_got sh (held_named (names sh) (set hand n (Some p))) q w ≡ touched_by_got sh (held_named (names sh) hand) q w
    got (HeadOf u) is q = refl
    got (ShardOf u i) is q = refl
    got (BodyOf u b) is q = absurd (true≢false (sym is))
    got TheDesk is q = absurd (true≢false (sym is))

    told : (w : Name) → is_low w ≡ true → (e : CoreEvent) → IsMarked e → Alike sh e (set hand n (Some p)) hand w
    told w is (event.Range own t low high) marked =
        ranged w is (λ key. option_to_list (at_place own.writes (place_at t key))) (held_named (names sh) (set hand n (Some p))) t low high
        ∙ sym (ranged w is (λ key. option_to_list (at_place own.writes (place_at t key))) (held_named (names sh) hand) t low high)
    told w is (event.Commit own reads) marked = commit_same sh (set hand n (Some p)) hand own reads w (got w is)
        (λ r. ranged w is (λ key. []) (held_named (names sh) (set hand n (Some p))) r.table r.low r.high
        ∙ sym (ranged w is (λ key. []) (held_named (names sh) hand) r.table r.low r.high))
    told w is (event.Begin session) marked = absurd marked
    told w is (event.Get own t key) marked = absurd marked
    told w is (event.Insert own t row) marked = absurd marked
    told w is (event.Update own t row) marked = absurd marked
    told w is (event.Delete own t key) marked = absurd marked
    told w is (event.Read own t b) marked = absurd marked
    told w is (event.Abort own) marked = absurd marked
    told w is event.Oldest marked = absurd marked
    told w is (event.Observe t b) marked = absurd marked
    told w is (event.Prune t b oldest) marked = absurd marked
    told w is (event.Look t b) marked = absurd marked
    told w is (event.Move t moves) marked = absurd marked
    told w is (event.Seal t b) marked = absurd marked
    told w is (event.Image t b image) marked = absurd marked
    told w is (event.Thaw t b) marked = absurd marked

-- What bodies and the desk tell is the same with one more of them.
pub high_stays : (sh : Shape) (e : CoreEvent) → IsMarked e → StaysTold sh e (9 * length sh.tables) (length (names sh))
high_stays sh e marked hand n p k from less low high = at_number sh e (set hand n (Some p)) hand k (λ w at. told w e marked)
  where
    other : (w : Name) (t i : ℕ) → is_low w ≡ false → same_name w (ShardOf t i) ≡ false
    other (HeadOf t') t i is = absurd (true≢false is)
    other (ShardOf t' j) t i is = absurd (true≢false is)
    other (BodyOf t' b) t i is = refl
    other TheDesk t i is = refl

    shard : (t i : ℕ) → held_named (names sh) (set hand n (Some p)) (ShardOf t i) ≡ held_named (names sh) hand (ShardOf t i)
    shard t i =
        let w = got (names sh) n less in
        ap (λ h. held_named (names sh) h (ShardOf t i)) (laid_is (names sh) hand w.0 n (Some p) (named_once sh) w.1)
        ∙ laid_other (names sh) hand w.0 (ShardOf t i) (Some p) (other w.0 t i (high_at sh n w.0 w.1 from))

    told : (w : Name) (e : CoreEvent) → IsMarked e → Alike sh e (set hand n (Some p)) hand w
    told w (event.Range own t low high) marked =
        range_alike sh (held_named (names sh) (set hand n (Some p))) (held_named (names sh) hand) (λ key. option_to_list (at_place own.writes (place_at t key))) t low high w (shard t)
    told w (event.Commit own reads) marked = commit_same sh (set hand n (Some p)) hand own reads w
        (λ q. ap (λ x. touched_by_key q.table q.key (candidates_of (shard_from x) q.key) w) (shard q.table (shard_of q.key)))
        (λ r. range_alike sh (held_named (names sh) (set hand n (Some p))) (held_named (names sh) hand) (λ key. []) r.table r.low r.high w (shard r.table))
    told w (event.Begin session) marked = absurd marked
    told w (event.Get own t key) marked = absurd marked
    told w (event.Insert own t row) marked = absurd marked
    told w (event.Update own t row) marked = absurd marked
    told w (event.Delete own t key) marked = absurd marked
    told w (event.Read own t b) marked = absurd marked
    told w (event.Abort own) marked = absurd marked
    told w event.Oldest marked = absurd marked
    told w (event.Observe t b) marked = absurd marked
    told w (event.Prune t b oldest) marked = absurd marked
    told w (event.Look t b) marked = absurd marked
    told w (event.Move t moves) marked = absurd marked
    told w (event.Seal t b) marked = absurd marked
    told w (event.Image t b image) marked = absurd marked
    told w (event.Thaw t b) marked = absurd marked

-- ---- the marks tell it

no_mark : (n k : ℕ) → is_marked (replicate n false) k ≡ false
no_mark zero k = refl
no_mark (suc n) zero = refl
no_mark (suc n) (suc k) = no_mark n k

pub marks_tell : (sh : Shape) (e : CoreEvent) (hand : List (Option CorePart)) (none marks : List Bool) (from to : ℕ) → IsKeyed e → none ≡ replicate (length (names sh)) false
    → Marked sh (touched_names sh (in_hand sh hand) e) none marks → to ≤ length none → Tells sh e marks from to hand
marks_tell sh e hand none marks from to keyed is marked within k low high =
    marked.marks k (omega (arith, within, high)) ∙ ap (λ b. b || has_one sh (touched_names sh (in_hand sh hand) e) k) (ap (λ ms. is_marked ms k) is ∙ no_mark (length (names sh)) k)
    ∙ touching_any sh hand e keyed k

-- the marks of one shape and one hand, as they are
pub marked_by : (sh sh' : Shape) (e e' : CoreEvent) (hand hand' : List (Option CorePart)) (none none' marks marks' : List Bool)
    → sh' ≡ sh → e' ≡ e → hand' ≡ hand → none' ≡ none → marks' ≡ marks
    → Marked sh' (touched_names sh' (in_hand sh' hand') e') none' marks → Marked sh (touched_names sh (in_hand sh hand) e) none marks'
marked_by sh sh' e e' hand hand' none none' marks marks' shape event held unmarked same is =
    subst (λ ms. Marked sh (touched_names sh (in_hand sh hand) e) none ms) (sym same)
    (subst (λ ms. Marked sh (touched_names sh (in_hand sh hand) e) ms marks) unmarked
    (subst (λ h. Marked sh (touched_names sh (in_hand sh h) e) none' marks) held
    (subst (λ x. Marked sh (touched_names sh (in_hand sh hand') x) none' marks) event
    (subst (λ s. Marked s (touched_names s (in_hand s hand') e') none' marks) shape is))))

-- ---- taking

-- nothing is taken yet
pub taking_starts : (store : StoreView) (s : SeatView) (hands : HandsView) (marks : List Bool) (from to : ℕ) → IsPass (store_meaning (shape_in store)) store.id s hands
    → ((k : ℕ) → Holds (first_of hands) k → k < from) → TakesMarked store s s hands hands marks from from to
taking_starts store s hands marks from to pass below = record {
  pass = pass;
  same = (refl, refl);
  below = below;
  sees = λ v x. x;
  took = λ v x. x;
  taken = λ e stays tells taken. (tells, taken);
}

-- the pass has as many hands as before
pub taking_hands : (store : StoreView) (s t : SeatView) (hands later : HandsView) (marks : List Bool) (from at to : ℕ) → TakesMarked store s t hands later marks from at to
    → hands_of s.me.0 ≡ 1 → hands_of t.me.0 ≡ 1
taking_hands store s t hands later marks from at to so one =
    ap (λ (qs : List ℕ). length qs) (so.sees s.me.0 (sees_same (store_meaning (shape_in store)) s.me.0)).sessions ∙ one

-- and for each part a place
pub taking_room : (store : StoreView) (s : SeatView) (hands : HandsView) → IsPass (store_meaning (shape_in store)) store.id s hands → hands_of s.me.0 ≡ 1
    → length (first_of hands) ≡ length (names (shape_in store))
taking_room store s hands pass one =
    first_room (store_meaning (shape_in store)) store.id s hands pass (omega (arith, one))
    ∙ length-map (names (shape_in store)) (opening_part (shape_in store))

module _ (store : StoreView) (s t : SeatView) (hands later : HandsView) (marks : List Bool) (from at to : ℕ) (so : TakesMarked store s t hands later marks from at to) (less : at < to) where
  -- a part that is not marked is passed over
  pub taking_passed : is_marked marks at ≡ false → TakesMarked store s t hands later marks from (at + 1) to
  taking_passed none = record {
    pass = so.pass;
    same = so.same;
    below = λ k held. let b = so.below k held in omega (arith, b);
    sees = so.sees;
    took = so.took;
    taken = λ e stays tells taken. let r = so.taken e stays tells taken in (
      λ k low high. r.0 k (omega (arith, low)) high,
      record {
        below = λ k held. let b = r.1.below k held in omega (arith, b);
        only = r.1.only;
        covered = λ k up touched. by_cases k at (Holds (first_of later) k)
            (λ same. absurd (true≢false (sym touched ∙ ap (touching (shape_in store) e (first_of later)) same ∙ sym (r.0 at (omega arith) less) ∙ none)))
            (λ ne. r.1.covered k (omega (arith, up, ne)) touched);
      },
    );
  }

  -- one that is marked is taken
  pub taking_took : (u : SeatView) (last : HandsView) → from ≤ at → is_marked marks at ≡ true → IsPass (store_meaning (shape_in store)) store.id u last → Looks (store_meaning (shape_in store)) t u
      → (p : CorePart) × (first_of last ≡ set (first_of later) at (Some p)) → u.me.0.taken ≡ t.me.0.taken ++ at ∷ [] → at < length (first_of later)
      → TakesMarked store s u hands last marks from (at + 1) to
  taking_took u last above marked pass looks hand taken room = record {
    pass = pass;
    same = (looks.0.0 ∙ so.same.0, looks.0.1 ∙ so.same.1);
    below = below;
    sees = λ v x. sees_on (store_meaning (shape_in store)) t.id v t.me.0 u.me.0 (so.sees v x) looks.1;
    took = λ v x. took_more (first_of later) (first_of last) v t.me.0 u.me.0 at hand.0 room hand.1 (so.took v x) taken;
    taken = λ e stays tells was. more e stays (so.taken e stays tells was);
  }
    where
      sh : Shape
      sh = shape_in store

      below : (k : ℕ) → Holds (first_of last) k → k < at + 1
      below k held = by_cases k at (k < at + 1) (λ e. omega (arith, e))
          (λ ne. let b = so.below k (held.0, sym (get_set_else (first_of later) at k (Some hand.0) ne) ∙ ap (λ (h : List (Option CorePart)). slice_get h k) (sym hand.1) ∙ held.1) in omega (arith, b))

      more : (e : CoreEvent) → StaysTold sh e from to → Tells sh e marks at to (first_of later) × IsTaken sh e at (first_of later)
          → Tells sh e marks (at + 1) to (first_of last) × IsTaken sh e (at + 1) (first_of last)
      more e stays r = (
        λ k low high. r.0 k (omega (arith, low)) high ∙ sym (stays (first_of later) at hand.0 k above less (omega (arith, low, above)) high) ∙ ap (λ h. touching sh e h k) (sym hand.1),
        record { below = walked.below; only = walked.only; covered = walked.covered },
      )
        where
          walked : Walked (touching sh e) (at + 1) (first_of last)
          walked = walk_on (touching sh e) (λ one other k same. ascends sh e one other k same) at at (first_of later) (first_of last) hand.0
              (record { below = r.1.below; only = r.1.only; covered = r.1.covered })
              (omega arith, room, sym (r.0 at (omega arith) less) ∙ marked, λ k low high. absurd (omega (arith, low, high))) hand.1

-- ---- a commit or a range

-- Its shards were taken as they are marked, and then its bodies and the desk.
module _ (store : StoreView) (s t u : SeatView) (hands mid later : HandsView) (low high none : List Bool) (e : CoreEvent) (bodies to : ℕ)
    (keyed : IsKeyed e) (is_marked : IsMarked e) (first : bodies ≡ 9 * length (shape_in store).tables) (last : to ≡ length (names (shape_in store)))
    (empty : (k : ℕ) → Holds (first_of hands) k → ⊥) (one : hands_of s.me.0 ≡ 1) (above : bodies ≤ to)
    (is_none : none ≡ replicate (length (names (shape_in store))) false) (room : length none ≡ length (names (shape_in store)))
    (lows : Marked (shape_in store) (touched_names (shape_in store) (in_hand (shape_in store) (first_of hands)) e) none low)
    (highs : Marked (shape_in store) (touched_names (shape_in store) (in_hand (shape_in store) (first_of mid)) e) none high)
    (shards : TakesMarked store s t hands mid low 0 bodies bodies) (rest : TakesMarked store t u mid later high bodies to to)
  where
    abbrev sh : Shape
    sh = shape_in store

    -- before any part was taken
    starts : IsTaken sh e 0 (first_of hands)
    starts = record {
      below = λ k held. absurd (empty k held);
      only = λ k held. absurd (empty k held);
      covered = λ k up touched. absurd (omega (arith, up));
    }

    halfway : IsTaken sh e bodies (first_of mid)
    halfway = (shards.taken e (subst (StaysTold sh e 0) (sym first) (low_stays sh e is_marked))
        (marks_tell sh e (first_of hands) none low 0 bodies keyed is_none lows (omega (arith, above, last, room))) starts).1

    whole : IsTaken sh e to (first_of later)
    whole = (rest.taken e (subst (λ n. StaysTold sh e n to) (sym first) (subst (StaysTold sh e (9 * length sh.tables)) (sym last) (high_stays sh e is_marked)))
        (marks_tell sh e (first_of mid) none high bodies to keyed is_none highs (omega (arith, last, room))) halfway).1

    pub marks_cover : Covers (touching sh e) (first_of later)
    marks_cover k less touched =
        let r = taking_room store u later rest.pass (taking_hands store t u mid later high bodies to to rest (taking_hands store s t hands mid low 0 bodies bodies shards one)) in
        whole.covered k (omega (arith, less, r, last)) touched

    pub marks_only : (k : ℕ) → Holds (first_of later) k → touching sh e (first_of later) k ≡ true
    marks_only k held = whole.only k held

    pub marks_take : (session : ℕ) (open' : Option OwnTransaction) → IsAt store session s hands open' → Takes store session s u later open' e
    marks_take session open' at' =
        taken_event store s u hands later e rest.pass (rest.same.0 ∙ shards.same.0, rest.same.1 ∙ shards.same.1)
        (rest.sees s.me.0 (shards.sees s.me.0 (sees_same (store_meaning sh) s.me.0)))
        session open' at'.within marks_cover marks_only
        (rest.took s.me.0 (shards.took s.me.0 (took_none (first_of hands) s.me.0)))
